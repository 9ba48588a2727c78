-- The command line, as clap's definition of it.
use Rattle.std.specs.Prelude.{◌≡◌, ℕ, zero, suc, ◌≤◌, ◌^◌, codes, Option, Some, None, Result, Ok, Err, Bool, true, false, List, [], ◌∷◌, map, option_map, if◌then◌else◌}
use Rattle.std.specs.Option.{option_and_then}
use Rattle.std.specs.Str.{bytes_eq}
use Rattle.clap.specs.declared.builder.Command.{Command}
use Rattle.clap.specs.declared.builder.Command.TheViews.{out-Command}
use Rattle.clap.specs.Words.{App, Row, Rule, Text, all_of, app_of, fault_of, first_of, new_app, new_rule, subcommand_of, with_rule, with_subcommand}
use Rattle.clap.specs.declared.builder.action.ArgAction.TheVariants.{Append, SetTrue}
use Rattle.fib_addr.specs.Text.{number_below}
use Rattle.printed_text.specs.declared.kind.Kind.{Kind}
use Rattle.printed_text.specs.declared.kind.Kind.TheVariants.{Route, Table, Least}
use Rattle.fib_words.specs.declared.RunWords.{RunWords}
use Rattle.fib_words.specs.declared.SameWords.{SameWords}
use Rattle.fib_words.specs.declared.SaveWords.{SaveWords}
use Rattle.fib_words.specs.declared.MovesWords.{MovesWords}
use Rattle.fib_words.specs.declared.CheckMovesWords.{CheckMovesWords}
use Rattle.fib_words.specs.declared.SizesWords.{SizesWords}
use Rattle.fib_words.specs.declared.StepsWords.{StepsWords}
use Rattle.fib_words.specs.declared.CommandWords.{CommandWords}
use Rattle.fib_words.specs.declared.CommandWords.TheVariants as code
use Rattle.fib_words.specs.declared.WordsError.{WordsError}
use Rattle.fib_words.specs.declared.WordsError.TheVariants.{Usage, NoMemory}

-- a word that has to be there
abbrev pub word_rule : List ℕ → Rule
word_rule id = record (new_rule id) { required = true }

-- a word that may be there
abbrev pub spare_rule : List ℕ → Rule
spare_rule id = new_rule id

-- a word that has to be there and may stand several times
abbrev pub several_rule : List ℕ → Rule
several_rule id = record (new_rule id) { required = true; action = Some Append }

-- an option with a value
abbrev pub option_rule : List ℕ → Rule
option_rule id = record (new_rule id) { long = Some id }

-- an option with a value, which has to be there
abbrev pub due_option_rule : List ℕ → Rule
due_option_rule id = record (new_rule id) { long = Some id; required = true }

-- a flag: an option without a value
abbrev pub flag_rule : List ℕ → Rule
flag_rule id = record (new_rule id) { long = Some id; action = Some SetTrue }

-- the command with the sizes of a trie: `[--direct S] [--nodes N] [--leaves N]`
abbrev pub sized_app : App → App
sized_app app = with_rule (with_rule (with_rule app (option_rule (codes "direct"))) (option_rule (codes "nodes"))) (option_rule (codes "leaves"))

-- the command with what decides the changes of a kept table: `[--every K] [--fewest] [--steady]`
abbrev pub changing_app : App → App
changing_app app = with_rule (with_rule (with_rule app (option_rule (codes "every"))) (flag_rule (codes "fewest"))) (flag_rule (codes "steady"))

-- `run DUMP [--updates F] [--ask F] [--vrps F] [--every K] [--fewest] [--steady] [--direct S] [--nodes N] [--leaves N]`
abbrev pub run_app : App
run_app = sized_app (changing_app (with_rule (with_rule (with_rule (with_rule (new_app (codes "run")) (word_rule (codes "dump"))) (option_rule (codes "updates"))) (option_rule (codes "ask"))) (option_rule (codes "vrps"))))

-- `check PRINTED`
abbrev pub check_app : App
check_app = with_rule (new_app (codes "check")) (word_rule (codes "printed"))

-- `make N --seed X`
abbrev pub make_app : App
make_app = with_rule (with_rule (new_app (codes "make")) (word_rule (codes "routes"))) (due_option_rule (codes "seed"))

-- `steps DUMP UPDATES SCRIPT [--direct S] [--nodes N] [--leaves N]`
abbrev pub steps_app : App
steps_app = sized_app (with_rule (with_rule (with_rule (new_app (codes "steps")) (word_rule (codes "dump"))) (word_rule (codes "updates"))) (word_rule (codes "script")))

-- `same FIRST REST.. [--rows route|table|least]`
abbrev pub same_app : App
same_app = with_rule (with_rule (with_rule (new_app (codes "same")) (word_rule (codes "first"))) (several_rule (codes "rest"))) (option_rule (codes "rows"))

-- `save DUMP [--updates F]`
abbrev pub save_app : App
save_app = with_rule (with_rule (new_app (codes "save")) (word_rule (codes "dump"))) (option_rule (codes "updates"))

-- `moves ROUTER PRINTED [MOVES] [--check] [--steady]`
abbrev pub moves_app : App
moves_app = with_rule (with_rule (with_rule (with_rule (with_rule (new_app (codes "moves")) (word_rule (codes "router"))) (word_rule (codes "printed"))) (spare_rule (codes "moves"))) (flag_rule (codes "check"))) (flag_rule (codes "steady"))

-- a command has to be there
abbrev pub with_commands : App → App
with_commands app = record { top = record app.top { subcommand_required = true }; subs = app.subs }

-- `fib`, with no command under it yet
abbrev pub bare_app : App
bare_app = with_commands (new_app (codes "fib"))

-- `fib COMMAND`
abbrev pub fib_app : App
fib_app = with_subcommand (with_subcommand (with_subcommand (with_subcommand (with_subcommand (with_subcommand (with_subcommand bare_app run_app.top) check_app.top) make_app.top) steps_app.top) same_app.top) save_app.top) moves_app.top

-- ---- what the words name

-- The inputs of a run; how many elementary events of the updates a snapshot follows, and 0 is never; whether each event makes the
-- fewest changes; whether changes come in steady order; and of each family's trie the direct bits and the orders of its arenas of nodes and of leaves.
pub record Named : Type 0 where
  pub dump : Text
  pub updates : Option Text
  pub asks : Option Text
  pub vrps : Option Text
  pub every : ℕ
  pub fewest : Bool
  pub steady : Bool
  pub direct : ℕ
  pub nodes : ℕ
  pub leaves : ℕ

-- The inputs of a run in steps, and of each family's trie the direct bits and the orders of its arenas of nodes and of leaves.
pub record NamedSteps : Type 0 where
  pub dump : Text
  pub updates : Text
  pub script : Text
  pub direct : ℕ
  pub nodes : ℕ
  pub leaves : ℕ

-- The texts that are compared, the first of them first, and which rows of them.
pub record NamedSame : Type 0 where
  pub first : Text
  pub rest : List Text
  pub rows : Kind

-- The inputs whose candidates are saved.
pub record NamedSave : Type 0 where
  pub dump : Text
  pub updates : Option Text

-- The text with the table that a router has, and the one with the routes that it is to forward as; and whether the changes come in steady order.
pub record NamedMoves : Type 0 where
  pub router : Text
  pub printed : Text
  pub steady : Bool

-- The same two texts, and the one with the changes and the rows that are to prove that no fewer would do.
pub record NamedCheckMoves : Type 0 where
  pub router : Text
  pub printed : Text
  pub moves : Text

-- of each family's trie the direct bits and the orders of its arenas of nodes and of leaves
pub record NamedSizes : Type 0 where
  pub direct : ℕ
  pub nodes : ℕ
  pub leaves : ℕ

-- the number below a bound that the word after an option writes, in decimal without a sign and without leading zeros; the usual one if there is no such word
abbrev pub number_or : ℕ → ℕ → Option Text → Option ℕ
number_or usual bound None = Some usual
number_or usual bound (Some word) = number_below bound word

-- a number that isn't 0
abbrev pub from_one : ℕ → Option ℕ
from_one zero = None
from_one (suc n) = Some (suc n)

abbrev pub is_empty : {A : Type 0} → List A → Bool
is_empty [] = true
is_empty (x ∷ xs) = false

-- whether clap's definition takes the words
abbrev pub takes : List Text → Bool
takes words = is_empty (fault_of fib_app words)

-- what is read from a value, if there is one
infixl 10 ◌>>=◌
abbrev ◌>>=◌ : {A B : Type 0} → Option A → (A → Option B) → Option B
o >>= f = option_and_then f o

-- the sizes of a trie: direct bits to 18, orders to 24 and 26
abbrev pub sizes_with : Option Text → Option Text → Option Text → Option NamedSizes
sizes_with direct nodes leaves = do
  s ← number_or 16 19 direct
  n ← number_or 16 25 nodes
  l ← number_or 18 27 leaves
  Some (record { direct = s; nodes = n; leaves = l })

abbrev pub sizes_by : List Row → Option NamedSizes
sizes_by rows = sizes_with (first_of (codes "direct") rows) (first_of (codes "nodes") rows) (first_of (codes "leaves") rows)

-- whether a flag stands: clap gives it the word `true`, and else another
abbrev pub is_on : Option Text → Bool
is_on None = false
is_on (Some word) = bytes_eq word (codes "true")

-- a run with these names and sizes, if it names a dump and its snapshots are a number from 0 to 2^32 - 1
abbrev pub named_with : Option Text → Option Text → Option Text → Option Text → Option Text → Option Text → Option Text → Option NamedSizes → Option Named
named_with dump updates asks vrps every fewest steady sizes = do
  d ← dump
  k ← number_or 0 (2 ^ 32) every
  z ← sizes
  Some (record { dump = d; updates = updates; asks = asks; vrps = vrps; every = k; fewest = is_on fewest; steady = is_on steady; direct = z.direct; nodes = z.nodes; leaves = z.leaves })

abbrev pub named_by : List Row → Option Named
named_by rows = named_with (first_of (codes "dump") rows) (first_of (codes "updates") rows) (first_of (codes "ask") rows) (first_of (codes "vrps") rows) (first_of (codes "every") rows) (first_of (codes "fewest") rows) (first_of (codes "steady") rows) (sizes_by rows)

-- a run in steps with these names and sizes, if it names a dump, updates and a script
abbrev pub steps_with : Option Text → Option Text → Option Text → Option NamedSizes → Option NamedSteps
steps_with dump updates script sizes = do
  d ← dump
  u ← updates
  s ← script
  z ← sizes
  Some (record { dump = d; updates = u; script = s; direct = z.direct; nodes = z.nodes; leaves = z.leaves })

abbrev pub steps_by : List Row → Option NamedSteps
steps_by rows = steps_with (first_of (codes "dump") rows) (first_of (codes "updates") rows) (first_of (codes "script") rows) (sizes_by rows)

-- the kind of rows of a name: `route`, `table` or `least`
abbrev pub kind_named : Text → Option Kind
kind_named word = if bytes_eq word (codes "route") then Some Route else (if bytes_eq word (codes "table") then Some Table else (if bytes_eq word (codes "least") then Some Least else None))

-- the tables, unless an option names a kind
abbrev pub kind_or : Option Text → Option Kind
kind_or None = Some Table
kind_or (Some word) = kind_named word

-- a comparison of these texts, if there is a first one and there are others
abbrev pub same_with : Option Text → Option (List Text) → Option Text → Option NamedSame
same_with first rest rows = do
  f ← first
  r ← rest
  k ← kind_or rows
  Some (record { first = f; rest = r; rows = k })

abbrev pub same_by : List Row → Option NamedSame
same_by rows = same_with (first_of (codes "first") rows) (all_of (codes "rest") rows) (first_of (codes "rows") rows)

-- a checkpoint of these inputs, if they name a dump
abbrev pub save_with : Option Text → Option Text → Option NamedSave
save_with dump updates = do
  d ← dump
  Some (record { dump = d; updates = updates })

abbrev pub save_by : List Row → Option NamedSave
save_by rows = save_with (first_of (codes "dump") rows) (first_of (codes "updates") rows)

-- A run; the check of a printed text; a run on n routes that are made from a seed; a run in steps; a comparison of printed texts; a checkpoint; what a router must change; or the check of what it was told to change
pub data Asked : Type 0 where
  Run : Named → Asked
  Check : Text → Asked
  Make : ℕ → ℕ → Asked
  Steps : NamedSteps → Asked
  Same : NamedSame → Asked
  Save : NamedSave → Asked
  Moves : NamedMoves → Asked
  CheckMoves : NamedCheckMoves → Asked

-- n routes, from 1 to 200,000, made from a seed below 2^64
abbrev pub made_with : Option Text → Option Text → Option Asked
made_with routes seed = do
  r ← routes
  n ← option_and_then from_one (number_below 200001 r)
  s ← seed
  x ← number_below (2 ^ 64) s
  Some (Make n x)

abbrev pub made_by : List Row → Option Asked
made_by rows = made_with (first_of (codes "routes") rows) (first_of (codes "seed") rows)

-- What a router must change, or the check of a third text with such changes: the flag of a check and a third text stand together or not at all, and a check has no order to write changes in.
abbrev pub moves_asked : Text → Text → Option Text → Bool → Bool → Option Asked
moves_asked router printed None false steady = Some (Moves (record { router = router; printed = printed; steady = steady }))
moves_asked router printed None true steady = None
moves_asked router printed (Some moves) false steady = None
moves_asked router printed (Some moves) true false = Some (CheckMoves (record { router = router; printed = printed; moves = moves }))
moves_asked router printed (Some moves) true true = None

abbrev pub moves_with : Option Text → Option Text → Option Text → Option Text → Option Text → Option Asked
moves_with router printed moves check steady = do
  r ← router
  p ← printed
  moves_asked r p moves (is_on check) (is_on steady)

abbrev pub moves_by : List Row → Option Asked
moves_by rows = moves_with (first_of (codes "router") rows) (first_of (codes "printed") rows) (first_of (codes "moves") rows) (first_of (codes "check") rows) (first_of (codes "steady") rows)

-- what a command with its names asks for
abbrev pub asked_in : Text × List Row → Option Asked
asked_in entered =
    if bytes_eq entered.0 (codes "run") then option_map Run (named_by entered.1)
    else (if bytes_eq entered.0 (codes "check") then option_map Check (first_of (codes "printed") entered.1)
    else (if bytes_eq entered.0 (codes "make") then made_by entered.1
    else (if bytes_eq entered.0 (codes "steps") then option_map Steps (steps_by entered.1)
    else (if bytes_eq entered.0 (codes "same") then option_map Same (same_by entered.1)
    else (if bytes_eq entered.0 (codes "save") then option_map Save (save_by entered.1)
    else (if bytes_eq entered.0 (codes "moves") then moves_by entered.1 else None))))))

-- what the words ask for, if the definition takes them
unfoldable pub command_of : List Text → Option Asked
command_of words = if takes words then option_and_then asked_in (subcommand_of fib_app words) else None

-- ---- what a clause sees

-- what is named, without where it lies in memory
abbrev pub named_as : RunWords → Named
named_as run = record { dump = run.dump.now; updates = option_map (λ name. name.now) run.updates; asks = option_map (λ name. name.now) run.asks; vrps = option_map (λ name. name.now) run.vrps; every = run.every; fewest = run.fewest; steady = run.steady; direct = run.direct; nodes = run.nodes; leaves = run.leaves }

abbrev pub named_sizes_as : SizesWords → NamedSizes
named_sizes_as sizes = record { direct = sizes.direct; nodes = sizes.nodes; leaves = sizes.leaves }

abbrev pub steps_as : StepsWords → NamedSteps
steps_as steps = record { dump = steps.dump.now; updates = steps.updates.now; script = steps.script.now; direct = steps.direct; nodes = steps.nodes; leaves = steps.leaves }

abbrev pub same_as : SameWords → NamedSame
same_as same = record { first = same.first.now; rest = map (λ name. name.now) same.rest.items; rows = same.rows }

abbrev pub save_as : SaveWords → NamedSave
save_as save = record { dump = save.dump.now; updates = option_map (λ name. name.now) save.updates }

abbrev pub named_moves : MovesWords → NamedMoves
named_moves moves = record { router = moves.router.now; printed = moves.printed.now; steady = moves.steady }

abbrev pub check_moves_as : CheckMovesWords → NamedCheckMoves
check_moves_as check = record { router = check.router.now; printed = check.printed.now; moves = check.moves.now }

abbrev pub asked_as : CommandWords → Asked
asked_as (code.Run run) = Run (named_as run)
asked_as (code.Check printed) = Check printed.now
asked_as (code.Make made) = Make made.routes made.seed
asked_as (code.Steps steps) = Steps (steps_as steps)
asked_as (code.Same same) = Same (same_as same)
asked_as (code.Save save) = Save (save_as save)
asked_as (code.Moves moves) = Moves (named_moves moves)
asked_as (code.CheckMoves check) = CheckMoves (check_moves_as check)

-- the sizes are no greater than they may be
abbrev pub AreSizes : SizesWords → Type 0
AreSizes sizes = (sizes.direct ≤ 18) × (sizes.nodes ≤ 24) × (sizes.leaves ≤ 26)

-- the numbers are no greater than they may be
abbrev pub AreWithinLimits : CommandWords → Type 0
AreWithinLimits (code.Run run) = (run.direct ≤ 18) × (run.nodes ≤ 24) × (run.leaves ≤ 26)
AreWithinLimits (code.Check printed) = Unit {0}
AreWithinLimits (code.Make made) = (1 ≤ made.routes) × (made.routes ≤ 200000)
AreWithinLimits (code.Steps steps) = (steps.direct ≤ 18) × (steps.nodes ≤ 24) × (steps.leaves ≤ 26)
AreWithinLimits (code.Same same) = Unit {0}
AreWithinLimits (code.Save save) = Unit {0}
AreWithinLimits (code.Moves moves) = Unit {0}
AreWithinLimits (code.CheckMoves check) = Unit {0}

-- what a reading of words returned is what the words ask for, unless memory ran out
abbrev pub IsCommand : Result CommandWords WordsError → Option Asked → Type 0
IsCommand (Ok command) asked = asked ≡ Some (asked_as command)
IsCommand (Err Usage) asked = asked ≡ None
IsCommand (Err NoMemory) asked = Unit {0}

-- no argument of the command is for its subcommands too
abbrev pub IsLocal : Command → Type 0
IsLocal c = (out-Command c).has_globals ≡ false

-- the command is this one
pub record HasApp (c : Command) (app : App) : Type 0 where
  pub same : app_of c ≡ app
  pub local : IsLocal c
