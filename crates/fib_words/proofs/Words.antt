-- What clap answers, and the definition of the command line.
use Rattle.std.proofs.Common.{◌≡◌, ℕ, ◌^◌, true, false, cond, List, [], ◌∷◌, Option, Some, None, Result, Err, IfOk, refl, sym, ap, ◌∙◌, subst, inl, inr, codes}
use Rattle.std.specs.Prelude.{◌≢◌, Bool, option_map, Box}
use Rattle.std.specs.Option.{option_and_then}
use Rattle.std.specs.Str.{bytes_eq}
use Rattle.std.specs.Box.{box_value}
use Rattle.clap.specs.Kinds.{HasKind, IsAmong}
use Rattle.clap.specs.Matches.{found_of, matched_of, raw_values, subcommand_name_of}
use Rattle.clap.specs.Simple.{subcommand_rows}
use Rattle.clap.specs.Words.{App, Row, Text, HasMatchesOf, fault_of, first_of, first_value, is_simple, is_simple_and_free, kind_of, app_of, rows_of, subcommand_of, subcommand_rows_of, with_subcommand}
use Rattle.clap.specs.declared.builder.Command.{Command}
use Rattle.clap.specs.declared.error.Error.{Error}
use Rattle.clap.specs.declared.error.ErrorKind.TheVariants.{OutOfMemory}
use Rattle.clap.specs.declared.parser.matches.ArgMatches.{ArgMatches}
use Rattle.clap.specs.declared.parser.matches.ArgMatches.TheViews.{out-ArgMatches, out-SubCommand}
use Rattle.clap.specs.declared.parser.matches.SubCommand.{SubCommand}
use Rattle.clap.proofs.WalkLemmas.{first_value-rows, raw_values-rows}
use Rattle.clap.proofs.OnLiterals.{clap_on_literals}
use Rattle.fib_addr.specs.Text.{number_below}
use Rattle.printed_text.specs.declared.kind.Kind.{Kind}
use Rattle.fib_words.specs.declared.WordsError.{WordsError}
use Rattle.fib_words.specs.declared.WordsError.TheVariants.{Usage, NoMemory}
use Rattle.fib_words.specs.Commands.{Asked, Named, NamedSame, NamedSizes, HasApp, fib_app, takes, is_empty, is_on, Run, Check, Steps, asked_in, named_by, named_with, number_or, made_by, made_with, Make, Same, Save, same_by, same_with, save_by, save_with, moves_asked, moves_by, moves_with, from_one, kind_or, sizes_by, sizes_with, steps_by, steps_with, command_of, IsCommand}

fib_free : is_simple_and_free fib_app ≡ true
unfolding clap_on_literals
fib_free = refl

fib_simple : is_simple fib_app ≡ true
unfolding clap_on_literals
fib_simple = refl

-- ---- the commands, one under the other

under : (a b c d : App) → a ≡ with_subcommand b c.top → b ≡ d → (e : App) → c ≡ e → a ≡ with_subcommand d e.top
under a b c d is same e inner = is ∙ (ap (λ x. with_subcommand x c.top) same ∙ ap (λ x. with_subcommand d x.top) inner)

-- two commands more under one
pub two_under : (c first second one two : Command) (d one_app two_app : App) → HasApp c d → HasApp one one_app → HasApp two two_app → HasApp first (with_subcommand (app_of c) (app_of one).top) → HasApp second (with_subcommand (app_of first) (app_of two).top)
    → HasApp second (with_subcommand (with_subcommand d one_app.top) two_app.top)
two_under c first second one two d one_app two_app at_c at_one at_two at_first at_second = record {
  same = under _ _ _ _ at_second.same (under _ _ _ _ at_first.same at_c.same _ at_one.same) _ at_two.same;
  local = at_second.local;
}

pub last_under : {E : Type 0} (r : Result Command E) (c one : Command) (d one_app : App) → HasApp c d → HasApp one one_app → IfOk r (λ second. HasApp second (with_subcommand (app_of c) (app_of one).top)) → IfOk r (λ second. HasApp second (with_subcommand d one_app.top))
last_under r c one d one_app at_c at_one ok = subst (λ app. IfOk r (λ second. HasApp second app)) (under _ _ _ _ refl at_c.same _ at_one.same) ok

-- ---- what clap refuses is no command

not_taken : (words : List Text) → fault_of fib_app words ≢ [] → takes words ≡ false
not_taken words h = by_fault (fault_of fib_app words) h
  where
    by_fault : {A : Type 0} (xs : List A) → xs ≢ [] → is_empty xs ≡ false
    by_fault [] h = absurd (h refl)
    by_fault (x ∷ xs) h = refl

pub refused_is : (a : App) (words : List Text) (error : Error) (w : WordsError) → a ≡ fib_app → (is_simple_and_free a ≡ true → HasKind (fault_of a words) error) → (w ≡ Usage → kind_of error ≢ OutOfMemory) → IsCommand (Err w) (command_of words)
unfolding command_of
refused_is a words error NoMemory e h other = tt
refused_is a words error Usage e h other =
    let A : App → Type 0 = λ b. is_simple_and_free b ≡ true → HasKind (fault_of b words) error in
    let kind : HasKind (fault_of fib_app words) error = subst A e h fib_free in
    let fault : fault_of fib_app words ≢ [] = λ none. elim kind [
      | inl memory ↦ other refl memory
      | inr among ↦ subst (IsAmong (kind_of error)) none among
    ] in
    ap (λ b. cond b (option_and_then asked_in (subcommand_of fib_app words)) None) (not_taken words fault)

-- ---- what clap takes

pub taken_is : (a : App) (words : List Text) (m : ArgMatches) → a ≡ fib_app → (is_simple_and_free a ≡ true → fault_of a words ≡ []) → HasMatchesOf a words m → command_of words ≡ option_and_then asked_in (subcommand_rows_of m)
unfolding command_of
taken_is a words m e h has =
    let A : App → Type 0 = λ b. is_simple_and_free b ≡ true → fault_of b words ≡ [] in
    let M : App → Type 0 = λ b. HasMatchesOf b words m in
    let none : fault_of fib_app words ≡ [] = subst A e h fib_free in
    let both = subst M e has fib_simple in
    ap (λ f. cond (is_empty f) (option_and_then asked_in (subcommand_of fib_app words)) None) none ∙ ap (option_and_then asked_in) (sym both.1)

name_is : {Z : Type 0} (o : Option (Box SubCommand Z)) → option_map (λ (p : Text × List Row). p.0) (subcommand_rows o) ≡ option_map (λ b. (out-SubCommand (box_value b)).name.now) o
name_is None = refl
name_is (Some b) = refl

-- what a command of this name asks for

abbrev asked_of_moves : Text → List Row → Option Asked
asked_of_moves name rows = cond (bytes_eq name (codes "moves")) (moves_by rows) None

abbrev asked_of_save : Text → List Row → Option Asked
asked_of_save name rows = cond (bytes_eq name (codes "save")) (option_map Save (save_by rows)) (asked_of_moves name rows)

abbrev asked_of_same : Text → List Row → Option Asked
asked_of_same name rows = cond (bytes_eq name (codes "same")) (option_map Same (same_by rows)) (asked_of_save name rows)

abbrev asked_of_steps : Text → List Row → Option Asked
asked_of_steps name rows = cond (bytes_eq name (codes "steps")) (option_map Steps (steps_by rows)) (asked_of_same name rows)

abbrev asked_of_make : Text → List Row → Option Asked
asked_of_make name rows = cond (bytes_eq name (codes "make")) (made_by rows) (asked_of_steps name rows)

abbrev asked_of_others : Text → List Row → Option Asked
asked_of_others name rows = cond (bytes_eq name (codes "check")) (option_map Check (first_of (codes "printed") rows)) (asked_of_make name rows)

abbrev asked_of : Text → List Row → Option Asked
asked_of name rows = cond (bytes_eq name (codes "run")) (option_map Run (named_by rows)) (asked_of_others name rows)

entered_as : (name : Text) (o : Option (Text × List Row)) (rows : List Row) → option_map (λ (p : Text × List Row). p.0) o ≡ Some name → option_map (λ (p : Text × List Row). p.1) o ≡ Some rows → option_and_then asked_in o ≡ asked_of name rows
entered_as name None rows e f = absurd cc
entered_as name (Some p) rows e f =
    let first : p.0 ≡ name = cc in
    let second : p.1 ≡ rows = cc in
    ap (λ n. asked_of n p.1) first ∙ ap (asked_of name) second

entered : (m inner : ArgMatches) (name : Text) → subcommand_name_of m ≡ Some name → option_map (λ (p : Text × List Row). p.1) (subcommand_rows_of m) ≡ Some (rows_of (found_of inner)) → option_and_then asked_in (subcommand_rows_of m) ≡ asked_of name (rows_of (found_of inner))
entered m inner name e f = entered_as name (subcommand_rows_of m) (rows_of (found_of inner)) (name_is (out-ArgMatches m).subcommand ∙ e) f

pub run_is : (m run : ArgMatches) (names : Option Named) → subcommand_name_of m ≡ Some (codes "run") → option_map (λ (p : Text × List Row). p.1) (subcommand_rows_of m) ≡ Some (rows_of (found_of run)) → names ≡ named_by (rows_of (found_of run)) → option_and_then asked_in (subcommand_rows_of m) ≡ option_map Run names
run_is m run names e f g =
    entered m run (codes "run") e f
    ∙ ap (option_map Run) (sym g)

pub check_is : (m check : ArgMatches) (printed : Option Text) → subcommand_name_of m ≡ Some (codes "check") → option_map (λ (p : Text × List Row). p.1) (subcommand_rows_of m) ≡ Some (rows_of (found_of check)) → printed ≡ first_value (found_of check) (codes "printed") → option_and_then asked_in (subcommand_rows_of m) ≡ option_map Check printed
check_is m check printed e f g =
    entered m check (codes "check") e f
    ∙ ap (option_map Check) (sym (g ∙ first_value-rows (found_of check) (codes "printed")))

pub make_is : (m make : ArgMatches) → subcommand_name_of m ≡ Some (codes "make") → option_map (λ (p : Text × List Row). p.1) (subcommand_rows_of m) ≡ Some (rows_of (found_of make)) → option_and_then asked_in (subcommand_rows_of m) ≡ made_by (rows_of (found_of make))
make_is m make e f = entered m make (codes "make") e f

pub moves_is : (m moves : ArgMatches) → subcommand_name_of m ≡ Some (codes "moves") → option_map (λ (p : Text × List Row). p.1) (subcommand_rows_of m) ≡ Some (rows_of (found_of moves)) → option_and_then asked_in (subcommand_rows_of m) ≡ moves_by (rows_of (found_of moves))
moves_is m moves e f = entered m moves (codes "moves") e f

pub same_is : (m same : ArgMatches) (names : Option NamedSame) → subcommand_name_of m ≡ Some (codes "same") → option_map (λ (p : Text × List Row). p.1) (subcommand_rows_of m) ≡ Some (rows_of (found_of same)) → names ≡ same_by (rows_of (found_of same)) → option_and_then asked_in (subcommand_rows_of m) ≡ option_map Same names
same_is m same names e f g = entered m same (codes "same") e f ∙ ap (option_map Same) (sym g)

-- ---- the names in the matches of a run

abbrev found : ArgMatches → List ℕ → Option Text
found m name = first_value (found_of m) name

pub names_are : (m : ArgMatches) → named_with (found m (codes "dump")) (found m (codes "updates")) (found m (codes "ask")) (found m (codes "vrps")) (found m (codes "every")) (found m (codes "fewest")) (found m (codes "steady")) (sizes_by (rows_of (found_of m))) ≡ named_by (rows_of (found_of m))
names_are m =
    rw (
      first_value-rows (found_of m) (codes "dump"),
      first_value-rows (found_of m) (codes "updates"),
      first_value-rows (found_of m) (codes "ask"),
      first_value-rows (found_of m) (codes "vrps"),
      first_value-rows (found_of m) (codes "every"),
      first_value-rows (found_of m) (codes "fewest"),
      first_value-rows (found_of m) (codes "steady"),
    ) refl

-- the names in the matches of `steps`
pub steps_are : (m : ArgMatches) → steps_with (found m (codes "dump")) (found m (codes "updates")) (found m (codes "script")) (sizes_by (rows_of (found_of m))) ≡ steps_by (rows_of (found_of m))
steps_are m = rw (first_value-rows (found_of m) (codes "dump"), first_value-rows (found_of m) (codes "updates"), first_value-rows (found_of m) (codes "script")) refl

-- the sizes in the matches of either
pub sizes_are : (m : ArgMatches) → sizes_with (found m (codes "direct")) (found m (codes "nodes")) (found m (codes "leaves")) ≡ sizes_by (rows_of (found_of m))
sizes_are m = rw (first_value-rows (found_of m) (codes "direct"), first_value-rows (found_of m) (codes "nodes"), first_value-rows (found_of m) (codes "leaves")) refl

-- the names in the matches of `make`
pub made_are : (m : ArgMatches) → made_with (found m (codes "routes")) (found m (codes "seed")) ≡ made_by (rows_of (found_of m))
made_are m = rw (first_value-rows (found_of m) (codes "routes"), first_value-rows (found_of m) (codes "seed")) refl

-- a number of a trie's sizes that is none, or all that there are

abbrev Is : Option Text → ArgMatches → List ℕ → Type 0
Is o m name = o ≡ first_value (found_of m) name

pub no_direct : (m : ArgMatches) (s : Option Text) → Is s m (codes "direct") → None ≡ number_or 16 19 s → None ≡ sizes_by (rows_of (found_of m))
no_direct m s is_s f = rw (← sizes_are m, ← is_s, ← f) refl

pub no_nodes : (m : ArgMatches) (s n : Option Text) (direct : ℕ) → Is s m (codes "direct") → Some direct ≡ number_or 16 19 s → Is n m (codes "nodes") → None ≡ number_or 16 25 n → None ≡ sizes_by (rows_of (found_of m))
no_nodes m s n direct is_s f is_n g = rw (← sizes_are m, ← is_s, ← f, ← is_n, ← g) refl

pub no_leaves : (m : ArgMatches) (s n l : Option Text) (direct nodes : ℕ) → Is s m (codes "direct") → Some direct ≡ number_or 16 19 s → Is n m (codes "nodes") → Some nodes ≡ number_or 16 25 n
    → Is l m (codes "leaves") → None ≡ number_or 18 27 l → None ≡ sizes_by (rows_of (found_of m))
no_leaves m s n l direct nodes is_s f is_n g is_l h = rw (← sizes_are m, ← is_s, ← f, ← is_n, ← g, ← is_l, ← h) refl

pub all_sizes : (m : ArgMatches) (s n l : Option Text) (direct nodes leaves : ℕ) → Is s m (codes "direct") → Some direct ≡ number_or 16 19 s → Is n m (codes "nodes") → Some nodes ≡ number_or 16 25 n
    → Is l m (codes "leaves") → Some leaves ≡ number_or 18 27 l → Some (record { direct = direct; nodes = nodes; leaves = leaves }) ≡ sizes_by (rows_of (found_of m))
all_sizes m s n l direct nodes leaves is_s f is_n g is_l h = rw (← sizes_are m, ← is_s, ← f, ← is_n, ← g, ← is_l, ← h) refl

-- the numbers of a run

pub no_dump : (m : ArgMatches) → Is None m (codes "dump") → None ≡ named_by (rows_of (found_of m))
no_dump m d = rw (← names_are m, ← d) refl

pub no_every : (m : ArgMatches) (dump : Text) (k : Option Text) → Is (Some dump) m (codes "dump") → Is k m (codes "every") → None ≡ number_or 0 (2 ^ 32) k → None ≡ named_by (rows_of (found_of m))
no_every m dump k d is e = rw (← names_are m, ← d, ← is, ← e) refl

pub no_sizes : (m : ArgMatches) (dump : Text) (k : Option Text) (every : ℕ) → Is (Some dump) m (codes "dump") → Is k m (codes "every") → Some every ≡ number_or 0 (2 ^ 32) k
    → None ≡ sizes_by (rows_of (found_of m)) → None ≡ named_by (rows_of (found_of m))
no_sizes m dump k every d is e f = rw (← names_are m, ← d, ← is, ← e, ← f) refl

pub all_names : (m : ArgMatches) (dump : Text) (u a v k w t : Option Text) (every : ℕ) (fewest steady : Bool) (sizes : NamedSizes) → Is (Some dump) m (codes "dump") → Is k m (codes "every") → Some every ≡ number_or 0 (2 ^ 32) k
    → Some sizes ≡ sizes_by (rows_of (found_of m)) → Is u m (codes "updates") → Is a m (codes "ask") → Is v m (codes "vrps") → Is w m (codes "fewest") → fewest ≡ is_on w → Is t m (codes "steady") → steady ≡ is_on t
    → Some (record { dump = dump; updates = u; asks = a; vrps = v; every = every; fewest = fewest; steady = steady; direct = sizes.direct; nodes = sizes.nodes; leaves = sizes.leaves }) ≡ named_by (rows_of (found_of m))
all_names m dump u a v k w t every fewest steady sizes d is e f is_u is_a is_v is_w least is_t on = rw (least, on, ← names_are m, ← d, ← is, ← e, ← f, ← is_u, ← is_a, ← is_v, ← is_w, ← is_t) refl

-- the same of a run in steps

pub no_steps_dump : (m : ArgMatches) → Is None m (codes "dump") → None ≡ steps_by (rows_of (found_of m))
no_steps_dump m d = rw (← steps_are m, ← d) refl

pub no_steps_updates : (m : ArgMatches) (dump : Text) → Is (Some dump) m (codes "dump") → Is None m (codes "updates") → None ≡ steps_by (rows_of (found_of m))
no_steps_updates m dump d u = rw (← steps_are m, ← d, ← u) refl

pub no_script : (m : ArgMatches) (dump updates : Text) → Is (Some dump) m (codes "dump") → Is (Some updates) m (codes "updates") → Is None m (codes "script") → None ≡ steps_by (rows_of (found_of m))
no_script m dump updates d u s = rw (← steps_are m, ← d, ← u, ← s) refl

pub no_steps_sizes : (m : ArgMatches) (dump updates script : Text) → Is (Some dump) m (codes "dump") → Is (Some updates) m (codes "updates") → Is (Some script) m (codes "script")
    → None ≡ sizes_by (rows_of (found_of m)) → None ≡ steps_by (rows_of (found_of m))
no_steps_sizes m dump updates script d u s f = rw (← steps_are m, ← d, ← u, ← s, ← f) refl

pub all_steps : (m : ArgMatches) (dump updates script : Text) (sizes : NamedSizes) → Is (Some dump) m (codes "dump") → Is (Some updates) m (codes "updates") → Is (Some script) m (codes "script")
    → Some sizes ≡ sizes_by (rows_of (found_of m))
    → Some (record { dump = dump; updates = updates; script = script; direct = sizes.direct; nodes = sizes.nodes; leaves = sizes.leaves }) ≡ steps_by (rows_of (found_of m))
all_steps m dump updates script sizes d u s f = rw (← steps_are m, ← d, ← u, ← s, ← f) refl

-- the same of routes that are to be made

pub no_routes_word : (m : ArgMatches) → Is None m (codes "routes") → None ≡ made_by (rows_of (found_of m))
no_routes_word m r = rw (← made_are m, ← r) refl

pub no_routes : (m : ArgMatches) (r : Text) → Is (Some r) m (codes "routes") → None ≡ option_and_then from_one (number_below 200001 r) → None ≡ made_by (rows_of (found_of m))
no_routes m r is e = rw (← made_are m, ← is, ← e) refl

pub no_seed_word : (m : ArgMatches) (r : Text) (n : ℕ) → Is (Some r) m (codes "routes") → Some n ≡ option_and_then from_one (number_below 200001 r) → Is None m (codes "seed") → None ≡ made_by (rows_of (found_of m))
no_seed_word m r n is e s = rw (← made_are m, ← is, ← e, ← s) refl

pub no_seed : (m : ArgMatches) (r s : Text) (n : ℕ) → Is (Some r) m (codes "routes") → Some n ≡ option_and_then from_one (number_below 200001 r) → Is (Some s) m (codes "seed") → None ≡ number_below (2 ^ 64) s
    → None ≡ made_by (rows_of (found_of m))
no_seed m r s n is e is_s f = rw (← made_are m, ← is, ← e, ← is_s, ← f) refl

pub all_made : (m : ArgMatches) (r s : Text) (n x : ℕ) → Is (Some r) m (codes "routes") → Some n ≡ option_and_then from_one (number_below 200001 r) → Is (Some s) m (codes "seed") → Some x ≡ number_below (2 ^ 64) s
    → Some (Make n x) ≡ made_by (rows_of (found_of m))
all_made m r s n x is e is_s f = rw (← made_are m, ← is, ← e, ← is_s, ← f) refl

-- the names in the matches of `same` and of `save`

abbrev several : ArgMatches → List ℕ → Option (List Text)
several m name = option_map raw_values (matched_of (found_of m) name)

same_are : (m : ArgMatches) → same_with (found m (codes "first")) (several m (codes "rest")) (found m (codes "rows")) ≡ same_by (rows_of (found_of m))
same_are m = rw (first_value-rows (found_of m) (codes "first"), raw_values-rows (found_of m) (codes "rest"), first_value-rows (found_of m) (codes "rows")) refl

pub no_first : (m : ArgMatches) → Is None m (codes "first") → None ≡ same_by (rows_of (found_of m))
no_first m f = rw (← same_are m, ← f) refl

pub no_rest : (m : ArgMatches) (first : Text) → Is (Some first) m (codes "first") → None ≡ several m (codes "rest") → None ≡ same_by (rows_of (found_of m))
no_rest m first f r = rw (← same_are m, ← f, ← r) refl

pub no_kind : (m : ArgMatches) (first : Text) (rest : List Text) (k : Option Text) → Is (Some first) m (codes "first") → Some rest ≡ several m (codes "rest") → Is k m (codes "rows") → None ≡ kind_or k → None ≡ same_by (rows_of (found_of m))
no_kind m first rest k f r is e = rw (← same_are m, ← f, ← r, ← is, ← e) refl

pub all_same : (m : ArgMatches) (first : Text) (rest : List Text) (k : Option Text) (rows : Kind) → Is (Some first) m (codes "first") → Some rest ≡ several m (codes "rest") → Is k m (codes "rows") → Some rows ≡ kind_or k
    → Some (record { first = first; rest = rest; rows = rows }) ≡ same_by (rows_of (found_of m))
all_same m first rest k rows f r is e = rw (← same_are m, ← f, ← r, ← is, ← e) refl

save_are : (m : ArgMatches) → save_with (found m (codes "dump")) (found m (codes "updates")) ≡ save_by (rows_of (found_of m))
save_are m = rw (first_value-rows (found_of m) (codes "dump"), first_value-rows (found_of m) (codes "updates")) refl

pub no_save_dump : (m : ArgMatches) → Is None m (codes "dump") → None ≡ save_by (rows_of (found_of m))
no_save_dump m d = rw (← save_are m, ← d) refl

pub all_save : (m : ArgMatches) (dump : Text) (u : Option Text) → Is (Some dump) m (codes "dump") → Is u m (codes "updates") → Some (record { dump = dump; updates = u }) ≡ save_by (rows_of (found_of m))
all_save m dump u d is = rw (← save_are m, ← d, ← is) refl

-- the names in the matches of `moves`

moves_are : (m : ArgMatches) → moves_with (found m (codes "router")) (found m (codes "printed")) (found m (codes "moves")) (found m (codes "check")) (found m (codes "steady")) ≡ moves_by (rows_of (found_of m))
moves_are m =
    rw (
      first_value-rows (found_of m) (codes "router"),
      first_value-rows (found_of m) (codes "printed"),
      first_value-rows (found_of m) (codes "moves"),
      first_value-rows (found_of m) (codes "check"),
      first_value-rows (found_of m) (codes "steady"),
    ) refl

pub no_router : (m : ArgMatches) → Is None m (codes "router") → None ≡ moves_by (rows_of (found_of m))
no_router m r = rw (← moves_are m, ← r) refl

pub no_printed : (m : ArgMatches) (router : Text) → Is (Some router) m (codes "router") → Is None m (codes "printed") → None ≡ moves_by (rows_of (found_of m))
no_printed m router r p = rw (← moves_are m, ← r, ← p) refl

pub all_moves : (m : ArgMatches) (router printed : Text) (t c s : Option Text) (check steady : Bool) → Is (Some router) m (codes "router") → Is (Some printed) m (codes "printed")
    → Is t m (codes "moves") → Is c m (codes "check") → check ≡ is_on c → Is s m (codes "steady") → steady ≡ is_on s → moves_asked router printed t check steady ≡ moves_by (rows_of (found_of m))
all_moves m router printed t c s check steady r p is_t is_c on is_s in_order = rw (on, in_order, ← moves_are m, ← r, ← p, ← is_t, ← is_c, ← is_s) refl
