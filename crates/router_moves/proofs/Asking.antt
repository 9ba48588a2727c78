-- What is due of texts that are read one after another.
use Rattle.std.proofs.Common.{◌≡◌, ℕ, List, [], ◌∷◌, Bool, Result, Ok, Err, inr, refl, sym, ap, subst}
use Rattle.octet_fields.specs.Field.{◌>>=◌}
use Rattle.table_model.specs.Address.{Address}
use Rattle.printed_text.specs.declared.kind.Kind.TheVariants.{Least, Route}
use Rattle.printed_text.specs.Kinds.{KindEntries}
use Rattle.router_moves.specs.Said.{SaidMoves}
use Rattle.fib_same.specs.declared.error.SameError.{SameError}
use Rattle.fib_same.specs.declared.error.SameError.TheVariants as error
use Rattle.fib_same.specs.Due.{Refused, TextStop, Untold, text_at}
use Rattle.fib_same.specs.Gives.{RefusesDue, MatchesIfTold, OneRose, ReadsNamedTexts, names_after}
use Rattle.fib_same.proofs.Going.{Among, Content}
use Rattle.fib_same.proofs.Reading.{fails_then, untold_fails}
use Rattle.router_moves.specs.Checked.{Claimed, Verdict, claimed_at, names_claimed, said_moves_at, verdict_at, verdict_for}
use Rattle.router_moves.specs.Due.{RouterTables, ShortestMoves, router_at, moves_at, moves_for}

-- ---- what comes after what was read

-- what is due then
pub told_then : {A B : Type 0} (d : Result A TextStop) (a : A) (next : A → Result B TextStop) (b : B) → MatchesIfTold d (Ok a) → MatchesIfTold (next a) (Ok b) → MatchesIfTold (d >>= next) (Ok b)
told_then (Err Untold) a next b i j = tt
told_then (Err (Refused r)) a next b i j = absurd cc
told_then {A} {B} (Ok x) a next b i j = let same : x ≡ a = cc in subst (λ (y : A). MatchesIfTold (next y) (Ok b)) (sym same) j

-- or why there is none
pub fails_next : {A B : Type 0} (e : SameError) (d : Result A TextStop) (a : A) (next : A → Result B TextStop) → MatchesIfTold d (Ok a) → RefusesDue e (next a) → RefusesDue e (d >>= next)
fails_next e (Err Untold) a next i f = untold_fails _ e
fails_next e (Err (Refused r)) a next i f = absurd cc
fails_next {A} {B} e (Ok x) a next i f = let same : x ≡ a = cc in subst (λ (y : A). RefusesDue e (next y)) (sym same) f

-- ---- the router's text and the printed one

abbrev pub asked : KindEntries → KindEntries → RouterTables
asked table routes = record { table = table.entries; routes = routes.entries; hops = routes.hops }

module _ (content : Content) (router printed : List ℕ) (hops : List Address) (none : hops ≡ []) where
  abbrev printed_after : KindEntries → Result RouterTables TextStop
  printed_after table = text_at content Route table.hops 2 printed >>= λ routes. Ok (asked table routes)

  pub asked_told : (between : Content) (table routes : KindEntries) → between ≡ content → MatchesIfTold (text_at content Least hops 1 router) (Ok table) → MatchesIfTold (text_at between Route table.hops 2 printed) (Ok routes)
      → MatchesIfTold (router_at content router printed) (Ok (asked table routes))
  unfolding router_at
  asked_told between table routes same one two =
      told_then (text_at content Least [] 1 router) table printed_after (asked table routes) (subst (λ (hs : List Address). MatchesIfTold (text_at content Least hs 1 router) (Ok table)) none one)
      (told_then (text_at content Route table.hops 2 printed) routes (λ y. Ok (asked table y)) (asked table routes) (subst (λ (c : Content). MatchesIfTold (text_at c Route table.hops 2 printed) (Ok routes)) same two) refl)

  pub router_fails : (e : SameError) → RefusesDue e (text_at content Least hops 1 router) → RefusesDue e (router_at content router printed)
  unfolding router_at
  router_fails e f = fails_then e (text_at content Least [] 1 router) printed_after (subst (λ (hs : List Address). RefusesDue e (text_at content Least hs 1 router)) none f)

  pub printed_fails : (between : Content) (table : KindEntries) (e : SameError) → between ≡ content → MatchesIfTold (text_at content Least hops 1 router) (Ok table) → RefusesDue e (text_at between Route table.hops 2 printed)
      → RefusesDue e (router_at content router printed)
  unfolding router_at
  printed_fails between table e same one f =
      fails_next e (text_at content Least [] 1 router) table printed_after (subst (λ (hs : List Address). MatchesIfTold (text_at content Least hs 1 router) (Ok table)) none one)
      (fails_then e (text_at content Route table.hops 2 printed) (λ y. Ok (asked table y)) (subst (λ (c : Content). RefusesDue e (text_at c Route table.hops 2 printed)) same f))

-- ---- the moves

pub moves_told : (content : Content) (router printed : List ℕ) (steady : Bool) (t : RouterTables) (m : ShortestMoves) → MatchesIfTold (router_at content router printed) (Ok t) → m ≡ moves_for steady t → MatchesIfTold (moves_at content router printed steady) (Ok m)
moves_told content router printed steady t m told is =
    told_then (router_at content router printed) t (λ x. Ok (moves_for steady x)) m told (ap (λ (n : ShortestMoves). let ok : Result ShortestMoves TextStop = Ok n in ok) (sym is))

pub moves_fail : (content : Content) (router printed : List ℕ) (steady : Bool) (e : SameError) → RefusesDue e (router_at content router printed) → RefusesDue e (moves_at content router printed steady)
moves_fail content router printed steady e f = fails_then e (router_at content router printed) (λ t. Ok (moves_for steady t)) f

-- ---- the claim

abbrev pub claimed : RouterTables → SaidMoves → Claimed
claimed asked said = record { claim = record { table = asked.table; routes = asked.routes; changes = said.changes; rows = said.rows }; hops = said.hops }

module _ (content : Content) (router printed moves : List ℕ) where
  abbrev said_after : RouterTables → Result Claimed TextStop
  said_after asked = said_moves_at content asked.hops 3 moves >>= λ said. Ok (claimed asked said)

  pub claimed_told : (between : Content) (asked : RouterTables) (said : SaidMoves) → between ≡ content → MatchesIfTold (router_at content router printed) (Ok asked) → MatchesIfTold (said_moves_at between asked.hops 3 moves) (Ok said)
      → MatchesIfTold (claimed_at content router printed moves) (Ok (claimed asked said))
  unfolding claimed_at
  claimed_told between asked said same one two =
      told_then (router_at content router printed) asked said_after (claimed asked said) one
      (told_then (said_moves_at content asked.hops 3 moves) said (λ y. Ok (claimed asked y)) (claimed asked said) (subst (λ (c : Content). MatchesIfTold (said_moves_at c asked.hops 3 moves) (Ok said)) same two) refl)

  pub verdict_told : (t : Claimed) (v : Verdict) → MatchesIfTold (claimed_at content router printed moves) (Ok t) → v ≡ verdict_for t → MatchesIfTold (verdict_at content router printed moves) (Ok v)
  verdict_told t v told is = told_then (claimed_at content router printed moves) t (λ x. Ok (verdict_for x)) v told (ap (λ (w : Verdict). let ok : Result Verdict TextStop = Ok w in ok) (sym is))

  pub asked_fails : (e : SameError) → RefusesDue e (router_at content router printed) → RefusesDue e (verdict_at content router printed moves)
  unfolding claimed_at
  asked_fails e f = fails_then e (claimed_at content router printed moves) (λ x. Ok (verdict_for x)) (fails_then e (router_at content router printed) said_after f)

  pub said_fails : (between : Content) (asked : RouterTables) (e : SameError) → between ≡ content → MatchesIfTold (router_at content router printed) (Ok asked) → RefusesDue e (said_moves_at between asked.hops 3 moves) → RefusesDue e (verdict_at content router printed moves)
  unfolding claimed_at
  said_fails between asked e same one f =
      fails_then e (claimed_at content router printed moves) (λ x. Ok (verdict_for x))
      (fails_next e (router_at content router printed) asked said_after one (fails_then e (said_moves_at content asked.hops 3 moves) (λ y. Ok (claimed asked y)) (subst (λ (c : Content). RefusesDue e (said_moves_at c asked.hops 3 moves)) same f)))

  -- ---- the names of texts

  moves_among : (a : RouterTables) → MatchesIfTold (router_at content router printed) (Ok a) → Among (moves ∷ []) (names_claimed content router printed moves)
  unfolding router_at
  moves_among a told before now rose = inr (by_router (text_at content Least [] 1 router) told)
    where
      by_printed : (d : Result KindEntries TextStop) (table : KindEntries) → MatchesIfTold (d >>= λ routes. Ok (asked table routes)) (Ok a) → OneRose (names_after d (moves ∷ []) (λ routes. moves ∷ [])) before now
      by_printed (Err Untold) table i = rose
      by_printed (Err (Refused r)) table i = absurd cc
      by_printed (Ok routes) table i = rose

      by_router : (d : Result KindEntries TextStop) → MatchesIfTold (d >>= λ table. text_at content Route table.hops 2 printed >>= λ routes. Ok (asked table routes)) (Ok a)
          → OneRose (names_after d (printed ∷ moves ∷ []) (λ table. printed ∷ names_after (text_at content Route table.hops 2 printed) (moves ∷ []) (λ routes. moves ∷ []))) before now
      by_router (Err Untold) i = inr rose
      by_router (Err (Refused r)) i = absurd cc
      by_router (Ok table) i = inr (by_printed (text_at content Route table.hops 2 printed) table i)

more_names : (X Y : Type 0) (some all : List (List ℕ)) (before now : List ℕ → ℕ) (e : SameError) → Among some all → ReadsNamedTexts {X = X} some before now (Err e) → ReadsNamedTexts {X = Y} all before now (Err e)
more_names X Y some all before now error.Fault among cause = among before now cause
more_names X Y some all before now error.NoMemory among cause = cause
more_names X Y some all before now (error.TooLarge text) among cause = cause
more_names X Y some all before now (error.BadLine text line why) among cause = cause
more_names X Y some all before now (error.Twice text prefix) among cause = cause

pub moves_cause : (X Y : Type 0) (content : Content) (router printed moves : List ℕ) (a : RouterTables) (before middle now : List ℕ → ℕ) (e : SameError) → MatchesIfTold (router_at content router printed) (Ok a) → middle ≡ before
    → ReadsNamedTexts {X = X} (moves ∷ []) middle now (Err e) → ReadsNamedTexts {X = Y} (names_claimed content router printed moves) before now (Err e)
moves_cause X Y content router printed moves a before middle now e told kept cause =
    more_names X Y (moves ∷ []) (names_claimed content router printed moves) before now e (moves_among content router printed moves a told) (subst (λ (counts : List ℕ → ℕ). ReadsNamedTexts {X = X} (moves ∷ []) counts now (Err e)) kept cause)
