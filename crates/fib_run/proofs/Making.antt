-- What inputs in memory hold under the names of made inputs, and what is due of them.
use Rattle.std.proofs.Common.{◌≡◌, ℕ, List, [], ◌∷◌, ◌++◌, true, false, cond, Option, Some, Result, Ok, Err, inl, inr, refl, sym, ap, subst, ◌∙◌, arith}
use Rattle.std.specs.Prelude.{codes, option_map, IfErr}
use Rattle.std.specs.List.{find}
use Rattle.std.specs.Str.{bytes_eq}
use Rattle.std.specs.String.{string_bytes}
use Rattle.std.specs.declared.string.String.{String}
use Rattle.std.specs.declared.vec.Vec.{Vec}
use Rattle.fib_io.specs.Held.{held_under}
use Rattle.fib_io.specs.Causes.{Rose}
use Rattle.made_input.specs.Files.{dump_octets, updates_octets}
use Rattle.fib_report.specs.Rows.{report_text}
use Rattle.fib_words.specs.Commands.{Named, Asked, Check, Run, Make}
use Rattle.fib_due.specs.declared.outcome.Outcome.{Outcome}
use Rattle.fib_due.specs.declared.outcome.Outcome.TheVariants.{Done, CheckNo, Differ, MovesNo, Usage, ReadFault, WriteFault, NoMemory, TooLarge, Malformed, HopsFull, TrieFull, BadLine, PeersFull, PathTooLong}
use Rattle.fib_due.specs.declared.outcome.Which.{Which}
use Rattle.fib_due.specs.declared.outcome.Which.TheVariants.{Asks, Vrps, Dump, Updates, Printed, Script, Text}
use Rattle.fib_due.specs.Stops.{Stop, FailsDue, IsDueIfTold}
use Rattle.fib_due.specs.Owned.{HasInput, IsOf, StopsAt, StopsIn}
use Rattle.fib_due.specs.Ends.{OneRose, ReadsBy}
use Rattle.fib_due.specs.Due.{Feed, feed_at, feeds_at, limits_of, load_at, made_at, made_content, made_named, printed, told_at, with_counts}
use Rattle.fib_due.specs.Untold.{GivesSome, TextOfSome}
use Rattle.fib_due.proofs.Due.{all_due, feeds_fail}
use Rattle.fib_due.proofs.Replies.{ran_refused}

abbrev pub Content : Type 0
Content = List ℕ → Option (List ℕ)

-- the pair at the front is found where its name is the one that is looked for, and passed over where it isn't
front_held : {A : Type 0} (name : List ℕ) (d : String A × Vec ℕ A) (rest : List (String A × Vec ℕ A)) → bytes_eq (string_bytes d.0) name ≡ true → held_under (d ∷ rest) name ≡ Some d.1.items
front_held {A = A} name d rest is = subst (λ t. option_map (λ (p : String A × Vec ℕ A). p.1.items) (cond t (Some d) (find (λ (p : String A × Vec ℕ A). bytes_eq (string_bytes p.0) name) rest)) ≡ Some d.1.items) (sym is) refl

front_passed : {A : Type 0} (name : List ℕ) (d : String A × Vec ℕ A) (rest : List (String A × Vec ℕ A)) → bytes_eq (string_bytes d.0) name ≡ false → held_under (d ∷ rest) name ≡ held_under rest name
front_passed {A = A} name d rest is = subst (λ t. option_map (λ (p : String A × Vec ℕ A). p.1.items) (cond t (Some d) (find (λ (p : String A × Vec ℕ A). bytes_eq (string_bytes p.0) name) rest)) ≡ held_under rest name) (sym is) refl

first_held : {A : Type 0} (d u : String A × Vec ℕ A) → string_bytes d.0 ≡ codes "dump" → held_under (d ∷ u ∷ []) (codes "dump") ≡ Some d.1.items
first_held d u e = front_held (codes "dump") d (u ∷ []) (ap (λ b. bytes_eq b (codes "dump")) e)

second_held : {A : Type 0} (d u : String A × Vec ℕ A) → string_bytes d.0 ≡ codes "dump" → string_bytes u.0 ≡ codes "updates" → held_under (d ∷ u ∷ []) (codes "updates") ≡ Some u.1.items
second_held d u e f = front_passed (codes "updates") d (u ∷ []) (ap (λ b. bytes_eq b (codes "updates")) e) ∙ front_held (codes "updates") u [] (ap (λ b. bytes_eq b (codes "updates")) f)

-- of two pairs each is held under its own name
pub made_held : {A : Type 0} (none one two : List (String A × Vec ℕ A)) (d u : String A × Vec ℕ A) → none ≡ [] → one ≡ none ++ d ∷ [] → two ≡ one ++ u ∷ [] → string_bytes d.0 ≡ codes "dump" → string_bytes u.0 ≡ codes "updates"
    → (held_under two (codes "dump") ≡ Some d.1.items) × (held_under two (codes "updates") ≡ Some u.1.items)
made_held none one two d u n o t e f =
    let all : two ≡ d ∷ u ∷ [] = t ∙ (ap (λ l. l ++ u ∷ []) o ∙ ap (λ l. (l ++ d ∷ []) ++ u ∷ []) n) in
    (ap (λ l. held_under l (codes "dump")) all ∙ first_held d u e, ap (λ l. held_under l (codes "updates")) all ∙ second_held d u e f)

-- what is due of made inputs rests on what they hold under both names alone
pub feeds_alike : (c m : Content) → c (codes "dump") ≡ m (codes "dump") → c (codes "updates") ≡ m (codes "updates") → feeds_at c [] made_named ≡ feeds_at m [] made_named
unfolding feeds_at load_at feed_at
feeds_alike c m d u = rw (d, u) refl

abbrev fine : {X : Type 0} → X → Result X Stop
fine x = Ok x

made_feeds : (routes seed : ℕ) (c : Content) → c (codes "dump") ≡ Some (dump_octets seed routes) → c (codes "updates") ≡ Some (updates_octets seed routes) → feeds_at c [] made_named ≡ feeds_at (made_content routes seed) [] made_named
made_feeds routes seed c d u = feeds_alike c (made_content routes seed) d u

-- a refusal of inputs that hold what is made is one of what is due
pub made_fails : (routes seed : ℕ) (c : Content) (o : Outcome) → c (codes "dump") ≡ Some (dump_octets seed routes) → c (codes "updates") ≡ Some (updates_octets seed routes) → FailsDue o (feeds_at c [] made_named) → FailsDue o (with_counts (made_at routes seed))
unfolding made_at
made_fails routes seed c o d u f = feeds_fail (made_content routes seed) [] made_named [] (λ p. Ok (report_text p.told.report)) o (subst (λ x. FailsDue o x) (made_feeds routes seed c d u) f)

-- and the counts of what they bring are those that are due
pub made_due : (routes seed : ℕ) (c : Content) (feeds : Feed × Feed) (text : List ℕ) → c (codes "dump") ≡ Some (dump_octets seed routes) → c (codes "updates") ≡ Some (updates_octets seed routes) → IsDueIfTold (feeds_at c [] made_named) (Ok feeds)
    → text ≡ report_text (printed (limits_of made_named) feeds.0 feeds.1 []).told.report → IsDueIfTold (with_counts (made_at routes seed)) (Ok text)
unfolding made_at
made_due routes seed c feeds text d u i e = all_due (made_content routes seed) [] made_named [] (λ p. report_text p.told.report) feeds text (subst (λ x. IsDueIfTold x (fine feeds)) (made_feeds routes seed c d u) i) e

-- a refusal of the made inputs names one of them
pub made_stops : (routes seed : ℕ) (o : Outcome) → StopsIn (Run made_named) o → StopsIn (Make routes seed) o
made_stops routes seed o s = (s.0, input s.0 s.1, s.2)
  where
    input : (w : Which) → HasInput (Run made_named) w → HasInput (Make routes seed) w
    input Asks h = absurd cc
    input Vrps h = absurd cc
    input Dump h = tt
    input Updates h = tt
    input Printed h = h
    input Script h = h
    input (Text n) h = h

-- inputs that can't fail have no fault
none_rose : (names : List (List ℕ)) → OneRose names (λ n. 0) (λ n. 0) → ⊥
none_rose [] r = r
none_rose (name ∷ names) (inl r) = not_rose r
  where
    not_rose : Rose 0 0 → ⊥
    not_rose r = omega arith
none_rose (name ∷ names) (inr r) = none_rose names r

pub no_fault : (names : List (List ℕ)) (o : Outcome) → ReadsBy (OneRose names (λ n. 0) (λ n. 0)) (λ n. 0) (λ n. 0) o → o ≡ ReadFault → ⊥
no_fault names o r e = none_rose names (subst (λ p. ReadsBy (OneRose names (λ n. 0) (λ n. 0)) (λ n. 0) (λ n. 0) p) e r)

-- a call that reads nothing, and doesn't end with a fault of reading, leaves all counts
pub kept_reads : (cause : Type 0) (before now : List ℕ → ℕ) (o : Outcome) → now ≡ before → (o ≡ ReadFault → ⊥) → ReadsBy cause before now o
kept_reads cause before now ReadFault same sure = absurd (sure refl)
kept_reads cause before now Done same sure = same
kept_reads cause before now (CheckNo x) same sure = same
kept_reads cause before now (Differ x) same sure = same
kept_reads cause before now (MovesNo x) same sure = same
kept_reads cause before now (PeersFull peers) same sure = same
kept_reads cause before now (PathTooLong p n) same sure = same
kept_reads cause before now WriteFault same sure = same
kept_reads cause before now NoMemory same sure = same
kept_reads cause before now Usage same sure = same
kept_reads cause before now (TooLarge input) same sure = same
kept_reads cause before now (Malformed input number rule) same sure = same
kept_reads cause before now (HopsFull event) same sure = same
kept_reads cause before now (TrieFull event need have arena) same sure = same
kept_reads cause before now (BadLine input line why) same sure = same

-- a refusal of a run's text is one of its reply, whatever the asks hold
pub some_refused : (X : Type 0) (content : Content) (named : Named) (asked : Asked) (o : Outcome) → asked ≡ Run named → TextOfSome {X = X} content named (Err o) → GivesSome content (Some asked) (Err o)
some_refused X content named asked o a t = rw a (by_part t)
  where
    by_part : TextOfSome {X = X} content named (Err o) → GivesSome content (Some (Run named)) (Err o)
    by_part (inl s) = inl s
    by_part (inr t) = inr (t.0, t.1, t.2, ran_refused (told_at content t.1 named t.0) o t.3)

-- a refusal of an input that a command names is one of the command
stops_own : (asked : Asked) (o : Outcome) → StopsIn asked o → IsOf (Some asked) o
stops_own asked Done s = tt
stops_own asked (CheckNo x) s = absurd s.2
stops_own asked (Differ x) s = absurd s.2
stops_own asked (MovesNo x) s = absurd s.2
stops_own asked Usage s = absurd s.2
stops_own asked WriteFault s = tt
stops_own asked NoMemory s = tt
stops_own asked (PeersFull peers) s = absurd s.2
stops_own asked (PathTooLong p n) s = absurd s.2
stops_own asked ReadFault s = s
stops_own asked (TooLarge input) s = s
stops_own asked (Malformed input number rule) s = s
stops_own asked (HopsFull event) s = s
stops_own asked (TrieFull event need have arena) s = s
stops_own asked (BadLine input line why) s = s

pub own_refused : (asked one : Asked) (o : Outcome) → asked ≡ one → StopsIn one o → IsOf (Some asked) o
own_refused asked one o e s = subst (λ a. IsOf (Some a) o) (sym e) (stops_own one o s)

pub check_own : {X : Type 0} (asked : Asked) (name : List ℕ) (r : Result X Outcome) → asked ≡ Check name → IfErr r (StopsAt Printed) → IfErr r (IsOf (Some asked))
check_own asked name (Ok x) e s = tt
check_own asked name (Err o) e s = own_refused asked (Check name) o e (Printed, tt, s)
