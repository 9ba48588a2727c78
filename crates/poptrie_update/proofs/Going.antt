-- What an open lookup reads next, and what is due of it then.
use Rattle.std.proofs.Common.{◌≡◌, ℕ, zero, suc, ◌+◌, ◌-◌, ◌<◌, ◌≤◌, List, Bool, true, false, cond, Option, Some, None, Result, Ok, Err, OnOk, OnErr, IfOk, set, take, drop, refl, sym, arith, subst}
use Rattle.std.specs.Prelude.{nat_eq}
use Rattle.std.proofs.lemmas.Bool.{eq-eqb}
use Rattle.fib_addr.specs.declared.addr.Addr.{Addr}
use Rattle.fib_addr.specs.declared.entry.Hop.{Hop}
use Rattle.fib_addr.specs.Views.{addr_as}
use Rattle.table_model.specs.Entries.{Entries}
use Rattle.fib_addr.specs.Answers.{one_answer, part}
use Rattle.buddy_arena.specs.Places.{is_out}
use Rattle.poptrie_build.specs.Strides.{strides, visits, mixed}
use Rattle.poptrie_build.specs.Tries.{rest, visits_of}
use Rattle.poptrie_build.specs.declared.node.Node.{Node}
use Rattle.poptrie_build.proofs.Filled.{at_most_128}
use Rattle.poptrie_set.specs.Rooms.{safe}
use Rattle.poptrie_set.specs.Lives.{Seen}
use Rattle.poptrie_set.specs.Fits.{ReadsIn}
use Rattle.poptrie_set.specs.Reading.{ReadsOn, bits_after}
use Rattle.poptrie_update.specs.Lives.{Living, Shows, numbered_set}
use Rattle.poptrie_update.specs.Fits.{Open, ReadsOther, ByTruth, Reads, Fits}
use Rattle.poptrie_update.specs.Reads.{IsShowing, Starts, Leads, published_entries}
use Rattle.poptrie_update.specs.Cursors.{OpenLookups, Due, Dues, due_of, lookup_of, with_due, open_at, FitsAll, IsBounded, GoesOn, GoesAsDue, GoesFurther}
use Rattle.poptrie_update.specs.Stages.{CanGo, IsStageRead, Moves}
use Rattle.poptrie_update.specs.declared.live.Other.{Other}
use Rattle.poptrie_update.specs.declared.live.Other.TheVariants as other
use Rattle.poptrie_update.specs.declared.live.At.{At}
use Rattle.poptrie_update.specs.declared.live.At.TheVariants as at
use Rattle.poptrie_update.specs.declared.cursors.Lookup.{Lookup}
use Rattle.poptrie_update.specs.declared.cursors.Stage.{Stage}
use Rattle.poptrie_update.specs.declared.cursors.Stage.TheVariants as stage
use Rattle.poptrie_update.proofs.Opened.{FitsOne, each_fits, fits_set, with_due_here, with_due_other, some_below}

-- ---- how many nodes are visited
one_at_most : (x : Option ℕ) → mixed x ≤ 1
one_at_most None = omega arith
one_at_most (Some h) = omega arith

visits_few : (k d : ℕ) (f : List Bool → ℕ) (a : List Bool) → visits k d f a ≤ k
unfolding visits
visits_few zero d f a = omega arith
visits_few (suc k) d f a = omega (arith, one_at_most (one_answer d f), visits_few k (d - 6) (part (take 6 a) f) (drop 6 a))

few_visits : (s : ℕ) (E : Entries) (a : Addr) → visits_of s E (addr_as a) ≤ strides (rest a.family s)
few_visits s E a = visits_few (strides (rest a.family s)) (rest a.family s) _ _

some_left : (left : ℕ) (nodes : List Node) (N : ℕ → Bool) (leaves : List ℕ) (L : ℕ → Bool) (i : ℕ) (bits : List Bool) (h : ℕ) → ReadsOn left nodes N leaves L i bits h → 0 < left
unfolding ReadsOn
some_left zero nodes N leaves L i bits h r = absurd r
some_left (suc left) nodes N leaves L i bits h r = omega arith

-- ---- what is read in the set of a lookup
abbrev pub one_open : ℕ → ℕ → ℕ → List Bool → ℕ → ℕ → Open
one_open set since i bits h left = record { set = set; reader = record { since = since; node = i; bits = bits; answer = h; left = left } }

-- it is read on from in some places of its set, and what is read on from in these is read as it is due
pub record ReadsBy (l : Living) (set since i : ℕ) (bits : List Bool) (h left : ℕ) : Type 0 where
  pub N : ℕ → Bool
  pub L : ℕ → Bool
  pub reads : ReadsOn left (numbered_set l set).nodes.space.cells N (numbered_set l set).leaves.space.cells L i bits h
  pub again : (more j : ℕ) (next : List Bool) → ReadsOn more (numbered_set l set).nodes.space.cells N (numbered_set l set).leaves.space.cells L j next h → Reads l (one_open set since j next h more)

abbrev ReadsIn_by : Living → Bool → ℕ → ℕ → List Bool → ℕ → ℕ → Type 0
ReadsIn_by l b since i bits h left = ByTruth b (ReadsIn l.selected (record { since = since; node = i; bits = bits; answer = h; left = left })) (ReadsOther l.state l.other (record { since = since; node = i; bits = bits; answer = h; left = left }))

-- the same by whether the set is the selected one
record By (l : Living) (b : Bool) (since i : ℕ) (bits : List Bool) (h left : ℕ) : Type 0 where
  N : ℕ → Bool
  L : ℕ → Bool
  reads : ReadsOn left (cond b l.selected l.other).nodes.space.cells N (cond b l.selected l.other).leaves.space.cells L i bits h
  again : (more j : ℕ) (next : List Bool) → ReadsOn more (cond b l.selected l.other).nodes.space.cells N (cond b l.selected l.other).leaves.space.cells L j next h → ReadsIn_by l b since j next h more

by_other : (s o : Seen) (n : ℕ) (x : Other) (since i : ℕ) (bits : List Bool) (h left : ℕ) → ReadsOther x o (record { since = since; node = i; bits = bits; answer = h; left = left }) → By (record { selected = s; other = o; state = x; number = n }) false since i bits h left
by_other s o n other.Free since i bits h left r = absurd r
by_other s o n (other.Retired end) since i bits h left r = record { N = is_out o.nodes.space.free; L = is_out o.leaves.space.free; reads = r.1.1; again = λ more j next q. (r.0, (r.1.0, q)) }
by_other s o n other.Built since i bits h left r = absurd r
by_other s o n other.Replaced since i bits h left r = record { N = is_out o.nodes.space.free; L = is_out o.leaves.space.free; reads = r.1; again = λ more j next q. (r.0, q) }

by_set : (l : Living) (b : Bool) (since i : ℕ) (bits : List Bool) (h left : ℕ) → ReadsIn_by l b since i bits h left → By l b since i bits h left
by_set l true since i bits h left r = record { N = safe l.selected.nodes l.selected.made since; L = safe l.selected.leaves l.selected.made since; reads = r.1; again = λ more j next q. (r.0, q) }
by_set l false since i bits h left r = by_other l.selected l.other l.number l.state since i bits h left r

pub reads_by : (l : Living) (set since i : ℕ) (bits : List Bool) (h left : ℕ) → Reads l (one_open set since i bits h left) → ReadsBy l set since i bits h left
reads_by l set since i bits h left r =
    let b = by_set l (nat_eq set l.number) since i bits h left r in
    record { N = b.N; L = b.L; reads = b.reads; again = b.again }

-- ---- a go
-- a lookup that fits can go
pub can_go : (l : Living) (k : Lookup) (d : Due) → FitsOne l k d → CanGo l k.addr k.stage
can_go l k d f = at_stage k.stage f.0.bounded f.1
  where
    at_stage : (t : Stage) → IsBounded l d.left t → Fits l (open_at l.selected.direct_bits k.addr k.since t d) → CanGo l k.addr t
    at_stage stage.Word b r = tt
    at_stage (stage.Node i set t) b r =
        let w = reads_by l set k.since i (bits_after l.selected.direct_bits t k.addr) d.answer d.left r.0 in
        let some = some_left d.left _ w.N _ w.L i (bits_after l.selected.direct_bits t k.addr) d.answer w.reads in
        let wide = at_most_128 l.selected.family in
        (omega (arith, b, some, wide), (d.left, d.answer, w.N, w.L, w.reads))

pub past_first : (t : Stage) → (t ≡ stage.Word → ⊥) → (i : ℕ) × (set : ℕ) × (u : ℕ) × (t ≡ stage.Node i set u)
past_first stage.Word h = absurd (h refl)
past_first (stage.Node i set u) h = (i, set, u, refl)

module _ (l : Living) (n : ℕ) (k : Lookup) (old new : OpenLookups) (due : Dues) (o : lookup_of old n ≡ Some k) (f : FitsAll l old due) where
  abbrev s : ℕ
  s = l.selected.direct_bits

  abbrev moved : ℕ → ℕ → ℕ → Lookup
  moved i set t = record { addr = k.addr; since = k.since; stage = stage.Node i set t }

  -- it is closed
  closed : new ≡ set old n None → FitsAll l new due
  closed e = subst (λ (cs : OpenLookups). FitsAll l cs due) (sym e) (fits_set l old due due n None (some_below old n k o) (λ m q. refl) (λ j q. absurd (cc)) f)

  -- it stands at a node, from which it reads on as it is due
  stands : (i chosen t : ℕ) (d : Due) → new ≡ set old n (Some (moved i chosen t)) → t + d.left ≤ strides (rest l.selected.family s) → Reads l (one_open chosen k.since i (bits_after s t k.addr) d.answer d.left) → FitsAll l new (with_due n d due)
  stands i chosen t d e b r =
      let g = f.going n k o in
      let one : FitsOne l (moved i chosen t) d = (record { family = g.family; started = g.started; bounded = b }, (r, tt)) in
      let here : (j : Lookup) → Some (moved i chosen t) ≡ Some j → FitsOne l j (with_due n d due n) = λ j q.
      let same : moved i chosen t ≡ j = cc in
      subst (λ (x : Lookup). FitsOne l x (with_due n d due n)) same (subst (λ (x : Due). FitsOne l (moved i chosen t) x) (sym (with_due_here n d due)) one) in
      subst (λ (cs : OpenLookups). FitsAll l cs (with_due n d due)) (sym e) (fits_set l old due (with_due n d due) n (Some (moved i chosen t)) (some_below old n k o) (with_due_other n d due) here f)

  goes_on : (i chosen t : ℕ) → new ≡ set old n (Some (moved i chosen t)) → GoesOn old new n
  goes_on i chosen t e = (k, o, (i, chosen, t, e))

  -- the first go
  pub first_goes : (a : At) (r : Option Hop) (E : Entries) → Moves r a k n old new → Starts a l E k.addr → GoesAsDue r (due_of s E k.addr) n l old new due
  first_goes (at.Answer h) r E m w = subst (λ (x : Option Hop). GoesAsDue x (due_of s E k.addr) n l old new due) (sym m.0) (w.1, w.0, m.1, closed m.1)
  first_goes (at.Node i chosen t) r E m w =
      let g = f.going n k o in
      let d = due_of s E k.addr in
      let few : visits_of s E (addr_as k.addr) ≤ strides (rest l.selected.family s) = subst (λ x. visits_of s E (addr_as k.addr) ≤ strides (rest x s)) g.family (few_visits s E k.addr) in
      let reads = subst (λ (u : ℕ). ReadsOn d.left l.selected.nodes.space.cells (safe l.selected.nodes l.selected.made k.since) l.selected.leaves.space.cells (safe l.selected.leaves l.selected.made k.since) i (bits_after s u k.addr) d.answer) (sym w.1) (w.2 k.since) in
      let some = some_left d.left _ _ _ _ i (bits_after s t k.addr) d.answer reads in
      let r1 : ReadsIn_by l (nat_eq chosen l.number) k.since i (bits_after s t k.addr) d.answer d.left = subst (λ (b : Bool). ReadsIn_by l b k.since i (bits_after s t k.addr) d.answer d.left) (sym (eq-eqb chosen l.number w.0)) (g.started, reads) in
      subst (λ (x : Option Hop). GoesAsDue x d n l old new due) (sym m.0) (some, goes_on i chosen t m.1, stands i chosen t d m.1 (omega (arith, few, w.1)) r1)

  -- each further go
  leads_goes : (i chosen t : ℕ) (x : At) (r : Option Hop) (d : Due) (y : ReadsBy l chosen k.since i (bits_after s t k.addr) d.answer d.left) → t + d.left ≤ strides (rest l.selected.family s) → Moves r x k n old new → Leads x d.left chosen (numbered_set l chosen).nodes.space.cells y.N (numbered_set l chosen).leaves.space.cells y.L s t k.addr d.answer → GoesFurther r d n l old new due
  leads_goes i chosen t (at.Answer h) r d y b m w = (0, w.0, subst (λ (z : Option Hop). GoesAsDue z (record { answer = d.answer; left = 0 }) n l old new due) (sym m.0) (refl, w.1, m.1, closed m.1))
  leads_goes i chosen t (at.Node j to u) r d y b m w =
      let before = w.2.0 in
      let next : Due = record { answer = d.answer; left = before } in
      let some = some_left before _ y.N _ y.L j (bits_after s u k.addr) d.answer w.2.2 in
      let reads : Reads l (one_open chosen k.since j (bits_after s u k.addr) d.answer before) = y.again before j (bits_after s u k.addr) w.2.2 in
      let reads_to : Reads l (one_open to k.since j (bits_after s u k.addr) d.answer before) = subst (λ (z : ℕ). Reads l (one_open z k.since j (bits_after s u k.addr) d.answer before)) (sym w.0) reads in
      (before, w.2.1, subst (λ (z : Option Hop). GoesAsDue z next n l old new due) (sym m.0) (some, goes_on j to u m.1, stands j to u next m.1 (omega (arith, b, w.1, w.2.1)) reads_to))

  pub further_goes : (i chosen t : ℕ) (a : At) (r : Option Hop) → k.stage ≡ stage.Node i chosen t → Moves r a k n old new → IsStageRead a l k.addr (stage.Node i chosen t) → GoesFurther r (due n) n l old new due
  further_goes i chosen t a r q m w =
      let g = f.going n k o in
      let fits = subst (λ (x : Stage). Fits l (open_at s k.addr k.since x (due n))) q (each_fits l old due f n k o) in
      let bound = subst (λ (x : Stage). IsBounded l (due n).left x) q g.bounded in
      let y = reads_by l chosen k.since i (bits_after s t k.addr) (due n).answer (due n).left fits.0 in
      leads_goes i chosen t a r (due n) y bound m (w (due n).left (due n).answer y.N y.L y.reads)

-- what is due after a go
pub goes_fits : (r : Option Hop) (d : Due) (n : ℕ) (l : Living) (old new : OpenLookups) (due : Dues) → GoesAsDue r d n l old new due → (after : Dues) × FitsAll l new after
goes_fits (Some h) d n l old new due g = (due, g.3)
goes_fits None d n l old new due g = (with_due n d due, g.2)

-- and after a go that may be of no open lookup, for a caller that doesn't follow what is due
module _ (n : ℕ) (l : Living) (old new : OpenLookups) (showing : IsShowing l) (due : Dues) (f : FitsAll l old due) where
  ok_fits : (x : Option Hop) (k : Lookup) → lookup_of old n ≡ Some k → (k.stage ≡ stage.Word → (L M : Entries) → Shows l L M → GoesAsDue x (due_of l.selected.direct_bits (published_entries l L M k.addr) k.addr) n l old new due) → ((k.stage ≡ stage.Word → ⊥) → GoesFurther x (due n) n l old new due) → (after : Dues) × FitsAll l new after
  ok_fits x k e first further = by k.stage first further
    where
      by : (t : Stage) → (t ≡ stage.Word → (L M : Entries) → Shows l L M → GoesAsDue x (due_of l.selected.direct_bits (published_entries l L M k.addr) k.addr) n l old new due) → ((t ≡ stage.Word → ⊥) → GoesFurther x (due n) n l old new due) → (after : Dues) × FitsAll l new after
      by stage.Word a b = goes_fits x (due_of l.selected.direct_bits (published_entries l showing.0 showing.1 k.addr) k.addr) n l old new due (a refl showing.0 showing.1 showing.2)
      by (stage.Node i chosen t) a b = let g = b (λ e. cc) in goes_fits x (record { answer = (due n).answer; left = g.0 }) n l old new due g.2

  pub go_fits : {E : Type 0} (r : Result (Option Hop) E) → OnErr r ((lookup_of old n ≡ None) × (new ≡ old)) → OnOk r ((k : Lookup) × (lookup_of old n ≡ Some k))
      → IfOk r (λ x. (k : Lookup) → lookup_of old n ≡ Some k → k.stage ≡ stage.Word → (L M : Entries) (d : Dues) → Shows l L M → FitsAll l old d → GoesAsDue x (due_of l.selected.direct_bits (published_entries l L M k.addr) k.addr) n l old new d)
      → IfOk r (λ x. (k : Lookup) → lookup_of old n ≡ Some k → (k.stage ≡ stage.Word → ⊥) → (d : Dues) → FitsAll l old d → GoesFurther x (d n) n l old new d)
      → (after : Dues) × FitsAll l new after
  go_fits (Err e) shut is first further = (due, subst (λ (cs : OpenLookups). FitsAll l cs due) (sym shut.1) f)
  go_fits (Ok x) shut is first further = ok_fits x is.0 is.1 (λ w L M sh. first is.0 is.1 w L M due sh f) (λ w. further is.0 is.1 w due f)
