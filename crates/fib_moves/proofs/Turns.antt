-- The turn's entry and what is within the event's prefix, as one table.
use Rattle.std.proofs.Common.{◌≡◌, ◌≢◌, ℕ, ◌+◌, ◌-◌, ◌≤◌, ◌<◌, List, [], ◌∷◌, ◌++◌, Bool, true, false, cond, Option, Some, None, length, map, refl, sym, ap, subst, ◌∙◌, arith, length-append, ◌⊎◌, inl, inr}
use Rattle.std.specs.List.{AllByRecursion}
use Rattle.std.specs.Map.{keys_of}
use Rattle.std.specs.Option.{option_to_list}
use Rattle.table_model.specs.Address.{Prefix, same_family}
use Rattle.table_model.specs.Bits.{begins}
use Rattle.table_model.specs.Width.{width}
use Rattle.table_model.specs.declared.family.Family.{Family}
use Rattle.table_model.proofs.SamePrefix.{same_family_is}
use Rattle.table_model.specs.Table.{Entry, Table, IsTable, root, half, here, inherit, cut}
use Rattle.table_model.specs.Entries.{Entries, of_family, of_table}
use Rattle.table_model.specs.Changes.{Change}
use Rattle.table_model.proofs.Cut.{entry}
use Rattle.table_model.specs.Regions.{entry_at, lift, above}
use Rattle.table_model.specs.Sets.{answers}
use Rattle.table_model.proofs.Join.{distinct_lift, short_lift}
use Rattle.table_model.proofs.Region.{begins_append, cut_lift}
use Rattle.table_model.proofs.Patch.{cut_cut, begins_rest}
use Rattle.table_model.proofs.Same.{cut_nil}
use Rattle.kept_model.specs.Between.{AreEntries, entry_hop_at, change_at, between}
use Rattle.kept_model.proofs.Alike.{alike_changes, placed_are}
use Rattle.kept_model.proofs.Families.{hop_none, table_of}
use Rattle.kept_model.proofs.Repairs.{table_entries}
use Rattle.kept_model.proofs.Patches.{table_hop, family_hop, family_table}
use Rattle.kept_model.specs.Parts.{BothOrNeither, ArePart}
use Rattle.fib_addr.specs.Views.{prefix_as}
use Rattle.fib_addr.specs.declared.prefix.Prefix as code
use Rattle.orig_tree.specs.Views.{Labels, InPlace}
use Rattle.orig_tree.specs.Spots.{Spot, spot_answers}
use Rattle.orig_tree.proofs.Telling as telling
use Rattle.moves_model.specs.Sets.{new_entry, inner_set, near_of}
use Rattle.moves_model.specs.Nearest.{nearest}
use Rattle.moves_model.specs.Rows.{near_in}
use Rattle.moves_model.proofs.Whole.{near_entries}
use Rattle.moves_model.proofs.Regions.{inner_alike}
use Rattle.moves_model.specs.Way.{AlikeBeside, turn, event_set, turn_entry, event_hop}
use Rattle.moves_model.proofs.Event.{event_off, event_turn, event_within, turn_on, same_or}
use Rattle.fib_addr.proofs.Parts.{length_prefix}
use Rattle.std.proofs.lemmas.Bool.{cases_lt}
use Rattle.fib_moves.specs.declared.way.LastBlocked.{LastBlocked}
use Rattle.fib_moves.specs.Turns.{around, gets_at, TurnCase, AreTurned}
use Rattle.fib_moves.proofs.Passing.{near_alike}
use Rattle.fib_moves.proofs.Whole.{both_change}

-- ---- one entry more

apart : (b : Bool) → b ≡ true → b ≡ false → ⊥
apart b e n = cc

other : (q s : List Bool) (g : ℕ) (M : Table) → q ≢ s → entry_at q (entry s g ∷ M) ≡ entry_at q M
other [] [] g M n = absurd (n refl)
other [] (b ∷ s) g M n = refl
other (true ∷ q) [] g M n = refl
other (false ∷ q) [] g M n = refl
other (true ∷ q) (true ∷ s) g M n = other q s g (half true M) (λ e. n (ap (λ x. true ∷ x) e))
other (false ∷ q) (false ∷ s) g M n = other q s g (half false M) (λ e. n (ap (λ x. false ∷ x) e))
other (true ∷ q) (false ∷ s) g M n = refl
other (false ∷ q) (true ∷ s) g M n = refl

at_it : (s : List Bool) (g : ℕ) (M : Table) → entry_at s (entry s g ∷ M) ≡ Some g
at_it [] g M = refl
at_it (true ∷ s) g M = at_it s g (half true M)
at_it (false ∷ s) g M = at_it s g (half false M)

nowhere : (q : List Bool) → entry_at q [] ≡ None
nowhere q = ap root (cut_nil q)

not_within : (p q : List Bool) (L : Table) → begins p q ≡ false → entry_at q (lift p L) ≡ None
not_within p q [] n = nowhere q
not_within p q (e ∷ L) n = other q (p ++ e.prefix) e.hop (lift p L) (λ x. apart (begins p q) (ap (begins p) x ∙ begins_append p e.prefix) n) ∙ not_within p q L n

none_more : (r : List Bool) → r ++ [] ≡ r
none_more [] = refl
none_more (b ∷ r) = ap (λ x. b ∷ x) (none_more r)

-- ---- the two together

-- there is no entry at r, or p is longer
abbrev Fine : List Bool → Option ℕ → List Bool → Type 0
Fine r o p = (o ≡ None) ⊎ (length r < length p)

longer_not : (r p x : List Bool) → length r < length p → p ++ x ≢ r ++ []
longer_not r p x l e = omega (arith, l, length-append p x, ap length e, ap length (none_more r))

lifted_at : (p x : List Bool) (L : Table) → entry_at (p ++ x) (lift p L) ≡ entry_at x L
lifted_at p x L = ap root (cut_cut p x (lift p L)) ∙ ap (entry_at x) (cut_lift p L)

around_in : (r : List Bool) (o : Option ℕ) (p x : List Bool) (L : Table) → Fine r o p → entry_at (p ++ x) (around r o p L) ≡ entry_at x L
around_in r None p x L f = lifted_at p x L
around_in r (Some g) p x L (inl e) = cc
around_in r (Some g) p x L (inr l) = other (p ++ x) (r ++ []) g (lift p L) (longer_not r p x l) ∙ lifted_at p x L

around_at : (r : List Bool) (o : Option ℕ) (p : List Bool) (L : Table) → begins p r ≡ false → entry_at r (around r o p L) ≡ o
around_at r None p L n = not_within p r L n
around_at r (Some g) p L n = ap (λ s. entry_at r (entry s g ∷ lift p L)) (none_more r) ∙ at_it r g (lift p L)

around_off : (r : List Bool) (o : Option ℕ) (p q : List Bool) (L : Table) → begins p q ≡ false → q ≢ r → entry_at q (around r o p L) ≡ None
around_off r None p q L n x = not_within p q L n
around_off r (Some g) p q L n x = other q (r ++ []) g (lift p L) (λ e. x (e ∙ none_more r)) ∙ not_within p q L n

all_longer : (r p : List Bool) (L : Table) → length r < length p → AllByRecursion (λ (f : Entry). r ++ [] ≢ f.prefix) (lift p L)
all_longer r p [] l = tt
all_longer r p (e ∷ L) l = (λ x. longer_not r p e.prefix l (sym x), all_longer r p L l)

pub around_table : (w d : ℕ) (r : List Bool) (o : Option ℕ) (p : List Bool) (L : Table) → d + length p ≡ w → IsTable d L → Fine r o p → IsTable w (around r o p L)
around_table w d r None p L n t f =
    let e : length p + d ≡ w = omega (arith, n) in
    (distinct_lift p L t.0, subst (λ (m : ℕ). AllByRecursion (λ (e : Entry). length e.prefix ≤ m) (lift p L)) e (short_lift p d L t.1))
around_table w d r (Some g) p L n t (inl x) = cc
around_table w d r (Some g) p L n t (inr l) =
    let e : length p + d ≡ w = omega (arith, n) in
    ((all_longer r p L l, distinct_lift p L t.0), (omega (arith, n, l, length-append r [], ap length (none_more r)), subst (λ (m : ℕ). AllByRecursion (λ (e : Entry). length e.prefix ≤ m) (lift p L)) e (short_lift p d L t.1)))

-- as entries
pub around_told : (f : Family) (q : Prefix) (o : Option ℕ) (p : List Bool) (L : Table) → q.family ≡ f → map (λ k. (q, k)) (option_to_list o) ++ of_table f (lift p L) ≡ of_table f (around q.bits o p L)
around_told f q o p L e =
    ap (λ x. x ++ of_table f (lift p L)) (telling.told_own q o ∙ ap (λ g. of_table g (lift q.bits (here o))) e)
    ∙ sym (telling.seen_append f (lift q.bits (here o)) (lift p L))

-- ---- the whole table's parts

module _ (w : ℕ) (R T : Table) (p : List Bool) (s : Spot) (l : length p ≤ w) (t : IsTable w T) (y : AlikeBeside w p R T)
    (n : s.bits + length p ≡ w) (a : (x : List Bool) → spot_answers s x ≡ answers R p x) (e : s.entries ≡ cut p T)
    (o u : Option ℕ) (h : ℕ) (had gets : Table) (part : ArePart s.entries (near_of s.bits (spot_answers s) s.entries h) had gets)
    (hop : h ≡ event_hop w R p T) (fo : Fine (turn p w T) o p) (fu : Fine (turn p w T) u p)
    (at : begins p (turn p w T) ≡ false → BothOrNeither (entry_at (turn p w T) T) (turn_entry w R p T) o u) where
  r : List Bool
  r = turn p w T

  near_p : near_of s.bits (spot_answers s) s.entries h ≡ near_of (w - length p) (answers R p) (cut p T) (event_hop w R p T)
  near_p =
      let m : s.bits ≡ w - length p = omega (arith, n) in
      near_alike s.bits (spot_answers s) (answers R p) s.entries h (λ x k. a x)
      ∙ (ap (λ d. near_of d (answers R p) s.entries h) m ∙ (ap (λ L. near_of (w - length p) (answers R p) L h) e ∙ ap (near_of (w - length p) (answers R p) (cut p T)) hop))

  in_p : (x : List Bool) → BothOrNeither (entry_at (p ++ x) T) (entry_at (p ++ x) (nearest w R T)) (entry_at (p ++ x) (around (turn p w T) o p had)) (entry_at (p ++ x) (around (turn p w T) u p gets))
  in_p x =
      let A : entry_at x s.entries ≡ entry_at (p ++ x) T = ap (entry_at x) e ∙ sym (ap root (cut_cut p x T)) in
      let B : entry_at x (near_of s.bits (spot_answers s) s.entries h) ≡ entry_at (p ++ x) (nearest w R T) =
      ap (entry_at x) near_p ∙ (sym (event_within w R T p l t y x) ∙ sym (ap root (cut_cut p x (nearest w R T)))) in
      subst (λ (z : Option ℕ). BothOrNeither (entry_at (p ++ x) T) (entry_at (p ++ x) (nearest w R T)) (entry_at (p ++ x) (around (turn p w T) o p had)) z) (sym (around_in (turn p w T) u p x gets fu))
      (subst (λ (z : Option ℕ). BothOrNeither (entry_at (p ++ x) T) (entry_at (p ++ x) (nearest w R T)) z (entry_at x gets)) (sym (around_in (turn p w T) o p x had fo))
      (subst (λ (z : Option ℕ). BothOrNeither (entry_at (p ++ x) T) z (entry_at x had) (entry_at x gets)) B
      (subst (λ (z : Option ℕ). BothOrNeither z (entry_at x (near_of s.bits (spot_answers s) s.entries h)) (entry_at x had) (entry_at x gets)) A (part x))))

  at_r : begins p (turn p w T) ≡ false → BothOrNeither (entry_at (turn p w T) T) (entry_at (turn p w T) (nearest w R T)) (entry_at (turn p w T) (around (turn p w T) o p had)) (entry_at (turn p w T) (around (turn p w T) u p gets))
  at_r f =
      subst (λ (z : Option ℕ). BothOrNeither (entry_at (turn p w T) T) (entry_at (turn p w T) (nearest w R T)) (entry_at (turn p w T) (around (turn p w T) o p had)) z) (sym (around_at (turn p w T) u p gets f))
      (subst (λ (z : Option ℕ). BothOrNeither (entry_at (turn p w T) T) (entry_at (turn p w T) (nearest w R T)) z u) (sym (around_at (turn p w T) o p had f))
      (subst (λ (z : Option ℕ). BothOrNeither (entry_at (turn p w T) T) z o u) (sym (event_turn w R T p l t y f)) (at f)))

  off_r : (q : List Bool) → begins p q ≡ false → q ≢ turn p w T → BothOrNeither (entry_at q T) (entry_at q (nearest w R T)) (entry_at q (around (turn p w T) o p had)) (entry_at q (around (turn p w T) u p gets))
  off_r q f x = inr (around_off (turn p w T) o p q had f x, around_off (turn p w T) u p q gets f x, sym (event_off w R T p q l t y f x))

  pub whole_parts : ArePart T (nearest w R T) (around (turn p w T) o p had) (around (turn p w T) u p gets)
  whole_parts q = by_begins (begins p q) refl
    where
      by_begins : (b : Bool) → begins p q ≡ b → BothOrNeither (entry_at q T) (entry_at q (nearest w R T)) (entry_at q (around (turn p w T) o p had)) (entry_at q (around (turn p w T) u p gets))
      by_begins true f =
          let x = begins_rest p q f in
          subst (λ (z : List Bool). BothOrNeither (entry_at z T) (entry_at z (nearest w R T)) (entry_at z (around (turn p w T) o p had)) (entry_at z (around (turn p w T) u p gets))) (sym x.1) (in_p x.0)
      by_begins false f = elim (same_or q (turn p w T)) [
        | inl x ↦ subst (λ (z : List Bool). BothOrNeither (entry_at z T) (entry_at z (nearest w R T)) (entry_at z (around (turn p w T) o p had)) (entry_at z (around (turn p w T) u p gets))) (sym x) (at_r (ap (begins p) (sym x) ∙ f))
        | inr x ↦ off_r q f x
      ]

-- ---- the changes

-- by what differs of a family's tables
pub changes_alike : (k : Labels) (had gets : Table) (cs : List Change) → InPlace k.entries → AllByRecursion (λ (q : Prefix). q.family ≡ k.family) (keys_of k.entries)
    → IsTable (width k.family) had → IsTable (width k.family) gets
    → ArePart (of_family k.family k.entries) (nearest (width k.family) (of_family k.family k.routes) (of_family k.family k.entries)) had gets
    → cs ≡ between (of_table k.family had) (of_table k.family gets) → cs ≡ between k.entries (near_in k.family k.routes k.entries)
changes_alike k had gets cs i all ht gt parts told =
    told
    ∙ sym (alike_changes (of_table k.family had) (of_table k.family gets) k.entries (near_in k.family k.routes k.entries) (table_entries k.family had ht) (table_entries k.family gets gt) (placed_are k.entries i) (near_entries k.family k.routes k.entries (placed_are k.entries i) all) one_change)
  where
    one_change : (q : Prefix) → change_at q (entry_hop_at q k.entries) (entry_hop_at q (near_in k.family k.routes k.entries)) ≡ change_at q (entry_hop_at q (of_table k.family had)) (entry_hop_at q (of_table k.family gets))
    one_change q = by_family (same_family q.family k.family) refl
      where
        f : Family
        f = k.family

        N : Entries
        N = near_in k.family k.routes k.entries

        by_family : (b : Bool) → same_family q.family k.family ≡ b → change_at q (entry_hop_at q k.entries) (entry_hop_at q (near_in k.family k.routes k.entries)) ≡ change_at q (entry_hop_at q (of_table k.family had)) (entry_hop_at q (of_table k.family gets))
        by_family false m =
            ap (λ o. change_at q o (entry_hop_at q (near_in k.family k.routes k.entries))) (hop_none k.family q k.entries all m) ∙ (ap (change_at q None) (hop_none k.family q (near_in k.family k.routes k.entries) (table_of k.family (nearest (width k.family) (of_family k.family k.routes) (of_family k.family k.entries))) m)
            ∙ sym (ap (λ o. change_at q o (entry_hop_at q (of_table k.family gets))) (hop_none k.family q (of_table k.family had) (table_of k.family had) m) ∙ ap (change_at q None) (hop_none k.family q (of_table k.family gets) (table_of k.family gets) m)))
        by_family true m = subst (λ (y : Prefix). change_at y (entry_hop_at y k.entries) (entry_hop_at y (near_in k.family k.routes k.entries)) ≡ change_at y (entry_hop_at y (of_table k.family had)) (entry_hop_at y (of_table k.family gets))) is (at q.bits)
          where
            is : record { family = k.family; bits = q.bits } ≡ q
            is = ap (λ (g : Family). let y : Prefix = record { family = g; bits = q.bits } in y) (sym (same_family_is q.family k.family m))

            at : (x : List Bool) → (let y : Prefix = record { family = k.family; bits = x } in change_at y (entry_hop_at y k.entries) (entry_hop_at y (near_in k.family k.routes k.entries)) ≡ change_at y (entry_hop_at y (of_table k.family had)) (entry_hop_at y (of_table k.family gets)))
            at x =
                let y : Prefix = record { family = k.family; bits = x } in
                let U = nearest (width k.family) (of_family k.family k.routes) (of_family k.family k.entries) in
                ap (λ o. change_at y o (entry_hop_at y (near_in k.family k.routes k.entries))) (sym (family_hop k.family x k.entries))
                ∙ (ap (change_at y (entry_at x (of_family k.family k.entries))) (table_hop k.family x U)
                ∙ (both_change y (entry_at x (of_family k.family k.entries)) (entry_at x U) (entry_at x had) (entry_at x gets) (parts x)
                ∙ (ap (λ o. change_at y o (entry_at x gets)) (sym (table_hop k.family x had)) ∙ ap (change_at y (entry_hop_at y (of_table k.family had))) (sym (table_hop k.family x gets)))))

-- ---- what the code tells

pub turn_case : (s : Spot) (len : ℕ) (t : LastBlocked) (gets o n : Option ℕ) (hop : ℕ) → t.prefix.len ≢ len → gets ≡ gets_at s t → BothOrNeither t.old gets o n → hop ≡ inherit gets t.inherited → TurnCase s len t o n hop
turn_case s len t gets o n hop x e b h = inr (x, subst (λ (z : Option ℕ). BothOrNeither t.old z o n) e b, h ∙ ap (λ z. inherit z t.inherited) e)

pub bits_long : (p : code.Prefix) → length (prefix_as p).bits ≡ p.len
bits_long p = length_prefix (width p.family) p.len p.bits p.fits

shorter : (p q : code.Prefix) → q.len ≢ p.len → q.len ≤ p.len → length (prefix_as q).bits < length (prefix_as p).bits
shorter p q n l = by_two (length (prefix_as q).bits) (length (prefix_as p).bits) q.len p.len (bits_long q) (bits_long p) n l
  where
    by_two : (a b x y : ℕ) → a ≡ x → b ≡ y → x ≢ y → x ≤ y → a < b
    by_two a b x y e f n l = elim (cases_lt x y) [
      | inl z ↦ omega (arith, z, e, f)
      | inr z ↦ let w : x ≡ y = omega (arith, z, l) in absurd (n w)
    ]

pub fine_old : (s : Spot) (p : code.Prefix) (t : LastBlocked) (o n : Option ℕ) (hop : ℕ) → t.prefix.len ≤ p.len → TurnCase s p.len t o n hop → Fine (prefix_as t.prefix).bits o (prefix_as p).bits
fine_old s p t o n hop l (inl x) = inl x.1
fine_old s p t o n hop l (inr x) = inr (shorter p t.prefix x.0 l)

pub fine_new : (s : Spot) (p : code.Prefix) (t : LastBlocked) (o n : Option ℕ) (hop : ℕ) → t.prefix.len ≤ p.len → TurnCase s p.len t o n hop → Fine (prefix_as t.prefix).bits n (prefix_as p).bits
fine_new s p t o n hop l (inl x) = inl x.2
fine_new s p t o n hop l (inr x) = inr (shorter p t.prefix x.0 l)

pub event_list : (f : Family) (q : Prefix) (o : Option ℕ) (p : List Bool) (L : Table) (X Y Z : Entries) → q.family ≡ f → X ≡ [] → Y ≡ X ++ map (λ k. (q, k)) (option_to_list o) → Z ≡ Y ++ of_table f (lift p L) → Z ≡ of_table f (around q.bits o p L)
event_list f q o p L X Y Z e x y z =
    z ∙ (ap (λ v. v ++ of_table f (lift p L)) (y ∙ ap (λ v. v ++ map (λ k. (q, k)) (option_to_list o)) x) ∙ around_told f q o p L e)

pub event_entries : (p : code.Prefix) (d : ℕ) (r : List Bool) (o : Option ℕ) (L : Table) (Z : Entries) → d + p.len ≡ width p.family → IsTable d L → Fine r o (prefix_as p).bits → Z ≡ of_table p.family (around r o (prefix_as p).bits L) → AreEntries Z
event_entries p d r o L Z n t f z =
    subst (λ (E : Entries). AreEntries E) (sym z)
    (table_entries p.family (around r o (prefix_as p).bits L) (around_table (width p.family) d r o (prefix_as p).bits L (omega (arith, n, bits_long p)) t f))

-- ---- from the way's end

front_long : (r p : List Bool) → begins r p ≡ true → length r ≤ length p
front_long r p b = let x = begins_rest r p b in omega (arith, ap length x.1, length-append r x.0)

pub turn_short : (w : ℕ) (T : Table) (p : code.Prefix) (t : LastBlocked) → (prefix_as t.prefix).bits ≡ turn (prefix_as p).bits w T → t.prefix.len ≤ p.len
turn_short w T p t e =
    omega (arith, bits_long p, bits_long t.prefix, ap length e, front_long (turn (prefix_as p).bits w T) (prefix_as p).bits (turn_on (prefix_as p).bits w T))

as_long : (r p : List Bool) → begins r p ≡ true → length p ≤ length r → r ≡ p
as_long r p b l =
    let x = begins_rest r p b in
    let z : length x.0 ≡ 0 = omega (arith, ap length x.1, length-append r x.0, l) in
    sym (x.1 ∙ (ap (λ y. r ++ y) (no_length x.0 z) ∙ none_more r))
  where
    no_length : (y : List Bool) → length y ≡ 0 → y ≡ []
    no_length [] e = refl
    no_length (b ∷ y) e = absurd (omega (arith, e))

pub self : (p : List Bool) → begins p p ≡ true
self p = ap (begins p) (sym (none_more p)) ∙ begins_append p []

not_front : (p r : List Bool) → length r < length p → begins p r ≡ false
not_front p r l = by_test (begins p r) refl
  where
    by_test : (b : Bool) → begins p r ≡ b → b ≡ false
    by_test false e = refl
    by_test true e = absurd (omega (arith, l, front_long p r e))

module _ (k : Labels) (p : code.Prefix) (t : LastBlocked) (s : Spot) (cs : List Change) (f : p.family ≡ k.family)
    (i : InPlace k.entries) (all : AllByRecursion (λ (q : Prefix). q.family ≡ k.family) (keys_of k.entries))
    (y : AlikeBeside (width k.family) (prefix_as p).bits (of_family k.family k.routes) (of_family k.family k.entries))
    (n : s.bits + p.len ≡ width k.family) (a : (x : List Bool) → spot_answers s x ≡ answers (of_family k.family k.routes) (prefix_as p).bits x)
    (e : s.entries ≡ cut (prefix_as p).bits (of_family k.family k.entries))
    (r : (prefix_as t.prefix).bits ≡ turn (prefix_as p).bits (width k.family) (of_family k.family k.entries))
    (old : t.old ≡ entry_at (prefix_as t.prefix).bits (of_family k.family k.entries))
    (inherited : t.inherited ≡ above (prefix_as t.prefix).bits (of_family k.family k.entries) 0) (v : AreTurned s p t cs) where
  abbrev w : ℕ
  w = width k.family

  abbrev R : Table
  R = of_family k.family k.routes

  abbrev T : Table
  T = of_family k.family k.entries

  abbrev P : List Bool
  P = (prefix_as p).bits

  short : t.prefix.len ≤ p.len
  short = turn_short (width k.family) (of_family k.family k.entries) p t r

  long : s.bits + length (prefix_as p).bits ≡ width k.family
  long = omega (arith, n, bits_long p)

  set_is : inner_set s.bits (spot_answers s) s.entries ≡ event_set w R P T
  set_is =
      let m : s.bits ≡ width k.family - length (prefix_as p).bits = omega (arith, long) in
      (inner_alike s.bits (spot_answers s) (answers R P) s.entries (λ x u. a x)).0
      ∙ (ap (λ d. inner_set d (answers R P) s.entries) m ∙ ap (inner_set (w - length P) (answers R P)) e)

  gets_is : gets_at s t ≡ turn_entry w R P T
  gets_is =
      ap (λ S. new_entry S t.old t.inherited) set_is
      ∙ (ap (λ o. new_entry (event_set w R P T) o t.inherited) (old ∙ ap (λ z. entry_at z T) r)
      ∙ ap (new_entry (event_set w R P T) (entry_at (turn P w T) T)) (inherited ∙ ap (λ z. above z T 0) r))

  inherits : t.inherited ≡ above (turn P w T) T 0
  inherits = inherited ∙ ap (λ z. above z T 0) r

  hop_is : TurnCase s p.len t v.o v.n v.hop → v.hop ≡ event_hop w R P T
  hop_is (inl x) =
      let same : turn P w T ≡ P = as_long (turn P w T) P (turn_on P w T) (omega (arith, x.0, bits_long p, bits_long t.prefix, ap length r)) in
      let b : begins P (turn P w T) ≡ true = ap (begins P) same ∙ self P in
      x.3 ∙ (inherits ∙ sym (ap (λ (z : Bool). cond z (above (turn P w T) T 0) (inherit (turn_entry w R P T) (above (turn P w T) T 0))) b))
  hop_is (inr x) =
      let b : begins P (turn P w T) ≡ false = ap (begins P) (sym r) ∙ not_front P (prefix_as t.prefix).bits (shorter p t.prefix x.0 short) in
      x.2 ∙ (ap (λ o. inherit o t.inherited) gets_is ∙ (ap (inherit (turn_entry w R P T)) inherits
      ∙ sym (ap (λ (z : Bool). cond z (above (turn P w T) T 0) (inherit (turn_entry w R P T) (above (turn P w T) T 0))) b)))

  turn_part : TurnCase s p.len t v.o v.n v.hop → begins P (turn P w T) ≡ false → BothOrNeither (entry_at (turn P w T) T) (turn_entry w R P T) v.o v.n
  turn_part (inl x) b =
      let same : turn P w T ≡ P = as_long (turn P w T) P (turn_on P w T) (omega (arith, x.0, bits_long p, bits_long t.prefix, ap length r)) in
      absurd (apart (begins P (turn P w T)) (ap (begins P) same ∙ self P) b)
  turn_part (inr x) b =
      subst (λ (z : Option ℕ). BothOrNeither (entry_at (turn P w T) T) z v.o v.n) gets_is
      (subst (λ (z : Option ℕ). BothOrNeither z (gets_at s t) v.o v.n) (old ∙ ap (λ z. entry_at z T) r) x.1)

  fine_o : Fine (turn P w T) v.o P
  fine_o = subst (λ (z : List Bool). Fine z v.o P) r (fine_old s p t v.o v.n v.hop short v.which)

  fine_n : Fine (turn P w T) v.n P
  fine_n = subst (λ (z : List Bool). Fine z v.n P) r (fine_new s p t v.o v.n v.hop short v.which)

  pub near_told : cs ≡ between k.entries (near_in k.family k.routes k.entries)
  near_told =
      changes_alike k (around (turn P w T) v.o P v.had) (around (turn P w T) v.n P v.gets) cs i all
      (around_table w s.bits (turn P w T) v.o P v.had long v.had_table fine_o) (around_table w s.bits (turn P w T) v.n P v.gets long v.gets_table fine_n)
      (whole_parts w R T P s (omega (arith, long)) (family_table k.family k.entries (placed_are k.entries i)) y long a e v.o v.n v.hop v.had v.gets v.part (hop_is v.which) fine_o fine_n (turn_part v.which))
      (v.told
      ∙ (ap (λ g. between (of_table g (around (prefix_as t.prefix).bits v.o P v.had)) (of_table g (around (prefix_as t.prefix).bits v.n P v.gets))) f
      ∙ ap (λ z. between (of_table k.family (around z v.o P v.had)) (of_table k.family (around z v.n P v.gets))) r))
