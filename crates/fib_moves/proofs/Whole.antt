-- The whole space of a family.
use Rattle.std.proofs.Common.{◌≡◌, ◌+◌, ℕ, List, [], ◌∷◌, ◌++◌, Bool, true, false, cond, not, Option, Some, None, length, map, refl, sym, ap, subst, ◌∙◌, arith, inl, inr}
use Rattle.std.specs.List.{AllByRecursion}
use Rattle.std.specs.Map.{keys_of}
use Rattle.std.proofs.lemmas.Bool.{eq-eqb}
use Rattle.table_model.specs.Address.{Prefix, same_family}
use Rattle.table_model.specs.Width.{width}
use Rattle.table_model.specs.declared.family.Family.{Family}
use Rattle.table_model.proofs.SamePrefix.{same_family_is}
use Rattle.table_model.specs.Table.{Table, IsTable, root, cut}
use Rattle.table_model.specs.Entries.{Entries, of_family, of_table}
use Rattle.table_model.specs.Changes.{Change, Replace}
use Rattle.table_model.specs.Regions.{entry_at, lift}
use Rattle.table_model.specs.Sets.{answers}
use Rattle.table_model.proofs.Both.{family_is}
use Rattle.table_model.proofs.Region.{cut_lift}
use Rattle.kept_model.specs.Between.{AreEntries, entry_hop_at, change_at, between}
use Rattle.kept_model.proofs.Alike.{alike_changes, placed_are}
use Rattle.kept_model.proofs.Families.{hop_none, table_of}
use Rattle.kept_model.proofs.Repairs.{table_entries}
use Rattle.kept_model.proofs.Patches.{table_hop, family_hop, family_table}
use Rattle.kept_model.specs.Parts.{BothOrNeither, ArePart}
use Rattle.cert_model.specs.Rows.{CertRow, bound_row, whole_prefix}
use Rattle.fib_addr.specs.Views.{prefix_as, entry_as}
use Rattle.fib_addr.specs.declared.prefix.Prefix as code
use Rattle.orig_tree.specs.Views.{Labels, InPlace}
use Rattle.orig_tree.specs.Spots.{Spot, spot_answers}
use Rattle.orig_tree.specs.Walk.{Walks, behind}
use Rattle.orig_tree.proofs.Telling.{whole_len}
use Rattle.moves_model.specs.Sets.{Allowed, is_allowed, set_over, k_over, inner_set, inner_k, near_set, near_k, near_of}
use Rattle.moves_model.specs.Nearest.{nearest, near_bound}
use Rattle.moves_model.specs.Demands.{change_bound}
use Rattle.moves_model.specs.Shortest.{AreProvedShortest, AreShortest}
use Rattle.moves_model.specs.Rows.{near_region_rows, near_rows, near_in}
use Rattle.moves_model.proofs.Regions.{inner_alike}
use Rattle.moves_model.proofs.Whole.{near_entries, near_count, near_shortest, are_shortest}
use Rattle.fib_moves.specs.declared.place.Place.{Place}
use Rattle.fib_moves.specs.declared.down.Differing.{Differing}
use Rattle.fib_moves.specs.Needs.{IsNodeOf}
use Rattle.fib_moves.specs.Passes.{ListsDiffering, ListsChanges}
use Rattle.fib_moves.proofs.Passing.{near_alike}
use Rattle.fib_moves.proofs.Proving.{rows_alike}
use Rattle.fib_moves.specs.Views.{SameAllowed}
use Rattle.fib_moves.proofs.Same.{same_allowed}

-- ---- the bound

pub bound_from : (S Q : Allowed) (b : Bool) (k m n : ℕ) → SameAllowed S Q → b ≡ is_allowed 0 S → k ≡ m → n ≡ cond (not b) (k + 1) k → n ≡ change_bound Q m
bound_from S Q b k m n e f g h = h ∙ (by_test b ∙ (ap (λ (x : Bool). cond x k (k + 1)) (f ∙ same_allowed S Q 0 e) ∙ ap (change_bound Q) g))
  where
    by_test : (b : Bool) → cond (not b) (k + 1) k ≡ cond b k (k + 1)
    by_test true = refl
    by_test false = refl

-- ---- the changes

unlifted : (L : Table) → lift [] L ≡ L
unlifted L = cut_lift [] L

whole_told : (p : code.Prefix) (L : Table) → prefix_as p ≡ whole_prefix p.family → of_table p.family (lift (prefix_as p).bits L) ≡ of_table p.family L
whole_told p L e = ap (λ (q : Prefix). of_table p.family (lift q.bits L)) e ∙ ap (of_table p.family) (unlifted L)

-- the bits of the whole space
pub whole_bits : (p : code.Prefix) (n : ℕ) → prefix_as p ≡ whole_prefix p.family → n + p.len ≡ width p.family → n ≡ width p.family
whole_bits p n e b = omega (arith, whole_len p.family p e, b)

pub had_entries : (p : code.Prefix) (L : Table) (n : ℕ) (X Y : Entries) → prefix_as p ≡ whole_prefix p.family → n + p.len ≡ width p.family → IsTable n L → X ≡ [] → Y ≡ X ++ of_table p.family (lift (prefix_as p).bits L) → AreEntries Y
had_entries p L n X Y e b t x y =
    subst (λ (E : Entries). AreEntries E) (sym (y ∙ (ap (λ z. z ++ of_table p.family (lift (prefix_as p).bits L)) x ∙ whole_told p L e)))
    (table_entries p.family L (subst (λ (m : ℕ). IsTable m L) (whole_bits p n e b) t))

pub pass_told : (p : code.Prefix) (s : Spot) (h : ℕ) (a b : Differing) (cs : List Change) → prefix_as p ≡ whole_prefix p.family → h ≡ 0 → map entry_as a.had.items ≡ [] → map entry_as a.gets.items ≡ []
    → ListsDiffering (prefix_as p) s h a b → cs ≡ between (map entry_as b.had.items) (map entry_as b.gets.items) → ListsChanges p.family s cs
pass_told p s h a b cs e z x y v c = record {
  had = v.had;
  gets = v.gets;
  told = c ∙ (ap (λ (E : Entries). between E (map entry_as b.gets.items)) (v.old ∙ (ap (λ L. L ++ of_table p.family (lift (prefix_as p).bits v.had)) x ∙ whole_told p v.had e))
      ∙ ap (between (of_table p.family v.had)) (v.new ∙ (ap (λ L. L ++ of_table p.family (lift (prefix_as p).bits v.gets)) y ∙ whole_told p v.gets e)));
  had_table = v.had_table;
  gets_table = v.gets_table;
  part = subst (λ (g : ℕ). ArePart s.entries (near_of s.bits (spot_answers s) s.entries g) v.had v.gets) z v.part;
}

no_change : (p : Prefix) (o : Option ℕ) → change_at p o o ≡ []
no_change p None = refl
no_change p (Some h) = ap (λ b. cond b [] (Replace p h ∷ [])) (eq-eqb h h refl)

pub both_change : (p : Prefix) (a b c d : Option ℕ) → BothOrNeither a b c d → change_at p a b ≡ change_at p c d
both_change p a b c d (inl x) = ap (λ o. change_at p o b) (sym x.0) ∙ ap (change_at p c) (sym x.1)
both_change p a b c d (inr x) = ap (change_at p a) (sym x.2) ∙ (no_change p a ∙ sym (ap (λ o. change_at p o d) x.0 ∙ ap (change_at p None) x.1))

-- ---- the region of the whole space

module _ (k : Labels) (p : code.Prefix) (s : Spot) (e : prefix_as p ≡ whole_prefix k.family) (n : s.bits + p.len ≡ width k.family) (a : (x : List Bool) → spot_answers s x ≡ answers (of_family k.family k.routes) (prefix_as p).bits x)
    (l : s.entries ≡ cut (prefix_as p).bits (of_family k.family k.entries)) (i : InPlace k.entries) (r : InPlace k.routes) (all : AllByRecursion (λ (q : Prefix). q.family ≡ k.family) (keys_of k.entries)) where
  abbrev w : ℕ
  w = width k.family

  abbrev R : Table
  R = of_family k.family k.routes

  abbrev T : Table
  T = of_family k.family k.entries

  bits_are : s.bits ≡ w
  bits_are = omega (arith, whole_len k.family p e, n)

  answers_are : (x : List Bool) → spot_answers s x ≡ answers R [] x
  answers_are x = a x ∙ ap (λ (q : Prefix). answers R q.bits x) e

  entries_are : s.entries ≡ T
  entries_are = l ∙ ap (λ (q : Prefix). cut q.bits T) e

  pub is_table : IsTable w T
  is_table = family_table k.family k.entries (placed_are k.entries i)

  pub spot_table : IsTable s.bits s.entries
  spot_table = subst (λ (L : Table). IsTable s.bits L) (sym entries_are) (subst (λ (d : ℕ). IsTable d T) (sym bits_are) is_table)

  pub whole_place : (q : Place) (t : Walks) → q.region ≡ s → q.node ≡ Some t → of_table k.family t.entries ≡ k.entries → IsNodeOf q
  whole_place q t x y z = record {
    node = ap (λ v. (behind v).entries) y ∙ (sym (family_is k.family t.entries) ∙ (ap (of_family k.family) z ∙ (sym entries_are ∙ ap (λ (v : Spot). v.entries) (sym x))));
    table = subst (λ (v : Spot). IsTable v.bits v.entries) (sym x) spot_table;
  }

  set_is : inner_set s.bits (spot_answers s) s.entries ≡ inner_set w (answers R []) T
  set_is = (inner_alike s.bits (spot_answers s) (answers R []) s.entries (λ x u. answers_are x)).0 ∙ (ap (λ d. inner_set d (answers R []) s.entries) bits_are ∙ ap (inner_set w (answers R [])) entries_are)

  k_is : inner_k s.bits (spot_answers s) s.entries ≡ inner_k w (answers R []) T
  k_is = (inner_alike s.bits (spot_answers s) (answers R []) s.entries (λ x u. answers_are x)).1 ∙ (ap (λ d. inner_k d (answers R []) s.entries) bits_are ∙ ap (inner_k w (answers R [])) entries_are)

  bounds : change_bound (near_set s.bits (spot_answers s) s.entries) (near_k s.bits (spot_answers s) s.entries) ≡ near_bound w R T
  bounds =
      ap (λ L. change_bound (set_over (root L) (inner_set s.bits (spot_answers s) s.entries)) (k_over (root L) (inner_set s.bits (spot_answers s) s.entries) (inner_k s.bits (spot_answers s) s.entries))) entries_are
      ∙ (ap (λ S. change_bound (set_over (root T) S) (k_over (root T) S (inner_k s.bits (spot_answers s) s.entries))) set_is
      ∙ ap (λ m. change_bound (near_set w (answers R []) T) (k_over (root T) (inner_set w (answers R []) T) m)) k_is)

  pub bound_told : (m : ℕ) → m ≡ change_bound (near_set s.bits (spot_answers s) s.entries) (near_k s.bits (spot_answers s) s.entries) → m ≡ near_bound w R T
  bound_told m x = x ∙ bounds

  near_is : near_of s.bits (spot_answers s) s.entries 0 ≡ nearest w R T
  near_is = near_alike s.bits (spot_answers s) (answers R []) s.entries 0 (λ x u. answers_are x) ∙ (ap (λ d. near_of d (answers R []) s.entries 0) bits_are ∙ ap (λ L. near_of w (answers R []) L 0) entries_are)

  pub rows_told : (m : ℕ) (X Y Z : List CertRow) → X ≡ [] → Y ≡ X ++ near_region_rows s.bits (spot_answers s) s.entries (prefix_as p) → Z ≡ Y ++ bound_row p.family m ∷ [] → m ≡ near_bound w R T → Z ≡ near_rows k.family k.routes k.entries
  rows_told m X Y Z x y z b =
      let f : p.family ≡ k.family = ap (λ (q : Prefix). q.family) e in
      let rows : near_region_rows s.bits (spot_answers s) s.entries (prefix_as p) ≡ near_region_rows w (answers R []) T (whole_prefix k.family) =
      rows_alike s.bits (spot_answers s) (answers R []) s.entries (prefix_as p) (λ v u. answers_are v)
      ∙ (ap (λ d. near_region_rows d (answers R []) s.entries (prefix_as p)) bits_are ∙ (ap (λ L. near_region_rows w (answers R []) L (prefix_as p)) entries_are ∙ ap (near_region_rows w (answers R []) T) e)) in
      z ∙ (ap (λ v. v ++ bound_row p.family m ∷ []) (y ∙ (ap (λ v. v ++ near_region_rows s.bits (spot_answers s) s.entries (prefix_as p)) x ∙ rows))
      ∙ (ap (λ g. near_region_rows w (answers R []) T (whole_prefix k.family) ++ bound_row g m ∷ []) f ∙ ap (λ v. near_region_rows w (answers R []) T (whole_prefix k.family) ++ bound_row k.family v ∷ []) b))

  abbrev N : Entries
  N = near_in k.family k.routes k.entries

  module _ (cs : List Change) (v : ListsChanges k.family s cs) where
    had_table : IsTable w v.had
    had_table = subst (λ (d : ℕ). IsTable d v.had) bits_are v.had_table

    gets_table : IsTable w v.gets
    gets_table = subst (λ (d : ℕ). IsTable d v.gets) bits_are v.gets_table

    parts : ArePart T (nearest w R T) v.had v.gets
    parts = subst (λ (L : Table). ArePart L (nearest w R T) v.had v.gets) entries_are (subst (λ (A : Table). ArePart s.entries A v.had v.gets) near_is v.part)

    one_change : (q : Prefix) → change_at q (entry_hop_at q k.entries) (entry_hop_at q N) ≡ change_at q (entry_hop_at q (of_table k.family v.had)) (entry_hop_at q (of_table k.family v.gets))
    one_change q = by_family (same_family q.family k.family) refl
      where
        f : Family
        f = k.family

        by_family : (b : Bool) → same_family q.family f ≡ b → change_at q (entry_hop_at q k.entries) (entry_hop_at q N) ≡ change_at q (entry_hop_at q (of_table f v.had)) (entry_hop_at q (of_table f v.gets))
        by_family false m =
            ap (λ o. change_at q o (entry_hop_at q N)) (hop_none f q k.entries all m) ∙ (ap (change_at q None) (hop_none f q N (table_of f (nearest w R T)) m)
            ∙ sym (ap (λ o. change_at q o (entry_hop_at q (of_table f v.gets))) (hop_none f q (of_table f v.had) (table_of f v.had) m) ∙ ap (change_at q None) (hop_none f q (of_table f v.gets) (table_of f v.gets) m)))
        by_family true m = subst (λ (y : Prefix). change_at y (entry_hop_at y k.entries) (entry_hop_at y N) ≡ change_at y (entry_hop_at y (of_table f v.had)) (entry_hop_at y (of_table f v.gets))) is (at q.bits)
          where
            is : record { family = f; bits = q.bits } ≡ q
            is = ap (λ (g : Family). let y : Prefix = record { family = g; bits = q.bits } in y) (sym (same_family_is q.family f m))

            at : (x : List Bool) → (let y : Prefix = record { family = f; bits = x } in change_at y (entry_hop_at y k.entries) (entry_hop_at y N) ≡ change_at y (entry_hop_at y (of_table f v.had)) (entry_hop_at y (of_table f v.gets)))
            at x =
                let y : Prefix = record { family = f; bits = x } in
                ap (λ o. change_at y o (entry_hop_at y N)) (sym (family_hop f x k.entries))
                ∙ (ap (change_at y (entry_at x T)) (table_hop f x (nearest w R T))
                ∙ (both_change y (entry_at x T) (entry_at x (nearest w R T)) (entry_at x v.had) (entry_at x v.gets) (parts x)
                ∙ (ap (λ o. change_at y o (entry_at x v.gets)) (sym (table_hop f x v.had)) ∙ ap (change_at y (entry_hop_at y (of_table f v.had))) (sym (table_hop f x v.gets)))))

    pub changes_told : cs ≡ between k.entries N
    changes_told =
        v.told
        ∙ sym (alike_changes (of_table k.family v.had) (of_table k.family v.gets) k.entries N (table_entries k.family v.had had_table) (table_entries k.family v.gets gets_table) (placed_are k.entries i) (near_entries k.family k.routes k.entries (placed_are k.entries i) all) one_change)

  pub count_told : length (between k.entries N) ≡ near_bound w R T
  count_told = near_count k.family k.routes k.entries (placed_are k.entries i) all

  pub shortest_told : AreProvedShortest k.family k.routes k.entries (between k.entries N) (near_rows k.family k.routes k.entries)
  shortest_told = near_shortest k.family k.routes k.entries (placed_are k.entries i) all (placed_are k.routes r).1

-- the changes to a tree's nearest table are shortest
pub near_is_shortest : (k : Labels) → InPlace k.entries → InPlace k.routes → AllByRecursion (λ (q : Prefix). q.family ≡ k.family) (keys_of k.entries)
    → AreShortest k.family k.routes k.entries (between k.entries (near_in k.family k.routes k.entries))
near_is_shortest k i r all =
    are_shortest k.family k.routes k.entries (between k.entries (near_in k.family k.routes k.entries)) (near_rows k.family k.routes k.entries)
    (near_shortest k.family k.routes k.entries (placed_are k.entries i) all (placed_are k.routes r).1)

pub tree_family : (k : Labels) (E : Table) → of_table k.family E ≡ k.entries → AllByRecursion (λ (q : Prefix). q.family ≡ k.family) (keys_of k.entries)
tree_family k E e = subst (λ (L : Entries). AllByRecursion (λ (q : Prefix). q.family ≡ k.family) (keys_of L)) e (table_of k.family E)
