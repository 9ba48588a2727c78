-- A kept table after a change and after a snapshot.
use Rattle.std.proofs.Common.{◌≡◌, ℕ, ◌≤◌, List, [], ◌++◌, Bool, true, false, Option, Some, length, refl, sym, ap, subst, ◌∙◌}
use Rattle.table_model.specs.Bits.{begins}
use Rattle.table_model.specs.Width.{width}
use Rattle.table_model.specs.Address.{Prefix, IsPrefix, same_prefix}
use Rattle.table_model.specs.declared.family.Family.{Family}
use Rattle.table_model.proofs.SamePrefix.{same_prefix_is}
use Rattle.table_model.specs.Table.{Table, Alike}
use Rattle.table_model.specs.Entries.{Entries, of_family}
use Rattle.table_model.specs.Changes.{after_changes}
use Rattle.table_model.specs.Regions.{SameOutside}
use Rattle.table_model.specs.Least.{Least, aggregate}
use Rattle.table_model.specs.Both.{aggregate_in}
use Rattle.table_model.proofs.Both.{family_is}
use Rattle.table_model.proofs.Laws.{fresh_law}
use Rattle.table_model.proofs.Order.{answers_outside}
use Rattle.kept_model.specs.Patched.{with_route, patch_of}
use Rattle.kept_model.proofs.Patches.{family_hop, patched_alike, patched_least}
use Rattle.orig_tree.specs.Views.{Labels, InPlace}
use Rattle.orig_tree.proofs.Arena.{begins_self}
use Rattle.smalta_keep.specs.declared.repair.Moved.{Moved}
use Rattle.smalta_keep.specs.Views.{repair_as, snapshot_as}
use Rattle.smalta_keep.specs.Plans.{Tells, planned_table}
use Rattle.smalta_keep.specs.Answers.{IsAlike, IsLeast, IsFewestWithin}
use Rattle.smalta_keep.proofs.Tables.{some_is}
use Rattle.smalta_keep.proofs.Making.{routed_elsewhere}

-- what a commit makes of the table that was planned for
pub committed : (kept : Labels) (T : Entries) (fewest : Bool) (at : Option Prefix) (due : Bool) (m : Moved) → Tells kept fewest at due m → after_changes (repair_as m ++ snapshot_as m) kept.entries ≡ Some T → T ≡ planned_table fewest kept at due
committed kept T fewest at due m t e = some_is T (planned_table fewest kept at due) (sym e ∙ t.makes)

-- ---- a change

not_within : (p : Prefix) (q : List Bool) (f : Family) → begins p.bits q ≡ false → same_prefix (record { family = f; bits = q }) p ≡ false
not_within p q f n = by_test (same_prefix (record { family = f; bits = q }) p) refl
  where
    by_test : (b : Bool) → same_prefix (record { family = f; bits = q }) p ≡ b → b ≡ false
    by_test false s = refl
    by_test true s =
        let same : q ≡ p.bits = ap (λ (x : Prefix). x.bits) (same_prefix_is (record { family = f; bits = q }) p s) in
        let itself : begins p.bits q ≡ true = ap (begins p.bits) same ∙ begins_self p.bits in
        let z : true ≡ false = sym itself ∙ n in absurd cc

module _ (p : Prefix) (h : ℕ) (R T : Entries) (x : IsPrefix p) (r : InPlace R) (t : InPlace T) where
  outside_stays : SameOutside p.bits (of_family p.family R) (of_family p.family (with_route p h R))
  outside_stays q n =
      let f = p.family in
      family_hop f q R ∙ (sym (routed_elsewhere p (record { family = f; bits = q }) h R x r (not_within p q f n)) ∙ sym (family_hop f q (with_route p h R)))

  here_alike : Alike (width p.family) (of_family p.family R) (of_family p.family T) → Alike (width p.family) (of_family p.family (with_route p h R)) (of_family p.family (patch_of (with_route p h R) p T))
  here_alike a =
      patched_alike (with_route p h R) T p x t (λ b l n. sym (a b l) ∙ answers_outside p.bits b (of_family p.family R) (of_family p.family (with_route p h R)) 0 n outside_stays)

module _ (p : Prefix) (h : ℕ) (old new : Labels) (x : IsPrefix p) (s : p.family ≡ old.family) (n : new.family ≡ old.family) (e : new.entries ≡ patch_of new.routes p old.entries) (t : InPlace old.entries) where
  pub changed_alike : new.routes ≡ with_route p h old.routes → InPlace old.routes → IsAlike old → IsAlike new
  changed_alike w r a =
      let R = with_route p h old.routes in
      let there : new.entries ≡ patch_of R p old.entries = e ∙ ap (λ (z : Entries). patch_of z p old.entries) w in
      let before : Alike (width p.family) (of_family p.family old.routes) (of_family p.family old.entries) =
      subst (λ (g : Family). Alike (width g) (of_family g old.routes) (of_family g old.entries)) (sym s) a
      in
      let after : Alike (width p.family) (of_family p.family R) (of_family p.family (patch_of R p old.entries)) = here_alike p h old.routes old.entries x r t before in
      subst (λ (g : Family). Alike (width g) (of_family g new.routes) (of_family g new.entries)) (s ∙ sym n)
      (subst (λ (z : Entries). Alike (width p.family) (of_family p.family z) (of_family p.family new.entries)) (sym w)
      (subst (λ (z : Entries). Alike (width p.family) (of_family p.family R) (of_family p.family z)) (sym there) after))

  pub changed_fewest : IsFewestWithin p old.entries new
  changed_fewest L l a o =
      let f = new.family in
      let g : f ≡ p.family = n ∙ sym s in
      let a' : Alike (width p.family) (of_family p.family new.routes) (of_family p.family L) = subst (λ (k : Family). Alike (width k) (of_family k new.routes) (of_family k L)) g a in
      let o' : SameOutside p.bits (of_family p.family L) (of_family p.family old.entries) = subst (λ (k : Family). SameOutside p.bits (of_family k L) (of_family k old.entries)) g o in
      let least : length (of_family p.family (patch_of new.routes p old.entries)) ≤ length (of_family p.family L) = patched_least new.routes old.entries p x t L l a' o' in
      subst (λ (k : Family). length (of_family k new.entries) ≤ length (of_family k L)) (sym g)
      (subst (λ (z : Entries). length (of_family p.family z) ≤ length (of_family p.family L)) (sym e) least)

-- ---- a snapshot

pub renewed_least : (f : Family) (R T : Entries) (new : Labels) → new.family ≡ f → new.routes ≡ R → new.entries ≡ aggregate_in f R T → IsLeast new
renewed_least f R T new s r e =
    let w = width f in
    let A = aggregate w (of_family f R) [] 0 (of_family f T) in
    let l : Least w (of_family f R) A = (fresh_law w (of_family f R) (of_family f T)).1 in
    let same : of_family f new.entries ≡ A = ap (of_family f) e ∙ family_is f A in
    subst (λ (g : Family). Least (width g) (of_family g new.routes) (of_family g new.entries)) (sym s)
    (subst (λ (z : Entries). Least w (of_family f z) (of_family f new.entries)) (sym r)
    (subst (λ (z : Table). Least w (of_family f R) z) (sym same) l))
