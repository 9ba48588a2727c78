-- Routes of which one was set or taken away.
use Rattle.std.proofs.Common.{◌≡◌, ◌≢◌, ℕ, zero, suc, List, Bool, true, false, cond, Some, None, refl, sym, ap, ◌∙◌}
use Rattle.table_model.specs.Address.{Prefix, IsPrefix, same_prefix}
use Rattle.table_model.specs.Width.{width}
use Rattle.table_model.specs.declared.family.Family.{Family}
use Rattle.table_model.proofs.SamePrefix.{same_prefix_is}
use Rattle.table_model.specs.Table.{Alike}
use Rattle.table_model.specs.Entries.{Entries, of_family}
use Rattle.route_model.proofs.Keyed.{lookup-put, lookup-cut}
use Rattle.route_model.proofs.Places.{prefix_key}
use Rattle.kept_model.specs.Between.{entry_hop_at}
use Rattle.kept_model.specs.Patched.{with_route}
use Rattle.kept_model.proofs.Patches.{family_hop}
use Rattle.orig_tree.specs.Views.{InPlace}
use Rattle.fib_moves.specs.Event.{AlikeBefore}

elsewhere : (p q : Prefix) (h : ℕ) (R : Entries) → IsPrefix p → InPlace R → same_prefix q p ≡ false → entry_hop_at q (with_route p h R) ≡ entry_hop_at q R
elsewhere p q zero R x r n = lookup-cut prefix_key q p R r.1 ∙ ap (λ b. cond b None (entry_hop_at q R)) n
elsewhere p q (suc h) R x r n = lookup-put prefix_key q R p (suc h) r.0 x ∙ ap (λ b. cond b (Some (suc h)) (entry_hop_at q R)) n

other : (p : Prefix) (q : List Bool) (f : Family) → q ≢ p.bits → same_prefix (record { family = f; bits = q }) p ≡ false
other p q f n = by_test (same_prefix (record { family = f; bits = q }) p) refl
  where
    by_test : (b : Bool) → same_prefix (record { family = f; bits = q }) p ≡ b → b ≡ false
    by_test false s = refl
    by_test true s = absurd (n (ap (λ (x : Prefix). x.bits) (same_prefix_is (record { family = f; bits = q }) p s)))

pub routed_before : (R T : Entries) (p : Prefix) (h : ℕ) → IsPrefix p → InPlace R → Alike (width p.family) (of_family p.family R) (of_family p.family T) → AlikeBefore (width p.family) p.bits (of_family p.family (with_route p h R)) (of_family p.family T)
routed_before R T p h x r a = record {
  before = of_family p.family R;
  alike = a;
  same = λ q n.
      family_hop p.family q R ∙ (sym (elsewhere p (record { family = p.family; bits = q }) h R x r (other p q p.family n)) ∙ sym (family_hop p.family q (with_route p h R)));
}
