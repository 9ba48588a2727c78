-- The orders that the code gives peers and path sources are the model's.
use Rattle.std.proofs.Common.{◌≡◌, refl, sym, ap, ◌∙◌, mod-eq_of_lt}
use Rattle.std.specs.Cmp.{IsTotalOrder}
use Rattle.std.specs.Ordering.{nat_cmp, ordering_then, ordering_reverse}
use Rattle.std.specs.declared.cmp.Ordering.{Ordering}
use Rattle.std.specs.declared.cmp.Ordering.TheVariants.{Less, Equal, Greater}
use Rattle.std.proofs.lemmas.Cmp.{on_total}
use Rattle.table_model.specs.Bits.{value_of}
use Rattle.table_model.specs.Width.{width}
use Rattle.table_model.specs.Order.{family_cmp}
use Rattle.table_model.proofs.BitLaws.{value-bits_of}
use Rattle.table_model.proofs.Families.{family_order}
use Rattle.fib_addr.specs.declared.addr.Addr.{Addr}
use Rattle.fib_addr.specs.Views.{addr_as, prefix_as}
use Rattle.fib_addr.specs.Order.{code_cmp}
use Rattle.fib_addr.proofs.Ordering.{cmp_is}
use Rattle.fib_prefix.specs.declared.event.Peer.{Peer}
use Rattle.fib_prefix.specs.declared.event.Via.{Via}
use Rattle.fib_prefix.specs.Views.{peer_as, via_as}
use Rattle.fib_prefix.specs.Order.{code_peer_cmp, code_via_cmp}
use Rattle.route_model.specs.Events.{peer_cmp, via_cmp}
use Rattle.route_model.proofs.Places.{peer_key, via_key, prefix_key}

regroup : (a b c : Ordering) → ordering_then (ordering_then a b) c ≡ ordering_then a (ordering_then b c)
regroup Less b c = refl
regroup Equal b c = refl
regroup Greater b c = refl

value_is : (a : Addr) → value_of (addr_as a).bits ≡ a.bits
value_is a = value-bits_of (width a.family) a.bits ∙ mod-eq_of_lt a.below

pub peer_is : (p q : Peer) → code_peer_cmp p q ≡ peer_cmp (peer_as p) (peer_as q)
peer_is p q =
    ap (λ o. ordering_then (ordering_then o (nat_cmp p.addr.bits q.addr.bits)) (nat_cmp p.asn q.asn)) (family_order p.addr.family q.addr.family)
    ∙ (regroup (family_cmp p.addr.family q.addr.family) (nat_cmp p.addr.bits q.addr.bits) (nat_cmp p.asn q.asn)
    ∙ (ap (λ n. ordering_then (family_cmp p.addr.family q.addr.family) (ordering_then (nat_cmp n q.addr.bits) (nat_cmp p.asn q.asn))) (sym (value_is p.addr))
    ∙ ap (λ n. ordering_then (family_cmp p.addr.family q.addr.family) (ordering_then (nat_cmp (value_of (addr_as p.addr).bits) n) (nat_cmp p.asn q.asn))) (sym (value_is q.addr))))

pub via_is : (v u : Via) → code_via_cmp v u ≡ via_cmp (via_as v) (via_as u)
via_is v u = ap (λ o. ordering_then o (nat_cmp v.id u.id)) (peer_is v.peer u.peer)

total_by : {K : Type 0} {R S : K → K → Ordering} → ((x y : K) → R x y ≡ S x y) → IsTotalOrder S → IsTotalOrder R
total_by {R = R} {S = S} h o = record {
  antisymm = λ x y. h x y ∙ (o.antisymm x y ∙ ap ordering_reverse (sym (h y x)));
  trans = λ x y z a b. h x z ∙ o.trans x y z (sym (h x y) ∙ a) (sym (h y z) ∙ b);
  congr = λ x y z a. h x z ∙ (o.congr x y z (sym (h x y) ∙ a) ∙ sym (h y z));
}

pub peer_total : IsTotalOrder code_peer_cmp
peer_total = total_by peer_is (on_total peer_as peer_key.total)

pub via_total : IsTotalOrder code_via_cmp
via_total = total_by via_is (on_total via_as via_key.total)

pub prefix_total : IsTotalOrder code_cmp
prefix_total = total_by cmp_is (on_total prefix_as prefix_key.total)
