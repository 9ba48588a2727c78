-- The code's tests of equality say what its orders do.
use Rattle.std.proofs.Common.{◌≡◌, ℕ, ◌<◌, nat_eq, refl, sym, ap, ◌∙◌}
use Rattle.std.specs.Prelude.{◌&&◌}
use Rattle.std.specs.Ordering.{nat_cmp, ordering_then, is_eq}
use Rattle.std.specs.declared.cmp.Ordering.{Ordering}
use Rattle.std.specs.declared.cmp.Ordering.TheVariants.{Less, Equal, Greater}
use Rattle.std.proofs.lemmas.Cmp.{ranked}
use Rattle.table_model.specs.declared.family.Family.{Family}
use Rattle.table_model.specs.declared.family.Family.TheVariants.{V4, V6}
use Rattle.table_model.specs.contracts.family.Family.{the_type}
use Rattle.table_model.specs.contracts.family.FamilyOrd.TheImpl as family_ord
use Rattle.fib_addr.specs.Order.{code_cmp}
use Rattle.fib_addr.specs.OrderLaws.{tied}
use Rattle.fib_addr.specs.contracts.prefix.PrefixPartialEq.TheImpl as prefix_same
use Rattle.fib_addr.specs.declared.prefix.Prefix as code
use Rattle.fib_prefix.specs.Order.{code_peer_cmp, code_via_cmp}
use Rattle.fib_prefix.specs.declared.event.Peer.{Peer}
use Rattle.fib_prefix.specs.declared.event.Via.{Via}
use Rattle.std.proofs.Common.{arith}
use denote.Enum.Bare.{sameb}

family_eq : (f g : Family) → sameb the_type f g ≡ is_eq ((family_ord.ghosts).cmp f g)
family_eq V4 V4 = refl
family_eq V4 V6 = refl
family_eq V6 V4 = refl
family_eq V6 V6 = refl

number_eq : (m n : ℕ) → nat_eq m n ≡ is_eq (nat_cmp m n)
number_eq m n = by_order (nat_cmp m n) refl
  where
    by_order : (o : Ordering) → nat_cmp m n ≡ o → nat_eq m n ≡ is_eq o
    by_order Less e = let x : m < n = ranked m n Less (sym e) in grind arith
    by_order Equal e = let x : m ≡ n = ranked m n Equal (sym e) in grind arith
    by_order Greater e = let x : n < m = ranked m n Greater (sym e) in grind arith

then_eq : (a b : Ordering) → is_eq (ordering_then a b) ≡ (is_eq a && is_eq b)
then_eq Less b = refl
then_eq Equal b = refl
then_eq Greater b = refl

pub peer_eq : (p q : Peer) → ((sameb the_type p.addr.family q.addr.family && nat_eq p.addr.bits q.addr.bits) && nat_eq p.asn q.asn) ≡ is_eq (code_peer_cmp p q)
peer_eq p q =
    let f = (family_ord.ghosts).cmp p.addr.family q.addr.family in
    ap (λ b. (b && nat_eq p.addr.bits q.addr.bits) && nat_eq p.asn q.asn) (family_eq p.addr.family q.addr.family)
    ∙ (ap (λ b. (is_eq f && b) && nat_eq p.asn q.asn) (number_eq p.addr.bits q.addr.bits)
    ∙ (ap (λ b. (is_eq f && is_eq (nat_cmp p.addr.bits q.addr.bits)) && b) (number_eq p.asn q.asn)
    ∙ (ap (λ b. b && is_eq (nat_cmp p.asn q.asn)) (sym (then_eq f (nat_cmp p.addr.bits q.addr.bits))) ∙ sym (then_eq (ordering_then f (nat_cmp p.addr.bits q.addr.bits)) (nat_cmp p.asn q.asn)))))

pub via_eq : (p q : Via) → (((sameb the_type p.peer.addr.family q.peer.addr.family && nat_eq p.peer.addr.bits q.peer.addr.bits) && nat_eq p.peer.asn q.peer.asn) && nat_eq p.id q.id) ≡ is_eq (code_via_cmp p q)
via_eq p q =
    ap (λ b. b && nat_eq p.id q.id) (peer_eq p.peer q.peer)
    ∙ (ap (λ b. is_eq (code_peer_cmp p.peer q.peer) && b) (number_eq p.id q.id) ∙ sym (then_eq (code_peer_cmp p.peer q.peer) (nat_cmp p.id q.id)))

pub prefix_eq : (p q : code.Prefix) → (prefix_same.ghosts).eq p q ≡ is_eq (code_cmp p q)
prefix_eq = tied
