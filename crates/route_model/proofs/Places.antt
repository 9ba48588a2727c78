-- The orders of peers, of path sources and of places tell apart what their tests do.
use Rattle.std.proofs.Common.{◌≡◌, ℕ, true, refl, sym, ap, ◌∙◌, arith}
use Rattle.std.specs.Prelude.{◌==◌}
use Rattle.std.specs.Cmp.{IsTotalOrder}
use Rattle.std.specs.Ordering.{nat_cmp, ordering_then}
use Rattle.std.specs.declared.cmp.Ordering.{Ordering}
use Rattle.std.specs.declared.cmp.Ordering.TheVariants.{Less, Equal, Greater}
use Rattle.std.proofs.lemmas.Bool.{and_parts, and_from}
use Rattle.std.proofs.lemmas.Cmp.{nat_cmp_total, on_total, then_total, ranked}
use Rattle.table_model.specs.Bits.{value_of}
use Rattle.table_model.specs.Width.{width}
use Rattle.table_model.specs.Address.{Address, IsPrefix, same_address, same_prefix}
use Rattle.table_model.specs.Order.{prefix_cmp}
use Rattle.table_model.specs.declared.family.Family.{Family}
use Rattle.table_model.specs.declared.family.Family.TheVariants.{V4, V6}
use Rattle.table_model.proofs.BitLaws.{bits_from_value}
use Rattle.table_model.proofs.SamePrefix.{same_address_is, same_address_itself, same_prefix_is, same_prefix_itself}
use Rattle.table_model.proofs.Ordered.{prefix_total, equal_are_same}
use Rattle.route_model.specs.Events.{Peer, IsPeer, same_peer, peer_cmp, Via, IsVia, same_via, via_cmp}
use Rattle.route_model.specs.Choice.{Place, IsPlace, same_place, place_cmp}
use Rattle.route_model.proofs.Keyed.{IsKey}

pub equal_numbers : (x y : ℕ) → nat_cmp x y ≡ Equal → x ≡ y
equal_numbers x y e = ranked x y Equal (sym e)

pub both_equal : (a b : Ordering) → ordering_then a b ≡ Equal → (a ≡ Equal) × (b ≡ Equal)
both_equal Less b e = cc
both_equal Equal b e = (refl, e)
both_equal Greater b e = cc

family_from_width : (f g : Family) → width f ≡ width g → f ≡ g
family_from_width V4 V4 e = refl
family_from_width V4 V6 e = absurd (omega arith)
family_from_width V6 V4 e = absurd (omega arith)
family_from_width V6 V6 e = refl

same_number : (x y : ℕ) → (x == y) ≡ true → x ≡ y
same_number x y e = grind arith

same_number_itself : (x : ℕ) → (x == x) ≡ true
same_number_itself x = grind arith

-- ---- peers

peer_from : (q r : Peer) → q.addr ≡ r.addr → q.asn ≡ r.asn → q ≡ r
peer_from q r a n = ap (λ x. let p : Peer = record { addr = x; asn = q.asn } in p) a ∙ ap (λ x. let p : Peer = record { addr = r.addr; asn = x } in p) n

pub same_peer_is : (q r : Peer) → same_peer q r ≡ true → q ≡ r
same_peer_is q r e =
    let h = and_parts (same_address q.addr r.addr) (q.asn == r.asn) e in
    peer_from q r (same_address_is q.addr r.addr h.0) (same_number q.asn r.asn h.1)

pub same_peer_itself : (q : Peer) → same_peer q q ≡ true
same_peer_itself q = and_from _ _ (same_address_itself q.addr) (same_number_itself q.asn)

pub peer_total : IsTotalOrder peer_cmp
peer_total = then_total (on_total (λ (q : Peer). width q.addr.family) nat_cmp_total) (then_total (on_total (λ (q : Peer). value_of q.addr.bits) nat_cmp_total) (on_total (λ (q : Peer). q.asn) nat_cmp_total))

pub peer_exact : (q r : Peer) → IsPeer q → IsPeer r → peer_cmp q r ≡ Equal → q ≡ r
peer_exact q r hq hr e =
    let x = both_equal _ _ e in
    let y = both_equal _ _ x.1 in
    let f : q.addr.family ≡ r.addr.family = family_from_width _ _ (equal_numbers _ _ x.0) in
    let b : q.addr.bits ≡ r.addr.bits = bits_from_value q.addr.bits r.addr.bits (hq ∙ (ap width f ∙ sym hr)) (equal_numbers _ _ y.0) in
    let a : q.addr ≡ r.addr = ap (λ x. let z : Address = record { family = x; bits = q.addr.bits } in z) f ∙ ap (λ x. let z : Address = record { family = r.addr.family; bits = x } in z) b in
    peer_from q r a (equal_numbers _ _ y.1)

pub peer_key : IsKey peer_cmp same_peer IsPeer
peer_key = record { total = peer_total; exact = peer_exact; same = same_peer_is; itself = same_peer_itself }

-- ---- path sources

via_from : (v u : Via) → v.peer ≡ u.peer → v.id ≡ u.id → v ≡ u
via_from v u p i = ap (λ x. let w : Via = record { peer = x; id = v.id } in w) p ∙ ap (λ x. let w : Via = record { peer = u.peer; id = x } in w) i

same_via_is : (v u : Via) → same_via v u ≡ true → v ≡ u
same_via_is v u e =
    let h = and_parts (same_peer v.peer u.peer) (v.id == u.id) e in
    via_from v u (same_peer_is v.peer u.peer h.0) (same_number v.id u.id h.1)

same_via_itself : (v : Via) → same_via v v ≡ true
same_via_itself v = and_from _ _ (same_peer_itself v.peer) (same_number_itself v.id)

pub via_total : IsTotalOrder via_cmp
via_total = then_total (on_total (λ (v : Via). v.peer) peer_total) (on_total (λ (v : Via). v.id) nat_cmp_total)

pub via_exact : (v u : Via) → IsVia v → IsVia u → via_cmp v u ≡ Equal → v ≡ u
via_exact v u hv hu e =
    let x = both_equal _ _ e in
    via_from v u (peer_exact v.peer u.peer hv hu x.0) (equal_numbers _ _ x.1)

pub via_key : IsKey via_cmp same_via IsVia
via_key = record { total = via_total; exact = via_exact; same = same_via_is; itself = same_via_itself }

-- ---- prefixes

pub prefix_key : IsKey prefix_cmp same_prefix IsPrefix
prefix_key = record { total = prefix_total; exact = equal_are_same; same = same_prefix_is; itself = same_prefix_itself }

-- ---- places

place_from : (p q : Place) → p.prefix ≡ q.prefix → p.via ≡ q.via → p ≡ q
place_from p q a n = ap (λ x. let r : Place = record { prefix = x; via = p.via } in r) a ∙ ap (λ x. let r : Place = record { prefix = q.prefix; via = x } in r) n

same_place_is : (p q : Place) → same_place p q ≡ true → p ≡ q
same_place_is p q e =
    let h = and_parts (same_prefix p.prefix q.prefix) (same_via p.via q.via) e in
    place_from p q (same_prefix_is p.prefix q.prefix h.0) (same_via_is p.via q.via h.1)

same_place_itself : (p : Place) → same_place p p ≡ true
same_place_itself p = and_from _ _ (same_prefix_itself p.prefix) (same_via_itself p.via)

place_exact : (p q : Place) → IsPlace p → IsPlace q → place_cmp p q ≡ Equal → p ≡ q
place_exact p q hp hq e =
    let x = both_equal _ _ e in
    place_from p q (equal_are_same p.prefix q.prefix hp.0 hq.0 x.0) (via_exact p.via q.via hp.1 hq.1 x.1)

pub place_key : IsKey place_cmp same_place IsPlace
place_key = record {
  total = then_total (on_total (λ (p : Place). p.prefix) prefix_total) (on_total (λ (p : Place). p.via) via_total);
  exact = place_exact;
  same = same_place_is;
  itself = same_place_itself;
}
