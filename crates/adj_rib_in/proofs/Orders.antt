-- The orders that the code gives path sources, path keys and ranks are the model's.
use Rattle.std.proofs.Common.{◌≡◌, ◌≤◌, true, refl, sym, ap, subst, ◌∙◌}
use Rattle.std.specs.Prelude.{◌&&◌}
use Rattle.std.specs.Cmp.{IsTotalOrder}
use Rattle.std.specs.Ordering.{nat_cmp, ordering_then, is_eq}
use Rattle.std.specs.declared.cmp.Ordering.{Ordering}
use Rattle.std.specs.declared.cmp.Ordering.TheVariants.{Less, Equal, Greater}
use Rattle.std.proofs.lemmas.Cmp.{nat_cmp_total, on_total, then_total}
use Rattle.table_model.specs.Width.{width}
use Rattle.table_model.specs.Address.{IsPrefix, same_prefix}
use Rattle.table_model.proofs.BitLaws.{length-bits_of}
use Rattle.fib_prefix.specs.declared.event.Peer.{Peer}
use Rattle.fib_prefix.specs.declared.event.Via.{Via}
use Rattle.fib_addr.specs.declared.prefix.Prefix as code
use Rattle.fib_addr.specs.Views.{prefix_as}
use Rattle.fib_prefix.specs.Views.{peer_as, via_as}
use Rattle.fib_addr.specs.Order.{code_cmp}
use Rattle.fib_addr.proofs.Parts.{length_prefix}
use Rattle.fib_addr.proofs.Ordering.{cmp_is}
use Rattle.route_model.specs.Events.{same_peer, same_via, IsPeer}
use Rattle.route_model.specs.Choice.{Place, IsPlace, same_place}
use Rattle.route_model.proofs.Keyed.{key_test}
use Rattle.route_model.proofs.Places.{peer_key, via_key, prefix_key, both_equal}
use Rattle.adj_rib_in.specs.declared.keys.PathKey.{PathKey}
use Rattle.adj_rib_in.specs.declared.keys.Rank.{Rank}
use Rattle.adj_rib_in.specs.Orders.{key_cmp, rank_cmp}
use Rattle.fib_prefix.specs.Order.{code_peer_cmp, code_via_cmp}
pub use Rattle.fib_prefix.proofs.Peers.{peer_is, via_is, peer_total, via_total, prefix_total}

-- the place of a path key
abbrev pub place_as : PathKey → Place
place_as s = record { prefix = prefix_as s.prefix; via = via_as s.via }

pub key_total : IsTotalOrder key_cmp
key_total = then_total (on_total (λ (s : PathKey). s.via.peer) peer_total) (then_total (on_total (λ (s : PathKey). s.prefix) prefix_total) (on_total (λ (s : PathKey). s.via.id) nat_cmp_total))

pub rank_total : IsTotalOrder rank_cmp
rank_total = then_total (on_total (λ (r : Rank). r.prefix) prefix_total) (then_total (on_total (λ (r : Rank). r.path) nat_cmp_total) (on_total (λ (r : Rank). r.via) via_total))

-- ---- what the tests say

pub is_prefix : (p : code.Prefix) → IsPrefix (prefix_as p)
is_prefix p = subst (λ n. n ≤ width p.family) (sym (length_prefix (width p.family) p.len p.bits p.fits)) p.fits

pub is_peer : (q : Peer) → IsPeer (peer_as q)
is_peer q = length-bits_of (width q.addr.family) q.addr.bits

pub is_place : (s : PathKey) → IsPlace (place_as s)
is_place s = (is_prefix s.prefix, is_peer s.via.peer)

pub prefix_same : (p q : code.Prefix) → is_eq (code_cmp p q) ≡ same_prefix (prefix_as p) (prefix_as q)
prefix_same p q = ap is_eq (cmp_is p q) ∙ key_test prefix_key (prefix_as p) (prefix_as q) (is_prefix p) (is_prefix q)

pub peer_same : (p q : Peer) → is_eq (code_peer_cmp p q) ≡ same_peer (peer_as p) (peer_as q)
peer_same p q = ap is_eq (peer_is p q) ∙ key_test peer_key (peer_as p) (peer_as q) (is_peer p) (is_peer q)

pub via_same : (v u : Via) → is_eq (code_via_cmp v u) ≡ same_via (via_as v) (via_as u)
via_same v u = ap is_eq (via_is v u) ∙ key_test via_key (via_as v) (via_as u) (is_peer v.peer) (is_peer u.peer)

-- the path key's order of what is beside the prefix is that of path sources
sorted_apart : (a b c : Ordering) → is_eq (ordering_then a (ordering_then b c)) ≡ (is_eq b && is_eq (ordering_then a c))
sorted_apart Less Less c = refl
sorted_apart Less Equal c = refl
sorted_apart Less Greater c = refl
sorted_apart Equal Less c = refl
sorted_apart Equal Equal c = refl
sorted_apart Equal Greater c = refl
sorted_apart Greater Less c = refl
sorted_apart Greater Equal c = refl
sorted_apart Greater Greater c = refl

pub key_parts : (s t : PathKey) → is_eq (key_cmp s t) ≡ (is_eq (code_cmp s.prefix t.prefix) && is_eq (code_via_cmp s.via t.via))
key_parts s t = sorted_apart (code_peer_cmp s.via.peer t.via.peer) (code_cmp s.prefix t.prefix) (nat_cmp s.via.id t.via.id)

pub key_same : (s t : PathKey) → is_eq (key_cmp s t) ≡ same_place (place_as s) (place_as t)
key_same s t =
    key_parts s t
    ∙ (ap (λ b. b && is_eq (code_via_cmp s.via t.via)) (prefix_same s.prefix t.prefix) ∙ ap (λ b. same_prefix (prefix_as s.prefix) (prefix_as t.prefix) && b) (via_same s.via t.via))

pub is_equal : (o : Ordering) → is_eq o ≡ true → o ≡ Equal
is_equal Less e = cc
is_equal Equal e = refl
is_equal Greater e = cc

-- path keys of one prefix and one way are tied
pub key_tied : (s t : PathKey) → code_cmp s.prefix t.prefix ≡ Equal → code_via_cmp s.via t.via ≡ Equal → key_cmp s t ≡ Equal
key_tied s t p v = is_equal (key_cmp s t) (key_parts s t ∙ (ap (λ o. is_eq o && is_eq (code_via_cmp s.via t.via)) p ∙ ap is_eq v))

-- and tied path keys are of one prefix and one way
pub tied_prefix : (s t : PathKey) → key_cmp s t ≡ Equal → code_cmp s.prefix t.prefix ≡ Equal
tied_prefix s t e = (both_equal _ _ (both_equal _ _ e).1).0

pub tied_via : (s t : PathKey) → key_cmp s t ≡ Equal → code_via_cmp s.via t.via ≡ Equal
tied_via s t e =
    let x = both_equal _ _ e in
    ap (λ o. ordering_then o (nat_cmp s.via.id t.via.id)) x.0 ∙ (both_equal _ _ x.1).1
