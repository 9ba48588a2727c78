-- Peers that were met before.
use Rattle.std.proofs.Common.{◌≡◌, ℕ, zero, suc, ◌<◌, true, List, [], ◌∷◌, ◌++◌, length, map, get_or, sym, ap, ◌∙◌, subst, arith}
use Rattle.std.specs.Prelude.{slice_set}
use Rattle.std.specs.List.{AllByRecursion, list_any}
use Rattle.std.specs.Ordering.{is_eq}
use Rattle.route_model.specs.Events.{IsPeer, Peer, peer_cmp, same_peer}
use Rattle.route_model.proofs.Places.{peer_key}
use Rattle.mrt_write.proofs.Sharing.{stays_in}
use Rattle.fib_prefix.specs.Views.{cand_as, peer_as}
use Rattle.fib_prefix.specs.Order.{code_peer_cmp}
use Rattle.fib_prefix.specs.declared.event.Cand.{Cand}
use Rattle.fib_prefix.specs.declared.event.Peer as code
use Rattle.std.specs.BTreeSet.{insert_key}
use Rattle.mrt_write.proofs.Gathered.{inserted_as}
use Rattle.mrt_write.proofs.Indices.{tied_is}
use Rattle.mrt_write.proofs.Present.{has_peer, is_peer}

-- one of them is where it is found
among_at : (P : code.Peer → Type 0) (met : List code.Peer) (i : ℕ) (q : code.Peer) → AllByRecursion P met → i < length met → q ≡ get_or met i q → P q
among_at P [] i q a h e = absurd (omega (arith, h))
among_at P (x ∷ met) zero q a h e = subst P (sym e) a.0
among_at P (x ∷ met) (suc i) q a h e = among_at P met i q a.1 (omega (arith, h)) e

pub met_there : (peers : List Peer) (met : List code.Peer) (i : ℕ) (q r : code.Peer) → AllByRecursion (λ x. list_any (same_peer (peer_as x)) peers ≡ true) met → i < length met → q ≡ get_or met i q → is_eq (code_peer_cmp q r) ≡ true → list_any (same_peer (peer_as r)) peers ≡ true
met_there peers met i q r a h e t =
    let same : peer_as q ≡ peer_as r = peer_key.same (peer_as q) (peer_as r) (sym (tied_is q r) ∙ t) in
    ap (λ x. list_any (same_peer x) peers) (sym same) ∙ among_at (λ x. list_any (same_peer (peer_as x)) peers ≡ true) met i q a h e

-- one more is met, at a place or behind the others
pub met_set : (P : code.Peer → Type 0) (met : List code.Peer) (i : ℕ) (q : code.Peer) → AllByRecursion P met → P q → AllByRecursion P (slice_set met i q)
met_set P [] i q a p = tt
met_set P (x ∷ met) zero q a p = (p, a.1)
met_set P (x ∷ met) (suc i) q a p = (a.0, met_set P met i q a.1 p)

pub met_pushed : (P : code.Peer → Type 0) (met : List code.Peer) (q : code.Peer) → AllByRecursion P met → P q → AllByRecursion P (met ++ q ∷ [])
met_pushed P [] q a p = (p, tt)
met_pushed P (x ∷ met) q a p = (a.0, met_pushed P met q a.1 p)

-- they stay among the peers, of which there are more
pub stay_among : (peers : List Peer) (met : List code.Peer) (c : Cand) → AllByRecursion (λ x. list_any (same_peer (peer_as x)) peers ≡ true) met → AllByRecursion (λ x. list_any (same_peer (peer_as x)) (insert_key peer_cmp peers (peer_as c.via.peer)) ≡ true) met
stay_among peers [] c a = tt
stay_among peers (x ∷ met) c a = (stays_in (peer_as x) peers (cand_as c ∷ []) a.0, stay_among peers met c a.1)

all_peers : (keys : List code.Peer) → AllByRecursion IsPeer (map peer_as keys)
all_peers [] = tt
all_peers (x ∷ keys) = (is_peer x, all_peers keys)

-- and the new one is one of them
pub put_among : (keys new met : List code.Peer) (c : Cand) → new ≡ insert_key code_peer_cmp keys c.via.peer → AllByRecursion (λ x. list_any (same_peer (peer_as x)) (map peer_as keys) ≡ true) met
    → AllByRecursion (λ x. list_any (same_peer (peer_as x)) (map peer_as new) ≡ true) met × (list_any (same_peer (peer_as c.via.peer)) (map peer_as new) ≡ true)
put_among keys new met c h a =
    let q = c.via.peer in
    let e : insert_key peer_cmp (map peer_as keys) (peer_as q) ≡ map peer_as new = sym (ap (map peer_as) h ∙ inserted_as keys q) in (
      subst (λ ps. AllByRecursion (λ x. list_any (same_peer (peer_as x)) ps ≡ true) met) e (stay_among (map peer_as keys) met c a),
      subst (λ ps. list_any (same_peer (peer_as q)) ps ≡ true) e (has_peer (peer_as q) (map peer_as keys) (is_peer q) (all_peers keys)),
    )
