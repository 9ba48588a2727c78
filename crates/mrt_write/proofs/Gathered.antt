-- The peers of candidates, in the code and in the model.
use Rattle.std.proofs.Common.{◌≡◌, ℕ, List, [], ◌∷◌, ◌++◌, length, map, drop, refl, sym, ap, ◌∙◌, ◌≤◌, append_assoc, append-nil}
use Rattle.std.specs.Prelude.{fold, flat_map}
use Rattle.std.proofs.Math.ListN.{drop_of_length-le}
use Rattle.wire_model.specs.Octets.{number_octets}
use Rattle.mrt_write.specs.Entries.{table_peer}
use Rattle.mrt_write.specs.Checkpoint.{table_body}
use Rattle.mrt_write.specs.Saved.{peers_with_candidates}
use Rattle.fib_prefix.specs.Views.{cand_as}
use Rattle.fib_prefix.specs.declared.event.Cand as code_cand
use Rattle.std.specs.BTreeSet.{insert_key}
use Rattle.std.specs.Ordering.{match_ordering}
use Rattle.std.specs.declared.cmp.Ordering.{Ordering}
use Rattle.std.specs.declared.cmp.Ordering.TheVariants.{Less, Equal, Greater}
use Rattle.route_model.specs.Events.{Peer, peer_cmp}
use Rattle.route_model.specs.Choice.{Candidates}
use Rattle.fib_prefix.specs.Views.{peer_as}
use Rattle.fib_prefix.specs.Order.{code_peer_cmp}
use Rattle.fib_prefix.specs.declared.event.Peer as code
use Rattle.fib_prefix.proofs.Peers.{peer_is}

pub inserted_as : (keys : List code.Peer) (k : code.Peer) → map peer_as (insert_key code_peer_cmp keys k) ≡ insert_key peer_cmp (map peer_as keys) (peer_as k)
inserted_as [] k = refl
inserted_as (x ∷ keys) k = by_order (code_peer_cmp k x) (inserted_as keys k) ∙ ap (λ o. match_ordering o (peer_as k ∷ peer_as x ∷ map peer_as keys) (peer_as x ∷ map peer_as keys) (peer_as x ∷ insert_key peer_cmp (map peer_as keys) (peer_as k))) (peer_is k x)
  where
    by_order : (o : Ordering) → map peer_as (insert_key code_peer_cmp keys k) ≡ insert_key peer_cmp (map peer_as keys) (peer_as k)
        → map peer_as (match_ordering o (k ∷ x ∷ keys) (x ∷ keys) (x ∷ insert_key code_peer_cmp keys k)) ≡ match_ordering o (peer_as k ∷ peer_as x ∷ map peer_as keys) (peer_as x ∷ map peer_as keys) (peer_as x ∷ insert_key peer_cmp (map peer_as keys) (peer_as k))
    by_order Less ih = refl
    by_order Equal ih = refl
    by_order Greater ih = ap (λ xs. peer_as x ∷ xs) ih

-- the peers with those of further candidates
abbrev gathered : List Peer → Candidates → List Peer
gathered peers held = fold (λ ps c. insert_key peer_cmp ps c.0.via.peer) peers held

-- those of candidates, and of one behind them
gather_behind : (peers : List Peer) (cs : List code_cand.Cand) (c : code_cand.Cand) → gathered peers (map cand_as (cs ++ c ∷ [])) ≡ insert_key peer_cmp (gathered peers (map cand_as cs)) (peer_as c.via.peer)
gather_behind peers [] c = refl
gather_behind peers (x ∷ cs) c = gather_behind (insert_key peer_cmp peers (peer_as x.via.peer)) cs c

pub gather_more : (keys new : List code.Peer) (cs : List code_cand.Cand) (c : code_cand.Cand) → new ≡ insert_key code_peer_cmp keys c.via.peer → map peer_as keys ≡ peers_with_candidates (map cand_as cs) → map peer_as new ≡ peers_with_candidates (map cand_as (cs ++ c ∷ []))
unfolding peers_with_candidates
gather_more keys new cs c e h = ap (map peer_as) e ∙ (inserted_as keys c.via.peer ∙ (ap (λ ps. insert_key peer_cmp ps (peer_as c.via.peer)) h ∙ sym (gather_behind [] cs c)))

pub gather_same : (keys : List code.Peer) (cs : List code_cand.Cand) (c : code_cand.Cand) → insert_key peer_cmp (map peer_as keys) (peer_as c.via.peer) ≡ map peer_as keys → map peer_as keys ≡ peers_with_candidates (map cand_as cs) → map peer_as keys ≡ peers_with_candidates (map cand_as (cs ++ c ∷ []))
unfolding peers_with_candidates
gather_same keys cs c e h = sym e ∙ (ap (λ ps. insert_key peer_cmp ps (peer_as c.via.peer)) h ∙ sym (gather_behind [] cs c))

pub table_put : (before a b c out octets : List ℕ) (n : ℕ) (peers : List Peer) → a ≡ before ++ number_octets 4 0 → b ≡ a ++ number_octets 2 0 → c ≡ b ++ number_octets 2 n → n ≡ length peers → out ≡ c ++ flat_map table_peer peers → out ≡ before ++ table_body peers
unfolding table_body
table_put before a b c out octets n peers e f g m h = rw (h, g, m, f, e) (simp append_assoc refl)

-- all peers were put
pub table_ended : (out start : List ℕ) (peers : List code.Peer) (i : ℕ) → length peers ≤ i → out ++ flat_map table_peer (map peer_as (drop i peers)) ≡ start ++ flat_map table_peer (map peer_as peers) → out ≡ start ++ flat_map table_peer (map peer_as peers)
table_ended out start peers i h e = sym (append-nil out) ∙ (ap (λ ys. out ++ flat_map table_peer (map peer_as ys)) (sym (drop_of_length-le peers h)) ∙ e)
