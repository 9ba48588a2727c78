-- The whole checkpoint.
use Rattle.std.proofs.Common.{◌≡◌, ℕ, ◌<◌, ◌≤◌, Bool, List, ◌++◌, length, map, Option, None, sym, ap, ◌∙◌, subst, arith}
use Rattle.std.specs.Prelude.{IfSome}
use Rattle.std.specs.List.Sorted.{IsStrictlySortedBy}
use Rattle.route_model.specs.Choice.{Candidates}
use Rattle.fib_prefix.specs.Order.{code_peer_cmp}
use Rattle.mrt_write.specs.Holds.{LeadsTo}
use Rattle.mrt_write.specs.Dumps.{AreIn, IsTableWritten, CanPut, WritesDump}
use Rattle.mrt_write.specs.declared.growing.Open.{Open}
use Rattle.mrt_write.specs.declared.dump.DumpWriter.{DumpWriter}
use Rattle.mrt_write.proofs.Present.{are_in, are_short}
use Rattle.std.proofs.lemmas.List.{length-map}
use Rattle.route_model.specs.Events.{Peer}
use Rattle.wire_model.specs.Octets.{record_octets}
use Rattle.mrt_write.specs.Checkpoint.{has_ids, table_body, piece_records, checkpoint}
use Rattle.mrt_write.specs.Saved.{long_one, peers_with_candidates, pieces_of, saved}
use Rattle.mrt_write.proofs.Records.{length-table}
use Rattle.fib_prefix.specs.Views.{peer_as}
use Rattle.fib_prefix.specs.declared.event.Peer as code_peer
use Rattle.fib_prefix.specs.Views.{cand_as}
use Rattle.fib_prefix.specs.declared.event.Cand.{Cand}

pub table_few : (peers : List code_peer.Peer) (body : List ℕ) → length peers ≤ 65535 → body ≡ table_body (map peer_as peers) → length body < 4294967296
table_few peers body few e =
    let short = length-table (map peer_as peers) (subst (λ n. n ≤ 65535) (sym (length-map peers peer_as)) few) in
    omega (arith, ap length e, short)

-- behind the table, all of the checkpoint is to come
pub begun_leads : (out : List ℕ) (peers : List Peer) (ids : Bool) (held : Candidates) → out ≡ record_octets 13 1 (table_body peers) → peers ≡ peers_with_candidates held → ids ≡ has_ids held → LeadsTo peers ids None out held (saved held)
begun_leads out peers ids held e h i = ap (λ xs. xs ++ piece_records peers ids 0 (pieces_of peers ids held)) e ∙ (ap (λ ps. checkpoint ps ids (pieces_of ps ids held)) h ∙ ap (λ b. checkpoint (peers_with_candidates held) b (pieces_of (peers_with_candidates held) b held)) i)

pub begun_ready : (w : DumpWriter) (peers : List code_peer.Peer) (ids : Bool) → IsTableWritten peers ids w → length peers ≤ 65535 → IsStrictlySortedBy code_peer_cmp peers → CanPut w
begun_ready w peers ids b few sorted = record {
  few = subst (λ (ps : List code_peer.Peer). length ps ≤ 65535) (sym b.peers_are) few;
  sorted = subst (IsStrictlySortedBy code_peer_cmp) (sym b.peers_are) sorted;
  small = subst (λ (o : Option Open). IfSome o (λ (o : Open). length o.entries.items ≤ 16777216)) (sym b.none) tt;
}

pub begun_writes : (w : DumpWriter) (peers : List code_peer.Peer) (ids : Bool) (cs : List Cand) → IsTableWritten peers ids w → map peer_as peers ≡ peers_with_candidates (map cand_as cs) → ids ≡ has_ids (map cand_as cs) → long_one (map cand_as cs) ≡ None → WritesDump w (map cand_as cs) (saved (map cand_as cs))
begun_writes w peers ids cs b e i short =
    let all : map peer_as w.peers.items ≡ peers_with_candidates (map cand_as cs) = ap (map peer_as) b.peers_are ∙ e in
    record {
      there = subst (λ ps. AreIn ps (map cand_as cs)) (sym all) (are_in cs);
      short = are_short (map cand_as cs) short;
      leads = subst (λ (o : Option Open). LeadsTo (map peer_as w.peers.items) w.ids o w.out.items (map cand_as cs) (saved (map cand_as cs))) (sym b.none)
          (begun_leads w.out.items (map peer_as w.peers.items) w.ids (map cand_as cs) (b.table ∙ ap (λ ps. record_octets 13 1 (table_body (map peer_as ps))) (sym b.peers_are)) all (b.ids_are ∙ i));
    }
