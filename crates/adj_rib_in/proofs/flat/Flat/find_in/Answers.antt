use Rattle.std.proofs.Common.{subst}
use Rattle.std.specs.Prelude.{MatchOption}
use Rattle.adj_rib_in.specs.Flat.{HasNoNumber, IsPeerNumber, HasNoSlot, IsSlot}
use Rattle.adj_rib_in.proofs.Flats.{no_number_key, found_key, no_key}
use Rattle.adj_rib_in.proofs.flat.Flat.find_in.Goals as goal

pub returns-in_err-peer : goal.returns-in_err-peer
returns-in_err-peer c = no_key c.args.self.now c.args.key.now (no_number_key c.args.self.now c.args.key.now (subst (HasNoNumber c.args.self.now.peers.keys) c.peer.ensures c.in_err-peer.ensures)) c.from_residual.result c.from_residual.ensures

pub returns : goal.returns
returns c = found_key c.args.self.now c.args.key.now c.args.row c.in_ok-peer.peer c.requires.flat c.requires.row (subst (λ q. IsPeerNumber c.args.self.now.peers.keys q c.in_ok-peer.peer) c.peer.ensures c.in_ok-peer.ensures) c.slot_of.result (subst (λ id. MatchOption c.slot_of.result (HasNoSlot c.args.self.now.rows.slots c.args.row c.in_ok-peer.peer id) (IsSlot c.args.self.now.rows.slots c.args.row c.in_ok-peer.peer id)) c.id.ensures c.slot_of.ensures)
