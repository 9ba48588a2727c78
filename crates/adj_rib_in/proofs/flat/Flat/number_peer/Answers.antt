use Rattle.std.proofs.Common.{sym, subst, ◌<◌, length, rules}
use Rattle.adj_rib_in.specs.Chains.{no_peer}
use Rattle.adj_rib_in.proofs.Flats.{number_stored, numbered_flat, numbered_paths}
use Rattle.adj_rib_in.proofs.flat.Flat.number_peer.Goals as goal

pub returns-clause-peer : goal.returns-clause-peer
returns-clause-peer c =
    let s = c.in_ok-at.ensures.stored in
    number_stored c.args.peer.now _ c.in_ok-at.at s.0 s.1 s.2

pub returns-clause-flat : goal.returns-clause-flat
returns-clause-flat c =
    let few : length c.add_end.new.self.peers.keys < no_peer = subst (λ keys. length keys < no_peer) (sym c.add_end.ensures.peers) (search rules) in
    numbered_flat c.args.self.now c.add_end.new.self c.args.peer.now c.insert_full.new.self.keys c.add_end.ensures.flat c.in_ok-add_end.ensures.room few c.in_ok-at.ensures.keys

pub returns-clause-paths : goal.returns-clause-paths
returns-clause-paths c =
    let few : length c.add_end.new.self.peers.keys < no_peer = subst (λ keys. length keys < no_peer) (sym c.add_end.ensures.peers) (search rules) in
    numbered_paths c.args.self.now c.add_end.new.self c.args.peer.now c.insert_full.new.self.keys c.add_end.ensures.flat c.in_ok-add_end.ensures.room few c.in_ok-at.ensures.keys c.add_end.ensures.rows c.add_end.ensures.slots c.add_end.ensures.peers c.add_end.ensures.hops
