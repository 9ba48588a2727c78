use Rattle.std.proofs.Common.{◌≡◌, ◌-◌, suc, arith}
use Rattle.adj_rib_in.specs.Chains.{no_peer}
use Rattle.adj_rib_in.proofs.Flats.{is_there}
use Rattle.adj_rib_in.proofs.Sessions.{walk_starts, walk_step, walk_ends}
use Rattle.adj_rib_in.proofs.flat.Flat.add_chain.Goals as goal

pub loop-end-init : goal.loop-end-init
loop-end-init c = let f = c.requires.flat in let n = c.requires.number in walk_starts c.args.self.now c.args.number c.args.paths.now.keys f (is_there c.args.self.now.peers.keys c.args.number no_peer n.0 f.few_peers n.1) c.end_of-end.result c.end_of-end.ensures

pub slot_at-slot-requires : goal.slot_at-slot-requires
slot_at-slot-requires c = omega (arith, c.loop-end-test.true, c.loop-end.invariant.below)

pub loop-end-preserved : goal.loop-end-preserved
loop-end-preserved c =
    let b = c.args.self.now in
    let f = c.requires.flat in
    let n = c.requires.number in
    let e : c.loop-end.end ≡ suc (c.loop-end.end - 1) = omega (arith, c.loop-end-test.true) in
    walk_step b c.args.number c.args.paths.now.keys c.loop-end.paths.keys c.add_live.new.paths.keys c.loop-end.end c.slot_at-slot.result f (is_there b.peers.keys c.args.number no_peer n.0 f.few_peers n.1) c.loop-end.invariant (c.loop-end.end - 1) e c.slot_at-slot.ensures c.in_ok-add_live.ensures

pub returns : goal.returns
returns c = walk_ends c.args.self.now c.args.peer.now c.args.number c.args.paths.now.keys c.loop-end.paths.keys c.loop-end.end c.requires.flat c.requires.number c.loop-end-test.false c.loop-end.invariant
