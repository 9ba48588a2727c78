use Rattle.orig_tree.proofs.Standing.{stands_joined}
use Rattle.orig_tree.proofs.best.Best.joined.Goals as goal

pub returns : goal.returns
returns c = stands_joined c.args.low.now c.args.high.now (record { hops = c.in_ok-joint.joint.set; k = c.in_ok-k.k }) c.in_ok-joint.joint.apart c.in_ok-joint.ensures.hops c.in_ok-joint.ensures.apart c.in_ok-k.ensures
