use Rattle.std.proofs.Common.{arith}
use Rattle.adj_rib_in.proofs.BestSlots.{live_hop, live_none}
use Rattle.adj_rib_in.proofs.flat.Flat.is_live.Goals as goal

pub returns-then-slot-len : goal.returns-then-slot-len
returns-then-slot-len c = live_hop c.args.self.now c.args.slot.now c.len.result c.len-then-slot-len.result c.len.ensures.len c.len-then-slot-len.ensures.len c.if-slot-len.true

pub returns-else-slot-len : goal.returns-else-slot-len
returns-else-slot-len c = live_none c.args.self.now c.args.slot.now c.len.result c.len.ensures.len (omega (arith, c.if-slot-len.false))
