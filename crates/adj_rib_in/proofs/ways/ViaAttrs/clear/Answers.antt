use Rattle.adj_rib_in.proofs.WayLists.{none_in_order}
use Rattle.adj_rib_in.proofs.ways.ViaAttrs.clear.Goals as goal

pub invariant_of-self : goal.invariant_of-self
invariant_of-self c = none_in_order c.clear.new.self.items c.clear.ensures.items
