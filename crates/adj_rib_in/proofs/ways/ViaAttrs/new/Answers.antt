use Rattle.adj_rib_in.proofs.WayLists.{none_in_order}
use Rattle.adj_rib_in.proofs.ways.ViaAttrs.new.Goals as goal

pub invariant_of-result : goal.invariant_of-result
invariant_of-result c = none_in_order c.new.result.items c.new.ensures.items
