use Rattle.adj_rib_in.proofs.WayLists.{set_in_order, set_offers, put_in_order, put_offers}
use Rattle.adj_rib_in.proofs.ways.ViaAttrs.put.Goals as goal

pub invariant_of-self : goal.invariant_of-self
invariant_of-self c = set_in_order c.self.inside.list.items c.args.self.now c.in-Ok.at c.args.via c.args.attrs c.index.result.now c.place_of.result c.self.view_is c.self.invariant c.place_of.ensures c.in-Ok.is c.index.ensures

pub returns-in-Ok : goal.returns-in-Ok
returns-in-Ok c = set_offers c.self.inside.list.items c.args.self.now c.in-Ok.at c.args.via c.args.attrs c.index.result.now c.place_of.result c.self.view_is c.self.invariant c.place_of.ensures c.in-Ok.is c.index.ensures

pub invariant_of-self-in-Err : goal.invariant_of-self-in-Err
invariant_of-self-in-Err c = put_in_order c.self.inside.list.items c.args.self.now c.insert.new.self.items c.in-Err.at c.args.via c.args.attrs c.place_of.result c.self.view_is c.self.invariant c.place_of.ensures c.in-Err.is c.in_ok-insert-in-Err.ensures.items

pub returns-in_ok-insert-in-Err : goal.returns-in_ok-insert-in-Err
returns-in_ok-insert-in-Err c = put_offers c.self.inside.list.items c.args.self.now c.insert.new.self.items c.in-Err.at c.args.via c.args.attrs c.place_of.result c.self.view_is c.self.invariant c.place_of.ensures c.in-Err.is c.in_ok-insert-in-Err.ensures.items
