use Rattle.std.proofs.Common.{map, ap, arith}
use Rattle.fib_addr.specs.Views.{entry_as}
use Rattle.table_model.specs.Entries.{of_family}
use Rattle.ortc.proofs.Falling.{within_told, within_least, within_best, within_sorted}
use Rattle.ortc.proofs.down.within_counted.Goals as goal

pub returns-clause-aggregate : goal.returns-clause-aggregate
returns-clause-aggregate g c =
    let tree = c.args.tree.now in
    within_told c.args.prefix.now tree.family c.args.inherited.0 (of_family tree.family tree.routes) (of_family tree.family tree.entries) (map entry_as c.new-table.result.items) (map entry_as c.descend.new.out.items) c.region_counted-region.result
    c.requires (ap (map entry_as) c.new-table.ensures.items) c.region_counted-region.ensures.bits c.region_counted-region.ensures.answers c.region_counted-region.ensures.entries c.in_ok-descend.ensures.takes

pub returns-clause-least : goal.returns-clause-least
returns-clause-least g c =
    let tree = c.args.tree.now in
    within_least c.args.prefix.now tree.family c.args.inherited.0 (of_family tree.family tree.routes) (of_family tree.family tree.entries) (map entry_as c.descend.new.out.items)
    c.requires (returns-clause-aggregate g c)

pub returns-clause-best : goal.returns-clause-best
returns-clause-best g c =
    let tree = c.args.tree.now in
    within_best c.args.prefix.now tree.family c.args.inherited.0 (of_family tree.family tree.routes) (of_family tree.family tree.entries) (map entry_as c.descend.new.out.items)
    c.requires (returns-clause-aggregate g c)

pub returns-clause-order : goal.returns-clause-order
returns-clause-order g c =
    let tree = c.args.tree.now in
    within_sorted c.args.prefix.now tree.family c.args.inherited.0 (of_family tree.family tree.routes) (of_family tree.family tree.entries) (map entry_as c.descend.new.out.items)
    c.requires (returns-clause-aggregate g c)

pub returns-in_err-descend-clause-steps : goal.returns-in_err-descend-clause-steps
returns-in_err-descend-clause-steps g c = omega (arith, c.region_counted-region.ensures.steps, c.region_counted-region.ensures.nodes, c.descend.ensures.steps)

pub returns-clause-steps : goal.returns-clause-steps
returns-clause-steps g c = omega (arith, c.region_counted-region.ensures.steps, c.region_counted-region.ensures.nodes, c.descend.ensures.steps)
