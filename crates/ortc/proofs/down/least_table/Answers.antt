use Rattle.std.proofs.Common.{◌++◌, map, ap, ◌∙◌}
use Rattle.fib_addr.specs.Views.{entry_as}
use Rattle.table_model.specs.Entries.{of_family}
use Rattle.table_model.specs.Both.{aggregate_in}
use Rattle.ortc.proofs.Falling.{fresh_least, fresh_best, fresh_sorted}
use Rattle.ortc.proofs.down.least_table.Goals as goal

pub returns-clause-aggregate : goal.returns-clause-aggregate
returns-clause-aggregate c =
    let tree = c.args.tree.now in
    c.in_ok-emit_least.ensures.takes ∙ ap (λ es. map entry_as es ++ aggregate_in tree.family tree.routes tree.entries) c.new-table.ensures.items

pub returns-clause-least : goal.returns-clause-least
returns-clause-least c =
    let f = c.args.tree.now.family in
    let R = of_family f c.args.tree.now.routes in
    let E = of_family f c.args.tree.now.entries in
    fresh_least f R E (map entry_as c.emit_least.new.out.items) (returns-clause-aggregate c)

pub returns-clause-best : goal.returns-clause-best
returns-clause-best c =
    let f = c.args.tree.now.family in
    fresh_best f (of_family f c.args.tree.now.routes) (of_family f c.args.tree.now.entries) (map entry_as c.emit_least.new.out.items) (returns-clause-aggregate c)

pub returns-clause-order : goal.returns-clause-order
returns-clause-order c =
    let f = c.args.tree.now.family in
    fresh_sorted f (of_family f c.args.tree.now.routes) (of_family f c.args.tree.now.entries) (map entry_as c.emit_least.new.out.items) (returns-clause-aggregate c)
