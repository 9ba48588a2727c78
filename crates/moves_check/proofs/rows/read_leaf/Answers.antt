use Rattle.std.proofs.Common.{map, sym, ap, ◌∙◌, None}
use Rattle.fib_addr.specs.Views.{prefix_as, entry_as}
use Rattle.moves_model.specs.Sets.{these}
use Rattle.moves_check.specs.Stack.{demand_as, demands_as}
use Rattle.moves_check.proofs.Stacks.{leaf_passed, leaf_refused, leaf_as}
use Rattle.moves_check.proofs.rows.read_leaf.Goals as goal

pub returns-then-not-is_leaf : goal.returns-then-not-is_leaf
returns-then-not-is_leaf c = λ R T t.
    let p = prefix_as c.args.prefix.now in
    leaf_refused R T c.args.against.now.family p c.args.hop.0 c.args.row (demands_as c.args.stack.now.items) (demands_as c.args.stack.now.items) None (sym (c.is_leaf.ensures R T t) ∙ c.if-not-is_leaf.true)

pub returns : goal.returns
returns c = λ R T t.
    let p = prefix_as c.args.prefix.now in
    let i = demand_as c.in_ok-item.item in
    leaf_passed R T c.args.against.now.family p c.args.hop.0 c.args.row (demands_as c.args.stack.now.items) (demands_as c.push_demand.new.stack.items) i (sym (c.is_leaf.ensures R T t) ∙ c.if-not-is_leaf.false)
    (leaf_as (map entry_as c.args.against.now.old.now) T p c.args.hop.0 i _ (t.hops p) (ap these c.one.ensures) c.in_ok-item.ensures) c.in_ok-push_demand.ensures
