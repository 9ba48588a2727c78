use Rattle.std.proofs.Common.{map, refl, sym, ◌∙◌, None}
use Rattle.fib_addr.specs.Views.{prefix_as, entry_as}
use Rattle.moves_check.specs.Stack.{demand_as, demands_as}
use Rattle.moves_check.proofs.Stacks.{join_passed, join_wrong, join_apart, join_as}
use Rattle.moves_check.proofs.rows.read_halves.Goals as goal

pub returns-then-not-have_halves : goal.returns-then-not-have_halves
returns-then-not-have_halves c = λ R T t.
    join_apart R T c.args.against.now.family (prefix_as c.args.prefix.now) c.args.said c.args.row _ (demands_as c.args.stack.now.items) (demands_as c.args.stack.now.items) (demand_as c.args.halves.low) (demand_as c.args.halves.high) None refl (sym c.have_halves.ensures ∙ c.if-not-have_halves.true)

pub returns-then-said-item : goal.returns-then-said-item
returns-then-said-item c = λ R T t.
    let p = prefix_as c.args.prefix.now in
    join_wrong R T c.args.against.now.family p c.args.said c.args.row _ (demands_as c.args.stack.now.items) (demands_as c.args.stack.now.items) (demand_as c.args.halves.low) (demand_as c.args.halves.high) (demand_as c.in_ok-item.item) None refl
    (sym c.have_halves.ensures ∙ c.if-not-have_halves.false) (join_as (map entry_as c.args.against.now.old.now) T p (demand_as c.args.halves.low) (demand_as c.args.halves.high) (demand_as c.in_ok-item.item) (t.hops p) c.in_ok-item.ensures) c.if-said-item.true

pub returns : goal.returns
returns c = λ R T t.
    let p = prefix_as c.args.prefix.now in
    join_passed R T c.args.against.now.family p c.args.said c.args.row _ (demands_as c.push_demand.new.stack.items) (demands_as c.args.stack.now.items) (demand_as c.args.halves.low) (demand_as c.args.halves.high) (demand_as c.in_ok-item.item) refl
    (sym c.have_halves.ensures ∙ c.if-not-have_halves.false) (join_as (map entry_as c.args.against.now.old.now) T p (demand_as c.args.halves.low) (demand_as c.args.halves.high) (demand_as c.in_ok-item.item) (t.hops p) c.in_ok-item.ensures) c.if-said-item.false c.in_ok-push_demand.ensures
