use Rattle.std.proofs.Common.{ap}
use Rattle.cert_check.specs.Stack.{item_as, stack_as}
use Rattle.cert_check.proofs.Stacks.{at_none, at_wrong, at_read, at_told}
use Rattle.cert_check.proofs.rows.read_bound.Goals as goal

pub returns-in-None-clause-read : goal.returns-in-None-clause-read
returns-in-None-clause-read c = λ R rows.
    at_none R c.args.family c.args.said c.args.row c.args.reading.now.due (stack_as c.args.reading.now.stack.items) (stack_as c.whole_of.new.stack.items) rows c.requires.due c.in-None.ensures

pub returns-then-said-due-clause-read : goal.returns-then-said-due-clause-read
returns-then-said-due-clause-read c = λ R rows.
    at_wrong R c.args.family c.args.said c.args.row c.bound_of-due.result c.args.reading.now.due (stack_as c.args.reading.now.stack.items) (stack_as c.whole_of.new.stack.items) (item_as c.in-Some.item) rows c.requires.due c.in-Some.ensures
    c.bound_of-due.ensures c.if-said-due.true

pub returns-else-said-due-clause-read : goal.returns-else-said-due-clause-read
returns-else-said-due-clause-read c = λ R.
    at_read R c.args.family c.args.said c.args.row c.bound_of-due.result c.args.reading.now.due c.end_family.new.reading.due (stack_as c.args.reading.now.stack.items) (stack_as c.whole_of.new.stack.items)
    (stack_as c.end_family.new.reading.stack.items) (item_as c.in-Some.item) c.requires.due c.in-Some.ensures c.bound_of-due.ensures c.if-said-due.false c.end_family.ensures.due
    (ap (λ v. stack_as v.items) c.end_family.ensures.stack)

pub returns-else-said-due-clause-told : goal.returns-else-said-due-clause-told
returns-else-said-due-clause-told c = λ e R.
    at_told R c.args.family c.bound_of-due.result c.args.reading.now.due c.end_family.new.reading.due (stack_as c.args.reading.now.stack.items) (stack_as c.whole_of.new.stack.items) (item_as c.in-Some.item)
    c.args.reading.now.v4 c.args.reading.now.v6 c.end_family.new.reading.v4 c.end_family.new.reading.v6 c.requires.due c.in-Some.ensures c.bound_of-due.ensures c.end_family.ensures.due (c.end_family.ensures.told R)
