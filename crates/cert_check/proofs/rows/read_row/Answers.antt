use Rattle.std.proofs.Common.{[], sym, ap, ◌∙◌}
use Rattle.std.proofs.lemmas.Result.{IfOk-weaker}
use Rattle.std.specs.Prelude.{option_map}
use Rattle.fib_addr.specs.Views.{prefix_as}
use Rattle.cert_model.specs.Views.{row_as}
use Rattle.cert_check.specs.Views.{no_as}
use Rattle.cert_check.specs.Stack.{stack_as}
use Rattle.cert_check.proofs.Holding.{prefix_short}
use Rattle.cert_check.proofs.Stacks.{leaf_read, join_read, in_due, row_none, row_other, row_bound, same_test, join_weight, went_on}
use Rattle.cert_check.proofs.rows.read_row.Goals as goal

pub returns-in-None-clause-read : goal.returns-in-None-clause-read
returns-in-None-clause-read c = λ R t rows. row_none R (row_as c.args.row.now) c.args.number c.args.reading.now.due (stack_as c.args.reading.now.stack.items) rows c.in-None.is

pub returns-in-Leaf-clause-read : goal.returns-in-Leaf-clause-read
returns-in-Leaf-clause-read c =
    let st = stack_as c.args.reading.now.stack.items in
    let st' = stack_as c.read_leaf.new.stack.items in
    IfOk-weaker c.read_leaf.result _ _
    (λ x d R t. in_due R (row_as c.args.row.now) _ c.args.number c.in-Some.family c.args.reading.now.due st st' (option_map no_as x) (ap row_as c.in-Leaf.is) c.in-Some.is
    (leaf_read R (prefix_as c.in-Leaf.prefix) c.in-Leaf.hop.0 c.args.number c.in-Some.family st st' (option_map no_as x) (prefix_short c.in-Leaf.prefix) (d R t)))
    c.read_leaf.ensures.read

pub returns-in-Join-clause-read : goal.returns-in-Join-clause-read
returns-in-Join-clause-read c =
    let st = stack_as c.args.reading.now.stack.items in
    let st' = stack_as c.read_join.new.stack.items in
    IfOk-weaker c.read_join.result _ _
    (λ x d R t. in_due R (row_as c.args.row.now) _ c.args.number c.in-Some.family c.args.reading.now.due st st' (option_map no_as x) (ap row_as c.in-Join.is) c.in-Some.is
    (join_read R (prefix_as c.in-Join.prefix) c.in-Join.k c.args.number c.in-Some.family st st' (option_map no_as x) d))
    c.read_join.ensures.read

pub returns-then-eq-clause-read : goal.returns-then-eq-clause-read
returns-then-eq-clause-read c = λ R t.
    row_bound R (row_as c.args.row.now) c.in-Bound.of c.in-Some.family c.in-Bound.bound c.args.number c.args.reading.now.due c.read_bound.new.reading.due (stack_as c.args.reading.now.stack.items)
    (stack_as c.read_bound.new.reading.stack.items) (option_map no_as c.read_bound.result) (ap row_as c.in-Bound.is) (sym (same_test c.in-Bound.of c.in-Some.family) ∙ (sym c.eq.ensures ∙ c.if-eq.true)) (c.read_bound.ensures.read R)

pub returns-else-eq-clause-read : goal.returns-else-eq-clause-read
returns-else-eq-clause-read c = λ R t rows.
    row_other R (row_as c.args.row.now) c.in-Bound.of c.in-Some.family c.in-Bound.bound c.args.number c.args.reading.now.due (stack_as c.args.reading.now.stack.items) rows (ap row_as c.in-Bound.is) c.in-Some.is
    (sym (same_test c.in-Bound.of c.in-Some.family) ∙ (sym c.eq.ensures ∙ c.if-eq.false))

pub returns-in-Join-clause-weight : goal.returns-in-Join-clause-weight
returns-in-Join-clause-weight c =
    IfOk-weaker c.read_join.result _ _
    (λ x d e. join_weight (prefix_as c.in-Join.prefix) c.in-Join.k c.args.number (stack_as c.args.reading.now.stack.items) (stack_as c.read_join.new.stack.items) x e d) c.read_join.ensures.read

pub returns-then-eq-clause-weight : goal.returns-then-eq-clause-weight
returns-then-eq-clause-weight c = λ e. (went_on [] _ c.args.number _ _ _ _ c.read_bound.result e (c.read_bound.ensures.read [])).1
