use Rattle.std.proofs.Common.{refl, ap, None}
use Rattle.std.specs.Prelude.{option_map}
use Rattle.std.proofs.lemmas.Result.{IfOk-weaker}
use Rattle.cert_model.specs.Views.{row_as}
use Rattle.moves_check.specs.Views.{no_moves_as}
use Rattle.moves_check.specs.Stack.{demands_as}
use Rattle.moves_check.proofs.Stacks.{row_is}
use Rattle.moves_check.proofs.rows.read_row.Goals as goal

pub returns-in-Leaf-clause-read : goal.returns-in-Leaf-clause-read
returns-in-Leaf-clause-read c =
    IfOk-weaker c.read_leaf.result _ _
    (λ no r R T t. row_is R T c.args.against.now.family (row_as c.args.row.now) _ c.args.number (demands_as c.args.reading.now.stack.items) (demands_as c.read_leaf.new.stack.items) None c.args.reading.now.bound (option_map no_moves_as no) (ap row_as c.in-Leaf.is) c.requires.before (r R T t))
    c.read_leaf.ensures

pub returns-in-Join-clause-read : goal.returns-in-Join-clause-read
returns-in-Join-clause-read c =
    IfOk-weaker c.read_join.result _ _
    (λ no r R T t. row_is R T c.args.against.now.family (row_as c.args.row.now) _ c.args.number (demands_as c.args.reading.now.stack.items) (demands_as c.read_join.new.stack.items) None c.args.reading.now.bound (option_map no_moves_as no) (ap row_as c.in-Join.is) c.requires.before (r R T t))
    c.read_join.ensures

pub returns-in-Bound-clause-read : goal.returns-in-Bound-clause-read
returns-in-Bound-clause-read c =
    IfOk-weaker c.read_bound.result _ _
    (λ no r R T t. row_is R T c.args.against.now.family (row_as c.args.row.now) _ c.args.number (demands_as c.args.reading.now.stack.items) (demands_as c.read_bound.new.stack.items) c.read_bound.new.bound c.read_bound.new.bound (option_map no_moves_as no) (ap row_as c.in-Bound.is) refl (r R T))
    c.read_bound.ensures.read
