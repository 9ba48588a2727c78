use Rattle.std.proofs.Common.{[], ◌∷◌, refl, sym, ◌∙◌, None}
use Rattle.moves_check.specs.Stack.{demand_as}
use Rattle.moves_check.proofs.Stacks.{bound_passed, bound_wrong, bound_other}
use Rattle.moves_check.proofs.rows.read_whole.Goals as goal

pub returns-then-not-is_whole-clause-read : goal.returns-then-not-is_whole-clause-read
returns-then-not-is_whole-clause-read c = λ R T.
    bound_other R T c.args.family c.args.of c.args.said c.args.row (demand_as c.args.item.now ∷ []) [] (demand_as c.args.item.now) None refl (sym c.is_whole.ensures ∙ c.if-not-is_whole.true)

pub returns-then-said-due-clause-read : goal.returns-then-said-due-clause-read
returns-then-said-due-clause-read c = λ R T.
    bound_wrong R T c.args.family c.args.of c.args.said c.args.row c.in_ok-due.due (demand_as c.args.item.now ∷ []) [] (demand_as c.args.item.now) None refl (sym c.is_whole.ensures ∙ c.if-not-is_whole.false) c.in_ok-due.ensures c.if-said-due.true

pub returns-clause-read : goal.returns-clause-read
returns-clause-read c = λ R T.
    bound_passed R T c.args.family c.args.of c.args.said c.args.row (demand_as c.args.item.now ∷ []) [] (demand_as c.args.item.now) refl (sym c.is_whole.ensures ∙ c.if-not-is_whole.false) (c.if-said-due.false ∙ c.in_ok-due.ensures)
