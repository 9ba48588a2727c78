use Rattle.std.proofs.Common.{◌≡◌, [], ◌∷◌, List, sym, ap, subst, ◌∙◌, None}
use Rattle.std.specs.Prelude.{option_map}
use Rattle.std.proofs.lemmas.Result.{IfOk-weaker}
use Rattle.cert_model.specs.Rows.{bound_row}
use Rattle.moves_model.specs.Demands.{Demand}
use Rattle.moves_check.specs.Views.{no_moves_as}
use Rattle.moves_check.specs.Stack.{demand_as, demands_as, MovesRowRead}
use Rattle.moves_check.proofs.Stacks.{bound_empty, bound_more}
use Rattle.moves_check.proofs.rows.read_bound.Goals as goal

pub returns-in-None-clause-read : goal.returns-in-None-clause-read
returns-in-None-clause-read c = λ R T. bound_empty R T c.args.family c.args.of c.args.said c.args.row (demands_as c.args.stack.now.items) [] None c.in-None.ensures.0

pub returns-in-Some-pop_demand-clause-read : goal.returns-in-Some-pop_demand-clause-read
returns-in-Some-pop_demand-clause-read c = λ R T.
    bound_more R T c.args.family c.args.of c.args.said c.args.row (demands_as c.args.stack.now.items) [] (demands_as c.pop_demand-in-Some.new.stack.items) (demand_as c.in-Some.item) (demand_as c.in-Some-pop_demand.field-0) None
    (c.in-Some.ensures ∙ ap (λ (xs : List Demand). demand_as c.in-Some.item ∷ xs) c.in-Some-pop_demand.ensures)

pub returns-clause-read : goal.returns-clause-read
returns-clause-read c =
    let same : demands_as c.args.stack.now.items ≡ demand_as c.in-Some.item ∷ [] = c.in-Some.ensures ∙ ap (λ (xs : List Demand). demand_as c.in-Some.item ∷ xs) c.in-None-pop_demand.ensures.0 in
    IfOk-weaker c.read_whole.result _ _
    (λ no r R T.
    subst (λ (xs : List Demand). MovesRowRead R T c.args.family (bound_row c.args.of c.args.said) c.args.row None xs c.read_whole.new.bound (demands_as c.pop_demand-in-Some.new.stack.items) (option_map no_moves_as no)) (sym same)
    (subst (λ (xs : List Demand). MovesRowRead R T c.args.family (bound_row c.args.of c.args.said) c.args.row None (demand_as c.in-Some.item ∷ []) c.read_whole.new.bound xs (option_map no_moves_as no)) (sym c.in-None-pop_demand.ensures.1) (r R T)))
    c.read_whole.ensures.read
