use Rattle.std.proofs.Common.{◌≡◌, ◌∷◌, List, sym, ap, subst, ◌∙◌, None}
use Rattle.std.specs.Prelude.{option_map}
use Rattle.std.proofs.lemmas.Result.{IfOk-weaker}
use Rattle.cert_model.specs.Rows.{join_row}
use Rattle.fib_addr.specs.Views.{prefix_as}
use Rattle.moves_model.specs.Demands.{Demand}
use Rattle.moves_check.specs.Views.{no_moves_as}
use Rattle.moves_check.specs.Stack.{demand_as, demands_as, MovesRowRead}
use Rattle.moves_check.proofs.Stacks.{join_empty, join_single}
use Rattle.moves_check.proofs.rows.read_join.Goals as goal

pub returns-in-None : goal.returns-in-None
returns-in-None c = λ R T t.
    join_empty R T c.args.against.now.family (prefix_as c.args.prefix.now) c.args.said c.args.row (demands_as c.args.stack.now.items) (demands_as c.pop_demand.new.stack.items) None c.in-None.ensures.0

pub returns-in-None-pop_demand : goal.returns-in-None-pop_demand
returns-in-None-pop_demand c = λ R T t.
    join_single R T c.args.against.now.family (prefix_as c.args.prefix.now) c.args.said c.args.row (demands_as c.args.stack.now.items) (demands_as c.pop_demand-in-Some.new.stack.items) (demand_as c.in-Some.high) None
    (c.in-Some.ensures ∙ ap (λ (xs : List Demand). demand_as c.in-Some.high ∷ xs) c.in-None-pop_demand.ensures.0)

pub returns-in-Some-pop_demand : goal.returns-in-Some-pop_demand
returns-in-Some-pop_demand c =
    let st : List Demand = demand_as c.in-Some.high ∷ demand_as c.in-Some-pop_demand.low ∷ demands_as c.pop_demand-in-Some.new.stack.items in
    let same : demands_as c.args.stack.now.items ≡ st = c.in-Some.ensures ∙ ap (λ (xs : List Demand). demand_as c.in-Some.high ∷ xs) c.in-Some-pop_demand.ensures in
    IfOk-weaker c.read_halves.result _ _
    (λ no r R T t. subst (λ (xs : List Demand). MovesRowRead R T c.args.against.now.family (join_row (prefix_as c.args.prefix.now) c.args.said) c.args.row None xs None (demands_as c.read_halves.new.stack.items) (option_map no_moves_as no)) (sym same) (r R T t))
    c.read_halves.ensures
