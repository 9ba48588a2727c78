use Rattle.std.proofs.Common.{map}
use Rattle.std.proofs.lemmas.Result.{IfOk-weaker}
use Rattle.fib_addr.specs.Views.{prefix_as, entry_as}
use Rattle.moves_model.specs.Demands.{join_demand}
use Rattle.moves_check.specs.Stack.{demand_as, SameDemand}
use Rattle.moves_check.proofs.Stacks.{joined_item}
use Rattle.moves_check.proofs.rows.joint_demand.Goals as goal
use Rattle.fib_moves.specs.Views.{allowed_as}

pub returns : goal.returns
returns c =
    let E = map entry_as c.args.against.now.old.now in
    let p = prefix_as c.args.prefix.now in
    let w = allowed_as c.in_ok-joined.joined.hops in
    IfOk-weaker c.weigh.result _ (λ i. SameDemand (demand_as i) (join_demand E p (demand_as c.args.halves.low) (demand_as c.args.halves.high)))
    (λ i e. joined_item E p (demand_as c.args.halves.low) (demand_as c.args.halves.high) (demand_as i) w c.in_ok-joined.joined.apart c.in_ok-k.k c.in_ok-k-2.k c.in_ok-joined.ensures.hops c.in_ok-joined.ensures.apart c.in_ok-k.ensures c.in_ok-k-2.ensures e)
    c.weigh.ensures
