use Rattle.std.proofs.Common.{◌+◌, ◌-◌, ◌%◌, ap, ◌∙◌}
use Rattle.made_input.proofs.Drawing.{bits_cleared, cleared_below, few_bits, few_peers, route_drawn, state-add}
use Rattle.made_input.specs.Draws.{state_after}
use Rattle.made_input.proofs.route.Route.draw.Goals as goal

pub returns-clause-value : goal.returns-clause-value
returns-clause-value c = route_drawn c.args.from.now.state c.draw.new.self.state c.draw-2.new.self.state c.draw.result c.draw-2.result c.draw-3.result c.draw.ensures.state c.draw-2.ensures.state c.draw.ensures.value c.draw-2.ensures.value c.draw-3.ensures.value

pub returns-clause-state : goal.returns-clause-state
returns-clause-state c =
    c.draw-3.ensures.state ∙ (ap (λ s. state_after s 1) (c.draw-2.ensures.state ∙ (ap (λ s. state_after s 1) c.draw.ensures.state ∙ state-add c.args.from.now.state 1 1)) ∙ state-add c.args.from.now.state 2 1)

pub invariant_of-result : goal.invariant_of-result
invariant_of-result c = record {
  few = few_bits c.draw.result;
  below = cleared_below (32 - (8 + c.draw.result % 17)) c.draw-2.result;
  cleared = bits_cleared (32 - (8 + c.draw.result % 17)) c.draw-2.result;
  known = few_peers c.draw-3.result;
}
