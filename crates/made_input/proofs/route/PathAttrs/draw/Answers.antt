use Rattle.std.proofs.Common.{ap, ◌∙◌}
use Rattle.made_input.proofs.Drawing.{state-add, attrs_drawn}
use Rattle.made_input.specs.Draws.{state_after}
use Rattle.made_input.proofs.route.PathAttrs.draw.Goals as goal

pub returns-clause-value : goal.returns-clause-value
returns-clause-value c = attrs_drawn c.args.from.now.state c.draw.new.self.state c.draw.result c.draw-2.result c.draw.ensures.state c.draw.ensures.value c.draw-2.ensures.value

pub returns-clause-state : goal.returns-clause-state
returns-clause-state c = c.draw-2.ensures.state ∙ (ap (λ s. state_after s 1) c.draw.ensures.state ∙ state-add c.args.from.now.state 1 1)
