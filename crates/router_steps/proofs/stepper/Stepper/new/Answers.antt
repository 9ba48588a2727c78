use Rattle.router_steps.proofs.Starting.{first_stands}
use Rattle.router_steps.proofs.stepper.Stepper.new.Goals as goal

pub new-requires-3 : goal.new-requires-3
new-requires-3 c = c.requires.1.loaded

pub returns : goal.returns
returns c = λ load s. first_stands c.args.engine load s c.args.events.now c.in_ok-router.router c.in_ok-v4.v4 c.in_ok-v6.v6 c.new-4.result c.in_ok-router.ensures.held c.in_ok-router.ensures.rest c.in_ok-router.ensures.lives c.in_ok-v4.ensures.none c.in_ok-v6.ensures.none c.in_ok-v4.ensures.fits c.in_ok-v6.ensures.fits (c.new-4.ensures c.args.engine.candidates)
