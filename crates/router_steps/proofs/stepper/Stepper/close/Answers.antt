use Rattle.router_steps.proofs.Assembled.{event_of}
use Rattle.router_steps.proofs.stepper.Stepper.close.Goals as goal

pub finish-requires : goal.finish-requires
finish-requires c = let x = c.requires in (event_of x.0 x.1 c.args.self c.in-Some.begun c.in-Some.is x.2).2.token
