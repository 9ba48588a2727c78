use Rattle.std.proofs.Common.{map}
use Rattle.std.proofs.lemmas.Result.{err_from_is_err_and}
use Rattle.fib_prefix.specs.Views.{event_as}
use Rattle.step_script.specs.Steps.{step_as}
use Rattle.router_steps.specs.Stepping.{world_of}
use Rattle.router_steps.proofs.Running.{somewhere}
use Rattle.router_steps.proofs.run.run_steps.Goals as goal

pub run-made-requires-clause-at_first : goal.run-made-requires-clause-at_first
run-made-requires-clause-at_first c = let s = c.requires.stands in (world_of c.args.engine.sizes s.0 (map event_as c.args.events.now), c.in_ok-stepper.ensures s.0 s.1)

pub close-requires : goal.close-requires
close-requires c =
    let s = c.requires.stands in
    somewhere (map step_as c.args.script.now) _ _ _ c.run-made.result (world_of c.args.engine.sizes s.0 (map event_as c.args.events.now), c.in_ok-stepper.ensures s.0 s.1) c.run-made.ensures.runs c.run-made.ensures.stops

pub returns-in_err-made-clause-stops : goal.returns-in_err-made-clause-stops
returns-in_err-made-clause-stops c =
    let p = err_from_is_err_and c.from_residual-in_err-made.result c.from_residual-in_err-made.ensures.1 in
    rw (p.1, p.2) (λ load s. (c.in_err-made.ensures.stops (world_of c.args.engine.sizes load (map event_as c.args.events.now)) (c.in_ok-stepper.ensures load s)).0)

pub returns-clause-text : goal.returns-clause-text
returns-clause-text c = λ load s.
    let run = c.in_ok-made.ensures.runs (world_of c.args.engine.sizes load (map event_as c.args.events.now)) (c.in_ok-stepper.ensures load s) in
    (run.0, run.1, run.2, c.in_ok-octets.ensures run.0 run.4)
