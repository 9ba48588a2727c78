use Rattle.std.proofs.Common.{◌≡◌}
use Rattle.router_steps.proofs.Running.{Going, IsEarly}
use Rattle.router_steps.proofs.stepper.Stepper.run.Given as goal

abbrev pub invariant-loop-step : goal.invariant-loop-step
invariant-loop-step l = record { going : Going l.fn.self l.script l.step-index l.text l.self; early : IsEarly l.step-index l.self; counted : l.text.steps ≡ l.step-index }
