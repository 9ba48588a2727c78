use Rattle.std.proofs.Common.{arith}
use Rattle.step_script.specs.Steps.{step_as}
use Rattle.step_script.specs.RowViews.{step_row_as}
use Rattle.router_steps.specs.declared.error.StepError.TheVariants as error
use Rattle.router_steps.proofs.Running.{early_first, printed_at, going_first, going_on, went, stopped, no_memory, err_is}
use Rattle.router_steps.proofs.stepper.Stepper.run.Goals as goal

pub loop-step-init : goal.loop-step-init
loop-step-init c = record {
  going = going_first c.args.self.now c.args.script.now c.args.text.now c.requires.empty;
  early = let a = c.requires.at_first in early_first a.0 c.args.self.now a.1;
  counted = c.requires.empty.steps;
}

pub step-requires-clause-printed : goal.step-requires-clause-printed
step-requires-clause-printed c = printed_at c.args.script.now c.loop-step.step-index c.step-item.result c.requires.printed c.loop-step-test.true c.step-item.is

pub step-requires-clause-somewhere : goal.step-requires-clause-somewhere
step-requires-clause-somewhere c =
    let a = c.requires.at_first in
    let g = c.loop-step.invariant.going a.0 a.1 in
    (a.0, g.1, g.3)

pub put-requires-clause-so_far : goal.put-requires-clause-so_far
put-requires-clause-so_far c =
    let a = c.requires.at_first in
    let g = c.loop-step.invariant.going a.0 a.1 in
    (g.0, g.4)

pub returns-in_err-row-clause-stops : goal.returns-in_err-row-clause-stops
returns-in_err-row-clause-stops c =
    err_is c.from_residual.result c.in_err-row.field-0.0 _ c.from_residual.ensures.1 (stopped c.args.self.now c.loop-step.self c.step.new.self c.args.script.now c.loop-step.step-index c.loop-step.text c.step-item.result c.in_err-row.field-0.0 c.loop-step-test.true c.step-item.is c.in_err-row.ensures.stops c.loop-step.invariant.going)

pub returns-in_err-put-clause-stops : goal.returns-in_err-put-clause-stops
returns-in_err-put-clause-stops c =
    err_is c.from_residual-in_err-put.result error.NoMemory _ c.from_residual-in_err-put.ensures.1 (no_memory c.args.self.now c.loop-step.self c.step.new.self c.args.script.now c.loop-step.step-index c.loop-step.text (step_as c.step-item.result) (step_row_as c.in_ok-row.row) c.in_ok-row.ensures.takes c.loop-step.invariant.going)

pub loop-step-preserved : goal.loop-step-preserved
loop-step-preserved c = record {
  going = going_on c.args.self.now c.loop-step.self c.step.new.self c.args.script.now c.loop-step.step-index c.loop-step.text c.put.new.self c.step-item.result c.in_ok-row.row c.loop-step-test.true c.step-item.is c.in_ok-put.ensures.rows c.in_ok-row.ensures.takes c.loop-step.invariant.going;
  early = omega (arith, c.loop-step.invariant.early, c.step.ensures.ended);
  counted = omega (arith, c.loop-step.invariant.counted, c.in_ok-put.ensures.steps);
}

pub returns-clause-runs : goal.returns-clause-runs
returns-clause-runs c = went c.args.self.now c.loop-step.self c.args.script.now c.loop-step.step-index c.loop-step.text c.loop-step-test.false c.loop-step.invariant.going
