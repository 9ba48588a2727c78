use Rattle.std.proofs.Common.{refl, sym, ◌∙◌}
use Rattle.step_script.specs.Rows.{cancelled, late}
use Rattle.step_script.specs.Script.{cancels}
use Rattle.router_steps.proofs.Assembled.{as_begun, event_of, leads_as}
use Rattle.router_steps.proofs.Events.{cancelled_not, cancelled_now}
use Rattle.router_steps.proofs.stepper.Stepper.cancel.Goals as goal

pub cancel-requires : goal.cancel-requires
cancel-requires c = let x = c.requires in (event_of x.0 x.1 c.args.self.now c.in-Some.begun (sym c.take.ensures.value ∙ c.in-Some.is) x.2).2.token

pub returns-in-Ok-clause-leads : goal.returns-in-Ok-clause-leads
returns-in-Ok-clause-leads c = λ w s h.
    let x = c.args.self.now in
    let is = sym c.take.ensures.value ∙ c.in-Some.is in
    leads_as w s cancels cancelled cancelled _ _ refl (as_begun x c.cancel.new.self x.upcoming x.ended _ _ c.take.ensures.after)
    (cancelled_now w s x c.in-Some.begun is h c.cancel.new.self
    (record { rest = c.in-Ok.ensures.rest; held = c.in-Ok.ensures.held; own = c.in-Ok.ensures.own; other = c.in-Ok.ensures.other }))

pub returns-in-Err-clause-leads : goal.returns-in-Err-clause-leads
returns-in-Err-clause-leads c = λ w s h.
    let x = c.args.self.now in
    let is = sym c.take.ensures.value ∙ c.in-Some.is in
    leads_as w s cancels late late _ _ refl (as_begun x c.cancel.new.self x.upcoming x.ended _ _ c.keep.ensures) (cancelled_not w s x c.in-Some.begun is h c.in-Err.begun c.cancel.new.self c.in-Err.ensures.late)
