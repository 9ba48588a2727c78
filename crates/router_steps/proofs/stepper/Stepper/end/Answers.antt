use Rattle.std.proofs.Common.{refl, sym, ◌∙◌}
use Rattle.fib_router.specs.Router.{begun_elem}
use Rattle.step_script.specs.Rows.{ended, left}
use Rattle.step_script.specs.Script.{ends}
use Rattle.router_steps.proofs.Assembled.{as_begun, as_counted, event_of, leads_as}
use Rattle.router_steps.proofs.Events.{ended_not, ended_now}
use Rattle.router_steps.proofs.stepper.Stepper.end.Goals as goal

pub end-requires : goal.end-requires
end-requires c = let x = c.requires.somewhere in (event_of x.0 x.1 c.args.self.now c.in-Some.begun (sym c.take.ensures.value ∙ c.in-Some.is) x.2).2.token

pub pass-requires : goal.pass-requires
pass-requires c = let x = c.requires.somewhere in let v = (event_of x.0 x.1 c.args.self.now c.in-Some.begun (sym c.take.ensures.value ∙ c.in-Some.is) x.2).2 in (begun_elem c.in-Some.begun, v.more, v.next)

pub returns-in-Ok-clause-leads : goal.returns-in-Ok-clause-leads
returns-in-Ok-clause-leads c = λ w s h.
    let x = c.args.self.now in
    let b = c.in-Some.begun in
    let is = sym c.take.ensures.value ∙ c.in-Some.is in
    leads_as w s ends ended ended _ _ refl (as_counted x c.end.new.self c.pass.new.self c.take.new.self c.take.ensures.after)
    (ended_now w s x b is h c.end.new.self c.pass.new.self
    (record { rest = c.in-Ok.ensures.rest; takes = c.in-Ok.ensures.takes; stands = c.in-Ok.ensures.stands; own = c.in-Ok.ensures.own; other = c.in-Ok.ensures.other })
    (λ hand. c.pass.ensures.hand (begun_elem b) _ hand) c.pass.ensures.events)

pub returns-in-Err-clause-leads : goal.returns-in-Err-clause-leads
returns-in-Err-clause-leads c = λ w s h.
    let x = c.args.self.now in
    let is = sym c.take.ensures.value ∙ c.in-Some.is in
    leads_as w s ends left left _ _ refl (as_begun x c.end.new.self x.upcoming x.ended _ _ c.keep.ensures) (ended_not w s x c.in-Some.begun is h c.in-Err.begun c.end.new.self c.in-Err.ensures.left)
