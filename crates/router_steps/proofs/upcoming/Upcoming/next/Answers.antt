use Rattle.std.proofs.Common.{◌∙◌, arith}
use Rattle.router_steps.proofs.Coming.{next_comes, no_events, none_comes}
use Rattle.router_steps.proofs.upcoming.Upcoming.next.Goals as goal

pub returns-in_default-clause-next : goal.returns-in_default-clause-next
returns-in_default-clause-next c =
    let u = c.loop-self.self in
    none_comes u.elems.items u.over u.events.now c.args.router.now.held.candidates (omega (arith, c.loop-self-test.true, c.len.ensures)) (no_events u.events.now c.in_default.ensures.cases)

pub loop-self-preserved : goal.loop-self-preserved
loop-self-preserved c =
    let u = c.loop-self.self in
    next_comes u.elems.items c.in_ok-self.field-0.items u.over u.events.now c.in-Some.more.now c.in-Some.event.now c.args.router.now.held.candidates (omega (arith, c.loop-self-test.true, c.len.ensures)) c.in-Some.ensures.cases.0 c.in_ok-self.ensures ∙ c.loop-self.invariant
