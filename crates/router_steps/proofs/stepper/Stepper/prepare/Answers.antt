use Rattle.std.proofs.Common.{sym, ◌∙◌}
use Rattle.router_steps.proofs.Beginning.{asked, asked_stops, asked_takes, none_of}
use Rattle.router_steps.proofs.stepper.Stepper.prepare.Goals as goal

pub begin-requires-clause-quiet : goal.begin-requires-clause-quiet
begin-requires-clause-quiet c = none_of c.args.self.now.begun (sym c.is_some.ensures ∙ c.if-is_some.false)

pub begin-requires-clause-somewhere : goal.begin-requires-clause-somewhere
begin-requires-clause-somewhere c =
    let a = c.requires.somewhere in
    let none = none_of c.args.self.now.begun (sym c.is_some.ensures ∙ c.if-is_some.false) in
    (a.0, a.1, asked a.0 a.1 c.args.self.now c.next.new.self none c.next.ensures.rest a.2)

pub returns-in-Some-clause-takes : goal.returns-in-Some-clause-takes
returns-in-Some-clause-takes c =
    let none = none_of c.args.self.now.begun (sym c.is_some.ensures ∙ c.if-is_some.false) in
    asked_takes c.begin.result c.args.self.now (record c.args.self.now { upcoming = c.next.new.self }) c.begin.new.self (λ w s h. asked w s c.args.self.now c.next.new.self none c.next.ensures.rest h) c.begin.ensures.takes

pub returns-in-Some-clause-stops : goal.returns-in-Some-clause-stops
returns-in-Some-clause-stops c =
    let none = none_of c.args.self.now.begun (sym c.is_some.ensures ∙ c.if-is_some.false) in
    asked_stops c.begin.result c.args.self.now (record c.args.self.now { upcoming = c.next.new.self }) c.begin.new.self (λ w s h. asked w s c.args.self.now c.next.new.self none c.next.ensures.rest h) c.begin.ensures.stops
