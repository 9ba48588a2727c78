use Rattle.std.proofs.Common.{ap, length, subst, ◌∙◌}
use Rattle.fib_prefix.specs.Views.{elem_as}
use Rattle.fib_engine.specs.Held.{EngineState}
use Rattle.fib_engine.specs.Parts.{state_in}
use Rattle.fib_engine.specs.Stands.{TakesElem, changes_of, first_of}
use Rattle.fib_engine.proofs.parts.Parts.make.Goals as goal

pub returns-clause-takes : goal.returns-clause-takes
returns-clause-takes c = subst (λ (h : EngineState). TakesElem (elem_as c.args.elem.now) h (state_in c.commit_fitting.new.self)) c.plan_chosen.ensures.seen c.commit_fitting.ensures.takes

pub returns-clause-changes : goal.returns-clause-changes
returns-clause-changes c = c.commit_fitting.ensures.changes ∙ ap (changes_of (elem_as c.args.elem.now)) c.plan_chosen.ensures.seen

pub returns-clause-first : goal.returns-clause-first
returns-clause-first c = c.commit_fitting.ensures.first ∙ ap (λ (h : EngineState). length (first_of (elem_as c.args.elem.now) h)) c.plan_chosen.ensures.seen
