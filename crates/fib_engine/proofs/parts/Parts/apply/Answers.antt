use Rattle.std.proofs.Common.{ap, length, subst, ◌∙◌}
use Rattle.fib_prefix.specs.Views.{elem_as}
use Rattle.fib_engine.specs.Held.{EngineState}
use Rattle.fib_engine.specs.Parts.{state_in}
use Rattle.fib_engine.specs.Stands.{TakesElem, changes_of, first_of}
use Rattle.fib_engine.proofs.parts.Parts.apply.Goals as goal

pub returns-then-is_passed-clause-takes : goal.returns-then-is_passed-clause-takes
returns-then-is_passed-clause-takes c = subst (λ (h : EngineState). TakesElem (elem_as c.args.elem.now) h (state_in c.pass.new.self)) c.choose.ensures.seen c.pass.ensures.takes

pub returns-then-is_passed-clause-changes : goal.returns-then-is_passed-clause-changes
returns-then-is_passed-clause-changes c = c.pass.ensures.changes ∙ ap (changes_of (elem_as c.args.elem.now)) c.choose.ensures.seen

pub returns-then-is_passed-clause-first : goal.returns-then-is_passed-clause-first
returns-then-is_passed-clause-first c = c.pass.ensures.first ∙ ap (λ (h : EngineState). length (first_of (elem_as c.args.elem.now) h)) c.choose.ensures.seen

pub returns-clause-takes : goal.returns-clause-takes
returns-clause-takes c = subst (λ (h : EngineState). TakesElem (elem_as c.args.elem.now) h (state_in c.make.new.self)) c.choose.ensures.seen c.in_ok-changes.ensures.takes

pub returns-clause-changes : goal.returns-clause-changes
returns-clause-changes c = c.in_ok-changes.ensures.changes ∙ ap (changes_of (elem_as c.args.elem.now)) c.choose.ensures.seen

pub returns-clause-first : goal.returns-clause-first
returns-clause-first c = c.in_ok-changes.ensures.first ∙ ap (λ (h : EngineState). length (first_of (elem_as c.args.elem.now) h)) c.choose.ensures.seen
