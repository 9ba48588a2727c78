use Rattle.std.proofs.Common.{ap, length, subst, ◌∙◌}
use Rattle.fib_prefix.specs.Views.{elem_as}
use Rattle.orig_tree.specs.Views.{InPlace}
use Rattle.fib_engine.specs.Held.{EngineState}
use Rattle.fib_engine.specs.Parts.{state_in}
use Rattle.fib_engine.specs.Stands.{TakesElem, changes_of, first_of}
use Rattle.fib_engine.proofs.Taking.{is_elem, shortest_first, stands_more, table_placed}
use Rattle.fib_engine.proofs.Staging.{sound_fits}
use Rattle.fib_engine.proofs.engine.Engine.apply.Goals as goal

pub returns-clause-takes : goal.returns-clause-takes
returns-clause-takes c = subst (λ (h : EngineState). TakesElem (elem_as c.args.elem.now) h (state_in c.apply.new.self)) c.self.view_is c.in_ok-changes.ensures.takes

pub returns-clause-changes : goal.returns-clause-changes
returns-clause-changes c = c.in_ok-changes.ensures.changes ∙ ap (changes_of (elem_as c.args.elem.now)) c.self.view_is

pub returns-clause-first : goal.returns-clause-first
returns-clause-first c = c.in_ok-changes.ensures.first ∙ ap (λ (h : EngineState). length (first_of (elem_as c.args.elem.now) h)) c.self.view_is

pub returns-clause-shortest : goal.returns-clause-shortest
returns-clause-shortest c =
    let t = c.self.inside in
    shortest_first (elem_as c.args.elem.now) c.args.self.now (subst (λ (e : EngineState). InPlace e.table) c.self.view_is (table_placed t.parts.candidates.candidates t.parts.hops.list t.parts.is_loaded t.parts.tables c.self.invariant.0))

pub returns-clause-fits : goal.returns-clause-fits
returns-clause-fits c = sound_fits c.apply.new.self (c.in_ok-changes.ensures.takes.loaded ∙ (ap (λ (h : EngineState). h.loaded) c.self.view_is ∙ c.requires.loaded)) c.apply.ensures.sound

pub returns-clause-stands : goal.returns-clause-stands
returns-clause-stands c = λ load elems st.
    let new = state_in c.apply.new.self in
    let takes = subst (λ (h : EngineState). TakesElem (elem_as c.args.elem.now) h new) c.self.view_is c.in_ok-changes.ensures.takes in
    let fits = sound_fits c.apply.new.self (c.in_ok-changes.ensures.takes.loaded ∙ (ap (λ (h : EngineState). h.loaded) c.self.view_is ∙ c.requires.loaded)) c.apply.ensures.sound in
    stands_more load elems (elem_as c.args.elem.now) c.args.self.now new (is_elem c.args.elem.now) takes fits st
