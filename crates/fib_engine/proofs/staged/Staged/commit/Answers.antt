use Rattle.std.proofs.Common.{◌≡◌, ◌∷◌, ◌++◌, [], Option, ap, length, subst, sym, ◌∙◌}
use Rattle.std.specs.Prelude.{option_map}
use Rattle.route_model.specs.Events.{Elem}
use Rattle.orig_tree.specs.Views.{InPlace}
use Rattle.fib_engine.specs.Held.{EngineState}
use Rattle.fib_engine.specs.Parts.{state_in, waiting_elem}
use Rattle.fib_engine.specs.Staged.{Staging, Waits, elem_of_plan}
use Rattle.fib_engine.specs.Stands.{EngineStands, TakesElem, changes_of, first_of}
use Rattle.fib_engine.specs.declared.parts.Waiting as code_waiting
use Rattle.fib_engine.proofs.Taking.{is_elem, shortest_first, stands_more}
use Rattle.fib_engine.proofs.Staging.{planned_placed, some_same, sound_fits, waiting_is}
use Rattle.fib_engine.proofs.staged.Staged.commit.Goals as goal

pub commit-requires : goal.commit-requires
commit-requires c =
    let t = c.self.inside in
    waiting_is t.waiting c.in-Some.waiting t.parts (sym c.take.ensures.value ∙ c.in-Some.is) c.self.invariant

pub invariant_of-self : goal.invariant_of-self
invariant_of-self c =
    let t = c.self.inside in
    let w = c.in-Some.waiting in
    let q = c.commit.new.self in
    let i = waiting_is t.waiting w t.parts (sym c.take.ensures.value ∙ c.in-Some.is) c.self.invariant in
    subst (λ (o : Option code_waiting.Waiting). Waits o q) (sym c.take.ensures.after) (c.commit.ensures.takes.loaded ∙ i.loaded, c.commit.ensures.sound)

pub returns-clause-takes : goal.returns-clause-takes
returns-clause-takes c =
    let t = c.self.inside in
    let w = c.in-Some.waiting in
    let o = sym c.take.ensures.value ∙ c.in-Some.is in
    let same : waiting_elem w ≡ elem_of_plan c.args.planned = some_same (sym (ap (option_map waiting_elem) o) ∙ (ap (λ (x : Staging). x.planned) c.self.view_is ∙ c.requires)) in
    let new = state_in c.commit.new.self in
    subst (λ (h : EngineState). TakesElem (elem_of_plan c.args.planned) h new) (ap (λ (x : Staging). x.held) c.self.view_is) (subst (λ (x : Elem). TakesElem x (state_in t.parts) new) same c.commit.ensures.takes)

pub returns-clause-changes : goal.returns-clause-changes
returns-clause-changes c =
    let t = c.self.inside in
    let w = c.in-Some.waiting in
    let o = sym c.take.ensures.value ∙ c.in-Some.is in
    let same : waiting_elem w ≡ elem_of_plan c.args.planned = some_same (sym (ap (option_map waiting_elem) o) ∙ (ap (λ (x : Staging). x.planned) c.self.view_is ∙ c.requires)) in
    c.commit.ensures.changes ∙ (ap (λ (x : Elem). changes_of x (state_in t.parts)) same ∙ ap (λ (x : Staging). changes_of (elem_of_plan c.args.planned) x.held) c.self.view_is)

pub returns-clause-first : goal.returns-clause-first
returns-clause-first c =
    let t = c.self.inside in
    let w = c.in-Some.waiting in
    let o = sym c.take.ensures.value ∙ c.in-Some.is in
    let same : waiting_elem w ≡ elem_of_plan c.args.planned = some_same (sym (ap (option_map waiting_elem) o) ∙ (ap (λ (x : Staging). x.planned) c.self.view_is ∙ c.requires)) in
    c.commit.ensures.first ∙ (ap (λ (x : Elem). length (first_of x (state_in t.parts))) same ∙ ap (λ (x : Staging). length (first_of (elem_of_plan c.args.planned) x.held)) c.self.view_is)

pub returns-clause-shortest : goal.returns-clause-shortest
returns-clause-shortest c =
    let t = c.self.inside in
    let i = waiting_is t.waiting c.in-Some.waiting t.parts (sym c.take.ensures.value ∙ c.in-Some.is) c.self.invariant in
    shortest_first (elem_of_plan c.args.planned) c.args.self.now.held (subst (λ (x : Staging). InPlace x.held.table) c.self.view_is (planned_placed c.in-Some.waiting t.parts i))

pub returns-clause-fits : goal.returns-clause-fits
returns-clause-fits c =
    let t = c.self.inside in
    let i = waiting_is t.waiting c.in-Some.waiting t.parts (sym c.take.ensures.value ∙ c.in-Some.is) c.self.invariant in
    sound_fits c.commit.new.self (c.commit.ensures.takes.loaded ∙ i.loaded) c.commit.ensures.sound

pub returns-clause-stands : goal.returns-clause-stands
returns-clause-stands c = λ load elems st.
    let t = c.self.inside in
    let w = c.in-Some.waiting in
    let o = sym c.take.ensures.value ∙ c.in-Some.is in
    let same : waiting_elem w ≡ elem_of_plan c.args.planned = some_same (sym (ap (option_map waiting_elem) o) ∙ (ap (λ (x : Staging). x.planned) c.self.view_is ∙ c.requires)) in
    let i = waiting_is t.waiting w t.parts o c.self.invariant in
    let new = state_in c.commit.new.self in
    let takes : TakesElem (waiting_elem w) c.args.self.now.held new = subst (λ (x : Staging). TakesElem (waiting_elem w) x.held new) c.self.view_is c.commit.ensures.takes in
    let fits = sound_fits c.commit.new.self (c.commit.ensures.takes.loaded ∙ i.loaded) c.commit.ensures.sound in
    subst (λ (e : Elem). EngineStands load (elems ++ e ∷ []) new) same (stands_more load elems (waiting_elem w) c.args.self.now.held new (is_elem w.elem) takes fits st)
