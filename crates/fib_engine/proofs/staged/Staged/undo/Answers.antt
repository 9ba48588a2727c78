use Rattle.std.proofs.Common.{Option, ap, subst, sym, ◌∙◌}
use Rattle.fib_engine.specs.Held.{EngineState}
use Rattle.fib_engine.specs.Staged.{Waits}
use Rattle.fib_engine.specs.declared.parts.Waiting as code_waiting
use Rattle.fib_engine.proofs.Staging.{waiting_is}
use Rattle.fib_engine.proofs.staged.Staged.undo.Goals as goal

pub undo-requires : goal.undo-requires
undo-requires c =
    let t = c.self.inside in
    waiting_is t.waiting c.in-Some.waiting t.parts (sym c.take.ensures.value ∙ c.in-Some.is) c.self.invariant

pub invariant_of-self : goal.invariant_of-self
invariant_of-self c =
    let t = c.self.inside in
    let i = waiting_is t.waiting c.in-Some.waiting t.parts (sym c.take.ensures.value ∙ c.in-Some.is) c.self.invariant in
    subst (λ (o : Option code_waiting.Waiting). Waits o c.undo.new.self) (sym c.take.ensures.after) (ap (λ (h : EngineState). h.loaded) c.undo.ensures.seen ∙ i.loaded, c.undo.ensures.sound)
