use Rattle.std.proofs.Common.{Option, None, sym, subst}
use Rattle.table_model.specs.declared.family.Family.{Family}
use Rattle.route_model.specs.Events.{Elem}
use Rattle.poptrie_update.specs.declared.pending.Pending.{Pending}
use Rattle.fib_engine.specs.Held.{EngineState}
use Rattle.poptrie_update.specs.Cells.{KeepsAllReached}
use Rattle.fib_router.specs.Lives.{AreLives, live_of}
use Rattle.fib_router.specs.Router.{IsBegunIn, IsPendingIn, Routing, begun_elem}
use Rattle.fib_router.proofs.Readying.{cancelled_both}
use Rattle.fib_router.proofs.Stepping.{each_by, reached_self}
use Rattle.fib_router.proofs.router.Router.cancel.Goals as goal

pub invariant_of-self : goal.invariant_of-self
invariant_of-self c =
    let t = c.self.inside in
    let u = c.undo.new.self in
    let own = subst (λ (r : Routing). IsBegunIn c.args.begun r) (sym c.self.view_is) c.requires in
    let quiet = subst (λ (o : Option (Family × Pending)). IsPendingIn o t.lives) c.in_default.is own.pending in
    let was = subst (λ (o : Option Elem). AreLives t.lower.held o t.lives) own.begun c.self.invariant in
    subst (λ (o : Option Elem). AreLives u.held o t.lives) (sym c.undo.ensures.rest) (subst (λ (h : EngineState). AreLives h None t.lives) (sym c.undo.ensures.held) (cancelled_both t.lower.held (begun_elem c.args.begun) t.lives quiet.0 quiet.1 was))

pub returns-in-Ok-clause-cells : goal.returns-in-Ok-clause-cells
returns-in-Ok-clause-cells c =
    subst (λ (r : Routing). (f : Family) → KeepsAllReached 0 (live_of f r.lives) (live_of f c.cancel.new.self)) c.self.view_is
    (each_by (KeepsAllReached 0) (reached_self 0) _ c.self.inside.lives c.cancel.new.self c.in-Ok.ensures.cells c.cancel.ensures.other)
