use Rattle.std.proofs.Common.{◌≡◌, true, subst, sym, Option}
use Rattle.table_model.specs.declared.family.Family.{Family}
use Rattle.poptrie_update.specs.Cells.{KeepsAllReached}
use Rattle.poptrie_update.specs.Lives.{is_pending}
use Rattle.fib_router.specs.Lives.{RetiresOther, live_of}
use Rattle.poptrie_update.specs.declared.pending.Pending.{Pending}
use Rattle.fib_router.specs.Router.{IsBegunIn, IsPendingIn, Routing}
use Rattle.fib_router.proofs.Stepping.{each_by, each_own, reached_self}
use Rattle.fib_router.proofs.router.Router.end.Goals as goal

pub returns-in-Ok-clause-cells : goal.returns-in-Ok-clause-cells
returns-in-Ok-clause-cells c =
    subst (λ (r : Routing). (f : Family) → KeepsAllReached 0 (live_of f r.lives) (live_of f c.end.new.self)) c.self.view_is
    (each_by (KeepsAllReached 0) (reached_self 0) _ c.self.inside.lives c.end.new.self c.in-Ok.ensures.cells c.end.ensures.other)

pub returns-in-Ok-clause-retired : goal.returns-in-Ok-clause-retired
returns-in-Ok-clause-retired c =
    let t = c.self.inside in
    let own = subst (λ (r : Routing). IsBegunIn c.args.begun r) (sym c.self.view_is) c.requires in
    let token = subst (λ (o : Option (Family × Pending)). IsPendingIn o t.lives) c.in-Some.is own.pending in
    subst (λ (r : Routing). (f : Family) → is_pending (live_of f r.lives) ≡ true → RetiresOther (live_of f r.lives) (live_of f c.end.new.self)) c.self.view_is
    (each_own RetiresOther _ _ t.lives c.end.new.self token c.in-Ok.ensures.retired)
