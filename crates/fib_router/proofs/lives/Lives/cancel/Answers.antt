use Rattle.std.specs.Prelude.{OnOk}
use Rattle.std.proofs.Common.{sym, subst}
use Rattle.table_model.specs.declared.family.Family.{Family}
use Rattle.poptrie_update.specs.Cells.{KeepsAllReached}
use Rattle.poptrie_update.specs.Lives.{Living}
use Rattle.poptrie_update.specs.Undone.{IsAsItWas, IsReadyAfter}
use Rattle.fib_router.specs.Lives.{IsForgotten, IsPendingOf, live_of}
use Rattle.fib_router.specs.declared.lives.Lives.{Lives}
use Rattle.fib_router.proofs.Readying.{cancelled_high, cancelled_low}
use Rattle.fib_router.proofs.Stepping.{forgotten, high_other, low_other}
use Rattle.fib_router.proofs.lives.Lives.cancel.Goals as goal

pub cancel-requires : goal.cancel-requires
cancel-requires c = (subst (λ (f : Family). IsPendingOf f c.args.pending c.args.self.now) c.in-V4.is c.requires).0

pub cancel-requires-in-V6 : goal.cancel-requires-in-V6
cancel-requires-in-V6 c = (subst (λ (f : Family). IsPendingOf f c.args.pending c.args.self.now) c.in-V6.is c.requires).0

pub returns-in-V4-clause-lives : goal.returns-in-V4-clause-lives
returns-in-V4-clause-lives c =
    let old = subst (λ (f : Family). IsPendingOf f c.args.pending c.args.self.now) c.in-V4.is c.requires in
    cancelled_low c.args.self.now c.cancel.new.self c.cancel.result old.1 c.cancel.ensures.shape c.cancel.ensures.time c.cancel.ensures.quiet c.cancel.ensures.shows

pub returns-in-V6-clause-lives : goal.returns-in-V6-clause-lives
returns-in-V6-clause-lives c =
    let old = subst (λ (f : Family). IsPendingOf f c.args.pending c.args.self.now) c.in-V6.is c.requires in
    cancelled_high c.args.self.now c.cancel-in-V6.new.self c.cancel-in-V6.result old.1 c.cancel-in-V6.ensures.shape c.cancel-in-V6.ensures.time c.cancel-in-V6.ensures.quiet c.cancel-in-V6.ensures.shows

pub returns-in-V4-clause-own : goal.returns-in-V4-clause-own
returns-in-V4-clause-own c =
    let t : Lives = record { v4 = c.cancel.new.self; v6 = c.args.self.now.v6 } in
    subst (λ (f : Family). OnOk c.cancel.result (IsForgotten (live_of f c.args.self.now) (live_of f t))) (sym c.in-V4.is)
    (forgotten c.cancel.result _ c.cancel.new.self c.cancel.ensures.shape c.cancel.ensures.time c.cancel.ensures.none c.cancel.ensures.quiet c.cancel.ensures.fits c.cancel.ensures.shows c.cancel.ensures.undone c.cancel.ensures.past)

pub returns-in-V4-clause-other : goal.returns-in-V4-clause-other
returns-in-V4-clause-other c = λ g apart. low_other c.args.self.now c.cancel.new.self c.args.family g c.in-V4.is apart

pub returns-in-V6-clause-own : goal.returns-in-V6-clause-own
returns-in-V6-clause-own c =
    let t : Lives = record { v4 = c.args.self.now.v4; v6 = c.cancel-in-V6.new.self } in
    subst (λ (f : Family). OnOk c.cancel-in-V6.result (IsForgotten (live_of f c.args.self.now) (live_of f t))) (sym c.in-V6.is)
    (forgotten c.cancel-in-V6.result _ c.cancel-in-V6.new.self c.cancel-in-V6.ensures.shape c.cancel-in-V6.ensures.time c.cancel-in-V6.ensures.none c.cancel-in-V6.ensures.quiet c.cancel-in-V6.ensures.fits c.cancel-in-V6.ensures.shows c.cancel-in-V6.ensures.undone c.cancel-in-V6.ensures.past)

pub returns-in-V6-clause-other : goal.returns-in-V6-clause-other
returns-in-V6-clause-other c = λ g apart. high_other c.args.self.now c.cancel-in-V6.new.self c.args.family g c.in-V6.is apart

pub returns-in-V4-clause-cells : goal.returns-in-V4-clause-cells
returns-in-V4-clause-cells c =
    let t : Lives = record { v4 = c.cancel.new.self; v6 = c.args.self.now.v6 } in
    subst (λ (f : Family). OnOk c.cancel.result (KeepsAllReached 0 (live_of f c.args.self.now) (live_of f t))) (sym c.in-V4.is) c.cancel.ensures.cells

pub returns-in-V4-clause-before : goal.returns-in-V4-clause-before
returns-in-V4-clause-before c =
    let t : Lives = record { v4 = c.cancel.new.self; v6 = c.args.self.now.v6 } in
    subst (λ (f : Family). OnOk c.cancel.result ((b : Living) → IsReadyAfter b (live_of f c.args.self.now) → IsAsItWas b (live_of f t))) (sym c.in-V4.is) c.cancel.ensures.before

pub returns-in-V6-clause-cells : goal.returns-in-V6-clause-cells
returns-in-V6-clause-cells c =
    let t : Lives = record { v4 = c.args.self.now.v4; v6 = c.cancel-in-V6.new.self } in
    subst (λ (f : Family). OnOk c.cancel-in-V6.result (KeepsAllReached 0 (live_of f c.args.self.now) (live_of f t))) (sym c.in-V6.is) c.cancel-in-V6.ensures.cells

pub returns-in-V6-clause-before : goal.returns-in-V6-clause-before
returns-in-V6-clause-before c =
    let t : Lives = record { v4 = c.args.self.now.v4; v6 = c.cancel-in-V6.new.self } in
    subst (λ (f : Family). OnOk c.cancel-in-V6.result ((b : Living) → IsReadyAfter b (live_of f c.args.self.now) → IsAsItWas b (live_of f t))) (sym c.in-V6.is) c.cancel-in-V6.ensures.before
