use Rattle.std.specs.Prelude.{OnOk}
use Rattle.std.proofs.Common.{◌<◌, sym, subst}
use Rattle.table_model.specs.declared.family.Family.{Family}
use Rattle.poptrie_update.specs.Cells.{KeepsAllReached}
use Rattle.fib_router.specs.Lives.{GoesBy, IsPendingOf, RetiresOther, live_of}
use Rattle.fib_router.specs.declared.lives.Lives.{Lives}
use Rattle.fib_router.proofs.Readying.{ended_high, ended_low}
use Rattle.fib_router.proofs.Stepping.{goes_by, high_other, low_other}
use Rattle.fib_router.proofs.lives.Lives.end.Goals as goal

pub end-requires-clause-token : goal.end-requires-clause-token
end-requires-clause-token c = (subst (λ (f : Family). IsPendingOf f c.args.pending c.args.self.now) c.in-V4.is c.requires.token).0

pub end-requires-in-V6-clause-token : goal.end-requires-in-V6-clause-token
end-requires-in-V6-clause-token c = (subst (λ (f : Family). IsPendingOf f c.args.pending c.args.self.now) c.in-V6.is c.requires.token).0

pub end-requires-clause-time : goal.end-requires-clause-time
end-requires-clause-time c = subst (λ (f : Family). (live_of f c.args.self.now).selected.time < 18446744073709551615) c.in-V4.is c.requires.time

pub end-requires-in-V6-clause-time : goal.end-requires-in-V6-clause-time
end-requires-in-V6-clause-time c = subst (λ (f : Family). (live_of f c.args.self.now).selected.time < 18446744073709551615) c.in-V6.is c.requires.time

pub returns-in-V4-clause-lives : goal.returns-in-V4-clause-lives
returns-in-V4-clause-lives c =
    let old = subst (λ (f : Family). IsPendingOf f c.args.pending c.args.self.now) c.in-V4.is c.requires.token in
    ended_low c.args.self.now c.end.new.self c.end.result old.1 c.end.ensures.shape c.end.ensures.time c.end.ensures.quiet c.end.ensures.shows

pub returns-in-V6-clause-lives : goal.returns-in-V6-clause-lives
returns-in-V6-clause-lives c =
    let old = subst (λ (f : Family). IsPendingOf f c.args.pending c.args.self.now) c.in-V6.is c.requires.token in
    ended_high c.args.self.now c.end-in-V6.new.self c.end-in-V6.result old.1 c.end-in-V6.ensures.shape c.end-in-V6.ensures.time c.end-in-V6.ensures.quiet c.end-in-V6.ensures.shows

pub returns-in-V4-clause-own : goal.returns-in-V4-clause-own
returns-in-V4-clause-own c =
    let t : Lives = record { v4 = c.end.new.self; v6 = c.args.self.now.v6 } in
    subst (λ (f : Family). OnOk c.end.result (GoesBy (live_of f c.args.self.now) (live_of f t))) (sym c.in-V4.is)
    (goes_by c.end.result _ c.end.new.self c.end.ensures.shape c.end.ensures.time c.end.ensures.all c.end.ensures.quiet c.end.ensures.fits c.end.ensures.shows c.end.ensures.past)

pub returns-in-V4-clause-other : goal.returns-in-V4-clause-other
returns-in-V4-clause-other c = λ g apart. low_other c.args.self.now c.end.new.self c.args.family g c.in-V4.is apart

pub returns-in-V6-clause-own : goal.returns-in-V6-clause-own
returns-in-V6-clause-own c =
    let t : Lives = record { v4 = c.args.self.now.v4; v6 = c.end-in-V6.new.self } in
    subst (λ (f : Family). OnOk c.end-in-V6.result (GoesBy (live_of f c.args.self.now) (live_of f t))) (sym c.in-V6.is)
    (goes_by c.end-in-V6.result _ c.end-in-V6.new.self c.end-in-V6.ensures.shape c.end-in-V6.ensures.time c.end-in-V6.ensures.all c.end-in-V6.ensures.quiet c.end-in-V6.ensures.fits c.end-in-V6.ensures.shows c.end-in-V6.ensures.past)

pub returns-in-V6-clause-other : goal.returns-in-V6-clause-other
returns-in-V6-clause-other c = λ g apart. high_other c.args.self.now c.end-in-V6.new.self c.args.family g c.in-V6.is apart

pub returns-in-V4-clause-cells : goal.returns-in-V4-clause-cells
returns-in-V4-clause-cells c =
    let t : Lives = record { v4 = c.end.new.self; v6 = c.args.self.now.v6 } in
    subst (λ (f : Family). OnOk c.end.result (KeepsAllReached 0 (live_of f c.args.self.now) (live_of f t))) (sym c.in-V4.is) c.end.ensures.cells

pub returns-in-V6-clause-cells : goal.returns-in-V6-clause-cells
returns-in-V6-clause-cells c =
    let t : Lives = record { v4 = c.args.self.now.v4; v6 = c.end-in-V6.new.self } in
    subst (λ (f : Family). OnOk c.end-in-V6.result (KeepsAllReached 0 (live_of f c.args.self.now) (live_of f t))) (sym c.in-V6.is) c.end-in-V6.ensures.cells

pub returns-in-V4-clause-retired : goal.returns-in-V4-clause-retired
returns-in-V4-clause-retired c =
    let t : Lives = record { v4 = c.end.new.self; v6 = c.args.self.now.v6 } in
    subst (λ (f : Family). OnOk c.end.result (RetiresOther (live_of f c.args.self.now) (live_of f t))) (sym c.in-V4.is) c.end.ensures.other

pub returns-in-V6-clause-retired : goal.returns-in-V6-clause-retired
returns-in-V6-clause-retired c =
    let t : Lives = record { v4 = c.args.self.now.v4; v6 = c.end-in-V6.new.self } in
    subst (λ (f : Family). OnOk c.end-in-V6.result (RetiresOther (live_of f c.args.self.now) (live_of f t))) (sym c.in-V6.is) c.end-in-V6.ensures.other
