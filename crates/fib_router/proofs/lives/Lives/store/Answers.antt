use Rattle.std.proofs.Common.{◌≡◌, true, suc, sym, subst}
use Rattle.table_model.specs.declared.family.Family.{Family}
use Rattle.poptrie_update.specs.Cells.{KeepsAllReached}
use Rattle.poptrie_update.specs.Lives.{stores_left}
use Rattle.fib_router.specs.Lives.{IsPendingOf, StoresNext, live_of}
use Rattle.fib_router.specs.declared.lives.Lives.{Lives}
use Rattle.fib_router.proofs.Readying.{stored_high, stored_low}
use Rattle.fib_router.proofs.Stepping.{high_other, low_other}
use Rattle.fib_router.proofs.Through.{is_waiting}
use Rattle.fib_router.proofs.lives.Lives.store.Goals as goal

pub store-requires : goal.store-requires
store-requires c = (subst (λ (f : Family). IsPendingOf f c.args.pending.now c.args.self.now) c.in-V4.is c.requires).0

pub store-requires-in-V6 : goal.store-requires-in-V6
store-requires-in-V6 c = (subst (λ (f : Family). IsPendingOf f c.args.pending.now c.args.self.now) c.in-V6.is c.requires).0

pub returns-in-V4-clause-pending : goal.returns-in-V4-clause-pending
returns-in-V4-clause-pending c =
    let old = subst (λ (f : Family). IsPendingOf f c.args.pending.now c.args.self.now) c.in-V4.is c.requires in
    let t : Lives = record { v4 = c.store.new.self; v6 = c.args.self.now.v6 } in
    subst (λ (f : Family). IsPendingOf f c.store.new.pending t) (sym c.in-V4.is) (c.store.ensures.token, old.1)

pub returns-in-V6-clause-pending : goal.returns-in-V6-clause-pending
returns-in-V6-clause-pending c =
    let old = subst (λ (f : Family). IsPendingOf f c.args.pending.now c.args.self.now) c.in-V6.is c.requires in
    let t : Lives = record { v4 = c.args.self.now.v4; v6 = c.store-in-V6.new.self } in
    subst (λ (f : Family). IsPendingOf f c.store-in-V6.new.pending t) (sym c.in-V6.is) (c.store-in-V6.ensures.token, old.1)

pub returns-in-V4-clause-lives : goal.returns-in-V4-clause-lives
returns-in-V4-clause-lives c = λ held e l. stored_low held e c.args.self.now c.store.new.self c.store.new.pending c.store.ensures.token c.store.ensures.shape c.store.ensures.time c.store.ensures.shows l

pub returns-in-V6-clause-lives : goal.returns-in-V6-clause-lives
returns-in-V6-clause-lives c = λ held e l. stored_high held e c.args.self.now c.store-in-V6.new.self c.store-in-V6.new.pending c.store-in-V6.ensures.token c.store-in-V6.ensures.shape c.store-in-V6.ensures.time c.store-in-V6.ensures.shows l

pub returns-in-V4-clause-made : goal.returns-in-V4-clause-made
returns-in-V4-clause-made c =
    let t : Lives = record { v4 = c.store.new.self; v6 = c.args.self.now.v6 } in
    subst (λ (f : Family). c.store.result ≡ true → suc (stores_left (live_of f t)) ≡ stores_left (live_of f c.args.self.now)) (sym c.in-V4.is) (λ e. (c.store.ensures.made e).1)

pub returns-in-V6-clause-made : goal.returns-in-V6-clause-made
returns-in-V6-clause-made c =
    let t : Lives = record { v4 = c.args.self.now.v4; v6 = c.store-in-V6.new.self } in
    subst (λ (f : Family). c.store-in-V6.result ≡ true → suc (stores_left (live_of f t)) ≡ stores_left (live_of f c.args.self.now)) (sym c.in-V6.is) (λ e. (c.store-in-V6.ensures.made e).1)

pub returns-in-V4-clause-own : goal.returns-in-V4-clause-own
returns-in-V4-clause-own c =
    let t : Lives = record { v4 = c.store.new.self; v6 = c.args.self.now.v6 } in
    subst (λ (f : Family). StoresNext c.store.result (live_of f c.args.self.now) (live_of f t)) (sym c.in-V4.is) (record {
      carries = record { shape = c.store.ensures.shape; time = c.store.ensures.time; fits = c.store.ensures.fits; past = c.store.ensures.past };
      pending = is_waiting c.store.new.pending c.store.new.self c.store.ensures.token;
      kept = c.store.ensures.kept;
      shows = c.store.ensures.shows;
      made = λ e. let m = c.store.ensures.made e in (m.0, m.2);
      none = c.store.ensures.none;
    })

pub returns-in-V4-clause-other : goal.returns-in-V4-clause-other
returns-in-V4-clause-other c = λ g apart. low_other c.args.self.now c.store.new.self c.args.family g c.in-V4.is apart

pub returns-in-V6-clause-own : goal.returns-in-V6-clause-own
returns-in-V6-clause-own c =
    let t : Lives = record { v4 = c.args.self.now.v4; v6 = c.store-in-V6.new.self } in
    subst (λ (f : Family). StoresNext c.store-in-V6.result (live_of f c.args.self.now) (live_of f t)) (sym c.in-V6.is) (record {
      carries = record { shape = c.store-in-V6.ensures.shape; time = c.store-in-V6.ensures.time; fits = c.store-in-V6.ensures.fits; past = c.store-in-V6.ensures.past };
      pending = is_waiting c.store-in-V6.new.pending c.store-in-V6.new.self c.store-in-V6.ensures.token;
      kept = c.store-in-V6.ensures.kept;
      shows = c.store-in-V6.ensures.shows;
      made = λ e. let m = c.store-in-V6.ensures.made e in (m.0, m.2);
      none = c.store-in-V6.ensures.none;
    })

pub returns-in-V6-clause-other : goal.returns-in-V6-clause-other
returns-in-V6-clause-other c = λ g apart. high_other c.args.self.now c.store-in-V6.new.self c.args.family g c.in-V6.is apart

pub returns-in-V4-clause-cells : goal.returns-in-V4-clause-cells
returns-in-V4-clause-cells c =
    let t : Lives = record { v4 = c.store.new.self; v6 = c.args.self.now.v6 } in
    subst (λ (f : Family). KeepsAllReached 0 (live_of f c.args.self.now) (live_of f t)) (sym c.in-V4.is) c.store.ensures.cells

pub returns-in-V6-clause-cells : goal.returns-in-V6-clause-cells
returns-in-V6-clause-cells c =
    let t : Lives = record { v4 = c.args.self.now.v4; v6 = c.store-in-V6.new.self } in
    subst (λ (f : Family). KeepsAllReached 0 (live_of f c.args.self.now) (live_of f t)) (sym c.in-V6.is) c.store-in-V6.ensures.cells
