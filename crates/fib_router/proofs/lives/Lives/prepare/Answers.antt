use Rattle.std.proofs.Common.{◌≡◌, refl, sym, subst}
use Rattle.std.specs.Prelude.{IfErr, IfOk, OnErr, OnOk}
use Rattle.table_model.specs.declared.family.Family.{Family}
use Rattle.table_model.specs.declared.family.Family.TheVariants.{V4, V6}
use Rattle.table_model.specs.Entries.{Entries}
use Rattle.poptrie_update.specs.Lives.{Shows, made_of}
use Rattle.poptrie_update.specs.Prepares.{IsAtRest}
use Rattle.fib_engine.specs.Held.{engine_routes}
use Rattle.fib_engine.specs.Staged.{routes_planned}
use Rattle.fib_router.specs.Errors.{IsHeldUp}
use Rattle.fib_router.specs.Lives.{IsLiveOf, IsPrepared, IsReadyFor, IsUnprepared, Readies, live_of}
use Rattle.fib_router.specs.declared.lives.Lives.{Lives}
use Rattle.fib_router.proofs.Readying.{apart_from, made_in_live, pending_high, pending_low, ready_high, ready_low, still_high, still_low}
use Rattle.fib_router.proofs.Stepping.{high_other, low_other, ready_live}
use Rattle.fib_router.proofs.lives.Lives.prepare.Goals as goal

pub ready-requires-clause-rest : goal.ready-requires-clause-rest
ready-requires-clause-rest c = subst (λ (f : Family). IsLiveOf f c.args.lower.now.held _ c.args.self.now.v4) (sym c.in-V4.is) c.requires.rest.0

pub ready-requires-in-V6-clause-rest : goal.ready-requires-in-V6-clause-rest
ready-requires-in-V6-clause-rest c = subst (λ (f : Family). IsLiveOf f c.args.lower.now.held _ c.args.self.now.v6) (sym c.in-V6.is) c.requires.rest.1

pub returns-in-V4-clause-pending : goal.returns-in-V4-clause-pending
returns-in-V4-clause-pending c = pending_low c.args.self.now c.ready.new.live c.args.prefix.now.family c.ready.result c.in-V4.is (c.requires.rest.1.quiet refl) c.ready.ensures.token

pub returns-in-V6-clause-pending : goal.returns-in-V6-clause-pending
returns-in-V6-clause-pending c = pending_high c.args.self.now c.ready-in-V6.new.live c.args.prefix.now.family c.ready-in-V6.result c.in-V6.is (c.requires.rest.0.quiet refl) c.ready-in-V6.ensures.token

pub returns-in-V4-clause-lives : goal.returns-in-V4-clause-lives
returns-in-V4-clause-lives c =
    let l = c.args.lower.now in
    ready_low l.held l.planned c.args.self.now c.requires.rest c.ready.new.live c.requires.planned c.requires.few c.ready.result (c.requires.elsewhere V6 (apart_from V6 c.args.prefix.now.family V4 c.in-V4.is refl)) c.ready.ensures.shape c.ready.ensures.time c.ready.ensures.token c.ready.ensures.shows

pub returns-in-V6-clause-lives : goal.returns-in-V6-clause-lives
returns-in-V6-clause-lives c =
    let l = c.args.lower.now in
    ready_high l.held l.planned c.args.self.now c.requires.rest c.ready-in-V6.new.live c.requires.planned c.requires.few c.ready-in-V6.result (c.requires.elsewhere V4 (apart_from V4 c.args.prefix.now.family V6 c.in-V6.is refl)) c.ready-in-V6.ensures.shape c.ready-in-V6.ensures.time c.ready-in-V6.ensures.token c.ready-in-V6.ensures.shows

pub returns-in-V4-clause-still : goal.returns-in-V4-clause-still
returns-in-V4-clause-still c =
    let l = c.args.lower.now in
    still_low l.held l.planned c.args.self.now c.requires.rest c.ready.new.live c.ready.result c.ready.ensures.shape c.ready.ensures.time c.ready.ensures.quiet c.ready.ensures.still

pub returns-in-V6-clause-still : goal.returns-in-V6-clause-still
returns-in-V6-clause-still c =
    let l = c.args.lower.now in
    still_high l.held l.planned c.args.self.now c.requires.rest c.ready-in-V6.new.live c.ready-in-V6.result c.ready-in-V6.ensures.shape c.ready-in-V6.ensures.time c.ready-in-V6.ensures.quiet c.ready-in-V6.ensures.still

pub returns-in-V4-clause-made : goal.returns-in-V4-clause-made
returns-in-V4-clause-made c =
    let t : Lives = record { v4 = c.ready.new.live; v6 = c.args.self.now.v6 } in
    subst (λ (f : Family). OnOk c.ready.result (made_of (live_of f t) ≡ 0)) (sym c.in-V4.is) (made_in_live c.ready.result c.ready.new.live c.ready.ensures.token)

pub returns-in-V6-clause-made : goal.returns-in-V6-clause-made
returns-in-V6-clause-made c =
    let t : Lives = record { v4 = c.args.self.now.v4; v6 = c.ready-in-V6.new.live } in
    subst (λ (f : Family). OnOk c.ready-in-V6.result (made_of (live_of f t) ≡ 0)) (sym c.in-V6.is) (made_in_live c.ready-in-V6.result c.ready-in-V6.new.live c.ready-in-V6.ensures.token)

pub returns-in-V4-clause-hindered : goal.returns-in-V4-clause-hindered
returns-in-V4-clause-hindered c =
    let l = c.args.lower.now in
    subst (λ (f : Family). IfErr c.ready.result (λ e. IsHeldUp c.args.oldest e (live_of f c.args.self.now) (engine_routes l.held) (routes_planned l))) (sym c.in-V4.is) c.ready.ensures.hindered

pub returns-in-V6-clause-hindered : goal.returns-in-V6-clause-hindered
returns-in-V6-clause-hindered c =
    let l = c.args.lower.now in
    subst (λ (f : Family). IfErr c.ready-in-V6.result (λ e. IsHeldUp c.args.oldest e (live_of f c.args.self.now) (engine_routes l.held) (routes_planned l))) (sym c.in-V6.is) c.ready-in-V6.ensures.hindered

pub returns-in-V4-clause-resting : goal.returns-in-V4-clause-resting
returns-in-V4-clause-resting c = subst (λ (f : Family). IsAtRest (live_of f c.args.self.now)) (sym c.in-V4.is) c.ready.ensures.resting

pub returns-in-V4-clause-readies : goal.returns-in-V4-clause-readies
returns-in-V4-clause-readies c =
    let t : Lives = record { v4 = c.ready.new.live; v6 = c.args.self.now.v6 } in
    subst (λ (f : Family). Readies c.args.oldest (live_of f c.args.self.now) (live_of f t)) (sym c.in-V4.is) c.ready.ensures.readies

pub returns-in-V4-clause-ready : goal.returns-in-V4-clause-ready
returns-in-V4-clause-ready c =
    let t : Lives = record { v4 = c.ready.new.live; v6 = c.args.self.now.v6 } in
    let l = c.args.lower.now in
    subst (λ (f : Family). OnOk c.ready.result (IsReadyFor (engine_routes l.held) (routes_planned l) (live_of f t))) (sym c.in-V4.is) (ready_live c.ready.result c.ready.new.live (engine_routes l.held) (routes_planned l) c.ready.ensures.token c.ready.ensures.shows c.ready.ensures.stores)

pub returns-in-V4-clause-kept : goal.returns-in-V4-clause-kept
returns-in-V4-clause-kept c =
    let t : Lives = record { v4 = c.ready.new.live; v6 = c.args.self.now.v6 } in
    subst (λ (f : Family). OnErr c.ready.result ((L M : Entries) → Shows (live_of f c.args.self.now) L M → Shows (live_of f t) L M)) (sym c.in-V4.is) c.ready.ensures.kept

pub returns-in-V4-clause-other : goal.returns-in-V4-clause-other
returns-in-V4-clause-other c = λ g apart. low_other c.args.self.now c.ready.new.live c.args.prefix.now.family g c.in-V4.is apart

pub returns-in-V6-clause-resting : goal.returns-in-V6-clause-resting
returns-in-V6-clause-resting c = subst (λ (f : Family). IsAtRest (live_of f c.args.self.now)) (sym c.in-V6.is) c.ready-in-V6.ensures.resting

pub returns-in-V6-clause-readies : goal.returns-in-V6-clause-readies
returns-in-V6-clause-readies c =
    let t : Lives = record { v4 = c.args.self.now.v4; v6 = c.ready-in-V6.new.live } in
    subst (λ (f : Family). Readies c.args.oldest (live_of f c.args.self.now) (live_of f t)) (sym c.in-V6.is) c.ready-in-V6.ensures.readies

pub returns-in-V6-clause-ready : goal.returns-in-V6-clause-ready
returns-in-V6-clause-ready c =
    let t : Lives = record { v4 = c.args.self.now.v4; v6 = c.ready-in-V6.new.live } in
    let l = c.args.lower.now in
    subst (λ (f : Family). OnOk c.ready-in-V6.result (IsReadyFor (engine_routes l.held) (routes_planned l) (live_of f t))) (sym c.in-V6.is) (ready_live c.ready-in-V6.result c.ready-in-V6.new.live (engine_routes l.held) (routes_planned l) c.ready-in-V6.ensures.token c.ready-in-V6.ensures.shows c.ready-in-V6.ensures.stores)

pub returns-in-V6-clause-kept : goal.returns-in-V6-clause-kept
returns-in-V6-clause-kept c =
    let t : Lives = record { v4 = c.args.self.now.v4; v6 = c.ready-in-V6.new.live } in
    subst (λ (f : Family). OnErr c.ready-in-V6.result ((L M : Entries) → Shows (live_of f c.args.self.now) L M → Shows (live_of f t) L M)) (sym c.in-V6.is) c.ready-in-V6.ensures.kept

pub returns-in-V6-clause-other : goal.returns-in-V6-clause-other
returns-in-V6-clause-other c = λ g apart. high_other c.args.self.now c.ready-in-V6.new.live c.args.prefix.now.family g c.in-V6.is apart

pub returns-in-V4-clause-prepared : goal.returns-in-V4-clause-prepared
returns-in-V4-clause-prepared c =
    let t : Lives = record { v4 = c.ready.new.live; v6 = c.args.self.now.v6 } in
    let l = c.args.lower.now in
    subst (λ (f : Family). IfOk c.ready.result (λ p. IsPrepared c.args.oldest p (live_of f c.args.self.now) (live_of f t) (engine_routes l.held) (routes_planned l))) (sym c.in-V4.is) c.ready.ensures.prepared

pub returns-in-V4-clause-unprepared : goal.returns-in-V4-clause-unprepared
returns-in-V4-clause-unprepared c =
    let t : Lives = record { v4 = c.ready.new.live; v6 = c.args.self.now.v6 } in
    subst (λ (f : Family). OnErr c.ready.result (IsUnprepared c.args.oldest (live_of f c.args.self.now) (live_of f t))) (sym c.in-V4.is) c.ready.ensures.unprepared

pub returns-in-V6-clause-prepared : goal.returns-in-V6-clause-prepared
returns-in-V6-clause-prepared c =
    let t : Lives = record { v4 = c.args.self.now.v4; v6 = c.ready-in-V6.new.live } in
    let l = c.args.lower.now in
    subst (λ (f : Family). IfOk c.ready-in-V6.result (λ p. IsPrepared c.args.oldest p (live_of f c.args.self.now) (live_of f t) (engine_routes l.held) (routes_planned l))) (sym c.in-V6.is) c.ready-in-V6.ensures.prepared

pub returns-in-V6-clause-unprepared : goal.returns-in-V6-clause-unprepared
returns-in-V6-clause-unprepared c =
    let t : Lives = record { v4 = c.args.self.now.v4; v6 = c.ready-in-V6.new.live } in
    subst (λ (f : Family). OnErr c.ready-in-V6.result (IsUnprepared c.args.oldest (live_of f c.args.self.now) (live_of f t))) (sym c.in-V6.is) c.ready-in-V6.ensures.unprepared
