use Rattle.std.proofs.Common.{ap, arith, sym, ◌∙◌}
use Rattle.table_model.specs.Width.{width}
use Rattle.table_model.specs.declared.family.Family.{Family}
use Rattle.fib_addr.specs.Answers.{all_answers}
use Rattle.fib_addr.specs.Views.{prefix_as}
use Rattle.fib_engine.specs.Held.{engine_routes}
use Rattle.fib_engine.specs.Staged.{routes_planned}
use Rattle.fib_router.proofs.Through.{agree_outside, keeps_outside}
use Rattle.fib_router.proofs.Stepping.{stores_by}
use Rattle.fib_router.proofs.Readying.{fits_now, hindered_by, region_is}
use Rattle.fib_router.proofs.lives.ready.Goals as goal

pub prepare_within-requires-clause-family : goal.prepare_within-requires-clause-family
prepare_within-requires-clause-family c = sym c.requires.rest.family

pub prepare_within-requires-clause-bits : goal.prepare_within-requires-clause-bits
prepare_within-requires-clause-bits c = c.whole-region.ensures.bits ∙ ap width (c.tree.ensures.family ∙ sym c.requires.rest.family)

pub prepare_within-requires-clause-time : goal.prepare_within-requires-clause-time
prepare_within-requires-clause-time c = omega (arith, c.requires.rest.time, c.requires.few)

pub returns-in-Ok-clause-shows : goal.returns-in-Ok-clause-shows
returns-in-Ok-clause-shows c =
    let l = c.args.lower.now in
    let L = engine_routes l.held in
    let M = routes_planned l in
    let region = region_is c.args.prefix.now.family c.tree.result.now.family c.args.live.now.selected.family c.tree.result.now.routes M _ c.whole-region.ensures.answers c.tree.ensures.family c.tree.ensures.routes c.requires.rest.family in
    c.in-Ok.ensures.shows L M c.requires.rest.shows region (agree_outside (prefix_as c.args.prefix.now) L M c.requires.within)

pub hindrance-requires : goal.hindrance-requires
hindrance-requires c =
    let l = c.args.lower.now in
    let L = engine_routes l.held in
    let M = routes_planned l in
    let region = region_is c.args.prefix.now.family c.tree.result.now.family c.args.live.now.selected.family c.tree.result.now.routes M _ c.whole-region.ensures.answers c.tree.ensures.family c.tree.ensures.routes c.requires.rest.family in
    fits_now c.args.prefix.now.family l.held c.args.live.now L M c.args.oldest c.in-Err.why c.requires.rest c.requires.fits (c.in-Err.ensures.refused L M c.requires.rest.shows region (agree_outside (prefix_as c.args.prefix.now) L M c.requires.within))

pub returns-in-Err-clause-hindered : goal.returns-in-Err-clause-hindered
returns-in-Err-clause-hindered c =
    let l = c.args.lower.now in
    let L = engine_routes l.held in
    let M = routes_planned l in
    let region = region_is c.args.prefix.now.family c.tree.result.now.family c.args.live.now.selected.family c.tree.result.now.routes M _ c.whole-region.ensures.answers c.tree.ensures.family c.tree.ensures.routes c.requires.rest.family in
    hindered_by c.args.oldest c.in-Err.why c.hindrance.result c.args.live.now L M c.hindrance.ensures (c.in-Err.ensures.refused L M c.requires.rest.shows region (agree_outside (prefix_as c.args.prefix.now) L M c.requires.within))

pub returns-in-Err-clause-still : goal.returns-in-Err-clause-still
returns-in-Err-clause-still c =
    let L = engine_routes c.args.lower.now.held in
    c.in-Err.ensures.still L L c.requires.rest.shows

pub returns-in-Ok-clause-stores : goal.returns-in-Ok-clause-stores
returns-in-Ok-clause-stores c =
    let l = c.args.lower.now in
    let L = engine_routes l.held in
    let M = routes_planned l in
    let region = region_is c.args.prefix.now.family c.tree.result.now.family c.args.live.now.selected.family c.tree.result.now.routes M _ c.whole-region.ensures.answers c.tree.ensures.family c.tree.ensures.routes c.requires.rest.family in
    stores_by c.in-Ok.pending.stores c.prepare_within.new.self L M c.in-Ok.ensures.token.0 (c.in-Ok.ensures.changes L M c.requires.rest.shows region (agree_outside (prefix_as c.args.prefix.now) L M c.requires.within))

pub returns-in-Ok-clause-readies : goal.returns-in-Ok-clause-readies
returns-in-Ok-clause-readies c = record { shape = c.prepare_within.ensures.shape; time = c.prepare_within.ensures.time; fits = c.prepare_within.ensures.fits; past = c.prepare_within.ensures.past }

pub returns-in-Err-clause-readies : goal.returns-in-Err-clause-readies
returns-in-Err-clause-readies c = record { shape = c.prepare_within.ensures.shape; time = c.prepare_within.ensures.time; fits = c.prepare_within.ensures.fits; past = c.prepare_within.ensures.past }

pub returns-in-Ok-clause-prepared : goal.returns-in-Ok-clause-prepared
returns-in-Ok-clause-prepared c =
    let l = c.args.lower.now in
    let L = engine_routes l.held in
    let M = routes_planned l in
    let region = region_is c.args.prefix.now.family c.tree.result.now.family c.args.live.now.selected.family c.tree.result.now.routes M _ c.whole-region.ensures.answers c.tree.ensures.family c.tree.ensures.routes c.requires.rest.family in
    let outside = agree_outside (prefix_as c.args.prefix.now) L M c.requires.within in
    record {
      made = c.in-Ok.ensures.made L M c.requires.rest.shows region outside;
      unpinned = c.in-Ok.ensures.unpinned L M c.requires.rest.shows region outside;
      ready = c.in-Ok.ensures.ready;
      cells = c.prepare_within.ensures.cells;
      alone = λ e. (c.prepare_within.ensures.all e, c.prepare_within.ensures.out e L M (c.in-Ok.ensures.shows L M c.requires.rest.shows region outside));
    }

pub returns-in-Err-clause-unprepared : goal.returns-in-Err-clause-unprepared
returns-in-Err-clause-unprepared c = record { back = c.in-Err.ensures.back; cells = c.prepare_within.ensures.cells; alone = c.prepare_within.ensures.all }

pub prepare_within-requires-clause-within : goal.prepare_within-requires-clause-within
prepare_within-requires-clause-within c = sym c.requires.rest.family

pub prepare_within-requires-clause-outside : goal.prepare_within-requires-clause-outside
prepare_within-requires-clause-outside c =
    let l = c.args.lower.now in
    let L = engine_routes l.held in
    let M = routes_planned l in
    let region = region_is c.args.prefix.now.family c.tree.result.now.family c.args.live.now.selected.family c.tree.result.now.routes M _ c.whole-region.ensures.answers c.tree.ensures.family c.tree.ensures.routes c.requires.rest.family in
    (L, c.requires.rest.shows, keeps_outside (prefix_as c.args.prefix.now) L M _ (region ∙ ap (λ (f : Family). all_answers f M) c.requires.rest.family) c.requires.within)
