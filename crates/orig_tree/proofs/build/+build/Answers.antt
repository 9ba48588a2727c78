use Rattle.std.proofs.Common.{◌-◌, ◌∷◌, [], true, false, ap, arith, refl, length}
use Rattle.std.proofs.lemmas.List.{length-append}
use Rattle.table_model.specs.Halves.{half_at}
use Rattle.table_model.specs.Width.{width}
use Rattle.fib_addr.specs.Views.{prefix_as}
use Rattle.orig_tree.specs.Arena.{cells_of, blank_cell}
use Rattle.orig_tree.specs.Bests.{best_in}
use Rattle.orig_tree.proofs.Stores.{cells_long}
use Rattle.orig_tree.proofs.Telling.{half_longer, half_most}
use Rattle.orig_tree.proofs.Building.{makes_alone, makes_over, builds_at, builds_bare, builds_half}
use Rattle.orig_tree.proofs.build.+build.Goals as goal

pub build-returns-then-at-width-clause-built : goal.build-returns-then-at-width-clause-built
build-returns-then-at-width-clause-built g t c =
    let a = c.args in
    let P = prefix_as a.at.now in
    let levels = width a.at.now.family - a.at.now.len in
    let new = c.put_alone.new.nodes in
    let S = best_in a.nodes.now in
    let E = g.S.EntrySource.left a.routes.now in
    let R = g.S.EntrySource.left c.take_own-own.new.routes in
    builds_at a.inherited levels P a.place (cells_of a.nodes.now) (cells_of a.nodes.now) (cells_of new) a.nodes.now.free a.nodes.now.free new.free S S (best_in c.put_alone.new.nodes) E R _ c.put_alone.ensures.node c.put_alone.ensures.others c.put_alone.ensures.free
    (makes_alone a.inherited levels c.unwrap_or-hop.result P c.take_own-own.result (cells_of a.nodes.now) a.nodes.now.free S E R _ _ c.take_own-own.ensures refl c.unwrap_or-hop.ensures c.put_alone.ensures.best)

pub build-returns-in-None-clause-built : goal.build-returns-in-None-clause-built
build-returns-in-None-clause-built g t c =
    let a = c.args in
    let P = prefix_as a.at.now in
    let levels = width a.at.now.family - a.at.now.len in
    let new = c.put_alone-in-None.new.nodes in
    let S = best_in a.nodes.now in
    let E = g.S.EntrySource.left a.routes.now in
    let R = g.S.EntrySource.left c.take_own-own.new.routes in
    builds_at a.inherited levels P a.place (cells_of a.nodes.now) (cells_of a.nodes.now) (cells_of new) a.nodes.now.free a.nodes.now.free new.free S S (best_in c.put_alone-in-None.new.nodes) E R _ c.put_alone-in-None.ensures.node c.put_alone-in-None.ensures.others c.put_alone-in-None.ensures.free
    (makes_alone a.inherited levels c.unwrap_or-hop.result P c.take_own-own.result (cells_of a.nodes.now) a.nodes.now.free S E R _ _ c.take_own-own.ensures refl c.unwrap_or-hop.ensures c.put_alone-in-None.ensures.best)

pub build-returns-in_ok-put_over-in-Some-true-clause-built : goal.build-returns-in_ok-put_over-in-Some-true-clause-built
build-returns-in_ok-put_over-in-Some-true-clause-built g t c =
    let a = c.args in
    let P = prefix_as a.at.now in
    let levels = width a.at.now.family - a.at.now.len in
    let own = c.take_own-own.result in
    let hop = c.unwrap_or-hop.result in
    let S = best_in a.nodes.now in
    let E = g.S.EntrySource.left a.routes.now in
    let A = g.S.EntrySource.left c.take_own-own.new.routes in
    let mid = c.build_half.new in
    let new = c.put_over.new in
    let done = c.in_ok-put_over-in-Some-true.ensures in
    builds_at a.inherited levels P a.place (cells_of a.nodes.now) (cells_of mid.nodes) (cells_of new.nodes) a.nodes.now.free mid.nodes.free new.nodes.free S (best_in mid.nodes) (best_in new.nodes) E (g.S.EntrySource.left mid.routes) _ done.node done.others done.free
    (makes_over a.inherited hop a.at.now own (cells_of a.nodes.now) (cells_of a.nodes.now) (cells_of mid.nodes) a.nodes.now.free a.nodes.now.free mid.nodes.free S S (best_in mid.nodes) E A A (g.S.EntrySource.left mid.routes) 0 c.in_ok-high-in-Some-true.high _ _ (omega (arith, a.at.now.fits, c.if-at-width.false, c.width.ensures)) c.take_own-own.ensures refl c.unwrap_or-hop.ensures
    (builds_bare hop (levels - 1) (half_at false P) (cells_of a.nodes.now) a.nodes.now.free S A) c.in_ok-high-in-Some-true.ensures.built done.best)

pub build-returns-in_default-clause-built : goal.build-returns-in_default-clause-built
build-returns-in_default-clause-built g t c =
    let a = c.args in
    let P = prefix_as a.at.now in
    let levels = width a.at.now.family - a.at.now.len in
    let own = c.take_own-own.result in
    let hop = c.unwrap_or-hop.result in
    let S = best_in a.nodes.now in
    let E = g.S.EntrySource.left a.routes.now in
    let A = g.S.EntrySource.left c.take_own-own.new.routes in
    let mid = c.build_half-in-Some-false.new in
    let new = c.put_over-in_default.new in
    let done = c.in_ok-put_over-in-Some-false.ensures in
    let R = g.S.EntrySource.left mid.routes in
    builds_at a.inherited levels P a.place (cells_of a.nodes.now) (cells_of mid.nodes) (cells_of new.nodes) a.nodes.now.free mid.nodes.free new.nodes.free S (best_in mid.nodes) (best_in new.nodes) E R _ done.node done.others done.free
    (makes_over a.inherited hop a.at.now own (cells_of a.nodes.now) (cells_of mid.nodes) (cells_of mid.nodes) a.nodes.now.free mid.nodes.free mid.nodes.free S (best_in mid.nodes) (best_in mid.nodes) E A R R c.in_ok-low-in-Some-false.low 0 _ _ (omega (arith, a.at.now.fits, c.if-at-width.false, c.width.ensures)) c.take_own-own.ensures refl c.unwrap_or-hop.ensures
    c.in_ok-low-in-Some-false.ensures.built (builds_bare hop (levels - 1) (half_at true P) (cells_of mid.nodes) mid.nodes.free (best_in mid.nodes) R) done.best)

pub build-returns-in_ok-put_over-in-Some-false-2-clause-built : goal.build-returns-in_ok-put_over-in-Some-false-2-clause-built
build-returns-in_ok-put_over-in-Some-false-2-clause-built g t c =
    let a = c.args in
    let P = prefix_as a.at.now in
    let levels = width a.at.now.family - a.at.now.len in
    let own = c.take_own-own.result in
    let hop = c.unwrap_or-hop.result in
    let S = best_in a.nodes.now in
    let E = g.S.EntrySource.left a.routes.now in
    let A = g.S.EntrySource.left c.take_own-own.new.routes in
    let low = c.build_half-in-Some-false.new in
    let mid = c.build_half-in-Some-false-2.new in
    let new = c.put_over-in-Some-false.new in
    let done = c.in_ok-put_over-in-Some-false-2.ensures in
    let B = g.S.EntrySource.left low.routes in
    let R = g.S.EntrySource.left mid.routes in
    builds_at a.inherited levels P a.place (cells_of a.nodes.now) (cells_of mid.nodes) (cells_of new.nodes) a.nodes.now.free mid.nodes.free new.nodes.free S (best_in mid.nodes) (best_in new.nodes) E R _ done.node done.others done.free
    (makes_over a.inherited hop a.at.now own (cells_of a.nodes.now) (cells_of low.nodes) (cells_of mid.nodes) a.nodes.now.free low.nodes.free mid.nodes.free S (best_in low.nodes) (best_in mid.nodes) E A B R c.in_ok-low-in-Some-false.low c.in_ok-high-in-Some-false.high _ _ (omega (arith, a.at.now.fits, c.if-at-width.false, c.width.ensures)) c.take_own-own.ensures refl c.unwrap_or-hop.ensures
    c.in_ok-low-in-Some-false.ensures.built c.in_ok-high-in-Some-false.ensures.built done.best)

pub build_half-build-requires : goal.build_half-build-requires
build_half-build-requires g t c = λ κs h. (omega (arith, half_longer c.args.at.now c.half-half.result c.args.bit c.half-half.ensures, half_most c.half-half.result), (h, omega (arith, c.in_ok-place.ensures.place, cells_long c.take_place.new.nodes, ap length c.in_ok-place.ensures.node, length-append (cells_of c.args.nodes.now) (blank_cell ∷ []))))

pub build_half-returns-clause-built : goal.build_half-returns-clause-built
build_half-returns-clause-built g t c =
    let a = c.args in
    let opened = c.take_place.new.nodes in
    let new = c.build.new.nodes in
    builds_half a.inherited a.at.now c.half-half.result a.bit (cells_of a.nodes.now) (cells_of opened) (cells_of new) a.nodes.now.free opened.free new.free (best_in a.nodes.now) (best_in c.take_place.new.nodes) (best_in c.build.new.nodes)
    (g.S.EntrySource.left a.routes.now) (g.S.EntrySource.left c.build.new.routes) c.in_ok-place.place c.requires.longer c.half-half.ensures
    c.in_ok-place.ensures.place (λ e. omega (arith, e, c.in_ok-place.ensures.place)) c.in_ok-place.ensures.node c.take_place.ensures.free c.take_place.ensures.kept c.in_ok-build.ensures.built
