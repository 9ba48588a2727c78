use Rattle.std.proofs.Common.{unwrap_or, ◌-◌, ℕ, subst, sym, ap, arith, ◌∙◌}
use Rattle.table_model.specs.Width.{width}
use Rattle.fib_addr.specs.Views.{prefix_as}
use Rattle.orig_tree.specs.Arena.{cells_of}
use Rattle.orig_tree.specs.Bests.{best_in}
use Rattle.orig_tree.proofs.Telling.{half_longer, half_most}
use Rattle.orig_tree.specs.Merged.{Merges}
use Rattle.orig_tree.specs.declared.best.Best.{Best}
use Rattle.orig_tree.proofs.Stores.{kept_is}
use Rattle.orig_tree.proofs.Weaving.{merges_after, merges_half}
use Rattle.orig_tree.proofs.merge.+merge.Goals as goal

pub merge-returns-in_ok-merge_half-in-Some-true : goal.merge-returns-in_ok-merge_half-in-Some-true
merge-returns-in_ok-merge_half-in-Some-true g t c =
    let a = c.args in
    let levels = width a.at.now.family - a.at.now.len in
    let P = prefix_as a.at.now in
    let S = best_in a.nodes.now in
    let own = c.merge_own.new.nodes in
    let A = g.S.EntrySource.left c.merge_own.new.entries in
    merges_after a.label a.inherited levels P (cells_of a.nodes.now) (cells_of own) (cells_of c.merge_half.new.nodes) a.nodes.now.free own.free c.merge_half.new.nodes.free S (best_in own) (best_in c.merge_half.new.nodes) a.i (g.S.EntrySource.left a.entries.now) A (g.S.EntrySource.left c.merge_half.new.entries) (c.merge_own.ensures.merged a.inherited levels)
    c.in_ok-merge_half-in-Some-true.ensures

pub merge-returns-in_default-2 : goal.merge-returns-in_default-2
merge-returns-in_default-2 g t c =
    let a = c.args in
    let levels = width a.at.now.family - a.at.now.len in
    let P = prefix_as a.at.now in
    let S = best_in a.nodes.now in
    let own = c.merge_own.new.nodes in
    let A = g.S.EntrySource.left c.merge_own.new.entries in
    merges_after a.label a.inherited levels P (cells_of a.nodes.now) (cells_of own) (cells_of c.merge_half-in-Some-false.new.nodes) a.nodes.now.free own.free c.merge_half-in-Some-false.new.nodes.free S (best_in own) (best_in c.merge_half-in-Some-false.new.nodes) a.i (g.S.EntrySource.left a.entries.now) A (g.S.EntrySource.left c.merge_half-in-Some-false.new.entries) (c.merge_own.ensures.merged a.inherited levels)
    c.in_ok-merge_half-in-Some-false.ensures

pub merge-returns-in_default : goal.merge-returns-in_default
merge-returns-in_default g t c =
    let a = c.args in
    let levels = width a.at.now.family - a.at.now.len in
    let P = prefix_as a.at.now in
    let S = best_in a.nodes.now in
    let own = c.merge_own.new.nodes in
    let A = g.S.EntrySource.left c.merge_own.new.entries in
    merges_after a.label a.inherited levels P (cells_of a.nodes.now) (cells_of own) (cells_of c.merge_half-in-Some-false.new.nodes) a.nodes.now.free own.free c.merge_half-in-Some-false.new.nodes.free S (best_in own) (best_in c.merge_half-in-Some-false.new.nodes) a.i (g.S.EntrySource.left a.entries.now) A (g.S.EntrySource.left c.merge_half-in-Some-false.new.entries) (c.merge_own.ensures.merged a.inherited levels)
    c.in_ok-merge_half-in-Some-false.ensures

pub merge-returns-in_ok-merge_half-in-Some-false-2 : goal.merge-returns-in_ok-merge_half-in-Some-false-2
merge-returns-in_ok-merge_half-in-Some-false-2 g t c =
    let a = c.args in
    let levels = width a.at.now.family - a.at.now.len in
    let P = prefix_as a.at.now in
    let S = best_in a.nodes.now in
    let own = c.merge_own.new.nodes in
    let A = g.S.EntrySource.left c.merge_own.new.entries in
    let low = c.merge_half-in-Some-false.new.nodes in
    let high = c.merge_half-in-Some-false-2.new.nodes in
    merges_after a.label a.inherited levels P (cells_of a.nodes.now) (cells_of own) (cells_of c.merge_half-in-Some-false-2.new.nodes) a.nodes.now.free own.free c.merge_half-in-Some-false-2.new.nodes.free S (best_in own) (best_in c.merge_half-in-Some-false-2.new.nodes) a.i (g.S.EntrySource.left a.entries.now) A (g.S.EntrySource.left c.merge_half-in-Some-false-2.new.entries) (c.merge_own.ensures.merged a.inherited levels)
    (merges_after a.label a.inherited levels P (cells_of own) (cells_of low) (cells_of high) own.free low.free high.free (best_in own) (best_in c.merge_half-in-Some-false.new.nodes) (best_in c.merge_half-in-Some-false-2.new.nodes) a.i A (g.S.EntrySource.left c.merge_half-in-Some-false.new.entries) (g.S.EntrySource.left c.merge_half-in-Some-false-2.new.entries)
    c.in_ok-merge_half-in-Some-false.ensures c.in_ok-merge_half-in-Some-false-2.ensures)

pub merge_half-merge-requires : goal.merge_half-merge-requires
merge_half-merge-requires g t c = λ κs h. (omega (arith, half_longer c.args.at.now c.half-half.result c.args.bit c.half-half.ensures, half_most c.half-half.result), h)

pub merge_half-returns : goal.merge_half-returns
merge_half-returns g t c =
    let a = c.args in
    let mid = c.open_half.new.nodes in
    let below = c.merge.new.nodes in
    let new = c.climb.new.nodes in
    subst (λ (K : ℕ → Best). Merges a.label a.inherited (width a.at.now.family - a.at.now.len) (prefix_as a.at.now) (cells_of a.nodes.now) (cells_of new) a.nodes.now.free new.free (best_in a.nodes.now) K a.i (g.S.EntrySource.left a.entries.now) (g.S.EntrySource.left c.merge.new.entries)) (sym (kept_is below new c.climb.ensures.kept))
    (merges_half a.label a.inherited c.unwrap_or-below.result a.at.now c.half-half.result a.bit c.climb.result (cells_of a.nodes.now) (cells_of mid) (cells_of below) (cells_of new) a.nodes.now.free mid.free below.free new.free
    (best_in a.nodes.now) (best_in c.open_half.new.nodes) (best_in c.merge.new.nodes) a.i c.in_ok-j.j (g.S.EntrySource.left a.entries.now) (g.S.EntrySource.left c.merge.new.entries) c.requires c.half-half.ensures
    (λ d name n r l s h. c.in_ok-j.ensures d name n r l s h) (c.unwrap_or-below.ensures ∙ ap (λ n. unwrap_or n.route.hop a.inherited) c.read.ensures) c.in_ok-merge.ensures c.climb.ensures.climbs c.climb.ensures.free)
