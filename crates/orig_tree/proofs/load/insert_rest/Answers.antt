use Rattle.std.proofs.Common.{sym, subst}
use Rattle.std.specs.Prelude.{drop}
use Rattle.table_model.specs.Entries.{Entries}
use Rattle.orig_tree.specs.Arena.{cells_of}
use Rattle.orig_tree.specs.Bests.{best_in}
use Rattle.orig_tree.specs.Merged.{Lays}
use Rattle.orig_tree.specs.declared.node.Label.TheVariants.{Route}
use Rattle.orig_tree.proofs.Loading.{lays_none, lays_after}
use Rattle.orig_tree.proofs.load.insert_rest.Goals as goal

pub loop-first-init : goal.loop-first-init
loop-first-init g c = record { lays = lays_none c.args.family Route (cells_of c.args.nodes.now) c.args.nodes.now.free (best_in c.args.nodes.now) (g.S.EntrySource.left c.args.routes.now) c.requires.arena c.requires.order }

pub loop-first-preserved : goal.loop-first-preserved
loop-first-preserved g c =
    let f = c.args.family in
    let A = cells_of c.args.nodes.now in
    let B = cells_of c.loop-first.nodes in
    let C = cells_of c.insert_one.new.nodes in
    let free = c.insert_one.new.nodes.free in
    let S1 = best_in c.loop-first.nodes in
    let S2 = best_in c.insert_one.new.nodes in
    let L = g.S.EntrySource.left c.loop-first.routes in
    let rest = drop 1 L in
    let one = subst (λ (E : Entries). Lays f Route B C free S1 S2 E rest) (sym c.in-Some.ensures.some) (c.in_ok-insert_one.ensures rest) in
    record {
      lays = lays_after f Route A B C c.loop-first.nodes.free free (best_in c.args.nodes.now) S1 S2 (g.S.EntrySource.left c.args.routes.now) L (g.S.EntrySource.left c.pass.new.self) c.loop-first.invariant.lays (subst (λ (E : Entries). Lays f Route B C free S1 S2 L E) (sym c.pass.ensures) one);
    }
