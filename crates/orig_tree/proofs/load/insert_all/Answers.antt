use Rattle.std.proofs.Common.{◌-◌, drop, sym, subst}
use Rattle.std.specs.List.{AllByRecursion}
use Rattle.std.specs.Map.{keys_of}
use Rattle.table_model.specs.Address.{IsPrefix}
use Rattle.table_model.specs.Width.{width}
use Rattle.table_model.specs.Entries.{Entries}
use Rattle.fib_addr.specs.Views.{entry_as, prefix_as}
use Rattle.orig_tree.specs.Arena.{cells_of}
use Rattle.orig_tree.specs.Bests.{best_in}
use Rattle.orig_tree.specs.Merged.{Lays}
use Rattle.orig_tree.proofs.Loading.{lays_none, lays_after, lays_front, left_prefixes, passed_prefixes}
use Rattle.orig_tree.proofs.load.insert_all.Goals as goal

pub loop-first-init : goal.loop-first-init
loop-first-init g c = record { lays = lays_none c.args.family c.args.label (cells_of c.args.nodes.now) c.args.nodes.now.free (best_in c.args.nodes.now) (g.S.EntrySource.left c.args.entries.now) c.requires.arena c.requires.order; prefixes = c.requires.prefixes }

pub loop-first-preserved : goal.loop-first-preserved
loop-first-preserved g c =
    let f = c.args.family in
    let l = c.args.label in
    let L = g.S.EntrySource.left c.loop-first.entries in
    let R = g.S.EntrySource.left c.pass.new.self in
    let M = g.S.EntrySource.left c.merge.new.entries in
    let A = cells_of c.args.nodes.now in
    let B = cells_of c.loop-first.nodes in
    let C = cells_of c.insert_one.new.nodes in
    let D = cells_of c.merge.new.nodes in
    let S0 = best_in c.args.nodes.now in
    let S1 = best_in c.loop-first.nodes in
    let S2 = best_in c.insert_one.new.nodes in
    let S3 = best_in c.merge.new.nodes in
    let rest = drop 1 L in
    let first = subst (λ (E : Entries). Lays f l B C c.insert_one.new.nodes.free S1 S2 E rest) (sym c.in-Some.ensures.some) (c.in_ok-insert_one.ensures rest) in
    let one = subst (λ (E : Entries). Lays f l B C c.insert_one.new.nodes.free S1 S2 L E) (sym c.pass.ensures) first in
    let later = subst (λ (E : Entries). AllByRecursion IsPrefix (keys_of E)) (sym c.pass.ensures) (passed_prefixes (entry_as c.in-Some.first) L rest c.in-Some.ensures.some c.loop-first.invariant.prefixes) in
    let more = lays_front f c.whole-root.result l C D c.insert_one.new.nodes.free c.merge.new.nodes.free S2 S3 R M later c.whole-root.ensures one.arena one.order c.in_ok-merge.ensures in
    record {
      lays = lays_after f l A B D c.loop-first.nodes.free c.merge.new.nodes.free S0 S1 S3 (g.S.EntrySource.left c.args.entries.now) L M c.loop-first.invariant.lays
          (lays_after f l B C D c.insert_one.new.nodes.free c.merge.new.nodes.free S1 S2 S3 L R M one more);
      prefixes = left_prefixes l 0 (width c.whole-root.result.family - c.whole-root.result.len) (prefix_as c.whole-root.result) C D c.insert_one.new.nodes.free c.merge.new.nodes.free S2 S3 0 R M c.in_ok-merge.ensures later;
    }
