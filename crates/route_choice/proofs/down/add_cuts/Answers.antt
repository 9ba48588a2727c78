use Rattle.std.proofs.Common.{drop, ◌+◌}
use Rattle.route_choice.proofs.Downs.{cut_added, next_cut}
use Rattle.route_choice.proofs.down.add_cuts.Goals as goal

pub loop-cut-preserved : goal.loop-cut-preserved
loop-cut-preserved c =
    let cuts = c.args.cuts.now.items in
    let i = c.loop-cut.cut-index in
    cut_added c.args.paths.now.keys c.loop-cut.paths.keys c.insert.new.self.keys cuts (drop (i + 1) cuts) (drop i cuts) c.cut-item.result c.key_of.result (next_cut c.deref-cut-items.result.now cuts i c.cut-item.result c.deref-cut-items.ensures.value c.loop-cut-test.true c.cut-item.is) c.key_of.ensures c.in_ok-insert.ensures.updates.0 c.loop-cut.invariant
