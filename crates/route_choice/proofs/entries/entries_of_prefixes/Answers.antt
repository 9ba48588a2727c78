use Rattle.std.proofs.Common.{ap, sym, ◌∙◌, ◌+◌, ◌∷◌, drop}
use Rattle.std.proofs.lemmas.List.{drop_more}
use Rattle.std.proofs.Math.ListN.{drop_of_length-le}
use Rattle.adj_rib_in.specs.Flat.{paths_over}
use Rattle.route_choice.proofs.AllEntries.{entry_told, all_entries_told}
use Rattle.route_choice.proofs.entries.entries_of_prefixes.Goals as goal

pub loop-prefix-preserved : goal.loop-prefix-preserved
loop-prefix-preserved c =
    let step = drop_more c.args.prefixes.now c.loop-prefix.prefix-index c.prefix-item.result c.loop-prefix-test.true ∙ ap (λ y. y ∷ drop (c.loop-prefix.prefix-index + 1) c.args.prefixes.now) (sym c.prefix-item.is) in
    entry_told c.args.hops.now.list (paths_over c.args.flat.now c.args.paths.now.entries) _ _ _ c.prefix-item.result _ _ step (c.in_ok-push_entry.ensures (paths_over c.args.flat.now c.args.paths.now.entries) c.best_of-best.ensures) c.loop-prefix.invariant

pub returns : goal.returns
returns c = all_entries_told c.args.hops.now.list (paths_over c.args.flat.now c.args.paths.now.entries) _ _ _ (drop_of_length-le c.args.prefixes.now c.loop-prefix-test.false) c.loop-prefix.invariant
