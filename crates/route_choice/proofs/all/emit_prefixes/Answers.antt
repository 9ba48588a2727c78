use Rattle.std.proofs.Common.{◌+◌, ◌∷◌, ap, sym, subst, ◌∙◌, drop}
use Rattle.std.proofs.lemmas.List.{drop_more}
use Rattle.std.proofs.Math.ListN.{drop_of_length-le}
use Rattle.adj_rib_in.specs.Flat.{paths_over, flat_paths}
use Rattle.adj_rib_in.specs.Ways.{AddsWays}
use Rattle.route_choice.proofs.Handed.{prefix_handed, prefixes_handed}
use Rattle.route_choice.proofs.all.emit_prefixes.Goals as goal

pub loop-prefix-init : goal.loop-prefix-init
loop-prefix-init g c = record { ready = c.requires.ready; told = λ end t. t }

pub loop-prefix-preserved : goal.loop-prefix-preserved
loop-prefix-preserved g c =
    let step = drop_more c.args.prefixes.now c.loop-prefix.prefix-index c.prefix-item.result c.loop-prefix-test.true ∙ ap (λ y. y ∷ drop (c.loop-prefix.prefix-index + 1) c.args.prefixes.now) (sym c.prefix-item.is) in
    let gathered = subst (λ ws. AddsWays (flat_paths c.args.flat.now) c.prefix-item.result ws c.add_ways.new.ways) c.clear.ensures c.in_ok-row.ensures in
    record {
      ready = c.in_ok-emit_prefix.ensures.ready;
      told = prefix_handed g.S.CandSink.takes g.met.S.CandSink.more (paths_over c.args.flat.now c.args.paths.now.entries) _ c.loop-prefix.out c.emit_prefix.new.out _ c.prefix-item.result _ _ step (c.in_ok-emit_prefix.ensures.takes (flat_paths c.args.flat.now) c.requires.apart gathered) c.loop-prefix.invariant.told;
    }

pub returns-clause-takes : goal.returns-clause-takes
returns-clause-takes g c = prefixes_handed g.S.CandSink.takes (paths_over c.args.flat.now c.args.paths.now.entries) _ c.loop-prefix.out _ _ (drop_of_length-le c.args.prefixes.now c.loop-prefix-test.false) (g.met.S.CandSink.none c.loop-prefix.out c.loop-prefix.invariant.ready) c.loop-prefix.invariant.told
