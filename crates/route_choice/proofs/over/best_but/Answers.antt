use Rattle.std.proofs.Common.{ap, ◌∙◌, refl, Some}
use Rattle.fib_prefix.specs.declared.event.Via.{Via}
use Rattle.adj_rib_in.specs.declared.keys.Candidate.{Candidate}
use Rattle.adj_rib_in.specs.Bests.{is_excluded}
use Rattle.route_choice.proofs.Finds.{stays_in, left_out, walk_start, walk_past, walk_found, walk_out, walk_none, walk_end}
use Rattle.route_choice.proofs.over.best_but.Goals as goal

pub loop-rank-init : goal.loop-rank-init
loop-rank-init c = record {
  next = tt;
  finite = tt;
  walk = walk_start c.args.paths.now.entries c.args.but c.args.prefix.now c.first.result c.args.ranks.now.keys c.range-rank-items.result _ c.range-rank-items.ensures.ordered (c.range-rank-items.ensures.between tt) c.into_iter-rank-iterator.ensures.into_iter_gives c.first.ensures.prefix c.first.ensures.least;
}

pub returns-then-ne-clause-first : goal.returns-then-ne-clause-first
returns-then-ne-clause-first c = walk_past c.args.paths.now.entries c.args.but c.args.prefix.now c.args.ranks.now.keys c.loop-rank.rank-iterator c.in-Some.rank.now _ c.loop-rank.invariant.walk c.in-Some.ensures.steps c.prefix.result c.prefix.ensures c.ne.result c.ne.ensures c.if-ne.true

pub returns-in-Some-attrs_ranked-clause-first : goal.returns-in-Some-attrs_ranked-clause-first
returns-in-Some-attrs_ranked-clause-first c = ap (λ (q : Via). let r : Candidate = record { via = q; attrs = c.in-Some-attrs_ranked.attrs } in Some r) c.via-in-Some-attrs_ranked.ensures ∙ walk_found c.args.paths.now.entries c.args.but c.args.prefix.now c.args.ranks.now.keys c.loop-rank.rank-iterator c.in-Some.rank.now _ c.loop-rank.invariant.walk c.in-Some.ensures.steps c.prefix.result c.prefix.ensures c.ne.result c.ne.ensures c.if-ne.false (is_excluded c.args.but c.in-Some.rank.now.via) refl (stays_in c.args.but c.via.result c.in-Some.rank.now.via c.ne-in-loop-rank.result c.ne-in-loop-rank.ensures c.via.ensures c.if-ne-2.true) c.attrs_ranked.result c.attrs_ranked.ensures c.in-Some-attrs_ranked.attrs c.in-Some-attrs_ranked.is

pub loop-rank-preserved-in_default : goal.loop-rank-preserved-in_default
loop-rank-preserved-in_default c = record {
  next = tt;
  finite = tt;
  walk = walk_none c.args.paths.now.entries c.args.but c.args.prefix.now c.args.ranks.now.keys c.loop-rank.rank-iterator c.in-Some.rank.now _ c.loop-rank.invariant.walk c.in-Some.ensures.steps c.prefix.result c.prefix.ensures c.ne.result c.ne.ensures c.if-ne.false (is_excluded c.args.but c.in-Some.rank.now.via) refl (stays_in c.args.but c.via.result c.in-Some.rank.now.via c.ne-in-loop-rank.result c.ne-in-loop-rank.ensures c.via.ensures c.if-ne-2.true) c.attrs_ranked.result c.attrs_ranked.ensures c.in_default.is;
}

pub loop-rank-preserved : goal.loop-rank-preserved
loop-rank-preserved c = record {
  next = tt;
  finite = tt;
  walk = walk_out c.args.paths.now.entries c.args.but c.args.prefix.now c.args.ranks.now.keys c.loop-rank.rank-iterator c.in-Some.rank.now _ c.loop-rank.invariant.walk c.in-Some.ensures.steps c.prefix.result c.prefix.ensures c.ne.result c.ne.ensures c.if-ne.false (is_excluded c.args.but c.in-Some.rank.now.via) refl (left_out c.args.but c.via.result c.in-Some.rank.now.via c.ne-in-loop-rank.result c.ne-in-loop-rank.ensures c.via.ensures c.if-ne-2.false);
}

pub returns-clause-first : goal.returns-clause-first
returns-clause-first c = walk_end c.args.paths.now.entries c.args.but c.args.prefix.now c.args.ranks.now.keys c.loop-rank.rank-iterator c.loop-rank.invariant.walk c.in-None.ensures.steps.0
