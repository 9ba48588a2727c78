use Rattle.route_choice.proofs.Finds.{paths_start, cut_all, cut_more, no_cut, cut_last}
use Rattle.route_choice.proofs.over.over_cuts.Goals as goal

pub loop-key-init : goal.loop-key-init
loop-key-init c = record {
  next = tt;
  finite = tt;
  walk = paths_start c.args.peer c.first.result c.args.paths.now.entries c.range-key-items.result _ c.new-cuts.result.items c.new-cuts.ensures.items c.range-key-items.ensures.ordered (c.range-key-items.ensures.between tt) c.into_iter-key-iterator.ensures.into_iter_gives c.first.ensures.peer c.first.ensures.least;
}

pub returns-then-ne-clause-cuts : goal.returns-then-ne-clause-cuts
returns-then-ne-clause-cuts c = cut_all c.args.peer c.args.paths.now.entries c.loop-key.key-iterator c.loop-key.cuts.items c.in-Some.key.now c.in-Some.attrs.now _ c.loop-key.invariant.walk c.in-Some.ensures.steps c.peer.result c.peer.ensures c.ne.result c.ne.ensures c.if-ne.true

pub loop-key-preserved-in-Continue-1 : goal.loop-key-preserved-in-Continue-1
loop-key-preserved-in-Continue-1 c = record {
  next = tt;
  finite = tt;
  walk =
      cut_more c.args.peer c.args.paths.now.entries c.loop-key.key-iterator c.loop-key.cuts.items c.in-Some.key.now c.in-Some.attrs.now _ c.loop-key.invariant.walk c.in-Some.ensures.steps c.peer.result c.peer.ensures c.ne.result c.ne.ensures c.if-ne.false
      c.is_some.result c.is_some.ensures c.if-is_some.true _ c.via.result c.prefix.result c.via.ensures c.prefix.ensures c.in_ok-push.ensures.items;
}

pub loop-key-preserved : goal.loop-key-preserved
loop-key-preserved c = record {
  next = tt;
  finite = tt;
  walk = no_cut c.args.peer c.args.paths.now.entries c.loop-key.key-iterator c.loop-key.cuts.items c.in-Some.key.now c.in-Some.attrs.now _ c.loop-key.invariant.walk c.in-Some.ensures.steps c.peer.result c.peer.ensures c.ne.result c.ne.ensures c.if-ne.false c.is_some.result c.is_some.ensures c.if-is_some.false;
}

pub returns-clause-cuts : goal.returns-clause-cuts
returns-clause-cuts c = cut_last c.args.peer c.args.paths.now.entries c.loop-key.key-iterator c.loop-key.cuts.items c.loop-key.invariant.walk c.in-None.ensures.steps.0
