use Rattle.std.proofs.Common.{◌+◌, ◌∷◌, [], sym, subst, arith, length, ap}
use Rattle.std.proofs.Common.{length-append}
use Rattle.fib_rov.specs.Index.{AreLinked}
use Rattle.fib_rov.proofs.Lasts.{linked_fewer, linked_more}
use Rattle.fib_rov.proofs.index.link_all.Goals as goal

pub loop-place-preserved : goal.loop-place-preserved
loop-place-preserved c = record {
  many = omega (arith, ap length c.in_ok-push.ensures.items, length-append c.loop-place.links.items (c.link-link.result ∷ []), c.loop-place.invariant.many);
  linked = subst (AreLinked c.args.sorted.now (c.loop-place.place + 1)) (sym c.in_ok-push.ensures.items) (linked_more c.args.sorted.now c.loop-place.links.items c.loop-place.place c.link-link.result c.loop-place.invariant.many c.link-link.ensures c.loop-place.invariant.linked);
}

pub returns : goal.returns
returns c = linked_fewer c.args.sorted.now c.loop-place.links.items _ c.loop-place.place c.loop-place-test.false c.loop-place.invariant.linked
