use Rattle.std.proofs.Common.{◌≡◌, length}
use Rattle.fib_rov.specs.Index.{AreLinked}
use Rattle.fib_rov.proofs.index.link_all.Given as goal

abbrev pub invariant-loop-place : goal.invariant-loop-place
invariant-loop-place l = record {
  many : length l.links.items ≡ l.place;
  linked : AreLinked l.sorted l.place l.links.items;
}
