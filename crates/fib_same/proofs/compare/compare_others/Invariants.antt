use Rattle.std.proofs.Common.{◌≡◌, ◌≤◌, ◌+◌, drop, map, length}
use Rattle.fib_addr.specs.Hops.{most_hops}
use Rattle.fib_io.specs.Reads.{Makes}
use Rattle.fib_same.specs.Passes.{numbered_texts}
use Rattle.fib_same.specs.Views.{IsSmall}
use Rattle.fib_same.proofs.Going.{FrontRead, Going}
use Rattle.fib_same.proofs.compare.compare_others.Given as goal

abbrev pub invariant-loop-name : goal.invariant-loop-name
invariant-loop-name g l = record {
  going : Going (g.I.Inputs.content l.fn.inputs) l.kind l.fn.hops.list (map (λ name. name.now) l.names) l.runs l.hops.list l.place (map (λ name. name.now) (drop l.name-index l.names)) l.best;
  small : IsSmall l.best;
  few : length l.hops.list ≤ most_hops;
  same : g.I.Inputs.content l.inputs ≡ g.I.Inputs.content l.fn.inputs;
  kept : g.I.Inputs.faults l.inputs ≡ g.I.Inputs.faults l.fn.inputs;
  made : Makes (g.I.Inputs.reads l.fn.inputs) (g.I.Inputs.reads l.inputs) (FrontRead (numbered_texts 2 (map (λ name. name.now) l.names)) (numbered_texts (l.place + 2) (map (λ name. name.now) (drop l.name-index l.names))));
}
