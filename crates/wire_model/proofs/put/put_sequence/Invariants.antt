use Rattle.std.proofs.Common.{◌≡◌, ◌≤◌, ◌++◌, ◌∷◌}
use Rattle.wire_model.proofs.Written.{as_numbers}
use Rattle.wire_model.proofs.put.put_sequence.Given as goal

abbrev pub invariant-loop : goal.invariant-loop
invariant-loop l = record {
  put : l.out.items ≡ l.fn.out.items ++ 2 ∷ l.count ∷ as_numbers l.asn l.counter;
  few : l.counter ≤ l.count;
}
