use Rattle.std.proofs.Common.{arith}
use Rattle.made_input.proofs.MadeReading.{dump_few, updates_few}
use Rattle.made_input.proofs.made_laws.length_law.Goals as goal

pub returns : goal.returns
returns c = record {
  dump = dump_few;
  updates = updates_few;
  few = λ seed n h. omega (arith, dump_few seed n);
  few_updates = λ seed n h. omega (arith, updates_few seed n);
}
