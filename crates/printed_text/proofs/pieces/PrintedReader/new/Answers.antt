use Rattle.std.proofs.Common.{refl, ap, length, arith}
use Rattle.printed_text.proofs.Feeds.{no_hops, reader_starts}
use Rattle.printed_text.proofs.pieces.PrintedReader.new.Goals as goal

pub invariant_of-result : goal.invariant_of-result
invariant_of-result c = record {
  few = no_hops c.new.result c.new.ensures;
  counted = omega (arith, ap length c.new-2.ensures.items);
}

pub returns-clause-none : goal.returns-clause-none
returns-clause-none c = omega (arith, ap length c.new-2.ensures.items)

pub returns-clause-stands : goal.returns-clause-stands
returns-clause-stands c = reader_starts _ c.new.ensures c.new-2.ensures.items refl
