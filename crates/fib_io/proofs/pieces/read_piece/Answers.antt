use Rattle.std.proofs.Common.{arith}
use Rattle.std.proofs.lemmas.Grind.{common_steps}
use Rattle.fib_io.proofs.Coming.{come_next, ends_here, is_large}
use Rattle.fib_io.proofs.pieces.read_piece.Goals as goal

pub returns-then-at-eq-MOST_OCTETS-clause-large : goal.returns-then-at-eq-MOST_OCTETS-clause-large
returns-then-at-eq-MOST_OCTETS-clause-large g c = λ e. is_large _ c.args.at c.in_ok-n.n c.read_within.new.buf c.if-at-eq-MOST_OCTETS.true c.if-n-gt0.true c.in_ok-n.ensures.told

pub returns-clause-comes : goal.returns-clause-comes
returns-clause-comes g c = come_next _ c.args.at c.in_ok-n.n c.read_within.new.buf (grind (arith, common_steps)) c.in_ok-n.ensures.told

pub returns-clause-end : goal.returns-clause-end
returns-clause-end g c = λ none. ends_here _ c.args.at c.in_ok-n.n c.read_within.new.buf c.requires.within c.in_ok-n.ensures.some none c.in_ok-n.ensures.told
