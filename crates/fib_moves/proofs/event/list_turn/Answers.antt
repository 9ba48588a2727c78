use Rattle.fib_moves.proofs.Turns.{turn_case}
use Rattle.fib_moves.proofs.event.list_turn.Goals as goal

pub returns : goal.returns
returns c = record {
  o = c.if_differing-old.result.0;
  n = c.if_differing-old.result.1;
  old = c.in_ok-push_entry.ensures;
  new = c.in_ok-push_entry-2.ensures;
  which = turn_case c.args.region.now c.args.len c.args.turn.now c.due_hop-gets.result c.if_differing-old.result.0 c.if_differing-old.result.1 c.below.result c.if-turn-len.false c.due_hop-gets.ensures c.if_differing-old.ensures c.below.ensures;
}
