use Rattle.fib_run.proofs.report.write_events.Goals as goal

pub returns : goal.returns
returns c = record {
  judged = c.write_invalid.new.text;
  changed = c.write_changes.new.text;
  invalid_rows = c.in_ok-write_invalid.ensures;
  change_rows = c.in_ok-write_changes.ensures;
  move_rows = c.in_ok-write_moves.ensures;
}
