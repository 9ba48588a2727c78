use Rattle.std.proofs.Common.{refl}
use Rattle.fib_report.proofs.run_text.RunText.changes.Goals as goal

pub returns : goal.returns
returns c = record { ready = c.in_ok-put_changes.ensures.added.at; hops = refl; text = c.in_ok-put_changes.ensures.added.text; proper = c.in_ok-put_changes.ensures.proper }
