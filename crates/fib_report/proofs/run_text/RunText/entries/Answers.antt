use Rattle.fib_report.proofs.Entries.{entries_one}
use Rattle.fib_report.proofs.run_text.RunText.entries.Goals as goal

pub loop-entry-preserved : goal.loop-entry-preserved
loop-entry-preserved c = entries_one c.args.section c.args.self.now c.loop-entry.self c.entry.new.self c.args.entries.now c.loop-entry.entry-index c.entry-item.result c.loop-entry-test.true c.entry-item.is c.loop-entry.invariant c.in_ok-entry.ensures
