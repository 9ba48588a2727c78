use Rattle.fib_due.specs.Words.{asked_by, texts_of}
use Rattle.fib_due.proofs.Passes.{reads_unwritten}
use Rattle.fib_due.proofs.Untold.{stop_meets}
use Rattle.fib_main.proofs.top_call.outcome_of.Goals as goal

pub returns-in-Ok-clause-reads : goal.returns-in-Ok-clause-reads
returns-in-Ok-clause-reads g c = reads_unwritten (g.I.Inputs.content c.args.inputs.now) _ _ (asked_by c.args.words.now) c.in-Ok.reply c.in-Ok.ensures.reads

pub returns-clause-exact : goal.returns-clause-exact
returns-clause-exact g c = stop_meets (texts_of c.args.words.now) (g.I.Inputs.content c.args.inputs.now) c.in-Err.outcome c.in-Err.ensures.due
