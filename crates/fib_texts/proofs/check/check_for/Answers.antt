use Rattle.fib_texts.proofs.Reading.{check_cause, check_due, check_reads, check_some, check_stops}
use Rattle.fib_texts.proofs.check.check_for.Goals as goal

pub returns-clause-due : goal.returns-clause-due
returns-clause-due g c = check_due (g.I.Inputs.content c.args.inputs.now) c.args.name.now c.read_text-read.result c.reply_to_read.result c.reply_to_read.ensures.reply c.read_text-read.ensures.text c.read_text-read.ensures.most c.read_text-read.ensures.large

pub returns-clause-some : goal.returns-clause-some
returns-clause-some g c = check_some c.read_text-read.result c.reply_to_read.result c.reply_to_read.ensures.reply

pub returns-clause-stops : goal.returns-clause-stops
returns-clause-stops g c = check_stops c.read_text-read.result c.reply_to_read.result c.reply_to_read.ensures.reply

pub returns-clause-cause : goal.returns-clause-cause
returns-clause-cause g c = check_cause _ _ c.args.name.now c.read_text-read.result c.reply_to_read.result c.reply_to_read.ensures.reply c.read_text-read.ensures.cause

pub returns-clause-reads : goal.returns-clause-reads
returns-clause-reads g c = check_reads (g.I.Inputs.content c.args.inputs.now) _ _ c.args.name.now c.read_text-read.result c.reply_to_read.result c.reply_to_read.ensures.reply c.read_text-read.ensures.made
