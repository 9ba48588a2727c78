use Rattle.fib_due.specs.InTime.{TextMayGoOn}
use Rattle.fib_due.proofs.Passes.{input_begun, input_fails, input_large, input_read, text_pass}
use Rattle.fib_due.proofs.reading.octets_of.Goals as goal

pub returns-in-Ok-clause-reads : goal.returns-in-Ok-clause-reads
returns-in-Ok-clause-reads g c = input_read (g.I.Inputs.content c.args.inputs.now) TextMayGoOn _ _ c.args.which c.args.name.now (text_pass (g.I.Inputs.content c.args.inputs.now) _ _ c.args.which _ c.args.name.now c.in-Ok.ensures.made)

pub returns-in-Err-Fault-clause-reads : goal.returns-in-Err-Fault-clause-reads
returns-in-Err-Fault-clause-reads g c =
    let made = rw c.in-Err-Fault.field-0-is at c.in-Err-Fault.ensures.made in
    input_fails (g.I.Inputs.content c.args.inputs.now) TextMayGoOn _ _ c.args.which c.args.name.now (text_pass (g.I.Inputs.content c.args.inputs.now) _ _ c.args.which _ c.args.name.now made)

pub returns-in-Err-NoMemory-clause-reads : goal.returns-in-Err-NoMemory-clause-reads
returns-in-Err-NoMemory-clause-reads g c =
    let made = rw c.in-Err-NoMemory.field-0-is at c.in-Err-NoMemory.ensures.made in
    input_begun (g.I.Inputs.content c.args.inputs.now) TextMayGoOn _ _ c.args.which c.args.name.now (text_pass (g.I.Inputs.content c.args.inputs.now) _ _ c.args.which _ c.args.name.now made)

pub returns-in-Err-TooLarge-clause-reads : goal.returns-in-Err-TooLarge-clause-reads
returns-in-Err-TooLarge-clause-reads g c =
    let made = rw c.in-Err-TooLarge.field-0-is at c.in-Err-TooLarge.ensures.made in
    input_large (g.I.Inputs.content c.args.inputs.now) TextMayGoOn _ _ c.args.which c.args.name.now (text_pass (g.I.Inputs.content c.args.inputs.now) _ _ c.args.which _ c.args.name.now made)
