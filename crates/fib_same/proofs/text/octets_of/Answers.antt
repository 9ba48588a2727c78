use Rattle.fib_same.proofs.Reading.{text_begun, text_fails, text_large}
use Rattle.fib_same.proofs.text.octets_of.Goals as goal

pub returns-in-Err-Fault-clause-reads : goal.returns-in-Err-Fault-clause-reads
returns-in-Err-Fault-clause-reads g c =
    let made = rw c.in-Err-Fault.field-0-is at c.in-Err-Fault.ensures.made in
    text_fails _ _ c.args.text c.args.name.now made

pub returns-in-Err-NoMemory-clause-reads : goal.returns-in-Err-NoMemory-clause-reads
returns-in-Err-NoMemory-clause-reads g c =
    let made = rw c.in-Err-NoMemory.field-0-is at c.in-Err-NoMemory.ensures.made in
    text_begun _ _ c.args.text c.args.name.now made

pub returns-in-Err-TooLarge-clause-reads : goal.returns-in-Err-TooLarge-clause-reads
returns-in-Err-TooLarge-clause-reads g c =
    let made = rw c.in-Err-TooLarge.field-0-is at c.in-Err-TooLarge.ensures.made in
    text_large _ _ c.args.text c.args.name.now made
