use Rattle.fib_due.proofs.Passes.{memory_read, usage_read}
use Rattle.fib_due.proofs.Untold.{memory_some}
use Rattle.fib_main.proofs.command.reply_for.Goals as goal

pub returns-in-Err-NoMemory-clause-some : goal.returns-in-Err-NoMemory-clause-some
returns-in-Err-NoMemory-clause-some g c = memory_some _ _

pub returns-in-Err-NoMemory-clause-reads : goal.returns-in-Err-NoMemory-clause-reads
returns-in-Err-NoMemory-clause-reads g c = memory_read _ _ _

pub returns-in-Err-Usage-clause-reads : goal.returns-in-Err-Usage-clause-reads
returns-in-Err-Usage-clause-reads g c =
    let none = rw c.in-Err-Usage.field-0-is at c.in-Err-Usage.ensures.command in
    usage_read _ _ _ _ none
