use Rattle.fib_addr.proofs.GroupLaws.{run_is_longest}
use Rattle.fib_addr.proofs.TextLaws.{written_is_read, read_is_address, read_is_written}
use Rattle.fib_addr.proofs.laws.text_law.Goals as goal

pub returns : goal.returns
returns c = record { written = written_is_read; read = read_is_address; one_text = read_is_written; longest = run_is_longest }
