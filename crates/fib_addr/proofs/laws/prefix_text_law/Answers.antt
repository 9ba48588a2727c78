use Rattle.fib_addr.proofs.PrefixLaws.{prefix_written, read_is_prefix, prefix_is_written}
use Rattle.fib_addr.proofs.laws.prefix_text_law.Goals as goal

pub returns : goal.returns
returns c = record { written = prefix_written; read = read_is_prefix; one_text = prefix_is_written }
