use Rattle.printed_text.proofs.Hops.{numbers_back}
use Rattle.printed_text.proofs.printed_laws.numbers_law.Goals as goal

pub returns : goal.returns
returns c = numbers_back
