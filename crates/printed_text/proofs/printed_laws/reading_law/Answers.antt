use Rattle.printed_text.proofs.Whole.{printed_rows, printed_bad}
use Rattle.printed_text.proofs.printed_laws.reading_law.Goals as goal

pub returns-clause-rows : goal.returns-clause-rows
returns-clause-rows c = printed_rows

pub returns-clause-bad : goal.returns-clause-bad
returns-clause-bad c = printed_bad
