use Rattle.printed_text.proofs.Rows.{row_again}
use Rattle.printed_text.proofs.Texts.{text_again}
use Rattle.printed_text.proofs.printed_laws.written_law.Goals as goal

pub returns-clause-row : goal.returns-clause-row
returns-clause-row c = row_again

pub returns-clause-text : goal.returns-clause-text
returns-clause-text c = text_again
