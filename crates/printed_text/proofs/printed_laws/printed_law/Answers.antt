use Rattle.printed_text.proofs.Renamed.{printed_proves}
use Rattle.printed_text.proofs.Few.{printed_read}
use Rattle.printed_text.proofs.Proper.{printed_proper}
use Rattle.printed_text.proofs.printed_laws.printed_law.Goals as goal

pub returns-clause-proves : goal.returns-clause-proves
returns-clause-proves c = printed_proves

pub returns-clause-text : goal.returns-clause-text
returns-clause-text c = printed_read

pub returns-clause-proper : goal.returns-clause-proper
returns-clause-proper c = printed_proper
