use Rattle.poptrie_update.proofs.Tables.{tables_kept, tables_more}
use Rattle.poptrie_update.proofs.laws.past_law.Goals as goal

pub returns-clause-ended : goal.returns-clause-ended
returns-clause-ended c = λ old new L shape h Ls p. tables_more old new shape L h Ls p

pub returns-clause-kept : goal.returns-clause-kept
returns-clause-kept c = λ old new shape h Ls p. tables_kept old new shape h Ls p
