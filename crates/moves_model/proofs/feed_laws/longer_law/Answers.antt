use Rattle.std.proofs.Common.{false}
use Rattle.moves_model.proofs.Reported.{moves_more, table_more, told_more}
use Rattle.moves_model.proofs.feed_laws.longer_law.Goals as goal

pub returns-clause-table : goal.returns-clause-table
returns-clause-table c = λ fewest every hops held T elems more. table_more fewest false every hops held T elems more

pub returns-clause-told : goal.returns-clause-told
returns-clause-told c = λ fewest steady every hops held T elems more. told_more fewest steady every hops held T elems more

pub returns-clause-moves : goal.returns-clause-moves
returns-clause-moves c = λ fewest every hops held T elems more. moves_more fewest false every hops held T elems more
