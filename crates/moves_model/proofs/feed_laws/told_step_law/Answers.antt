use Rattle.std.proofs.Common.{false}
use Rattle.moves_model.proofs.Reported.{table_step, told_step, moves_step}
use Rattle.moves_model.proofs.feed_laws.told_step_law.Goals as goal

pub returns-clause-table : goal.returns-clause-table
returns-clause-table c = λ fewest every hops held T elems elem. table_step fewest false every hops held T elems elem

pub returns-clause-told : goal.returns-clause-told
returns-clause-told c = λ fewest steady every hops held T elems elem. told_step fewest steady every hops held T elems elem

pub returns-clause-moves : goal.returns-clause-moves
returns-clause-moves c = λ fewest every hops held T elems elem. moves_step fewest false every hops held T elems elem
