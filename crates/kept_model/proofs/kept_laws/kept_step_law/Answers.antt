use Rattle.kept_model.proofs.FeedSteps.{kept_step, changes_step}
use Rattle.kept_model.proofs.kept_laws.kept_step_law.Goals as goal

pub returns-clause-table : goal.returns-clause-table
returns-clause-table c = λ every hops held T elems elem. kept_step every hops elem held T elems

pub returns-clause-changes : goal.returns-clause-changes
returns-clause-changes c = λ every hops held T elems elem. changes_step every hops elem held T elems
