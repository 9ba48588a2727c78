use Rattle.table_model.proofs.Same.{same_answers, same_least}
use Rattle.table_model.proofs.Patch.{same_length}
use Rattle.table_model.proofs.least_laws.same_law.Goals as goal

pub returns : goal.returns
returns c = record { answers = λ L M s a h. same_answers a L M h s; length = same_length; least = same_least }
