use Rattle.kept_model.proofs.Settling.{all_settled, settled_half, settled_clean}
use Rattle.kept_model.proofs.stays_laws.settled_law.Goals as goal

pub returns-clause-all : goal.returns-clause-all
returns-clause-all c = all_settled

pub returns-clause-halves : goal.returns-clause-halves
returns-clause-halves c = settled_half

pub returns-clause-clean : goal.returns-clause-clean
returns-clause-clean c = settled_clean
