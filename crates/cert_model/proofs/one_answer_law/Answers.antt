use Rattle.cert_model.proofs.Answers.{one_answer_law}
use Rattle.cert_model.proofs.one_answer_law.Goals as goal

pub returns : goal.returns
returns c = one_answer_law
