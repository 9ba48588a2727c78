use Rattle.std.proofs.Common.{sym}
use Rattle.kept_model.proofs.Alike.{part_changes}
use Rattle.kept_model.proofs.between_laws.part_law.Goals as goal

pub returns : goal.returns
returns c = λ t T W a s b w. sym (part_changes t T W (a.0, s) b w)
