use Rattle.std.proofs.Common.{ap, ◌++◌}
use Rattle.kept_model.specs.Kept.{kept_at_load}
use Rattle.kept_model.specs.Told.{load_told}
use Rattle.moves_model.proofs.Reported.{repaired, repaired_told}
use Rattle.moves_model.proofs.feed_laws.repaired_law.Goals as goal

pub returns : goal.returns
returns c = record {
  table = λ every n hops held T elems. repaired every hops n held T elems;
  told = λ steady every hops held elems. ap (λ cs. load_told steady hops held ++ cs) (repaired_told steady every hops 1 held (kept_at_load hops held) elems);
}
