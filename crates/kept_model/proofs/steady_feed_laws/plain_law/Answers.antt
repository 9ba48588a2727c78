use Rattle.std.proofs.Common.{ap, ◌++◌}
use Rattle.kept_model.specs.Kept.{kept_at_load, kept_load_changes}
use Rattle.kept_model.proofs.Told.{plain}
use Rattle.kept_model.proofs.steady_feed_laws.plain_law.Goals as goal

pub returns : goal.returns
returns c = λ every hops held elems. ap (λ cs. kept_load_changes hops held ++ cs) (plain every hops 1 held (kept_at_load hops held) elems)
