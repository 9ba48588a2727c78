use Rattle.moves_model.proofs.Pairs.{pair_low, pair_high}
use Rattle.moves_model.proofs.feed_laws.pair_law.Goals as goal

pub returns : goal.returns
returns c = record { v4 = pair_low; v6 = pair_high }
