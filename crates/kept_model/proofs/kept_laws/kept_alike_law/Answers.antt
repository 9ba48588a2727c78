use Rattle.std.proofs.Common.{[]}
use Rattle.kept_model.specs.Kept.{kept_at_load}
use Rattle.kept_model.specs.Feed.{entries_of}
use Rattle.kept_model.proofs.FeedSums.{snapshot_placed}
use Rattle.kept_model.proofs.FeedAlike.{kept_alike, loaded_alike, snapshot_least}
use Rattle.kept_model.proofs.kept_laws.kept_alike_law.Goals as goal

pub returns : goal.returns
returns c = record {
  alike = λ every hops held elems a h. kept_alike every hops 1 held (kept_at_load hops held) elems a h (snapshot_placed (entries_of hops held) []) (loaded_alike hops held);
  least = snapshot_least;
}
