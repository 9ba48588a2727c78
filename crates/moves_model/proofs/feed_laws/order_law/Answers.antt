use Rattle.std.proofs.Common.{[]}
use Rattle.kept_model.specs.Feed.{entries_of}
use Rattle.kept_model.specs.Kept.{kept_at_load}
use Rattle.kept_model.proofs.FeedSums.{snapshot_placed}
use Rattle.moves_model.proofs.Moved.{from_placed}
use Rattle.moves_model.proofs.feed_laws.order_law.Goals as goal

pub returns : goal.returns
returns c = λ fewest every hops held elems e. from_placed fewest every hops 1 held (kept_at_load hops held) elems e (snapshot_placed (entries_of hops held) [])
