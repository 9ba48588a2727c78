use Rattle.std.proofs.Common.{[]}
use Rattle.kept_model.specs.Feed.{entries_of}
use Rattle.route_model.specs.Choice.{after_elem}
use Rattle.kept_model.specs.Kept.{is_due, kept_at_load}
use Rattle.kept_model.proofs.FeedSums.{snapshot_placed}
use Rattle.kept_model.proofs.FeedAlike.{loaded_alike}
use Rattle.moves_model.specs.Moved.{moved_by}
use Rattle.moves_model.proofs.Moved.{from_alike, renewed_least}
use Rattle.moves_model.proofs.feed_laws.table_alike_law.Goals as goal

pub returns : goal.returns
returns c = record {
  alike = λ fewest every hops held elems a e. from_alike fewest every hops 1 held (kept_at_load hops held) elems a e (snapshot_placed (entries_of hops held) []) (loaded_alike hops held);
  least = λ fewest every n hops held T elem d. renewed_least (is_due every n) (entries_of hops (after_elem held elem)) (moved_by fewest hops held T elem) d;
}
