use Rattle.std.proofs.Common.{[], refl}
use Rattle.kept_model.specs.Feed.{entries_of}
use Rattle.route_model.specs.Choice.{after_elem}
use Rattle.kept_model.specs.Kept.{changed_at, kept_at_load}
use Rattle.kept_model.proofs.FeedSums.{snapshot_placed}
use Rattle.moves_model.specs.Moved.{table_from}
use Rattle.moves_model.specs.Reported.{first_changes}
use Rattle.moves_model.proofs.Reported.{told_count}
use Rattle.moves_model.proofs.Shortest.{counted, move_shortest, rows, uncounted}
use Rattle.moves_model.proofs.feed_laws.shortest_law.Goals as goal

pub returns : goal.returns
unfolding table_from
returns c = record {
  changes = λ hops held T elem p x s e. move_shortest (entries_of hops (after_elem held elem)) (changed_at held elem) T p (x, s) e;
  listed = λ fewest n hops held T elem p e. counted (changed_at held elem) n (first_changes fewest hops held T elem) p e;
  left_out = λ fewest n hops held T elem e. uncounted (changed_at held elem) n (first_changes fewest hops held T elem) e;
  told = λ fewest steady every hops n held T elem e p s d. told_count fewest steady every hops n held T elem e (p, s) d;
  rows = λ every hops held elems e. rows every hops held elems [] elems 1 held (kept_at_load hops held) refl refl refl refl (snapshot_placed (entries_of hops held) []) e;
}
