-- The orders that the code gives path keys and ranks.
use Rattle.std.specs.declared.cmp.Ordering.{Ordering}
use Rattle.adj_rib_in.specs.declared.keys.PathKey.{PathKey}
use Rattle.adj_rib_in.specs.declared.keys.Rank.{Rank}
use Rattle.adj_rib_in.specs.contracts.keys.PathKeyOrd.TheImpl as key_ord
use Rattle.adj_rib_in.specs.contracts.keys.RankOrd.TheImpl as rank_ord

-- by peer, then by prefix, then by path identifier
abbrev pub key_cmp : PathKey → PathKey → Ordering
key_cmp = (key_ord.ghosts).cmp

-- by prefix, then by path, then by path source
abbrev pub rank_cmp : Rank → Rank → Ordering
rank_cmp = (rank_ord.ghosts).cmp
