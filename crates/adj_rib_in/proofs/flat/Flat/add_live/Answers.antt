use Rattle.adj_rib_in.proofs.Sessions.{added}
use Rattle.adj_rib_in.proofs.flat.Flat.add_live.Goals as goal

pub returns-in_ok-insert : goal.returns-in_ok-insert
returns-in_ok-insert c = added _ _ _ _ c.in-Some.key c.live_key.ensures c.in-Some.is c.in_ok-insert.ensures.updates.0
