use Rattle.std.proofs.Common.{sym, subst}
use Rattle.adj_rib_in.specs.Flat.{AreFlat}
use Rattle.adj_rib_in.proofs.Flats.{ends_more}
use Rattle.adj_rib_in.proofs.flat.Flat.add_end.Goals as goal

pub returns-in_ok-push-clause-flat : goal.returns-in_ok-push-clause-flat
returns-in_ok-push-clause-flat c = let o = c.args.self.now in subst (AreFlat o.rows.items o.rows.slots o.peers.keys o.hops.keys) (sym c.in_ok-push.ensures.items) (ends_more o.rows.items o.rows.slots o.peers.keys o.hops.keys o.ends.items c.requires)
