use Rattle.std.proofs.Common.{inl}
use Rattle.adj_rib_in.proofs.Flats.{slot_kept, puts_from, attrs_made}
use Rattle.adj_rib_in.proofs.flat.Flat.attrs_to.Goals as goal

pub put_at-requires-clause-slot : goal.put_at-requires-clause-slot
put_at-requires-clause-slot c = slot_kept c.args.self.now c.number_hop.new.self c.args.key.now c.args.at c.number_hop.ensures.rows c.number_hop.ensures.slots c.number_hop.ensures.peers c.requires.slot

pub put_at-requires-clause-hop : goal.put_at-requires-clause-hop
put_at-requires-clause-hop c = inl (c.hop.result, c.in_ok-hop.ensures.hop)

pub returns-clause-ok : goal.returns-clause-ok
returns-clause-ok c = puts_from _ _ _ c.args.key.now _ _ (c.number_hop.ensures.paths c.requires.flat) (attrs_made c.number_hop.new.self.hops.keys c.path.result c.in_ok-hop.hop c.hop.result c.args.attrs.now c.in_ok-hop.ensures.hop c.path.ensures c.hop.ensures) c.put_at.ensures.puts
