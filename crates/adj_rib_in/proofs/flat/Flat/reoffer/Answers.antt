use Rattle.std.proofs.Common.{inl, refl}
use Rattle.adj_rib_in.proofs.Flats.{puts_from, attrs_made}
use Rattle.adj_rib_in.proofs.flat.Flat.reoffer.Goals as goal

pub put_at-requires-clause-hop : goal.put_at-requires-clause-hop
put_at-requires-clause-hop c = inl (c.hop.result, c.in-Some.ensures.number)

pub returns-in-Some-clause-puts : goal.returns-in-Some-clause-puts
returns-in-Some-clause-puts c = puts_from _ _ _ c.args.key.now _ _ refl (attrs_made c.args.self.now.hops.keys c.path.result c.in-Some.hop c.hop.result c.args.attrs.now c.in-Some.ensures.number c.path.ensures c.hop.ensures) c.put_at.ensures.puts
