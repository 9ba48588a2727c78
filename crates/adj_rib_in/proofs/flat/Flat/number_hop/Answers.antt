use Rattle.std.proofs.Common.{ap, sym, ◌∙◌, ◌≤◌, length, Some, rules}
use Rattle.adj_rib_in.proofs.Places.{grown_key}
use Rattle.adj_rib_in.proofs.Flats.{addr_same, more_hops, grown_paths}
use Rattle.adj_rib_in.specs.Flat.{no_hop}
use Rattle.adj_rib_in.proofs.flat.Flat.number_hop.Goals as goal

pub returns-clause-hop : goal.returns-clause-hop
returns-clause-hop c =
    let s = c.in_ok-at.ensures.stored in
    s.1 ∙ ap Some (sym (addr_same c.args.hop.now s.0 s.2))

pub returns-clause-grown : goal.returns-clause-grown
returns-clause-grown c = grown_key _ c.args.self.now.hops.keys c.args.hop.now _ c.in_ok-at.ensures.keys

pub returns-clause-flat : goal.returns-clause-flat
returns-clause-flat c = λ f. let o = c.args.self.now in let m : length c.insert_full.new.self.keys ≤ no_hop = search rules in more_hops o.rows.items o.rows.slots o.peers.keys o.peers.keys o.hops.keys _ o.ends.items f (λ i x g. g) f.numbers f.few_peers f.listed (grown_key _ o.hops.keys c.args.hop.now _ c.in_ok-at.ensures.keys) m

pub returns-clause-paths : goal.returns-clause-paths
returns-clause-paths c = λ f. let o = c.args.self.now in let m : length c.insert_full.new.self.keys ≤ no_hop = search rules in grown_paths o.rows.items o.rows.items o.rows.slots o.peers.keys o.peers.keys o.hops.keys _ o.ends.items f (λ i x g. g) (λ i x g. g) f.few_peers (grown_key _ o.hops.keys c.args.hop.now _ c.in_ok-at.ensures.keys) m
