use Rattle.adj_rib_in.proofs.Flats.{thin_itself, thin_cut, thin_none, attrs_found, puts_from, nothing_by}
use Rattle.std.proofs.Common.{refl}
use Rattle.adj_rib_in.specs.Flat.{flat_paths}
use Rattle.adj_rib_in.proofs.flat.Flat.cut_at.Goals as goal

pub returns-in-Some-clause-offers : goal.returns-in-Some-clause-offers
returns-in-Some-clause-offers c = thin_cut (flat_paths c.args.self.now) (flat_paths c.put_at.new.self) _ c.args.key.now (puts_from _ _ _ c.args.key.now _ _ refl (nothing_by c.args.self.now.hops.keys 0 c.requires.flat.few) c.put_at.ensures.puts) c.trim.ensures.paths

pub returns-in-Some-clause-paths : goal.returns-in-Some-clause-paths
returns-in-Some-clause-paths c = thin_none (flat_paths c.args.self.now) (flat_paths c.put_at.new.self) _ c.args.key.now _ (puts_from _ _ _ c.args.key.now _ _ refl (nothing_by c.args.self.now.hops.keys 0 c.requires.flat.few) c.put_at.ensures.puts) (attrs_found c.args.self.now c.args.key.now c.args.at c.requires.flat c.requires.slot) c.trim.ensures.paths

pub returns-in_default-clause-offers : goal.returns-in_default-clause-offers
returns-in_default-clause-offers c = thin_cut (flat_paths c.args.self.now) (flat_paths c.put_at.new.self) _ c.args.key.now (puts_from _ _ _ c.args.key.now _ _ refl (nothing_by c.args.self.now.hops.keys 0 c.requires.flat.few) c.put_at.ensures.puts) (thin_itself _)

pub returns-in_default-clause-paths : goal.returns-in_default-clause-paths
returns-in_default-clause-paths c = thin_none (flat_paths c.args.self.now) (flat_paths c.put_at.new.self) _ c.args.key.now _ (puts_from _ _ _ c.args.key.now _ _ refl (nothing_by c.args.self.now.hops.keys 0 c.requires.flat.few) c.put_at.ensures.puts) (attrs_found c.args.self.now c.args.key.now c.args.at c.requires.flat c.requires.slot) (thin_itself _)
