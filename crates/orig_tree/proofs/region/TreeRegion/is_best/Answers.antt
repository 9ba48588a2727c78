use Rattle.std.proofs.Common.{refl, ap, ◌∙◌}
use Rattle.table_model.specs.Sets.{set_of, is_in}
use Rattle.orig_tree.specs.Arena.{cells_of}
use Rattle.orig_tree.specs.Bests.{best_in}
use Rattle.orig_tree.specs.Spots.{Spot, spot_answers}
use Rattle.orig_tree.specs.declared.best.Best.{Best}
use Rattle.orig_tree.proofs.Regions.{bare_set, in_one, spot_stands}
use Rattle.orig_tree.proofs.region.TreeRegion.is_best.Goals as goal

pub returns-in-None : goal.returns-in-None
returns-in-None c =
    let r = c.self.inside in
    in_one r.hop c.args.hop _ _ refl (bare_set (cells_of r.nodes.now) r.place r.bits r.hop c.in-None.is) ∙ ap (λ (s : Spot). is_in c.args.hop (set_of s.bits (spot_answers s))) c.self.view_is

pub returns-in-Some : goal.returns-in-Some
returns-in-Some c =
    let r = c.self.inside in
    c.contains.ensures ∙ (ap (λ (b : Best). is_in c.args.hop b.hops) c.best_at.ensures ∙ ((spot_stands (cells_of r.nodes.now) (best_in r.nodes.now) r.place c.in-Some.i r.bits r.hop c.in-Some.is c.self.invariant.0).hops c.args.hop ∙ ap (λ (s : Spot). is_in c.args.hop (set_of s.bits (spot_answers s))) c.self.view_is))
