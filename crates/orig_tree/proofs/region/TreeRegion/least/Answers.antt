use Rattle.std.proofs.Common.{ap, sym, ◌∙◌}
use Rattle.table_model.specs.Sets.{set_of, smallest}
use Rattle.orig_tree.specs.Arena.{cells_of}
use Rattle.orig_tree.specs.Bests.{best_in}
use Rattle.orig_tree.specs.Spots.{Spot, spot_answers, spot_at}
use Rattle.orig_tree.specs.declared.best.Best.{Best}
use Rattle.orig_tree.proofs.Regions.{bare_set, least_is, spot_stands}
use Rattle.orig_tree.proofs.region.TreeRegion.least.Goals as goal

pub returns-in-None : goal.returns-in-None
returns-in-None c =
    let r = c.self.inside in
    ap smallest (sym (bare_set (cells_of r.nodes.now) r.place r.bits r.hop c.in-None.is)) ∙ ap (λ (s : Spot). smallest (set_of s.bits (spot_answers s))) c.self.view_is

pub returns-in-Some : goal.returns-in-Some
returns-in-Some c =
    let r = c.self.inside in
    c.least.ensures ∙ (ap (λ (b : Best). smallest b.hops) c.best_at.ensures ∙ (least_is r.bits (spot_answers (spot_at (cells_of r.nodes.now) r.place r.bits r.hop)) (best_in r.nodes.now c.in-Some.i) (spot_stands (cells_of r.nodes.now) (best_in r.nodes.now) r.place c.in-Some.i r.bits r.hop c.in-Some.is c.self.invariant.0) ∙ ap (λ (s : Spot). smallest (set_of s.bits (spot_answers s))) c.self.view_is))
