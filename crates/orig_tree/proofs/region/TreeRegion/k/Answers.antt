use Rattle.std.proofs.Common.{ap, sym, ◌∙◌}
use Rattle.table_model.specs.Sets.{k_of}
use Rattle.orig_tree.specs.Arena.{cells_of}
use Rattle.orig_tree.specs.Bests.{best_in}
use Rattle.orig_tree.specs.Spots.{Spot, spot_answers}
use Rattle.orig_tree.specs.declared.best.Best.{Best}
use Rattle.orig_tree.proofs.Regions.{bare_k, spot_stands}
use Rattle.orig_tree.proofs.region.TreeRegion.k.Goals as goal

pub returns-in-None : goal.returns-in-None
returns-in-None c =
    let r = c.self.inside in
    sym (bare_k (cells_of r.nodes.now) r.place r.bits r.hop c.in-None.is) ∙ ap (λ (s : Spot). k_of s.bits (spot_answers s)) c.self.view_is

pub returns-in-Some : goal.returns-in-Some
returns-in-Some c =
    let r = c.self.inside in
    ap (λ (b : Best). b.k) c.best_at.ensures ∙ ((spot_stands (cells_of r.nodes.now) (best_in r.nodes.now) r.place c.in-Some.i r.bits r.hop c.in-Some.is c.self.invariant.0).cost ∙ ap (λ (s : Spot). k_of s.bits (spot_answers s)) c.self.view_is)
