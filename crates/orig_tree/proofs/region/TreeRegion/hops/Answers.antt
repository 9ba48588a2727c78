use Rattle.std.proofs.Common.{◌≡◌, sym, ap, ◌∙◌}
use Rattle.std.proofs.lemmas.Result.{IfOk-weaker}
use Rattle.table_model.specs.Sets.{set_of, is_in}
use Rattle.fib_addr.specs.HopSets.{SameHops}
use Rattle.orig_tree.specs.Arena.{cells_of}
use Rattle.orig_tree.specs.Bests.{best_in}
use Rattle.orig_tree.specs.Spots.{Spot, spot_answers}
use Rattle.orig_tree.specs.declared.best.Best.{Best}
use Rattle.orig_tree.proofs.Regions.{bare_set, spot_stands}
use Rattle.orig_tree.proofs.region.TreeRegion.hops.Goals as goal

pub returns-in-None : goal.returns-in-None
returns-in-None c = λ h.
    let r = c.self.inside in
    ap (is_in h) (c.one.ensures ∙ sym (bare_set (cells_of r.nodes.now) r.place r.bits r.hop c.in-None.is)) ∙ ap (λ (s : Spot). is_in h (set_of s.bits (spot_answers s))) c.self.view_is

pub returns-in-Some : goal.returns-in-Some
returns-in-Some c =
    let r = c.self.inside in
    IfOk-weaker c.copied.result (λ s. s ≡ c.best_at.result.now.hops) (λ s. SameHops s (set_of c.args.self.now.bits (spot_answers c.args.self.now)))
    (λ s e h. ap (is_in h) e ∙ (ap (λ (b : Best). is_in h b.hops) c.best_at.ensures ∙ ((spot_stands (cells_of r.nodes.now) (best_in r.nodes.now) r.place c.in-Some.i r.bits r.hop c.in-Some.is c.self.invariant.0).hops h ∙ ap (λ (t : Spot). is_in h (set_of t.bits (spot_answers t))) c.self.view_is)))
    c.copied.ensures
