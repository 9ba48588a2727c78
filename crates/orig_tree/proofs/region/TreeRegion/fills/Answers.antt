use Rattle.std.proofs.Common.{refl, not}
use Rattle.std.proofs.Common.{subst, None}
use Rattle.orig_tree.specs.Arena.{cells_of}
use Rattle.orig_tree.specs.Cover.{SomeGets}
use Rattle.orig_tree.specs.Spots.{Spot, spot_rows, EachFixed}
use Rattle.orig_tree.specs.Views.{FitsWidth}
use Rattle.orig_tree.proofs.Regions.{spot_fixed, spot_passed, bare_passed}
use Rattle.orig_tree.proofs.region.TreeRegion.fills.Goals as goal

pub returns-in-Some-clause-all : goal.returns-in-Some-clause-all
returns-in-Some-clause-all c = λ t.
    let r = c.self.inside in
    subst (λ (s : Spot). FitsWidth s.bits (spot_rows c.args.label s) → EachFixed s.bits (spot_rows c.args.label s)) c.self.view_is
    (spot_fixed c.args.label (cells_of r.nodes.now) r.place c.in-Some.i r.bits r.hop c.read.result c.cover-cover.result (not c.cover-cover.result.passes) c.in-Some.is c.read.ensures c.cover-cover.ensures refl c.self.invariant.2 t)

pub returns-in-Some-clause-some : goal.returns-in-Some-clause-some
returns-in-Some-clause-some c = λ t.
    let r = c.self.inside in
    subst (λ (s : Spot). FitsWidth s.bits (spot_rows c.args.label s) → SomeGets s.bits (spot_rows c.args.label s) None) c.self.view_is
    (spot_passed c.args.label (cells_of r.nodes.now) r.place c.in-Some.i r.bits r.hop c.read.result c.cover-cover.result (not c.cover-cover.result.passes) c.in-Some.is c.read.ensures c.cover-cover.ensures refl c.self.invariant.2 t)

pub returns-in-None-clause-some : goal.returns-in-None-clause-some
returns-in-None-clause-some c = λ t.
    let r = c.self.inside in
    subst (λ (s : Spot). FitsWidth s.bits (spot_rows c.args.label s) → SomeGets s.bits (spot_rows c.args.label s) None) c.self.view_is
    (λ f. bare_passed c.args.label (cells_of r.nodes.now) r.place r.bits r.hop c.in-None.is)
