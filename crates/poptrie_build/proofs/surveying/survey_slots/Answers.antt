use Rattle.std.proofs.Common.{refl, arith}
use Rattle.poptrie_build.specs.Strides.{slots}
use Rattle.poptrie_build.proofs.More_surveyed.{surveyed_whole, surveyed_canonical, surveyed_nodes, surveyed_leaves, surveyed_hops}
use Rattle.poptrie_build.proofs.surveying.survey_slots.Goals as goal

pub returns-clause-canonical : goal.returns-clause-canonical
returns-clause-canonical g c =
    let d = g.R.Region.bits c.args.region.now in
    let f = g.R.Region.answers c.args.region.now in
    surveyed_canonical (slots d f) c.add_halves.new.hops c.add_halves.new.survey (surveyed_whole d f _ c.add_halves.new.survey c.args.hops.now c.add_halves.new.hops refl c.add_halves.ensures.slots)

pub returns-clause-nodes : goal.returns-clause-nodes
returns-clause-nodes g c =
    let d = g.R.Region.bits c.args.region.now in
    let f = g.R.Region.answers c.args.region.now in
    surveyed_nodes (slots d f) c.add_halves.new.hops c.add_halves.new.survey (surveyed_whole d f _ c.add_halves.new.survey c.args.hops.now c.add_halves.new.hops refl c.add_halves.ensures.slots)

pub returns-clause-leaves : goal.returns-clause-leaves
returns-clause-leaves g c =
    let d = g.R.Region.bits c.args.region.now in
    let f = g.R.Region.answers c.args.region.now in
    surveyed_leaves (slots d f) c.add_halves.new.hops c.add_halves.new.survey (surveyed_whole d f _ c.add_halves.new.survey c.args.hops.now c.add_halves.new.hops refl c.add_halves.ensures.slots)

pub returns-clause-hops : goal.returns-clause-hops
returns-clause-hops g c =
    let d = g.R.Region.bits c.args.region.now in
    let f = g.R.Region.answers c.args.region.now in
    surveyed_hops (slots d f) c.add_halves.new.hops c.add_halves.new.survey (surveyed_whole d f _ c.add_halves.new.survey c.args.hops.now c.add_halves.new.hops refl c.add_halves.ensures.slots)

pub returns-clause-few : goal.returns-clause-few
returns-clause-few g c =
    let d = g.R.Region.bits c.args.region.now in
    let f = g.R.Region.answers c.args.region.now in
    let all = surveyed_whole d f _ c.add_halves.new.survey c.args.hops.now c.add_halves.new.hops refl c.add_halves.ensures.slots in
    omega (arith, c.add_halves.ensures.few, all.leaves, surveyed_leaves (slots d f) c.add_halves.new.hops c.add_halves.new.survey all)
