use Rattle.std.proofs.Common.{◌<◌, sym, ◌∙◌, arith, length}
use Rattle.poptrie_build.proofs.Tallying.{last_is, starts_anew}
use Rattle.poptrie_build.proofs.More_surveyed.{surveyed_more, surveyed_anew_at}
use Rattle.poptrie_build.proofs.surveying.add_leaves.Goals as goal

pub returns-then-eq-clause-leaves : goal.returns-then-eq-clause-leaves
returns-then-eq-clause-leaves c = λ g n z l a i.
    surveyed_more g c.args.hops.now c.args.slot c.args.hop c.args.survey.now n l a (last_is c.args.survey.now.vectors.last c.args.hop (sym c.eq.ensures ∙ c.if-eq.true)) i

pub returns-clause-leaves : goal.returns-clause-leaves
returns-clause-leaves c = λ g n z l a i.
    let m = c.args.survey.now.leaves in
    let room : m < length c.args.hops.now = omega (arith, c.requires.few, c.requires.slot, c.requires.many) in
    surveyed_anew_at g c.args.hops.now c.args.slot c.args.survey.now.vectors.vector c.args.survey.now.vectors.leafvec m c.from.result c.args.hop n c.args.survey.now.vectors.last c.from.ensures c.requires.slot room z l a (starts_anew c.args.survey.now.vectors.last c.args.hop (sym c.eq.ensures ∙ c.if-eq.false)) i
