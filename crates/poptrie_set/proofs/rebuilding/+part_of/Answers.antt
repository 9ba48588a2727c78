use Rattle.std.proofs.Common.{refl, arith}
use Rattle.poptrie_build.proofs.Slotting.{descended, descended_last}
use Rattle.poptrie_set.proofs.rebuilding.+part_of.Goals as goal

pub returns-then-at-eq0-clause-answers : goal.returns-then-at-eq0-clause-answers
returns-then-at-eq0-clause-answers g t c = descended_last c.args.depth c.args.number _ (g.R.Region.answers c.args.region.now) (g.R.Region.answers c.half-half.result) c.requires.some c.if-at-eq0.true refl c.half-half.ensures.answers

pub returns-clause-answers : goal.returns-clause-answers
returns-clause-answers g t c = descended c.args.depth c.args.number _ (g.R.Region.answers c.args.region.now) (g.R.Region.answers c.half-half.result) (g.R.Region.answers c.part_of.result) (omega (arith, c.requires.some)) refl c.half-half.ensures.answers c.part_of.ensures.answers
