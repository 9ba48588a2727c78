use Rattle.std.proofs.Common.{◌≡◌, refl, ap, ◌∙◌, arith}
use Rattle.table_model.specs.Bits.{bits_of}
use Rattle.fib_addr.specs.Answers.{part}
use Rattle.poptrie_build.proofs.Slotting.{descended}
use Rattle.poptrie_build.proofs.slots.descend.Goals as goal

pub loop-at-init : goal.loop-at-init
loop-at-init g c = record {
  few = omega (arith, c.requires.some);
  bits = omega (arith, c.half-part.ensures.bits, c.requires.some);
  answers = descended c.args.depth c.args.bits _ (g.R.Region.answers c.args.region.now) (g.R.Region.answers c.half-part.result) _ (omega (arith, c.requires.some)) refl c.half-part.ensures.answers refl;
}

pub loop-at-preserved : goal.loop-at-preserved
loop-at-preserved g c =
    let l = c.loop-at in
    record {
      few = omega (arith, l.invariant.few);
      bits = omega (arith, l.invariant.bits, c.half-part-in-loop-at.ensures.bits, c.loop-at-test.true);
      answers = descended l.at c.args.bits _ (g.R.Region.answers l.part) (g.R.Region.answers c.half-part-in-loop-at.result) _ (omega (arith, c.loop-at-test.true)) refl c.half-part-in-loop-at.ensures.answers refl ∙ l.invariant.answers;
    }

pub returns-clause-answers : goal.returns-clause-answers
unfolding bits_of
returns-clause-answers g c =
    let z : 0 ≡ c.loop-at.at = omega (arith, c.loop-at-test.false) in
    ap (λ n. part (bits_of n c.args.bits) (g.R.Region.answers c.loop-at.part)) z ∙ c.loop-at.invariant.answers
