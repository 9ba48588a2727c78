use Rattle.std.proofs.Common.{◌≡◌, ◌≢◌, ◌-◌, take, ap, ◌∙◌, arith}
use Rattle.table_model.specs.Bits.{bits_of}
use Rattle.fib_addr.specs.Answers.{part}
use Rattle.route_tries.proofs.Beside.{along_step}
use Rattle.route_tries.proofs.deep.along.Goals as goal

pub loop-at-init : goal.loop-at-init
loop-at-init g c =
    let left = c.args.left in
    let depth = c.args.depth in
    let some : left ≢ 0 = λ e. omega (arith, e, c.requires.some, c.requires.path) in
    let more : depth ≢ 0 = λ e. omega (arith, e, c.requires.some) in
    let rest : left - 1 - (left - depth) ≡ depth - 1 = omega (arith, c.requires.some, c.requires.path) in
    record {
      some = omega (arith, c.requires.some, c.requires.path);
      few = omega (arith, c.requires.some, c.requires.path);
      bits = omega (arith, c.half-part.ensures.bits, c.requires.some, c.requires.path);
      answers = along_step depth left c.args.q (g.R.Region.answers c.args.region.now) (g.R.Region.answers c.half-part.result) _ c.bit_at.result some more c.bit_at.ensures c.half-part.ensures.answers (ap (λ n. part (take n (bits_of (left - 1) c.args.q)) (g.R.Region.answers c.half-part.result)) rest);
    }

pub loop-at-preserved : goal.loop-at-preserved
loop-at-preserved g c =
    let l = c.loop-at in
    let at = l.at in
    let end = c.args.left - c.args.depth in
    let some : at ≢ 0 = λ e. omega (arith, e, c.loop-at-test.true) in
    let more : at - end ≢ 0 = λ e. omega (arith, e, c.loop-at-test.true) in
    let rest : at - 1 - end ≡ at - end - 1 = omega arith in
    record {
      some = omega (arith, c.loop-at-test.true);
      few = omega (arith, l.invariant.few);
      bits = omega (arith, l.invariant.bits, c.half-part-in-loop-at.ensures.bits, c.loop-at-test.true);
      answers = along_step (at - end) at c.args.q (g.R.Region.answers l.part) (g.R.Region.answers c.half-part-in-loop-at.result) _ c.bit_at-in-loop-at.result some more c.bit_at-in-loop-at.ensures c.half-part-in-loop-at.ensures.answers (ap (λ n. part (take n (bits_of (at - 1) c.args.q)) (g.R.Region.answers c.half-part-in-loop-at.result)) rest) ∙ l.invariant.answers;
    }

pub returns-clause-answers : goal.returns-clause-answers
returns-clause-answers g c =
    let end = c.args.left - c.args.depth in
    let z : 0 ≡ c.loop-at.at - end = omega (arith, c.loop-at-test.false, c.loop-at.invariant.some) in
    ap (λ n. part (take n (bits_of c.loop-at.at c.args.q)) (g.R.Region.answers c.loop-at.part)) z ∙ c.loop-at.invariant.answers
