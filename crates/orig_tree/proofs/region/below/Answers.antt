use Rattle.std.proofs.Common.{◌≢◌, arith, ◌∙◌}
use Rattle.orig_tree.proofs.Regions.{below_end, below_step, below_nodes, here_nodes}
use Rattle.orig_tree.proofs.region.below.Goals as goal

pub loop-left-preserved : goal.loop-left-preserved
loop-left-preserved g c =
    let l = c.loop-left in
    let s = l.region in
    let t = c.half-region.result in
    let some : l.left ≢ 0 = λ e. omega (arith, e, c.loop-left-test.true) in
    let step = below_step s t l.left c.args.path.bits c.bit_at.result some c.bit_at.ensures c.half-region.ensures.routes c.half-region.ensures.entries c.half-region.ensures.hop in
    record {
      few = omega (arith, l.invariant.few);
      bits = omega (arith, l.invariant.bits, c.half-region.ensures.bits, c.loop-left-test.true);
      answers = λ a. step.0 a ∙ l.invariant.answers a;
      entries = step.1 ∙ l.invariant.entries;
      nodes = below_nodes s.nodes t.nodes l.left c.args.path.bits c.bit_at.result some c.bit_at.ensures c.half-region.ensures.nodes ∙ l.invariant.nodes;
      steps = omega (arith, l.invariant.steps, c.tick.ensures, c.loop-left-test.true);
    }

pub returns-clause-answers : goal.returns-clause-answers
returns-clause-answers g c = λ a. (below_end c.loop-left.region c.loop-left.left c.args.path.bits (omega (arith, c.loop-left-test.false))).0 a ∙ c.loop-left.invariant.answers a

pub returns-clause-entries : goal.returns-clause-entries
returns-clause-entries g c = (below_end c.loop-left.region c.loop-left.left c.args.path.bits (omega (arith, c.loop-left-test.false))).1 ∙ c.loop-left.invariant.entries

pub returns-clause-nodes : goal.returns-clause-nodes
returns-clause-nodes g c = here_nodes c.loop-left.region.nodes c.loop-left.left c.args.path.bits (omega (arith, c.loop-left-test.false)) ∙ c.loop-left.invariant.nodes
