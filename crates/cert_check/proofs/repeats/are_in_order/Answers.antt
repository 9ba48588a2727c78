use Rattle.std.proofs.Common.{◌∙◌, sym, arith}
use Rattle.cert_check.proofs.Later.{in_order, one_more_in_order}
use Rattle.cert_check.proofs.repeats.are_in_order.Goals as goal

pub loop-i-preserved : goal.loop-i-preserved
loop-i-preserved c = one_more_in_order c.args.entries.now c.loop-i.i _ _ c.cmp.result (omega arith) (omega arith) c.cmp.ensures (sym c.is_ge.ensures ∙ c.if-is_ge.false) c.loop-i.invariant

pub returns : goal.returns
returns c = λ e. in_order c.args.entries.now (λ z k lt. c.loop-i.invariant z k (omega arith))
