use Rattle.fib_save.proofs.Taking.{elem_taken, elems_taken}
use Rattle.fib_save.proofs.take.take_elems.Goals as goal

pub loop-elem-preserved : goal.loop-elem-preserved
loop-elem-preserved c = elem_taken c.args.candidates.now.candidates c.loop-elem.candidates.candidates c.load.new.self.candidates c.args.elems.now c.loop-elem.elem-index c.elem-item.result c.loop-elem-test.true c.elem-item.is c.in_ok-load.ensures.candidates c.loop-elem.invariant

pub returns : goal.returns
returns c = elems_taken c.args.candidates.now.candidates c.loop-elem.candidates.candidates c.args.elems.now c.loop-elem.elem-index c.loop-elem-test.false c.loop-elem.invariant
