use Rattle.std.proofs.Common.{◌+◌, arith}
use Rattle.fib_report.proofs.Kept.{next_text}
use Rattle.fib_report.proofs.hop_texts.texts_of.Goals as goal

pub loop-place-preserved : goal.loop-place-preserved
loop-place-preserved c =
    let l = c.loop-place in
    next_text c.args.table.now.list l.texts.items _ l.place (l.place + 1) c.in-Some.addr c.of.result l.invariant.0 l.invariant.1 (omega arith) c.in-Some.ensures.addr c.of.ensures c.in-Ok.ensures.items
