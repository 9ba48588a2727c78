use Rattle.std.proofs.Common.{List, ◌+◌, drop, sym, subst, arith}
use Rattle.std.proofs.lemmas.List.{drop_all}
use Rattle.fib_addr.specs.declared.entry.Entry as code_entry
use Rattle.fib_delta.proofs.Merging.{From, from_more, none_left, opened}
use Rattle.fib_delta.proofs.changes.is_in_order.Goals as goal

pub loop-entry-preserved : goal.loop-entry-preserved
loop-entry-preserved c = λ s.
    let xs = c.args.entries.now in
    let i = c.loop-entry.entry-index in
    c.loop-entry.invariant (subst (λ (z : List code_entry.Entry). From c.loop-entry.last z) (sym (opened xs i c.entry-item.result c.loop-entry-test.true c.entry-item.is)) (from_more c.loop-entry.last c.entry-item.result (drop (i + 1) xs) (c.comes_after.ensures c.if-not-comes_after.false) s))

pub returns : goal.returns
returns c = λ yes.
    let xs = c.args.entries.now in
    let i = c.loop-entry.entry-index in
    c.loop-entry.invariant (subst (λ (z : List code_entry.Entry). From c.loop-entry.last z) (sym (drop_all i xs (omega (arith, c.loop-entry-test.false)))) (none_left c.loop-entry.last))
