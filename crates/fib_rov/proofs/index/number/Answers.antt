use Rattle.std.proofs.Common.{◌≡◌, ◌+◌, ◌++◌, ◌∷◌, [], List, drop, sym, ap, subst, ◌∙◌}
use Rattle.fib_rov.specs.declared.numbered.Numbered.{Numbered}
use Rattle.fib_rov.specs.Index.{numbered, with_number}
use Rattle.fib_rov.proofs.Numbers.{numbered_more, numbered_whole}
use Rattle.fib_rov.proofs.index.number.Goals as goal

pub loop-number-preserved : goal.loop-number-preserved
loop-number-preserved c =
    let list = c.args.list.now in
    let i = c.loop-number.number in
    let items = c.in_ok-push.ensures.items ∙ ap (λ x. c.loop-number.vrps.items ++ x ∷ []) (c.new.ensures ∙ ap (with_number i) c.index-list-number.is) in
    subst (λ (vrps : List Numbered). vrps ++ numbered (i + 1) (drop (i + 1) list) ≡ numbered 0 list) (sym items) (numbered_more list c.loop-number.vrps.items i c.index-list-number.result c.loop-number-test.true c.loop-number.invariant)

pub returns : goal.returns
returns c = numbered_whole _ _ _ c.loop-number-test.false c.loop-number.invariant
