use Rattle.std.proofs.Common.{[], sym, ap, ◌∙◌, refl, arith, append-nil}
use Rattle.std.proofs.lemmas.List.{drop_all}
use Rattle.fib_delta.proofs.Merging.{said, told, low_at, nothing}
use Rattle.kept_model.specs.Between.{between}
use Rattle.std.proofs.Common.{◌++◌}
use Rattle.fib_delta.proofs.changes.push_removed.Goals as goal

pub loop-entry-preserved : goal.loop-entry-preserved
loop-entry-preserved c = low_at _ c.loop-entry.out.items c.push.new.self.items c.args.old.now [] c.loop-entry.entry-index c.entry-item.result c.requires tt c.loop-entry-test.true c.entry-item.is _ c.in_ok-push.ensures.items refl c.loop-entry.invariant

pub returns : goal.returns
returns c =
    let xs = c.args.old.now in
    let i = c.loop-entry.entry-index in
    sym (append-nil (said c.loop-entry.out.items)) ∙ (ap (λ z. said c.loop-entry.out.items ++ z) (sym nothing) ∙ (ap (λ z. said c.loop-entry.out.items ++ between (told z) []) (sym (drop_all i xs (omega (arith, c.loop-entry-test.false)))) ∙ c.loop-entry.invariant))
