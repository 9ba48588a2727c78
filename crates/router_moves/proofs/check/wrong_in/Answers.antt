use Rattle.router_moves.proofs.Judging.{none_wrong}
use Rattle.router_moves.proofs.check.wrong_in.Goals as goal

pub returns-in-Ok-clause-wrong : goal.returns-in-Ok-clause-wrong
returns-in-Ok-clause-wrong c =
    none_wrong c.args.family c.args.claim.now c.in_ok-table.table.items c.in_ok-routes.routes.items c.in_ok-changes.changes.items c.in_ok-rows.rows.items (rw c.deref.ensures.value at c.in_ok-table.ensures.own) (rw c.deref-2.ensures.value at c.in_ok-routes.ensures.own)
    (rw c.deref-3.ensures.value at c.in_ok-changes.ensures.own) (rw c.deref-4.ensures.value at c.in_ok-rows.ensures.own) (rw (c.deref-5.ensures.value, c.deref-6.ensures.value, c.deref-7.ensures.value, c.deref-8.ensures.value) at c.in-Ok.ensures.proved)
