use Rattle.std.proofs.lemmas.Result.{err_from_is_err_and}
use Rattle.std.proofs.Common.{[], ◌∷◌}
use Rattle.printed_text.specs.Printed.{kind_as}
use Rattle.fib_same.proofs.Whole.{first_stops, others_stop}
use Rattle.router_moves.proofs.Asking.{asked_told, printed_fails, router_fails}
use Rattle.router_moves.proofs.asked.read_asked.Goals as goal

pub returns-in_err-table-clause-due : goal.returns-in_err-table-clause-due
returns-in_err-table-clause-due g c =
    let p = err_from_is_err_and c.from_residual.result c.from_residual.ensures.1 in
    rw (p.1, p.2) (router_fails (g.I.Inputs.content c.args.inputs.now) c.args.router.now c.args.printed.now c.args.hops.now.list c.requires c.in_err-table.field-0.0 c.in_err-table.ensures.due)

pub returns-in_err-table-clause-reads : goal.returns-in_err-table-clause-reads
returns-in_err-table-clause-reads g c =
    let p = err_from_is_err_and c.from_residual.result c.from_residual.ensures.1 in
    rw (p.1, p.2) (first_stops c.args.router.now (c.args.printed.now ∷ []) c.in_err-table.field-0.0 _ _ c.in_err-table.ensures.reads)

pub returns-in_err-routes-clause-due : goal.returns-in_err-routes-clause-due
returns-in_err-routes-clause-due g c =
    let p = err_from_is_err_and c.from_residual-in_err-routes.result c.from_residual-in_err-routes.ensures.1 in
    let table = kind_as c.in_ok-table.table c.read_text.new.hops in
    rw (p.1, p.2)
    (printed_fails (g.I.Inputs.content c.args.inputs.now) c.args.router.now c.args.printed.now c.args.hops.now.list c.requires (g.I.Inputs.content c.read_text.new.inputs) table c.in_err-routes.field-0.0 c.in_ok-table.ensures.same c.in_ok-table.ensures.due c.in_err-routes.ensures.due)

pub returns-in_err-routes-clause-reads : goal.returns-in_err-routes-clause-reads
returns-in_err-routes-clause-reads g c =
    let p = err_from_is_err_and c.from_residual-in_err-routes.result c.from_residual-in_err-routes.ensures.1 in
    rw (p.1, p.2) (others_stop c.args.router.now (c.args.printed.now ∷ []) c.in_err-routes.field-0.0 _ _ _ c.in_ok-table.ensures.reads c.in_err-routes.ensures.reads)

pub returns-clause-due : goal.returns-clause-due
returns-clause-due g c =
    asked_told (g.I.Inputs.content c.args.inputs.now) c.args.router.now c.args.printed.now c.args.hops.now.list c.requires (g.I.Inputs.content c.read_text.new.inputs) (kind_as c.in_ok-table.table c.read_text.new.hops) (kind_as c.in_ok-routes.routes c.read_text-2.new.hops)
    c.in_ok-table.ensures.same c.in_ok-table.ensures.due c.in_ok-routes.ensures.due
