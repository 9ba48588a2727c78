use Rattle.std.proofs.lemmas.Result.{err_from_is_err_and}
use Rattle.std.proofs.Common.{[], ◌∷◌}
use Rattle.fib_same.specs.Passes.{numbered_texts}
use Rattle.router_moves.specs.Asking.{tables_as}
use Rattle.router_moves.specs.Views.{shortest_as}
use Rattle.router_moves.specs.declared.answer.RouterMoves.{RouterMoves}
use Rattle.router_moves.proofs.Asking.{moves_told}
use Rattle.router_moves.proofs.Found.{are_moves, are_shortest_for}
use Rattle.router_moves.proofs.Passing.{read_stops}
use Rattle.router_moves.proofs.router.moves_to_routes.Goals as goal

pub returns-in_err-v4-clause-reads : goal.returns-in_err-v4-clause-reads
returns-in_err-v4-clause-reads g c =
    let p = err_from_is_err_and c.from_residual-in_err-v4.result c.from_residual-in_err-v4.ensures.1 in
    rw (p.1, p.2) (read_stops (numbered_texts 1 (c.args.router.now ∷ c.args.printed.now ∷ [])) _ _ c.in_ok-asked.ensures.reads)

pub returns-in_err-v6-clause-reads : goal.returns-in_err-v6-clause-reads
returns-in_err-v6-clause-reads g c =
    let p = err_from_is_err_and c.from_residual-in_err-v6.result c.from_residual-in_err-v6.ensures.1 in
    rw (p.1, p.2) (read_stops (numbered_texts 1 (c.args.router.now ∷ c.args.printed.now ∷ [])) _ _ c.in_ok-asked.ensures.reads)

pub returns-clause-due : goal.returns-clause-due
returns-clause-due g c =
    let m : RouterMoves = record { v4 = c.in_ok-v4.v4; v6 = c.in_ok-v6.v6; hops = c.read_asked.new.hops } in
    moves_told (g.I.Inputs.content c.args.inputs.now) c.args.router.now c.args.printed.now c.args.steady (tables_as c.in_ok-asked.asked c.read_asked.new.hops) (shortest_as m) c.in_ok-asked.ensures.due
    (are_moves c.args.steady c.in_ok-asked.asked.table.items c.in_ok-asked.asked.routes.items m c.in_ok-v4.ensures.changes c.in_ok-v6.ensures.changes c.in_ok-v4.ensures.rows c.in_ok-v6.ensures.rows)

pub returns-clause-shortest : goal.returns-clause-shortest
returns-clause-shortest g c =
    let m : RouterMoves = record { v4 = c.in_ok-v4.v4; v6 = c.in_ok-v6.v6; hops = c.read_asked.new.hops } in (
      tables_as c.in_ok-asked.asked c.read_asked.new.hops,
      c.in_ok-asked.ensures.due,
      are_moves c.args.steady c.in_ok-asked.asked.table.items c.in_ok-asked.asked.routes.items m c.in_ok-v4.ensures.changes c.in_ok-v6.ensures.changes c.in_ok-v4.ensures.rows c.in_ok-v6.ensures.rows,
      are_shortest_for c.args.steady c.in_ok-asked.asked.table.items c.in_ok-asked.asked.routes.items m c.in_ok-v4.ensures.changes c.in_ok-v6.ensures.changes c.in_ok-v4.ensures.shortest c.in_ok-v6.ensures.shortest,
    )
