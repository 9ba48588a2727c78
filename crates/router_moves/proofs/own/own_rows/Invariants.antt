use Rattle.std.proofs.Common.{◌≡◌, ◌++◌, map, drop}
use Rattle.cert_model.specs.Views.{row_as}
use Rattle.moves_check.specs.Views.{AreRowsOf}
use Rattle.moves_model.specs.Claims.{own_rows}
use Rattle.router_moves.proofs.own.own_rows.Given as goal

abbrev pub invariant-loop-row : goal.invariant-loop-row
invariant-loop-row l =
    (own_rows l.family (map row_as l.rows) ≡ map row_as l.own.items ++ own_rows l.family (map row_as (drop l.row-index l.rows)))
    × AreRowsOf l.family (map row_as l.own.items)
