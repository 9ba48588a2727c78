-- What one more row makes of what was read.
use Rattle.std.specs.Prelude.{List, ◌++◌, fold}
use Rattle.table_model.specs.Address.{Address}
use Rattle.fib_addr.specs.Hops.{with_hop}
use Rattle.printed_text.specs.Rows.{PrintedRow}
use Rattle.printed_text.specs.Used.{cert_part}
use Rattle.router_moves.specs.Said.{SaidMoves, change_part, moves_hop}

-- the hops after a row
abbrev pub hops_after_move : List Address → PrintedRow → List Address
hops_after_move hops row = fold with_hop hops (moves_hop row)

-- what was said before, and what this row says
abbrev pub said_after : SaidMoves → PrintedRow → SaidMoves
said_after s row = record {
  changes = s.changes ++ change_part (hops_after_move s.hops row) row;
  rows = s.rows ++ cert_part (hops_after_move s.hops row) row;
  hops = hops_after_move s.hops row;
}
