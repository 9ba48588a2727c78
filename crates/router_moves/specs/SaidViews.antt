-- What a clause sees of what was read.
use Rattle.std.specs.Prelude.{◌≡◌, Result, Ok, Err, map}
use Rattle.fib_addr.specs.Hops.{Hops}
use Rattle.fib_delta.specs.Views.{change_as}
use Rattle.cert_model.specs.Views.{row_as}
use Rattle.printed_text.specs.Texts.{BadLine}
use Rattle.printed_text.specs.Printed.{bad_as}
use Rattle.printed_text.specs.declared.error.PrintedError as code_error
use Rattle.printed_text.specs.declared.error.PrintedError.TheVariants as error
use Rattle.router_moves.specs.Said.{SaidMoves}
use Rattle.router_moves.specs.declared.read.PrintedMoves.{PrintedMoves}

-- the changes and rows that were read, and the hops after them
abbrev pub said_moves_as : PrintedMoves → Hops → SaidMoves
said_moves_as said hops = record { changes = map change_as said.changes.items; rows = map row_as said.rows.items; hops = hops.list }

-- what a reader returned, and the hops after it, are what the definition gives, unless memory ran out
abbrev pub IsSaid : Result PrintedMoves code_error.PrintedError → Hops → Result SaidMoves BadLine → Type 0
IsSaid (Ok said) hops due = due ≡ Ok (said_moves_as said hops)
IsSaid (Err (error.BadRow bad)) hops due = due ≡ Err (bad_as bad)
IsSaid (Err error.NoMemory) hops due = Unit {0}
