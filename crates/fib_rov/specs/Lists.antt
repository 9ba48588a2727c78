-- What a clause sees of a list of VRPs that was read.
use Rattle.std.specs.Prelude.{◌≡◌, List, Result, Ok, Err, map}
use Rattle.std.specs.declared.vec.Vec.{Vec}
use Rattle.printed_text.specs.Texts.{BadLine}
use Rattle.printed_text.specs.Printed.{bad_as}
use Rattle.printed_text.specs.Rows.{Vrp}
use Rattle.fib_rov.specs.Views.{vrp_as}
use Rattle.fib_rov.specs.declared.vrp.Vrp as code
use Rattle.fib_rov.specs.declared.reading.RovError.{RovError}
use Rattle.fib_rov.specs.declared.reading.RovError.TheVariants as error

-- what a reader of a list returned is what the definition gives, unless memory ran out
abbrev pub IsListRead : Result (List Vrp) RovError → Result (List Vrp) BadLine → Type 0
IsListRead (Ok vrps) due = due ≡ Ok vrps
IsListRead (Err (error.BadRow bad)) due = due ≡ Err (bad_as bad)
IsListRead (Err error.NoMemory) due = Unit {0}

-- the same, before the list has an index
abbrev pub IsListed : {X : Type 0} → Result (Vec code.Vrp X) RovError → Result (List Vrp) BadLine → Type 0
IsListed (Ok list) due = due ≡ Ok (map vrp_as list.items)
IsListed (Err (error.BadRow bad)) due = due ≡ Err (bad_as bad)
IsListed (Err error.NoMemory) due = Unit {0}
