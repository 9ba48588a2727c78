-- What a clause sees of VRPs.
use Rattle.std.specs.Prelude.{ℕ, Bool, not, ◌&&◌, nat_lt, Option}
use Rattle.fib_addr.specs.Views.{prefix_as}
use Rattle.printed_text.specs.Rows.{Vrp}
use Rattle.fib_rov.specs.Rov.{is_from}
use Rattle.fib_rov.specs.declared.vrp.Vrp as code

abbrev pub vrp_as : code.Vrp → Vrp
vrp_as v = record { prefix = prefix_as v.prefix; maxlen = v.maxlen; asn = v.asn }

-- whether it matches a route of n bits with this origin, if it covers it
abbrev pub allows : ℕ → Option ℕ → code.Vrp → Bool
allows len origin v = not (nat_lt v.maxlen len) && is_from origin v.asn
