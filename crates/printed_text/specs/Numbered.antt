-- The rows that print routes, a least table and a certificate whose hops have numbers.
use Rattle.std.specs.Prelude.{ℕ, ◌≤◌, List, [], ◌∷◌, ◌++◌, Option, None, Some, map, flat_map, length}
use Rattle.std.specs.List.{AllByRecursion}
use Rattle.table_model.specs.Address.{Address, Prefix, IsPrefix}
use Rattle.table_model.specs.Entries.{Entries}
use Rattle.fib_addr.specs.Hops.{hop_at}
use Rattle.cert_model.specs.Rows.{CertRow, leaf_row, join_row, bound_row}
use Rattle.cert_model.specs.Right.{IsCertificate}
use Rattle.printed_text.specs.Rows.{PrintedRow, route_row, least_row, cert_leaf_row, cert_join_row, cert_bound_row, IsNumber}
use Rattle.printed_text.specs.Used.{Used}

-- ---- the row of an item, with the address of its hop; a number that no hop has is no hop

-- a route; if it has no hop, it has no row
abbrev pub route_row_by : Prefix → Option Address → List PrintedRow
route_row_by p None = []
route_row_by p (Some a) = route_row p a ∷ []

abbrev pub of_route : List Address → Prefix × ℕ → List PrintedRow
of_route hops e = route_row_by e.0 (hop_at hops e.1)

abbrev pub of_least : List Address → Prefix × ℕ → PrintedRow
of_least hops e = least_row e.0 (hop_at hops e.1)

abbrev pub of_cert : List Address → CertRow → PrintedRow
of_cert hops (leaf_row p h) = cert_leaf_row p (hop_at hops h)
of_cert hops (join_row p k) = cert_join_row p k
of_cert hops (bound_row f n) = cert_bound_row f n

-- ---- a text

-- a row that says nothing of routes, of the least table or of a certificate
abbrev pub IsOther : PrintedRow → Type 0
IsOther (route_row p a) = ⊥
IsOther (least_row p hop) = ⊥
IsOther (cert_leaf_row p hop) = ⊥
IsOther (cert_join_row p k) = ⊥
IsOther (cert_bound_row f n) = ⊥
IsOther row = Unit {0}

-- the rows of routes R, a least table T and a certificate C, with other rows in between and at the end
abbrev pub rows_with : List Address → Entries → Entries → List CertRow → List PrintedRow → List PrintedRow → List PrintedRow
rows_with hops R T C between after = flat_map (of_route hops) R ++ (between ++ (map (of_least hops) T ++ (map (of_cert hops) C ++ after)))

-- each entry has one of these hops
abbrev pub HaveHops : List Address → Entries → Type 0
HaveHops hops R = AllByRecursion (λ e. (1 ≤ e.1) × (e.1 ≤ length hops)) R

-- the row's prefix is one, and its number is below 2^64
abbrev pub IsCertRow : CertRow → Type 0
IsCertRow (leaf_row p h) = IsPrefix p
IsCertRow (join_row p k) = IsPrefix p × IsNumber k
IsCertRow (bound_row f n) = IsNumber n

-- what is used of a text proves its least table least for its routes
abbrev pub Proves : Used → Type 0
Proves used = IsCertificate used.routes used.least used.cert
