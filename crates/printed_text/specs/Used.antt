-- What a checker uses of printed rows: the routes, the least table and the certificate, with numbers for the hops.
use Rattle.std.specs.Prelude.{ℕ, List, [], ◌∷◌, Option, Some, None, Result, Ok, option_to_list, unwrap_or, flat_map}
use Rattle.octet_fields.specs.Field.{◌>>=◌}
use Rattle.table_model.specs.Address.{Address, Prefix}
use Rattle.table_model.specs.Entries.{Entries}
use Rattle.fib_addr.specs.Hops.{number_of}
use Rattle.cert_model.specs.Rows.{CertRow, leaf_row, join_row, bound_row}
use Rattle.printed_text.specs.Rows.{PrintedRow, route_row, table_row, least_row, cert_leaf_row, cert_join_row, cert_bound_row}
use Rattle.printed_text.specs.declared.kind.Kind.{Kind}
use Rattle.printed_text.specs.declared.kind.Kind.TheVariants.{Route, Table, Least}
use Rattle.printed_text.specs.Texts.{BadLine, hops_in, rows_in}

-- the number of a hop among these, and 0 for none
abbrev pub hop_number : List Address → Option Address → ℕ
hop_number hops None = 0
hop_number hops (Some a) = unwrap_or (number_of hops a) 0

-- the prefix and the hop of a row of this kind, if the row is of it
abbrev pub said_by : Kind → PrintedRow → Option (Prefix × Option Address)
said_by Route (route_row p a) = Some (p, Some a)
said_by Table (table_row p hop) = Some (p, hop)
said_by Least (least_row p hop) = Some (p, hop)
said_by kind row = None

-- the hop of what is said, if there is one
abbrev pub hop_said : Option (Prefix × Option Address) → List Address
hop_said None = []
hop_said (Some said) = option_to_list said.1

-- the entry of what is said, with the hop's number among these
abbrev pub entry_said : List Address → Option (Prefix × Option Address) → Entries
entry_said hops None = []
entry_said hops (Some said) = (said.0, hop_number hops said.1) ∷ []

-- the hop of a row of this kind
abbrev pub kind_hop : Kind → PrintedRow → List Address
kind_hop kind row = hop_said (said_by kind row)

-- the entry of a row of this kind
abbrev pub kind_entry : Kind → List Address → PrintedRow → Entries
kind_entry kind hops row = entry_said hops (said_by kind row)

-- the entry of a route row
abbrev pub route_entry : List Address → PrintedRow → Entries
route_entry hops row = kind_entry Route hops row

-- the entry of a row of the least table
abbrev pub least_entry : List Address → PrintedRow → Entries
least_entry hops row = kind_entry Least hops row

-- the part of a certificate that a row says
abbrev pub cert_part : List Address → PrintedRow → List CertRow
cert_part hops (cert_leaf_row p hop) = leaf_row p (hop_number hops hop) ∷ []
cert_part hops (cert_join_row p k) = join_row p k ∷ []
cert_part hops (cert_bound_row f n) = bound_row f n ∷ []
cert_part hops row = []

-- The routes, the least table, the certificate, each in the order of its rows, and the hops in the order of their numbers.
pub record Used : Type 0 where
  pub routes : Entries
  pub least : Entries
  pub cert : List CertRow
  pub hops : List Address

abbrev pub used_of : List PrintedRow → Used
used_of rows = record {
  routes = flat_map (route_entry (hops_in rows)) rows;
  least = flat_map (least_entry (hops_in rows)) rows;
  cert = flat_map (cert_part (hops_in rows)) rows;
  hops = hops_in rows;
}

-- what a checker uses of a text, or the text's first bad line
abbrev pub printed_in : List ℕ → Result Used BadLine
printed_in text = rows_in text >>= λ rows. Ok (used_of rows)
