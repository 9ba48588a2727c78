-- The entries that a text's rows of one kind say: its routes, its table to forward by, or its least table.
use Rattle.std.specs.Prelude.{ℕ, List, Result, Ok, flat_map, fold}
use Rattle.octet_fields.specs.Field.{◌>>=◌}
use Rattle.table_model.specs.Address.{Address}
use Rattle.table_model.specs.Entries.{Entries}
use Rattle.fib_addr.specs.Hops.{with_hop}
use Rattle.printed_text.specs.declared.kind.Kind.{Kind}
use Rattle.printed_text.specs.Rows.{PrintedRow}
use Rattle.printed_text.specs.Texts.{BadLine, rows_by}
use Rattle.printed_text.specs.Used.{kind_entry, kind_hop}

-- the hops that have numbers before, and then the different ones of rows of this kind, in the order of their first use
abbrev pub kind_hops : Kind → List Address → List PrintedRow → List Address
kind_hops kind before rows = fold with_hop before (flat_map (kind_hop kind) rows)

-- The entries of a kind, in the order of their rows, and the hops that have numbers after them.
pub record KindEntries : Type 0 where
  pub entries : Entries
  pub hops : List Address

abbrev pub kind_entries : Kind → List Address → List PrintedRow → KindEntries
kind_entries kind before rows = record {
  entries = flat_map (kind_entry kind (kind_hops kind before rows)) rows;
  hops = kind_hops kind before rows;
}

-- The entries that a text's rows of this kind say, if these hops have numbers before; or the text's first bad line. The hops of other
-- rows get no number, so there are never too many of them.
abbrev pub kind_in : Kind → List Address → List ℕ → Result KindEntries BadLine
kind_in kind before text = rows_by (kind_hops kind before) text >>= λ rows. Ok (kind_entries kind before rows)
