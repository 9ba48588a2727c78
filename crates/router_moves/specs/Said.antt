-- The changes that a text says, and the rows that are to prove them the fewest.
use Rattle.std.specs.Prelude.{ℕ, List, [], ◌∷◌, Result, Ok, flat_map, fold, option_to_list}
use Rattle.octet_fields.specs.Field.{◌>>=◌}
use Rattle.table_model.specs.Address.{Address}
use Rattle.table_model.specs.Changes.{Change, Add, Replace, Remove}
use Rattle.cert_model.specs.Rows.{CertRow}
use Rattle.fib_addr.specs.Hops.{with_hop}
use Rattle.printed_text.specs.Rows.{PrintedRow, add_row, replace_row, remove_row, cert_leaf_row}
use Rattle.printed_text.specs.Texts.{BadLine, rows_by}
use Rattle.printed_text.specs.Used.{hop_number, cert_part}

-- the hop of a row that gets a number: of a change that sets an entry, and of a leaf
abbrev pub moves_hop : PrintedRow → List Address
moves_hop (add_row event p hop) = option_to_list hop
moves_hop (replace_row event p hop) = option_to_list hop
moves_hop (cert_leaf_row p hop) = option_to_list hop
moves_hop row = []

-- the hops that have numbers before, and then the different ones of such rows, in the order of their first use
abbrev pub moves_hops : List Address → List PrintedRow → List Address
moves_hops before rows = fold with_hop before (flat_map moves_hop rows)

-- the change that a row says, whatever its event
abbrev pub change_part : List Address → PrintedRow → List Change
change_part hops (add_row event p hop) = Add p (hop_number hops hop) ∷ []
change_part hops (replace_row event p hop) = Replace p (hop_number hops hop) ∷ []
change_part hops (remove_row event p) = Remove p ∷ []
change_part hops row = []

-- The changes and the rows of the certificate, each in the order of its rows, and the hops that have numbers after them.
pub record SaidMoves : Type 0 where
  pub changes : List Change
  pub rows : List CertRow
  pub hops : List Address

abbrev pub said_moves : List Address → List PrintedRow → SaidMoves
said_moves before rows = record {
  changes = flat_map (change_part (moves_hops before rows)) rows;
  rows = flat_map (cert_part (moves_hops before rows)) rows;
  hops = moves_hops before rows;
}

-- What a text says, if these hops have numbers before; or its first bad line. The hops of other rows get no number, so there are never
-- too many of them.
abbrev pub said_in : List Address → List ℕ → Result SaidMoves BadLine
said_in before text = rows_by (moves_hops before) text >>= λ rows. Ok (said_moves before rows)
