-- The same tables and rows with other numbers for their hops.
use Rattle.std.specs.Prelude.{◌≡◌, ℕ, List, ◌∷◌, map, IsTrue}
use Rattle.table_model.specs.Entries.{Entries}
use Rattle.table_model.specs.Sets.{is_in}
use Rattle.cert_model.specs.Rows.{CertRow, leaf_row, join_row, bound_row}

-- the entries, each hop with its new number
abbrev pub renamed : (ℕ → ℕ) → Entries → Entries
renamed to E = map (λ e. (e.0, to e.1)) E

-- a row with the new number of its hop; a k and a bound are no hops
abbrev pub renamed_row : (ℕ → ℕ) → CertRow → CertRow
renamed_row to (leaf_row p h) = leaf_row p (to h)
renamed_row to (join_row p k) = join_row p k
renamed_row to (bound_row f n) = bound_row f n

abbrev pub renamed_rows : (ℕ → ℕ) → List CertRow → List CertRow
renamed_rows to rows = map (renamed_row to) rows

-- none and the hops of these entries
abbrev pub hops_of_entries : Entries → List ℕ
hops_of_entries E = 0 ∷ map (λ e. e.1) E

-- two of these hops get one number only if they are one
abbrev pub KeepsApart : (ℕ → ℕ) → List ℕ → Type 0
KeepsApart to hops = (g h : ℕ) → IsTrue (is_in g hops) → IsTrue (is_in h hops) → to g ≡ to h → g ≡ h
