-- The rows that routes and an old table have, and the table that the old one is to become.
use Rattle.std.specs.Prelude.{ℕ, zero, suc, List, [], ◌∷◌, ◌++◌, Bool, true, false, cond, Option, None}
use Rattle.table_model.specs.Width.{width}
use Rattle.table_model.specs.Address.{Prefix}
use Rattle.table_model.specs.Halves.{half_at}
use Rattle.table_model.specs.declared.family.Family.{Family}
use Rattle.table_model.specs.Table.{Table, half}
use Rattle.table_model.specs.Entries.{Entries, of_family, of_table}
use Rattle.table_model.specs.Sets.{side, answers}
use Rattle.fib_addr.specs.Answers.{one_answer}
use Rattle.cert_model.specs.Rows.{CertRow, leaf_row, join_row, bound_row, whole_prefix, leaf_or}
use Rattle.moves_model.specs.Sets.{near_k}
use Rattle.moves_model.specs.Nearest.{nearest, near_bound}
use Rattle.moves_model.specs.Demands.{is_bare}

-- the hop of a leaf's addresses, if the region is a leaf: all get one, and no old entry stands strictly within
abbrev pub leaf_answer : ℕ → (List Bool → ℕ) → Table → Option ℕ
leaf_answer d f T = cond (is_bare T) (one_answer d f) None

-- the rows of the region p of d more bits with the answers f and the old entries T, its halves' before its own
unfoldable pub near_region_rows : ℕ → (List Bool → ℕ) → Table → Prefix → List CertRow
near_region_rows zero f T p = leaf_row p (f []) ∷ []
near_region_rows (suc d) f T p =
    leaf_or (leaf_answer (suc d) f T) p (near_region_rows d (side false f) (half false T) (half_at false p) ++ (near_region_rows d (side true f) (half true T) (half_at true p) ++ (join_row p (near_k (suc d) f T) ∷ [])))

-- the rows of all addresses of a family, and its bound
abbrev pub near_rows : Family → Entries → Entries → List CertRow
near_rows f R T =
    near_region_rows (width f) (answers (of_family f R) []) (of_family f T) (whole_prefix f) ++ (bound_row f (near_bound (width f) (of_family f R) (of_family f T)) ∷ [])

-- the nearest table to T of a family, as entries
abbrev pub near_in : Family → Entries → Entries → Entries
near_in f R T = of_table f (nearest (width f) (of_family f R) (of_family f T))
