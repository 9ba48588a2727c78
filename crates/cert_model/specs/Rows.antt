-- The rows of a certificate, and those that a table of routes has.
use Rattle.std.specs.Prelude.{ℕ, zero, suc, List, [], ◌∷◌, ◌++◌, Bool, true, false, Option, Some, None}
use Rattle.table_model.specs.Width.{width}
use Rattle.table_model.specs.Address.{Prefix}
use Rattle.table_model.specs.Halves.{half_at}
use Rattle.table_model.specs.declared.family.Family.{Family}
use Rattle.table_model.specs.declared.family.Family.TheVariants.{V4, V6}
use Rattle.table_model.specs.Entries.{Entries, of_family}
use Rattle.table_model.specs.Sets.{side, k_of, answers}
use Rattle.table_model.specs.Least.{bound}
use Rattle.fib_addr.specs.Answers.{one_answer}

-- A leaf row says that every address of the prefix gets the hop. A join row puts a region together from its halves, and
-- says its k. A bound row says how many entries a least table of the family has.
pub data CertRow : Type 0 where
  leaf_row : Prefix → ℕ → CertRow
  join_row : Prefix → ℕ → CertRow
  bound_row : Family → ℕ → CertRow

-- the prefix of all addresses of the family
abbrev pub whole_prefix : Family → Prefix
whole_prefix f = record { family = f; bits = [] }

-- a leaf row if there is one answer, else these rows
abbrev pub leaf_or : Option ℕ → Prefix → List CertRow → List CertRow
leaf_or (Some h) p rows = leaf_row p h ∷ []
leaf_or None p rows = rows

-- the rows of the region p of d more bits: a leaf if there is one answer, else the lower half's, the upper half's, and a join
unfoldable pub region_rows : ℕ → (List Bool → ℕ) → Prefix → List CertRow
region_rows zero f p = leaf_row p (f []) ∷ []
region_rows (suc d) f p =
    leaf_or (one_answer (suc d) f) p (region_rows d (side false f) (half_at false p) ++ (region_rows d (side true f) (half_at true p) ++ (join_row p (k_of (suc d) f) ∷ [])))

-- the rows of all addresses of a family, and its bound
abbrev pub family_rows : Family → Entries → List CertRow
family_rows f R = region_rows (width f) (answers (of_family f R) []) (whole_prefix f) ++ (bound_row f (bound (width f) (of_family f R)) ∷ [])

-- the certificate that routes have
abbrev pub certificate_of : Entries → List CertRow
certificate_of R = family_rows V4 R ++ family_rows V6 R
