-- Counting entries by halves, and the number of prefixes at which two tables differ.
use Rattle.std.proofs.Common.{◌≡◌, ◌≢◌, ℕ, ◌+◌, ◌≤◌, List, [], ◌∷◌, Bool, true, false, not, cond, Option, Some, None, nat_eq, refl, ap, arith, ◌⊎◌, inl, inr}
use Rattle.std.specs.List.{AllByRecursion}
use Rattle.std.proofs.lemmas.Bool.{eqb-true, eq-eqb}
use Rattle.table_model.specs.Table.{Entry, Table, Distinct, root, half, here}
use Rattle.table_model.proofs.Cut.{entry}
use Rattle.table_model.specs.Regions.{entry_at}
use Rattle.std.specs.Prelude.{is_none}
use Rattle.moves_model.specs.Dist.{differs, how_many, distance}

-- the test of an entry by what it is in the half of first bit b
abbrev pub side_of : Bool → (Entry → Bool) → Entry → Bool
side_of b t e = t (entry (b ∷ e.prefix) e.hop)

parts_step : (t : Entry → Bool) (p : List Bool) (g : ℕ) (L : Table)
    → how_many t (here (root L)) + how_many (side_of false t) (half false L) + how_many (side_of true t) (half true L) ≤ how_many t L
    → how_many t (here (root (entry p g ∷ L))) + how_many (side_of false t) (half false (entry p g ∷ L)) + how_many (side_of true t) (half true (entry p g ∷ L)) ≤ how_many t (entry p g ∷ L)
parts_step t [] g L ih = omega arith
parts_step t (true ∷ p) g L ih = omega arith
parts_step t (false ∷ p) g L ih = omega arith

pub count_parts : (t : Entry → Bool) (L : Table) → how_many t (here (root L)) + how_many (side_of false t) (half false L) + how_many (side_of true t) (half true L) ≤ how_many t L
count_parts t [] = omega arith
count_parts t (e ∷ L) = parts_step t e.prefix e.hop L (count_parts t L)

no_root : (L : Table) → AllByRecursion (λ f. [] ≢ f.prefix) L → root L ≡ None
no_root [] h = refl
no_root (e ∷ L) h = no_root_step e.prefix e.hop L h.0 (no_root L h.1)
  where
    no_root_step : (p : List Bool) (g : ℕ) (L : Table) → [] ≢ p → root L ≡ None → root (entry p g ∷ L) ≡ None
    no_root_step [] g L ne ih = absurd (ne refl)
    no_root_step (b ∷ p) g L ne ih = ih

exact_step : (t : Entry → Bool) (p : List Bool) (g : ℕ) (L : Table) → AllByRecursion (λ f. p ≢ f.prefix) L
    → how_many t L ≡ how_many t (here (root L)) + how_many (side_of false t) (half false L) + how_many (side_of true t) (half true L)
    → how_many t (entry p g ∷ L) ≡ how_many t (here (root (entry p g ∷ L))) + how_many (side_of false t) (half false (entry p g ∷ L)) + how_many (side_of true t) (half true (entry p g ∷ L))
exact_step t [] g L h ih = let e : how_many t (here (root L)) ≡ 0 = ap (λ o. how_many t (here o)) (no_root L h) in omega arith
exact_step t (true ∷ p) g L h ih = omega arith
exact_step t (false ∷ p) g L h ih = omega arith

pub count_cut : (t : Entry → Bool) (L : Table) → Distinct L → how_many t L ≡ how_many t (here (root L)) + how_many (side_of false t) (half false L) + how_many (side_of true t) (half true L)
count_cut t [] d = refl
count_cut t (e ∷ L) d = exact_step t e.prefix e.hop L d.0 (count_cut t L d.1)

abbrev pub one_if : Bool → ℕ
one_if b = cond b 1 0

-- 1 where they differ
abbrev pub tally : Option ℕ → Option ℕ → ℕ
tally o u = one_if (differs o u)

root_tally : (o u : Option ℕ) → how_many (λ e. differs (Some e.hop) u) (here o) + how_many (λ e. is_none o) (here u) ≡ tally o u
root_tally None None = refl
root_tally None (Some h) = refl
root_tally (Some g) None = refl
root_tally (Some g) (Some h) = omega arith

-- at the root only the root's entry counts
here_count : (P : List Bool → ℕ → Bool) (o : Option ℕ) → how_many (λ e. P e.prefix e.hop) (here o) ≡ how_many (λ e. P [] e.hop) (here o)
here_count P None = refl
here_count P (Some g) = refl

-- the root's difference and those of the halves are no more than the whole
pub dist_parts : (T U : Table) → tally (root T) (root U) + distance (half false T) (half false U) + distance (half true T) (half true U) ≤ distance T U
dist_parts T U =
    let t : Entry → Bool = λ e. differs (Some e.hop) (entry_at e.prefix U) in
    let u : Entry → Bool = λ e. is_none (entry_at e.prefix T) in
    omega (
      arith,
      count_parts t T,
      count_parts u U,
      here_count (λ p g. differs (Some g) (entry_at p U)) (root T),
      here_count (λ p g. is_none (entry_at p T)) (root U),
      root_tally (root T) (root U),
    )

-- and of tables they are the whole
pub dist_cut : (T U : Table) → Distinct T → Distinct U → distance T U ≡ tally (root T) (root U) + distance (half false T) (half false U) + distance (half true T) (half true U)
dist_cut T U d c =
    let t : Entry → Bool = λ e. differs (Some e.hop) (entry_at e.prefix U) in
    let u : Entry → Bool = λ e. is_none (entry_at e.prefix T) in
    omega (
      arith,
      count_cut t T d,
      count_cut u U c,
      here_count (λ p g. differs (Some g) (entry_at p U)) (root T),
      here_count (λ p g. is_none (entry_at p T)) (root U),
      root_tally (root T) (root U),
    )

-- hops that don't differ are the same
pub differ_or_same : (o u : Option ℕ) → (tally o u ≡ 1) ⊎ (o ≡ u)
differ_or_same None None = inr refl
differ_or_same None (Some h) = inl refl
differ_or_same (Some g) None = inl refl
differ_or_same (Some g) (Some h) = by_test (nat_eq g h) refl
  where
    by_test : (b : Bool) → nat_eq g h ≡ b → (one_if (not (nat_eq g h)) ≡ 1) ⊎ (Some g ≡ Some h)
    by_test true e = inr (ap Some (eqb-true g h e))
    by_test false e = inl (ap (λ b. one_if (not b)) e)

pub tally_itself : (g : ℕ) → tally (Some g) (Some g) ≡ 0
tally_itself g = ap (λ b. one_if (not b)) (eq-eqb g g refl)
