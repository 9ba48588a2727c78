-- The vectors of a node while its slots are gone through.
use Rattle.std.specs.Prelude.{◌≡◌, ℕ, ◌<◌, ◌≤◌, List, Option, None, slice_index_or}
use Rattle.std.specs.Int.{bit_at}
use Rattle.poptrie_build.specs.Strides.{mixed, run_start, leaf_before}
use Rattle.poptrie_build.specs.declared.making.Partial.{Partial}

-- the kind of a slot in the list of all
abbrev pub slot_kind : List (Option ℕ) → ℕ → Option ℕ
slot_kind kinds v = slice_index_or kinds v None

-- the slots below v are in the vectors, and no other bit is set
pub record IsSoFar (s : Partial) (g : ℕ → Option ℕ) (v : ℕ) : Type 0 where
  pub nodes : (u : ℕ) → u < v → bit_at s.vector u ≡ mixed (g u)
  pub leaves : (u : ℕ) → u < v → bit_at s.leafvec u ≡ run_start g u
  pub no_nodes : (u : ℕ) → v ≤ u → bit_at s.vector u ≡ 0
  pub no_leaves : (u : ℕ) → v ≤ u → bit_at s.leafvec u ≡ 0
  pub last : s.last ≡ leaf_before g v
