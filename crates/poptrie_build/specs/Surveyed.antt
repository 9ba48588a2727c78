-- The vectors and the leaves of a node while its slots are gone through.
use Rattle.std.specs.Prelude.{◌≡◌, ℕ, ◌+◌, ◌-◌, ◌<◌, List, Option, Some, slice_index_or}
use Rattle.poptrie_build.specs.Strides.{leaf_before, run_start, total}
use Rattle.poptrie_build.specs.Making.{IsSoFar}
use Rattle.poptrie_build.specs.declared.surveying.Survey.{Survey}

-- the hop of the last of n leaves
abbrev pub IsLastOf : List ℕ → ℕ → ℕ → Type 0
IsLastOf hops n h = (0 < n) × (slice_index_or hops (n - 1) 0 ≡ h)

-- the slots below v are in the vectors, and the hops of their leaves are known: a slot's is that of the last run that begins at or before it
pub record IsSurveyed (s : Survey) (hops : List ℕ) (g : ℕ → Option ℕ) (v : ℕ) : Type 0 where
  pub vectors : IsSoFar s.vectors g v
  pub leaves : s.leaves ≡ total (run_start g) v
  pub each : (u h : ℕ) → u < v → g u ≡ Some h → IsLastOf hops (total (run_start g) (u + 1)) h
  pub last : (h : ℕ) → leaf_before g v ≡ Some h → IsLastOf hops (total (run_start g) v) h
