-- What is counted of a node's slots while a walk goes over them.
use Rattle.std.specs.Prelude.{◌≡◌, ℕ, ◌+◌, ◌-◌, ◌^◌, ◌<◌, List, Bool, Option, Some, take}
use Rattle.table_model.specs.Bits.{bits_of}
use Rattle.fib_addr.specs.Answers.{one_answer, part}
use Rattle.poptrie_build.specs.Strides.{mixed, leaf_before, run_start, total}
use Rattle.poptrie_build.specs.Need.{need_in_u64, need_nodes, need_leaves}
use Rattle.poptrie_build.specs.declared.counts.Needs.{Needs}
use Rattle.poptrie_build.specs.declared.tally.Tally.{Tally}

-- x places of nodes are needed and y of leaves
pub record IsNeed (n : Needs) (x y : ℕ) : Type 0 where
  pub nodes : n.nodes ≡ need_in_u64 x
  pub leaves : n.leaves ≡ need_in_u64 y

-- The tally is that of the first v slots of a node. Slot u is a leaf of hop g u, or has a node if g u is None; the arrays below it
-- need N u places of nodes and L u of leaves.
pub record IsTally (t : Tally) (g : ℕ → Option ℕ) (N L : ℕ → ℕ) (v : ℕ) : Type 0 where
  pub last : t.last ≡ leaf_before g v
  pub nodes : t.nodes ≡ total (λ u. mixed (g u)) v
  pub leaves : t.leaves ≡ total (run_start g) v
  pub below : IsNeed t.below (total N v) (total L v)

-- the n slots from v on are leaves of hop h, with nothing below them
abbrev pub AreLeaves : ℕ → (ℕ → Option ℕ) → (ℕ → ℕ) → (ℕ → ℕ) → ℕ → ℕ → Type 0
AreLeaves h g N L v n = (u : ℕ) → u < n → (g (v + u) ≡ Some h) × (N (v + u) ≡ 0) × (L (v + u) ≡ 0)

-- the slots from v on are the parts of a region of d more bits with the answers f, of the parts that j of these bits tell apart: slot u
-- is a region of e more bits with the answers r u
pub record AreParts (j d : ℕ) (f : List Bool → ℕ) (e : ℕ) (r : ℕ → List Bool → ℕ) (v : ℕ) : Type 0 where
  pub bits : e ≡ d - j
  pub answers : (u : ℕ) → u < 2 ^ j → r (v + u) ≡ part (take d (bits_of j u)) f

-- the tally of the first v slots with all that their regions need over k strides
abbrev pub IsWholeTally : Tally → ℕ → ℕ → (ℕ → List Bool → ℕ) → ℕ → Type 0
IsWholeTally t k e r v = IsTally t (λ u. one_answer e (r u)) (λ u. need_nodes k e (r u)) (λ u. need_leaves k e (r u)) v
