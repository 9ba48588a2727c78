-- What is needed below the slots of a node on the way to a path.
use Rattle.std.specs.Prelude.{◌≡◌, ℕ, ◌+◌, ◌^◌, ◌<◌, List, Bool, if◌then◌else◌, drop}
use Rattle.table_model.specs.Bits.{bits_of}
use Rattle.route_tries.specs.Parts.{meet, way_nodes, way_leaves}

-- what is needed below slot u of those that j bits tell apart, a region of e more bits with the answers f, on the way to the path p:
-- nothing if the slot and the path don't meet
abbrev pub nodes_below : ℕ → ℕ → ℕ → (List Bool → ℕ) → List Bool → ℕ → ℕ
nodes_below j k e f p u = if meet (bits_of j u) p then way_nodes k e f (drop j p) else 0

abbrev pub leaves_below : ℕ → ℕ → ℕ → (List Bool → ℕ) → List Bool → ℕ → ℕ
leaves_below j k e f p u = if meet (bits_of j u) p then way_leaves k e f (drop j p) else 0

-- N and L are what is needed below the slots from v on, those that j bits tell apart, on the way to the path p; slot u has the answers r u
pub record AreOnWay (j k e : ℕ) (r : ℕ → List Bool → ℕ) (p : List Bool) (N L : ℕ → ℕ) (v : ℕ) : Type 0 where
  pub nodes : (u : ℕ) → u < 2 ^ j → N (v + u) ≡ nodes_below j k e (r (v + u)) p u
  pub leaves : (u : ℕ) → u < 2 ^ j → L (v + u) ≡ leaves_below j k e (r (v + u)) p u

-- nothing is needed below the slots from v on, those that j bits tell apart
pub record AreBeside (j : ℕ) (N L : ℕ → ℕ) (v : ℕ) : Type 0 where
  pub nodes : (u : ℕ) → u < 2 ^ j → N (v + u) ≡ 0
  pub leaves : (u : ℕ) → u < 2 ^ j → L (v + u) ≡ 0
