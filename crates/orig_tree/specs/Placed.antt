-- A label that is set at a path, with nodes made down to it.
use Rattle.std.specs.Prelude.{◌≡◌, ℕ, List, Bool, true, false, Option, Some, None, slice_set}
use Rattle.orig_tree.specs.Walk.{labelled}
use Rattle.orig_tree.specs.Arena.{Owner, cell_at, IsTree, IsSet, MakesRoom, HalvesStay, cover_of, relabelled}
use Rattle.orig_tree.specs.Bests.{AreBest, IsGrown}
use Rattle.orig_tree.specs.declared.node.Node.{Node}
use Rattle.orig_tree.specs.declared.node.Label.{Label}
use Rattle.orig_tree.specs.declared.node.Label.TheVariants.{Route, Entry}
use Rattle.orig_tree.specs.declared.best.Best.{Best}

-- the hop that is set for a route
abbrev pub route_set : Label → ℕ → Option ℕ
route_set Route h = Some h
route_set Entry h = None

-- a node with its own labels, its cover computed from those of the halves
abbrev pub told_again : Label → List Node → Node → Node
told_again label cells n = relabelled label (labelled label n.route.hop n.entry.hop) cells n

-- the node at place i computes its cover again, if that of a half has changed; more: whether its own has changed
abbrev pub Climbs : Label → Bool → Bool → List Node → List Node → ℕ → Type 0
Climbs label false more old new i = (new ≡ old) × (more ≡ false)
Climbs label true more old new i = (new ≡ slice_set old i (told_again label old (cell_at old i))) × (more ≡ false → cover_of label (told_again label old (cell_at old i)) ≡ cover_of label (cell_at old i))

-- the array after the path q from place i on got nodes, and a label's hop was set there, with what the new nodes keep, if f says
-- the answers of place i's region; more: whether the cover at place i has changed
pub record IsPlaced (d : ℕ) (label : Label) (q : List Bool) (hop : ℕ) (old new : List Node) (free : ℕ) (name : ℕ → Owner) (i : ℕ) (p : List Bool) (f : List Bool → ℕ) (kept kept' : ℕ → Best) (more : Bool) : Type 0 where
  -- the array between the two: with the nodes, without the hop
  pub middle : List Node
  pub room : MakesRoom d q old middle free name i p
  pub set : (name1 : ℕ → Owner) (v : List Bool) → IsTree d middle name1 i v → IsSet d label q (Some hop) middle new name1 i v × (more ≡ false → cover_of label (cell_at new i) ≡ cover_of label (cell_at middle i))
  pub stay : HalvesStay middle new
  pub grown : AreBest d old kept f i → IsGrown d middle name i p f kept kept'
