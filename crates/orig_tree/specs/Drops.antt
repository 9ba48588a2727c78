-- Nodes that are given back.
use Rattle.std.specs.Prelude.{◌≡◌, ℕ, ◌<◌, List, [], ◌∷◌, ◌++◌, length, Bool, true, false, cond, Option, None}
use Rattle.orig_tree.specs.Walk.{Walks, walks_of}
use Rattle.orig_tree.specs.Trims.{IsTrimmed, IsPruned, KeepsRoot, bare}
use Rattle.orig_tree.specs.Arena.{Owner, At, half_place, from_half, walks_by, walks_at, IfHalf, IsNode, IsTree, HasSpares, KeepsOthers}
use Rattle.orig_tree.specs.Bests.{AreBest}
use Rattle.table_model.specs.Sets.{side}
use Rattle.orig_tree.specs.Packed.{bare_slot}
use Rattle.orig_tree.specs.declared.node.Node.{Node}
use Rattle.orig_tree.specs.declared.best.Best.{Best}

-- a node with those of its halves that stay
abbrev pub with_halves : Node → Bool → Bool → Node
with_halves n low high = record { low = cond low n.low 0; high = cond high n.high 0; route = n.route; entry = n.entry }

-- a spare place links to the next one
abbrev pub spare_node : ℕ → Node
spare_node next = record { low = next; high = 0; route = bare_slot; entry = bare_slot }

-- a half, if it stays
abbrev pub what_stays : Bool → Option ℕ → Option ℕ
what_stays true half = half
what_stays false half = None

-- a half in order after nodes below it went, and its own if it doesn't stay; what the nodes that stay keep stands as before
pub record HalfKept (d : ℕ) (old new : List Node) (free : ℕ) (name : ℕ → Owner) (half : Option ℕ) (p : List Bool) (stays : Bool) : Type 0 where
  pub name' : ℕ → Owner
  pub spares : ℕ
  pub tree : IfHalf (λ j. IsTree d new name' j p) (what_stays stays half)
  pub held : HasSpares new free name' spares
  pub keeps : KeepsOthers p old new name name'
  pub routes : (from_half (walks_at d new) (what_stays stays half)).routes ≡ (from_half (walks_at d old) half).routes
  pub entries : (from_half (walks_at d new) (what_stays stays half)).entries ≡ (from_half (walks_at d old) half).entries
  pub best : (S : ℕ → Best) (f : List Bool → ℕ) → IfHalf (λ j. AreBest d old S f j) half → IfHalf (λ j. AreBest d new S f j) (what_stays stays half)

-- the half after the nodes of path r in it, and below, went that nothing uses
pub record HalfTrimmed (d : ℕ) (r : List Bool) (old new : List Node) (free : ℕ) (name : ℕ → Owner) (half : Option ℕ) (p : List Bool) (stays : Bool) : Type 0 where
  pub kept : HalfKept d old new free name half p stays
  pub pruned : IsPruned r (from_half (walks_at d old) half) (from_half (walks_at d new) (what_stays stays half))
  pub keeps : stays ≡ true → KeepsRoot r (from_half (walks_at d old) half) (from_half (walks_at d new) (what_stays stays half))

-- the same of a node
pub record NodeTrimmed (d : ℕ) (r : List Bool) (old new : List Node) (free : ℕ) (name : ℕ → Owner) (i : ℕ) (p : List Bool) (stays : Bool) : Type 0 where
  pub name' : ℕ → Owner
  pub spares : ℕ
  pub tree : IsTree d new name' i p
  pub held : HasSpares new free name' spares
  pub keeps : KeepsOthers p old new name name'
  pub routes : (walks_at d new i).routes ≡ (walks_at d old i).routes
  pub entries : (walks_at d new i).entries ≡ (walks_at d old i).entries
  pub best : (S : ℕ → Best) (f : List Bool → ℕ) → AreBest d old S f i → AreBest d new S f i
  pub trimmed : IsTrimmed r (walks_at d old i) (walks_at d new i)
  pub stays_by : stays ≡ true → KeepsRoot r (walks_at d old i) (walks_at d new i)
  pub bare : stays ≡ false → walks_at d new i ≡ bare

-- a node whose halves are in order, of which some go
pub record BothKept (d : ℕ) (old new : List Node) (free : ℕ) (name : ℕ → Owner) (i : ℕ) (p : List Bool) (n : Node) (low high : Bool) (lower upper : Walks) : Type 0 where
  pub name' : ℕ → Owner
  pub spares : ℕ
  pub here : name' i ≡ At p
  pub inside : i < length new
  pub node : IsNode (walks_at d new) (λ b j. IsTree d new name' j (p ++ (b ∷ []))) (with_halves n low high)
  pub held : HasSpares new free name' spares
  pub keeps : KeepsOthers p old new name name'
  pub walks : walks_by (walks_at d new) (with_halves n low high) ≡ walks_of n.route.hop n.entry.hop lower upper
  pub best : (S : ℕ → Best) (f : List Bool → ℕ) (b : Bool) → IfHalf (λ j. AreBest d old S (side b f) j) (half_place n b) → IfHalf (λ j. AreBest d new S (side b f) j) (half_place (with_halves n low high) b)
