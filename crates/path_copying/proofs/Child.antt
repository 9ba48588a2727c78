-- The child at a slot of a node that stands.
use Rattle.std.proofs.Common.{◌≡◌, ◌≢◌, ℕ, ◌+◌, ◌-◌, ◌/◌, ◌^◌, ◌<◌, Option, Some, length, get_or, bit_and, sym, ap, ◌∙◌, subst}
use Rattle.std.specs.Int.{bit_at}
use Rattle.buddy_arena.specs.Space.{Space}
use Rattle.buddy_arena.specs.Places.{is_out}
use Rattle.poptrie_build.specs.Bits.{rank_of}
use Rattle.poptrie_build.specs.Stands.{blank}
use Rattle.poptrie_build.specs.declared.node.Node.{Node}
use Rattle.poptrie_build.proofs.Walk.{default_same}
use Rattle.path_copying.specs.Kids.{IsKid, StandsAs, kid_at}
use Rattle.path_copying.proofs.Opened.{kid_some}
use Rattle.path_copying.proofs.Same.{node_at_slot}
use Rattle.path_copying.proofs.Set_bits.{one_bit}

pub record ChildPlace (nodes : Space Node) (n : Node) (v : ℕ) : Type 0 where
  pub bit : bit_at n.vector v ≡ 1
  pub some : 0 < rank_of n.vector (v + 1)
  pub within : n.base1 + rank_of n.vector (v + 1) - 1 < length nodes.cells

pub child_place : (nodes : Space Node) (node : Option Node) (n : Node) (v : ℕ) → v < 64 → node ≡ Some n → (leaves : Space ℕ) × (d : ℕ) × IsKid nodes leaves node d → bit_and (n.vector / 2 ^ v) 1 ≢ 0 → ChildPlace nodes n v
child_place nodes node n v l e (leaves, d, is) b =
    let t = subst (λ (x : Option Node). StandsAs is.0 nodes.cells (is_out nodes.free) leaves.cells (is_out leaves.free) x d is.1) e is.2 in
    let at = node_at_slot nodes.cells (is_out nodes.free) leaves.cells (is_out leaves.free) n d is.1 v l is.0 (one_bit n.vector v b) t in
    record { bit = one_bit n.vector v b; some = at.some; within = at.within }

pub child_is : (nodes : Space Node) (node : Option Node) (n child : Node) (v r : ℕ) → node ≡ Some n → r ≡ rank_of n.vector (v + 1) → ChildPlace nodes n v → child ≡ get_or nodes.cells (n.base1 + r - 1) nodes.fill → Some child ≡ kid_at nodes.cells node v
child_is nodes node n child v r e q p c =
    ap Some (c ∙ (ap (λ i. get_or nodes.cells (n.base1 + i - 1) nodes.fill) q ∙ default_same nodes.cells (n.base1 + rank_of n.vector (v + 1) - 1) nodes.fill blank p.within))
    ∙ (sym (kid_some nodes.cells n v p.bit) ∙ ap (λ x. kid_at nodes.cells x v) (sym e))
