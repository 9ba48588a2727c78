-- A child that is shared, or is none.
use Rattle.std.proofs.Common.{◌≡◌, ◌++◌, ℕ, zero, suc, ◌+◌, ◌-◌, ◌<◌, List, Bool, true, Option, Some, None, length, sym, ap, ◌∙◌, arith, subst}
use Rattle.buddy_arena.specs.Space.{Space}
use Rattle.buddy_arena.specs.Places.{is_out}
use Rattle.buddy_arena.specs.Arrays.{AreApart}
use Rattle.buddy_arena.specs.Blocks.{Held}
use Rattle.fib_addr.specs.Answers.{one_answer}
use Rattle.fib_addr.proofs.OneAnswer.{mixed_bits}
use Rattle.poptrie_build.specs.Bits.{rank_of}
use Rattle.poptrie_build.specs.Strides.{slots, slot}
use Rattle.poptrie_build.specs.Stands.{BySlot, IsLeaf, node_at}
use Rattle.poptrie_build.specs.Build.{StandsIn}
use Rattle.poptrie_build.specs.declared.node.Node.{Node}
use Rattle.poptrie_build.proofs.Counting.{canonical_same, no_nodes, no_leaves}
use Rattle.path_copying.specs.Alike.{SameAnswers}
use Rattle.path_copying.specs.Kids.{IsKid, StandsAs, kid_arrays, kid_leaf_arrays}
use Rattle.path_copying.specs.Changes.{Part, Replaces}
use Rattle.path_copying.proofs.Agree.{one_alike, slot_alike, slots_alike, need_alike, need_leaves_alike}

-- a node that stands for the one stands for the other
pub stands_in_alike : (k : ℕ) (nodes : List Node) (N : ℕ → Bool) (leaves : List ℕ) (L : ℕ → Bool) (n : Node) (d : ℕ) (f g : List Bool → ℕ) → SameAnswers d f g → StandsIn k nodes N leaves L n d f → StandsIn k nodes N leaves L n d g
unfolding StandsIn
stands_in_alike zero nodes N leaves L n d f g h s = absurd s
stands_in_alike (suc k) nodes N leaves L n d f g h s = (
  sym (one_alike d f g h) ∙ s.0,
  canonical_same _ _ (slots d f) (slots d g) (λ v l. slots_alike d v f g h) s.1,
  λ v l. by v (λ m t. stands_in_alike k nodes N leaves L m (d - 6) (slot d f v) (slot d g v) (slot_alike d v f g h) t) (slots d f v) (slots d g v) (slots_alike d v f g h) (s.2 v l),
)
  where
    by : (v : ℕ) → ((m : Node) → StandsIn k nodes N leaves L m (d - 6) (slot d f v) → StandsIn k nodes N leaves L m (d - 6) (slot d g v)) → (x y : Option ℕ) → x ≡ y → BySlot x ((N (n.base1 + rank_of n.vector (v + 1) - 1) ≡ true) × (n.base1 + rank_of n.vector (v + 1) - 1 < length nodes) × StandsIn k nodes N leaves L (node_at nodes (n.base1 + rank_of n.vector (v + 1) - 1)) (d - 6) (slot d f v)) (λ h. (L (n.base0 + rank_of n.leafvec (v + 1) - 1) ≡ true) × IsLeaf leaves (n.base0 + rank_of n.leafvec (v + 1) - 1) h) → BySlot y ((N (n.base1 + rank_of n.vector (v + 1) - 1) ≡ true) × (n.base1 + rank_of n.vector (v + 1) - 1 < length nodes) × StandsIn k nodes N leaves L (node_at nodes (n.base1 + rank_of n.vector (v + 1) - 1)) (d - 6) (slot d g v)) (λ h. (L (n.base0 + rank_of n.leafvec (v + 1) - 1) ≡ true) × IsLeaf leaves (n.base0 + rank_of n.leafvec (v + 1) - 1) h)
    by v again None None e t = (t.0, t.1, again (node_at nodes (n.base1 + rank_of n.vector (v + 1) - 1)) t.2)
    by v again None (Some j) e t = cc
    by v again (Some h) None e t = cc
    by v again (Some h) (Some j) e t = subst (λ (x : Option ℕ). BySlot x ((N (n.base1 + rank_of n.vector (v + 1) - 1) ≡ true) × (n.base1 + rank_of n.vector (v + 1) - 1 < length nodes) × StandsIn k nodes N leaves L (node_at nodes (n.base1 + rank_of n.vector (v + 1) - 1)) (d - 6) (slot d g v)) (λ i. (L (n.base0 + rank_of n.leafvec (v + 1) - 1) ≡ true) × IsLeaf leaves (n.base0 + rank_of n.leafvec (v + 1) - 1) i)) e t

backward : (d : ℕ) (f g : List Bool → ℕ) → SameAnswers d f g → SameAnswers d g f
backward d f g h a l = sym (h a l)

-- nothing changes where the answers are as they were
pub replaces_shared : (nodes : Space Node) (nb : Held) (leaves : Space ℕ) (lb : Held) (was : Option Node) (node : Node) (d b : ℕ) (f p : List Bool → ℕ) → was ≡ Some node → b ≡ d → p ≡ f → ((k : ℕ) (N L : ℕ → Bool) (g : List Bool → ℕ) → StandsIn k nodes.cells N leaves.cells L node b g → SameAnswers b p g) → Replaces nodes nb leaves lb was nodes nb leaves lb (Some node) d f
replaces_shared nodes nb leaves lb was node d b f p is eb ep same k g x y m m2 few q =
    let s = subst (λ (z : Option Node). StandsAs k nodes.cells (is_out nodes.free) leaves.cells (is_out leaves.free) z d g) is q.stands in
    let al : SameAnswers d f g = subst (λ (h : List Bool → ℕ). SameAnswers d h g) ep (subst (λ (n : ℕ). SameAnswers n p g) eb (same k (is_out nodes.free) (is_out leaves.free) g (subst (λ (n : ℕ). StandsIn k nodes.cells (is_out nodes.free) leaves.cells (is_out leaves.free) node n g) (sym eb) s))) in
    record {
      stands = stands_in_alike k nodes.cells (is_out nodes.free) leaves.cells (is_out leaves.free) node d g f (backward d f g al) s;
      nodes_apart = subst (λ (z : Option Node). AreApart (is_out nodes.free) (kid_arrays k nodes.cells z ++ (nb.replaced ++ x))) is q.nodes_apart;
      leaves_apart = subst (λ (z : Option Node). AreApart (is_out leaves.free) (kid_leaf_arrays k nodes.cells z ++ (lb.replaced ++ y))) is q.leaves_apart;
      nodes_fill = omega (arith, q.nodes_fill, need_alike k d f g al);
      leaves_fill = omega (arith, q.leaves_fill, need_leaves_alike k d f g al);
    }

-- where both answers are one, there is nothing
pub replaces_nothing : (nodes : Space Node) (nb : Held) (leaves : Space ℕ) (lb : Held) (was : Option Node) (d h : ℕ) (f : List Bool → ℕ) → was ≡ None → one_answer d f ≡ Some h → Replaces nodes nb leaves lb was nodes nb leaves lb None d f
replaces_nothing nodes nb leaves lb was d h f is e k g x y m m2 few p =
    let q = subst (λ (z : Option Node). Part k nodes leaves z d g (nb.replaced ++ x) (lb.replaced ++ y) m m2) is p in
    record {
      stands = (h, e);
      nodes_apart = q.nodes_apart;
      leaves_apart = q.leaves_apart;
      nodes_fill = omega (arith, q.nodes_fill, no_nodes k d q.stands.0 g q.stands.1, no_nodes k d h f e);
      leaves_fill = omega (arith, q.leaves_fill, no_leaves k d q.stands.0 g q.stands.1, no_leaves k d h f e);
    }

-- what was is a node
pub kid_bits : (nodes : Space Node) (leaves : Space ℕ) (was : Option Node) (node : Node) (d : ℕ) → was ≡ Some node → IsKid nodes leaves was d → 0 < d
unfolding StandsIn
kid_bits nodes leaves was node d is (k, g, s) = some k (subst (λ (z : Option Node). StandsAs k nodes.cells (is_out nodes.free) leaves.cells (is_out leaves.free) z d g) is s)
  where
    some : (j : ℕ) → StandsIn j nodes.cells (is_out nodes.free) leaves.cells (is_out leaves.free) node d g → 0 < d
    some zero q = absurd q
    some (suc j) q = mixed_bits d g q.0

pub replaces_gone : (nodes : Space Node) (nb nb2 : Held) (leaves : Space ℕ) (lb lb2 : Held) (was : Option Node) (node : Node) (b d h : ℕ) (f : List Bool → ℕ) → was ≡ Some node → b ≡ d → one_answer d f ≡ Some h → ((leaves : Space ℕ) (f : List Bool → ℕ) (h : ℕ) → one_answer b f ≡ Some h → Replaces nodes nb leaves lb (Some node) nodes nb2 leaves lb2 None b f) → Replaces nodes nb leaves lb was nodes nb2 leaves lb2 None d f
replaces_gone nodes nb nb2 leaves lb lb2 was node b d h f is e one gone =
    subst (λ (z : Option Node). Replaces nodes nb leaves lb z nodes nb2 leaves lb2 None d f) (sym is)
    (subst (λ (n : ℕ). Replaces nodes nb leaves lb (Some node) nodes nb2 leaves lb2 None n f) e (gone leaves f h (ap (λ n. one_answer n f) e ∙ one)))

pub replaces_at : (nodes nodes2 : Space Node) (nb nb2 : Held) (leaves leaves2 : Space ℕ) (lb lb2 : Held) (was new : Option Node) (b d : ℕ) (p f : List Bool → ℕ) → b ≡ d → p ≡ f → Replaces nodes nb leaves lb was nodes2 nb2 leaves2 lb2 new b p → Replaces nodes nb leaves lb was nodes2 nb2 leaves2 lb2 new d f
replaces_at nodes nodes2 nb nb2 leaves leaves2 lb lb2 was new b d p f e q r =
    subst (λ (n : ℕ). Replaces nodes nb leaves lb was nodes2 nb2 leaves2 lb2 new n f) e (subst (λ (h : List Bool → ℕ). Replaces nodes nb leaves lb was nodes2 nb2 leaves2 lb2 new b h) q r)
