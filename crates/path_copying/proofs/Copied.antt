-- A node that is made anew beside an old one: how many places are taken and put aside.
use Rattle.std.proofs.Common.{◌≡◌, ℕ, zero, suc, ◌+◌, ◌-◌, ◌<◌, List, Bool, true, Option, Some, None, length, refl, ap, ◌∙◌, arith, subst}
use Rattle.poptrie_build.specs.Bits.{rank_of}
use Rattle.fib_addr.specs.Answers.{one_answer}
use Rattle.poptrie_build.specs.Strides.{slots, slot, total, mixed}
use Rattle.buddy_arena.specs.Powers.{up}
use Rattle.poptrie_build.specs.Need.{children, need_nodes}
use Rattle.poptrie_build.specs.Stands.{BySlot, IsLeaf, node_at}
use Rattle.poptrie_build.specs.Build.{StandsIn}
use Rattle.poptrie_build.specs.Arrays.{node_arrays, leaf_arrays}
use Rattle.buddy_arena.specs.Arrays.{AreApart}
use Rattle.poptrie_build.specs.declared.node.Node.{Node}
use Rattle.poptrie_build.proofs.Counting.{need_nodes_is, total_more}
use Rattle.buddy_arena.proofs.Powers.{up_above}
use Rattle.poptrie_build.proofs.Parting.{part_at}
use Rattle.poptrie_build.proofs.Walk.{leaf_ranked, node_ranked}
use Rattle.poptrie_build.proofs.Going.{rank_le}

-- own: the places of the new node's block, `was` those of the old one's. Before slot v: `free` places are free, `gone` put aside
pub record Counts (own was : ℕ) (needs had : ℕ → ℕ) (free0 gone0 free gone v : ℕ) : Type 0 where
  pub sum : free + (own + total needs v + gone) ≡ free0 + (was + total had v + gone0)

pub counts_start : (own was : ℕ) (needs had : ℕ → ℕ) (free0 gone0 free gone : ℕ) → free + own ≡ free0 → gone ≡ gone0 + was → Counts own was needs had free0 gone0 free gone 0
unfolding total
counts_start own was needs had free0 gone0 free gone a b = record { sum = omega arith }

-- a slot's child was copied, built, shared or put aside
pub counts_next : (own was : ℕ) (needs had : ℕ → ℕ) (free0 gone0 free gone free2 gone2 v : ℕ) → Counts own was needs had free0 gone0 free gone v → free2 + (needs v + gone2) ≡ free + (had v + gone) → Counts own was needs had free0 gone0 free2 gone2 (v + 1)
counts_next own was needs had free0 gone0 free gone free2 gone2 v c e = let a = total_more needs v in let b = total_more had v in record { sum = omega (arith, c.sum) }

pub counts_end : (k d : ℕ) (f g : List Bool → ℕ) (free0 gone0 free gone : ℕ) → one_answer d f ≡ None → one_answer d g ≡ None → Counts (up (children (slots d f))) (up (children (slots d g))) (λ v. need_nodes k (d - 6) (slot d f v)) (λ v. need_nodes k (d - 6) (slot d g v)) free0 gone0 free gone 64 → free + (need_nodes (suc k) d f + gone) ≡ free0 + (need_nodes (suc k) d g + gone0)
counts_end k d f g free0 gone0 free gone a b c =
    let x : need_nodes (suc k) d f ≡ up (children (slots d f)) + total (λ v. need_nodes k (d - 6) (slot d f v)) 64 = need_nodes_is k d f a in
    let y : need_nodes (suc k) d g ≡ up (children (slots d g)) + total (λ v. need_nodes k (d - 6) (slot d g v)) 64 = need_nodes_is k d g b in
    omega (arith, c.sum, x, y)

-- what stands in some places stands in those of its own arrays
pub held_in : (k : ℕ) (nodes : List Node) (leaves : List ℕ) (N0 L0 N L : ℕ → Bool) (n : Node) (d : ℕ) (f : List Bool → ℕ) → StandsIn k nodes N0 leaves L0 n d f → AreApart N (node_arrays k nodes n) → AreApart L (leaf_arrays k nodes n) → StandsIn k nodes N leaves L n d f
unfolding StandsIn node_arrays leaf_arrays AreApart
held_in zero nodes leaves N0 L0 N L n d f s a b = absurd s
held_in (suc k) nodes leaves N0 L0 N L n d f s a b = (
  s.0,
  s.1,
  λ v l. by v l (λ j x y z. held_in k nodes leaves N0 L0 N L (node_at nodes j) (d - 6) (slot d f v) x y z) (slots d f v) refl (s.2 v l),
)
  where
    by : (v : ℕ) → v < 64 → ((j : ℕ) → StandsIn k nodes N0 leaves L0 (node_at nodes j) (d - 6) (slot d f v) → AreApart N (node_arrays k nodes (node_at nodes j)) → AreApart L (leaf_arrays k nodes (node_at nodes j)) → StandsIn k nodes N leaves L (node_at nodes j) (d - 6) (slot d f v)) → (x : Option ℕ) → slots d f v ≡ x → BySlot x ((N0 (n.base1 + rank_of n.vector (v + 1) - 1) ≡ true) × (n.base1 + rank_of n.vector (v + 1) - 1 < length nodes) × StandsIn k nodes N0 leaves L0 (node_at nodes (n.base1 + rank_of n.vector (v + 1) - 1)) (d - 6) (slot d f v)) (λ h. (L0 (n.base0 + rank_of n.leafvec (v + 1) - 1) ≡ true) × IsLeaf leaves (n.base0 + rank_of n.leafvec (v + 1) - 1) h) → BySlot x ((N (n.base1 + rank_of n.vector (v + 1) - 1) ≡ true) × (n.base1 + rank_of n.vector (v + 1) - 1 < length nodes) × StandsIn k nodes N leaves L (node_at nodes (n.base1 + rank_of n.vector (v + 1) - 1)) (d - 6) (slot d f v)) (λ h. (L (n.base0 + rank_of n.leafvec (v + 1) - 1) ≡ true) × IsLeaf leaves (n.base0 + rank_of n.leafvec (v + 1) - 1) h)
    by v l again None e t =
        let r = rank_of n.vector (v + 1) in
        let some = node_ranked n.vector v (s.1.nodes v l ∙ ap mixed e) in
        let le = rank_le n.vector (v + 1) 64 (omega arith) in
        let u = up_above (rank_of n.vector 64) in
        let same : n.base1 + (r - 1) ≡ n.base1 + r - 1 = omega arith in (
          a.0.0 (n.base1 + r - 1) (omega arith, omega arith),
          t.1,
          again (n.base1 + r - 1) t.2
              (subst (λ (j : ℕ). AreApart N (node_arrays k nodes (node_at nodes j))) same (part_at N (λ j. node_arrays k nodes (node_at nodes (n.base1 + j))) (rank_of n.vector 64) (r - 1) (omega arith) a.2))
              (subst (λ (j : ℕ). AreApart L (leaf_arrays k nodes (node_at nodes j))) same (part_at L (λ j. leaf_arrays k nodes (node_at nodes (n.base1 + j))) (rank_of n.vector 64) (r - 1) (omega arith) b.2)),
        )
    by v l again (Some h) e t =
        let some = leaf_ranked n.leafvec (slots d f) v h l s.1.leaves e in
        let le = rank_le n.leafvec (v + 1) 64 (omega arith) in
        let u = up_above (rank_of n.leafvec 64) in
        (b.0.0 (n.base0 + rank_of n.leafvec (v + 1) - 1) (omega arith, omega arith), t.1)
