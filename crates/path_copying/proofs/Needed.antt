-- The blocks below a node that stands have as many places as its region needs.
use Rattle.std.proofs.Common.{◌≡◌, ℕ, zero, suc, ◌+◌, ◌-◌, ◌<◌, ◌≤◌, List, Bool, Option, Some, None, refl, sym, ap, ◌∙◌, arith}
use Rattle.std.specs.Int.{bit_at}
use Rattle.poptrie_build.specs.Bits.{rank_of}
use Rattle.poptrie_build.specs.Strides.{slots, slot, mixed, run_start, total}
use Rattle.buddy_arena.specs.Powers.{up}
use Rattle.poptrie_build.specs.Need.{children, runs, need_nodes, need_leaves}
use Rattle.poptrie_build.specs.Stands.{Stands, BySlot, IsLeaf, IsCanonical, node_at}
use Rattle.buddy_arena.specs.Arrays.{Array, places_of}
use Rattle.poptrie_build.specs.Arrays.{gather, node_arrays, leaf_arrays}
use Rattle.poptrie_build.specs.declared.node.Node.{Node}
use Rattle.poptrie_build.proofs.Counting.{need_nodes_is, need_leaves_is, no_nodes, no_leaves}
use Rattle.poptrie_build.proofs.So_far.{rank_total}
use Rattle.poptrie_build.proofs.Walk.{rank_more, node_ranked}
use Rattle.buddy_arena.proofs.Sets.{places_append}

-- over the slots below v: what each slot needs, and the arrays of the children so far
module _ (k : ℕ) (nodes : List Node) (leaves : List ℕ) (n : Node) (d : ℕ) (f : List Bool → ℕ) (need : ℕ → ℕ) (arrays : ℕ → List Array) (can : IsCanonical n.vector n.leafvec (slots d f)) where
  module _ (none : (v h : ℕ) → slots d f v ≡ Some h → need v ≡ 0) (some : (v : ℕ) → v < 64 → slots d f v ≡ None → Stands k nodes leaves (n.base1 + rank_of n.vector (v + 1) - 1) (d - 6) (slot d f v) → places_of (arrays (rank_of n.vector (v + 1) - 1)) ≡ need v)
      (stands : (v : ℕ) → v < 64 → BySlot (slots d f v) (Stands k nodes leaves (n.base1 + rank_of n.vector (v + 1) - 1) (d - 6) (slot d f v)) (IsLeaf leaves (n.base0 + rank_of n.leafvec (v + 1) - 1))) where
    pub kids_need : (v : ℕ) → v ≤ 64 → places_of (gather arrays (rank_of n.vector v)) ≡ total need v
    unfolding gather rank_of total
    kids_need zero l = refl
    kids_need (suc v) l = by (slots d f v) refl (stands v (omega arith)) (kids_need v (omega arith))
      where
        by : (x : Option ℕ) → slots d f v ≡ x → BySlot x (Stands k nodes leaves (n.base1 + rank_of n.vector (v + 1) - 1) (d - 6) (slot d f v)) (IsLeaf leaves (n.base0 + rank_of n.leafvec (v + 1) - 1)) → places_of (gather arrays (rank_of n.vector v)) ≡ total need v → places_of (gather arrays (bit_at n.vector v + rank_of n.vector v)) ≡ total need v + need v
        by None e s before =
            let b : bit_at n.vector v ≡ 1 = can.nodes v (omega arith) ∙ ap mixed e in
            let m = rank_more n.vector v in
            let r : bit_at n.vector v + rank_of n.vector v ≡ suc (rank_of n.vector v) = omega arith in
            let q : rank_of n.vector (v + 1) - 1 ≡ rank_of n.vector v = omega arith in
            let own : places_of (arrays (rank_of n.vector v)) ≡ need v = ap (λ j. places_of (arrays j)) (sym q) ∙ some v (omega arith) e s in
            ap (λ j. places_of (gather arrays j)) r ∙ (places_append (gather arrays (rank_of n.vector v)) (arrays (rank_of n.vector v)) ∙ omega (arith, own, before))
        by (Some h) e s before =
            let b : bit_at n.vector v ≡ 0 = can.nodes v (omega arith) ∙ ap mixed e in
            let r : bit_at n.vector v + rank_of n.vector v ≡ rank_of n.vector v = omega arith in
            let z = none v h e in
            ap (λ j. places_of (gather arrays j)) r ∙ omega (arith, before, z)

pub arrays_need : (k : ℕ) (nodes : List Node) (leaves : List ℕ) (i d : ℕ) (f : List Bool → ℕ) → Stands k nodes leaves i d f → places_of (node_arrays k nodes (node_at nodes i)) ≡ need_nodes k d f
unfolding Stands node_arrays
arrays_need zero nodes leaves i d f s = absurd s
arrays_need (suc k) nodes leaves i d f s =
    let n = node_at nodes i in
    let c : rank_of n.vector 64 ≡ children (slots d f) = rank_total n.vector 64 (λ v. mixed (slots d f v)) s.2.nodes in
    let kids : places_of (gather (λ j. node_arrays k nodes (node_at nodes (n.base1 + j))) (rank_of n.vector 64)) ≡ total (λ v. need_nodes k (d - 6) (slot d f v)) 64 =
    kids_need k nodes leaves n d f (λ v. need_nodes k (d - 6) (slot d f v)) (λ j. node_arrays k nodes (node_at nodes (n.base1 + j))) s.2
    (λ v h e. no_nodes k (d - 6) h (slot d f v) e)
    (λ v l e t.
    let some = node_ranked n.vector v (s.2.nodes v l ∙ ap mixed e) in
    let same : n.base1 + (rank_of n.vector (v + 1) - 1) ≡ n.base1 + rank_of n.vector (v + 1) - 1 = omega arith in
    ap (λ j. places_of (node_arrays k nodes (node_at nodes j))) same ∙ arrays_need k nodes leaves (n.base1 + rank_of n.vector (v + 1) - 1) (d - 6) (slot d f v) t)
    s.3 64 (omega arith) in
    let u : up (rank_of n.vector 64) ≡ up (children (slots d f)) = ap up c in
    let e : up (rank_of n.vector 64) + places_of (gather (λ j. node_arrays k nodes (node_at nodes (n.base1 + j))) (rank_of n.vector 64)) ≡ up (children (slots d f)) + total (λ v. need_nodes k (d - 6) (slot d f v)) 64 = omega (arith, u, kids) in
    e ∙ sym (need_nodes_is k d f s.1)

pub leaf_arrays_need : (k : ℕ) (nodes : List Node) (leaves : List ℕ) (i d : ℕ) (f : List Bool → ℕ) → Stands k nodes leaves i d f → places_of (leaf_arrays k nodes (node_at nodes i)) ≡ need_leaves k d f
unfolding Stands leaf_arrays
leaf_arrays_need zero nodes leaves i d f s = absurd s
leaf_arrays_need (suc k) nodes leaves i d f s =
    let n = node_at nodes i in
    let c : rank_of n.leafvec 64 ≡ runs (slots d f) = rank_total n.leafvec 64 (run_start (slots d f)) s.2.leaves in
    let kids : places_of (gather (λ j. leaf_arrays k nodes (node_at nodes (n.base1 + j))) (rank_of n.vector 64)) ≡ total (λ v. need_leaves k (d - 6) (slot d f v)) 64 =
    kids_need k nodes leaves n d f (λ v. need_leaves k (d - 6) (slot d f v)) (λ j. leaf_arrays k nodes (node_at nodes (n.base1 + j))) s.2
    (λ v h e. no_leaves k (d - 6) h (slot d f v) e)
    (λ v l e t.
    let some = node_ranked n.vector v (s.2.nodes v l ∙ ap mixed e) in
    let same : n.base1 + (rank_of n.vector (v + 1) - 1) ≡ n.base1 + rank_of n.vector (v + 1) - 1 = omega arith in
    ap (λ j. places_of (leaf_arrays k nodes (node_at nodes j))) same ∙ leaf_arrays_need k nodes leaves (n.base1 + rank_of n.vector (v + 1) - 1) (d - 6) (slot d f v) t)
    s.3 64 (omega arith) in
    let u : up (rank_of n.leafvec 64) ≡ up (runs (slots d f)) = ap up c in
    let e : up (rank_of n.leafvec 64) + places_of (gather (λ j. leaf_arrays k nodes (node_at nodes (n.base1 + j))) (rank_of n.vector 64)) ≡ up (runs (slots d f)) + total (λ v. need_leaves k (d - 6) (slot d f v)) 64 = omega (arith, u, kids) in
    e ∙ sym (need_leaves_is k d f s.1)
