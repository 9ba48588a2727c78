-- What stands, stands in the places of its own arrays.
use Rattle.std.proofs.Common.{◌≡◌, ℕ, zero, suc, ◌+◌, ◌-◌, ◌^◌, ◌<◌, List, [], ◌∷◌, Bool, true, cond, Option, Some, None, length, get_or, refl, ap, ◌∙◌, arith, subst}
use Rattle.std.specs.Prelude.{nat_lt}
use Rattle.table_model.specs.Bits.{bits_of}
use Rattle.poptrie_build.specs.Bits.{rank_of}
use Rattle.poptrie_build.specs.Strides.{slots, slot, mixed}
use Rattle.fib_addr.specs.Answers.{part, one_answer}
use Rattle.poptrie_build.specs.Stands.{Stands, BySlot, TrieStands, IsLeaf, node_at}
use Rattle.poptrie_build.specs.Build.{StandsIn, WordsIn}
use Rattle.poptrie_build.specs.Arrays.{node_arrays, leaf_arrays, word_arrays, word_leaf_arrays}
use Rattle.buddy_arena.specs.Arrays.{AreApart}
use Rattle.poptrie_build.specs.declared.node.Node.{Node}
use Rattle.buddy_arena.proofs.Powers.{up_above}
use Rattle.poptrie_build.proofs.Parting.{part_at}
use Rattle.buddy_arena.proofs.Parting.{part_left, part_right}
use Rattle.poptrie_build.proofs.Walk.{leaf_ranked, node_ranked, stands_within}
use Rattle.poptrie_build.proofs.Going.{rank_le}
use Rattle.std.proofs.lemmas.Bool.Decides.{nat_tests}

pub held : (k : ℕ) (nodes : List Node) (leaves : List ℕ) (N L : ℕ → Bool) (i d : ℕ) (f : List Bool → ℕ) → Stands k nodes leaves i d f → AreApart N (node_arrays k nodes (node_at nodes i)) → AreApart L (leaf_arrays k nodes (node_at nodes i)) → StandsIn k nodes N leaves L (node_at nodes i) d f
unfolding Stands StandsIn node_arrays leaf_arrays AreApart
held zero nodes leaves N L i d f s a b = absurd s
held (suc k) nodes leaves N L i d f s a b = (
  s.1,
  s.2,
  λ v l. by v l (λ j x y. held k nodes leaves N L j (d - 6) (slot d f v) x y) (slots d f v) refl (s.3 v l),
)
  where
    by : (v : ℕ) → v < 64 → ((j : ℕ) → Stands k nodes leaves j (d - 6) (slot d f v) → AreApart N (node_arrays k nodes (node_at nodes j)) → AreApart L (leaf_arrays k nodes (node_at nodes j)) → StandsIn k nodes N leaves L (node_at nodes j) (d - 6) (slot d f v)) → (x : Option ℕ) → slots d f v ≡ x → BySlot x (Stands k nodes leaves ((node_at nodes i).base1 + rank_of (node_at nodes i).vector (v + 1) - 1) (d - 6) (slot d f v)) (IsLeaf leaves ((node_at nodes i).base0 + rank_of (node_at nodes i).leafvec (v + 1) - 1)) → BySlot x ((N ((node_at nodes i).base1 + rank_of (node_at nodes i).vector (v + 1) - 1) ≡ true) × ((node_at nodes i).base1 + rank_of (node_at nodes i).vector (v + 1) - 1 < length nodes) × StandsIn k nodes N leaves L (node_at nodes ((node_at nodes i).base1 + rank_of (node_at nodes i).vector (v + 1) - 1)) (d - 6) (slot d f v)) (λ h. (L ((node_at nodes i).base0 + rank_of (node_at nodes i).leafvec (v + 1) - 1) ≡ true) × IsLeaf leaves ((node_at nodes i).base0 + rank_of (node_at nodes i).leafvec (v + 1) - 1) h)
    by v l again None e t =
        let n = node_at nodes i in
        let r = rank_of n.vector (v + 1) in
        let some = node_ranked n.vector v (s.2.nodes v l ∙ ap mixed e) in
        let le = rank_le n.vector (v + 1) 64 (omega arith) in
        let u = up_above (rank_of n.vector 64) in
        let same : n.base1 + (r - 1) ≡ n.base1 + r - 1 = omega arith in (
          a.0.0 (n.base1 + r - 1) (omega arith, omega arith),
          stands_within k nodes leaves (n.base1 + r - 1) (d - 6) (slot d f v) t,
          again (n.base1 + r - 1) t
              (subst (λ (j : ℕ). AreApart N (node_arrays k nodes (node_at nodes j))) same (part_at N (λ j. node_arrays k nodes (node_at nodes (n.base1 + j))) (rank_of n.vector 64) (r - 1) (omega arith) a.2))
              (subst (λ (j : ℕ). AreApart L (leaf_arrays k nodes (node_at nodes j))) same (part_at L (λ j. leaf_arrays k nodes (node_at nodes (n.base1 + j))) (rank_of n.vector 64) (r - 1) (omega arith) b.2)),
        )
    by v l again (Some h) e t =
        let n = node_at nodes i in
        let some = leaf_ranked n.leafvec (slots d f) v h l s.2.leaves e in
        let le = rank_le n.leafvec (v + 1) 64 (omega arith) in
        let u = up_above (rank_of n.leafvec 64) in
        (b.0.0 (n.base0 + rank_of n.leafvec (v + 1) - 1) (omega arith, omega arith), t)

-- ---- of a direct word
lt_yes : (w : ℕ) → w < 2 ^ 31 → nat_lt w 2147483648 ≡ true
lt_yes w h = grind (arith, nat_tests)

module _ (N : ℕ → Bool) (k : ℕ) (nodes : List Node) where
  pub word_nodes : (words : List ℕ) (v : ℕ) → v < length words → get_or words v 0 < 2 ^ 31 → AreApart N (word_arrays k nodes words) → AreApart N ((get_or words v 0, 1) ∷ node_arrays k nodes (node_at nodes (get_or words v 0)))
  unfolding word_arrays
  word_nodes [] v l s a = absurd (omega arith)
  word_nodes (w ∷ words) zero l s a = subst (λ (b : Bool). AreApart N (cond b ((w, 1) ∷ node_arrays k nodes (node_at nodes w)) [])) (lt_yes w s) (part_left N (cond (nat_lt w 2147483648) ((w, 1) ∷ node_arrays k nodes (node_at nodes w)) []) (word_arrays k nodes words) a)
  word_nodes (w ∷ words) (suc v) l s a = word_nodes words v (omega arith) s (part_right N (cond (nat_lt w 2147483648) ((w, 1) ∷ node_arrays k nodes (node_at nodes w)) []) (word_arrays k nodes words) a)

  pub word_leaves : (words : List ℕ) (v : ℕ) → v < length words → get_or words v 0 < 2 ^ 31 → AreApart N (word_leaf_arrays k nodes words) → AreApart N (leaf_arrays k nodes (node_at nodes (get_or words v 0)))
  unfolding word_leaf_arrays
  word_leaves [] v l s a = absurd (omega arith)
  word_leaves (w ∷ words) zero l s a = subst (λ (b : Bool). AreApart N (cond b (leaf_arrays k nodes (node_at nodes w)) [])) (lt_yes w s) (part_left N (cond (nat_lt w 2147483648) (leaf_arrays k nodes (node_at nodes w)) []) (word_leaf_arrays k nodes words) a)
  word_leaves (w ∷ words) (suc v) l s a = word_leaves words v (omega arith) s (part_right N (cond (nat_lt w 2147483648) (leaf_arrays k nodes (node_at nodes w)) []) (word_leaf_arrays k nodes words) a)

pub words_held : (s k : ℕ) (words : List ℕ) (nodes : List Node) (leaves : List ℕ) (N L : ℕ → Bool) (d : ℕ) (f : List Bool → ℕ) → TrieStands s words k nodes leaves d f → AreApart N (word_arrays k nodes words) → AreApart L (word_leaf_arrays k nodes words) → WordsIn s words k nodes N leaves L d f
unfolding AreApart
words_held s k words nodes leaves N L d f t a b v l = by (one_answer d (part (bits_of s v) f)) (t.each v l)
  where
    by : (x : Option ℕ) → BySlot x ((get_or words v 0 < 2 ^ 31) × Stands k nodes leaves (get_or words v 0) d (part (bits_of s v) f)) (λ h. (h < 2 ^ 16) × (get_or words v 0 ≡ 2 ^ 31 + h)) → BySlot x ((get_or words v 0 < 2 ^ 31) × (N (get_or words v 0) ≡ true) × (get_or words v 0 < length nodes) × StandsIn k nodes N leaves L (node_at nodes (get_or words v 0)) d (part (bits_of s v) f)) (λ h. (h < 2 ^ 16) × (get_or words v 0 ≡ 2 ^ 31 + h))
    by None (small, st) =
        let n = word_nodes N k nodes words v (omega (arith, l, t.words)) small a in
        let m = word_leaves L k nodes words v (omega (arith, l, t.words)) small b in (
          small,
          n.0.0 (get_or words v 0) (omega arith, omega arith),
          stands_within k nodes leaves (get_or words v 0) d (part (bits_of s v) f) st,
          held k nodes leaves N L (get_or words v 0) d (part (bits_of s v) f) st n.2 m,
        )
    by (Some h) w = w
