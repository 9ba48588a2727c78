-- A node and its arrays over more strides, or fewer.
use Rattle.std.proofs.Common.{◌≡◌, ℕ, zero, suc, ◌+◌, ◌-◌, ◌*◌, ◌^◌, ◌<◌, ◌≤◌, List, [], ◌∷◌, Bool, true, false, Option, Some, None, length, refl, ap, arith}
use Rattle.std.specs.Prelude.{nat_lt, cond}
use Rattle.buddy_arena.specs.Arrays.{Array, AreApart}
use Rattle.fib_addr.specs.Answers.{one_answer}
use Rattle.table_model.specs.Sets.{side}
use Rattle.poptrie_build.specs.Bits.{rank_of}
use Rattle.buddy_arena.specs.Powers.{up}
use Rattle.poptrie_build.specs.Strides.{slots, slot}
use Rattle.poptrie_build.specs.Need.{children, runs, if_mixed, need_nodes, need_leaves, trie_nodes, trie_leaves}
use Rattle.poptrie_build.specs.Stands.{BySlot, IsLeaf, node_at}
use Rattle.poptrie_build.specs.Build.{StandsIn, WordIn}
use Rattle.poptrie_build.specs.Arrays.{gather, node_arrays, leaf_arrays, word_arrays, word_leaf_arrays}
use Rattle.poptrie_build.specs.declared.node.Node.{Node}
use Rattle.path_copying.proofs.Excepting.{total_same}
use Rattle.path_copying.proofs.Like.{Like, like_is, like_then, like_under, like_behind}

-- ---- what stands over k strides stands over more
pub stands_deeper : (k j : ℕ) (nodes : List Node) (N : ℕ → Bool) (leaves : List ℕ) (L : ℕ → Bool) (n : Node) (d : ℕ) (f : List Bool → ℕ) → k ≤ j → StandsIn k nodes N leaves L n d f → StandsIn j nodes N leaves L n d f
unfolding StandsIn
stands_deeper zero j nodes N leaves L n d f l s = absurd s
stands_deeper (suc k) zero nodes N leaves L n d f l s = absurd (omega (arith, l))
stands_deeper (suc k) (suc j) nodes N leaves L n d f l s = (
  s.0,
  s.1,
  λ v low. by v (slots d f v) (λ m t. stands_deeper k j nodes N leaves L m (d - 6) (slot d f v) (omega (arith, l)) t) (s.2 v low),
)
  where
    by : (v : ℕ) (x : Option ℕ) → ((m : Node) → StandsIn k nodes N leaves L m (d - 6) (slot d f v) → StandsIn j nodes N leaves L m (d - 6) (slot d f v)) → BySlot x ((N (n.base1 + rank_of n.vector (v + 1) - 1) ≡ true) × (n.base1 + rank_of n.vector (v + 1) - 1 < length nodes) × StandsIn k nodes N leaves L (node_at nodes (n.base1 + rank_of n.vector (v + 1) - 1)) (d - 6) (slot d f v)) (λ h. (L (n.base0 + rank_of n.leafvec (v + 1) - 1) ≡ true) × IsLeaf leaves (n.base0 + rank_of n.leafvec (v + 1) - 1) h) → BySlot x ((N (n.base1 + rank_of n.vector (v + 1) - 1) ≡ true) × (n.base1 + rank_of n.vector (v + 1) - 1 < length nodes) × StandsIn j nodes N leaves L (node_at nodes (n.base1 + rank_of n.vector (v + 1) - 1)) (d - 6) (slot d f v)) (λ h. (L (n.base0 + rank_of n.leafvec (v + 1) - 1) ≡ true) × IsLeaf leaves (n.base0 + rank_of n.leafvec (v + 1) - 1) h)
    by v None again t = (t.0, t.1, again (node_at nodes (n.base1 + rank_of n.vector (v + 1) - 1)) t.2)
    by v (Some h) again t = t

-- ---- the needs are the same
module _ (d : ℕ) where
  pub nodes_deeper : (k j e : ℕ) (f : List Bool → ℕ) → e ≤ 6 * k → k ≤ j → need_nodes k e f ≡ need_nodes j e f
  unfolding need_nodes one_answer
  nodes_deeper zero zero e f l m = refl
  nodes_deeper zero (suc j) zero f l m = refl
  nodes_deeper zero (suc j) (suc e) f l m = absurd (omega (arith, l))
  nodes_deeper (suc k) zero e f l m = absurd (omega (arith, m))
  nodes_deeper (suc k) (suc j) e f l m = ap (λ n. if_mixed (one_answer e f) (up (children (slots e f)) + n)) (total_same (λ v. need_nodes k (e - 6) (slot e f v)) (λ v. need_nodes j (e - 6) (slot e f v)) 64 (λ v low. nodes_deeper k j (e - 6) (slot e f v) (omega (arith, l)) (omega (arith, m))))

  pub leaves_deeper : (k j e : ℕ) (f : List Bool → ℕ) → e ≤ 6 * k → k ≤ j → need_leaves k e f ≡ need_leaves j e f
  unfolding need_leaves one_answer
  leaves_deeper zero zero e f l m = refl
  leaves_deeper zero (suc j) zero f l m = refl
  leaves_deeper zero (suc j) (suc e) f l m = absurd (omega (arith, l))
  leaves_deeper (suc k) zero e f l m = absurd (omega (arith, m))
  leaves_deeper (suc k) (suc j) e f l m = ap (λ n. if_mixed (one_answer e f) (up (runs (slots e f)) + n)) (total_same (λ v. need_leaves k (e - 6) (slot e f v)) (λ v. need_leaves j (e - 6) (slot e f v)) 64 (λ v low. leaves_deeper k j (e - 6) (slot e f v) (omega (arith, l)) (omega (arith, m))))

-- ---- fewer strides list fewer arrays
gather_like : (g h : ℕ → List Array) (n : ℕ) → ((i : ℕ) → i < n → Like (g i) (h i)) → Like (gather g n) (gather h n)
unfolding gather
gather_like g h zero l = like_is [] [] refl
gather_like g h (suc n) l = like_then _ _ _ (like_behind (g n) (gather g n) (gather h n) (gather_like g h n (λ i m. l i (omega (arith, m))))) (like_under (gather h n) (g n) (h n) (l n (omega arith)))

like_none : (xs : List Array) → Like xs []
unfolding AreApart
like_none xs = record { all = λ a h. tt; apart = λ N h. tt }

pub nodes_fewer : (k j : ℕ) (nodes : List Node) (n : Node) → j ≤ k → Like (node_arrays k nodes n) (node_arrays j nodes n)
unfolding node_arrays
nodes_fewer k zero nodes n l = like_none (node_arrays k nodes n)
nodes_fewer zero (suc j) nodes n l = absurd (omega (arith, l))
nodes_fewer (suc k) (suc j) nodes n l = like_under ((n.base1, up (rank_of n.vector 64)) ∷ []) _ _ (gather_like (λ i. node_arrays k nodes (node_at nodes (n.base1 + i))) (λ i. node_arrays j nodes (node_at nodes (n.base1 + i))) (rank_of n.vector 64) (λ i m. nodes_fewer k j nodes (node_at nodes (n.base1 + i)) (omega (arith, l))))

pub leaves_fewer : (k j : ℕ) (nodes : List Node) (n : Node) → j ≤ k → Like (leaf_arrays k nodes n) (leaf_arrays j nodes n)
unfolding leaf_arrays
leaves_fewer k zero nodes n l = like_none (leaf_arrays k nodes n)
leaves_fewer zero (suc j) nodes n l = absurd (omega (arith, l))
leaves_fewer (suc k) (suc j) nodes n l = like_under ((n.base0, up (rank_of n.leafvec 64)) ∷ []) _ _ (gather_like (λ i. leaf_arrays k nodes (node_at nodes (n.base1 + i))) (λ i. leaf_arrays j nodes (node_at nodes (n.base1 + i))) (rank_of n.vector 64) (λ i m. leaves_fewer k j nodes (node_at nodes (n.base1 + i)) (omega (arith, l))))

pub words_fewer : (k j : ℕ) (nodes : List Node) (words : List ℕ) → j ≤ k → Like (word_arrays k nodes words) (word_arrays j nodes words)
unfolding word_arrays
words_fewer k j nodes [] l = like_is [] [] refl
words_fewer k j nodes (w ∷ words) l = like_then _ _ _ (like_behind (word_arrays k nodes words) _ _ (by (nat_lt w 2147483648))) (like_under (cond (nat_lt w 2147483648) ((w, 1) ∷ node_arrays j nodes (node_at nodes w)) []) _ _ (words_fewer k j nodes words l))
  where
    by : (b : Bool) → Like (cond b ((w, 1) ∷ node_arrays k nodes (node_at nodes w)) []) (cond b ((w, 1) ∷ node_arrays j nodes (node_at nodes w)) [])
    by true = like_under ((w, 1) ∷ []) (node_arrays k nodes (node_at nodes w)) (node_arrays j nodes (node_at nodes w)) (nodes_fewer k j nodes (node_at nodes w) l)
    by false = like_is [] [] refl

pub word_leaves_fewer : (k j : ℕ) (nodes : List Node) (words : List ℕ) → j ≤ k → Like (word_leaf_arrays k nodes words) (word_leaf_arrays j nodes words)
unfolding word_leaf_arrays
word_leaves_fewer k j nodes [] l = like_is [] [] refl
word_leaves_fewer k j nodes (w ∷ words) l = like_then _ _ _ (like_behind (word_leaf_arrays k nodes words) _ _ (by (nat_lt w 2147483648))) (like_under (cond (nat_lt w 2147483648) (leaf_arrays j nodes (node_at nodes w)) []) _ _ (word_leaves_fewer k j nodes words l))
  where
    by : (b : Bool) → Like (cond b (leaf_arrays k nodes (node_at nodes w)) []) (cond b (leaf_arrays j nodes (node_at nodes w)) [])
    by true = leaves_fewer k j nodes (node_at nodes w) l
    by false = like_is [] [] refl

-- ---- direct words
pub word_deeper : (k j : ℕ) (nodes : List Node) (N : ℕ → Bool) (leaves : List ℕ) (L : ℕ → Bool) (w d : ℕ) (f : List Bool → ℕ) → k ≤ j → WordIn w k nodes N leaves L d f → WordIn w j nodes N leaves L d f
word_deeper k j nodes N leaves L w d f l s = by (one_answer d f) s
  where
    by : (x : Option ℕ) → BySlot x ((w < 2 ^ 31) × (N w ≡ true) × (w < length nodes) × StandsIn k nodes N leaves L (node_at nodes w) d f) (λ h. (h < 2 ^ 16) × (w ≡ 2 ^ 31 + h)) → BySlot x ((w < 2 ^ 31) × (N w ≡ true) × (w < length nodes) × StandsIn j nodes N leaves L (node_at nodes w) d f) (λ h. (h < 2 ^ 16) × (w ≡ 2 ^ 31 + h))
    by None t = (t.0, t.1, t.2, stands_deeper k j nodes N leaves L (node_at nodes w) d f l t.3)
    by (Some h) t = t

pub trie_nodes_deeper : (s k j d : ℕ) (f : List Bool → ℕ) → d ≤ 6 * k → k ≤ j → trie_nodes s k d f ≡ trie_nodes s j d f
unfolding trie_nodes
trie_nodes_deeper zero k j d f a b = (let e = nodes_deeper d k j d f a b in omega (arith, e))
trie_nodes_deeper (suc s) k j d f a b = (let e = trie_nodes_deeper s k j d (side false f) a b in let h = trie_nodes_deeper s k j d (side true f) a b in omega (arith, e, h))

pub trie_leaves_deeper : (s k j d : ℕ) (f : List Bool → ℕ) → d ≤ 6 * k → k ≤ j → trie_leaves s k d f ≡ trie_leaves s j d f
unfolding trie_leaves
trie_leaves_deeper zero k j d f a b = leaves_deeper d k j d f a b
trie_leaves_deeper (suc s) k j d f a b = (let e = trie_leaves_deeper s k j d (side false f) a b in let h = trie_leaves_deeper s k j d (side true f) a b in omega (arith, e, h))
