-- How many regions are visited.
use Rattle.std.proofs.Common.{◌≡◌, ℕ, ◌+◌, ◌*◌, ◌≤◌, List, [], ◌∷◌, length, Bool, true, false, arith}
use Rattle.orig_tree.specs.Within.{nodes_in}
use Rattle.orig_tree.proofs.Counting.{all_in}

-- a node's region, and those of its halves
pub visited : (N A B : List (List Bool)) (s0 s1 s2 s3 : ℕ) → length N ≡ 1 + (nodes_in (false ∷ []) N + nodes_in (true ∷ []) N) → ((p : List Bool) → nodes_in p A ≡ nodes_in (false ∷ p) N) → ((p : List Bool) → nodes_in p B ≡ nodes_in (true ∷ p) N) →
    s1 ≤ s0 + 1 → s2 ≤ s1 + 1 + 2 * length A → s3 ≤ s2 + 1 + 2 * length B → s3 ≤ s0 + 1 + 2 * length N
visited N A B s0 s1 s2 s3 n a b t l h = omega (arith, n, a [], b [], all_in A, all_in B, t, l, h)

-- and its lower half's alone
pub visited_low : (N A : List (List Bool)) (s0 s1 s2 : ℕ) → length N ≡ 1 + (nodes_in (false ∷ []) N + nodes_in (true ∷ []) N) → ((p : List Bool) → nodes_in p A ≡ nodes_in (false ∷ p) N) → s1 ≤ s0 + 1 → s2 ≤ s1 + 1 + 2 * length A → s2 ≤ s0 + 1 + 2 * length N
visited_low N A s0 s1 s2 n a t l = omega (arith, n, a [], all_in A, t, l)
