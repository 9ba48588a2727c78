-- Two regions whose addresses get the same answers have the same nodes and the same need.
use Rattle.std.proofs.Common.{◌≡◌, ℕ, zero, suc, ◌+◌, ◌-◌, ◌<◌, ◌≤◌, List, [], ◌∷◌, ◌++◌, Bool, true, false, Option, Some, None, length, take, refl, sym, ap, ◌∙◌, arith, subst}
use Rattle.std.specs.Prelude.{min, ◌⊎◌}
use Rattle.std.proofs.lemmas.List.{length-append, length-take}
use Rattle.std.proofs.lemmas.Bool.{cases_lt}
use Rattle.table_model.specs.Bits.{bits_of}
use Rattle.poptrie_build.specs.Bits.{rank_of}
use Rattle.poptrie_build.specs.Strides.{slots, slot, slot_bits, total}
use Rattle.fib_addr.specs.Answers.{same_hop, one_answer}
use Rattle.table_model.specs.Sets.{side}
use Rattle.buddy_arena.specs.Powers.{up}
use Rattle.poptrie_build.specs.Need.{children, runs, if_mixed, need_nodes, need_leaves}
use Rattle.poptrie_build.specs.Stands.{Stands, BySlot, IsLeaf, node_at}
use Rattle.poptrie_build.specs.declared.node.Node.{Node}
use Rattle.path_copying.specs.Alike.{SameAnswers}
use Rattle.poptrie_build.proofs.Address.{length_bits}
use Rattle.poptrie_build.proofs.Counting.{canonical_same, children_same, runs_same}

pub one_alike : (d : ℕ) (f g : List Bool → ℕ) → SameAnswers d f g → one_answer d f ≡ one_answer d g
unfolding one_answer
one_alike zero f g h = ap Some (h [] refl)
one_alike (suc d) f g h =
    ap (λ x. same_hop x (one_answer d (side true f))) (one_alike d (side false f) (side false g) (λ a l. h (false ∷ a) (omega (arith, l))))
    ∙ ap (λ x. same_hop (one_answer d (side false g)) x) (one_alike d (side true f) (side true g) (λ a l. h (true ∷ a) (omega (arith, l))))

-- a slot of bits that a region has
pub slot_alike : (d v : ℕ) (f g : List Bool → ℕ) → SameAnswers d f g → SameAnswers (d - 6) (slot d f v) (slot d g v)
slot_alike d v f g h a l =
    h (slot_bits d v ++ a) (length-append (slot_bits d v) a ∙ (let m = length-take d (bits_of 6 v) in let n = length_bits 6 v in by (cases_lt d 6) m n))
  where
    by : (d < 6) ⊎ (6 ≤ d) → length (take d (bits_of 6 v)) ≡ min d (length (bits_of 6 v)) → length (bits_of 6 v) ≡ 6 → length (slot_bits d v) + length a ≡ d
    by c m n = omega (arith, m, n, l, c)

pub slots_alike : (d v : ℕ) (f g : List Bool → ℕ) → SameAnswers d f g → slots d f v ≡ slots d g v
slots_alike d v f g h = one_alike (d - 6) (slot d f v) (slot d g v) (slot_alike d v f g h)

total_same : (g h : ℕ → ℕ) (n : ℕ) → ((u : ℕ) → g u ≡ h u) → total g n ≡ total h n
unfolding total
total_same g h zero e = refl
total_same g h (suc n) e = let t = total_same g h n e in let s = e n in omega arith

pub need_alike : (k d : ℕ) (f g : List Bool → ℕ) → SameAnswers d f g → need_nodes k d f ≡ need_nodes k d g
unfolding need_nodes
need_alike zero d f g h = refl
need_alike (suc k) d f g h =
    let o = one_alike d f g h in
    let c : children (slots d f) ≡ children (slots d g) = children_same _ (slots d f) (slots d g) (λ v l. slots_alike d v f g h) refl in
    let t = total_same (λ v. need_nodes k (d - 6) (slot d f v)) (λ v. need_nodes k (d - 6) (slot d g v)) 64 (λ v. need_alike k (d - 6) (slot d f v) (slot d g v) (slot_alike d v f g h)) in
    ap (λ x. if_mixed x (up (children (slots d f)) + total (λ v. need_nodes k (d - 6) (slot d f v)) 64)) o
    ∙ (ap (λ n. if_mixed (one_answer d g) (up n + total (λ v. need_nodes k (d - 6) (slot d f v)) 64)) c
    ∙ ap (λ n. if_mixed (one_answer d g) (up (children (slots d g)) + n)) t)

pub need_leaves_alike : (k d : ℕ) (f g : List Bool → ℕ) → SameAnswers d f g → need_leaves k d f ≡ need_leaves k d g
unfolding need_leaves
need_leaves_alike zero d f g h = refl
need_leaves_alike (suc k) d f g h =
    let o = one_alike d f g h in
    let c : runs (slots d f) ≡ runs (slots d g) = runs_same _ (slots d f) (slots d g) (λ v l. slots_alike d v f g h) refl in
    let t = total_same (λ v. need_leaves k (d - 6) (slot d f v)) (λ v. need_leaves k (d - 6) (slot d g v)) 64 (λ v. need_leaves_alike k (d - 6) (slot d f v) (slot d g v) (slot_alike d v f g h)) in
    ap (λ x. if_mixed x (up (runs (slots d f)) + total (λ v. need_leaves k (d - 6) (slot d f v)) 64)) o
    ∙ (ap (λ n. if_mixed (one_answer d g) (up n + total (λ v. need_leaves k (d - 6) (slot d f v)) 64)) c
    ∙ ap (λ n. if_mixed (one_answer d g) (up (runs (slots d g)) + n)) t)

-- a node that stands for the one stands for the other: what is unchanged is shared
pub stands_alike : (k : ℕ) (nodes : List Node) (leaves : List ℕ) (i d : ℕ) (f g : List Bool → ℕ) → SameAnswers d f g → Stands k nodes leaves i d f → Stands k nodes leaves i d g
unfolding Stands
stands_alike zero nodes leaves i d f g h s = absurd s
stands_alike (suc k) nodes leaves i d f g h s = (
  s.0,
  sym (one_alike d f g h) ∙ s.1,
  canonical_same _ _ (slots d f) (slots d g) (λ v l. slots_alike d v f g h) s.2,
  λ v l. by v (λ t. stands_alike k nodes leaves _ (d - 6) (slot d f v) (slot d g v) (slot_alike d v f g h) t) (slots d f v) (slots d g v) (slots_alike d v f g h) (s.3 v l),
)
  where
    by : (v : ℕ) → (Stands k nodes leaves ((node_at nodes i).base1 + rank_of (node_at nodes i).vector (v + 1) - 1) (d - 6) (slot d f v) → Stands k nodes leaves ((node_at nodes i).base1 + rank_of (node_at nodes i).vector (v + 1) - 1) (d - 6) (slot d g v)) → (x y : Option ℕ) → x ≡ y → BySlot x (Stands k nodes leaves ((node_at nodes i).base1 + rank_of (node_at nodes i).vector (v + 1) - 1) (d - 6) (slot d f v)) (IsLeaf leaves ((node_at nodes i).base0 + rank_of (node_at nodes i).leafvec (v + 1) - 1)) → BySlot y (Stands k nodes leaves ((node_at nodes i).base1 + rank_of (node_at nodes i).vector (v + 1) - 1) (d - 6) (slot d g v)) (IsLeaf leaves ((node_at nodes i).base0 + rank_of (node_at nodes i).leafvec (v + 1) - 1))
    by v again None None e t = again t
    by v again None (Some j) e t = cc
    by v again (Some h) None e t = cc
    by v again (Some h) (Some j) e t = subst (λ (x : Option ℕ). BySlot x (Stands k nodes leaves ((node_at nodes i).base1 + rank_of (node_at nodes i).vector (v + 1) - 1) (d - 6) (slot d g v)) (IsLeaf leaves ((node_at nodes i).base0 + rank_of (node_at nodes i).leafvec (v + 1) - 1))) e t
