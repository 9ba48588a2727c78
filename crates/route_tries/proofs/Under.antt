-- A change within a prefix changes only what is needed on the way to it and within it.
use Rattle.std.proofs.Common.{◌≡◌, ℕ, zero, suc, ◌+◌, ◌-◌, ◌*◌, ◌≤◌, ◌<◌, List, [], ◌∷◌, Bool, true, false, length, take, drop, refl, sym, ap, ◌∙◌, arith}
use Rattle.std.specs.Prelude.{◌&&◌, min}
use Rattle.std.proofs.Math.Seq.{take-length}
use Rattle.table_model.specs.Bits.{bits_of, begins}
use Rattle.table_model.specs.Width.{width}
use Rattle.table_model.specs.Address.{Prefix, same_family}
use Rattle.table_model.specs.declared.family.Family.{Family}
use Rattle.table_model.specs.declared.family.Family.TheVariants.{V4, V6}
use Rattle.table_model.specs.Entries.{Entries}
use Rattle.fib_addr.specs.Answers.{part, all_answers, one_answer}
use Rattle.table_model.specs.Sets.{side}
use Rattle.poptrie_build.specs.Strides.{strides, mixed}
use Rattle.poptrie_build.specs.Need.{need_in_u64, trie_nodes, trie_leaves}
use Rattle.poptrie_build.specs.Tries.{rest, node_need, leaf_need}
use Rattle.poptrie_build.specs.declared.counts.Needs.{Needs}
use Rattle.poptrie_build.proofs.Filled.{strides_do, wide_enough}
use Rattle.route_tries.specs.Sizes.{told_need}
use Rattle.route_tries.specs.Parts.{AreAlikeOutside, AreMoved, deep_nodes, deep_leaves, trie_way_nodes, trie_way_leaves, nodes_on_way, leaves_on_way, need_at}
use Rattle.route_tries.proofs.Meeting.{bits_drop}
use Rattle.route_tries.proofs.Ways.{same_function, AlikeElse}
use Rattle.route_tries.proofs.Lasting.{whole_deep_nodes, whole_deep_leaves, deep_nodes_moved, deep_leaves_moved}

-- A need T of so many more direct bits, and the need V on the way to a path: the sum of both halves', or of those that meet the path.
module _ (T : ℕ → (List Bool → ℕ) → ℕ) (V : ℕ → (List Bool → ℕ) → List Bool → ℕ) (sum : (s : ℕ) (f : List Bool → ℕ) → T (suc s) f ≡ T s (side false f) + T s (side true f)) (both : (s : ℕ) (f : List Bool → ℕ) → V (suc s) f [] ≡ V s (side false f) [] + V s (side true f) []) (one : (s : ℕ) (f : List Bool → ℕ) (b : Bool) (p : List Bool) → V (suc s) f (b ∷ p) ≡ V s (side b f) p) where
  pub moved : ((f g : List Bool → ℕ) (p : List Bool) → AlikeElse p f g → AreMoved (T 0 f) (T 0 g) (V 0 f p) (V 0 g p)) → (s : ℕ) (f g : List Bool → ℕ) (p : List Bool) → AlikeElse p f g → AreMoved (T s f) (T s g) (V s f p) (V s g p)
  moved at zero f g p h = at f g p h
  moved at (suc s) f g [] h =
      let low = moved at s (side false f) (side false g) [] (λ a e. h (false ∷ a) e) in
      let high = moved at s (side true f) (side true g) [] (λ a e. h (true ∷ a) e) in
      record { few = omega (arith, low.few, high.few, sum s f, both s f); same = omega (arith, low.same, high.same, sum s f, sum s g, both s f, both s g) }
  moved at (suc s) f g (true ∷ p) h =
      let high = moved at s (side true f) (side true g) p (λ a e. h (true ∷ a) e) in
      let low = ap (T s) (same_function (side false f) (side false g) (λ a. h (false ∷ a) refl)) in
      record { few = omega (arith, high.few, sum s f, one s f true p); same = omega (arith, high.same, low, sum s f, sum s g, one s f true p, one s g true p) }
  moved at (suc s) f g (false ∷ p) h =
      let low = moved at s (side false f) (side false g) p (λ a e. h (false ∷ a) e) in
      let high = ap (T s) (same_function (side true f) (side true g) (λ a. h (true ∷ a) refl)) in
      record { few = omega (arith, low.few, sum s f, one s f false p); same = omega (arith, low.same, high, sum s f, sum s g, one s f false p, one s g false p) }

  -- a path that ends within the direct bits: all slots under it
  pub at_short : ((f : List Bool → ℕ) → V 0 f [] ≡ T 0 f) → (s j : ℕ) (f : List Bool → ℕ) (p : List Bool) → j + length p ≡ s → V s f p ≡ T j (part p f)
  at_short at zero zero f [] e = at f
  at_short at zero (suc j) f [] e = absurd (omega arith)
  at_short at zero j f (b ∷ p) e = absurd (omega arith)
  at_short at (suc s) zero f [] e = absurd (omega arith)
  at_short at (suc s) (suc j) f [] e =
      let n : j + length {A = Bool} [] ≡ s = omega arith in
      omega (arith, both s f, sum j f, at_short at s j (side false f) [] n, at_short at s j (side true f) [] n)
  at_short at (suc s) j f (b ∷ p) e = one s f b p ∙ at_short at s j (side b f) p (omega arith)

  -- a longer one: the way below one slot
  pub at_long : (s : ℕ) (f : List Bool → ℕ) (p : List Bool) → s ≤ length p → V s f p ≡ V 0 (part (take s p) f) (drop s p)
  at_long zero f p l = refl
  at_long (suc s) f [] l = absurd (omega arith)
  at_long (suc s) f (b ∷ p) l = one s f b p ∙ at_long s (side b f) p (omega arith)

module _ (k d : ℕ) where
  nodes_sum : (s : ℕ) (f : List Bool → ℕ) → trie_nodes (suc s) k d f ≡ trie_nodes s k d (side false f) + trie_nodes s k d (side true f)
  unfolding trie_nodes
  nodes_sum s f = refl

  leaves_sum : (s : ℕ) (f : List Bool → ℕ) → trie_leaves (suc s) k d f ≡ trie_leaves s k d (side false f) + trie_leaves s k d (side true f)
  unfolding trie_leaves
  leaves_sum s f = refl

  nodes_both : (s : ℕ) (f : List Bool → ℕ) → trie_way_nodes (suc s) k d f [] ≡ trie_way_nodes s k d (side false f) [] + trie_way_nodes s k d (side true f) []
  unfolding trie_way_nodes
  nodes_both s f = refl

  leaves_both : (s : ℕ) (f : List Bool → ℕ) → trie_way_leaves (suc s) k d f [] ≡ trie_way_leaves s k d (side false f) [] + trie_way_leaves s k d (side true f) []
  unfolding trie_way_leaves
  leaves_both s f = refl

  nodes_one : (s : ℕ) (f : List Bool → ℕ) (b : Bool) (p : List Bool) → trie_way_nodes (suc s) k d f (b ∷ p) ≡ trie_way_nodes s k d (side b f) p
  unfolding trie_way_nodes
  nodes_one s f b p = refl

  leaves_one : (s : ℕ) (f : List Bool → ℕ) (b : Bool) (p : List Bool) → trie_way_leaves (suc s) k d f (b ∷ p) ≡ trie_way_leaves s k d (side b f) p
  unfolding trie_way_leaves
  leaves_one s f b p = refl

  slot_nodes_moved : (f g : List Bool → ℕ) (p : List Bool) → AlikeElse p f g → AreMoved (trie_nodes 0 k d f) (trie_nodes 0 k d g) (trie_way_nodes 0 k d f p) (trie_way_nodes 0 k d g p)
  unfolding trie_nodes trie_way_nodes
  slot_nodes_moved f g p h = let t = deep_nodes_moved k d f g p h in record { few = omega (arith, t.few); same = omega (arith, t.same) }

  slot_leaves_moved : (f g : List Bool → ℕ) (p : List Bool) → AlikeElse p f g → AreMoved (trie_leaves 0 k d f) (trie_leaves 0 k d g) (trie_way_leaves 0 k d f p) (trie_way_leaves 0 k d g p)
  unfolding trie_leaves trie_way_leaves
  slot_leaves_moved f g p h = deep_leaves_moved k d f g p h

  slot_nodes_whole : (f : List Bool → ℕ) → trie_way_nodes 0 k d f [] ≡ trie_nodes 0 k d f
  unfolding trie_nodes trie_way_nodes
  slot_nodes_whole f = ap (λ n. mixed (one_answer d f) + n) (whole_deep_nodes k d f)

  slot_leaves_whole : (f : List Bool → ℕ) → trie_way_leaves 0 k d f [] ≡ trie_leaves 0 k d f
  unfolding trie_leaves trie_way_leaves
  slot_leaves_whole f = whole_deep_leaves k d f

  slot_nodes_is : (f : List Bool → ℕ) (p : List Bool) → trie_way_nodes 0 k d f p ≡ mixed (one_answer d f) + deep_nodes k d f p
  unfolding trie_way_nodes
  slot_nodes_is f p = refl

  slot_leaves_is : (f : List Bool → ℕ) (p : List Bool) → trie_way_leaves 0 k d f p ≡ deep_leaves k d f p
  unfolding trie_way_leaves
  slot_leaves_is f p = refl

  trie_nodes_moved : (s : ℕ) (f g : List Bool → ℕ) (p : List Bool) → AlikeElse p f g → AreMoved (trie_nodes s k d f) (trie_nodes s k d g) (trie_way_nodes s k d f p) (trie_way_nodes s k d g p)
  trie_nodes_moved = moved (λ s f. trie_nodes s k d f) (λ s f p. trie_way_nodes s k d f p) nodes_sum nodes_both nodes_one slot_nodes_moved

  trie_leaves_moved : (s : ℕ) (f g : List Bool → ℕ) (p : List Bool) → AlikeElse p f g → AreMoved (trie_leaves s k d f) (trie_leaves s k d g) (trie_way_leaves s k d f p) (trie_way_leaves s k d g p)
  trie_leaves_moved = moved (λ s f. trie_leaves s k d f) (λ s f p. trie_way_leaves s k d f p) leaves_sum leaves_both leaves_one slot_leaves_moved

  nodes_short : (s j : ℕ) (f : List Bool → ℕ) (p : List Bool) → j + length p ≡ s → trie_way_nodes s k d f p ≡ trie_nodes j k d (part p f)
  nodes_short = at_short (λ s f. trie_nodes s k d f) (λ s f p. trie_way_nodes s k d f p) nodes_sum nodes_both nodes_one slot_nodes_whole

  leaves_short : (s j : ℕ) (f : List Bool → ℕ) (p : List Bool) → j + length p ≡ s → trie_way_leaves s k d f p ≡ trie_leaves j k d (part p f)
  leaves_short = at_short (λ s f. trie_leaves s k d f) (λ s f p. trie_way_leaves s k d f p) leaves_sum leaves_both leaves_one slot_leaves_whole

  nodes_long : (s : ℕ) (f : List Bool → ℕ) (p : List Bool) → s ≤ length p → trie_way_nodes s k d f p ≡ mixed (one_answer d (part (take s p) f)) + deep_nodes k d (part (take s p) f) (drop s p)
  nodes_long s f p l = at_long (λ s f. trie_nodes s k d f) (λ s f p. trie_way_nodes s k d f p) nodes_sum nodes_both nodes_one s f p l ∙ slot_nodes_is (part (take s p) f) (drop s p)

  leaves_long : (s : ℕ) (f : List Bool → ℕ) (p : List Bool) → s ≤ length p → trie_way_leaves s k d f p ≡ deep_leaves k d (part (take s p) f) (drop s p)
  leaves_long s f p l = at_long (λ s f. trie_leaves s k d f) (λ s f p. trie_way_leaves s k d f p) leaves_sum leaves_both leaves_one s f p l ∙ slot_leaves_is (part (take s p) f) (drop s p)

-- ---- the need after a change
same_itself : (f : Family) (b : Bool) → (same_family f f && b) ≡ b
same_itself V4 b = refl
same_itself V6 b = refl

alike_else : (L M : Entries) (p : Prefix) → AreAlikeOutside p L M → AlikeElse p.bits (all_answers p.family L) (all_answers p.family M)
alike_else L M p h a e = h (record { family = p.family; bits = a }) (same_itself p.family (begins p.bits a) ∙ e)

pub moved_number : (whole before after n m pn pm : ℕ) → whole < 18446744073709551616 → whole ≡ n → before ≡ need_in_u64 pn → after ≡ need_in_u64 pm → pn ≤ n → m + pn ≡ n + pm → min ((whole - before) + after) 18446744073709551615 ≡ need_in_u64 m
moved_number whole before after n m pn pm l w b a few e = omega (arith, w, b, a, few, e, l)

module _ (s : ℕ) (L M : Entries) (p : Prefix) (h : AreAlikeOutside p L M) where
  pub nodes_moved : AreMoved (node_need p.family s L) (node_need p.family s M) (nodes_on_way p.family s L p.bits) (nodes_on_way p.family s M p.bits)
  nodes_moved = trie_nodes_moved (strides (rest p.family s)) (rest p.family s) s (all_answers p.family L) (all_answers p.family M) p.bits (alike_else L M p h)

  pub leaves_moved : AreMoved (leaf_need p.family s L) (leaf_need p.family s M) (leaves_on_way p.family s L p.bits) (leaves_on_way p.family s M p.bits)
  leaves_moved = trie_leaves_moved (strides (rest p.family s)) (rest p.family s) s (all_answers p.family L) (all_answers p.family M) p.bits (alike_else L M p h)

-- ---- what is counted at a prefix
-- b bits are left behind the first c of the prefix's n, of which the region at hand has the answers g
module _ (f : Family) (s c n b : ℕ) (R : Entries) (p : Prefix) (g : List Bool → ℕ) (r : Needs) (of : p.family ≡ f) (len : length p.bits ≡ n) (le : n ≤ width f) (least : c ≡ min n s) (few : s ≤ 18) (left : b + c ≡ width f) (is : g ≡ part (take c p.bits) (all_answers f R)) where
  both_told : r.nodes ≡ need_in_u64 (nodes_on_way f s R p.bits) → r.leaves ≡ need_in_u64 (leaves_on_way f s R p.bits) → r ≡ told_need (need_at s R p)
  both_told x y =
      ap (λ m. let t : Needs = record { nodes = m; leaves = r.leaves } in t) x
      ∙ (ap (λ m. let t : Needs = record { nodes = need_in_u64 (nodes_on_way f s R p.bits); leaves = m } in t) y
      ∙ ap (λ (h : Family). let t : Needs = record { nodes = need_in_u64 (nodes_on_way h s R p.bits); leaves = need_in_u64 (leaves_on_way h s R p.bits) } in t) (sym of))

  bits_left : b - (s - c) ≡ rest f s
  bits_left = omega (arith, least, left, le, wide_enough f s few)

  enough : b - (s - c) ≤ 6 * strides (rest f s)
  enough = omega (arith, bits_left, strides_do (rest f s))

  -- a prefix of no more than the direct bits
  pub counted_slots : n ≤ s → ((k : ℕ) → b - (s - c) ≤ 6 * k → r.nodes ≡ need_in_u64 (trie_nodes (s - c) k (b - (s - c)) g)) → ((k : ℕ) → b - (s - c) ≤ 6 * k → r.leaves ≡ need_in_u64 (trie_leaves (s - c) k (b - (s - c)) g)) → r ≡ told_need (need_at s R p)
  counted_slots l x y =
      let k = strides (rest f s) in
      let all : take c p.bits ≡ p.bits = ap (λ m. take m p.bits) (let z : c ≡ length p.bits = omega (arith, least, len) in z) ∙ take-length p.bits in
      let here : g ≡ part p.bits (all_answers f R) = is ∙ ap (λ (q : List Bool). part q (all_answers f R)) all in
      let bits : (s - c) + length p.bits ≡ s = omega (arith, least, len) in
      both_told
      (x k enough ∙ (ap (λ d. need_in_u64 (trie_nodes (s - c) k d g)) bits_left ∙ (ap (λ (h : List Bool → ℕ). need_in_u64 (trie_nodes (s - c) k (rest f s) h)) here ∙ ap need_in_u64 (sym (nodes_short k (rest f s) s (s - c) (all_answers f R) p.bits bits)))))
      (y k enough ∙ (ap (λ d. need_in_u64 (trie_leaves (s - c) k d g)) bits_left ∙ (ap (λ (h : List Bool → ℕ). need_in_u64 (trie_leaves (s - c) k (rest f s) h)) here ∙ ap need_in_u64 (sym (leaves_short k (rest f s) s (s - c) (all_answers f R) p.bits bits)))))

  -- a longer one, of which j bits are left
  pub counted_way : (q j : ℕ) → bits_of n q ≡ p.bits → s < n → j ≡ n - s → ((k : ℕ) → b ≤ 6 * k → r.nodes ≡ need_in_u64 (mixed (one_answer b g) + deep_nodes k b g (bits_of j q))) → ((k : ℕ) → b ≤ 6 * k → r.leaves ≡ need_in_u64 (deep_leaves k b g (bits_of j q))) → r ≡ told_need (need_at s R p)
  counted_way q j path l e x y =
      let k = strides (rest f s) in
      let first : c ≡ s = omega (arith, least) in
      let here : g ≡ part (take s p.bits) (all_answers f R) = is ∙ ap (λ m. part (take m p.bits) (all_answers f R)) first in
      let bits : b ≡ rest f s = omega (arith, bits_left, first) in
      let behind : bits_of j q ≡ drop s p.bits = ap (λ m. bits_of m q) e ∙ (sym (bits_drop s n q) ∙ ap (drop s) path) in
      let long : s ≤ length p.bits = omega (arith, len) in
      both_told
      (x k (omega (arith, bits, strides_do (rest f s))) ∙ (ap (λ d. need_in_u64 (mixed (one_answer d g) + deep_nodes k d g (bits_of j q))) bits ∙ (ap (λ (h : List Bool → ℕ). need_in_u64 (mixed (one_answer (rest f s) h) + deep_nodes k (rest f s) h (bits_of j q))) here ∙ (ap (λ (t : List Bool). need_in_u64 (mixed (one_answer (rest f s) (part (take s p.bits) (all_answers f R))) + deep_nodes k (rest f s) (part (take s p.bits) (all_answers f R)) t)) behind ∙ ap need_in_u64 (sym (nodes_long k (rest f s) s (all_answers f R) p.bits long))))))
      (y k (omega (arith, bits, strides_do (rest f s))) ∙ (ap (λ d. need_in_u64 (deep_leaves k d g (bits_of j q))) bits ∙ (ap (λ (h : List Bool → ℕ). need_in_u64 (deep_leaves k (rest f s) h (bits_of j q))) here ∙ (ap (λ (t : List Bool). need_in_u64 (deep_leaves k (rest f s) (part (take s p.bits) (all_answers f R)) t)) behind ∙ ap need_in_u64 (sym (leaves_long k (rest f s) s (all_answers f R) p.bits long))))))
