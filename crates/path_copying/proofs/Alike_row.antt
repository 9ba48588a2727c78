-- Words that stand for answers stand for others that are the same at each address; what they ask for is the same, too.
use Rattle.std.proofs.Common.{◌≡◌, ℕ, zero, suc, ◌+◌, ◌-◌, ◌^◌, ◌<◌, ◌≤◌, List, [], ◌∷◌, ◌++◌, Bool, true, false, nat_eq, refl, sym, ap, ◌∙◌, arith, subst, inl, inr}
use Rattle.std.specs.Prelude.{◌&&◌, ◌⊎◌}
use Rattle.std.proofs.lemmas.Bool.{cases_lt}
use Rattle.std.proofs.lemmas.List.{append-nil, append_assoc}
use Rattle.table_model.specs.Bits.{bits_of}
use Rattle.buddy_arena.specs.Space.{Space}
use Rattle.buddy_arena.specs.Places.{count_free, is_out}
use Rattle.buddy_arena.specs.Arrays.{Array, places_of}
use Rattle.fib_addr.specs.Answers.{part, one_answer}
use Rattle.table_model.specs.Sets.{side}
use Rattle.poptrie_build.specs.Strides.{slots, slot, mixed}
use Rattle.poptrie_build.specs.Need.{children, runs, trie_nodes, trie_leaves}
use Rattle.poptrie_build.specs.declared.node.Node.{Node}
use Rattle.poptrie_build.proofs.Counting.{children_same, runs_same}
use Rattle.path_copying.specs.Alike.{SameAnswers}
use Rattle.path_copying.specs.Words.{WordRow}
use Rattle.path_copying.specs.Stores.{slots_under}
use Rattle.path_copying.specs.Asks.{Ask, ask_for, alike, lists_of, if_changed, asks, word_asks, slots_asks}
use Rattle.path_copying.proofs.Agree.{one_alike, slot_alike, slots_alike, need_alike, need_leaves_alike}
use Rattle.path_copying.proofs.Asking.{none_alike, alike_yes, listed_same}
use Rattle.path_copying.proofs.Excepting.{total_same}
use Rattle.path_copying.proofs.Slot_copy.{under_in, under_low, under_high}
use Rattle.path_copying.proofs.Word_copy.{word_alike}

pub alike_back : (d : ℕ) (f g : List Bool → ℕ) → SameAnswers d f g → SameAnswers d g f
alike_back d f g h a l = sym (h a l)

-- ---- rows
word_nodes_alike : (k d : ℕ) (f g : List Bool → ℕ) → SameAnswers d f g → trie_nodes 0 k d f ≡ trie_nodes 0 k d g
unfolding trie_nodes
word_nodes_alike k d f g h = let a = ap mixed (one_alike d f g h) in let b = need_alike k d f g h in omega (arith, a, b)

word_leaves_alike : (k d : ℕ) (f g : List Bool → ℕ) → SameAnswers d f g → trie_leaves 0 k d f ≡ trie_leaves 0 k d g
unfolding trie_leaves
word_leaves_alike k d f g h = need_leaves_alike k d f g h

pub row_alike : (k n d : ℕ) (nodes : Space Node) (leaves : Space ℕ) (words : ℕ → ℕ) (h h2 : ℕ → List Bool → ℕ) (beside beside2 : List Array) (m m2 : ℕ) → ((u : ℕ) → u < n → SameAnswers d (h2 u) (h u)) → WordRow k n nodes leaves words d h beside beside2 m m2 → WordRow k n nodes leaves words d h2 beside beside2 m m2
row_alike k n d nodes leaves words h h2 beside beside2 m m2 e row = record {
  stands = λ u l. word_alike k nodes.cells (is_out nodes.free) leaves.cells (is_out leaves.free) (words u) d (h2 u) (h u) (alike_back d (h2 u) (h u) (e u l)) (row.stands u l);
  nodes_apart = row.nodes_apart;
  leaves_apart = row.leaves_apart;
  nodes_fill = ap (λ z. count_free nodes + (places_of beside + z)) (total_same _ _ n (λ u l. word_nodes_alike k d (h2 u) (h u) (e u l))) ∙ row.nodes_fill;
  leaves_fill = ap (λ z. count_free leaves + (places_of beside2 + z)) (total_same _ _ n (λ u l. word_leaves_alike k d (h2 u) (h u) (e u l))) ∙ row.leaves_fill;
}

-- ---- asks
alike_same : (d : ℕ) (f f2 g g2 : List Bool → ℕ) → SameAnswers d f f2 → SameAnswers d g g2 → alike d f g ≡ alike d f2 g2
unfolding alike
alike_same zero f f2 g g2 a b = ap (λ x. nat_eq x (g [])) (a [] refl) ∙ ap (nat_eq (f2 [])) (b [] refl)
alike_same (suc d) f f2 g g2 a b =
    ap (λ x. x && alike d (side true f) (side true g)) (alike_same d (side false f) (side false f2) (side false g) (side false g2) (λ x l. a (false ∷ x) (omega (arith, l))) (λ x l. b (false ∷ x) (omega (arith, l))))
    ∙ ap (λ x. alike d (side false f2) (side false g2) && x) (alike_same d (side true f) (side true f2) (side true g) (side true g2) (λ x l. a (true ∷ x) (omega (arith, l))) (λ x l. b (true ∷ x) (omega (arith, l))))

asks_same : (k d : ℕ) (f f2 g g2 : List Bool → ℕ) → SameAnswers d f f2 → SameAnswers d g g2 → asks k d f g ≡ asks k d f2 g2
unfolding asks
asks_same zero d f f2 g g2 a b = refl
asks_same (suc k) d f f2 g g2 a b =
    let c : children (slots d f) ≡ children (slots d f2) = children_same _ (slots d f) (slots d f2) (λ v l. slots_alike d v f f2 a) refl in
    let r : runs (slots d f) ≡ runs (slots d f2) = runs_same _ (slots d f) (slots d f2) (λ v l. slots_alike d v f f2 a) refl in
    let below : lists_of (λ v. asks k (d - 6) (slot d f v) (slot d g v)) 64 ≡ lists_of (λ v. asks k (d - 6) (slot d f2 v) (slot d g2 v)) 64 = listed_same _ _ 64 (λ v l. asks_same k (d - 6) (slot d f v) (slot d f2 v) (slot d g v) (slot d g2 v) (slot_alike d v f f2 a) (slot_alike d v g g2 b)) in
    ap (λ x. if_changed x (one_answer d f) ((ask_for 0 (children (slots d f)) ++ ask_for 1 (runs (slots d f))) ++ lists_of (λ v. asks k (d - 6) (slot d f v) (slot d g v)) 64)) (alike_same d f f2 g g2 a b)
    ∙ (ap (λ x. if_changed (alike d f2 g2) x ((ask_for 0 (children (slots d f)) ++ ask_for 1 (runs (slots d f))) ++ lists_of (λ v. asks k (d - 6) (slot d f v) (slot d g v)) 64)) (one_alike d f f2 a)
    ∙ (ap (λ x. if_changed (alike d f2 g2) (one_answer d f2) ((ask_for 0 x ++ ask_for 1 (runs (slots d f))) ++ lists_of (λ v. asks k (d - 6) (slot d f v) (slot d g v)) 64)) c
    ∙ (ap (λ x. if_changed (alike d f2 g2) (one_answer d f2) ((ask_for 0 (children (slots d f2)) ++ ask_for 1 x) ++ lists_of (λ v. asks k (d - 6) (slot d f v) (slot d g v)) 64)) r
    ∙ ap (λ (x : List Ask). if_changed (alike d f2 g2) (one_answer d f2) ((ask_for 0 (children (slots d f2)) ++ ask_for 1 (runs (slots d f2))) ++ x)) below)))

word_asks_same : (k d : ℕ) (f f2 g g2 : List Bool → ℕ) → SameAnswers d f f2 → SameAnswers d g g2 → word_asks k d f g ≡ word_asks k d f2 g2
word_asks_same k d f f2 g g2 a b =
    ap (λ x. if_changed x (one_answer d f) (ask_for 0 1) ++ asks k d f g) (alike_same d f f2 g g2 a b)
    ∙ (ap (λ x. if_changed (alike d f2 g2) x (ask_for 0 1) ++ asks k d f g) (one_alike d f f2 a)
    ∙ ap (λ (x : List Ask). if_changed (alike d f2 g2) (one_answer d f2) (ask_for 0 1) ++ x) (asks_same k d f f2 g g2 a b))

word_asks_none : (k d : ℕ) (f g : List Bool → ℕ) → SameAnswers d f g → word_asks k d f g ≡ []
word_asks_none k d f g a =
    ap (λ x. if_changed x (one_answer d f) (ask_for 0 1) ++ asks k d f g) (alike_yes d f g a)
    ∙ none_alike k d f g (alike_yes d f g a)

-- ---- those of a part of the slots
listed_add : (g : ℕ → List Ask) (a b : ℕ) → lists_of g (a + b) ≡ lists_of g a ++ lists_of (λ u. g (a + u)) b
unfolding lists_of
listed_add g a zero = (let e : a + zero ≡ a = omega arith in ap (lists_of g) e) ∙ sym (append-nil (lists_of g a))
listed_add g a (suc b) =
    let e : a + suc b ≡ suc (a + b) = omega arith in
    ap (lists_of g) e ∙ (ap (λ (x : List Ask). x ++ g (a + b)) (listed_add g a b) ∙ append_assoc (lists_of g a) (lists_of (λ u. g (a + u)) b) (g (a + b)))

listed_none : (g : ℕ → List Ask) (n : ℕ) → ((u : ℕ) → u < n → g u ≡ []) → lists_of g n ≡ []
unfolding lists_of
listed_none g zero e = refl
listed_none g (suc n) e = ap (λ (x : List Ask). x ++ g n) (listed_none g n (λ u l. e u (omega (arith, l)))) ∙ e n (omega arith)

listed_part : (g : ℕ → List Ask) (first m n : ℕ) → first + m ≤ n → ((u : ℕ) → u < n → (u < first) ⊎ (first + m ≤ u) → g u ≡ []) → lists_of g n ≡ lists_of (λ v. g (first + v)) m
listed_part g first m n le none =
    let whole : first + (m + (n - (first + m))) ≡ n = omega (arith, le) in
    let before = listed_none g first (λ u l. none u (omega (arith, l, le)) (inl l)) in
    let after = listed_none (λ u. g (first + (m + u))) (n - (first + m)) (λ u l. none (first + (m + u)) (omega (arith, l, le)) (inr (omega arith))) in
    ap (lists_of g) (sym whole)
    ∙ (listed_add g first (m + (n - (first + m)))
    ∙ (ap (λ (x : List Ask). x ++ lists_of (λ u. g (first + u)) (m + (n - (first + m)))) before
    ∙ (listed_add (λ u. g (first + u)) m (n - (first + m))
    ∙ (ap (λ (x : List Ask). lists_of (λ u. g (first + u)) m ++ x) after ∙ append-nil (lists_of (λ u. g (first + u)) m)))))

-- of 2 ^ s slots with the answers f, of which the old ones are h, those from the first on are the 2 ^ j slots of a region with the
-- answers p, and all others get what they got
pub record IsPartOf (s j first d : ℕ) (f p : List Bool → ℕ) (h : ℕ → List Bool → ℕ) : Type 0 where
  pub many : first + 2 ^ j ≤ 2 ^ s
  pub inside : (v : ℕ) → v < 2 ^ j → SameAnswers d (part (bits_of s (first + v)) f) (part (bits_of j v) p)
  pub beside : (u : ℕ) → u < 2 ^ s → (u < first) ⊎ (first + 2 ^ j ≤ u) → SameAnswers d (part (bits_of s u) f) (h u)

module _ (s j first d : ℕ) (f p : List Bool → ℕ) (h : ℕ → List Bool → ℕ) (w : IsPartOf s j first d f p h) where
  pub part_under : (u : ℕ) → u < 2 ^ s → SameAnswers d (part (bits_of s u) f) (slots_under first j p h u)
  part_under u l = by (cases_lt u first) (cases_lt u (first + 2 ^ j))
    where
      by : (u < first) ⊎ (first ≤ u) → (u < first + 2 ^ j) ⊎ (first + 2 ^ j ≤ u) → SameAnswers d (part (bits_of s u) f) (slots_under first j p h u)
      by (inl a) y = subst (λ (g : List Bool → ℕ). SameAnswers d (part (bits_of s u) f) g) (sym (under_low first j p h u a)) (w.beside u l (inl a))
      by (inr a) (inl b) =
          let at : first + (u - first) ≡ u = omega (arith, a) in
          subst (λ (g : List Bool → ℕ). SameAnswers d (part (bits_of s u) f) g) (sym (under_in first j p h u a b))
          (subst (λ (i : ℕ). SameAnswers d (part (bits_of s i) f) (part (bits_of j (u - first)) p)) at (w.inside (u - first) (omega (arith, a, b))))
      by (inr a) (inr b) = subst (λ (g : List Bool → ℕ). SameAnswers d (part (bits_of s u) f) g) (sym (under_high first j p h u b)) (w.beside u l (inr b))

  pub part_asks : (k : ℕ) → slots_asks k s d f h ≡ slots_asks k j d p (λ v. h (first + v))
  part_asks k =
      listed_part (λ u. word_asks k d (part (bits_of s u) f) (h u)) first (2 ^ j) (2 ^ s) w.many (λ u l o. word_asks_none k d (part (bits_of s u) f) (h u) (w.beside u l o))
      ∙ listed_same _ _ (2 ^ j) (λ v l. word_asks_same k d (part (bits_of s (first + v)) f) (part (bits_of j v) p) (h (first + v)) (h (first + v)) (w.inside v l) (λ a n. refl))
