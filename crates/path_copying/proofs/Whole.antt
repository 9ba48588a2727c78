-- All direct words of a trie, and their row.
use Rattle.std.proofs.Common.{◌≡◌, ℕ, zero, suc, ◌+◌, ◌^◌, List, [], ◌∷◌, ◌++◌, Bool, true, false, length, refl, sym, ap, ◌∙◌, arith, subst}
use Rattle.std.specs.Prelude.{slice_index}
use Rattle.std.proofs.lemmas.List.{append-nil, append_assoc}
use Rattle.table_model.specs.Bits.{bits_of}
use Rattle.buddy_arena.specs.Space.{Space}
use Rattle.buddy_arena.specs.Places.{count_free, is_out}
use Rattle.buddy_arena.specs.Arrays.{Array, AreApart, places_of}
use Rattle.buddy_arena.proofs.Parting.{part_right}
use Rattle.buddy_arena.proofs.Sets.{swap}
use Rattle.fib_addr.specs.Answers.{part}
use Rattle.table_model.specs.Sets.{side}
use Rattle.poptrie_build.specs.Strides.{total}
use Rattle.poptrie_build.specs.Need.{trie_nodes, trie_leaves}
use Rattle.poptrie_build.specs.Stands.{TrieStands}
use Rattle.poptrie_build.specs.Arrays.{gather, word_arrays, word_leaf_arrays}
use Rattle.poptrie_build.specs.declared.node.Node.{Node}
use Rattle.poptrie_build.proofs.Filled.{words_stand}
use Rattle.poptrie_build.proofs.Slotting.{double, low_bits, high_bits}
use Rattle.path_copying.specs.Words.{WordRow, arrays_of_word, leaf_arrays_of}
use Rattle.path_copying.proofs.Excepting.{total_same}
use Rattle.path_copying.proofs.Held.{words_held}

-- ---- their arrays
gather_cons : (g : ℕ → List Array) (n : ℕ) → gather g (suc n) ≡ g 0 ++ gather (λ u. g (suc u)) n
unfolding gather
gather_cons g zero = sym (append-nil (g 0))
gather_cons g (suc n) = ap (λ (x : List Array). x ++ g (suc n)) (gather_cons g n) ∙ append_assoc (g 0) (gather (λ u. g (suc u)) n) (g (suc n))

pub words_gathered : (k : ℕ) (nodes : List Node) (words : List ℕ) → word_arrays k nodes words ≡ gather (λ u. arrays_of_word k nodes (slice_index words u)) (length words)
unfolding word_arrays gather
words_gathered k nodes [] = refl
words_gathered k nodes (w ∷ words) = ap (λ (x : List Array). arrays_of_word k nodes w ++ x) (words_gathered k nodes words) ∙ sym (gather_cons (λ u. arrays_of_word k nodes (slice_index (w ∷ words) u)) (length words))

pub leaves_gathered : (k : ℕ) (nodes : List Node) (words : List ℕ) → word_leaf_arrays k nodes words ≡ gather (λ u. leaf_arrays_of k nodes (slice_index words u)) (length words)
unfolding word_leaf_arrays gather
leaves_gathered k nodes [] = refl
leaves_gathered k nodes (w ∷ words) = ap (λ (x : List Array). leaf_arrays_of k nodes w ++ x) (leaves_gathered k nodes words) ∙ sym (gather_cons (λ u. leaf_arrays_of k nodes (slice_index (w ∷ words) u)) (length words))

-- ---- their needs
total_add : (g : ℕ → ℕ) (a b : ℕ) → total g (a + b) ≡ total g a + total (λ u. g (a + u)) b
unfolding total
total_add g a zero = (let e : a + zero ≡ a = omega arith in ap (total g) e) ∙ omega arith
total_add g a (suc b) =
    let e : a + suc b ≡ suc (a + b) = omega arith in
    let t = total_add g a b in
    ap (total g) e ∙ omega (arith, t)

module _ (k d : ℕ) where
  pub nodes_total : (s : ℕ) (f : List Bool → ℕ) → trie_nodes s k d f ≡ total (λ v. trie_nodes 0 k d (part (bits_of s v) f)) (2 ^ s)
  unfolding trie_nodes total bits_of
  nodes_total zero f = omega arith
  nodes_total (suc s) f =
      let low = nodes_total s (side false f) in
      let high = nodes_total s (side true f) in
      let g : ℕ → ℕ = λ v. trie_nodes 0 k d (part (bits_of (suc s) v) f) in
      let a = total_same g (λ v. trie_nodes 0 k d (part (bits_of s v) (side false f))) (2 ^ s) (λ v l. ap (λ (p : List Bool). trie_nodes 0 k d (part p f)) (low_bits s v l)) in
      let b = total_same (λ v. g (2 ^ s + v)) (λ v. trie_nodes 0 k d (part (bits_of s v) (side true f))) (2 ^ s) (λ v l. ap (λ (p : List Bool). trie_nodes 0 k d (part p f)) (high_bits s v l)) in
      let whole : total g (2 ^ suc s) ≡ total g (2 ^ s) + total (λ v. g (2 ^ s + v)) (2 ^ s) = ap (total g) (double s) ∙ total_add g (2 ^ s) (2 ^ s) in
      omega (arith, low, high, a, b, whole)

  pub leaves_total : (s : ℕ) (f : List Bool → ℕ) → trie_leaves s k d f ≡ total (λ v. trie_leaves 0 k d (part (bits_of s v) f)) (2 ^ s)
  unfolding trie_leaves total bits_of
  leaves_total zero f = omega arith
  leaves_total (suc s) f =
      let low = leaves_total s (side false f) in
      let high = leaves_total s (side true f) in
      let g : ℕ → ℕ = λ v. trie_leaves 0 k d (part (bits_of (suc s) v) f) in
      let a = total_same g (λ v. trie_leaves 0 k d (part (bits_of s v) (side false f))) (2 ^ s) (λ v l. ap (λ (p : List Bool). trie_leaves 0 k d (part p f)) (low_bits s v l)) in
      let b = total_same (λ v. g (2 ^ s + v)) (λ v. trie_leaves 0 k d (part (bits_of s v) (side true f))) (2 ^ s) (λ v l. ap (λ (p : List Bool). trie_leaves 0 k d (part p f)) (high_bits s v l)) in
      let whole : total g (2 ^ suc s) ≡ total g (2 ^ s) + total (λ v. g (2 ^ s + v)) (2 ^ s) = ap (total g) (double s) ∙ total_add g (2 ^ s) (2 ^ s) in
      omega (arith, low, high, a, b, whole)

-- ---- a trie's words are a row, and a row is a trie's words
module _ (k s d : ℕ) (nodes : Space Node) (leaves : Space ℕ) (direct : List ℕ) (f : List Bool → ℕ) (beside beside2 : List Array) (m m2 : ℕ) where
  pub row_of : TrieStands s direct k nodes.cells leaves.cells d f → AreApart (is_out nodes.free) (beside ++ word_arrays k nodes.cells direct) → AreApart (is_out leaves.free) (beside2 ++ word_leaf_arrays k nodes.cells direct) → count_free nodes + (places_of beside + trie_nodes s k d f) ≡ m → count_free leaves + (places_of beside2 + trie_leaves s k d f) ≡ m2 →
      WordRow k (2 ^ s) nodes leaves (λ u. slice_index direct u) d (λ v. part (bits_of s v) f) beside beside2 m m2
  row_of t a b c e = record {
    stands = words_held s k direct nodes.cells leaves.cells (is_out nodes.free) (is_out leaves.free) d f t (part_right (is_out nodes.free) beside _ a) (part_right (is_out leaves.free) beside2 _ b);
    nodes_apart =
        subst (λ (n : ℕ). AreApart (is_out nodes.free) (gather (λ u. arrays_of_word k nodes.cells (slice_index direct u)) n ++ beside)) t.words
        (subst (λ (z : List Array). AreApart (is_out nodes.free) (z ++ beside)) (words_gathered k nodes.cells direct) (swap (is_out nodes.free) beside (word_arrays k nodes.cells direct) a));
    leaves_apart =
        subst (λ (n : ℕ). AreApart (is_out leaves.free) (gather (λ u. leaf_arrays_of k nodes.cells (slice_index direct u)) n ++ beside2)) t.words
        (subst (λ (z : List Array). AreApart (is_out leaves.free) (z ++ beside2)) (leaves_gathered k nodes.cells direct) (swap (is_out leaves.free) beside2 (word_leaf_arrays k nodes.cells direct) b));
    nodes_fill = omega (arith, c, nodes_total k d s f);
    leaves_fill = omega (arith, e, leaves_total k d s f);
  }

  module _ (long : length direct ≡ 2 ^ s) (w : WordRow k (2 ^ s) nodes leaves (λ u. slice_index direct u) d (λ v. part (bits_of s v) f) beside beside2 m m2) where
    pub trie_of : TrieStands s direct k nodes.cells leaves.cells d f
    trie_of = words_stand s k d f direct nodes.cells (is_out nodes.free) leaves.cells (is_out leaves.free) long (λ v l. w.stands v l)

    pub nodes_of : AreApart (is_out nodes.free) (beside ++ word_arrays k nodes.cells direct)
    nodes_of =
        swap (is_out nodes.free) (word_arrays k nodes.cells direct) beside
        (subst (λ (z : List Array). AreApart (is_out nodes.free) (z ++ beside)) (sym (words_gathered k nodes.cells direct))
        (subst (λ (n : ℕ). AreApart (is_out nodes.free) (gather (λ u. arrays_of_word k nodes.cells (slice_index direct u)) n ++ beside)) (sym long) w.nodes_apart))

    pub leaves_of : AreApart (is_out leaves.free) (beside2 ++ word_leaf_arrays k nodes.cells direct)
    leaves_of =
        swap (is_out leaves.free) (word_leaf_arrays k nodes.cells direct) beside2
        (subst (λ (z : List Array). AreApart (is_out leaves.free) (z ++ beside2)) (sym (leaves_gathered k nodes.cells direct))
        (subst (λ (n : ℕ). AreApart (is_out leaves.free) (gather (λ u. leaf_arrays_of k nodes.cells (slice_index direct u)) n ++ beside2)) (sym long) w.leaves_apart))

    pub nodes_filled : count_free nodes + (places_of beside + trie_nodes s k d f) ≡ m
    nodes_filled = omega (arith, w.nodes_fill, nodes_total k d s f)

    pub leaves_filled : count_free leaves + (places_of beside2 + trie_leaves s k d f) ≡ m2
    leaves_filled = omega (arith, w.leaves_fill, leaves_total k d s f)
