-- A lookup's first go: what it reads of a version, it can read on in places that stay as they are.
use Rattle.std.proofs.Common.{◌≡◌, ℕ, suc, ◌^◌, ◌<◌, List, [], ◌∷◌, Bool, true, Option, Some, None, length, get_or, refl, arith, inl, inr}
use Rattle.std.specs.Prelude.{◌⊎◌}
use Rattle.table_model.specs.Bits.{bits_of}
use Rattle.table_model.specs.declared.family.Family.{Family}
use Rattle.table_model.specs.Entries.{Entries}
use Rattle.buddy_arena.specs.Space.{Space}
use Rattle.poptrie_build.specs.Strides.{strides, visits}
use Rattle.fib_addr.specs.Answers.{part, one_answer, all_answers}
use Rattle.poptrie_build.specs.Stands.{blank, node_at, BySlot}
use Rattle.buddy_arena.specs.Places.{is_out}
use Rattle.buddy_arena.specs.Arrays.{Array, AreApart, among, has}
use Rattle.poptrie_build.specs.Arrays.{word_arrays, word_leaf_arrays}
use Rattle.poptrie_build.specs.Tries.{rest}
use Rattle.poptrie_build.specs.declared.node.Node.{Node}
use Rattle.poptrie_build.proofs.Carry.{Carries, carry}
use Rattle.buddy_arena.proofs.Parting.{part_right}
use Rattle.poptrie_set.specs.Rooms.{safe}
use Rattle.poptrie_set.specs.Version.{IsVersion}
use Rattle.poptrie_set.specs.Lives.{Seen, Beside}
use Rattle.poptrie_set.specs.Reading.{ReadsOn}
use Rattle.buddy_arena.proofs.Sets.{place_is, or_left, or_right}
use Rattle.path_copying.proofs.Held.{words_held}
use Rattle.poptrie_set.proofs.Read_on.{reads_on}
use Rattle.poptrie_set.proofs.Safe.{before_safe, after_safe}

by_word : (x : Option ℕ) (P : Type 0) (Q : ℕ → Type 0) → BySlot x P Q → ((x ≡ None) × P) ⊎ ((h : ℕ) × (x ≡ Some h) × Q h)
by_word None P Q b = inl (refl, b)
by_word (Some h) P Q b = inr (h, refl, b)

-- blocks that are apart are so in their own places
pub apart_own : (N : ℕ → Bool) (xs : List Array) → AreApart N xs → AreApart (among xs) xs
unfolding AreApart
apart_own N xs a = own (among xs) xs (λ i e. e) a
  where
    own : (M : ℕ → Bool) (ys : List Array) → ((i : ℕ) → among ys i ≡ true → M i ≡ true) → AreApart N ys → AreApart M ys
    own M [] h b = tt
    own M (y ∷ ys) h b = (((λ i o. h i (or_left (has y i) (among ys i) (place_is y i o))), b.0.1), b.1, own M ys (λ i e. h i (or_right (has y i) (among ys i) e)) b.2)

-- where all places of a version's arrays are in N and L, its words are read on from in these
module _ (f : Family) (s : ℕ) (nodes : Space Node) (leaves : Space ℕ) (direct : List ℕ) (M : Entries) (beside beside2 : List Array) (w : IsVersion f s nodes leaves direct M beside beside2) (N L : ℕ → Bool) (v : ℕ) (bits : List Bool) where
  abbrev d : ℕ
  d = rest f s

  abbrev k : ℕ
  k = strides d

  pub first_reads : v < 2 ^ s → length bits ≡ d → get_or direct v 0 < 2 ^ 31 → ((i : ℕ) → among (word_arrays k nodes.cells direct) i ≡ true → N i ≡ true) → ((i : ℕ) → among (word_leaf_arrays k nodes.cells direct) i ≡ true → L i ≡ true) →
      ReadsOn (visits k d (part (bits_of s v) (all_answers f M)) bits) nodes.cells N leaves.cells L (get_or direct v 0) bits (part (bits_of s v) (all_answers f M) bits)
  first_reads l hd small n m =
      let a = among (word_arrays k nodes.cells direct) in
      let b = among (word_leaf_arrays k nodes.cells direct) in
      let h = words_held s k direct nodes.cells leaves.cells a b d (all_answers f M) w.words (apart_own (is_out nodes.free) _ (part_right (is_out nodes.free) beside _ (w.nodes_apart k))) (apart_own (is_out leaves.free) _ (part_right (is_out leaves.free) beside2 _ (w.leaves_apart k))) v l in
      elim (by_word (one_answer d (part (bits_of s v) (all_answers f M))) _ _ h) [
        | inl t ↦
            let x : Carries blank nodes.cells a nodes.cells N = record { inside = n; same = λ i e. refl; long = refl } in
            let y : Carries 0 leaves.cells b leaves.cells L = record { inside = m; same = λ i e. refl; long = refl } in
            reads_on k nodes.cells N leaves.cells L (get_or direct v 0) d (part (bits_of s v) (all_answers f M)) bits hd (n (get_or direct v 0) t.1.1) t.1.2 (carry k nodes.cells nodes.cells a N leaves.cells leaves.cells b L (node_at nodes.cells (get_or direct v 0)) d (part (bits_of s v) (all_answers f M)) x y t.1.3)
        | inr t ↦ absurd (omega (arith, t.2.1))
      ]

-- the words as they are, before a store covers the slot and after
module _ (l : Seen) (L M : Entries) (old new : List ℕ) (b : Beside l L M old new) (t v : ℕ) (bits : List Bool) (below : v < 2 ^ l.direct_bits) (hd : length bits ≡ rest l.family l.direct_bits) where
  abbrev depth : ℕ
  depth = rest l.family l.direct_bits

  abbrev pub ReadsFor : Entries → ℕ → ℕ → Type 0
  ReadsFor E made word = ReadsOn (visits (strides depth) depth (part (bits_of l.direct_bits v) (all_answers l.family E)) bits) l.nodes.space.cells (safe l.nodes made t) l.leaves.space.cells (safe l.leaves made t) word bits (part (bits_of l.direct_bits v) (all_answers l.family E) bits)

  pub reads_before : get_or old v 0 < 2 ^ 31 → ReadsFor L l.made (get_or old v 0)
  reads_before small = first_reads l.family l.direct_bits l.nodes.space l.leaves.space old L _ _ b.before (safe l.nodes l.made t) (safe l.leaves l.made t) v bits below hd small
      (λ i e. before_safe l.nodes (word_arrays (strides depth) l.nodes.space.cells old) l.made t i (b.before.nodes_apart (strides depth)) e)
      (λ i e. before_safe l.leaves (word_leaf_arrays (strides depth) l.nodes.space.cells old) l.made t i (b.before.leaves_apart (strides depth)) e)

  pub reads_after : (made : ℕ) → get_or new v 0 < 2 ^ 31 → ReadsFor M (suc made) (get_or new v 0)
  reads_after made small = first_reads l.family l.direct_bits l.nodes.space l.leaves.space new M _ _ b.after (safe l.nodes (suc made) t) (safe l.leaves (suc made) t) v bits below hd small
      (λ i e. after_safe l.nodes (word_arrays (strides depth) l.nodes.space.cells new) made t i (b.after.nodes_apart (strides depth)) e)
      (λ i e. after_safe l.leaves (word_leaf_arrays (strides depth) l.nodes.space.cells new) made t i (b.after.leaves_apart (strides depth)) e)
