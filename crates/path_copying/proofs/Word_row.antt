-- The direct words, of which one after another is made anew.
use Rattle.std.proofs.Common.{◌≡◌, ◌≢◌, ℕ, ◌+◌, ◌<◌, List, ◌∷◌, ◌++◌, Bool, true, false, refl, sym, ap, ◌∙◌, arith, subst, inl, inr}
use Rattle.std.specs.Prelude.{◌⊎◌, nat_lt}
use Rattle.std.proofs.lemmas.List.{append_assoc}
use Rattle.std.proofs.lemmas.Bool.{cases_eq}
use Rattle.buddy_arena.specs.Space.{Space}
use Rattle.buddy_arena.specs.Places.{Keeps, count_free, is_out}
use Rattle.buddy_arena.specs.Arrays.{Array, AreApart, places_of}
use Rattle.buddy_arena.proofs.Sets.{places_append}
use Rattle.buddy_arena.proofs.Parting.{part_left}
use Rattle.fib_addr.specs.Answers.{one_answer}
use Rattle.poptrie_build.specs.Strides.{total}
use Rattle.poptrie_build.specs.Need.{trie_nodes, trie_leaves}
use Rattle.poptrie_build.specs.Arrays.{gather, node_arrays, leaf_arrays}
use Rattle.poptrie_build.specs.Stands.{blank, node_at}
use Rattle.poptrie_build.specs.Build.{WordIn, StandsIn}
use Rattle.poptrie_build.specs.declared.node.Node.{Node}
use Rattle.poptrie_build.proofs.Carry.{carry, map_slot}
use Rattle.poptrie_build.proofs.Parting.{gather_same, part_at, nodes_same, leaves_same}
use Rattle.path_copying.specs.Words.{WordPart, WordRow, arrays_of_word, leaf_arrays_of}
use Rattle.path_copying.proofs.Like.{Like, like_is, like_then, like_under, like_behind, like_move}
use Rattle.path_copying.proofs.Excepting.{except, except_of, taken_out, total_same, total_out}
use Rattle.path_copying.proofs.Row.{carries, except_same, except_of_same, fill}
use Rattle.path_copying.proofs.Word_copy.{arrays_some, arrays_none, leaves_some, leaves_none}

-- ---- what is kept
pub word_stays : (k : ℕ) (nodes nodes2 : Space Node) (leaves leaves2 : Space ℕ) (w d : ℕ) (f : List Bool → ℕ) → Keeps blank nodes.cells (is_out nodes.free) nodes2.cells (is_out nodes2.free) → Keeps 0 leaves.cells (is_out leaves.free) leaves2.cells (is_out leaves2.free) →
    WordIn w k nodes.cells (is_out nodes.free) leaves.cells (is_out leaves.free) d f → WordIn w k nodes2.cells (is_out nodes2.free) leaves2.cells (is_out leaves2.free) d f
word_stays k nodes nodes2 leaves leaves2 w d f a b s =
    map_slot (one_answer d f) _ _ _ _
    (λ t. (
      t.0,
      a.still w t.1,
      omega (arith, t.2, a.long),
      subst (λ (n : Node). StandsIn k nodes2.cells (is_out nodes2.free) leaves2.cells (is_out leaves2.free) n d f) (sym (a.same w t.1))
          (carry k nodes.cells nodes2.cells (is_out nodes.free) (is_out nodes2.free) leaves.cells leaves2.cells (is_out leaves.free) (is_out leaves2.free) (node_at nodes.cells w) d f (carries blank _ _ _ _ a) (carries 0 _ _ _ _ b) t.3),
    ))
    (λ h t. t)
    s

pub word_arrays_kept : (k : ℕ) (N : ℕ → Bool) (nodes after : List Node) (w : ℕ) → ((i : ℕ) → N i ≡ true → node_at after i ≡ node_at nodes i) → AreApart N (arrays_of_word k nodes w) → (arrays_of_word k after w ≡ arrays_of_word k nodes w) × (leaf_arrays_of k after w ≡ leaf_arrays_of k nodes w)
unfolding AreApart
word_arrays_kept k N nodes after w h a = by (nat_lt w 2147483648) refl
  where
    by : (b : Bool) → nat_lt w 2147483648 ≡ b → (arrays_of_word k after w ≡ arrays_of_word k nodes w) × (leaf_arrays_of k after w ≡ leaf_arrays_of k nodes w)
    by true e =
        let p = subst (λ (z : List Array). AreApart N z) (arrays_some k nodes w e) a in
        let here = h w (p.0.0 w (omega arith, omega arith)) in (
          arrays_some k after w e ∙ (ap (λ (z : List Array). (w, 1) ∷ z) (ap (node_arrays k after) here ∙ nodes_same k N nodes after (node_at nodes w) h p.2) ∙ sym (arrays_some k nodes w e)),
          leaves_some k after w e ∙ ((ap (leaf_arrays k after) here ∙ leaves_same k N nodes after (node_at nodes w) h p.2) ∙ sym (leaves_some k nodes w e)),
        )
    by false e = (arrays_none k after w e ∙ sym (arrays_none k nodes w e), leaves_none k after w e ∙ sym (leaves_none k nodes w e))

-- ---- one child is changed
module _ (n : ℕ) (g : ℕ → List Array) (v : ℕ) (low : v < n) (gone beside : List Array) where
  out : Like (gather g n ++ (gone ++ beside)) (g v ++ (gone ++ (gather (except g v) n ++ beside)))
  out =
      like_then _ _ _ (like_behind (gone ++ beside) _ _ (taken_out g v n low).0)
      (like_then _ _ _ (like_is _ _ (append_assoc (g v) (gather (except g v) n) (gone ++ beside)))
      (like_under (g v) _ _ (like_move (gather (except g v) n) gone beside)))

  back : Like (g v ++ (gone ++ (gather (except g v) n ++ beside))) (gather g n ++ (gone ++ beside))
  back =
      like_then _ _ _ (like_under (g v) _ _ (like_move gone (gather (except g v) n) beside))
      (like_then _ _ _ (like_is _ _ (sym (append_assoc (g v) (gather (except g v) n) (gone ++ beside))))
      (like_behind (gone ++ beside) _ _ (taken_out g v n low).1))

module _ (k n d v : ℕ) (low : v < n) (nodes nodes2 : Space Node) (leaves leaves2 : Space ℕ) (words words2 : ℕ → ℕ) (h h2 : ℕ → List Bool → ℕ) (r r2 s s2 beside beside2 : List Array) (m m2 : ℕ) where
  module _ (same_words : (u : ℕ) → u < n → u ≢ v → words2 u ≡ words u) (same_answers : (u : ℕ) → u < n → u ≢ v → h2 u ≡ h u)
      (a : Keeps blank nodes.cells (is_out nodes.free) nodes2.cells (is_out nodes2.free)) (b : Keeps 0 leaves.cells (is_out leaves.free) leaves2.cells (is_out leaves2.free))
      (change : (x y : List Array) (p q : ℕ) → WordPart k nodes leaves (words v) d (h v) (r ++ x) (r2 ++ y) p q → WordPart k nodes2 leaves2 (words2 v) d (h2 v) (s ++ x) (s2 ++ y) p q)
      (row : WordRow k n nodes leaves words d h (r ++ beside) (r2 ++ beside2) m m2) where
    abbrev mine : ℕ → List Array
    mine u = arrays_of_word k nodes.cells (words u)

    abbrev mine2 : ℕ → List Array
    mine2 u = arrays_of_word k nodes2.cells (words2 u)

    abbrev leaf : ℕ → List Array
    leaf u = leaf_arrays_of k nodes.cells (words u)

    abbrev leaf2 : ℕ → List Array
    leaf2 u = leaf_arrays_of k nodes2.cells (words2 u)

    abbrev need : ℕ → ℕ
    need u = trie_nodes 0 k d (h u)

    abbrev need2 : ℕ → ℕ
    need2 u = trie_nodes 0 k d (h2 u)

    abbrev leaf_need : ℕ → ℕ
    leaf_need u = trie_leaves 0 k d (h u)

    abbrev leaf_need2 : ℕ → ℕ
    leaf_need2 u = trie_leaves 0 k d (h2 u)

    abbrev x : List Array
    x = gather (except mine v) n ++ beside

    abbrev y : List Array
    y = gather (except leaf v) n ++ beside2

    part : WordPart k nodes2 leaves2 (words2 v) d (h2 v) (s ++ x) (s2 ++ y) (count_free nodes + (places_of (r ++ x) + need v)) (count_free leaves + (places_of (r2 ++ y) + leaf_need v))
    part = change x y _ _ (record {
      stands = row.stands v low;
      nodes_apart = (out n mine v low r beside).apart (is_out nodes.free) row.nodes_apart;
      leaves_apart = (out n leaf v low r2 beside2).apart (is_out leaves.free) row.leaves_apart;
      nodes_fill = refl;
      leaves_fill = refl;
    })

    kept : (u : ℕ) → u < n → u ≢ v → (mine2 u ≡ mine u) × (leaf2 u ≡ leaf u)
    kept u l ne =
        let both = word_arrays_kept k (is_out nodes.free) nodes.cells nodes2.cells (words u) (λ i q. a.same i q) (part_at (is_out nodes.free) mine n u l (part_left (is_out nodes.free) (gather mine n) (r ++ beside) row.nodes_apart)) in
        (ap (arrays_of_word k nodes2.cells) (same_words u l ne) ∙ both.0, ap (leaf_arrays_of k nodes2.cells) (same_words u l ne) ∙ both.1)

    others : gather (except mine v) n ≡ gather (except mine2 v) n
    others = gather_same (except mine v) (except mine2 v) n (λ u l. except_same mine mine2 v u (λ ne. sym (kept u l ne).0))

    leaf_others : gather (except leaf v) n ≡ gather (except leaf2 v) n
    leaf_others = gather_same (except leaf v) (except leaf2 v) n (λ u l. except_same leaf leaf2 v u (λ ne. sym (kept u l ne).1))

    needs : total (except_of need v) n ≡ total (except_of need2 v) n
    needs = total_same (except_of need v) (except_of need2 v) n (λ u l. except_of_same need need2 v u (λ ne. ap (trie_nodes 0 k d) (sym (same_answers u l ne))))

    leaf_needs : total (except_of leaf_need v) n ≡ total (except_of leaf_need2 v) n
    leaf_needs = total_same (except_of leaf_need v) (except_of leaf_need2 v) n (λ u l. except_of_same leaf_need leaf_need2 v u (λ ne. ap (trie_leaves 0 k d) (sym (same_answers u l ne))))

    stands_now : (u : ℕ) → u < n → (u ≡ v) ⊎ (u ≢ v) → WordIn (words2 u) k nodes2.cells (is_out nodes2.free) leaves2.cells (is_out leaves2.free) d (h2 u)
    stands_now u l (inl e) = subst (λ (w : ℕ). WordIn (words2 w) k nodes2.cells (is_out nodes2.free) leaves2.cells (is_out leaves2.free) d (h2 w)) (sym e) part.stands
    stands_now u l (inr ne) =
        subst (λ (n : ℕ). WordIn n k nodes2.cells (is_out nodes2.free) leaves2.cells (is_out leaves2.free) d (h2 u)) (sym (same_words u l ne))
        (subst (λ (f : List Bool → ℕ). WordIn (words u) k nodes2.cells (is_out nodes2.free) leaves2.cells (is_out leaves2.free) d f) (sym (same_answers u l ne))
        (word_stays k nodes nodes2 leaves leaves2 (words u) d (h u) a b (row.stands u l)))

    pub words_next : WordRow k n nodes2 leaves2 words2 d h2 (s ++ beside) (s2 ++ beside2) m m2
    words_next = record {
      stands = λ u l. stands_now u l (cases_eq u v);
      nodes_apart = (back n mine2 v low s beside).apart (is_out nodes2.free) (subst (λ (z : List Array). AreApart (is_out nodes2.free) (mine2 v ++ (s ++ (z ++ beside)))) others part.nodes_apart);
      leaves_apart = (back n leaf2 v low s2 beside2).apart (is_out leaves2.free) (subst (λ (z : List Array). AreApart (is_out leaves2.free) (leaf2 v ++ (s2 ++ (z ++ beside2)))) leaf_others part.leaves_apart);
      nodes_fill =
          fill (count_free nodes) (count_free nodes2) (places_of r) (places_of s) (places_of (gather (except mine v) n)) (places_of beside) (need v) (need2 v) (total (except_of need v) n) (total need n) (total need2 n) (places_of (r ++ x)) (places_of (s ++ x)) (places_of x) (places_of (r ++ beside)) (places_of (s ++ beside)) m
          part.nodes_fill row.nodes_fill (places_append r x) (places_append s x) (places_append (gather (except mine v) n) beside) (places_append r beside) (places_append s beside) (total_out need v n low) (total_out need2 v n low ∙ ap (λ z. need2 v + z) (sym needs));
      leaves_fill =
          fill (count_free leaves) (count_free leaves2) (places_of r2) (places_of s2) (places_of (gather (except leaf v) n)) (places_of beside2) (leaf_need v) (leaf_need2 v) (total (except_of leaf_need v) n) (total leaf_need n) (total leaf_need2 n) (places_of (r2 ++ y)) (places_of (s2 ++ y)) (places_of y) (places_of (r2 ++ beside2)) (places_of (s2 ++ beside2)) m2
          part.leaves_fill row.leaves_fill (places_append r2 y) (places_append s2 y) (places_append (gather (except leaf v) n) beside2) (places_append r2 beside2) (places_append s2 beside2) (total_out leaf_need v n low) (total_out leaf_need2 v n low ∙ ap (λ z. leaf_need2 v + z) (sym leaf_needs));
    }

-- ---- the same row, written another way
pub words_same : (k n d : ℕ) (nodes : Space Node) (leaves : Space ℕ) (words words2 : ℕ → ℕ) (h h2 : ℕ → List Bool → ℕ) (beside beside2 : List Array) (m m2 : ℕ) → ((u : ℕ) → u < n → words2 u ≡ words u) → ((u : ℕ) → u < n → h2 u ≡ h u) → WordRow k n nodes leaves words d h beside beside2 m m2 → WordRow k n nodes leaves words2 d h2 beside beside2 m m2
words_same k n d nodes leaves words words2 h h2 beside beside2 m m2 ek eh row = record {
  stands = λ u l.
      subst (λ (n : ℕ). WordIn n k nodes.cells (is_out nodes.free) leaves.cells (is_out leaves.free) d (h2 u)) (sym (ek u l))
      (subst (λ (f : List Bool → ℕ). WordIn (words u) k nodes.cells (is_out nodes.free) leaves.cells (is_out leaves.free) d f) (sym (eh u l)) (row.stands u l));
  nodes_apart = subst (λ (z : List Array). AreApart (is_out nodes.free) (z ++ beside)) (gather_same _ _ n (λ u l. ap (arrays_of_word k nodes.cells) (sym (ek u l)))) row.nodes_apart;
  leaves_apart = subst (λ (z : List Array). AreApart (is_out leaves.free) (z ++ beside2)) (gather_same _ _ n (λ u l. ap (leaf_arrays_of k nodes.cells) (sym (ek u l)))) row.leaves_apart;
  nodes_fill = ap (λ z. count_free nodes + (places_of beside + z)) (total_same _ _ n (λ u l. ap (trie_nodes 0 k d) (eh u l))) ∙ row.nodes_fill;
  leaves_fill = ap (λ z. count_free leaves + (places_of beside2 + z)) (total_same _ _ n (λ u l. ap (trie_leaves 0 k d) (eh u l))) ∙ row.leaves_fill;
}
