-- A direct word and its node, made anew beside the old ones.
use Rattle.std.proofs.Common.{◌≡◌, ◌≢◌, ℕ, ◌+◌, ◌*◌, ◌^◌, ◌<◌, ◌≤◌, List, [], ◌∷◌, ◌++◌, Bool, true, false, cond, Option, Some, None, length, get_or, refl, sym, ap, ◌∙◌, arith, subst, inl, inr, set}
use Rattle.std.specs.Prelude.{nat_lt, ◌⊎◌}
use Rattle.std.proofs.Math.ListN.{length-set}
use Rattle.std.proofs.lemmas.List.{append-nil, append_assoc, get_or-set_other, get_or-set_same}
use Rattle.std.proofs.lemmas.Bool.Decides.{nat_tests}
use Rattle.buddy_arena.specs.Space.{Space, IsSized}
use Rattle.buddy_arena.specs.Space as arena
use Rattle.buddy_arena.specs.Powers.{up, up_from}
use Rattle.buddy_arena.specs.Places.{Keeps, TakesPlaces, count_free, is_out}
use Rattle.buddy_arena.specs.Arrays.{Array, AreApart, places_of}
use Rattle.buddy_arena.specs.Blocks.{Held}
use Rattle.buddy_arena.proofs.Sets.{places_append, apart_less}
use Rattle.buddy_arena.proofs.Parting.{part_left}
use Rattle.fib_addr.specs.Answers.{one_answer}
use Rattle.poptrie_build.specs.Strides.{mixed}
use Rattle.poptrie_build.specs.Need.{trie_nodes, trie_leaves}
use Rattle.poptrie_build.specs.Stands.{BySlot, node_at, blank}
use Rattle.poptrie_build.specs.Build.{StandsIn, WordIn}
use Rattle.poptrie_build.specs.Arrays.{node_arrays, leaf_arrays}
use Rattle.poptrie_build.specs.declared.node.Node.{Node}
use Rattle.poptrie_build.proofs.Carry.{carry}
use Rattle.path_copying.specs.Ways.{IsOldKid, IsOldNode, IsOldWord}
use Rattle.path_copying.specs.Kids.{StandsAs, kid_arrays, kid_leaf_arrays}
use Rattle.path_copying.specs.Changes.{Part, Replaces}
use Rattle.path_copying.specs.Alike.{SameAnswers}
use Rattle.path_copying.specs.Written.{WritesCells}
use Rattle.path_copying.proofs.Agree.{one_alike, need_alike, need_leaves_alike}
use Rattle.path_copying.proofs.Sharing.{stands_in_alike}
use Rattle.path_copying.specs.Words.{IsWord, WordPart, ReplacesWord, node_of, own_array, arrays_of_word, leaf_arrays_of}
use Rattle.path_copying.proofs.Copied.{held_in}
use Rattle.path_copying.proofs.Finished.{block_in, block_was, one_more, beyond, beyond_from, beyond_in, beyond_out, front}
use Rattle.path_copying.proofs.Like.{like_is, like_then, like_under, like_move}
use Rattle.path_copying.proofs.Row.{stands_kept, arrays_kept}

-- ---- a word is a node or a hop
pub lt_yes : (w : ℕ) → w < 2 ^ 31 → nat_lt w 2147483648 ≡ true
lt_yes w h = grind (arith, nat_tests)

pub lt_no : (w h : ℕ) → w ≡ 2 ^ 31 + h → nat_lt w 2147483648 ≡ false
lt_no w h e = let l : 2147483648 ≤ w = omega (arith, e) in grind (arith, nat_tests)

pub node_some : (nodes : List Node) (w : ℕ) → nat_lt w 2147483648 ≡ true → node_of nodes w ≡ Some (node_at nodes w)
node_some nodes w e = ap (λ b. let r : Option Node = cond b (Some (node_at nodes w)) None in r) e

pub node_none : (nodes : List Node) (w : ℕ) → nat_lt w 2147483648 ≡ false → node_of nodes w ≡ None
node_none nodes w e = ap (λ b. let r : Option Node = cond b (Some (node_at nodes w)) None in r) e

own_some : (w : ℕ) → nat_lt w 2147483648 ≡ true → own_array w ≡ (w, 1) ∷ []
own_some w e = ap (λ b. let r : List Array = cond b ((w, 1) ∷ []) [] in r) e

own_none : (w : ℕ) → nat_lt w 2147483648 ≡ false → own_array w ≡ []
own_none w e = ap (λ b. let r : List Array = cond b ((w, 1) ∷ []) [] in r) e

pub arrays_some : (k : ℕ) (nodes : List Node) (w : ℕ) → nat_lt w 2147483648 ≡ true → arrays_of_word k nodes w ≡ (w, 1) ∷ node_arrays k nodes (node_at nodes w)
arrays_some k nodes w e = ap (λ b. let r : List Array = cond b ((w, 1) ∷ node_arrays k nodes (node_at nodes w)) [] in r) e

pub arrays_none : (k : ℕ) (nodes : List Node) (w : ℕ) → nat_lt w 2147483648 ≡ false → arrays_of_word k nodes w ≡ []
arrays_none k nodes w e = ap (λ b. let r : List Array = cond b ((w, 1) ∷ node_arrays k nodes (node_at nodes w)) [] in r) e

pub leaves_some : (k : ℕ) (nodes : List Node) (w : ℕ) → nat_lt w 2147483648 ≡ true → leaf_arrays_of k nodes w ≡ leaf_arrays k nodes (node_at nodes w)
leaves_some k nodes w e = ap (λ b. let r : List Array = cond b (leaf_arrays k nodes (node_at nodes w)) [] in r) e

pub leaves_none : (k : ℕ) (nodes : List Node) (w : ℕ) → nat_lt w 2147483648 ≡ false → leaf_arrays_of k nodes w ≡ []
leaves_none k nodes w e = ap (λ b. let r : List Array = cond b (leaf_arrays k nodes (node_at nodes w)) [] in r) e

-- what the code asks of the word's node
pub word_kid : (nodes : Space Node) (leaves : Space ℕ) (w : ℕ) (p : List Bool) (d : ℕ) (f : List Bool → ℕ) → IsOldWord nodes leaves w p d f → IsOldKid nodes leaves (node_of nodes.cells w) p d f
word_kid nodes leaves w p d f (k, g, s, beside) = by (one_answer d g) refl s
  where
    by : (x : Option ℕ) → one_answer d g ≡ x → BySlot x ((w < 2 ^ 31) × (is_out nodes.free w ≡ true) × (w < length nodes.cells) × StandsIn k nodes.cells (is_out nodes.free) leaves.cells (is_out leaves.free) (node_at nodes.cells w) d g) (λ h. (h < 2 ^ 16) × (w ≡ 2 ^ 31 + h)) → IsOldKid nodes leaves (node_of nodes.cells w) p d f
    by None e t = (k, g, subst (λ (z : Option Node). StandsAs k nodes.cells (is_out nodes.free) leaves.cells (is_out leaves.free) z d g) (sym (node_some nodes.cells w (lt_yes w t.0))) t.3, beside)
    by (Some h) e t = (k, g, subst (λ (z : Option Node). StandsAs k nodes.cells (is_out nodes.free) leaves.cells (is_out leaves.free) z d g) (sym (node_none nodes.cells w (lt_no w h t.1))) (h, e), beside)

pub word_kept : (nodes nodes2 : Space Node) (leaves leaves2 : Space ℕ) (was : Option Node) (p : List Bool) (d : ℕ) (f : List Bool → ℕ) → Keeps blank nodes.cells (is_out nodes.free) nodes2.cells (is_out nodes2.free) → Keeps 0 leaves.cells (is_out leaves.free) leaves2.cells (is_out leaves2.free) → IsOldKid nodes leaves was p d f → IsOldKid nodes2 leaves2 was p d f
word_kept nodes nodes2 leaves leaves2 was p d f a b (k, g, s, beside) = (k, g, stands_kept k nodes nodes2 leaves leaves2 was d g a b s, beside)

pub word_within : (nodes : Space Node) (leaves : Space ℕ) (w d : ℕ) → w < 2147483648 → IsWord nodes leaves w d → w < length nodes.cells
word_within nodes leaves w d l (k, g, s) = by (one_answer d g) s
  where
    by : (x : Option ℕ) → BySlot x ((w < 2 ^ 31) × (is_out nodes.free w ≡ true) × (w < length nodes.cells) × StandsIn k nodes.cells (is_out nodes.free) leaves.cells (is_out leaves.free) (node_at nodes.cells w) d g) (λ h. (h < 2 ^ 16) × (w ≡ 2 ^ 31 + h)) → w < length nodes.cells
    by None t = t.2
    by (Some h) t = absurd (omega (arith, t.1, l))

-- ---- its node's block goes to what is put aside
module _ (k : ℕ) (nodes : Space Node) (leaves : Space ℕ) (w d : ℕ) (g : List Bool → ℕ) (r beside beside2 : List Array) (m m2 : ℕ) where
  pub opened_word : WordPart k nodes leaves w d g (r ++ beside) beside2 m m2 → Part k nodes leaves (node_of nodes.cells w) d g ((r ++ own_array w) ++ beside) beside2 m m2
  unfolding trie_nodes trie_leaves
  opened_word p = by (one_answer d g) refl p.stands
    where
      by : (x : Option ℕ) → one_answer d g ≡ x → BySlot x ((w < 2 ^ 31) × (is_out nodes.free w ≡ true) × (w < length nodes.cells) × StandsIn k nodes.cells (is_out nodes.free) leaves.cells (is_out leaves.free) (node_at nodes.cells w) d g) (λ h. (h < 2 ^ 16) × (w ≡ 2 ^ 31 + h)) → Part k nodes leaves (node_of nodes.cells w) d g ((r ++ own_array w) ++ beside) beside2 m m2
      by None e t =
          let yes = lt_yes w t.0 in
          let own : List Array = (w, 1) ∷ [] in
          let one : mixed (one_answer d g) ≡ 1 = ap mixed e in
          let places : places_of ((r ++ own) ++ beside) ≡ places_of (r ++ beside) + 1 = omega (arith, places_append (r ++ own) beside, places_append r own, places_append r beside) in
          subst (λ (z : Option Node). Part k nodes leaves z d g ((r ++ own_array w) ++ beside) beside2 m m2) (sym (node_some nodes.cells w yes))
          (subst (λ (z : List Array). Part k nodes leaves (Some (node_at nodes.cells w)) d g ((r ++ z) ++ beside) beside2 m m2) (sym (own_some w yes))
          (record {
            stands = t.3;
            nodes_apart =
                (like_then _ _ _ (like_move own (node_arrays k nodes.cells (node_at nodes.cells w)) (r ++ beside)) (like_under (node_arrays k nodes.cells (node_at nodes.cells w)) _ _ (like_then _ _ _ (like_move own r beside) (like_is _ _ (sym (append_assoc r own beside)))))).apart (is_out nodes.free)
                (subst (λ (z : List Array). AreApart (is_out nodes.free) (z ++ (r ++ beside))) (arrays_some k nodes.cells w yes) p.nodes_apart);
            leaves_apart = subst (λ (z : List Array). AreApart (is_out leaves.free) (z ++ beside2)) (leaves_some k nodes.cells w yes) p.leaves_apart;
            nodes_fill = omega (arith, p.nodes_fill, one, places);
            leaves_fill = p.leaves_fill;
          }))
      by (Some h) e t =
          let no = lt_no w h t.1 in
          let zero_is : mixed (one_answer d g) ≡ 0 = ap mixed e in
          let places : places_of ((r ++ []) ++ beside) ≡ places_of (r ++ beside) = ap (λ (x : List Array). places_of (x ++ beside)) (append-nil r) in
          subst (λ (z : Option Node). Part k nodes leaves z d g ((r ++ own_array w) ++ beside) beside2 m m2) (sym (node_none nodes.cells w no))
          (subst (λ (z : List Array). Part k nodes leaves None d g ((r ++ z) ++ beside) beside2 m m2) (sym (own_none w no))
          (record {
            stands = (h, e);
            nodes_apart =
                subst (λ (z : List Array). AreApart (is_out nodes.free) (z ++ beside)) (sym (append-nil r))
                (subst (λ (z : List Array). AreApart (is_out nodes.free) (z ++ (r ++ beside))) (arrays_none k nodes.cells w no) p.nodes_apart);
            leaves_apart = subst (λ (z : List Array). AreApart (is_out leaves.free) (z ++ beside2)) (leaves_none k nodes.cells w no) p.leaves_apart;
            nodes_fill = omega (arith, p.nodes_fill, zero_is, places);
            leaves_fill = p.leaves_fill;
          }))

  -- ---- a hop in its place
  pub closed_hop : (h : ℕ) → one_answer d g ≡ Some h → h < 2 ^ 16 → w ≡ 2 ^ 31 + h → Part k nodes leaves None d g (r ++ beside) beside2 m m2 → WordPart k nodes leaves w d g (r ++ beside) beside2 m m2
  unfolding trie_nodes trie_leaves
  closed_hop h e small is p =
      let no = lt_no w h is in
      let zero_is : mixed (one_answer d g) ≡ 0 = ap mixed e in
      record {
        stands = hop (one_answer d g) e;
        nodes_apart = subst (λ (z : List Array). AreApart (is_out nodes.free) (z ++ (r ++ beside))) (sym (arrays_none k nodes.cells w no)) p.nodes_apart;
        leaves_apart = subst (λ (z : List Array). AreApart (is_out leaves.free) (z ++ beside2)) (sym (leaves_none k nodes.cells w no)) p.leaves_apart;
        nodes_fill = omega (arith, p.nodes_fill, zero_is);
        leaves_fill = p.leaves_fill;
      }
    where
      hop : (x : Option ℕ) → x ≡ Some h → BySlot x ((w < 2 ^ 31) × (is_out nodes.free w ≡ true) × (w < length nodes.cells) × StandsIn k nodes.cells (is_out nodes.free) leaves.cells (is_out leaves.free) (node_at nodes.cells w) d g) (λ h. (h < 2 ^ 16) × (w ≡ 2 ^ 31 + h))
      hop x q = subst (λ (y : Option ℕ). BySlot y ((w < 2 ^ 31) × (is_out nodes.free w ≡ true) × (w < length nodes.cells) × StandsIn k nodes.cells (is_out nodes.free) leaves.cells (is_out leaves.free) (node_at nodes.cells w) d g) (λ h. (h < 2 ^ 16) × (w ≡ 2 ^ 31 + h))) (sym q) (small, is)

pub word_left : (nodes : Space Node) (nb nb1 nb2 : Held) (leaves : Space ℕ) (lb lb2 : Held) (w w2 d h : ℕ) (f : List Bool → ℕ) → nb1.replaced ≡ nb.replaced ++ own_array w → one_answer d f ≡ Some h → h < 2 ^ 16 → w2 ≡ 2 ^ 31 + h → Replaces nodes nb1 leaves lb (node_of nodes.cells w) nodes nb2 leaves lb2 None d f → ReplacesWord nodes nb leaves lb w nodes nb2 leaves lb2 w2 d f
word_left nodes nb nb1 nb2 leaves lb lb2 w w2 d h f own one small is re k g x y m m2 few p =
    closed_hop k nodes leaves w2 d f nb2.replaced x (lb2.replaced ++ y) m m2 h one small is
    (re k g x y m m2 few (subst (λ (z : List Array). Part k nodes leaves (node_of nodes.cells w) d g (z ++ x) (lb.replaced ++ y) m m2) (sym own) (opened_word k nodes leaves w d g nb.replaced x (lb.replaced ++ y) m m2 p)))

-- ---- a node in its place
-- its block comes out
pub part_taken : (k : ℕ) (nodes nodes2 : Space Node) (leaves : Space ℕ) (was : Option Node) (d : ℕ) (g : List Bool → ℕ) (r beside beside2 : List Array) (m m2 place n : ℕ) → Keeps blank nodes.cells (is_out nodes.free) nodes2.cells (is_out nodes2.free) → nodes2.cells ≡ nodes.cells → TakesPlaces place n (is_out nodes.free) (is_out nodes2.free) (length nodes2.cells) → (q : ℕ) × (place ≡ q * n) → count_free nodes2 + n ≡ count_free nodes → Part k nodes leaves was d g (r ++ beside) beside2 m m2 → Part k nodes2 leaves was d g (r ++ ((place, n) ∷ beside)) beside2 m m2
part_taken k nodes nodes2 leaves was d g r beside beside2 m m2 place n a cells t q left p = record {
  stands = stands_kept k nodes nodes2 leaves leaves was d g a (record { still = λ i h. h; same = λ i h. refl; long = refl }) p.stands;
  nodes_apart =
      subst (λ (x : List Node). AreApart (is_out nodes2.free) (kid_arrays k x was ++ (r ++ ((place, n) ∷ beside)))) (sym cells)
      (one_more (is_out nodes.free) (is_out nodes2.free) (place, n) _ r beside (block_in place n _ _ _ t q) (block_was place n _ _ _ t) a.still p.nodes_apart);
  leaves_apart = subst (λ (x : List Node). AreApart (is_out leaves.free) (kid_leaf_arrays k x was ++ beside2)) (sym cells) p.leaves_apart;
  nodes_fill = omega (arith, p.nodes_fill, left, places_append r beside, places_append r ((place, n) ∷ beside));
  leaves_fill = p.leaves_fill;
}

module _ (k : ℕ) (nodes nodes2 : Space Node) (leaves : Space ℕ) (node : Node) (place d : ℕ) (f : List Bool → ℕ) (r beside beside2 : List Array) (m m2 : ℕ) where
  module _ (none : one_answer d f ≡ None) (c : nodes2.cells ≡ set nodes.cells place node) (same_free : nodes2.free ≡ nodes.free) (within : place < length nodes.cells) (small : place < 2 ^ 31) (p : Part k nodes leaves (Some node) d f (r ++ ((place, 1) ∷ beside)) beside2 m m2) where
    abbrev M : ℕ → Bool
    M = beyond (is_out nodes.free) (place, 1)

    fronted : AreApart (is_out nodes.free) ((place, 1) ∷ (node_arrays k nodes.cells node ++ (r ++ beside)))
    fronted = front (is_out nodes.free) (place, 1) (node_arrays k nodes.cells node) r beside p.nodes_apart

    inside : AreApart M (node_arrays k nodes.cells node)
    inside = part_left M (node_arrays k nodes.cells node) (r ++ beside) (apart_less (is_out nodes.free) M ((place, 1) ∷ []) _ (λ i q e. beyond_from (is_out nodes.free) (place, 1) i q e) fronted)

    other : (i : ℕ) → M i ≡ true → node_at nodes2.cells i ≡ node_at nodes.cells i
    other i q = ap (λ x. get_or x i blank) c ∙ get_or-set_other nodes.cells place i node blank (apart i (beyond_out (is_out nodes.free) place 1 i q))
      where
        apart : (j : ℕ) → (j < place) ⊎ (place + 1 ≤ j) → j ≢ place
        apart j (inl h) e = absurd (omega (arith, h, e))
        apart j (inr h) e = absurd (omega (arith, h, e))

    here : node_at nodes2.cells place ≡ node
    here = ap (λ x. get_or x place blank) c ∙ get_or-set_same nodes.cells place node blank within

    long : length nodes2.cells ≡ length nodes.cells
    long = ap length c ∙ length-set nodes.cells place node

    same : (node_arrays k nodes2.cells node ≡ node_arrays k nodes.cells node) × (leaf_arrays k nodes2.cells node ≡ leaf_arrays k nodes.cells node)
    same = arrays_kept k M nodes.cells nodes2.cells (Some node) other inside

    stands_now : StandsIn k nodes2.cells (is_out nodes2.free) leaves.cells (is_out leaves.free) node d f
    stands_now =
        carry k nodes.cells nodes2.cells M (is_out nodes2.free) leaves.cells leaves.cells (is_out leaves.free) (is_out leaves.free) node d f
        (record { inside = λ i q. ap (λ x. is_out x i) same_free ∙ beyond_in (is_out nodes.free) (place, 1) i q; same = other; long = long })
        (record { inside = λ i q. q; same = λ i q. refl; long = refl })
        (held_in k nodes.cells leaves.cells (is_out nodes.free) (is_out leaves.free) M (is_out leaves.free) node d f p.stands inside (part_left (is_out leaves.free) (leaf_arrays k nodes.cells node) beside2 p.leaves_apart))

    word_stands : (x : Option ℕ) → x ≡ None → BySlot x ((place < 2 ^ 31) × (is_out nodes2.free place ≡ true) × (place < length nodes2.cells) × StandsIn k nodes2.cells (is_out nodes2.free) leaves.cells (is_out leaves.free) (node_at nodes2.cells place) d f) (λ h. (h < 2 ^ 16) × (place ≡ 2 ^ 31 + h))
    unfolding AreApart
    word_stands x e =
        subst (λ (y : Option ℕ). BySlot y ((place < 2 ^ 31) × (is_out nodes2.free place ≡ true) × (place < length nodes2.cells) × StandsIn k nodes2.cells (is_out nodes2.free) leaves.cells (is_out leaves.free) (node_at nodes2.cells place) d f) (λ h. (h < 2 ^ 16) × (place ≡ 2 ^ 31 + h))) (sym e)
        (small, ap (λ x. is_out x place) same_free ∙ fronted.0.0 place (omega arith, omega arith), omega (arith, within, long), subst (λ (n : Node). StandsIn k nodes2.cells (is_out nodes2.free) leaves.cells (is_out leaves.free) n d f) (sym here) stands_now)

    pub closed_node : WordPart k nodes2 leaves place d f (r ++ beside) beside2 m m2
    unfolding trie_nodes trie_leaves
    closed_node =
        let yes = lt_yes place small in
        let one : mixed (one_answer d f) ≡ 1 = ap mixed none in
        record {
          stands = word_stands (one_answer d f) none;
          nodes_apart =
              subst (λ (z : List Array). AreApart (is_out nodes2.free) (z ++ (r ++ beside))) (sym (arrays_some k nodes2.cells place yes ∙ ap (λ (x : List Array). (place, 1) ∷ x) (ap (node_arrays k nodes2.cells) here ∙ same.0)))
              (subst (λ (z : List Bool). AreApart (is_out z) ((place, 1) ∷ (node_arrays k nodes.cells node ++ (r ++ beside)))) (sym same_free) fronted);
          leaves_apart = subst (λ (z : List Array). AreApart (is_out leaves.free) (z ++ beside2)) (sym (leaves_some k nodes2.cells place yes ∙ (ap (leaf_arrays k nodes2.cells) here ∙ same.1))) p.leaves_apart;
          nodes_fill = omega (arith, p.nodes_fill, one, ap arena.free_count same_free, places_append r beside, places_append r ((place, 1) ∷ beside));
          leaves_fill = p.leaves_fill;
        }

-- all of it
pub word_made : (n0 n1 n2 n3 : Space Node) (nb nb1 nb2 nb3 : Held) (leaves leaves2 : Space ℕ) (lb lb2 : Held) (node : Node) (w place d : ℕ) (f : List Bool → ℕ) → nb1.replaced ≡ nb.replaced ++ own_array w → nb2.replaced ≡ nb1.replaced → one_answer d f ≡ None →
    Keeps blank n0.cells (is_out n0.free) n1.cells (is_out n1.free) → n1.cells ≡ n0.cells → TakesPlaces place 1 (is_out n0.free) (is_out n1.free) (length n1.cells) → (q : ℕ) × (place ≡ q * 1) → count_free n1 + 1 ≡ count_free n0 → length n2.cells ≡ length n1.cells → length n1.cells ≤ 2 ^ 31 →
    n3.cells ≡ set n2.cells place node → n3.free ≡ n2.free → Replaces n1 nb2 leaves lb (node_of n0.cells w) n2 nb3 leaves2 lb2 (Some node) d f → ReplacesWord n0 nb leaves lb w n3 nb3 leaves2 lb2 place d f
word_made n0 n1 n2 n3 nb nb1 nb2 nb3 leaves leaves2 lb lb2 node w place d f own rep none a cells t q left long few31 c free re k g x y m m2 few p =
    closed_node k n2 n3 leaves2 node place d f nb3.replaced x (lb2.replaced ++ y) m m2 none c free (omega (arith, t.within, long)) (omega (arith, t.within, few31))
    (re k g ((place, 1) ∷ x) y m m2 few
    (part_taken k n0 n1 leaves (node_of n0.cells w) d g nb2.replaced x (lb.replaced ++ y) m m2 place 1 a cells t q left
    (subst (λ (z : List Array). Part k n0 leaves (node_of n0.cells w) d g (z ++ x) (lb.replaced ++ y) m m2) (sym (rep ∙ own)) (opened_word k n0 leaves w d g nb.replaced x (lb.replaced ++ y) m m2 p))))

pub writes_place : {T : Type 0} (e : T) (s t : Space T) (place : ℕ) (x : T) → t.cells ≡ set s.cells place x → t.free ≡ s.free → t.order ≡ s.order → t.fill ≡ s.fill → IsSized t → WritesCells e place 1 s t
writes_place e s t place x c f o p z = record {
  free = f;
  order = o;
  fill = p;
  sized = z;
  long = ap length c ∙ length-set s.cells place x;
  others = λ i q. ap (λ y. get_or y i e) c ∙ get_or-set_other s.cells place i x e (apart i q);
}
  where
    apart : (j : ℕ) → (j < place) ⊎ (place + 1 ≤ j) → j ≢ place
    apart j (inl h) q = absurd (omega (arith, h, q))
    apart j (inr h) q = absurd (omega (arith, h, q))

-- ---- the same word
pub up_one : up 1 ≡ 1
unfolding up up_from
up_one = refl

pub word_alike : (k : ℕ) (nodes : List Node) (N : ℕ → Bool) (leaves : List ℕ) (L : ℕ → Bool) (w d : ℕ) (f g : List Bool → ℕ) → SameAnswers d g f → WordIn w k nodes N leaves L d g → WordIn w k nodes N leaves L d f
word_alike k nodes N leaves L w d f g al s = by (one_answer d g) (one_answer d f) (one_alike d g f al) s
  where
    by : (x y : Option ℕ) → x ≡ y → BySlot x ((w < 2 ^ 31) × (N w ≡ true) × (w < length nodes) × StandsIn k nodes N leaves L (node_at nodes w) d g) (λ h. (h < 2 ^ 16) × (w ≡ 2 ^ 31 + h)) → BySlot y ((w < 2 ^ 31) × (N w ≡ true) × (w < length nodes) × StandsIn k nodes N leaves L (node_at nodes w) d f) (λ h. (h < 2 ^ 16) × (w ≡ 2 ^ 31 + h))
    by None None e t = (t.0, t.1, t.2, stands_in_alike k nodes N leaves L (node_at nodes w) d g f al t.3)
    by None (Some j) e t = cc
    by (Some h) None e t = cc
    by (Some h) (Some j) e t = subst (λ (x : Option ℕ). BySlot x ((w < 2 ^ 31) × (N w ≡ true) × (w < length nodes) × StandsIn k nodes N leaves L (node_at nodes w) d f) (λ i. (i < 2 ^ 16) × (w ≡ 2 ^ 31 + i))) e t

pub word_node_stands : (k : ℕ) (nodes : List Node) (N : ℕ → Bool) (leaves : List ℕ) (L : ℕ → Bool) (w d : ℕ) (g : List Bool → ℕ) (node : Node) → node_of nodes w ≡ Some node → WordIn w k nodes N leaves L d g → StandsIn k nodes N leaves L node d g
word_node_stands k nodes N leaves L w d g node is s = by (one_answer d g) s
  where
    some_is : (x y : Node) → Some x ≡ Some y → x ≡ y
    some_is x y q = cc

    none_some : (x : Node) → None ≡ Some x → ⊥
    none_some x q = cc

    by : (x : Option ℕ) → BySlot x ((w < 2 ^ 31) × (N w ≡ true) × (w < length nodes) × StandsIn k nodes N leaves L (node_at nodes w) d g) (λ h. (h < 2 ^ 16) × (w ≡ 2 ^ 31 + h)) → StandsIn k nodes N leaves L node d g
    by None t = subst (λ (n : Node). StandsIn k nodes N leaves L n d g) (some_is (node_at nodes w) node (sym (node_some nodes w (lt_yes w t.0)) ∙ is)) t.3
    by (Some h) t = absurd (none_some node (sym (node_none nodes w (lt_no w h t.1)) ∙ is))

pub word_is_node : (nodes : Space Node) (leaves : Space ℕ) (w : ℕ) (p : List Bool) (d : ℕ) (f : List Bool → ℕ) (node : Node) → node_of nodes.cells w ≡ Some node → IsOldWord nodes leaves w p d f → IsOldNode nodes.cells leaves.cells node p d f
word_is_node nodes leaves w p d f node is (k, g, s, beside) =
    (k, is_out nodes.free, is_out leaves.free, g, word_node_stands k nodes.cells (is_out nodes.free) leaves.cells (is_out leaves.free) w d g node is s, beside)

pub word_shared : (nodes : Space Node) (nb : Held) (leaves : Space ℕ) (lb : Held) (w d : ℕ) (f : List Bool → ℕ) (node : Node) → node_of nodes.cells w ≡ Some node → ((k : ℕ) (N L : ℕ → Bool) (g : List Bool → ℕ) → StandsIn k nodes.cells N leaves.cells L node d g → SameAnswers d f g) → ReplacesWord nodes nb leaves lb w nodes nb leaves lb w d f
unfolding trie_nodes trie_leaves
word_shared nodes nb leaves lb w d f node is same k g x y m m2 few p =
    let al = same k (is_out nodes.free) (is_out leaves.free) g (word_node_stands k nodes.cells (is_out nodes.free) leaves.cells (is_out leaves.free) w d g node is p.stands) in
    let mix : mixed (one_answer d f) ≡ mixed (one_answer d g) = ap mixed (one_alike d f g al) in
    record {
      stands = word_alike k nodes.cells (is_out nodes.free) leaves.cells (is_out leaves.free) w d f g (λ a l. sym (al a l)) p.stands;
      nodes_apart = p.nodes_apart;
      leaves_apart = p.leaves_apart;
      nodes_fill = omega (arith, p.nodes_fill, need_alike k d f g al, mix);
      leaves_fill = omega (arith, p.leaves_fill, need_leaves_alike k d f g al);
    }
