-- A new node's blocks come out, and in the end its children and leaves are written there.
use Rattle.std.proofs.Common.{◌≡◌, ℕ, suc, ◌+◌, ◌-◌, ◌*◌, ◌<◌, ◌≤◌, List, [], ◌∷◌, ◌++◌, Bool, true, false, Option, Some, None, length, refl, sym, ap, ◌∙◌, arith, subst, inl, inr}
use Rattle.std.specs.Prelude.{not, ◌&&◌, ◌||◌, ◌⊎◌}
use Rattle.std.specs.Int.{bit_at}
use Rattle.buddy_arena.specs.Space.{Space}
use Rattle.buddy_arena.specs.Space as arena
use Rattle.buddy_arena.specs.Powers.{up}
use Rattle.buddy_arena.specs.Places.{Keeps, TakesPlaces, count_free, is_out}
use Rattle.buddy_arena.specs.Arrays.{Array, Has, IsIn, AreApart, has, among}
use Rattle.buddy_arena.proofs.Powers.{up_above}
use Rattle.buddy_arena.proofs.Parting.{apart_cons, part_left}
use Rattle.buddy_arena.proofs.Sets.{places_append, both, both_left, both_right, not_true, was_false, place_is, apart_less}
use Rattle.fib_addr.specs.Answers.{one_answer}
use Rattle.poptrie_build.specs.Bits.{rank_of}
use Rattle.poptrie_build.specs.Strides.{slots, slot, mixed, run_start}
use Rattle.poptrie_build.specs.Need.{children, runs}
use Rattle.poptrie_build.specs.Stands.{BySlot, IsCanonical, IsLeaf, node_at, blank}
use Rattle.poptrie_build.specs.Build.{StandsIn}
use Rattle.poptrie_build.specs.Arrays.{gather, node_arrays, leaf_arrays}
use Rattle.poptrie_build.specs.declared.node.Node.{Node}
use Rattle.poptrie_build.proofs.Carry.{carry}
use Rattle.poptrie_build.proofs.Counting.{need_nodes_is, need_leaves_is}
use Rattle.poptrie_build.proofs.Going.{rank_le}
use Rattle.poptrie_build.proofs.Parting.{gather_same, part_at}
use Rattle.poptrie_build.proofs.So_far.{rank_total}
use Rattle.poptrie_build.proofs.Walk.{leaf_ranked, node_ranked}
use Rattle.path_copying.specs.Kids.{StandsAs, kid_at, kid_arrays, kid_leaf_arrays}
use Rattle.path_copying.specs.Changes.{Part}
use Rattle.path_copying.specs.Written.{WritesCells}
use Rattle.path_copying.proofs.Copied.{held_in}
use Rattle.path_copying.proofs.Like.{like_then, like_under, like_move}
use Rattle.path_copying.proofs.Opened.{kid_some, node_arrays_is, leaf_arrays_is}
use Rattle.path_copying.proofs.Row.{Row, stands_kept, arrays_kept}

-- ---- a block comes out
pub block_in : (base n len : ℕ) (old new : ℕ → Bool) → TakesPlaces base n old new len → (q : ℕ) × (base ≡ q * n) → IsIn new (base, n)
block_in base n len old new t q = ((λ i h. let e : base + (i - base) ≡ i = omega (arith, h.0) in ap new (sym e) ∙ t.are (i - base) (omega (arith, h.0, h.1))), q)

pub block_was : (base n len : ℕ) (old new : ℕ → Bool) → TakesPlaces base n old new len → (i : ℕ) → Has (base, n) i → old i ≡ false
block_was base n len old new t i h = let e : base + (i - base) ≡ i = omega (arith, h.0) in ap old (sym e) ∙ t.were (i - base) (omega (arith, h.0, h.1))

-- the block stands beside what was out
pub one_more : (N M : ℕ → Bool) (a : Array) (xs r beside : List Array) → IsIn M a → ((i : ℕ) → Has a i → N i ≡ false) → ((i : ℕ) → N i ≡ true → M i ≡ true) → AreApart N (xs ++ (r ++ beside)) → AreApart M (xs ++ (r ++ (a ∷ beside)))
one_more N M a xs r beside i w s p =
    (like_then _ _ _ (like_move (a ∷ []) xs (r ++ beside)) (like_under xs _ _ (like_move (a ∷ []) r beside))).apart M
    (apart_cons N M a (xs ++ (r ++ beside)) i w s p)

module _ (k d : ℕ) (nodes nodes2 : Space Node) (leaves leaves2 : Space ℕ) (kids : ℕ → Option Node) (h : ℕ → List Bool → ℕ) (r r2 beside beside2 : List Array) (m m2 base1 base0 c e : ℕ) where
  pub row_taken : Keeps blank nodes.cells (is_out nodes.free) nodes2.cells (is_out nodes2.free) → Keeps 0 leaves.cells (is_out leaves.free) leaves2.cells (is_out leaves2.free) → nodes2.cells ≡ nodes.cells →
      TakesPlaces base1 (up c) (is_out nodes.free) (is_out nodes2.free) (length nodes2.cells) → TakesPlaces base0 (up e) (is_out leaves.free) (is_out leaves2.free) (length leaves2.cells) → (q : ℕ) × (base1 ≡ q * up c) → (q : ℕ) × (base0 ≡ q * up e) →
      count_free nodes2 + up c ≡ count_free nodes → count_free leaves2 + up e ≡ count_free leaves →
      Row k nodes leaves kids d h (r ++ beside) (r2 ++ beside2) m m2 → Row k nodes2 leaves2 kids d h (r ++ ((base1, up c) ∷ beside)) (r2 ++ ((base0, up e) ∷ beside2)) m m2
  row_taken a b cells tn tl qn ql ln ll row = record {
    stands = λ u low. stands_kept k nodes nodes2 leaves leaves2 (kids u) (d - 6) (h u) a b (row.stands u low);
    nodes_apart =
        subst (λ (x : List Node). AreApart (is_out nodes2.free) (gather (λ u. kid_arrays k x (kids u)) 64 ++ (r ++ ((base1, up c) ∷ beside)))) (sym cells)
        (one_more (is_out nodes.free) (is_out nodes2.free) (base1, up c) _ r beside (block_in base1 (up c) _ _ _ tn qn) (block_was base1 (up c) _ _ _ tn) a.still row.nodes_apart);
    leaves_apart =
        subst (λ (x : List Node). AreApart (is_out leaves2.free) (gather (λ u. kid_leaf_arrays k x (kids u)) 64 ++ (r2 ++ ((base0, up e) ∷ beside2)))) (sym cells)
        (one_more (is_out leaves.free) (is_out leaves2.free) (base0, up e) _ r2 beside2 (block_in base0 (up e) _ _ _ tl ql) (block_was base0 (up e) _ _ _ tl) b.still row.leaves_apart);
    nodes_fill = omega (arith, row.nodes_fill, ln, places_append r beside, places_append r ((base1, up c) ∷ beside));
    leaves_fill = omega (arith, row.leaves_fill, ll, places_append r2 beside2, places_append r2 ((base0, up e) ∷ beside2));
  }

-- ---- all children are done
-- places that are out and not in the block
pub beyond : (ℕ → Bool) → Array → ℕ → Bool
beyond N a i = N i && not (has a i)

pub beyond_from : (N : ℕ → Bool) (a : Array) (i : ℕ) → N i ≡ true → among (a ∷ []) i ≡ false → beyond N a i ≡ true
unfolding beyond
beyond_from N a i n e = both (N i) (not (has a i)) n (not_true (has a i) (first (has a i) e))
  where
    first : (b : Bool) → (b || false) ≡ false → b ≡ false
    first true q = cc
    first false q = refl

pub beyond_in : (N : ℕ → Bool) (a : Array) (i : ℕ) → beyond N a i ≡ true → N i ≡ true
unfolding beyond
beyond_in N a i e = both_left (N i) _ e

pub beyond_out : (N : ℕ → Bool) (base n i : ℕ) → beyond N (base, n) i ≡ true → (i < base) ⊎ (base + n ≤ i)
unfolding beyond
beyond_out N base n i e = by (cases i) (was_false (has (base, n) i) (both_right (N i) _ e))
  where
    cases : (j : ℕ) → (base ≤ j) × (j < base + n) ⊎ ((j < base) ⊎ (base + n ≤ j))
    cases j = grind arith

    by : (base ≤ i) × (i < base + n) ⊎ ((i < base) ⊎ (base + n ≤ i)) → has (base, n) i ≡ false → (i < base) ⊎ (base + n ≤ i)
    by (inl h) f = (let t : has (base, n) i ≡ true = place_is (base, n) i h in cc)
    by (inr h) f = h

less_out : (base c n i : ℕ) → c ≤ n → (i < base) ⊎ (base + n ≤ i) → (i < base) ⊎ (base + c ≤ i)
less_out base c n i l (inl h) = inl h
less_out base c n i l (inr h) = inr (omega arith)

pub front : (N : ℕ → Bool) (a : Array) (xs r beside : List Array) → AreApart N (xs ++ (r ++ (a ∷ beside))) → AreApart N (a ∷ (xs ++ (r ++ beside)))
front N a xs r beside p = (like_then _ _ _ (like_under xs _ _ (like_move r (a ∷ []) beside)) (like_move xs (a ∷ []) (r ++ beside))).apart N p

module _ (k d : ℕ) (f : List Bool → ℕ) (nodes nodes2 : Space Node) (leaves leaves2 : Space ℕ) (kids : ℕ → Option Node) (r r2 beside beside2 : List Array) (m m2 base1 base0 vector leafvec : ℕ) where
  abbrev node : Node
  node = record { vector = vector; leafvec = leafvec; base0 = base0; base1 = base1 }

  module _ (none : one_answer d f ≡ None) (can : IsCanonical vector leafvec (slots d f)) (wn : WritesCells blank base1 (children (slots d f)) nodes nodes2) (wl : WritesCells 0 base0 (runs (slots d f)) leaves leaves2)
      (at : (v : ℕ) → v < 64 → kid_at nodes2.cells (Some node) v ≡ kids v) (leaf : (v h : ℕ) → v < 64 → slots d f v ≡ Some h → IsLeaf leaves2.cells (base0 + rank_of leafvec (v + 1) - 1) h)
      (within : (i : ℕ) → i < children (slots d f) → base1 + i < length nodes.cells)
      (row : Row k nodes leaves kids d (slot d f) (r ++ ((base1, up (children (slots d f))) ∷ beside)) (r2 ++ ((base0, up (runs (slots d f))) ∷ beside2)) m m2) where
    abbrev own : Array
    own = (base1, up (children (slots d f)))

    abbrev own2 : Array
    own2 = (base0, up (runs (slots d f)))

    c_is : rank_of vector 64 ≡ children (slots d f)
    c_is = rank_total vector 64 (λ v. mixed (slots d f v)) can.nodes

    r_is : rank_of leafvec 64 ≡ runs (slots d f)
    r_is = rank_total leafvec 64 (run_start (slots d f)) can.leaves

    abbrev M : ℕ → Bool
    M = beyond (is_out nodes.free) own

    abbrev ML : ℕ → Bool
    ML = beyond (is_out leaves.free) own2

    abbrev mine : ℕ → List Array
    mine u = kid_arrays k nodes.cells (kids u)

    abbrev leaf_lists : ℕ → List Array
    leaf_lists u = kid_leaf_arrays k nodes.cells (kids u)

    fronted : AreApart (is_out nodes.free) (own ∷ (gather mine 64 ++ (r ++ beside)))
    fronted = front (is_out nodes.free) own (gather mine 64) r beside row.nodes_apart

    fronted2 : AreApart (is_out leaves.free) (own2 ∷ (gather leaf_lists 64 ++ (r2 ++ beside2)))
    fronted2 = front (is_out leaves.free) own2 (gather leaf_lists 64) r2 beside2 row.leaves_apart

    inside : AreApart M (gather mine 64 ++ (r ++ beside))
    inside = apart_less (is_out nodes.free) M (own ∷ []) (gather mine 64 ++ (r ++ beside)) (λ i q e. beyond_from (is_out nodes.free) own i q e) fronted

    inside2 : AreApart ML (gather leaf_lists 64 ++ (r2 ++ beside2))
    inside2 = apart_less (is_out leaves.free) ML (own2 ∷ []) (gather leaf_lists 64 ++ (r2 ++ beside2)) (λ i q e. beyond_from (is_out leaves.free) own2 i q e) fronted2

    kid_inside : (u : ℕ) → u < 64 → AreApart M (mine u)
    kid_inside u l = part_at M mine 64 u l (part_left M (gather mine 64) (r ++ beside) inside)

    kid_inside2 : (u : ℕ) → u < 64 → AreApart ML (leaf_lists u)
    kid_inside2 u l = part_at ML leaf_lists 64 u l (part_left ML (gather leaf_lists 64) (r2 ++ beside2) inside2)

    nodes_same : (i : ℕ) → M i ≡ true → node_at nodes2.cells i ≡ node_at nodes.cells i
    nodes_same i q = wn.others i (less_out base1 _ _ i (up_above (children (slots d f))) (beyond_out (is_out nodes.free) base1 (up (children (slots d f))) i q))

    arrays_same : (u : ℕ) → u < 64 → (kid_arrays k nodes2.cells (kids u) ≡ mine u) × (kid_leaf_arrays k nodes2.cells (kids u) ≡ leaf_lists u)
    arrays_same u l = arrays_kept k M nodes.cells nodes2.cells (kids u) nodes_same (kid_inside u l)

    nodes_are : node_arrays (suc k) nodes2.cells node ≡ own ∷ gather mine 64
    nodes_are =
        node_arrays_is k nodes2.cells node
        ∙ (ap (λ n. (base1, up n) ∷ gather (λ v. kid_arrays k nodes2.cells (kid_at nodes2.cells (Some node) v)) 64) c_is
        ∙ ap (λ (x : List Array). own ∷ x) (gather_same _ mine 64 (λ v l. ap (kid_arrays k nodes2.cells) (at v l) ∙ (arrays_same v l).0)))

    leaves_are : leaf_arrays (suc k) nodes2.cells node ≡ own2 ∷ gather leaf_lists 64
    leaves_are =
        leaf_arrays_is k nodes2.cells node
        ∙ (ap (λ n. (base0, up n) ∷ gather (λ v. kid_leaf_arrays k nodes2.cells (kid_at nodes2.cells (Some node) v)) 64) r_is
        ∙ ap (λ (x : List Array). own2 ∷ x) (gather_same _ leaf_lists 64 (λ v l. ap (kid_leaf_arrays k nodes2.cells) (at v l) ∙ (arrays_same v l).1)))

    -- a child stands where it did
    kid_after : (n : Node) (g : List Bool → ℕ) → AreApart M (node_arrays k nodes.cells n) → AreApart ML (leaf_arrays k nodes.cells n) → StandsIn k nodes.cells (is_out nodes.free) leaves.cells (is_out leaves.free) n (d - 6) g → StandsIn k nodes2.cells (is_out nodes2.free) leaves2.cells (is_out leaves2.free) n (d - 6) g
    kid_after n g a b s =
        carry k nodes.cells nodes2.cells M (is_out nodes2.free) leaves.cells leaves2.cells ML (is_out leaves2.free) n (d - 6) g
        (record { inside = λ i q. ap (λ x. is_out x i) wn.free ∙ beyond_in (is_out nodes.free) own i q; same = nodes_same; long = wn.long })
        (record {
          inside = λ i q. ap (λ x. is_out x i) wl.free ∙ beyond_in (is_out leaves.free) own2 i q;
          same = λ i q. wl.others i (less_out base0 _ _ i (up_above (runs (slots d f))) (beyond_out (is_out leaves.free) base0 (up (runs (slots d f))) i q));
          long = wl.long;
        })
        (held_in k nodes.cells leaves.cells (is_out nodes.free) (is_out leaves.free) M ML n (d - 6) g s a b)

    kid_is : (v : ℕ) (n : Node) → v < 64 → bit_at vector v ≡ 1 → n ≡ node_at nodes2.cells (base1 + rank_of vector (v + 1) - 1) → kids v ≡ Some n
    kid_is v n l e q = sym (at v l) ∙ (kid_some nodes2.cells node v e ∙ ap Some (sym q))

    pub stands : StandsIn (suc k) nodes2.cells (is_out nodes2.free) leaves2.cells (is_out leaves2.free) node d f
    unfolding StandsIn AreApart
    stands = (none, can, λ v l. by v l (slots d f v) refl)
      where
        by : (v : ℕ) → v < 64 → (x : Option ℕ) → slots d f v ≡ x → BySlot x ((is_out nodes2.free (base1 + rank_of vector (v + 1) - 1) ≡ true) × (base1 + rank_of vector (v + 1) - 1 < length nodes2.cells) × StandsIn k nodes2.cells (is_out nodes2.free) leaves2.cells (is_out leaves2.free) (node_at nodes2.cells (base1 + rank_of vector (v + 1) - 1)) (d - 6) (slot d f v)) (λ h. (is_out leaves2.free (base0 + rank_of leafvec (v + 1) - 1) ≡ true) × IsLeaf leaves2.cells (base0 + rank_of leafvec (v + 1) - 1) h)
        by v l None e =
            let i = base1 + rank_of vector (v + 1) - 1 in
            let some = node_ranked vector v (can.nodes v l ∙ ap mixed e) in
            let le = rank_le vector (v + 1) 64 (omega arith) in
            let u = up_above (children (slots d f)) in
            let w = within (rank_of vector (v + 1) - 1) (omega (arith, some, le, c_is)) in
            let is = kid_is v (node_at nodes2.cells i) l (can.nodes v l ∙ ap mixed e) refl in (
              ap (λ x. is_out x i) wn.free ∙ fronted.0.0 i (omega arith, omega (arith, some, le, c_is, u)),
              omega (arith, w, wn.long, some),
              kid_after (node_at nodes2.cells i) (slot d f v)
                  (subst (λ (x : Option Node). AreApart M (kid_arrays k nodes.cells x)) is (kid_inside v l))
                  (subst (λ (x : Option Node). AreApart ML (kid_leaf_arrays k nodes.cells x)) is (kid_inside2 v l))
                  (subst (λ (x : Option Node). StandsAs k nodes.cells (is_out nodes.free) leaves.cells (is_out leaves.free) x (d - 6) (slot d f v)) is (row.stands v l)),
            )
        by v l (Some h) e =
            let i = base0 + rank_of leafvec (v + 1) - 1 in
            let some = leaf_ranked leafvec (slots d f) v h l can.leaves e in
            let le = rank_le leafvec (v + 1) 64 (omega arith) in
            let u = up_above (runs (slots d f)) in
            (ap (λ x. is_out x i) wl.free ∙ fronted2.0.0 i (omega arith, omega (arith, some, le, r_is, u)), leaf v h l e)

    pub finished : Part (suc k) nodes2 leaves2 (Some node) d f (r ++ beside) (r2 ++ beside2) m m2
    finished = record {
      stands = stands;
      nodes_apart =
          subst (λ (x : List Array). AreApart (is_out nodes2.free) (x ++ (r ++ beside))) (sym nodes_are)
          (subst (λ (x : List Bool). AreApart (is_out x) (own ∷ (gather mine 64 ++ (r ++ beside)))) (sym wn.free) fronted);
      leaves_apart =
          subst (λ (x : List Array). AreApart (is_out leaves2.free) (x ++ (r2 ++ beside2))) (sym leaves_are)
          (subst (λ (x : List Bool). AreApart (is_out x) (own2 ∷ (gather leaf_lists 64 ++ (r2 ++ beside2)))) (sym wl.free) fronted2);
      nodes_fill = omega (arith, row.nodes_fill, need_nodes_is k d f none, ap arena.free_count wn.free, places_append r beside, places_append r (own ∷ beside));
      leaves_fill = omega (arith, row.leaves_fill, need_leaves_is k d f none, ap arena.free_count wl.free, places_append r2 beside2, places_append r2 (own2 ∷ beside2));
    }
