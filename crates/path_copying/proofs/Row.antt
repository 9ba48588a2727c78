-- The 64 children of a node, of which one after another is made anew.
use Rattle.std.proofs.Common.{◌≡◌, ◌≢◌, ℕ, ◌+◌, ◌-◌, ◌<◌, List, [], ◌++◌, Bool, true, false, cond, nat_eq, Option, Some, None, refl, sym, ap, ◌∙◌, arith, subst, inl, inr}
use Rattle.std.specs.Prelude.{◌⊎◌}
use Rattle.std.proofs.lemmas.List.{append_assoc}
use Rattle.std.proofs.lemmas.Bool.{cases_eq, eqb-false}
use Rattle.buddy_arena.specs.Space.{Space}
use Rattle.buddy_arena.specs.Places.{Keeps, count_free, is_out}
use Rattle.buddy_arena.specs.Arrays.{Array, AreApart, places_of}
use Rattle.buddy_arena.proofs.Sets.{places_append}
use Rattle.buddy_arena.proofs.Parting.{part_left}
use Rattle.poptrie_build.specs.Strides.{total}
use Rattle.poptrie_build.specs.Need.{need_nodes, need_leaves}
use Rattle.poptrie_build.specs.Arrays.{gather}
use Rattle.poptrie_build.specs.Stands.{blank, node_at}
use Rattle.poptrie_build.specs.declared.node.Node.{Node}
use Rattle.poptrie_build.proofs.Carry.{Carries, carry}
use Rattle.poptrie_build.proofs.Parting.{gather_same, part_at, nodes_same, leaves_same}
use Rattle.path_copying.specs.Kids.{StandsAs, kid_arrays, kid_leaf_arrays}
use Rattle.path_copying.specs.Changes.{Part}
use Rattle.path_copying.proofs.Like.{Like, like_is, like_then, like_under, like_behind, like_move}
use Rattle.path_copying.proofs.Excepting.{except, except_of, taken_out, total_same, total_out}

-- each child stands for its slot's answers, and all of their arrays share no place with each other nor with what is beside them
pub record Row (k : ℕ) (nodes : Space Node) (leaves : Space ℕ) (kids : ℕ → Option Node) (d : ℕ) (h : ℕ → List Bool → ℕ) (beside beside2 : List Array) (m m2 : ℕ) : Type 0 where
  pub stands : (u : ℕ) → u < 64 → StandsAs k nodes.cells (is_out nodes.free) leaves.cells (is_out leaves.free) (kids u) (d - 6) (h u)
  pub nodes_apart : AreApart (is_out nodes.free) (gather (λ u. kid_arrays k nodes.cells (kids u)) 64 ++ beside)
  pub leaves_apart : AreApart (is_out leaves.free) (gather (λ u. kid_leaf_arrays k nodes.cells (kids u)) 64 ++ beside2)
  pub nodes_fill : count_free nodes + (places_of beside + total (λ u. need_nodes k (d - 6) (h u)) 64) ≡ m
  pub leaves_fill : count_free leaves + (places_of beside2 + total (λ u. need_leaves k (d - 6) (h u)) 64) ≡ m2

-- ---- what is kept
pub carries : {A : Type 0} (e : A) (cells after : List A) (N M : ℕ → Bool) → Keeps e cells N after M → Carries e cells N after M
carries e cells after N M k = record { inside = k.still; same = k.same; long = k.long }

pub stands_kept : (k : ℕ) (nodes nodes2 : Space Node) (leaves leaves2 : Space ℕ) (n : Option Node) (d : ℕ) (f : List Bool → ℕ) → Keeps blank nodes.cells (is_out nodes.free) nodes2.cells (is_out nodes2.free) → Keeps 0 leaves.cells (is_out leaves.free) leaves2.cells (is_out leaves2.free) →
    StandsAs k nodes.cells (is_out nodes.free) leaves.cells (is_out leaves.free) n d f → StandsAs k nodes2.cells (is_out nodes2.free) leaves2.cells (is_out leaves2.free) n d f
stands_kept k nodes nodes2 leaves leaves2 None d f a b s = s
stands_kept k nodes nodes2 leaves leaves2 (Some n) d f a b s = carry k nodes.cells nodes2.cells (is_out nodes.free) (is_out nodes2.free) leaves.cells leaves2.cells (is_out leaves.free) (is_out leaves2.free) n d f (carries blank _ _ _ _ a) (carries 0 _ _ _ _ b) s

-- arrays that stand in places that hold what they held
pub arrays_kept : (k : ℕ) (N : ℕ → Bool) (nodes after : List Node) (n : Option Node) → ((i : ℕ) → N i ≡ true → node_at after i ≡ node_at nodes i) → AreApart N (kid_arrays k nodes n) → (kid_arrays k after n ≡ kid_arrays k nodes n) × (kid_leaf_arrays k after n ≡ kid_leaf_arrays k nodes n)
arrays_kept k N nodes after None h a = (refl, refl)
arrays_kept k N nodes after (Some n) h a = (nodes_same k N nodes after n h a, leaves_same k N nodes after n h a)

pub except_same : (g h : ℕ → List Array) (v u : ℕ) → (u ≢ v → g u ≡ h u) → except g v u ≡ except h v u
except_same g h v u e = by (nat_eq u v) refl
  where
    by : (b : Bool) → nat_eq u v ≡ b → (let r : List Array = cond b [] (g u) in r) ≡ (let r : List Array = cond b [] (h u) in r)
    by true t = refl
    by false t = e (eqb-false u v t)

pub except_of_same : (g h : ℕ → ℕ) (v u : ℕ) → (u ≢ v → g u ≡ h u) → except_of g v u ≡ except_of h v u
except_of_same g h v u e = by (nat_eq u v) refl
  where
    by : (b : Bool) → nat_eq u v ≡ b → (let r : ℕ = cond b 0 (g u) in r) ≡ (let r : ℕ = cond b 0 (h u) in r)
    by true t = refl
    by false t = e (eqb-false u v t)

pub fill : (c c2 r s o b n n2 t w w2 rx sx x rb sb m : ℕ) → c2 + (sx + n2) ≡ c + (rx + n) → c + (rb + w) ≡ m → rx ≡ r + x → sx ≡ s + x → x ≡ o + b → rb ≡ r + b → sb ≡ s + b → w ≡ n + t → w2 ≡ n2 + t → c2 + (sb + w2) ≡ m
fill c c2 r s o b n n2 t w w2 rx sx x rb sb m p q e1 e2 e3 e4 e5 e6 e7 = omega arith

-- ---- one child is changed
module _ (g : ℕ → List Array) (v : ℕ) (low : v < 64) (gone beside : List Array) where
  out : Like (gather g 64 ++ (gone ++ beside)) (g v ++ (gone ++ (gather (except g v) 64 ++ beside)))
  out =
      like_then _ _ _ (like_behind (gone ++ beside) _ _ (taken_out g v 64 low).0)
      (like_then _ _ _ (like_is _ _ (append_assoc (g v) (gather (except g v) 64) (gone ++ beside)))
      (like_under (g v) _ _ (like_move (gather (except g v) 64) gone beside)))

  back : Like (g v ++ (gone ++ (gather (except g v) 64 ++ beside))) (gather g 64 ++ (gone ++ beside))
  back =
      like_then _ _ _ (like_under (g v) _ _ (like_move gone (gather (except g v) 64) beside))
      (like_then _ _ _ (like_is _ _ (sym (append_assoc (g v) (gather (except g v) 64) (gone ++ beside))))
      (like_behind (gone ++ beside) _ _ (taken_out g v 64 low).1))

module _ (k d v : ℕ) (low : v < 64) (nodes nodes2 : Space Node) (leaves leaves2 : Space ℕ) (kids kids2 : ℕ → Option Node) (h h2 : ℕ → List Bool → ℕ) (r r2 s s2 beside beside2 : List Array) (m m2 : ℕ) where
  module _ (same_kids : (u : ℕ) → u < 64 → u ≢ v → kids2 u ≡ kids u) (same_answers : (u : ℕ) → u < 64 → u ≢ v → h2 u ≡ h u)
      (a : Keeps blank nodes.cells (is_out nodes.free) nodes2.cells (is_out nodes2.free)) (b : Keeps 0 leaves.cells (is_out leaves.free) leaves2.cells (is_out leaves2.free))
      (change : (x y : List Array) (p q : ℕ) → Part k nodes leaves (kids v) (d - 6) (h v) (r ++ x) (r2 ++ y) p q → Part k nodes2 leaves2 (kids2 v) (d - 6) (h2 v) (s ++ x) (s2 ++ y) p q)
      (row : Row k nodes leaves kids d h (r ++ beside) (r2 ++ beside2) m m2) where
    abbrev mine : ℕ → List Array
    mine u = kid_arrays k nodes.cells (kids u)

    abbrev mine2 : ℕ → List Array
    mine2 u = kid_arrays k nodes2.cells (kids2 u)

    abbrev leaf : ℕ → List Array
    leaf u = kid_leaf_arrays k nodes.cells (kids u)

    abbrev leaf2 : ℕ → List Array
    leaf2 u = kid_leaf_arrays k nodes2.cells (kids2 u)

    abbrev need : ℕ → ℕ
    need u = need_nodes k (d - 6) (h u)

    abbrev need2 : ℕ → ℕ
    need2 u = need_nodes k (d - 6) (h2 u)

    abbrev leaf_need : ℕ → ℕ
    leaf_need u = need_leaves k (d - 6) (h u)

    abbrev leaf_need2 : ℕ → ℕ
    leaf_need2 u = need_leaves k (d - 6) (h2 u)

    abbrev x : List Array
    x = gather (except mine v) 64 ++ beside

    abbrev y : List Array
    y = gather (except leaf v) 64 ++ beside2

    part : Part k nodes2 leaves2 (kids2 v) (d - 6) (h2 v) (s ++ x) (s2 ++ y) (count_free nodes + (places_of (r ++ x) + need v)) (count_free leaves + (places_of (r2 ++ y) + leaf_need v))
    part = change x y _ _ (record {
      stands = row.stands v low;
      nodes_apart = (out mine v low r beside).apart (is_out nodes.free) row.nodes_apart;
      leaves_apart = (out leaf v low r2 beside2).apart (is_out leaves.free) row.leaves_apart;
      nodes_fill = refl;
      leaves_fill = refl;
    })

    kept : (u : ℕ) → u < 64 → u ≢ v → (mine2 u ≡ mine u) × (leaf2 u ≡ leaf u)
    kept u l ne =
        let both = arrays_kept k (is_out nodes.free) nodes.cells nodes2.cells (kids u) (λ i q. a.same i q) (part_at (is_out nodes.free) mine 64 u l (part_left (is_out nodes.free) (gather mine 64) (r ++ beside) row.nodes_apart)) in
        (ap (kid_arrays k nodes2.cells) (same_kids u l ne) ∙ both.0, ap (kid_leaf_arrays k nodes2.cells) (same_kids u l ne) ∙ both.1)

    others : gather (except mine v) 64 ≡ gather (except mine2 v) 64
    others = gather_same (except mine v) (except mine2 v) 64 (λ u l. except_same mine mine2 v u (λ ne. sym (kept u l ne).0))

    leaf_others : gather (except leaf v) 64 ≡ gather (except leaf2 v) 64
    leaf_others = gather_same (except leaf v) (except leaf2 v) 64 (λ u l. except_same leaf leaf2 v u (λ ne. sym (kept u l ne).1))

    needs : total (except_of need v) 64 ≡ total (except_of need2 v) 64
    needs = total_same (except_of need v) (except_of need2 v) 64 (λ u l. except_of_same need need2 v u (λ ne. ap (need_nodes k (d - 6)) (sym (same_answers u l ne))))

    leaf_needs : total (except_of leaf_need v) 64 ≡ total (except_of leaf_need2 v) 64
    leaf_needs = total_same (except_of leaf_need v) (except_of leaf_need2 v) 64 (λ u l. except_of_same leaf_need leaf_need2 v u (λ ne. ap (need_leaves k (d - 6)) (sym (same_answers u l ne))))

    stands_now : (u : ℕ) → u < 64 → (u ≡ v) ⊎ (u ≢ v) → StandsAs k nodes2.cells (is_out nodes2.free) leaves2.cells (is_out leaves2.free) (kids2 u) (d - 6) (h2 u)
    stands_now u l (inl e) = subst (λ (w : ℕ). StandsAs k nodes2.cells (is_out nodes2.free) leaves2.cells (is_out leaves2.free) (kids2 w) (d - 6) (h2 w)) (sym e) part.stands
    stands_now u l (inr ne) =
        subst (λ (n : Option Node). StandsAs k nodes2.cells (is_out nodes2.free) leaves2.cells (is_out leaves2.free) n (d - 6) (h2 u)) (sym (same_kids u l ne))
        (subst (λ (f : List Bool → ℕ). StandsAs k nodes2.cells (is_out nodes2.free) leaves2.cells (is_out leaves2.free) (kids u) (d - 6) f) (sym (same_answers u l ne))
        (stands_kept k nodes nodes2 leaves leaves2 (kids u) (d - 6) (h u) a b (row.stands u l)))

    pub row_next : Row k nodes2 leaves2 kids2 d h2 (s ++ beside) (s2 ++ beside2) m m2
    row_next = record {
      stands = λ u l. stands_now u l (cases_eq u v);
      nodes_apart = (back mine2 v low s beside).apart (is_out nodes2.free) (subst (λ (z : List Array). AreApart (is_out nodes2.free) (mine2 v ++ (s ++ (z ++ beside)))) others part.nodes_apart);
      leaves_apart = (back leaf2 v low s2 beside2).apart (is_out leaves2.free) (subst (λ (z : List Array). AreApart (is_out leaves2.free) (leaf2 v ++ (s2 ++ (z ++ beside2)))) leaf_others part.leaves_apart);
      nodes_fill =
          fill (count_free nodes) (count_free nodes2) (places_of r) (places_of s) (places_of (gather (except mine v) 64)) (places_of beside) (need v) (need2 v) (total (except_of need v) 64) (total need 64) (total need2 64) (places_of (r ++ x)) (places_of (s ++ x)) (places_of x) (places_of (r ++ beside)) (places_of (s ++ beside)) m
          part.nodes_fill row.nodes_fill (places_append r x) (places_append s x) (places_append (gather (except mine v) 64) beside) (places_append r beside) (places_append s beside) (total_out need v 64 low) (total_out need2 v 64 low ∙ ap (λ z. need2 v + z) (sym needs));
      leaves_fill =
          fill (count_free leaves) (count_free leaves2) (places_of r2) (places_of s2) (places_of (gather (except leaf v) 64)) (places_of beside2) (leaf_need v) (leaf_need2 v) (total (except_of leaf_need v) 64) (total leaf_need 64) (total leaf_need2 64) (places_of (r2 ++ y)) (places_of (s2 ++ y)) (places_of y) (places_of (r2 ++ beside2)) (places_of (s2 ++ beside2)) m2
          part.leaves_fill row.leaves_fill (places_append r2 y) (places_append s2 y) (places_append (gather (except leaf v) 64) beside2) (places_append r2 beside2) (places_append s2 beside2) (total_out leaf_need v 64 low) (total_out leaf_need2 v 64 low ∙ ap (λ z. leaf_need2 v + z) (sym leaf_needs));
    }

-- ---- the same row, written another way
pub row_same : (k d : ℕ) (nodes : Space Node) (leaves : Space ℕ) (kids kids2 : ℕ → Option Node) (h h2 : ℕ → List Bool → ℕ) (beside beside2 : List Array) (m m2 : ℕ) → ((u : ℕ) → u < 64 → kids2 u ≡ kids u) → ((u : ℕ) → u < 64 → h2 u ≡ h u) → Row k nodes leaves kids d h beside beside2 m m2 → Row k nodes leaves kids2 d h2 beside beside2 m m2
row_same k d nodes leaves kids kids2 h h2 beside beside2 m m2 ek eh row = record {
  stands = λ u l.
      subst (λ (n : Option Node). StandsAs k nodes.cells (is_out nodes.free) leaves.cells (is_out leaves.free) n (d - 6) (h2 u)) (sym (ek u l))
      (subst (λ (f : List Bool → ℕ). StandsAs k nodes.cells (is_out nodes.free) leaves.cells (is_out leaves.free) (kids u) (d - 6) f) (sym (eh u l)) (row.stands u l));
  nodes_apart = subst (λ (z : List Array). AreApart (is_out nodes.free) (z ++ beside)) (gather_same _ _ 64 (λ u l. ap (kid_arrays k nodes.cells) (sym (ek u l)))) row.nodes_apart;
  leaves_apart = subst (λ (z : List Array). AreApart (is_out leaves.free) (z ++ beside2)) (gather_same _ _ 64 (λ u l. ap (kid_leaf_arrays k nodes.cells) (sym (ek u l)))) row.leaves_apart;
  nodes_fill = ap (λ z. count_free nodes + (places_of beside + z)) (total_same _ _ 64 (λ u l. ap (need_nodes k (d - 6)) (eh u l))) ∙ row.nodes_fill;
  leaves_fill = ap (λ z. count_free leaves + (places_of beside2 + z)) (total_same _ _ 64 (λ u l. ap (need_leaves k (d - 6)) (eh u l))) ∙ row.leaves_fill;
}
