-- A node's region from those of its halves, where a route changes.
use Rattle.std.proofs.Common.{get_or, drop, slice_set, ◌≡◌, ◌≢◌, ℕ, zero, suc, ◌+◌, ◌-◌, ◌<◌, ◌≤◌, List, [], ◌∷◌, ◌++◌, length, Bool, true, false, cond, not, ◌&&◌, refl, sym, ap, ◌∙◌, subst, arith, Option, Some, None, nat_eq}
use Rattle.std.proofs.lemmas.Bool.{ne_eqb}
use Rattle.std.specs.Int.{bit_at}
use Rattle.std.proofs.lemmas.List.{drop_more, drop-set-lt}
use Rattle.std.specs.Option.{unwrap_or, is_some}
use Rattle.table_model.specs.Bits.{begins, bits_of}
use Rattle.table_model.specs.Table.{Table, lpm, half, root, inherit}
use Rattle.table_model.proofs.Cut.{lpm_cut, lpm_nil}
use Rattle.table_model.specs.Sets.{side}
use Rattle.table_model.specs.Regions.{join}
use Rattle.table_model.proofs.Join.{root_join, low_join, high_join}
use Rattle.orig_tree.specs.Edits.{edit}
use Rattle.orig_tree.specs.Packed.{cover_in}
use Rattle.orig_tree.specs.Walk.{Walks}
use Rattle.orig_tree.specs.Arena.{Owner, At, cell_at, half_place, from_half, IfHalf, IsTree, walks_at, walks_by}
use Rattle.orig_tree.specs.Bests.{IsRegionBest, best_one, best_behind, AreBest, put_at, changed, under, Untouched, UntouchedElse, IsMended, HalfMended}
use Rattle.orig_tree.specs.declared.node.Node.{Node}
use Rattle.orig_tree.specs.declared.node.Label.TheVariants.{Route}
use Rattle.orig_tree.specs.declared.best.Best.{Best}
use Rattle.orig_tree.specs.declared.best.Change.{Change}
use Rattle.orig_tree.proofs.Arena.{begins_self, begins_less, below_it}
use Rattle.orig_tree.proofs.Rooms.{eq_is, at_same, no, no_begin, both_not, tree_name}
use Rattle.orig_tree.proofs.Paths.{no_bits, first_bit}
use Rattle.orig_tree.proofs.Lists.{edit_low, edit_high, edit_own}
use Rattle.orig_tree.proofs.Steps.{level_half, level_root, given_is}
use Rattle.orig_tree.proofs.Fitting.{walk_fits, covered_gets}
use Rattle.orig_tree.proofs.Standing.{stands_one, stands_alike, if_half, both_half, best_alike, best_carry, best_same}

-- ---- answers at a node and in its halves

pub lpm_under : (R : Table) (h : ℕ) (a : List Bool) → lpm R a h ≡ under (inherit (root R) h) R a
lpm_under R h [] = lpm_nil R h
lpm_under R h (b ∷ a) = lpm_cut R b a h

-- the routes of a node's halves
pub half_routes : (f : ℕ → Walks) (n : Node) (b : Bool) → half b (walks_by f n).routes ≡ (from_half f (half_place n b)).routes
half_routes f n false = level_half false Route n.route.hop n.entry.hop (from_half f (half_place n false)) (from_half f (half_place n true))
half_routes f n true = level_half true Route n.route.hop n.entry.hop (from_half f (half_place n false)) (from_half f (half_place n true))

pub own_route : (f : ℕ → Walks) (n : Node) → root (walks_by f n).routes ≡ n.route.hop
own_route f n = level_root Route n.route.hop n.entry.hop (from_half f (half_place n false)) (from_half f (half_place n true))

-- what a half's addresses get
pub half_gets : (f : ℕ → Walks) (n : Node) (b : Bool) (h : ℕ) (a : List Bool) → lpm (walks_by f n).routes (b ∷ a) h ≡ lpm (from_half f (half_place n b)).routes a (inherit n.route.hop h)
half_gets f n b h a = lpm_cut (walks_by f n).routes b a h ∙ (ap (λ R. lpm R a (inherit (root (walks_by f n).routes) h)) (half_routes f n b) ∙ ap (λ o. lpm (from_half f (half_place n b)).routes a (inherit o h)) (own_route f n))

-- with the route at a path below changed
pub half_edit : (f : ℕ → Walks) (n : Node) (b : Bool) (p : List Bool) (set : Option ℕ) → half b (edit (b ∷ p) set (walks_by f n).routes) ≡ edit p set (from_half f (half_place n b)).routes
half_edit f n false p set =
    let L = (from_half f (half_place n false)).routes in
    let M = (from_half f (half_place n true)).routes in
    ap (half false) (edit_low p set n.route.hop L M) ∙ low_join n.route.hop (edit p set L) M
half_edit f n true p set =
    let L = (from_half f (half_place n false)).routes in
    let M = (from_half f (half_place n true)).routes in
    ap (half true) (edit_high p set n.route.hop L M) ∙ high_join n.route.hop L (edit p set M)

pub other_edit : (f : ℕ → Walks) (n : Node) (b : Bool) (p : List Bool) (set : Option ℕ) → half (not b) (edit (b ∷ p) set (walks_by f n).routes) ≡ (from_half f (half_place n (not b))).routes
other_edit f n false p set =
    let L = (from_half f (half_place n false)).routes in
    let M = (from_half f (half_place n true)).routes in
    ap (half true) (edit_low p set n.route.hop L M) ∙ high_join n.route.hop (edit p set L) M
other_edit f n true p set =
    let L = (from_half f (half_place n false)).routes in
    let M = (from_half f (half_place n true)).routes in
    ap (half false) (edit_high p set n.route.hop L M) ∙ low_join n.route.hop L (edit p set M)

pub root_edit : (f : ℕ → Walks) (n : Node) (b : Bool) (p : List Bool) (set : Option ℕ) → root (edit (b ∷ p) set (walks_by f n).routes) ≡ n.route.hop
root_edit f n false p set =
    let L = (from_half f (half_place n false)).routes in
    let M = (from_half f (half_place n true)).routes in
    ap root (edit_low p set n.route.hop L M) ∙ root_join n.route.hop (edit p set L) M
root_edit f n true p set =
    let L = (from_half f (half_place n false)).routes in
    let M = (from_half f (half_place n true)).routes in
    ap root (edit_high p set n.route.hop L M) ∙ root_join n.route.hop L (edit p set M)

-- with the node's own route changed
pub own_edit : (f : ℕ → Walks) (n : Node) (set : Option ℕ) (h : ℕ) (a : List Bool) → lpm (edit [] set (walks_by f n).routes) a h ≡ under (inherit set h) (walks_by f n).routes a
own_edit f n set h a =
    let L = (from_half f (half_place n false)).routes in
    let M = (from_half f (half_place n true)).routes in
    ap (λ R. lpm R a h) (edit_own set n.route.hop L M) ∙ (lpm_under (join set L M) h a ∙ (ap (λ o. under (inherit o h) (join set L M) a) (root_join set L M) ∙ by_bit L M a))
  where
    by_bit : (L M : Table) (a : List Bool) → under (inherit set h) (join set L M) a ≡ under (inherit set h) (join n.route.hop L M) a
    by_bit L M [] = refl
    by_bit L M (false ∷ a) = ap (λ R. lpm R a (inherit set h)) (low_join set L M ∙ sym (low_join n.route.hop L M))
    by_bit L M (true ∷ a) = ap (λ R. lpm R a (inherit set h)) (high_join set L M ∙ sym (high_join n.route.hop L M))

-- ---- changes

pub changed_push : (cs : List Change) (c : Change) (kept : ℕ → Best) → changed (cs ++ c ∷ []) kept ≡ put_at (changed cs kept) c.place c.best
changed_push [] c kept = refl
changed_push (e ∷ cs) c kept = changed_push cs c (put_at kept e.place e.best)

pub put_here : (kept : ℕ → Best) (i : ℕ) (x : Best) → put_at kept i x i ≡ x
put_here kept i x = ap (λ (b : Bool). cond b x (kept i)) (eq_is i i refl)

pub put_other : (kept : ℕ → Best) (i j : ℕ) (x : Best) → j ≢ i → put_at kept i x j ≡ kept j
put_other kept i j x n = ap (λ (b : Bool). cond b x (kept j)) (ne_eqb j i n)

-- the places of a half are apart from the node's
else_not : (name : ℕ → Owner) (i j : ℕ) (p r : List Bool) → name i ≡ At p → name j ≡ At r → begins p r ≡ false → j ≢ i
else_not name i j p r e f h s =
    let g : r ≡ p = at_same r p (sym f ∙ ap name s ∙ e) in
    let x : true ≡ false = sym (begins_self p) ∙ ap (begins p) (sym g) ∙ h in
    cc

half_else : (p r : List Bool) (b : Bool) → begins p r ≡ false → begins (p ++ (b ∷ [])) r ≡ false
half_else p r b h = no (begins (p ++ (b ∷ [])) r) (λ e. no_begin p r b e h)

other_else : (p r : List Bool) (b c : Bool) → b ≢ c → begins (p ++ (b ∷ [])) r ≡ true → begins (p ++ (c ∷ [])) r ≡ false
other_else p r b c n h = no (begins (p ++ (c ∷ [])) r) (λ e. both_not p r b c n h e)

pub half_alike : (d : ℕ) (cells : List Node) (name : ℕ → Owner) (o : Option ℕ) (p : List Bool) (f g : List Bool → ℕ) (old new : ℕ → Best) (x : Best) → ((a : List Bool) → length a ≡ d → f a ≡ g a) → HalfMended d cells name o p f old new x → HalfMended d cells name o p g old new x
half_alike d cells name o p f g old new x e m = record {
  stands = stands_alike d f g x e m.stands;
  best = if_half (λ j. AreBest (suc d) cells new f j) (λ j. AreBest (suc d) cells new g j) o (λ j. best_alike (suc d) cells new f g j (λ a l. e a (suc_same (length a) d l))) m.best;
  keeps = m.keeps;
}
  where
    suc_same : (a b : ℕ) → suc a ≡ suc b → a ≡ b
    suc_same a b e = omega (arith, e)

pub mended_alike : (d : ℕ) (cells : List Node) (name : ℕ → Owner) (i : ℕ) (p : List Bool) (f g : List Bool → ℕ) (old new : ℕ → Best) (x : Best) → ((a : List Bool) → length a ≡ d → f a ≡ g a) → IsMended d cells name i p f old new x → IsMended d cells name i p g old new x
mended_alike d cells name i p f g old new x e m = record {
  stands = stands_alike d f g x e m.stands;
  best = best_alike (suc d) cells new f g i (λ a l. e a (suc_is (length a) d l)) m.best;
  keeps = m.keeps;
}
  where
    suc_is : (a b : ℕ) → suc a ≡ suc b → a ≡ b
    suc_is a b e = omega (arith, e)

-- a node's region, once both its halves are right
pub both_mended : (d : ℕ) (cells : List Node) (name : ℕ → Owner) (i : ℕ) (p : List Bool) (f : List Bool → ℕ) (S0 S1 S2 : ℕ → Best) (low high x : Best) → IsTree (suc (suc d)) cells name i p →
    HalfMended d cells name (half_place (cell_at cells i) false) (p ++ (false ∷ [])) (side false f) S0 S1 low →
    HalfMended d cells name (half_place (cell_at cells i) true) (p ++ (true ∷ [])) (side true f) S1 S2 high →
    IsRegionBest (suc d) f x → IsMended (suc d) cells name i p f S0 (put_at S2 i x) x
unfolding AreBest IsTree
both_mended d cells name i p f S0 S1 S2 low high x t l h s =
    let at : name i ≡ At p = t.0 in
    let n = cell_at cells i in
    let S3 = put_at S2 i x in
    let T : Bool → ℕ → Type 0 = λ b j. IsTree (suc d) cells name j (p ++ (b ∷ [])) in
    let R : Bool → ℕ → Type 0 = λ b j. AreBest (suc d) cells S3 (side b f) j in
    let lows : IfHalf (R false) (half_place n false) =
    both_half (T false) (λ j. AreBest (suc d) cells S1 (side false f) j) (R false) (half_place n false)
    (λ j u k. best_carry (suc d) cells cells S1 S3 name (side false f) j (p ++ (false ∷ [])) u
    (λ y r e b. (refl, put_other S2 i y x (below_it name i y p r false at e b) ∙ h.keeps y r e (other_else p r false true (λ z. cc) b))) k) (t.2.halves false) l.best
    in
    let highs : IfHalf (R true) (half_place n true) =
    both_half (T true) (λ j. AreBest (suc d) cells S2 (side true f) j) (R true) (half_place n true)
    (λ j u k. best_carry (suc d) cells cells S2 S3 name (side true f) j (p ++ (true ∷ [])) u
    (λ y r e b. (refl, put_other S2 i y x (below_it name i y p r true at e b))) k) (t.2.halves true) h.best
    in
    record {
      stands = s;
      best = (subst (λ (y : Best). IsRegionBest (suc d) f y) (sym (put_here S2 i x)) s, λ b. elim b as (λ b. IfHalf (R b) (half_place n b)) [ true ↦ highs | false ↦ lows ]);
      keeps = λ j r e b. put_other S2 i j x (else_not name i j p r at e b) ∙ (h.keeps j r e (half_else p r true b) ∙ l.keeps j r e (half_else p r false b));
    }

-- what is kept is the same everywhere
pub mended_same : (d : ℕ) (cells : List Node) (name : ℕ → Owner) (i : ℕ) (p : List Bool) (f : List Bool → ℕ) (S0 T S : ℕ → Best) (x : Best) → ((j : ℕ) → S j ≡ T j) → T i ≡ x → IsMended d cells name i p f S0 T x → IsMended d cells name i p f S0 S (S i)
mended_same d cells name i p f S0 T S x e h m = record {
  stands = subst (λ (y : Best). IsRegionBest d f y) (sym (e i ∙ h)) m.stands;
  best = best_same (suc d) cells T S f i e m.best;
  keeps = λ j r g b. e j ∙ m.keeps j r g b;
}

-- a node with no bits left
pub end_mended : (cells : List Node) (name : ℕ → Owner) (i : ℕ) (p : List Bool) (f : List Bool → ℕ) (S0 : ℕ → Best) (x : Best) → IsTree 1 cells name i p → IsRegionBest 0 f x → IsMended 0 cells name i p f S0 (put_at S0 i x) x
unfolding AreBest IsTree
end_mended cells name i p f S0 x t s = record {
  stands = s;
  best = (
    subst (λ (y : Best). IsRegionBest 0 f y) (sym (put_here S0 i x)) s,
    λ b. nothing (λ j. AreBest 0 cells (put_at S0 i x) (side b f) j) (half_place (cell_at cells i) b) (t.2.halves b),
  );
  keeps = λ j r e b. put_other S0 i j x (else_not name i j p r t.0 e b);
}
  where
    nothing : (P : ℕ → Type 0) (o : Option ℕ) → IfHalf (λ j. ⊥) o → IfHalf P o
    nothing P None k = tt
    nothing P (Some j) k = absurd k

-- ---- the region of a node whose own hop is given

under_nil : (h : ℕ) (R : Table) (a : List Bool) → length a ≡ 0 → under h R a ≡ h
under_nil h R [] e = refl
under_nil h R (b ∷ a) e = absurd (omega arith)

noted : (d : ℕ) (cells : List Node) (name : ℕ → Owner) (i : ℕ) (p : List Bool) (f : List Bool → ℕ) (S0 S : ℕ → Best) (M N : List Change) (x : Best) → N ≡ M ++ record { place = i; best = x } ∷ [] →
    IsMended d cells name i p f S0 (put_at (changed M S) i x) x → IsMended d cells name i p f S0 (changed N S) x
noted d cells name i p f S0 S M N x e m =
    subst (λ (K : ℕ → Best). IsMended d cells name i p f S0 K x) (sym (ap (λ cs. changed cs S) e ∙ changed_push M (record { place = i; best = x }) S)) m

pub mend_end : (cells : List Node) (i hop depth : ℕ) (S : ℕ → Best) (O N : List Change) (x : Best) → depth ≡ 0 → x ≡ best_one hop → N ≡ O ++ record { place = i; best = x } ∷ [] →
    (name : ℕ → Owner) (p : List Bool) → IsTree (suc depth) cells name i p → IsMended depth cells name i p (under hop (walks_at (suc depth) cells i).routes) (changed O S) (changed N S) x
mend_end cells i hop zero S O N x z e n name p t =
    let R = (walks_at 1 cells i).routes in
    noted 0 cells name i p (under hop R) (changed O S) S O N x n
    (end_mended cells name i p (under hop R) (changed O S) x t (subst (λ (y : Best). IsRegionBest 0 (under hop R) y) (sym e) (stands_one 0 hop (under hop R) (under_nil hop R))))
mend_end cells i hop (suc depth) S O N x z e n name p t = absurd (omega (arith, z))

-- what the halves kept, told by what they inherited
below_old : (d : ℕ) (cells : List Node) (S : ℕ → Best) (n : Node) (b : Bool) (h : ℕ) (o : Option ℕ) → o ≡ half_place n b →
    IfHalf (λ j. AreBest d cells S (side b (λ a. lpm (walks_by (walks_at d cells) n).routes a h)) j) o → IfHalf (λ j. AreBest d cells S (λ a. lpm (walks_at d cells j).routes a (inherit n.route.hop h)) j) o
below_old d cells S n b h None e k = tt
below_old d cells S n b h (Some j) e k =
    best_alike d cells S (side b (λ a. lpm (walks_by (walks_at d cells) n).routes a h)) (λ a. lpm (walks_at d cells j).routes a (inherit n.route.hop h)) j
    (λ a l. half_gets (walks_at d cells) n b h a ∙ ap (λ o. lpm (from_half (walks_at d cells) o).routes a (inherit n.route.hop h)) (sym e)) k

pub untouched_half : (name : ℕ → Owner) (p : List Bool) (b : Bool) (S S' : ℕ → Best) → Untouched p name S S' → Untouched (p ++ (b ∷ [])) name S S'
untouched_half name p b S S' u j r e h = u j r e (begins_less p r b h)

untouched_after : (name : ℕ → Owner) (p : List Bool) (b c : Bool) (S S' S'' : ℕ → Best) → b ≢ c → Untouched p name S S' → UntouchedElse (p ++ (b ∷ [])) name S' S'' → Untouched (p ++ (c ∷ [])) name S S''
untouched_after name p b c S S' S'' n u k j r e h = k j r e (other_else p r c b (λ z. n (sym z)) h) ∙ u j r e (begins_less p r c h)

module _ (cells : List Node) (i : ℕ) (n : Node) (at : n ≡ cell_at cells i) (m depth : ℕ) (dm : suc m ≡ depth) (lo ho : Option ℕ) (le : lo ≡ half_place n false) (he : ho ≡ half_place n true) where
  F : ℕ → Walks
  F = walks_at (suc m) cells

  abbrev Trees : Option ℕ → (ℕ → Owner) → List Bool → Type 0
  Trees o name p = IfHalf (λ j. IsTree (suc m) cells name j p) o

  abbrev Olds : Option ℕ → (ℕ → Best) → ℕ → Type 0
  Olds o S h = IfHalf (λ j. AreBest (suc m) cells S (λ a. lpm (walks_at (suc m) cells j).routes a h) j) o

  half_is : (b : Bool) (o : Option ℕ) → o ≡ half_place n b → o ≡ half_place (cell_at cells i) b
  half_is b o e = e ∙ ap (λ x. half_place x b) at

  pub trees_of : (name : ℕ → Owner) (p : List Bool) (b : Bool) (o : Option ℕ) → o ≡ half_place n b → IsTree (suc (suc m)) cells name i p → Trees o name (p ++ (b ∷ []))
  unfolding IsTree
  trees_of name p b o e t = subst (λ (y : Option ℕ). IfHalf (λ j. IsTree (suc m) cells name j (p ++ (b ∷ []))) y) (sym (half_is b o e)) (t.2.halves b)

  pub olds_of : (S : ℕ → Best) (b : Bool) (o : Option ℕ) (h : ℕ) → o ≡ half_place n b → AreBest (suc (suc m)) cells S (λ a. lpm (walks_at (suc (suc m)) cells i).routes a h) i → Olds o S (inherit n.route.hop h)
  unfolding AreBest walks_at
  olds_of S b o h e k =
      below_old (suc m) cells S n b h o e
      (subst (λ (y : Node). IfHalf (λ j. AreBest (suc m) cells S (side b (λ a. lpm (walks_by (walks_at (suc m) cells) y).routes a h)) j) o) (sym at)
      (subst (λ (y : Option ℕ). IfHalf (λ j. AreBest (suc m) cells S (side b (λ a. lpm (walks_by (walks_at (suc m) cells) (cell_at cells i)).routes a h)) j) y) (sym (half_is b o e)) (k.1 b)))

  -- a half as the halves of the node are told
  told_half : (name : ℕ → Owner) (p : List Bool) (b : Bool) (o : Option ℕ) (f g : List Bool → ℕ) (old new : ℕ → Best) (x : Best) → o ≡ half_place n b → ((a : List Bool) → length a ≡ m → f a ≡ g a) →
      HalfMended m cells name o p f old new x → HalfMended m cells name (half_place (cell_at cells i) b) p g old new x
  told_half name p b o f g old new x e u k = subst (λ (y : Option ℕ). HalfMended m cells name y p g old new x) (half_is b o e) (half_alike m cells name o p f g old new x u k)

  pub mend_node : (hop : ℕ) (S : ℕ → Best) (O M L N : List Change) (low high x : Best) →
      ((name : ℕ → Owner) (p : List Bool) (h : ℕ) → Trees lo name p → Olds lo S h → Untouched p name S (changed O S) → HalfMended m cells name lo p (λ a. lpm (from_half (walks_at (suc m) cells) lo).routes a hop) (changed O S) (changed M S) low) →
      ((name : ℕ → Owner) (p : List Bool) (h : ℕ) → Trees ho name p → Olds ho S h → Untouched p name S (changed M S) → HalfMended m cells name ho p (λ a. lpm (from_half (walks_at (suc m) cells) ho).routes a hop) (changed M S) (changed L S) high) →
      ((d : ℕ) (f : List Bool → ℕ) → IsRegionBest d (side false f) low → IsRegionBest d (side true f) high → IsRegionBest (suc d) f x) →
      N ≡ L ++ record { place = i; best = x } ∷ [] →
      (name : ℕ → Owner) (p : List Bool) (h : ℕ) → IsTree (suc depth) cells name i p → AreBest (suc depth) cells S (λ a. lpm (walks_at (suc depth) cells i).routes a h) i → Untouched p name S (changed O S) →
      IsMended depth cells name i p (under hop (walks_at (suc depth) cells i).routes) (changed O S) (changed N S) x
  unfolding walks_at F
  mend_node hop S O M L N low high x cl ch j e name p h =
      subst (λ (D : ℕ). IsTree (suc D) cells name i p → AreBest (suc D) cells S (λ a. lpm (walks_at (suc D) cells i).routes a h) i → Untouched p name S (changed O S) → IsMended D cells name i p (under hop (walks_at (suc D) cells i).routes) (changed O S) (changed N S) x) dm
      (λ t k u.
      let f = under hop (walks_at (suc (suc m)) cells i).routes in
      let gets : (b : Bool) (o : Option ℕ) → o ≡ half_place n b → (a : List Bool) → length a ≡ m → lpm (from_half (walks_at (suc m) cells) o).routes a hop ≡ side b f a =
      λ b o v a l. ap (λ R. lpm R a hop) (ap (λ y. (from_half (walks_at (suc m) cells) y).routes) (half_is b o v) ∙ sym (half_routes (walks_at (suc m) cells) (cell_at cells i) b)) in
      let l = told_half name (p ++ (false ∷ [])) false lo (λ a. lpm (from_half (walks_at (suc m) cells) lo).routes a hop) (side false f) (changed O S) (changed M S) low le (gets false lo le)
      (cl name (p ++ (false ∷ [])) (inherit n.route.hop h) (trees_of name p false lo le t) (olds_of S false lo h le k) (untouched_half name p false S (changed O S) u)) in
      let r = told_half name (p ++ (true ∷ [])) true ho (λ a. lpm (from_half (walks_at (suc m) cells) ho).routes a hop) (side true f) (changed M S) (changed L S) high he (gets true ho he)
      (ch name (p ++ (true ∷ [])) (inherit n.route.hop h) (trees_of name p true ho he t) (olds_of S true ho h he k) (untouched_after name p false true S (changed O S) (changed M S) (λ z. cc) u l.keeps)) in
      noted (suc m) cells name i p f (changed O S) S L N x e (both_mended m cells name i p f (changed O S) (changed M S) (changed L S) low high x t l r (j m f l.stands r.stands)))

  -- what a half keeps is not changed where the other half is told
  same_half : (o : Option ℕ) (name : ℕ → Owner) (p : List Bool) (x : Best) (S S' : ℕ → Best) → Trees o name (p ++ (false ∷ [])) → UntouchedElse (p ++ (true ∷ [])) name S S' → best_behind S' o x ≡ best_behind S o x
  same_half None name p x S S' t k = refl
  same_half (Some j) name p x S S' t k = k j (p ++ (false ∷ [])) (tree_name (suc m) cells name j (p ++ (false ∷ [])) t) (other_else p (p ++ (false ∷ [])) false true (λ z. cc) (begins_self (p ++ (false ∷ []))))

  pub settle_node : (inherited hop : ℕ) (S0 S1 S2 S3 : ℕ → Best) (x : Best) → hop ≡ unwrap_or n.route.hop inherited →
      ((name : ℕ → Owner) (p : List Bool) → Trees lo name p → HalfMended m cells name lo p (λ a. lpm (from_half (walks_at (suc m) cells) lo).routes a hop) S0 S1 (best_behind S1 lo (best_one hop))) →
      ((name : ℕ → Owner) (p : List Bool) → Trees ho name p → HalfMended m cells name ho p (λ a. lpm (from_half (walks_at (suc m) cells) ho).routes a hop) S1 S2 (best_behind S2 ho (best_one hop))) →
      ((d : ℕ) (f : List Bool → ℕ) → IsRegionBest d (side false f) (best_behind S2 lo (best_one hop)) → IsRegionBest d (side true f) (best_behind S2 ho (best_one hop)) → IsRegionBest (suc d) f x) →
      (i < length cells → (j : ℕ) → S3 j ≡ put_at S2 i x j) →
      (name : ℕ → Owner) (p : List Bool) → IsTree (suc depth) cells name i p → IsMended depth cells name i p (λ a. lpm (walks_at (suc depth) cells i).routes a inherited) S0 S3 (S3 i)
  unfolding walks_at F IsTree
  settle_node inherited hop S0 S1 S2 S3 x hop_is cl ch j made name p =
      subst (λ (D : ℕ). IsTree (suc D) cells name i p → IsMended D cells name i p (λ a. lpm (walks_at (suc D) cells i).routes a inherited) S0 S3 (S3 i)) dm
      (λ t.
      let G = walks_at (suc m) cells in
      let f : List Bool → ℕ = λ a. lpm (walks_by G (cell_at cells i)).routes a inherited in
      let own : inherit (cell_at cells i).route.hop inherited ≡ hop = ap (λ (y : Node). inherit y.route.hop inherited) (sym at) ∙ (given_is n.route.hop inherited ∙ sym hop_is) in
      let gets : (b : Bool) (o : Option ℕ) → o ≡ half_place n b → (a : List Bool) → length a ≡ m → lpm (from_half G o).routes a hop ≡ side b f a =
      λ b o v a l. sym (half_gets G (cell_at cells i) b inherited a ∙ (ap (λ h. lpm (from_half G (half_place (cell_at cells i) b)).routes a h) own ∙ ap (λ y. lpm (from_half G y).routes a hop) (sym (half_is b o v)))) in
      let l = told_half name (p ++ (false ∷ [])) false lo (λ a. lpm (from_half G lo).routes a hop) (side false f) S0 S1 (best_behind S1 lo (best_one hop)) le (gets false lo le) (cl name (p ++ (false ∷ [])) (trees_of name p false lo le t)) in
      let r = told_half name (p ++ (true ∷ [])) true ho (λ a. lpm (from_half G ho).routes a hop) (side true f) S1 S2 (best_behind S2 ho (best_one hop)) he (gets true ho he) (ch name (p ++ (true ∷ [])) (trees_of name p true ho he t)) in
      let same : best_behind S2 lo (best_one hop) ≡ best_behind S1 lo (best_one hop) = same_half lo name p (best_one hop) S1 S2 (trees_of name p false lo le t) r.keeps in
      let s : IsRegionBest (suc m) f x = j m f (subst (λ (y : Best). IsRegionBest m (side false f) y) (sym same) l.stands) r.stands in
      mended_same (suc m) cells name i p f S0 (put_at S2 i x) S3 x (made t.1) (put_here S2 i x)
      (both_mended m cells name i p f S0 S1 S2 (best_behind S1 lo (best_one hop)) (best_behind S2 ho (best_one hop)) x t l r s))

pub settle_end : (cells : List Node) (i inherited hop depth : ℕ) (n : Node) (S0 S3 : ℕ → Best) (x : Best) → depth ≡ 0 → n ≡ cell_at cells i → hop ≡ unwrap_or n.route.hop inherited → x ≡ best_one hop → (i < length cells → (j : ℕ) → S3 j ≡ put_at S0 i x j) →
    (name : ℕ → Owner) (p : List Bool) → IsTree (suc depth) cells name i p → IsMended depth cells name i p (λ a. lpm (walks_at (suc depth) cells i).routes a inherited) S0 S3 (S3 i)
unfolding walks_at IsTree
settle_end cells i inherited hop zero n S0 S3 x z at hop_is e made name p t =
    let f : List Bool → ℕ = λ a. lpm (walks_at 1 cells i).routes a inherited in
    let own : inherit (cell_at cells i).route.hop inherited ≡ hop = ap (λ (y : Node). inherit y.route.hop inherited) (sym at) ∙ (given_is n.route.hop inherited ∙ sym hop_is) in
    let gets : (a : List Bool) → length a ≡ 0 → f a ≡ hop =
    λ a l. ap f (nil_is a l) ∙ (lpm_nil (walks_at 1 cells i).routes inherited ∙ (ap (λ o. inherit o inherited) (own_route (walks_at 0 cells) (cell_at cells i)) ∙ own)) in
    mended_same 0 cells name i p f S0 (put_at S0 i x) S3 x (made t.1) (put_here S0 i x)
    (end_mended cells name i p f S0 x t (subst (λ (y : Best). IsRegionBest 0 f y) (sym e) (stands_one 0 hop f gets)))
  where
    nil_is : (a : List Bool) → length a ≡ 0 → a ≡ []
    nil_is [] l = refl
    nil_is (b ∷ a) l = absurd (omega (arith, l))
settle_end cells i inherited hop (suc depth) n S0 S3 x z at hop_is e made name p t = absurd (omega (arith, z))

-- ---- a half, which inherits a hop

pub half_none : (cells : List Node) (depth hop : ℕ) (o : Option ℕ) (S : ℕ → Best) (x : Best) → o ≡ None → x ≡ best_one hop → (name : ℕ → Owner) (p : List Bool) →
    HalfMended depth cells name o p (λ a. lpm (from_half (walks_at (suc depth) cells) o).routes a hop) S S x
half_none cells depth hop o S x e y name p =
    subst (λ (o : Option ℕ). HalfMended depth cells name o p (λ a. lpm (from_half (walks_at (suc depth) cells) o).routes a hop) S S x) (sym e)
    (subst (λ (z : Best). HalfMended depth cells name None p (λ a. hop) S S z) (sym y) (record { stands = stands_one depth hop (λ a. hop) (λ a l. refl); best = tt; keeps = λ j r f b. refl }))

kept_route : (R : Table) (g h k : ℕ) (a : List Bool) → root R ≡ Some g → lpm R a h ≡ lpm R a k
kept_route R g h k a e = lpm_under R h a ∙ (ap (λ o. under (inherit o h) R a) e ∙ sym (lpm_under R k a ∙ ap (λ o. under (inherit o k) R a) e))

tree_root : (d : ℕ) (cells : List Node) (j : ℕ) (n : Node) → n ≡ cell_at cells j → root (walks_at (suc d) cells j).routes ≡ n.route.hop
unfolding walks_at
tree_root d cells j n e = own_route (walks_at d cells) (cell_at cells j) ∙ sym (ap (λ (x : Node). x.route.hop) e)

pub open_own : (o : Option ℕ) (passes b : Bool) → b ≡ (not (is_some o) && passes) → b ≡ true → o ≡ None
open_own None passes b e t = refl
open_own (Some g) passes b e t = let x : false ≡ true = sym e ∙ t in cc

-- no address of a node's region gets what the node inherits
shut_gets : (d : ℕ) (cells : List Node) (j : ℕ) (n : Node) → n ≡ cell_at cells j → (name : ℕ → Owner) (p : List Bool) → IsTree (suc d) cells name j p → (h k : ℕ) → (not (is_some n.route.hop) && (cover_in n.route).passes) ≡ false →
    (a : List Bool) → length a ≡ d → lpm (walks_at (suc d) cells j).routes a h ≡ lpm (walks_at (suc d) cells j).routes a k
unfolding walks_at IsTree
shut_gets d cells j n at name p t h k shut a l = by_own n.route.hop refl
  where
    by_own : (o : Option ℕ) → n.route.hop ≡ o → lpm (walks_at (suc d) cells j).routes a h ≡ lpm (walks_at (suc d) cells j).routes a k
    by_own (Some g) e = kept_route (walks_at (suc d) cells j).routes g h k a (tree_root d cells j n at ∙ e)
    by_own None e =
        covered_gets (walks_at (suc d) cells j).routes (cover_in (cell_at cells j).route) d t.2.covers.routes (walk_fits d cells j)
        (ap (λ (x : Node). (cover_in x.route).passes) (sym at) ∙ (ap (λ o. not (is_some o) && (cover_in n.route).passes) (sym e) ∙ shut)) h k a l

module _ (cells : List Node) (depth hop : ℕ) (o : Option ℕ) (j : ℕ) (n : Node) (at : n ≡ cell_at cells j) (some : o ≡ Some j) (name : ℕ → Owner) (p : List Bool) where
  -- a half that stays as it was
  pub half_stays : (h : ℕ) (S S0 : ℕ → Best) (x : Best) → (not (is_some n.route.hop) && (cover_in n.route).passes) ≡ false → x ≡ S j →
      IfHalf (λ j. IsTree (suc depth) cells name j p) o → IfHalf (λ j. AreBest (suc depth) cells S (λ a. lpm (walks_at (suc depth) cells j).routes a h) j) o → Untouched p name S S0 →
      HalfMended depth cells name o p (λ a. lpm (from_half (walks_at (suc depth) cells) o).routes a hop) S0 S0 x
  unfolding AreBest
  half_stays h S S0 x shut y t k u =
      let R = (walks_at (suc depth) cells j).routes in
      let t' : IsTree (suc depth) cells name j p = subst (λ (z : Option ℕ). IfHalf (λ j. IsTree (suc depth) cells name j p) z) some t in
      let k' : AreBest (suc depth) cells S (λ a. lpm R a h) j = subst (λ (z : Option ℕ). IfHalf (λ j. AreBest (suc depth) cells S (λ a. lpm (walks_at (suc depth) cells j).routes a h) j) z) some k in
      let gets : (a : List Bool) → length a ≡ depth → lpm R a h ≡ lpm R a hop = shut_gets depth cells j n at name p t' h hop shut in
      subst (λ (z : Option ℕ). HalfMended depth cells name z p (λ a. lpm (from_half (walks_at (suc depth) cells) z).routes a hop) S0 S0 x) (sym some)
      (record {
        stands = stands_alike depth (λ a. lpm R a h) (λ a. lpm R a hop) x gets (subst (λ (z : Best). IsRegionBest depth (λ a. lpm R a h) z) (sym y) k'.0);
        best = best_alike (suc depth) cells S0 (λ a. lpm R a h) (λ a. lpm R a hop) j (λ a l. gets a (omega (arith, l))) (best_carry (suc depth) cells cells S S0 name (λ a. lpm R a h) j p t' (λ z q e b. (refl, u z q e b)) k');
        keeps = λ z q e b. refl;
      })

  -- a half that has no route of its own
  pub half_mended : (h : ℕ) (S S0 S1 : ℕ → Best) (x : Best) → n.route.hop ≡ None →
      (IsTree (suc depth) cells name j p → AreBest (suc depth) cells S (λ a. lpm (walks_at (suc depth) cells j).routes a h) j → IsMended depth cells name j p (under hop (walks_at (suc depth) cells j).routes) S0 S1 x) →
      IfHalf (λ j. IsTree (suc depth) cells name j p) o → IfHalf (λ j. AreBest (suc depth) cells S (λ a. lpm (walks_at (suc depth) cells j).routes a h) j) o →
      HalfMended depth cells name o p (λ a. lpm (from_half (walks_at (suc depth) cells) o).routes a hop) S0 S1 x
  half_mended h S S0 S1 x own f t k =
      let R = (walks_at (suc depth) cells j).routes in
      let t' : IsTree (suc depth) cells name j p = subst (λ (z : Option ℕ). IfHalf (λ j. IsTree (suc depth) cells name j p) z) some t in
      let k' : AreBest (suc depth) cells S (λ a. lpm R a h) j = subst (λ (z : Option ℕ). IfHalf (λ j. AreBest (suc depth) cells S (λ a. lpm (walks_at (suc depth) cells j).routes a h) j) z) some k in
      let m = mended_alike depth cells name j p (under hop R) (λ a. lpm R a hop) S0 S1 x (λ a l. sym (lpm_under R hop a ∙ ap (λ o. under (inherit o hop) R a) (tree_root depth cells j n at ∙ own))) (f t' k') in
      subst (λ (z : Option ℕ). HalfMended depth cells name z p (λ a. lpm (from_half (walks_at (suc depth) cells) z).routes a hop) S0 S1 x) (sym some)
      (record { stands = m.stands; best = m.best; keeps = m.keeps })

-- ---- the way to a path whose route changes

pub plan_end : (cells : List Node) (depth i left q inherited hop : ℕ) (set : Option ℕ) (name : ℕ → Owner) (p : List Bool) (S0 S1 : ℕ → Best) (x : Best) → left ≡ 0 → hop ≡ unwrap_or set inherited →
    IsMended depth cells name i p (under hop (walks_at (suc depth) cells i).routes) S0 S1 x → IsMended depth cells name i p (λ a. lpm (edit (bits_of left q) set (walks_at (suc depth) cells i).routes) a inherited) S0 S1 x
unfolding walks_at
plan_end cells depth i left q inherited hop set name p S0 S1 x z e m =
    let R = (walks_at (suc depth) cells i).routes in
    mended_alike depth cells name i p (under hop R) (λ a. lpm (edit (bits_of left q) set R) a inherited) S0 S1 x
    (λ a l. sym (ap (λ r. lpm (edit r set R) a inherited) (no_bits left q z) ∙ (own_edit (walks_at depth cells) (cell_at cells i) set inherited a ∙ ap (λ h. under h R a) (given_is set inherited ∙ sym e)))) m

-- the half beside the way
far_half : (cells : List Node) (m hop : ℕ) (o : Option ℕ) (S S' : ℕ → Best) (name : ℕ → Owner) (p : List Bool) → IfHalf (λ j. IsTree (suc m) cells name j p) o → IfHalf (λ j. AreBest (suc m) cells S (λ a. lpm (walks_at (suc m) cells j).routes a hop) j) o → Untouched p name S S' →
    HalfMended m cells name o p (λ a. lpm (from_half (walks_at (suc m) cells) o).routes a hop) S' S' (best_behind S o (best_one hop))
unfolding AreBest
far_half cells m hop None S S' name p t k u = record { stands = stands_one m hop (λ a. hop) (λ a l. refl); best = tt; keeps = λ j r f b. refl }
far_half cells m hop (Some j) S S' name p t k u = record {
  stands = k.0;
  best = best_carry (suc m) cells cells S S' name (λ a. lpm (walks_at (suc m) cells j).routes a hop) j p t (λ z q e b. (refl, u z q e b)) k;
  keeps = λ z q e b. refl;
}

module _ (cells : List Node) (i : ℕ) (n : Node) (at : n ≡ cell_at cells i) (m depth : ℕ) (dm : suc m ≡ depth) (b : Bool) (no fo : Option ℕ) (ne : no ≡ half_place n b) (fe : fo ≡ half_place n (not b))
    (left q inherited hop : ℕ) (set : Option ℕ) (z : left ≢ 0) (bit : b ≡ nat_eq (bit_at q (left - 1)) 1) (hop_is : hop ≡ unwrap_or n.route.hop inherited) where
  pub plan_node : (S : ℕ → Best) (O L N : List Change) (near far x : Best) →
      ((name : ℕ → Owner) (p : List Bool) → IfHalf (λ j. IsTree (suc m) cells name j p) no → IfHalf (λ j. AreBest (suc m) cells S (λ a. lpm (walks_at (suc m) cells j).routes a hop) j) no → Untouched p name S (changed O S) →
      HalfMended m cells name no p (λ a. lpm (edit (bits_of (left - 1) q) set (from_half (walks_at (suc m) cells) no).routes) a hop) (changed O S) (changed L S) near) →
      far ≡ best_behind S fo (best_one hop) →
      ((d : ℕ) (f : List Bool → ℕ) → IsRegionBest d (side b f) near → IsRegionBest d (side (not b) f) far → IsRegionBest (suc d) f x) →
      N ≡ L ++ record { place = i; best = x } ∷ [] →
      (name : ℕ → Owner) (p : List Bool) → IsTree (suc depth) cells name i p → AreBest (suc depth) cells S (λ a. lpm (walks_at (suc depth) cells i).routes a inherited) i → Untouched p name S (changed O S) →
      IsMended depth cells name i p (λ a. lpm (edit (bits_of left q) set (walks_at (suc depth) cells i).routes) a inherited) (changed O S) (changed N S) x
  unfolding walks_at
  plan_node S O L N near far x cn fr j e name p =
      subst (λ (D : ℕ). IsTree (suc D) cells name i p → AreBest (suc D) cells S (λ a. lpm (walks_at (suc D) cells i).routes a inherited) i → Untouched p name S (changed O S) → IsMended D cells name i p (λ a. lpm (edit (bits_of left q) set (walks_at (suc D) cells i).routes) a inherited) (changed O S) (changed N S) x) dm
      (λ t k u.
      let G = walks_at (suc m) cells in
      let nd = cell_at cells i in
      let P = bits_of (left - 1) q in
      let f : List Bool → ℕ = λ a. lpm (edit (bits_of left q) set (walks_by G nd).routes) a inherited in
      let own : inherit nd.route.hop inherited ≡ hop = ap (λ (x : Node). inherit x.route.hop inherited) (sym at) ∙ (given_is n.route.hop inherited ∙ sym hop_is) in
      let path : bits_of left q ≡ b ∷ P = first_bit left q b z bit in
      let nears : (a : List Bool) → length a ≡ m → lpm (edit P set (from_half G no).routes) a hop ≡ side b f a =
      λ a l. sym (ap (λ r. lpm (edit r set (walks_by G nd).routes) (b ∷ a) inherited) path
      ∙ (lpm_cut (edit (b ∷ P) set (walks_by G nd).routes) b a inherited
      ∙ (ap (λ R. lpm R a (inherit (root (edit (b ∷ P) set (walks_by G nd).routes)) inherited)) (half_edit G nd b P set)
      ∙ (ap (λ w. lpm (edit P set (from_half G (half_place nd b)).routes) a (inherit w inherited)) (root_edit G nd b P set)
      ∙ (ap (λ h. lpm (edit P set (from_half G (half_place nd b)).routes) a h) own
      ∙ ap (λ y. lpm (edit P set (from_half G y).routes) a hop) (sym (ne ∙ ap (λ y. half_place y b) at))))))) in
      let fars : (a : List Bool) → length a ≡ m → lpm (from_half G fo).routes a hop ≡ side (not b) f a =
      λ a l. sym (ap (λ r. lpm (edit r set (walks_by G nd).routes) (not b ∷ a) inherited) path
      ∙ (lpm_cut (edit (b ∷ P) set (walks_by G nd).routes) (not b) a inherited
      ∙ (ap (λ R. lpm R a (inherit (root (edit (b ∷ P) set (walks_by G nd).routes)) inherited)) (other_edit G nd b P set)
      ∙ (ap (λ w. lpm (from_half G (half_place nd (not b))).routes a (inherit w inherited)) (root_edit G nd b P set)
      ∙ (ap (λ h. lpm (from_half G (half_place nd (not b))).routes a h) own
      ∙ ap (λ y. lpm (from_half G y).routes a hop) (sym (fe ∙ ap (λ y. half_place y (not b)) at))))))) in
      let apart : b ≢ not b = differ b in
      let olds : (c : Bool) (o : Option ℕ) → o ≡ half_place n c → IfHalf (λ j. AreBest (suc m) cells S (λ a. lpm (walks_at (suc m) cells j).routes a hop) j) o =
      λ c o v. subst (λ (h : ℕ). IfHalf (λ j. AreBest (suc m) cells S (λ a. lpm (walks_at (suc m) cells j).routes a h) j) o) (given_is n.route.hop inherited ∙ sym hop_is) (olds_of cells i n at m (suc m) refl (half_place n false) (half_place n true) refl refl S c o inherited v k) in
      let trees : (c : Bool) (o : Option ℕ) → o ≡ half_place n c → IfHalf (λ j. IsTree (suc m) cells name j (p ++ (c ∷ []))) o =
      λ c o v. trees_of cells i n at m (suc m) refl (half_place n false) (half_place n true) refl refl name p c o v t in
      let l = told_half cells i n at m (suc m) refl (half_place n false) (half_place n true) refl refl name (p ++ (b ∷ [])) b no (λ a. lpm (edit P set (from_half G no).routes) a hop) (side b f) (changed O S) (changed L S) near ne nears
      (cn name (p ++ (b ∷ [])) (trees b no ne) (olds b no ne) (untouched_half name p b S (changed O S) u)) in
      let r : (S' : ℕ → Best) → Untouched (p ++ (not b ∷ [])) name S S' → HalfMended m cells name (half_place nd (not b)) (p ++ (not b ∷ [])) (side (not b) f) S' S' far =
      λ S' v. subst (λ (y : Best). HalfMended m cells name (half_place nd (not b)) (p ++ (not b ∷ [])) (side (not b) f) S' S' y) (sym fr)
      (told_half cells i n at m (suc m) refl (half_place n false) (half_place n true) refl refl name (p ++ (not b ∷ [])) (not b) fo (λ a. lpm (from_half G fo).routes a hop) (side (not b) f) S' S' (best_behind S fo (best_one hop)) fe fars
      (far_half cells m hop fo S S' name (p ++ (not b ∷ [])) (trees (not b) fo fe) (olds (not b) fo fe) v)) in
      noted (suc m) cells name i p f (changed O S) S L N x e (by_side b (changed O S) (changed L S) f name p t l (r (changed O S) (untouched_half name p (not b) S (changed O S) u)) (r (changed L S) (untouched_after name p b (not b) S (changed O S) (changed L S) apart u l.keeps)) (j m f l.stands (r (changed O S) (untouched_half name p (not b) S (changed O S) u)).stands)))
    where
      differ : (b : Bool) → b ≡ not b → ⊥
      differ true e = cc
      differ false e = cc

      by_side : (b : Bool) (S0 S1 : ℕ → Best) (f : List Bool → ℕ) (name : ℕ → Owner) (p : List Bool) → IsTree (suc (suc m)) cells name i p → HalfMended m cells name (half_place (cell_at cells i) b) (p ++ (b ∷ [])) (side b f) S0 S1 near →
          HalfMended m cells name (half_place (cell_at cells i) (not b)) (p ++ (not b ∷ [])) (side (not b) f) S0 S0 far → HalfMended m cells name (half_place (cell_at cells i) (not b)) (p ++ (not b ∷ [])) (side (not b) f) S1 S1 far → IsRegionBest (suc m) f x →
          IsMended (suc m) cells name i p f S0 (put_at S1 i x) x
      by_side true S0 S1 f name p t l r r' s = both_mended m cells name i p f S0 S0 S1 far near x t r l s
      by_side false S0 S1 f name p t l r r' s = both_mended m cells name i p f S0 S1 S1 near far x t l r' s

-- ---- a half on the way

pub way_none : (cells : List Node) (depth left q inherited : ℕ) (set o : Option ℕ) (S : ℕ → Best) (x : Best) → o ≡ None → left ≤ depth → ((d q : ℕ) → left ≤ d → IsRegionBest d (λ a. lpm (edit (bits_of left q) set []) a inherited) x) → (name : ℕ → Owner) (p : List Bool) →
    HalfMended depth cells name o p (λ a. lpm (edit (bits_of left q) set (from_half (walks_at (suc depth) cells) o).routes) a inherited) S S x
way_none cells depth left q inherited set o S x e l s name p =
    subst (λ (o : Option ℕ). HalfMended depth cells name o p (λ a. lpm (edit (bits_of left q) set (from_half (walks_at (suc depth) cells) o).routes) a inherited) S S x) (sym e)
    (record { stands = s depth q l; best = tt; keeps = λ j r f b. refl })

pub way_more : (cells : List Node) (depth left q h : ℕ) (set : Option ℕ) (o : Option ℕ) (j : ℕ) (S S0 S1 : ℕ → Best) (more : Bool) (x : Best) → o ≡ Some j →
    ((name : ℕ → Owner) (p : List Bool) → IsTree (suc depth) cells name j p → AreBest (suc depth) cells S (λ a. lpm (walks_at (suc depth) cells j).routes a h) j → Untouched p name S S0 →
    IsMended depth cells name j p (λ a. lpm (edit (bits_of left q) set (walks_at (suc depth) cells j).routes) a h) S0 S1 (cond more x (S j))) →
    (name : ℕ → Owner) (p : List Bool) → IfHalf (λ j. IsTree (suc depth) cells name j p) o → IfHalf (λ j. AreBest (suc depth) cells S (λ a. lpm (walks_at (suc depth) cells j).routes a h) j) o → Untouched p name S S0 →
    HalfMended depth cells name o p (λ a. lpm (edit (bits_of left q) set (from_half (walks_at (suc depth) cells) o).routes) a h) S0 S1 (cond more x (best_behind S o (best_one h)))
way_more cells depth left q h set o j S S0 S1 more x e f name p =
    subst (λ (o : Option ℕ). IfHalf (λ j. IsTree (suc depth) cells name j p) o → IfHalf (λ j. AreBest (suc depth) cells S (λ a. lpm (walks_at (suc depth) cells j).routes a h) j) o → Untouched p name S S0 →
    HalfMended depth cells name o p (λ a. lpm (edit (bits_of left q) set (from_half (walks_at (suc depth) cells) o).routes) a h) S0 S1 (cond more x (best_behind S o (best_one h)))) (sym e)
    (λ t k u. let m = f name p t k u in record { stands = m.stands; best = m.best; keeps = m.keeps })

-- ---- changes are made

changed_alike : (cs : List Change) (S T : ℕ → Best) (n : ℕ) → ((j : ℕ) → j ≤ n → S j ≡ T j) → (j : ℕ) → j ≤ n → changed cs S j ≡ changed cs T j
changed_alike [] S T n e j l = e j l
changed_alike (c ∷ cs) S T n e j l = changed_alike cs (put_at S c.place c.best) (put_at T c.place c.best) n (λ k m. ap (cond (nat_eq k c.place) c.best) (e k m)) j l

pub commit_step : (items : List Change) (k n : ℕ) (d y : Change) (S T : ℕ → Best) (goal : ℕ → Best) → k < length items → ((j : ℕ) → j ≤ n → T j ≡ put_at S (get_or items k d).place (get_or items k d).best j) →
    ((j : ℕ) → j ≤ n → changed (drop k items) S j ≡ goal j) → (j : ℕ) → j ≤ n → changed (drop (k + 1) (slice_set items k y)) T j ≡ goal j
commit_step items k n d y S T goal l t g j m =
    ap (λ cs. changed cs T j) (drop-set-lt (k + 1) items k y (omega arith))
    ∙ (changed_alike (drop (k + 1) items) T (put_at S (get_or items k d).place (get_or items k d).best) n t j m
    ∙ (ap (λ cs. changed cs S j) (sym (drop_more items k d l)) ∙ g j m))
