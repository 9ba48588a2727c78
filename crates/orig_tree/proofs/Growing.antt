-- What nodes keep where room is made.
use Rattle.std.proofs.Common.{◌≡◌, ◌≢◌, ℕ, zero, suc, ◌-◌, ◌<◌, ◌≤◌, List, [], ◌∷◌, ◌++◌, length, Bool, true, false, ◌⊎◌, inl, inr, refl, sym, ap, ◌∙◌, subst, arith, Option, Some, None, nat_eq}
use Rattle.std.specs.Int.{bit_at}
use Rattle.std.proofs.lemmas.Bool.{cases_order}
use Rattle.std.specs.Option.{unwrap_or}
use Rattle.table_model.specs.Bits.{begins, bits_of}
use Rattle.table_model.specs.Table.{lpm, half, root, inherit}
use Rattle.table_model.proofs.Cut.{lpm_cut}
use Rattle.table_model.specs.Sets.{side}
use Rattle.orig_tree.specs.Edits.{edit}
use Rattle.orig_tree.specs.Walk.{Walks}
use Rattle.orig_tree.specs.Arena.{Owner, At, blank_cell, cell_at, half_place, from_half, IfHalf, IsTree, HasSpares, IsSplit, MakesRoom, KeepsOthers, walks_at, walks_by}
use Rattle.orig_tree.specs.Bests.{IsRegionBest, AreBest, laid, IsGrown}
use Rattle.orig_tree.specs.declared.node.Node.{Node}
use Rattle.orig_tree.specs.declared.best.Best.{Best}
use Rattle.orig_tree.proofs.Arena.{begins_self_not}
use Rattle.orig_tree.proofs.Rooms.{no, no_begin, both_not, nowhere_not}
use Rattle.orig_tree.proofs.Paths.{first_bit}
use Rattle.orig_tree.proofs.Steps.{given_is}
use Rattle.orig_tree.proofs.Standing.{stands_alike, both_half, best_alike, best_carry}
use Rattle.orig_tree.proofs.Mending.{half_routes, own_route, half_edit, root_edit}

-- ---- answers with a route laid

half_laid : (f : ℕ → Walks) (n : Node) (b : Bool) (p : List Bool) (set : Option ℕ) → half b (laid set (b ∷ p) (walks_by f n).routes) ≡ laid set p (from_half f (half_place n b)).routes
half_laid f n b p None = half_routes f n b
half_laid f n b p (Some g) = half_edit f n b p (Some g)

root_laid : (f : ℕ → Walks) (n : Node) (b : Bool) (p : List Bool) (set : Option ℕ) → root (laid set (b ∷ p) (walks_by f n).routes) ≡ n.route.hop
root_laid f n b p None = own_route f n
root_laid f n b p (Some g) = root_edit f n b p (Some g)

-- the answers of a region, and of its half
abbrev pub laid_answers : Option ℕ → List Bool → ℕ → Walks → List Bool → ℕ
laid_answers set q h w a = lpm (laid set q w.routes) a h

laid_half : (f : ℕ → Walks) (n : Node) (b : Bool) (left q h hop : ℕ) (set : Option ℕ) → left ≢ 0 → b ≡ nat_eq (bit_at q (left - 1)) 1 → hop ≡ unwrap_or n.route.hop h → (a : List Bool) →
    side b (laid_answers set (bits_of left q) h (walks_by f n)) a ≡ laid_answers set (bits_of (left - 1) q) hop (from_half f (half_place n b)) a
laid_half f n b left q h hop set z k e a =
    let P = bits_of (left - 1) q in
    let R = (walks_by f n).routes in
    ap (λ r. lpm (laid set r R) (b ∷ a) h) (first_bit left q b z k)
    ∙ (lpm_cut (laid set (b ∷ P) R) b a h
    ∙ (ap (λ T. lpm T a (inherit (root (laid set (b ∷ P) R)) h)) (half_laid f n b P set)
    ∙ ap (λ w. lpm (laid set P (from_half f (half_place n b)).routes) a w) (ap (λ o. inherit o h) (root_laid f n b P set) ∙ (given_is n.route.hop h ∙ sym e))))

laid_nothing : (set : Option ℕ) (p : List Bool) → laid set p [] ≡ edit p set []
laid_nothing None p = refl
laid_nothing (Some g) p = refl

-- ---- a half becomes a node

same_side : (a c : Bool) → (a ≡ c) ⊎ (a ≢ c)
same_side true true = inl refl
same_side true false = inr (λ e. cc)
same_side false true = inr (λ e. cc)
same_side false false = inl refl

no_half : (b : Bool) → half_place blank_cell b ≡ None
no_half true = refl
no_half false = refl

-- places of the tree are places of what is kept
pub within_it : (cells : List Node) (free n j : ℕ) (name : ℕ → Owner) (q : List Bool) → HasSpares cells free name n → name j ≡ At q → j < length cells
within_it cells free n j name q h e =
    let out : length cells ≤ j → ⊥ = λ l. nowhere_not q (sym (h.past j l) ∙ e) in
    elim (cases_order j (length cells)) [
      | inl s ↦ absurd (out (omega (arith, s)))
      | inr r ↦ elim r [ inl l ↦ l | inr l ↦ absurd (out (omega (arith, l))) ]
    ]

split_best : (e : ℕ) (old mid : List Node) (free i j : ℕ) (name : ℕ → Owner) (p : List Bool) (b : Bool) (f : List Bool → ℕ) (S S1 : ℕ → Best) (x : Best) → IsTree (suc (suc e)) old name i p → IsSplit (suc (suc e)) b old mid free name i p j →
    ((k : ℕ) (q : List Bool) → name k ≡ At q → k ≢ j → S1 k ≡ S k) → S1 j ≡ x → IsRegionBest e (side b f) x →
    AreBest (suc (suc e)) old S f i → AreBest (suc (suc e)) mid S1 f i
unfolding AreBest IsTree
split_best e old mid free i j name p b f S S1 x t s same here stands k =
    let at : name i ≡ At p = t.0 in
    let R : Bool → ℕ → Type 0 = λ c y. AreBest (suc e) mid S1 (side c f) y in
    let not_i : i ≢ j = not_j i p at in
    let mine : R b j = (
      subst (λ (y : Best). IsRegionBest e (side b f) y) (sym here) stands,
      λ c. subst (λ (n : Node). IfHalf (λ y. AreBest e mid S1 (side c (side b f)) y) (half_place n c)) (sym s.blank) (subst (λ (o : Option ℕ). IfHalf (λ y. AreBest e mid S1 (side c (side b f)) y) o) (sym (no_half c)) tt),
    ) in
    let rest : (c : Bool) → b ≢ c → IfHalf (R c) (half_place (cell_at mid i) c) =
    λ c ne. subst (λ (o : Option ℕ). IfHalf (R c) o) (sym (s.other c ne))
    (both_half (λ y. IsTree (suc e) old name y (p ++ (c ∷ []))) (λ y. AreBest (suc e) old S (side c f) y) (R c) (half_place (cell_at old i) c)
    (λ y u v. best_carry (suc e) old mid S S1 name (side c f) y (p ++ (c ∷ [])) u (λ z q g h. (s.rest z q c ne g h, same z q g (not_j z q g))) v) (t.2.halves c) (k.1 c))
    in (
      subst (λ (y : Best). IsRegionBest (suc e) f y) (sym (same i p at not_i)) k.0,
      λ c. elim (same_side b c) [
        | inl q ↦ subst (λ (d : Bool). IfHalf (R d) (half_place (cell_at mid i) d)) q (subst (λ (o : Option ℕ). IfHalf (R b) o) (sym s.half) mine)
        | inr ne ↦ rest c ne
      ],
    )
  where
    not_j : (z : ℕ) (q : List Bool) → name z ≡ At q → z ≢ j
    not_j z q g w = s.fresh q (ap name (sym w) ∙ g)

-- ---- room below a half is room below the node

pub grown_below : (d : ℕ) (old new : List Node) (i j : ℕ) (name name' : ℕ → Owner) (p : List Bool) (b : Bool) (f : List Bool → ℕ) (S S' : ℕ → Best) → half_place (cell_at old i) b ≡ Some j →
    IsTree (suc d) old name i p → KeepsOthers (p ++ (b ∷ [])) old new name name' → AreBest (suc d) old S f i → IsGrown d new name j (p ++ (b ∷ [])) (side b f) S S' → IsGrown (suc d) new name i p f S S'
unfolding AreBest IsTree
grown_below d old new i j name name' p b f S S' some t r k g =
    let here = r.same i p t.0 (begins_self_not p b) in
    let R : Bool → ℕ → Type 0 = λ c y. AreBest d new S' (side c f) y in
    let rest : (c : Bool) → b ≢ c → IfHalf (R c) (half_place (cell_at old i) c) =
    λ c ne. both_half (λ y. IsTree d old name y (p ++ (c ∷ []))) (λ y. AreBest d old S (side c f) y) (R c) (half_place (cell_at old i) c)
    (λ y u v. best_carry d old new S S' name (side c f) y (p ++ (c ∷ [])) u
    (λ z q e h. let out : begins (p ++ (b ∷ [])) q ≡ false = no (begins (p ++ (b ∷ [])) q) (λ w. both_not p q b c ne w h) in ((r.same z q e out).0, g.keeps z q e out)) v) (t.2.halves c) (k.1 c)
    in
    record {
      best = (
        subst (λ (y : Best). IsRegionBest d f y) (sym (g.keeps i p t.0 (begins_self_not p b))) k.0,
        λ c. subst (λ (n : Node). IfHalf (R c) (half_place n c)) (sym here.0) (elim (same_side b c) [
          | inl q ↦ subst (λ (x : Bool). IfHalf (R x) (half_place (cell_at old i) x)) q (subst (λ (o : Option ℕ). IfHalf (R b) o) (sym some) g.best)
          | inr ne ↦ rest c ne
        ]),
      );
      keeps = λ z q e h. g.keeps z q e (no (begins (p ++ (b ∷ [])) q) (λ w. no_begin p q b w h));
    }

pub grown_end : (d : ℕ) (cells : List Node) (name : ℕ → Owner) (i : ℕ) (p : List Bool) (f : List Bool → ℕ) (S : ℕ → Best) → AreBest d cells S f i → IsGrown d cells name i p f S S
grown_end d cells name i p f S k = record { best = k; keeps = λ j r e h. refl }

pub grown_alike : (d : ℕ) (new : List Node) (name : ℕ → Owner) (i : ℕ) (p : List Bool) (f g : List Bool → ℕ) (S S' : ℕ → Best) → ((a : List Bool) → f a ≡ g a) → IsGrown d new name i p f S S' → IsGrown d new name i p g S S'
grown_alike d new name i p f g S S' e k = record { best = best_alike d new S' f g i (λ a l. e a) k.best; keeps = k.keeps }

pub tree_side : (d : ℕ) (cells : List Node) (name : ℕ → Owner) (i j : ℕ) (p : List Bool) (b : Bool) → half_place (cell_at cells i) b ≡ Some j → IsTree (suc d) cells name i p → IsTree d cells name j (p ++ (b ∷ []))
unfolding IsTree
tree_side d cells name i j p b is t = subst (λ (o : Option ℕ). IfHalf (λ x. IsTree d cells name x (p ++ (b ∷ []))) o) is (t.2.halves b)

module _ (left q h hop : ℕ) (b : Bool) (set : Option ℕ) (n : Node) (old : List Node) (i : ℕ) (at : n ≡ cell_at old i) (z : left ≢ 0) (bit : b ≡ nat_eq (bit_at q (left - 1)) 1) (hop_is : hop ≡ unwrap_or n.route.hop h) where
  -- the answers of the half, told from the node
  from_node : (d j : ℕ) → half_place (cell_at old i) b ≡ Some j → (a : List Bool) → side b (laid_answers set (bits_of left q) h (walks_at (suc d) old i)) a ≡ laid_answers set (bits_of (left - 1) q) hop (walks_at d old j) a
  unfolding walks_at
  from_node d j some a =
      laid_half (walks_at d old) (cell_at old i) b left q h hop set z bit (hop_is ∙ ap (λ (x : Node). unwrap_or x.route.hop h) at) a
      ∙ ap (λ o. laid_answers set (bits_of (left - 1) q) hop (from_half (walks_at d old) o) a) some

  child_of : (d j : ℕ) (name : ℕ → Owner) (p : List Bool) (S : ℕ → Best) (f : List Bool → ℕ) → half_place (cell_at old i) b ≡ Some j → IsTree (suc d) old name i p → AreBest (suc d) old S f i → IsTree d old name j (p ++ (b ∷ [])) × AreBest d old S (side b f) j
  unfolding AreBest IsTree
  child_of d j name p S f is t k = (
    subst (λ (y : Option ℕ). IfHalf (λ x. IsTree d old name x (p ++ (b ∷ []))) y) is (t.2.halves b),
    subst (λ (y : Option ℕ). IfHalf (λ x. AreBest d old S (side b f) x) y) is (k.1 b),
  )

  pub grown_at : (new : List Node) (free' j d : ℕ) (name : ℕ → Owner) (p : List Bool) (S S' : ℕ → Best) → half_place (cell_at old i) b ≡ Some j → IsTree (suc d) old name i p → MakesRoom d (bits_of (left - 1) q) old new free' name j (p ++ (b ∷ [])) →
      (AreBest d old S (laid_answers set (bits_of (left - 1) q) hop (walks_at d old j)) j → IsGrown d new name j (p ++ (b ∷ [])) (laid_answers set (bits_of (left - 1) q) hop (walks_at d old j)) S S') →
      AreBest (suc d) old S (laid_answers set (bits_of left q) h (walks_at (suc d) old i)) i → IsGrown (suc d) new name i p (laid_answers set (bits_of left q) h (walks_at (suc d) old i)) S S'
  grown_at new free' j d name p S S' is t r g k =
      let f = laid_answers set (bits_of left q) h (walks_at (suc d) old i) in
      let c = child_of d j name p S f is t k in
      grown_below d old new i j name r.name' p b f S S' is t r.keeps k
      (grown_alike d new name j (p ++ (b ∷ [])) (laid_answers set (bits_of (left - 1) q) hop (walks_at d old j)) (side b f) S S' (λ a. sym (from_node d j is a))
      (g (best_alike d old S (side b f) (laid_answers set (bits_of (left - 1) q) hop (walks_at d old j)) j (λ a u. from_node d j is a) c.1)))

  pub some_grown : (new : List Node) (free free' j d m : ℕ) (o : Option ℕ) (name : ℕ → Owner) (p : List Bool) (S S' : ℕ → Best) → o ≡ half_place n b → o ≡ Some j → left < d → IsTree d old name i p → HasSpares old free name m →
      ((e : ℕ) (name1 : ℕ → Owner) (k : ℕ) (v : List Bool) → left - 1 < e → IsTree e old name1 j v → HasSpares old free name1 k → MakesRoom e (bits_of (left - 1) q) old new free' name1 j v) →
      ((e : ℕ) (name1 : ℕ → Owner) (k : ℕ) (v : List Bool) → left - 1 < e → IsTree e old name1 j v → HasSpares old free name1 k → AreBest e old S (laid_answers set (bits_of (left - 1) q) hop (walks_at e old j)) j → IsGrown e new name1 j v (laid_answers set (bits_of (left - 1) q) hop (walks_at e old j)) S S') →
      AreBest d old S (laid_answers set (bits_of left q) h (walks_at d old i)) i → IsGrown d new name i p (laid_answers set (bits_of left q) h (walks_at d old i)) S S'
  some_grown new free free' j zero m o name p S S' e some l t held r g k = absurd (omega (arith, l))
  some_grown new free free' j (suc d) m o name p S S' e some l t held r g k =
      let is : half_place (cell_at old i) b ≡ Some j = ap (λ x. half_place x b) (sym at) ∙ sym e ∙ some in
      let low : left - 1 < d = omega (arith, l, z) in
      let u = tree_side d old name i j p b is t in
      grown_at new free' j d name p S S' is t (r d name m (p ++ (b ∷ [])) low u held) (λ v. g d name m (p ++ (b ∷ [])) low u held v) k

route_is : (d : ℕ) (cells : List Node) (i : ℕ) → root (walks_at (suc d) cells i).routes ≡ (cell_at cells i).route.hop
unfolding walks_at
route_is d cells i = own_route (walks_at d cells) (cell_at cells i)

half_stands : (e left q h hop : ℕ) (b : Bool) (set : Option ℕ) (n : Node) (old : List Node) (i : ℕ) (x : Best) → n ≡ cell_at old i → left ≢ 0 → b ≡ nat_eq (bit_at q (left - 1)) 1 → hop ≡ unwrap_or n.route.hop h → half_place n b ≡ None →
    IsRegionBest e (λ a. lpm (edit (bits_of (left - 1) q) set []) a hop) x → IsRegionBest e (side b (laid_answers set (bits_of left q) h (walks_at (suc (suc e)) old i))) x
unfolding walks_at
half_stands e left q h hop b set n old i x at z bit hop_is gone s =
    stands_alike e (λ a. lpm (edit (bits_of (left - 1) q) set []) a hop) (side b (laid_answers set (bits_of left q) h (walks_at (suc (suc e)) old i))) x
    (λ a u. sym (laid_half (walks_at (suc e) old) (cell_at old i) b left q h hop set z bit (hop_is ∙ ap (λ (y : Node). unwrap_or y.route.hop h) at) a
    ∙ (ap (λ o. lpm (laid set (bits_of (left - 1) q) (from_half (walks_at (suc e) old) o).routes) a hop) (ap (λ y. half_place y b) (sym at) ∙ gone)
    ∙ ap (λ R. lpm R a hop) (laid_nothing set (bits_of (left - 1) q))))) s

-- what is kept after a half became a node, told from before
pub split_grown : (left q h hop : ℕ) (b : Bool) (set : Option ℕ) (n : Node) (old mid new : List Node) (free1 i j d : ℕ) (name : ℕ → Owner) (p : List Bool) (S S1 S' : ℕ → Best) (x : Best) →
    n ≡ cell_at old i → left ≢ 0 → b ≡ nat_eq (bit_at q (left - 1)) 1 → hop ≡ unwrap_or n.route.hop h → half_place n b ≡ None → left < d → IsTree d old name i p →
    (s : IsSplit d b old mid free1 name i p j) → ((k : ℕ) (r : List Bool) → name k ≡ At r → k ≢ j → S1 k ≡ S k) → S1 j ≡ x → ((e q : ℕ) → left - 1 ≤ e → IsRegionBest e (λ a. lpm (edit (bits_of (left - 1) q) set []) a hop) x) →
    (hop ≡ unwrap_or (cell_at mid i).route.hop h)
    × ((AreBest d mid S1 (laid_answers set (bits_of left q) h (walks_at d mid i)) i → IsGrown d new s.name' i p (laid_answers set (bits_of left q) h (walks_at d mid i)) S1 S') →
    AreBest d old S (laid_answers set (bits_of left q) h (walks_at d old i)) i → IsGrown d new name i p (laid_answers set (bits_of left q) h (walks_at d old i)) S S')
split_grown left q h hop b set n old mid new free1 i j zero name p S S1 S' x at z bit hop_is gone l t s same here fr = absurd (omega (arith, l))
split_grown left q h hop b set n old mid new free1 i j (suc zero) name p S S1 S' x at z bit hop_is gone l t s same here fr = absurd (omega (arith, l, z))
split_grown left q h hop b set n old mid new free1 i j (suc (suc e)) name p S S1 S' x at z bit hop_is gone l t s same here fr =
    let f = laid_answers set (bits_of left q) h (walks_at (suc (suc e)) old i) in
    let f1 = laid_answers set (bits_of left q) h (walks_at (suc (suc e)) mid i) in
    let routes = (s.walks []).routes in
    let alike : (a : List Bool) → f a ≡ f1 a = λ a. ap (λ R. lpm (laid set (bits_of left q) R) a h) (sym routes) in (
      hop_is ∙ ap (λ o. unwrap_or o h) (ap (λ (y : Node). y.route.hop) at ∙ sym (sym (route_is (suc e) mid i) ∙ (ap root routes ∙ route_is (suc e) old i))),
      λ g k.
          let k1 = split_best e old mid free1 i j name p b f S S1 x t s same here (half_stands e left q h hop b set n old i x at z bit hop_is gone (fr e q (omega (arith, l, z)))) k in
          let y = g (best_alike (suc (suc e)) mid S1 f f1 i (λ a u. alike a) k1) in
          record {
            best = best_alike (suc (suc e)) new S' f1 f i (λ a u. sym (alike a)) y.best;
            keeps = λ c v w out. y.keeps c v (s.keeps.same c v w out).1 out ∙ same c v w (λ c_is. s.fresh v (ap name (sym c_is) ∙ w));
          },
    )

pub none_grown : (left q h hop : ℕ) (b : Bool) (set : Option ℕ) (n : Node) (old mid new : List Node) (free free1 free' i j d m : ℕ) (name : ℕ → Owner) (p : List Bool) (S S1 S' : ℕ → Best) (x : Best) →
    n ≡ cell_at old i → left ≢ 0 → b ≡ nat_eq (bit_at q (left - 1)) 1 → hop ≡ unwrap_or n.route.hop h → half_place n b ≡ None → left < d → IsTree d old name i p → HasSpares old free name m →
    IsSplit d b old mid free1 name i p j → ((k : ℕ) (r : List Bool) → name k ≡ At r → k ≢ j → S1 k ≡ S k) → S1 j ≡ x → ((e q : ℕ) → left - 1 ≤ e → IsRegionBest e (λ a. lpm (edit (bits_of (left - 1) q) set []) a hop) x) →
    ((e : ℕ) (name1 : ℕ → Owner) (k : ℕ) (v : List Bool) → left - 1 < e → IsTree e mid name1 j v → HasSpares mid free1 name1 k → MakesRoom e (bits_of (left - 1) q) mid new free' name1 j v) →
    ((e : ℕ) (name1 : ℕ → Owner) (k : ℕ) (v : List Bool) → left - 1 < e → IsTree e mid name1 j v → HasSpares mid free1 name1 k → AreBest e mid S1 (laid_answers set (bits_of (left - 1) q) hop (walks_at e mid j)) j → IsGrown e new name1 j v (laid_answers set (bits_of (left - 1) q) hop (walks_at e mid j)) S1 S') →
    AreBest d old S (laid_answers set (bits_of left q) h (walks_at d old i)) i → IsGrown d new name i p (laid_answers set (bits_of left q) h (walks_at d old i)) S S'
none_grown left q h hop b set n old mid new free free1 free' i j d m name p S S1 S' x at z bit hop_is gone l t held s same here fr r g k =
    let w = split_grown left q h hop b set n old mid new free1 i j d name p S S1 S' x at z bit hop_is gone l t s same here fr in
    w.1 (some_grown left q h hop b set (cell_at mid i) mid i refl z bit w.0 new free1 free' j d s.spares (half_place (cell_at mid i) b) s.name' p S1 S' refl s.half l s.tree s.held (λ d n1 c v u w a. r d n1 c v u w a) (λ d n1 c v u w a o. g d n1 c v u w a o)) k

pub tree_inside : (d : ℕ) (cells : List Node) (name : ℕ → Owner) (i : ℕ) (p : List Bool) → IsTree d cells name i p → i < length cells
unfolding IsTree
tree_inside zero cells name i p t = absurd t
tree_inside (suc d) cells name i p t = t.1

tree_half : (d : ℕ) (cells : List Node) (name : ℕ → Owner) (i j : ℕ) (p : List Bool) (b : Bool) → half_place (cell_at cells i) b ≡ Some j → IsTree d cells name i p → j < length cells
unfolding IsTree
tree_half zero cells name i j p b e t = absurd t
tree_half (suc d) cells name i j p b e t = tree_inside d cells name j (p ++ (b ∷ [])) (subst (λ (o : Option ℕ). IfHalf (λ y. IsTree d cells name y (p ++ (b ∷ []))) o) e (t.2.halves b))

pub split_inside : (d : ℕ) (b : Bool) (old mid : List Node) (free : ℕ) (name : ℕ → Owner) (i : ℕ) (p : List Bool) (j : ℕ) → IsSplit d b old mid free name i p j → j < length mid
split_inside d b old mid free name i p j s = tree_half d mid s.name' i j p b s.half s.tree
