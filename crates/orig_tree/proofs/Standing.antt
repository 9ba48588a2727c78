-- What stands for a region, and for the regions below it.
use Rattle.std.proofs.Common.{◌≡◌, ◌≢◌, ℕ, zero, suc, ◌+◌, ◌≤◌, List, [], ◌∷◌, ◌++◌, length, Bool, true, false, cond, ◌||◌, IsTrue, ◌↔◌, refl, sym, ap, ◌∙◌, subst, arith, Option, Some, None, nat_eq}
use Rattle.std.proofs.lemmas.Bool.{ne_eqb}
use Rattle.table_model.specs.Bits.{begins, bits_of}
use Rattle.table_model.proofs.BitLaws.{length-bits_of}
use Rattle.table_model.specs.Table.{lpm, half, root, inherit}
use Rattle.table_model.proofs.Cut.{lpm_cut, lpm_nil}
use Rattle.table_model.specs.Sets.{side, set_of, is_in, common, joint, or_else, one_if_empty, apart}
use Rattle.table_model.proofs.Sets.{same_joint}
use Rattle.table_model.proofs.Cost.{set_uniform, set_more, set_alike, k_uniform, k_more, k_alike}
use Rattle.fib_addr.specs.HopSets.{SameHops}
use Rattle.orig_tree.specs.Edits.{put}
use Rattle.orig_tree.specs.Arena.{Owner, At, cell_at, half_place, IfHalf, IsTree}
use Rattle.orig_tree.specs.Bests.{IsRegionBest, best_one, AreBest}
use Rattle.orig_tree.specs.declared.node.Node.{Node}
use Rattle.orig_tree.specs.declared.best.Best.{Best}
use Rattle.orig_tree.proofs.Arena.{begins_self, begins_less}
use Rattle.orig_tree.proofs.Rooms.{eq_is}

-- ---- one region

pub stands_one : (d h : ℕ) (f : List Bool → ℕ) → ((a : List Bool) → length a ≡ d → f a ≡ h) → IsRegionBest d f (best_one h)
stands_one d h f e = record { hops = λ k. ap (is_in k) (sym (set_uniform d f h e)); cost = sym (k_uniform d f h e) }

pub stands_alike : (d : ℕ) (f g : List Bool → ℕ) (x : Best) → ((a : List Bool) → length a ≡ d → f a ≡ g a) → IsRegionBest d f x → IsRegionBest d g x
stands_alike d f g x e s = record { hops = λ h. s.hops h ∙ ap (is_in h) (set_alike d f g e); cost = s.cost ∙ k_alike d f g e }

-- what it costs to put two halves together
gap_is : (b : Bool) (S T : List ℕ) → IsTrue b ↔ (common S T ≡ []) → cond b 1 0 ≡ apart S T
gap_is b S T t = by_common b (common S T) t
  where
    by_common : (b : Bool) (C : List ℕ) → IsTrue b ↔ (C ≡ []) → cond b 1 0 ≡ one_if_empty C
    by_common true [] t = refl
    by_common true (h ∷ C) t = let e : h ∷ C ≡ [] = t.0 refl in cc
    by_common false [] t = let e : false ≡ true = t.1 refl in cc
    by_common false (h ∷ C) t = refl

pub stands_by : (low high x : Best) (d : ℕ) (f : List Bool → ℕ) → SameHops x.hops (joint low.hops high.hops) → x.k ≡ low.k + high.k + apart low.hops high.hops
    → IsRegionBest d (side false f) low → IsRegionBest d (side true f) high → IsRegionBest (suc d) f x
stands_by low high x d f j k s t =
    let same = same_joint low.hops high.hops (set_of d (side false f)) (set_of d (side true f)) s.hops t.hops in
    record {
      hops = λ h. j h ∙ (same.0 h ∙ ap (is_in h) (sym (set_more d f)));
      cost = omega (arith, k, k_more d f, s.cost, t.cost, same.1);
    }

pub stands_joined : (low high x : Best) (b : Bool) → SameHops x.hops (joint low.hops high.hops) → IsTrue b ↔ (common low.hops high.hops ≡ []) → x.k ≡ low.k + high.k + cond b 1 0
    → (d : ℕ) (f : List Bool → ℕ) → IsRegionBest d (side false f) low → IsRegionBest d (side true f) high → IsRegionBest (suc d) f x
stands_joined low high x b j t k d f s u = stands_by low high x d f j (omega (arith, k, gap_is b low.hops high.hops t)) s u

-- ---- one route alone

-- the answers of one route, where h is inherited
abbrev pub lone : List Bool → ℕ → ℕ → List Bool → ℕ
lone q g h a = lpm (put q g []) a h

lone_here : (g h : ℕ) (a : List Bool) → lone [] g h a ≡ g
lone_here g h [] = lpm_nil (put [] g []) h
lone_here g h (b ∷ a) = lpm_cut (put [] g []) b a h ∙ by_bit b
  where
    by_bit : (b : Bool) → lpm (half b (put [] g [])) a (inherit (root (put [] g [])) h) ≡ g
    by_bit true = refl
    by_bit false = refl

lone_side : (c : Bool) (q : List Bool) (g h : ℕ) (a : List Bool) → side c (lone (c ∷ q) g h) a ≡ lone q g h a
lone_side true q g h a = lpm_cut (put (true ∷ q) g []) true a h
lone_side false q g h a = lpm_cut (put (false ∷ q) g []) false a h

lone_other : (c : Bool) (q : List Bool) (g h : ℕ) (a : List Bool) → side (cond c false true) (lone (c ∷ q) g h) a ≡ h
lone_other true q g h a = lpm_cut (put (true ∷ q) g []) false a h
lone_other false q g h a = lpm_cut (put (false ∷ q) g []) true a h

pub lone_same : (q : List Bool) (g : ℕ) (a : List Bool) → lone q g g a ≡ g
lone_same [] g a = lone_here g g a
lone_same (c ∷ q) g [] = lpm_nil (put (c ∷ q) g []) g
lone_same (true ∷ q) g (true ∷ a) = lone_side true q g g a ∙ lone_same q g a
lone_same (true ∷ q) g (false ∷ a) = lone_other true q g g a
lone_same (false ∷ q) g (true ∷ a) = lone_other false q g g a
lone_same (false ∷ q) g (false ∷ a) = lone_side false q g g a ∙ lone_same q g a

-- what such a region keeps, q being so long
abbrev pub lone_best : ℕ → ℕ → ℕ → Best
lone_best zero g h = best_one g
lone_best (suc zero) g h = record { hops = h ∷ g ∷ []; k = 1 }
lone_best (suc (suc n)) g h = record { hops = h ∷ []; k = 1 }

-- its sets are put together, in either order
module _ (g h : ℕ) (ne : g ≢ h) where
  differ : nat_eq g h ≡ false
  differ = ne_eqb g h ne

  differ' : nat_eq h g ≡ false
  differ' = ne_eqb h g (λ e. ne (sym e))

  same : (x : ℕ) → nat_eq x x ≡ true
  same x = eq_is x x refl

  abbrev Joins : Best → Best → Best → Type 0
  Joins low high x = SameHops x.hops (joint low.hops high.hops) × (x.k ≡ low.k + high.k + apart low.hops high.hops)

  swapped : (x y : Bool) → (x || (y || false)) ≡ (y || (x || false))
  swapped true true = refl
  swapped true false = refl
  swapped false true = refl
  swapped false false = refl

  from_common : (low high x : Best) (C : List ℕ) → common low.hops high.hops ≡ C → SameHops x.hops (or_else C (low.hops ++ high.hops)) → x.k ≡ low.k + high.k + one_if_empty C → Joins low high x
  from_common low high x C e s k = (λ t. s t ∙ ap (λ z. is_in t (or_else z (low.hops ++ high.hops))) (sym e), k ∙ ap (λ z. low.k + high.k + one_if_empty z) (sym e))

  joins_low : (n : ℕ) → Joins (lone_best n g h) (best_one h) (lone_best (suc n) g h)
  joins_low zero = from_common (best_one g) (best_one h) (lone_best 1 g h) [] (ap (λ (b : Bool). cond (b || false) (g ∷ []) []) differ') (λ k. swapped (nat_eq h k) (nat_eq g k)) refl
  joins_low (suc zero) = from_common (lone_best 1 g h) (best_one h) (lone_best 2 g h) (h ∷ [])
      (ap (λ (b : Bool). cond (b || false) (h ∷ common (g ∷ []) (h ∷ [])) (common (g ∷ []) (h ∷ []))) (same h) ∙ ap (λ (b : Bool). h ∷ cond (b || false) (g ∷ []) []) differ') (λ k. refl) refl
  joins_low (suc (suc n)) = from_common (lone_best 2 g h) (best_one h) (lone_best 2 g h) (h ∷ []) (ap (λ (b : Bool). cond (b || false) (h ∷ []) []) (same h)) (λ k. refl) refl

  joins_high : (n : ℕ) → Joins (best_one h) (lone_best n g h) (lone_best (suc n) g h)
  joins_high zero = from_common (best_one h) (best_one g) (lone_best 1 g h) [] (ap (λ (b : Bool). cond (b || false) (h ∷ []) []) differ) (λ k. refl) refl
  joins_high (suc zero) = from_common (best_one h) (lone_best 1 g h) (lone_best 2 g h) (h ∷ []) (ap (λ (b : Bool). cond (b || (nat_eq g h || false)) (h ∷ []) []) (same h)) (λ k. refl) refl
  joins_high (suc (suc n)) = from_common (best_one h) (lone_best 2 g h) (lone_best 2 g h) (h ∷ []) (ap (λ (b : Bool). cond (b || false) (h ∷ []) []) (same h)) (λ k. refl) refl

  pub lone_stands : (q : List Bool) (d : ℕ) → length q ≤ d → IsRegionBest d (lone q g h) (lone_best (length q) g h)
  lone_stands [] d l = stands_one d g (lone [] g h) (λ a e. lone_here g h a)
  lone_stands (c ∷ q) zero l = absurd (omega arith)
  lone_stands (true ∷ q) (suc d) l =
      let j = joins_high (length q) in
      stands_by (best_one h) (lone_best (length q) g h) (lone_best (suc (length q)) g h) d (lone (true ∷ q) g h) j.0 j.1
      (stands_one d h (side false (lone (true ∷ q) g h)) (λ a e. lone_other true q g h a))
      (stands_alike d (lone q g h) (side true (lone (true ∷ q) g h)) (lone_best (length q) g h) (λ a e. sym (lone_side true q g h a)) (lone_stands q d (omega arith)))
  lone_stands (false ∷ q) (suc d) l =
      let j = joins_low (length q) in
      stands_by (lone_best (length q) g h) (best_one h) (lone_best (suc (length q)) g h) d (lone (false ∷ q) g h) j.0 j.1
      (stands_alike d (lone q g h) (side false (lone (false ∷ q) g h)) (lone_best (length q) g h) (λ a e. sym (lone_side false q g h a)) (lone_stands q d (omega arith)))
      (stands_one d h (side true (lone (false ∷ q) g h)) (λ a e. lone_other false q g h a))

same_best : (d : ℕ) (f : List Bool → ℕ) (x y : Best) → SameHops x.hops y.hops → x.k ≡ y.k → IsRegionBest d f y → IsRegionBest d f x
same_best d f x y s k t = record { hops = λ h. s h ∙ t.hops h; cost = k ∙ t.cost }

-- as it is made
pub beside_here : (g h left : ℕ) (d q : ℕ) → left ≡ 0 → left ≤ d → IsRegionBest d (λ a. lpm (put (bits_of left q) g []) a h) (best_one g)
beside_here g h left d q z l =
    subst (λ (p : List Bool). IsRegionBest d (lone p g h) (best_one g)) (no_path (bits_of left q) (length-bits_of left q ∙ z)) (stands_one d g (lone [] g h) (λ a e. lone_here g h a))
  where
    no_path : (p : List Bool) → length p ≡ 0 → [] ≡ p
    no_path [] e = refl
    no_path (b ∷ p) e = absurd (omega arith)

pub beside_below : (x : Best) (g h left : ℕ) → g ≢ h → left ≢ 0 → x.k ≡ 1 → (left ≡ 1 → SameHops x.hops (h ∷ g ∷ [])) → (left ≢ 1 → x.hops ≡ h ∷ [])
    → (d q : ℕ) → left ≤ d → IsRegionBest d (λ a. lpm (put (bits_of left q) g []) a h) x
beside_below x g h left ne z k two one d q l =
    let n = length-bits_of left q in
    by_length (length (bits_of left q)) (omega (arith, n)) (λ e. two (sym n ∙ e)) (λ e. one (λ u. e (n ∙ u))) (lone_stands g h ne (bits_of left q) d (omega (arith, n)))
  where
    by_length : (m : ℕ) → m ≢ 0 → (m ≡ 1 → SameHops x.hops (h ∷ g ∷ [])) → (m ≢ 1 → x.hops ≡ h ∷ []) → IsRegionBest d (λ a. lpm (put (bits_of left q) g []) a h) (lone_best m g h) → IsRegionBest d (λ a. lpm (put (bits_of left q) g []) a h) x
    by_length zero u two one s = absurd (u refl)
    by_length (suc zero) u two one s = same_best d (lone (bits_of left q) g h) x (lone_best 1 g h) (two refl) k s
    by_length (suc (suc m)) u two one s = same_best d (lone (bits_of left q) g h) x (lone_best 2 g h) (λ t. ap (is_in t) (one (λ e. omega (arith, e)))) k s

-- ---- the regions below

pub if_half : (P Q : ℕ → Type 0) (o : Option ℕ) → ((j : ℕ) → P j → Q j) → IfHalf P o → IfHalf Q o
if_half P Q None f k = tt
if_half P Q (Some j) f k = f j k

pub both_half : (P Q R : ℕ → Type 0) (o : Option ℕ) → ((j : ℕ) → P j → Q j → R j) → IfHalf P o → IfHalf Q o → IfHalf R o
both_half P Q R None f k l = tt
both_half P Q R (Some j) f k l = f j k l

pub best_alike : (d : ℕ) (cells : List Node) (kept : ℕ → Best) (f g : List Bool → ℕ) (i : ℕ) → ((a : List Bool) → suc (length a) ≡ d → f a ≡ g a) → AreBest d cells kept f i → AreBest d cells kept g i
unfolding AreBest
best_alike zero cells kept f g i e k = tt
best_alike (suc d) cells kept f g i e k = (
  stands_alike d f g (kept i) (λ a l. e a (ap suc l)) k.0,
  λ b. if_half (λ j. AreBest d cells kept (side b f) j) (λ j. AreBest d cells kept (side b g) j) (half_place (cell_at cells i) b)
      (λ j. best_alike d cells kept (side b f) (side b g) j (λ a l. e (b ∷ a) (ap suc l))) (k.1 b),
)

-- the same halves
pub best_stay : (d : ℕ) (old new : List Node) (kept : ℕ → Best) (f : List Bool → ℕ) (i : ℕ) → ((j : ℕ) (b : Bool) → half_place (cell_at new j) b ≡ half_place (cell_at old j) b) → AreBest d old kept f i → AreBest d new kept f i
unfolding AreBest
best_stay zero old new kept f i h k = tt
best_stay (suc d) old new kept f i h k = (
  k.0,
  λ b. subst (λ (o : Option ℕ). IfHalf (λ j. AreBest d new kept (side b f) j) o) (sym (h i b))
      (if_half (λ j. AreBest d old kept (side b f) j) (λ j. AreBest d new kept (side b f) j) (half_place (cell_at old i) b) (λ j. best_stay d old new kept (side b f) j h) (k.1 b)),
)

-- the nodes and what they keep are the same at path p and below it
pub best_carry : (d : ℕ) (old new : List Node) (kept kept' : ℕ → Best) (name : ℕ → Owner) (f : List Bool → ℕ) (i : ℕ) (p : List Bool) → IsTree d old name i p →
    ((j : ℕ) (q : List Bool) → name j ≡ At q → begins p q ≡ true → (cell_at new j ≡ cell_at old j) × (kept' j ≡ kept j)) → AreBest d old kept f i → AreBest d new kept' f i
unfolding AreBest IsTree
best_carry zero old new kept kept' name f i p t c k = tt
best_carry (suc d) old new kept kept' name f i p t c k =
    let e = c i p t.0 (begins_self p) in (
      subst (λ (x : Best). IsRegionBest d f x) (sym e.1) k.0,
      λ b. subst (λ (n : Node). IfHalf (λ j. AreBest d new kept' (side b f) j) (half_place n b)) (sym e.0)
          (both_half (λ j. IsTree d old name j (p ++ (b ∷ []))) (λ j. AreBest d old kept (side b f) j) (λ j. AreBest d new kept' (side b f) j) (half_place (cell_at old i) b)
          (λ j u v. best_carry d old new kept kept' name (side b f) j (p ++ (b ∷ [])) u (λ x q n h. c x q n (begins_less p q b h)) v) (t.2.halves b) (k.1 b)),
    )

-- what is kept is the same everywhere
pub best_same : (d : ℕ) (cells : List Node) (kept kept' : ℕ → Best) (f : List Bool → ℕ) (i : ℕ) → ((j : ℕ) → kept' j ≡ kept j) → AreBest d cells kept f i → AreBest d cells kept' f i
unfolding AreBest
best_same zero cells kept kept' f i e k = tt
best_same (suc d) cells kept kept' f i e k = (
  subst (λ (x : Best). IsRegionBest d f x) (sym (e i)) k.0,
  λ b. if_half (λ j. AreBest d cells kept (side b f) j) (λ j. AreBest d cells kept' (side b f) j) (half_place (cell_at cells i) b) (λ j. best_same d cells kept kept' (side b f) j e) (k.1 b),
)
