-- Regions whose routes are as they were: the old table still gives the answers there.
use Rattle.std.proofs.Common.{◌≡◌, ◌≢◌, ℕ, suc, ◌+◌, ◌-◌, ◌≤◌, List, [], ◌∷◌, ◌++◌, Bool, true, false, length, refl, sym, ap, ◌∙◌, arith, length-append, append_assoc}
use Rattle.std.specs.Prelude.{is_some, ◌||◌, ◌&&◌, Option, None, Some, zero}
use Rattle.table_model.proofs.Cut.{lpm_cut, lpm_nil}
use Rattle.table_model.specs.Bits.{begins}
use Rattle.table_model.specs.Table.{Table, lpm, longest, hop_or, Alike, root, half, inherit, cut}
use Rattle.table_model.specs.Regions.{above, SameEntries}
use Rattle.table_model.specs.Sets.{side, answers}
use Rattle.table_model.proofs.Region.{lpm_region, begins_append}
use Rattle.table_model.proofs.Patch.{cut_cut, begins_same}
use Rattle.table_model.proofs.Above.{above_cut, none_above}
use Rattle.table_model.proofs.Same.{same_answers}
use Rattle.moves_model.specs.Nearest.{AnswersAs}
use Rattle.moves_model.specs.Way.{fills, SameBut, FilledGive}
use Rattle.moves_model.proofs.Aside.{gives_covered}

-- where all addresses are within entries, what is inherited is nothing to them
pub covered_free : (d : ℕ) (T : Table) (g h : ℕ) → fills d T ≡ true → (a : List Bool) → length a ≡ d → lpm T a g ≡ lpm T a h
covered_free d T g h c a l = gives_covered d (λ a. lpm T a h) T g h c (λ x m. refl) a l

never : (b : Bool) → b ≡ true → b ≡ false → ⊥
never b e n = cc

below : (p q r : List Bool) → begins q p ≡ false → q ++ r ≢ p
below p q r n e = never (begins q p) (ap (begins q) (sym e) ∙ begins_append q r) n

same_cut : (p q : List Bool) (R S : Table) → begins q p ≡ false → SameBut p R S → SameEntries (cut q R) (cut q S)
same_cut p q R S n s r = ap root (sym (cut_cut q r R)) ∙ (s (q ++ r) (below p q r n) ∙ ap root (cut_cut q r S))

-- where the routes changed at p alone, a region that p isn't in and that routes fill gives its answers still
pub filled_gives : (w : ℕ) (R S T : Table) (p q : List Bool) → length q ≤ w → Alike w R T → SameBut p R S → begins q p ≡ false → fills (w - length q) (cut q S) ≡ true
    → AnswersAs (w - length q) (answers S q) (cut q T) (above q T 0)
filled_gives w R S T p q l e s n c a m =
    let long : length (q ++ a) ≡ w = omega (arith, l, m, length-append q a) in
    sym (lpm_region q T a 0)
    ∙ (sym (e (q ++ a) long)
    ∙ (lpm_region q R a 0
    ∙ (same_answers a (cut q R) (cut q S) (above q R 0) (same_cut p q R S n s)
    ∙ (covered_free (w - length q) (cut q S) (above q R 0) (above q S 0) c a m
    ∙ sym (lpm_region q S a 0)))))

-- ---- the regions within the event's prefix

pub filled_half : (b : Bool) (d : ℕ) (f : List Bool → ℕ) (S T : Table) (h : ℕ) → FilledGive (suc d) f S T h → FilledGive d (side b f) (half b S) (half b T) (inherit (root T) h)
filled_half b d f S T h y q l c a m =
    let e : suc d - suc (length q) ≡ d - length q = omega arith in
    ap (lpm (cut q (half b T)) a) (sym (above_cut b q T h))
    ∙ y (b ∷ q) (omega (arith, l)) (ap (λ n. fills n (cut q (half b S))) e ∙ c) a (m ∙ sym e)

pub filled_here : (d : ℕ) (f : List Bool → ℕ) (S T : Table) (h : ℕ) → FilledGive d f S T h → fills d S ≡ true → AnswersAs d f T h
filled_here d f S T h y c a l =
    let e : d - 0 ≡ d = omega arith in
    ap (lpm T a) (ap (λ x. hop_or h (longest x)) (sym (none_above T)))
    ∙ y [] (omega arith) (ap (λ n. fills n S) e ∙ c) a (l ∙ sym e)

pub above_below : (p q : List Bool) (L : Table) (h : ℕ) → above (p ++ q) L h ≡ above q (cut p L) (above p L h)
above_below [] q L h = ap (λ x. above q L (hop_or h (longest x))) (sym (none_above L))
above_below (b ∷ p) q L h = above_cut b (p ++ q) L h ∙ (above_below p q (half b L) (inherit (root L) h) ∙ ap (above q (cut p (half b L))) (sym (above_cut b p L h)))

-- in each half of the event's prefix the parts that routes fill are right as they are
pub filled_event : (w : ℕ) (R S T : Table) (p : List Bool) (b : Bool) (d : ℕ) → w ≡ length p + suc d → Alike w R T → SameBut p R S
    → FilledGive d (side b (answers S p)) (half b (cut p S)) (half b (cut p T)) (inherit (root (cut p T)) (above p T 0))
filled_event w R S T p b d n e s q l c a m =
    let long : length (p ++ (b ∷ q)) ≡ suc (length p + length q) = omega (arith, length-append p (b ∷ q)) in
    let z : w - length (p ++ (b ∷ q)) ≡ d - length q = omega (arith, long, n) in
    let x : cut (p ++ (b ∷ q)) T ≡ cut q (half b (cut p T)) = cut_cut p (b ∷ q) T in
    let u : cut (p ++ (b ∷ q)) S ≡ cut q (half b (cut p S)) = cut_cut p (b ∷ q) S in
    ap (lpm (cut q (half b (cut p T))) a) (sym (above_cut b q (cut p T) (above p T 0)) ∙ sym (above_below p (b ∷ q) T 0))
    ∙ (ap (λ L. lpm L a (above (p ++ (b ∷ q)) T 0)) (sym x)
    ∙ (filled_gives w R S T p (p ++ (b ∷ q)) (omega (arith, long, n, l)) e s (longer p b q) (ap (λ k. fills k (cut (p ++ (b ∷ q)) S)) z ∙ (ap (fills (d - length q)) u ∙ c)) a (m ∙ sym z)
    ∙ ap (λ y. lpm S y 0) (append_assoc p (b ∷ q) a)))
  where
    longer : (p : List Bool) (b : Bool) (q : List Bool) → begins (p ++ (b ∷ q)) p ≡ false
    longer [] true q = refl
    longer [] false q = refl
    longer (c ∷ p) b q = begins_same c (p ++ (b ∷ q)) p ∙ longer p b q

-- ---- what a tree says of a region

-- where what is inherited is nothing to any address, all are within entries
pub covers_all : (d : ℕ) (T : Table) → ((a : List Bool) → length a ≡ d → (g h : ℕ) → lpm T a g ≡ lpm T a h) → fills d T ≡ true
unfolding fills
covers_all zero T x = by_root (root T) refl
  where
    by_root : (o : Option ℕ) → root T ≡ o → is_some o ≡ true
    by_root (Some t) r = refl
    by_root None r =
        let e : 0 ≡ 1 = sym (lpm_nil T 0 ∙ ap (λ o. inherit o 0) r) ∙ (x [] refl 0 1 ∙ (lpm_nil T 1 ∙ ap (λ o. inherit o 1) r)) in
        absurd (omega (arith, e))
covers_all (suc d) T x =
    by_root (root T) refl
    (λ r. covers_all d (half false T) (λ a l g h. below_none false r a l g h)) (λ r. covers_all d (half true T) (λ a l g h. below_none true r a l g h))
  where
    below_none : (b : Bool) → root T ≡ None → (a : List Bool) → length a ≡ d → (g h : ℕ) → lpm (half b T) a g ≡ lpm (half b T) a h
    below_none b r a l g h =
        sym (lpm_cut T b a g ∙ ap (λ o. lpm (half b T) a (inherit o g)) r)
        ∙ (x (b ∷ a) (ap suc l) g h
        ∙ (lpm_cut T b a h ∙ ap (λ o. lpm (half b T) a (inherit o h)) r))

    by_root : (o : Option ℕ) → root T ≡ o → (root T ≡ None → fills d (half false T) ≡ true) → (root T ≡ None → fills d (half true T) ≡ true) → (is_some o || (fills d (half false T) && fills d (half true T))) ≡ true
    by_root (Some t) r y z = refl
    by_root None r y z = ap (λ b. b && fills d (half true T)) (y r) ∙ z r

-- where an address gets what is inherited, not all are
pub covers_not : (d : ℕ) (T : Table) (a : List Bool) → length a ≡ d → ((h : ℕ) → lpm T a h ≡ h) → fills d T ≡ false
covers_not d T a l x = by_test (fills d T) refl
  where
    by_test : (b : Bool) → fills d T ≡ b → b ≡ false
    by_test false c = refl
    by_test true c = let e : 0 ≡ 1 = sym (x 0) ∙ (covered_free d T 0 1 c a l ∙ x 1) in absurd (omega (arith, e))
