-- Regions off the dirty prefixes.
use Rattle.std.proofs.Common.{◌≡◌, ℕ, zero, suc, ◌-◌, ◌≤◌, List, [], ◌∷◌, ◌++◌, Bool, true, false, length, Option, None, refl, sym, ap, subst, ◌∙◌, arith, length-append}
use Rattle.table_model.specs.Bits.{begins}
use Rattle.table_model.specs.Table.{Table, half, root, inherit, cut, lpm, hop_or, longest}
use Rattle.table_model.specs.Regions.{above, entry_at, SameEntries, SameOutside}
use Rattle.table_model.specs.Sets.{side, agg, answers}
use Rattle.table_model.proofs.Above.{above_cut, none_above}
use Rattle.table_model.proofs.Patch.{begins_rest, begins_trans, cut_cut}
use Rattle.table_model.proofs.Order.{answers_outside}
use Rattle.kept_model.specs.Stays.{Stays, is_wide_mark, IsOff, Settled, HasMarks, IsMarked, GetsMark, NoneAround}
use Rattle.kept_model.proofs.Again.{agg_same, agg_again, stays_half}

-- ---- what is inherited

pub above_nil : (L : Table) (h : ℕ) → above [] L h ≡ h
above_nil L h = ap (λ x. hop_or h (longest x)) (none_above L)

-- the entries on the way to q decide it
above_alike : (q : List Bool) (L M : Table) (h : ℕ) → ((r : List Bool) → begins r q ≡ true → entry_at r L ≡ entry_at r M) → above q L h ≡ above q M h
above_alike [] L M h s = above_nil L h ∙ sym (above_nil M h)
above_alike (b ∷ q) L M h s =
    above_cut b q L h ∙ (ap (λ o. above q (half b L) (inherit o h)) (s [] refl) ∙ (above_alike q (half b L) (half b M) (inherit (root M) h) (λ r e. s (b ∷ r) (goes_on b r q e)) ∙ sym (above_cut b q M h)))
  where
    goes_on : (b : Bool) (r q : List Bool) → begins r q ≡ true → begins (b ∷ r) (b ∷ q) ≡ true
    goes_on true r q e = e
    goes_on false r q e = e

-- ---- regions below one whose entries stay

nothing_cut : (d : ℕ) → d - 0 ≡ d
nothing_cut d = omega arith

one_cut : (d : ℕ) (q : List Bool) (b : Bool) → suc d - length (b ∷ q) ≡ d - length q
one_cut d q b = omega arith

pub stays_below : (q : List Bool) (d : ℕ) (f : List Bool → ℕ) (L : Table) (h : ℕ) → length q ≤ d → Stays d f L h → Stays (d - length q) (λ a. f (q ++ a)) (cut q L) (above q L h)
stays_below [] d f L h n s = subst (λ (e : ℕ). Stays e f L (above [] L h)) (sym (nothing_cut d)) (subst (λ (g : ℕ). Stays d f L g) (sym (above_nil L h)) s)
stays_below (b ∷ q) zero f L h n s = absurd (omega (arith, n))
stays_below (b ∷ q) (suc d) f L h n s =
    subst (λ (e : ℕ). Stays e (λ a. f (b ∷ (q ++ a))) (cut q (half b L)) (above (b ∷ q) L h)) (sym (one_cut d q b))
    (subst (λ (g : ℕ). Stays (d - length q) (λ a. f (b ∷ (q ++ a))) (cut q (half b L)) g) (sym (above_cut b q L h)) (stays_below q d (side b f) (half b L) (inherit (root L) h) (omega (arith, n)) (stays_half d f L h b s)))

-- so they do whatever is marked
pub all_settled : (d : ℕ) (f : List Bool → ℕ) (L : Table) (h : ℕ) (M : Table) → Stays d f L h → Settled d f L h M
all_settled d f L h M s q n o = stays_below q d f L h n s

-- and in a region below a prefix whose region's entries stay
pub stays_within : (p q : List Bool) (d : ℕ) (f : List Bool → ℕ) (L : Table) (h : ℕ) → length (p ++ q) ≤ d → Stays (d - length p) (λ a. f (p ++ a)) (cut p L) (above p L h) → Stays (d - length (p ++ q)) (λ a. f ((p ++ q) ++ a)) (cut (p ++ q) L) (above (p ++ q) L h)
stays_within [] q d f L h n s = stays_below q d f L h n (subst (λ (e : ℕ). Stays e f L h) (nothing_cut d) (subst (λ (g : ℕ). Stays (d - 0) f L g) (above_nil L h) s))
stays_within (b ∷ p) q zero f L h n s = absurd (omega (arith, n))
stays_within (b ∷ p) q (suc d) f L h n s =
    let r = p ++ q in
    let t : Stays (d - length p) (λ a. f (b ∷ (p ++ a))) (cut p (half b L)) (above p (half b L) (inherit (root L) h)) =
    subst (λ (e : ℕ). Stays e (λ a. f (b ∷ (p ++ a))) (cut p (half b L)) (above p (half b L) (inherit (root L) h))) (one_cut d p b)
    (subst (λ (g : ℕ). Stays (suc d - length (b ∷ p)) (λ a. f (b ∷ (p ++ a))) (cut p (half b L)) g) (above_cut b p L h) s)
    in
    subst (λ (e : ℕ). Stays e (λ a. f (b ∷ (r ++ a))) (cut r (half b L)) (above (b ∷ r) L h)) (sym (one_cut d r b))
    (subst (λ (g : ℕ). Stays (d - length r) (λ a. f (b ∷ (r ++ a))) (cut r (half b L)) g) (sym (above_cut b r L h)) (stays_within p q d (side b f) (half b L) (inherit (root L) h) (omega (arith, n)) t))

-- a pass gives what it gave, in whatever order the entries stand
pub stays_same : (d : ℕ) (f : List Bool → ℕ) (K L : Table) (h : ℕ) → SameEntries K (agg d f L h) → Stays d f K h
stays_same d f K L h s = λ q. ap (entry_at q) (agg_same d f f K (agg d f L h) h (λ a e. refl) s ∙ agg_again d f L h) ∙ sym (s q)

-- ---- halves

off_half : (b : Bool) (q : List Bool) (M : Table) → is_wide_mark (root M) ≡ false → IsOff q (half b M) → IsOff (b ∷ q) M
off_half b q M n o = record { below = o.below; around = around b o.around }
  where
    around : (c : Bool) → ((r : List Bool) → begins r q ≡ true → is_wide_mark (entry_at r (half c M)) ≡ false) → (r : List Bool) → begins r (c ∷ q) ≡ true → is_wide_mark (entry_at r M) ≡ false
    around c x [] e = n
    around true x (true ∷ r) e = x r e
    around false x (false ∷ r) e = x r e
    around true x (false ∷ r) e = let z : false ≡ true = e in absurd cc
    around false x (true ∷ r) e = let z : false ≡ true = e in absurd cc

pub settled_half : (d : ℕ) (f : List Bool → ℕ) (L : Table) (h : ℕ) (M : Table) (b : Bool) → Settled (suc d) f L h M → is_wide_mark (root M) ≡ false → Settled d (side b f) (half b L) (inherit (root L) h) (half b M)
settled_half d f L h M b s n q k o =
    subst (λ (e : ℕ). Stays e (λ a. f (b ∷ (q ++ a))) (cut q (half b L)) (above q (half b L) (inherit (root L) h))) (one_cut d q b)
    (subst (λ (g : ℕ). Stays (suc d - length (b ∷ q)) (λ a. f (b ∷ (q ++ a))) (cut q (half b L)) g) (above_cut b q L h) (s (b ∷ q) (omega (arith, k)) (off_half b q M n o)))

-- and a region further below
pub settled_cut : (p : List Bool) (d : ℕ) (f : List Bool → ℕ) (L : Table) (h : ℕ) (M : Table) → length p ≤ d → NoneAround p M → Settled d f L h M → Settled (d - length p) (λ a. f (p ++ a)) (cut p L) (above p L h) (cut p M)
settled_cut [] d f L h M l n s = subst (λ (e : ℕ). Settled e f L (above [] L h) M) (sym (nothing_cut d)) (subst (λ (g : ℕ). Settled d f L g M) (sym (above_nil L h)) s)
settled_cut (b ∷ p) zero f L h M l n s = absurd (omega (arith, l))
settled_cut (b ∷ p) (suc d) f L h M l n s =
    subst (λ (e : ℕ). Settled e (λ a. f (b ∷ (p ++ a))) (cut p (half b L)) (above (b ∷ p) L h) (cut p (half b M))) (sym (one_cut d p b))
    (subst (λ (g : ℕ). Settled (d - length p) (λ a. f (b ∷ (p ++ a))) (cut p (half b L)) g (cut p (half b M))) (sym (above_cut b p L h))
    (settled_cut p d (side b f) (half b L) (inherit (root L) h) (half b M) (omega (arith, l)) n.1 (settled_half d f L h M b s n.0)))

-- a region without a dirty prefix strictly within it, which is at no wide one
pub settled_clean : (d : ℕ) (f : List Bool → ℕ) (L : Table) (h : ℕ) (M : Table) → Settled d f L h M → is_wide_mark (root M) ≡ false → ((b : Bool) (r : List Bool) → entry_at (b ∷ r) M ≡ None) → Stays d f L h
settled_clean d f L h M s w n =
    subst (λ (g : ℕ). Stays d f L g) (above_nil L h) (subst (λ (e : ℕ). Stays e f L (above [] L h)) (nothing_cut d) (s [] (omega arith) (record { below = n; around = around })))
  where
    around : (r : List Bool) → begins r [] ≡ true → is_wide_mark (entry_at r M) ≡ false
    around [] e = w
    around (true ∷ r) e = let z : false ≡ true = e in absurd cc
    around (false ∷ r) e = let z : false ≡ true = e in absurd cc

-- ---- a change within a prefix

-- what is off p both ways has nothing within p
away : (p q a : List Bool) → begins p q ≡ false → begins q p ≡ false → begins p (q ++ a) ≡ false
away [] q a n m = let z : true ≡ false = n in absurd cc
away (b ∷ p) [] a n m = let z : true ≡ false = m in absurd cc
away (true ∷ p) (true ∷ q) a n m = away p q a n m
away (false ∷ p) (false ∷ q) a n m = away p q a n m
away (true ∷ p) (false ∷ q) a n m = refl
away (false ∷ p) (true ∷ q) a n m = refl

not_within : (p q r : List Bool) → begins p q ≡ false → begins r q ≡ true → begins p r ≡ false
not_within p q r n e = by_test (begins p r) refl
  where
    by_test : (b : Bool) → begins p r ≡ b → b ≡ false
    by_test false s = refl
    by_test true s = let z : true ≡ false = sym (begins_trans p r q s e) ∙ n in absurd cc

-- a region beside p
stays_beside : (w : ℕ) (p q : List Bool) (R S T U : Table) (h : ℕ) → SameOutside p R S → SameOutside p T U → begins p q ≡ false → begins q p ≡ false → Stays (w - length q) (λ a. lpm R (q ++ a) 0) (cut q T) (above q T h)
    → Stays (w - length q) (λ a. lpm S (q ++ a) 0) (cut q U) (above q U h)
stays_beside w p q R S T U h r t m n s = λ z.
    ap (entry_at z) (agg_same (w - length q) (λ a. lpm S (q ++ a) 0) (λ a. lpm R (q ++ a) 0) (cut q U) (cut q T) (above q U h) (λ a e. sym (answers_outside p (q ++ a) R S 0 (away p q a m n) r)) (λ y. sym (same y)))
    ∙ (ap (λ (g : ℕ). entry_at z (agg (w - length q) (λ a. lpm R (q ++ a) 0) (cut q T) g)) (sym above_same) ∙ (s z ∙ same z))
  where
    same : SameEntries (cut q T) (cut q U)
    same y = ap root (sym (cut_cut q y T)) ∙ (t (q ++ y) (away p q y m n) ∙ ap root (cut_cut q y U))

    above_same : above q T h ≡ above q U h
    above_same = above_alike q T U h (λ y e. t y (not_within p q y m e))

-- p is strictly within what holds it and isn't within it
strictly : (p q : List Bool) → begins p q ≡ false → begins q p ≡ true → (b : Bool) × (r : List Bool) × (p ≡ q ++ (b ∷ r))
strictly p q m e = by_rest (begins_rest q p e).0 (begins_rest q p e).1
  where
    begins_whole : (q : List Bool) → begins (q ++ []) q ≡ true
    begins_whole [] = refl
    begins_whole (true ∷ q) = begins_whole q
    begins_whole (false ∷ q) = begins_whole q

    by_rest : (r : List Bool) → p ≡ q ++ r → (b : Bool) × (r : List Bool) × (p ≡ q ++ (b ∷ r))
    by_rest [] s = let z : true ≡ false = sym (ap (λ y. begins y q) s ∙ begins_whole q) ∙ m in absurd cc
    by_rest (b ∷ r) s = (b, r, s)

-- a region with p marked that is off the dirty prefixes, and that p isn't within, holds nothing of p
off_beside : (p q : List Bool) (N : Table) → (entry_at p N ≡ None → ⊥) → IsOff q N → begins p q ≡ false → begins q p ≡ false
off_beside p q N m o n = by_test (begins q p) refl
  where
    by_test : (b : Bool) → begins q p ≡ b → b ≡ false
    by_test false e = refl
    by_test true e =
        let x = strictly p q n e in
        absurd (m (ap (λ z. entry_at z N) x.2 ∙ o.below x.0 x.1))

wide_there : (o : Option ℕ) → is_wide_mark o ≡ true → o ≡ None → ⊥
wide_there o w e = let z : false ≡ true = ap is_wide_mark (sym e) ∙ w in absurd cc

module _ (w : ℕ) (p : List Bool) (R S T U M N : Table) (h : ℕ) (r : SameOutside p R S) (t : SameOutside p T U) (m : IsMarked p M N) where
  pub settled_after : Settled w (answers R []) T h M → Settled w (answers S []) U h N
  settled_after s q l o = stays_beside w p q R S T U h r t out (off_beside p q N (wide_there (entry_at p N) m.marked) o out) (s q l was)
    where
      out : begins p q ≡ false
      out = by_test (begins p q) refl
        where
          by_test : (b : Bool) → begins p q ≡ b → b ≡ false
          by_test false e = refl
          by_test true e = let z : true ≡ false = sym m.marked ∙ o.around p e in absurd cc

      was : IsOff q M
      was = record { below = λ b y. m.kept.there (q ++ (b ∷ y)) (o.below b y); around = λ y e. m.kept.wide y (o.around y e) }

-- ---- a prefix whose entries stay again

module _ (w : ℕ) (p : List Bool) (R T U M N : Table) (h : ℕ) (t : SameOutside p T U) (m : GetsMark p M N) (u : Stays (w - length p) (answers R p) (cut p U) (above p U h)) where
  pub settled_mended : Settled w (answers R []) T h M → Settled w (answers R []) U h N
  settled_mended s q l o = by_test (begins p q) refl
    where
      Here : List Bool → Type 0
      Here z = Stays (w - length z) (λ a. lpm R (z ++ a) 0) (cut z U) (above z U h)

      goes_on : (q r : List Bool) → begins q (q ++ r) ≡ true
      goes_on [] r = refl
      goes_on (true ∷ q) r = goes_on q r
      goes_on (false ∷ q) r = goes_on q r

      differs : (y q : List Bool) → y ≡ p → begins q y ≡ true → begins q p ≡ false → ⊥
      differs y q i b n = let z : true ≡ false = sym b ∙ (ap (begins q) i ∙ n) in absurd cc

      apart : (y : List Bool) → y ≡ p → begins y q ≡ true → begins p q ≡ false → ⊥
      apart y i b n = let z : true ≡ false = sym b ∙ (ap (λ x. begins x q) i ∙ n) in absurd cc

      by_test : (b : Bool) → begins p q ≡ b → Stays (w - length q) (λ a. lpm R (q ++ a) 0) (cut q U) (above q U h)
      by_test true e =
          let x = begins_rest p q e in
          subst (λ (z : List Bool). Here z) (sym x.1) (stays_within p x.0 w (answers R []) U h (subst (λ (z : List Bool). length z ≤ w) x.1 l) u)
      by_test false e =
          let n = off_beside p q N m.marked o e in
          let was : IsOff q M = record {
            below = λ b y. sym (m.others (q ++ (b ∷ y)) (λ i. differs (q ++ (b ∷ y)) q i (goes_on q (b ∷ y)) n)) ∙ o.below b y;
            around = λ y i. ap is_wide_mark (sym (m.others y (λ j. apart y j i e))) ∙ o.around y i;
          } in
          stays_beside w p q R R T U h (λ y i. refl) t e n (s q l was)

-- ---- the same answers, more dirty prefixes

pub settled_alike : (d : ℕ) (f g : List Bool → ℕ) (L : Table) (h : ℕ) (M : Table) → ((a : List Bool) → length a ≡ d → f a ≡ g a) → Settled d f L h M → Settled d g L h M
settled_alike d f g L h M e s q n o = λ z.
    ap (entry_at z) (agg_same (d - length q) (λ a. g (q ++ a)) (λ a. f (q ++ a)) (cut q L) (cut q L) (above q L h) (λ a l. sym (e (q ++ a) (length-append q a ∙ omega (arith, l, n)))) (λ y. refl)) ∙ s q n o z

pub settled_more : (d : ℕ) (f : List Bool → ℕ) (L : Table) (h : ℕ) (M N : Table) → HasMarks M N → Settled d f L h M → Settled d f L h N
settled_more d f L h M N k s q n o = s q n (record { below = λ b r. k.there (q ++ (b ∷ r)) (o.below b r); around = λ r e. k.wide r (o.around r e) })
