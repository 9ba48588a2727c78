-- Which places are free once blocks were given back: there is one answer.
use Rattle.std.proofs.Common.{◌≡◌, ℕ, zero, suc, ◌+◌, ◌^◌, ◌<◌, ◌≤◌, List, [], ◌∷◌, Bool, true, false, cond, length, get_or, refl, sym, ap, ◌∙◌, arith, inl, inr}
use Rattle.std.specs.Prelude.{◌⊎◌, ◌||◌, nat_le, not}
use Rattle.std.proofs.lemmas.Bool.{cases_lt}
use Rattle.std.specs.List.{AllByRecursion}
use Rattle.buddy_arena.specs.Space.{Space, IsSized, marked}
use Rattle.buddy_arena.specs.Space as arena
use Rattle.buddy_arena.specs.Places.{is_out}
use Rattle.buddy_arena.specs.Arrays.{Array, AreApart, has, among, places_of}
use Rattle.buddy_arena.specs.Blocks.{AreHeldIn, GivesBack, Held, Retired, blocks_of, early}
use Rattle.buddy_arena.proofs.Parting.{part_right}
use Rattle.buddy_arena.proofs.Sets.{apart_less, is_place, place_is, was_false}
use Rattle.buddy_arena.proofs.Spans.{marked_len}
use Rattle.poptrie_set.proofs.Restored.{same_free}

-- ---- one array
-- what is out after it was given back was out, and isn't its
was_out : (p n i : ℕ) (f : List Bool) → get_or (marked p n true f) i true ≡ false → (get_or f i true ≡ false) × ((i < p) ⊎ (p + n ≤ i))
was_out p n i [] e = cc
was_out zero zero i (b ∷ f) e = (e, inr (omega arith))
was_out zero (suc n) zero (b ∷ f) e = cc
was_out zero (suc n) (suc i) (b ∷ f) e =
    let r = was_out zero n i f e in
    (r.0, elim r.1 [ inl x ↦ absurd (omega (arith, x)) | inr x ↦ inr (omega (arith, x)) ])
was_out (suc p) n zero (b ∷ f) e = (e, inl (omega arith))
was_out (suc p) n (suc i) (b ∷ f) e =
    let r = was_out p n i f e in
    (r.0, elim r.1 [ inl x ↦ inl (omega (arith, x)) | inr x ↦ inr (omega (arith, x)) ])

-- what was out and isn't its is out still
stays_out : (p n i : ℕ) (f : List Bool) → (i < p) ⊎ (p + n ≤ i) → get_or f i true ≡ false → get_or (marked p n true f) i true ≡ false
stays_out p n i [] h e = e
stays_out zero zero i (b ∷ f) h e = e
stays_out zero (suc n) zero (b ∷ f) h e = elim h [ inl x ↦ absurd (omega (arith, x)) | inr x ↦ absurd (omega (arith, x)) ]
stays_out zero (suc n) (suc i) (b ∷ f) h e = elim h [ inl x ↦ absurd (omega (arith, x)) | inr x ↦ stays_out zero n i f (inr (omega (arith, x))) e ]
stays_out (suc p) n zero (b ∷ f) h e = e
stays_out (suc p) n (suc i) (b ∷ f) h e = elim h [ inl x ↦ stays_out p n i f (inl (omega (arith, x))) e | inr x ↦ stays_out p n i f (inr (omega (arith, x))) e ]

-- so many more are free
more_free : (p n : ℕ) (f : List Bool) → ((i : ℕ) → i < n → is_out f (p + i) ≡ true) → arena.free_count (marked p n true f) ≡ arena.free_count f + n
more_free p zero [] h = refl
more_free p (suc n) [] h = let e : false ≡ true = h 0 (omega arith) in cc
more_free zero zero (b ∷ f) h = omega arith
more_free zero (suc n) (b ∷ f) h =
    let z : b ≡ false = was_false b (h 0 (omega arith)) in
    let t = ap arena.tick z in
    let r = more_free zero n f (λ i l. let e : zero + suc i ≡ suc (zero + i) = omega arith in ap (λ j. is_out (b ∷ f) j) (sym e) ∙ h (suc i) (omega (arith, l))) in
    omega (arith, t, r)
more_free (suc p) n (b ∷ f) h =
    let r = more_free p n f (λ i l. let e : suc p + i ≡ suc (p + i) = omega arith in ap (λ j. is_out (b ∷ f) j) (sym e) ∙ h i l) in
    omega (arith, r)

has_not : (a : Array) (i : ℕ) → (i < a.0) ⊎ (a.0 + a.1 ≤ i) → has a i ≡ false
has_not a i h = by (has a i) refl
  where
    by : (b : Bool) → has a i ≡ b → has a i ≡ false
    by true e = let p = is_place a i e in elim h [ inl x ↦ absurd (omega (arith, p.0, x)) | inr x ↦ absurd (omega (arith, p.1, x)) ]
    by false e = e

not_has : (a : Array) (i : ℕ) → has a i ≡ false → (i < a.0) ⊎ (a.0 + a.1 ≤ i)
not_has a i e =
    elim (cases_lt i a.0) [
      | inl x ↦ inl x
      | inr x ↦ elim (cases_lt i (a.0 + a.1)) [ inl y ↦ (let f : true ≡ false = sym (place_is a i (x, y)) ∙ e in cc) | inr y ↦ inr y ]
    ]

-- ---- all of them
opened : List Array → List Bool → List Bool
opened [] f = f
opened (a ∷ rest) f = opened rest (marked a.0 a.1 true f)

opened_len : (gone : List Array) (f : List Bool) → length (opened gone f) ≡ length f
unfolding opened
opened_len [] f = refl
opened_len (a ∷ rest) f = opened_len rest (marked a.0 a.1 true f) ∙ marked_len a.0 a.1 true f

opened_out : (gone : List Array) (f : List Bool) (i : ℕ) → is_out (opened gone f) i ≡ true → (is_out f i ≡ true) × (among gone i ≡ false)
unfolding opened
opened_out [] f i e = (e, refl)
opened_out (a ∷ rest) f i e =
    let r = opened_out rest (marked a.0 a.1 true f) i e in
    let w = was_out a.0 a.1 i f (was_false (get_or (marked a.0 a.1 true f) i true) r.0) in
    (ap not w.0, ap (λ (b : Bool). b || among rest i) (has_not a i w.1) ∙ r.1)

opened_count : (gone : List Array) (f : List Bool) → AreApart (is_out f) gone → arena.free_count (opened gone f) ≡ arena.free_count f + places_of gone
unfolding AreApart opened
opened_count [] f a = omega arith
opened_count (x ∷ rest) f a =
    let g = marked x.0 x.1 true f in
    let one = more_free x.0 x.1 f (λ i l. a.0.0 (x.0 + i) (omega arith, omega (arith, l))) in
    let still : (i : ℕ) → is_out f i ≡ true → among (x ∷ []) i ≡ false → is_out g i ≡ true = λ i o n. ap not (stays_out x.0 x.1 i f (not_has x i (first_not (has x i) n)) (was_false (get_or f i true) o)) in
    let r = opened_count rest g (apart_less (is_out f) (is_out g) (x ∷ []) rest still a) in
    omega (arith, one, r)
  where
    first_not : (b : Bool) → (b || false) ≡ false → b ≡ false
    first_not true e = cc
    first_not false e = refl

given_is : {T : Type 0} (gone : List Array) (s t : Space T) → length t.free ≡ length s.free → AreApart (is_out s.free) gone → GivesBack gone s t → opened gone s.free ≡ t.free
given_is gone s t len apart g =
    let count = opened_count gone s.free apart in
    same_free (opened gone s.free) t.free (opened_len gone s.free ∙ sym len) (λ i e. let o = opened_out gone s.free i e in g.still i o.0 o.1) (omega (arith, count, g.left))

-- ---- those that were retired by a time
all_early : (P : Array → Type 0) (since : ℕ) (rs : List Retired) → AllByRecursion P (blocks_of rs) → AllByRecursion P (blocks_of (early since rs))
all_early P since [] a = tt
all_early P since (r ∷ rest) a = by (nat_le r.end since) (all_early P since rest a.1)
  where
    by : (b : Bool) → AllByRecursion P (blocks_of (early since rest)) → AllByRecursion P (blocks_of (cond b (r ∷ early since rest) (early since rest)))
    by true h = (a.0, h)
    by false h = h

apart_early : (N : ℕ → Bool) (since : ℕ) (rs : List Retired) → AreApart N (blocks_of rs) → AreApart N (blocks_of (early since rs))
unfolding AreApart
apart_early N since [] a = tt
apart_early N since (r ∷ rest) a = by (nat_le r.end since) (apart_early N since rest a.2)
  where
    by : (b : Bool) → AreApart N (blocks_of (early since rest)) → AreApart N (blocks_of (cond b (r ∷ early since rest) (early since rest)))
    by true h = (a.0, all_early _ since rest a.1, h)
    by false h = h

pub given_once : {T : Type 0} (since : ℕ) (s t u : Space T) (h : Held) → IsSized s → IsSized t → IsSized u → AreHeldIn (is_out s.free) h → GivesBack (blocks_of (early since h.retired)) s t → GivesBack (blocks_of (early since h.retired)) s u → u.free ≡ t.free
given_once since s t u h zs zt zu held gt gu =
    let apart = apart_early (is_out s.free) since h.retired (part_right (is_out s.free) h.taken (blocks_of h.retired) held.with_taken) in
    let st : 2 ^ t.order ≡ 2 ^ s.order = ap (λ (n : ℕ). 2 ^ n) gt.order in
    let su : 2 ^ u.order ≡ 2 ^ s.order = ap (λ (n : ℕ). 2 ^ n) gu.order in
    sym (given_is (blocks_of (early since h.retired)) s u (omega (arith, zs.places, zu.places, su)) apart gu) ∙ given_is (blocks_of (early since h.retired)) s t (omega (arith, zs.places, zt.places, st)) apart gt
