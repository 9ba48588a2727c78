-- Blocks that are given back one after another.
use Rattle.std.proofs.Common.{◌≡◌, ℕ, zero, suc, ◌+◌, ◌-◌, ◌^◌, ◌<◌, ◌≤◌, List, [], ◌∷◌, ◌++◌, Bool, true, false, length, take, drop, get_or, refl, sym, ap, ◌∙◌, arith, subst, inl, inr}
use Rattle.std.specs.Prelude.{not, ◌||◌, ◌⊎◌}
use Rattle.std.proofs.Math.Pow.{pow_mono}
use Rattle.std.proofs.Math.Seq.{take-suc, drop-cons}
use Rattle.std.proofs.lemmas.Nat.{pow_pos}
use Rattle.std.proofs.lemmas.Bool.{cases_lt}
use Rattle.std.proofs.lemmas.List.{take_all}
use Rattle.buddy_arena.specs.Space.{Space, IsSized, IsOut, marked}
use Rattle.buddy_arena.specs.declared.arena.Block.{Block}
use Rattle.buddy_arena.proofs.Spans.{marked_len}
use Rattle.std.proofs.Math.Nat.{pow-succ'}
use Rattle.buddy_arena.proofs.Totals.{given_total}
use Rattle.buddy_arena.specs.Places.{is_out}
use Rattle.buddy_arena.specs.Arrays.{Array, AreApart, has, among}
use Rattle.buddy_arena.specs.Blocks.{GivesBack, arrays_of}
use Rattle.buddy_arena.proofs.Sets.{apart_less, places_append, among_append, place_is, was_false, or_left}

out_within : (f : List Bool) (i : ℕ) → is_out f i ≡ true → i < length f
out_within [] i e = cc
out_within (b ∷ f) zero e = omega arith
out_within (b ∷ f) (suc i) e = let h = out_within f i e in omega arith

marked_out : (p n : ℕ) (f : List Bool) → ((i : ℕ) → i < n → get_or f (p + i) true ≡ false) → marked p n false f ≡ f
marked_out p n [] h = refl
marked_out zero zero (b ∷ f) h = refl
marked_out zero (suc n) (b ∷ f) h =
    let z : b ≡ false = h 0 (omega arith) in
    ap (λ x. x ∷ marked zero n false f) (sym z) ∙ ap (λ r. b ∷ r) (marked_out zero n f (λ i l. let e : zero + suc i ≡ suc (zero + i) = omega arith in ap (λ j. get_or (b ∷ f) j true) (sym e) ∙ h (suc i) (omega arith)))
marked_out (suc p) n (b ∷ f) h = ap (λ r. b ∷ r) (marked_out p n f (λ i l. let e : suc p + i ≡ suc (p + i) = omega arith in ap (λ j. get_or (b ∷ f) j true) (sym e) ∙ h i l))

marked_other : (p n i : ℕ) (v d : Bool) (f : List Bool) → (i < p) ⊎ (p + n ≤ i) → get_or (marked p n v f) i d ≡ get_or f i d
marked_other p n i v d [] h = refl
marked_other zero zero i v d (b ∷ f) h = refl
marked_other zero (suc n) zero v d (b ∷ f) h = elim h [ inl x ↦ absurd (omega arith) | inr x ↦ absurd (omega arith) ]
marked_other zero (suc n) (suc i) v d (b ∷ f) h = elim h [ inl x ↦ absurd (omega arith) | inr x ↦ marked_other zero n i v d f (inr (omega arith)) ]
marked_other (suc p) n zero v d (b ∷ f) h = refl
marked_other (suc p) n (suc i) v d (b ∷ f) h = elim h [ inl x ↦ marked_other p n i v d f (inl (omega arith)) | inr x ↦ marked_other p n i v d f (inr (omega arith)) ]

module _ {T : Type 0} (s : Space T) (p k : ℕ) (rest : List Array) (z : IsSized s) (a : AreApart (is_out s.free) ((p, 2 ^ k) ∷ rest)) where
  places : (i : ℕ) → i < 2 ^ k → is_out s.free (p + i) ≡ true
  unfolding AreApart
  places i l = a.0.0 (p + i) (omega arith, omega arith)

  fits : p + 2 ^ k ≤ length s.free
  fits =
      let n = pow_pos k in
      let l = out_within s.free (p + (2 ^ k - 1)) (places (2 ^ k - 1) (omega (arith, n))) in
      omega (arith, n, l)

  small : k ≤ s.order
  small =
      elim (cases_lt s.order k) [
        | inl h ↦ (let m = pow_mono {i = suc s.order} {j = k} (omega arith) in let n = pow_pos s.order in let e = pow-succ' 2 s.order in let f = fits in absurd (omega (arith, z.places)))
        | inr h ↦ h
      ]

  pub give_out : IsOut s.order s.free p k
  unfolding AreApart
  give_out = record {
    aligned = a.0.1;
    small = small;
    within = omega (arith, fits, z.places);
    out = marked_out p (2 ^ k) s.free (λ i l. was_false (get_or s.free (p + i) true) (places i l));
  }

  module _ (t : Space T) (free : t.free ≡ marked p (2 ^ k) true s.free) (order : t.order ≡ s.order) (cells : t.cells ≡ s.cells) (fill : t.fill ≡ s.fill) where
    pub one_given : GivesBack ((p, 2 ^ k) ∷ []) s t
    one_given = record {
      cells = cells;
      order = order;
      fill = fill;
      still = λ i o n. ap not (ap (λ f. get_or f i true) free ∙ marked_other p (2 ^ k) i true true s.free (by i n)) ∙ o;
      left = given_total p (2 ^ k) s.free t.free fits (marked_out p (2 ^ k) s.free (λ i l. was_false (get_or s.free (p + i) true) (places i l))) free ∙ omega arith;
    }
      where
        by : (i : ℕ) → (has (p, 2 ^ k) i || false) ≡ false → (i < p) ⊎ (p + 2 ^ k ≤ i)
        by i n =
            elim (cases_lt i p) [
              | inl h ↦ inl h
              | inr h ↦
                  elim (cases_lt i (p + 2 ^ k)) [
                    | inl g ↦ let e = or_left (has (p, 2 ^ k) i) false (place_is (p, 2 ^ k) i (h, g)) in let f : true ≡ false = sym e ∙ n in cc
                    | inr g ↦ inr g
                  ]
            ]

    pub rest_apart : AreApart (is_out t.free) rest
    rest_apart = apart_less (is_out s.free) (is_out t.free) ((p, 2 ^ k) ∷ []) rest one_given.still a

    pub still_sized : IsSized t
    still_sized = record {
      small = omega (arith, order, z.small);
      places = ap length free ∙ (marked_len p (2 ^ k) true s.free ∙ (z.places ∙ ap (λ (n : ℕ). 2 ^ n) (sym order)));
      cells = ap length cells ∙ (z.cells ∙ ap (λ (n : ℕ). 2 ^ n) (sym order));
    }

-- ---- one list of blocks and then another
pub gives_both : {T : Type 0} (xs ys : List Array) (s t u : Space T) → GivesBack xs s t → GivesBack ys t u → GivesBack (xs ++ ys) s u
gives_both xs ys s t u a b = record {
  cells = b.cells ∙ a.cells;
  order = b.order ∙ a.order;
  fill = b.fill ∙ a.fill;
  still = λ i o n. let m = neither (among xs i) (among ys i) (sym (among_append xs ys i) ∙ n) in b.still i (a.still i o m.0) m.1;
  left = let e = places_append xs ys in omega (arith, a.left, b.left);
}
  where
    neither : (x y : Bool) → (x || y) ≡ false → (x ≡ false) × (y ≡ false)
    neither false y e = (refl, e)
    neither true y e = cc

pub record Given {T : Type 0} (blocks : List Block) (old now : Space T) (i : ℕ) : Type 0 where
  pub gives : GivesBack (arrays_of (take i blocks)) old now
  pub rest : AreApart (is_out now.free) (arrays_of (drop i blocks))
  pub sized : IsSized now

pub given_start : {T : Type 0} (blocks : List Block) (s : Space T) → IsSized s → AreApart (is_out s.free) (arrays_of blocks) → Given blocks s s 0
given_start blocks s z a = record { gives = record { cells = refl; order = refl; fill = refl; still = λ i o n. o; left = omega arith }; rest = a; sized = z }

arrays_append : (xs ys : List Block) → arrays_of (xs ++ ys) ≡ arrays_of xs ++ arrays_of ys
arrays_append [] ys = refl
arrays_append (x ∷ xs) ys = ap (λ (r : List Array). (x.place, 2 ^ x.order) ∷ r) (arrays_append xs ys)

module _ {T : Type 0} (blocks : List Block) (old now : Space T) (i : ℕ) (b d : Block) (is : b ≡ get_or blocks i d) (l : i < length blocks) (g : Given blocks old now i) where
  split : AreApart (is_out now.free) ((b.place, 2 ^ b.order) ∷ arrays_of (drop (suc i) blocks))
  split = subst (λ (x : Block). AreApart (is_out now.free) ((x.place, 2 ^ x.order) ∷ arrays_of (drop (suc i) blocks))) (sym is) (subst (λ (x : List Block). AreApart (is_out now.free) (arrays_of x)) (drop-cons blocks i d l) g.rest)

  pub given_out : IsOut now.order now.free b.place b.order
  given_out = give_out now b.place b.order (arrays_of (drop (suc i) blocks)) g.sized split

  pub given_next : (t : Space T) → t.free ≡ marked b.place (2 ^ b.order) true now.free → t.order ≡ now.order → t.cells ≡ now.cells → t.fill ≡ now.fill → Given blocks old t (i + 1)
  given_next t free order cells fill =
      let e : suc i ≡ i + 1 = omega arith in
      let one = one_given now b.place b.order (arrays_of (drop (suc i) blocks)) g.sized split t free order cells fill in
      let both = gives_both (arrays_of (take i blocks)) ((b.place, 2 ^ b.order) ∷ []) old now t g.gives one in
      let more : arrays_of (take (suc i) blocks) ≡ arrays_of (take i blocks) ++ (b.place, 2 ^ b.order) ∷ [] = ap arrays_of (take-suc blocks i d l) ∙ (arrays_append (take i blocks) (get_or blocks i d ∷ []) ∙ ap (λ (x : Block). arrays_of (take i blocks) ++ (x.place, 2 ^ x.order) ∷ []) (sym is)) in
      subst (λ (j : ℕ). Given blocks old t j) e
      (record {
        gives = subst (λ (x : List Array). GivesBack x old t) (sym more) both;
        rest = rest_apart now b.place b.order (arrays_of (drop (suc i) blocks)) g.sized split t free order cells fill;
        sized = still_sized now b.place b.order (arrays_of (drop (suc i) blocks)) g.sized split t free order cells fill;
      })

pub given_end : {T : Type 0} (blocks : List Block) (old now : Space T) (i : ℕ) → length blocks ≤ i → Given blocks old now i → GivesBack (arrays_of blocks) old now
given_end blocks old now i l g = subst (λ (x : List Block). GivesBack (arrays_of x) old now) (take_all i blocks l) g.gives
