-- The places of a fresh arena: what a take does to them.
use Rattle.std.proofs.Common.{◌≡◌, ◌≢◌, ℕ, zero, suc, ◌+◌, ◌^◌, ◌<◌, ◌≤◌, List, [], ◌∷◌, length, Bool, true, false, Option, Some, None, nat_eq, ◌&&◌, ◌||◌, refl, sym, ap, ◌∙◌, subst, arith, replicate, inl, inr, eq-eqb, set}
use Rattle.std.specs.Prelude.{nat_le, nat_lt, ◌⊎◌}
use Rattle.std.proofs.Math.ListN.{length-set}
use Rattle.std.proofs.lemmas.Bool.{cases_lt, cases_eq, ne_eqb}
use Rattle.std.proofs.lemmas.Bool.Decides.{nat_tests}
use Rattle.std.proofs.Math.Pow.{pow_mono}
use Rattle.std.proofs.lemmas.List.{length-replicate, get_or-set_same, get_or-set_other}
use Rattle.buddy_arena.specs.Space.{blocks, has_order, has_block, first_block, marked, tick, num, Splits, Apart, IsOut, IsGreatest, IsLeastFrom, OneEach, TakesBlock, free_count}
use Rattle.buddy_arena.specs.Fresh.{kept_at, with_block, with_blocks, fresh_free, kept_count, free_in, AreKept, AreFree, IsMapOf, SplitsAt, IsFoundFrom, IsLastBelow}
use Rattle.buddy_arena.proofs.Firsts.{IsCarved, carved, order_fits}
use Rattle.buddy_arena.specs.Masks.{ord, mask, free_of, IsMaskTree}
use Rattle.buddy_arena.proofs.Masks.{bare, free_len, ord_is}
use Rattle.buddy_arena.proofs.Bits.{double}
use Rattle.buddy_arena.proofs.Spans.{marked_len, marked_all, all_replicate, blocks_whole}
use Rattle.buddy_arena.proofs.Others.{marked_apart, marked_apart_after, still_out, taken_apart}
use Rattle.buddy_arena.proofs.Totals.{between_false, one_each, taken_total}
use Rattle.buddy_arena.proofs.Tiling.{are_blocks}
use Rattle.buddy_arena.proofs.Buddies as free
use Rattle.buddy_arena.proofs.Kept_blocks.{IsLeft, left, none_of, order_of, first_of, lie_apart, each_has}

-- ---- marks over marks
marked_over : (p n : ℕ) (v w : Bool) (f : List Bool) → marked p n v (marked p n w f) ≡ marked p n v f
marked_over p n v w [] = refl
marked_over zero zero v w (b ∷ f) = refl
marked_over zero (suc n) v w (b ∷ f) = ap (λ r. v ∷ r) (marked_over zero n v w f)
marked_over (suc p) n v w (b ∷ f) = ap (λ r. b ∷ r) (marked_over p n v w f)

marked_join : (p i n : ℕ) (v : Bool) (f : List Bool) → marked (p + i) n v (marked p i v f) ≡ marked p (i + n) v f
marked_join p i n v [] = refl
marked_join zero zero n v (b ∷ f) = let e : 0 + 0 ≡ 0 = refl in let d : 0 + n ≡ n = omega arith in ap (λ x. marked x n v (b ∷ f)) e ∙ ap (λ x. marked 0 x v (b ∷ f)) (sym d)
marked_join zero (suc i) n v (b ∷ f) =
    let e : 0 + suc i ≡ suc (0 + i) = omega arith in
    let d : suc i + n ≡ suc (i + n) = omega arith in
    ap (λ x. marked x n v (v ∷ marked 0 i v f)) e ∙ (ap (λ r. v ∷ r) (marked_join zero i n v f) ∙ ap (λ x. marked 0 x v (b ∷ f)) (sym d))
marked_join (suc p) i n v (b ∷ f) =
    let e : suc p + i ≡ suc (p + i) = omega arith in
    ap (λ x. marked x n v (b ∷ marked p i v f)) e ∙ ap (λ r. b ∷ r) (marked_join p i n v f)

marked_bare : (p n k : ℕ) → marked p n false (replicate k false) ≡ replicate k false
marked_bare p n zero = refl
marked_bare zero zero (suc k) = refl
marked_bare zero (suc n) (suc k) = ap (λ r. false ∷ r) (marked_bare zero n k)
marked_bare (suc p) n (suc k) = ap (λ r. false ∷ r) (marked_bare p n k)

-- ---- the places that are free as the places of blocks change
module _ (k m p : ℕ) (old : List (Option ℕ)) (base : List Bool) (km : k ≤ m) (apart : (j q : ℕ) → j ≢ m → kept_at old j ≡ Some q → Apart q j p m) (none : (x n : ℕ) → marked x n false base ≡ base) where
  small : 2 ^ k ≤ 2 ^ m
  small = pow_mono {i = k} {j = m} km

  past : (i q : ℕ) (f : List Bool) → Apart q i p m → marked p (2 ^ k) false (marked q (2 ^ i) true f) ≡ marked q (2 ^ i) true (marked p (2 ^ k) false f)
  past i q f (inl a) = marked_apart_after p (2 ^ k) q (2 ^ i) f a
  past i q f (inr a) = marked_apart p (2 ^ k) q (2 ^ i) f (omega (arith, small))

  past_block : (i : ℕ) (f : List Bool) → i ≢ m → marked p (2 ^ k) false (with_block i (kept_at old i) f) ≡ with_block i (kept_at old i) (marked p (2 ^ k) false f)
  past_block i f n =
      let P : Option ℕ → Type 0 = λ o. kept_at old i ≡ o → marked p (2 ^ k) false (with_block i o f) ≡ with_block i o (marked p (2 ^ k) false f) in
      (elim (kept_at old i) as P [ None ↦ λ e. refl | Some q ↦ λ e. past i q f (apart i q n e) ]) refl

  -- no block of a smaller order has a place of the block
  pub untouched : (i : ℕ) → i ≤ m → marked p (2 ^ k) false (with_blocks i old base) ≡ with_blocks i old base
  unfolding with_blocks
  untouched zero h = none p (2 ^ k)
  untouched (suc i) h = past_block i (with_blocks i old base) (λ e. omega arith) ∙ ap (with_block i (kept_at old i)) (untouched i (omega arith))

  module _ (new : List (Option ℕ)) (s : SplitsAt k m p old new) (is : kept_at old m ≡ Some p) (empty : (j : ℕ) → k ≤ j → j < m → kept_at old j ≡ None) where
    low : (i : ℕ) → i ≤ k → with_blocks i new base ≡ with_blocks i old base
    unfolding with_blocks
    low zero h = refl
    low (suc i) h = ap (λ o. with_block i o (with_blocks i new base)) (s.lower i (omega arith)) ∙ ap (with_block i (kept_at old i)) (low i (omega arith))

    start : (i : ℕ) → i ≡ k → with_blocks i new base ≡ marked p (2 ^ k) false (marked p (2 ^ i) true (with_blocks k old base))
    start i e =
        ap (λ x. with_blocks x new base) e ∙ (low k (omega arith) ∙ (sym (untouched k km)
        ∙ (sym (marked_over p (2 ^ k) false true (with_blocks k old base)) ∙ ap (λ x. marked p (2 ^ k) false (marked p (2 ^ x) true (with_blocks k old base))) (sym e))))

    mid : (i : ℕ) → k ≤ i → i ≤ m → with_blocks i new base ≡ marked p (2 ^ k) false (marked p (2 ^ i) true (with_blocks k old base))
    unfolding with_blocks
    mid zero h l = start zero (omega arith)
    mid (suc i) h l =
        elim (cases_eq (suc i) k) [
          | inl e ↦ start (suc i) e
          | inr n ↦
              let ki : k ≤ i = omega arith in
              let w = with_blocks k old base in
              let least : 2 ^ k ≤ 2 ^ i = pow_mono {i = k} {j = i} ki in
              ap (λ o. with_block i o (with_blocks i new base)) (s.halves i ki (omega arith))
              ∙ (ap (marked (p + 2 ^ i) (2 ^ i) true) (mid i ki (omega arith))
              ∙ (sym (marked_apart p (2 ^ k) (p + 2 ^ i) (2 ^ i) (marked p (2 ^ i) true w) (omega (arith, least)))
              ∙ (ap (marked p (2 ^ k) false) (marked_join p (2 ^ i) (2 ^ i) true w)
              ∙ ap (λ x. marked p (2 ^ k) false (marked p x true w)) (sym (double i)))))
        ]

    same : (i : ℕ) → k ≤ i → i ≤ m → with_blocks i old base ≡ with_blocks k old base
    unfolding with_blocks
    same zero h l = let e : 0 ≡ k = omega arith in ap (λ x. with_blocks x old base) e
    same (suc i) h l =
        elim (cases_eq (suc i) k) [
          | inl e ↦ ap (λ x. with_blocks x old base) e
          | inr n ↦ ap (λ o. with_block i o (with_blocks i old base)) (empty i (omega arith) (omega arith)) ∙ same i (omega arith) (omega arith)
        ]

    high : (i : ℕ) → m < i → with_blocks i new base ≡ marked p (2 ^ k) false (with_blocks i old base)
    unfolding with_blocks
    high zero h = absurd (omega arith)
    high (suc i) h =
        elim (cases_eq i m) [
          | inl e ↦
              let gone : kept_at new i ≡ None = ap (kept_at new) e ∙ s.gone in
              let was : kept_at old i ≡ Some p = ap (kept_at old) e ∙ is in
              ap (λ o. with_block i o (with_blocks i new base)) gone
              ∙ (mid i (omega arith) (omega arith)
              ∙ (ap (λ x. marked p (2 ^ k) false (marked p (2 ^ i) true x)) (sym (same i (omega arith) (omega arith)))
              ∙ ap (λ o. marked p (2 ^ k) false (with_block i o (with_blocks i old base))) (sym was)))
          | inr n ↦
              ap (λ o. with_block i o (with_blocks i new base)) (s.higher i (omega arith))
              ∙ (ap (with_block i (kept_at old i)) (high i (omega arith))
              ∙ sym (past_block i (with_blocks i old base) n))
        ]

-- ---- what places that are kept say
module _ (order : ℕ) (f : List Bool) (places : List (Option ℕ)) (a : AreKept order f places) where
  one_many : (o : Option ℕ) → kept_count o ≤ 1
  one_many None = omega arith
  one_many (Some p) = omega arith

  pub one_kept : OneEach (blocks order f)
  one_kept j = omega (arith, a.many j, one_many (kept_at places j))

  pub kept_first : (m p : ℕ) → kept_at places m ≡ Some p → first_block m (blocks order f) ≡ p
  kept_first m p e = first_of m p (blocks order f) (a.at m p e) (one_kept m)

  pub kept_order : (m p : ℕ) → kept_at places m ≡ Some p → has_order m (blocks order f) ≡ true
  kept_order m p e = order_of m p (blocks order f) (a.at m p e)

  pub kept_none : (m : ℕ) → kept_at places m ≡ None → has_order m (blocks order f) ≡ false
  kept_none m e = none_of m (blocks order f) (a.many m ∙ ap kept_count e)

  pub kept_apart : (i m p q : ℕ) → i ≢ m → kept_at places i ≡ Some q → kept_at places m ≡ Some p → Apart q i p m
  kept_apart i m p q n e d = lie_apart 0 (2 ^ order) (blocks order f) i q m p (are_blocks order f).apart (a.at i q e) (a.at m p d) n

  pub kept_least : (k m p : ℕ) → k ≤ m → kept_at places m ≡ Some p → ((j : ℕ) → k ≤ j → j < m → kept_at places j ≡ None) → IsLeastFrom k m (blocks order f)
  kept_least k m p l e h = record { from = l; there = kept_order m p e; least = λ i u v. kept_none i (h i u v) }

  pub kept_lies : (m p : ℕ) → kept_at places m ≡ Some p → (m ≤ order) × (p + 2 ^ m ≤ 2 ^ order)
  kept_lies m p e = let l = free.lies order m p f (a.at m p e) in (l.small, l.within)

some_is : (o : Option ℕ) (x y : ℕ) → o ≡ Some x → o ≡ Some y → x ≡ y
some_is o x y d e = cc

none_some : (A : Type 0) (o : Option ℕ) (y : ℕ) → o ≡ None → o ≡ Some y → A
none_some A o y d e = cc

-- ---- a block is taken
between_true : (k i m : ℕ) → k ≤ i → i < m → tick (nat_le k i && nat_lt i m) ≡ 1
between_true k i m h l = grind (arith, nat_tests)

not_that : (m i : ℕ) → m ≢ i → tick (nat_eq m i) ≡ 0
not_that m i n = ap tick (ne_eqb m i n)

module _ (order k m p : ℕ) (f : List Bool) (old new : List (Option ℕ)) (a : AreKept order f old) (len : length f ≡ 2 ^ order) (km : k ≤ m) (is : kept_at old m ≡ Some p) (empty : (j : ℕ) → k ≤ j → j < m → kept_at old j ≡ None) (s : SplitsAt k m p old new) (w : Splits k m (blocks order f) (blocks order (marked p (2 ^ k) false f))) where
  place : first_block m (blocks order f) ≡ p
  place = kept_first order f old a m p is

  beside : IsLeft order m k p f
  beside = subst (λ (x : ℕ). IsLeft order m k x f) place (left order m k f len km (kept_order order f old a m p is))

  many_now : (j : ℕ) → num j (blocks order (marked p (2 ^ k) false f)) ≡ kept_count (kept_at new j)
  many_now j =
      elim (cases_lt j k) [
        | inl l ↦ omega (arith, w j, a.many j, ap kept_count (s.lower j l), between_false k j m (λ u v. omega arith), not_that m j (λ e. omega arith))
        | inr g ↦ elim (cases_lt j m) [
          | inl l ↦ omega (arith, w j, a.many j, ap kept_count (empty j g l), ap kept_count (s.halves j g l), between_true k j m g l, not_that m j (λ e. omega arith))
          | inr o ↦ elim (cases_eq j m) [
            | inl e ↦ omega (arith, w j, a.many j, ap kept_count (ap (kept_at old) e ∙ is), ap kept_count (ap (kept_at new) e ∙ s.gone), between_false k j m (λ u v. omega arith), ap tick (eq-eqb m j (sym e)))
            | inr n ↦ omega (arith, w j, a.many j, ap kept_count (s.higher j (omega arith)), between_false k j m (λ u v. omega arith), not_that m j (λ e. n (sym e)))
          ]
        ]
      ]

  at_now : (j q : ℕ) → kept_at new j ≡ Some q → has_block j q (blocks order (marked p (2 ^ k) false f)) ≡ true
  at_now j q e =
      elim (cases_lt j k) [
        | inl l ↦ beside.others j q (λ d. omega arith) (a.at j q (sym (s.lower j l) ∙ e))
        | inr g ↦ elim (cases_lt j m) [
          | inl l ↦ let d : p + 2 ^ j ≡ q = some_is (kept_at new j) (p + 2 ^ j) q (s.halves j g l) e in ap (λ x. has_block j x (blocks order (marked p (2 ^ k) false f))) (sym d) ∙ beside.halves j g l
          | inr o ↦ elim (cases_eq j m) [
            | inl d ↦ none_some _ (kept_at new j) q (ap (kept_at new) d ∙ s.gone) e
            | inr n ↦ beside.others j q n (a.at j q (sym (s.higher j (omega arith)) ∙ e))
          ]
        ]
      ]

  pub kept_now : AreKept order (marked p (2 ^ k) false f) new
  kept_now = record { many = many_now; at = at_now }

-- the free places of a fresh arena as a block is taken
pub fresh_taken : (order k m p : ℕ) (old new : List (Option ℕ)) → AreKept order (fresh_free order old) old → k ≤ m → m < 31 → kept_at old m ≡ Some p → ((j : ℕ) → k ≤ j → j < m → kept_at old j ≡ None) → SplitsAt k m p old new → fresh_free order new ≡ marked p (2 ^ k) false (fresh_free order old)
fresh_taken order k m p old new a km l is empty s =
    high k m p old (replicate (2 ^ order) false) km (λ j q n e. kept_apart order (fresh_free order old) old a j m p q n e is) (λ x n. marked_bare x n (2 ^ order)) new s is empty 31 l

-- ---- a place at a time is given to the masks
pub block_out : (order m p : ℕ) (old : List (Option ℕ)) → AreKept order (fresh_free order old) old → kept_at old m ≡ Some p → IsOut order (with_blocks m old (replicate (2 ^ order) false)) p m
block_out order m p old a is =
    let f = fresh_free order old in
    let l = kept_lies order f old a m p is in
    record {
      aligned = (each_has _ m p (blocks order f) (are_blocks order f).aligned (a.at m p is)).0;
      small = l.0;
      within = l.1;
      out = untouched m m p old (replicate (2 ^ order) false) (omega arith) (λ j q n e. kept_apart order f old a j m p q n e is) (λ x n. marked_bare x n (2 ^ order)) m (omega arith);
    }

-- ---- all is free
module _ (order : ℕ) (places : List (Option ℕ)) (is : kept_at places order ≡ Some 0) (none : (j : ℕ) → j ≢ order → kept_at places j ≡ None) where
  before : (i : ℕ) → i ≤ order → with_blocks i places (replicate (2 ^ order) false) ≡ replicate (2 ^ order) false
  unfolding with_blocks
  before zero h = refl
  before (suc i) h = ap (λ o. with_block i o (with_blocks i places (replicate (2 ^ order) false))) (none i (λ e. omega arith)) ∙ before i (omega arith)

  after : (i : ℕ) → order < i → with_blocks i places (replicate (2 ^ order) false) ≡ replicate (2 ^ order) true
  unfolding with_blocks
  after zero h = absurd (omega arith)
  after (suc i) h =
      elim (cases_eq i order) [
        | inl e ↦
            ap (λ o. with_block i o (with_blocks i places (replicate (2 ^ order) false))) (ap (kept_at places) e ∙ is)
            ∙ (ap (marked 0 (2 ^ i) true) (before i (omega arith))
            ∙ (ap (λ x. marked 0 (2 ^ x) true (replicate (2 ^ order) false)) e
            ∙ marked_all (2 ^ order) true (replicate (2 ^ order) false) (length-replicate (2 ^ order) false)))
        | inr n ↦ ap (λ o. with_block i o (with_blocks i places (replicate (2 ^ order) false))) (none i n) ∙ after i (omega arith)
      ]

  pub whole_free : order < 31 → fresh_free order places ≡ replicate (2 ^ order) true
  whole_free l = after 31 l

  whole_is : blocks order (replicate (2 ^ order) true) ≡ (order, 0) ∷ []
  whole_is = blocks_whole order (replicate (2 ^ order) true) (all_replicate (2 ^ order))

  whole_many : (j : ℕ) → num j (blocks order (replicate (2 ^ order) true)) ≡ kept_count (kept_at places j)
  whole_many j =
      elim (cases_eq j order) [
        | inl e ↦ ap (num j) whole_is ∙ omega (arith, ap tick (eq-eqb order j (sym e)), ap kept_count (ap (kept_at places) e ∙ is))
        | inr n ↦ ap (num j) whole_is ∙ omega (arith, not_that order j (λ e. n (sym e)), ap kept_count (none j n))
      ]

  whole_at : (j p : ℕ) → kept_at places j ≡ Some p → has_block j p (blocks order (replicate (2 ^ order) true)) ≡ true
  whole_at j p d =
      elim (cases_eq j order) [
        | inl e ↦
            let z : 0 ≡ p = some_is (kept_at places j) 0 p (ap (kept_at places) e ∙ is) d in
            ap (has_block j p) whole_is ∙ (ap (λ t. (t && nat_eq 0 p) || false) (eq-eqb order j (sym e)) ∙ ap (λ t. t || false) (eq-eqb 0 p z))
        | inr n ↦ none_some _ (kept_at places j) p (none j n) d
      ]

  pub whole_kept : order < 31 → AreKept order (fresh_free order places) places
  whole_kept l = subst (λ (f : List Bool). AreKept order f places) (sym (whole_free l)) (record { many = whole_many; at = whole_at })

-- ---- the halves of a block, one after another
pub record Halving (k at p : ℕ) (start now : List (Option ℕ)) : Type 0 where
  pub halves : (j : ℕ) → k ≤ j → j < at → kept_at now j ≡ Some (p + 2 ^ j)
  pub others : (j : ℕ) → (j < k) ⊎ (at ≤ j) → kept_at now j ≡ kept_at start j
  pub long : length now ≡ length start

pub halving_start : (k p : ℕ) (start : List (Option ℕ)) → Halving k k p start start
halving_start k p start = record { halves = λ j h l. absurd (omega arith); others = λ j h. refl; long = refl }

pub halving_next : (k at p half : ℕ) (start now : List (Option ℕ)) → k ≤ at → at < length start → half ≡ p + 2 ^ at → Halving k at p start now → Halving k (at + 1) p start (set now at (Some half))
halving_next k at p half start now h l e d = record {
  halves = λ j u v. elim (cases_eq j at) [
    | inl s ↦ ap (kept_at (set now at (Some half))) s ∙ (get_or-set_same now at (Some half) None (omega (arith, d.long)) ∙ ap Some (e ∙ ap (λ x. p + 2 ^ x) (sym s)))
    | inr n ↦ get_or-set_other now at j (Some half) None n ∙ d.halves j u (omega arith)
  ];
  others = λ j o. let n : j ≢ at = not_at j o in get_or-set_other now at j (Some half) None n ∙ d.others j (weaker j o);
  long = length-set now at (Some half) ∙ d.long;
}
  where
    not_at : (j : ℕ) → (j < k) ⊎ (at + 1 ≤ j) → j ≢ at
    not_at j (inl a) e = omega arith
    not_at j (inr a) e = omega arith

    weaker : (j : ℕ) → (j < k) ⊎ (at + 1 ≤ j) → (j < k) ⊎ (at ≤ j)
    weaker j (inl a) = inl a
    weaker j (inr a) = inr (omega arith)

pub halving_end : (k at m p : ℕ) (old now : List (Option ℕ)) → m ≤ at → at ≤ m → k ≤ m → m < length old → Halving k at p (set old m None) now → SplitsAt k m p old now
halving_end k at m p old now h g l n d = record {
  lower = λ j u. d.others j (inl u) ∙ get_or-set_other old m j None None (λ e. omega arith);
  halves = λ j u v. d.halves j u (omega arith);
  gone = d.others m (inr g) ∙ get_or-set_same old m None None n;
  higher = λ j u. d.others j (inr (omega arith)) ∙ get_or-set_other old m j None None (λ e. omega arith);
}

-- ---- a take of a fresh arena
with_block_len : (i : ℕ) (o : Option ℕ) (f : List Bool) → length (with_block i o f) ≡ length f
with_block_len i None f = refl
with_block_len i (Some p) f = marked_len p (2 ^ i) true f

with_len : (i : ℕ) (places : List (Option ℕ)) (f : List Bool) → length (with_blocks i places f) ≡ length f
unfolding with_blocks
with_len zero places f = refl
with_len (suc i) places f = with_block_len i (kept_at places i) (with_blocks i places f) ∙ with_len i places f

pub fresh_len : (order : ℕ) (places : List (Option ℕ)) → length (fresh_free order places) ≡ 2 ^ order
fresh_len order places = with_len 31 places (replicate (2 ^ order) false) ∙ length-replicate (2 ^ order) false

pub record KeptTake (order k p : ℕ) (old new : List (Option ℕ)) : Type 0 where
  pub takes : TakesBlock order (fresh_free order old) (fresh_free order new) p k
  pub kept : AreKept order (fresh_free order new) new

pub kept_take : (order k m p : ℕ) (old new : List (Option ℕ)) → AreKept order (fresh_free order old) old → IsFoundFrom k m p old → SplitsAt k m p old new → KeptTake order k p old new
kept_take order k m p old new a h s =
    let f = fresh_free order old in
    let least = kept_least order f old a k m p h.from h.there h.least in
    let first : first_block m (blocks order f) ≡ p = kept_first order f old a m p h.there in
    let c = subst (λ (x : ℕ). IsCarved order m k x f) first (carved order m k f (fresh_len order old) h.from least.there) in
    let now = fresh_taken order k m p old new a h.from h.below h.there h.least s in
    record {
      takes = record {
        chosen = (m, least, sym first, subst (λ (g : List Bool). Splits k m (blocks order f) (blocks order g)) (sym now) c.splits);
        were = c.were;
        free = now;
      };
      kept = subst (λ (g : List Bool). AreKept order g new) (sym now) (kept_now order k m p f old new a (fresh_len order old) h.from h.there h.least s c.splits);
    }

-- what a take says beside
pub record Taken (order : ℕ) (old new : List Bool) (p k : ℕ) : Type 0 where
  pub small : k ≤ order
  pub out : IsOut order new p k
  pub total : free_count new + 2 ^ k ≡ free_count old
  pub fresh : OneEach (blocks order old) → OneEach (blocks order new)
  pub apart : (q i : ℕ) → IsOut order old q i → Apart q i p k
  pub still : (q i : ℕ) → IsOut order old q i → IsOut order new q i

pub take_says : (order : ℕ) (old new : List Bool) (p k : ℕ) → length old ≡ 2 ^ order → TakesBlock order old new p k → Taken order old new p k
take_says order old new p k len t =
    let m = t.chosen.0 in
    let l = t.chosen.1 in
    let fits : k ≤ order = omega (arith, l.from, order_fits order m old l.there) in
    let c = subst (λ (x : ℕ). IsCarved order m k x old) (sym t.chosen.2) (carved order m k old len l.from l.there) in
    let out : IsOut order new p k = record { aligned = c.aligned; small = fits; within = c.within; out = ap (marked p (2 ^ k) false) t.free ∙ (marked_over p (2 ^ k) false false old ∙ sym t.free) } in
    record {
      small = fits;
      out = out;
      total = taken_total p (2 ^ k) old new (omega (arith, len, c.within)) c.were t.free;
      fresh = λ o. one_each k m (blocks order old) (blocks order new) l t.chosen.3 o;
      apart = λ q i o. taken_apart order order old new p k q i refl len t out o;
      still = λ q i o. still_out order old new p k q i t o;
    }

module _ (order : ℕ) (places : List (Option ℕ)) (a : AreKept order (fresh_free order places) places) (l : order < 31) where
  no_past : (i : ℕ) → 31 ≤ i → has_order i (blocks order (fresh_free order places)) ≡ false
  no_past i h =
      let P : Bool → Type 0 = λ t. has_order i (blocks order (fresh_free order places)) ≡ t → t ≡ false in
      (elim (has_order i (blocks order (fresh_free order places))) as P [ true ↦ λ e. let o = order_fits order i (fresh_free order places) e in absurd (omega arith) | false ↦ λ e. refl ]) refl

  pub kept_greatest : (o : Option ℕ) → IsLastBelow places 31 o → IsGreatest o (blocks order (fresh_free order places))
  kept_greatest None h = λ i u. elim (cases_lt i 31) [ inl b ↦ kept_none order (fresh_free order places) places a i (h i b) | inr b ↦ no_past i b ]
  kept_greatest (Some m) h = (
    kept_order order (fresh_free order places) places a m h.1.0 h.1.1,
    λ i u. elim (cases_lt i 31) [ inl b ↦ kept_none order (fresh_free order places) places a i (h.2 i (omega arith) b) | inr b ↦ no_past i b ],
  )

pub in_31 : (order p m : ℕ) → order < 31 → p + 2 ^ m ≤ 2 ^ order → p + 2 ^ m ≤ 2 ^ 31
in_31 order p m l h = let s : 2 ^ order ≤ 2 ^ 31 = pow_mono {i = order} {j = 31} (omega arith) in omega arith

-- the masks of an arena that is given its kept blocks
pub bare_start : (b t : ℕ) (s : List ℕ) (places : List (Option ℕ)) → IsMaskTree b t s → mask b t s ≡ 0 → free_of b t s ≡ with_blocks 0 places (replicate (2 ^ ord b t) false)
unfolding with_blocks
bare_start b t s places r e = bare b t s r e

pub given_at : (i : ℕ) (places : List (Option ℕ)) (f g base : List Bool) (o : Option ℕ) → o ≡ kept_at places i → f ≡ with_blocks i places base → g ≡ with_block i o f → g ≡ with_blocks (i + 1) places base
unfolding with_blocks
given_at i places f g base o is e d =
    let n : suc i ≡ i + 1 = omega arith in
    subst (λ (x : ℕ). g ≡ with_blocks x places base) n (d ∙ (ap (λ x. with_block i x f) is ∙ ap (with_block i (kept_at places i)) e))

-- ---- the free places of an arena
pub map_len : (fresh : Bool) (b t : ℕ) (masks : List ℕ) (places : List (Option ℕ)) → length (free_in fresh b t masks places) ≡ 2 ^ ord b t
map_len true b t masks places = fresh_len (ord b t) places
map_len false b t masks places = free_len b t masks

pub is_map : (fresh : Bool) (b t n : ℕ) (masks : List ℕ) (places : List (Option ℕ)) → n ≡ ord b t → b + t < 31 → IsMapOf n (free_in fresh b t masks places)
is_map fresh b t n masks places e l = record { small = omega (arith, e, ord_is b t); places = map_len fresh b t masks places ∙ ap (λ i. 2 ^ i) (sym e) }

-- all is free again
pub all_fresh : (n b t : ℕ) (masks : List ℕ) (places : List (Option ℕ)) → n ≡ ord b t → b + t < 31 → IsMaskTree b t masks → mask b t masks ≡ 0 → length places ≡ 31 → kept_at places n ≡ Some 0 → ((j : ℕ) → j ≢ n → kept_at places j ≡ None) → AreFree true b t masks places × (fresh_free (ord b t) places ≡ replicate (2 ^ ord b t) true)
all_fresh n b t masks places e l r z len is none =
    let s : ord b t < 31 = omega (arith, ord_is b t) in
    let here : kept_at places (ord b t) ≡ Some 0 = ap (kept_at places) (sym e) ∙ is in
    let others : (j : ℕ) → j ≢ ord b t → kept_at places j ≡ None = λ j d. none j (λ u. d (u ∙ e)) in
    (record { right = r; long = len; bare = λ u. z; kept = λ u. whole_kept (ord b t) places here others s }, whole_free (ord b t) places here others s)
