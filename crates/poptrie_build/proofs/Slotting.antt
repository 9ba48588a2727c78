-- The slots of a region, from those of its halves.
use Rattle.std.proofs.Common.{◌≡◌, ◌≢◌, ℕ, zero, suc, ◌+◌, ◌-◌, ◌*◌, ◌/◌, ◌%◌, ◌^◌, ◌<◌, List, [], ◌∷◌, ◌++◌, Bool, true, false, Option, Some, None, length, nat_eq, get_or, take, refl, sym, ap, ◌∙◌, arith, subst, inl, inr, set}
use Rattle.std.specs.Prelude.{bit_and}
use Rattle.std.proofs.lemmas.Bool.{cases_lt}
use Rattle.std.proofs.lemmas.Nat.{pow-add, shr_high}
use Rattle.std.proofs.lemmas.Nat.Bits.{bit_at_above, shr_and_one}
use Rattle.std.proofs.lemmas.List.{get_or_append_left, get_or-append_right, get_or-set_same, length-take}
use Rattle.table_model.specs.Bits.{bits_of}
use Rattle.table_model.proofs.BitLaws.{length-bits_of, bits_low}
use Rattle.fib_addr.specs.Answers.{part, one_answer}
use Rattle.poptrie_build.specs.Slots.{AreSlots}
use Rattle.fib_addr.proofs.OneAnswer.{one_answer_part}
use Rattle.table_model.specs.Sets.{side}

pub double : (j : ℕ) → 2 ^ suc j ≡ 2 ^ j + 2 ^ j
double j = let e : suc j ≡ 1 + j = omega arith in ap (λ k. 2 ^ k) e ∙ pow-add 2 1 j ∙ omega arith

-- the places of a half, by what the code has
pub halved : (j : ℕ) → j ≢ 0 → 2 ^ j ≡ 2 ^ (j - 1) + 2 ^ (j - 1)
halved j z = let e : j ≡ suc (j - 1) = omega arith in ap (λ k. 2 ^ k) e ∙ double (j - 1)

pub take_nil : {A : Type 0} (a : ℕ) → take {A = A} a [] ≡ []
take_nil zero = refl
take_nil (suc a) = refl

-- a uniform region's slots all have its hop
pub slots_same : (j d h : ℕ) (f : List Bool → ℕ) (kinds : List (Option ℕ)) → one_answer d f ≡ Some h → ((v : ℕ) → v < 2 ^ j → get_or kinds v None ≡ Some h) → AreSlots j d f kinds
slots_same j d h f kinds e k v l =
    let p = take d (bits_of j v) in
    let n : length p + (d - j) ≡ d = omega (arith, length-take d (bits_of j v), length-bits_of j v) in
    k v l ∙ sym (one_answer_part d (d - j) f h p n e)

pub slots_none : (j d : ℕ) (f : List Bool → ℕ) (kinds : List (Option ℕ)) → one_answer d f ≡ None → j ≡ 0 → length kinds ≡ 2 ^ j → AreSlots j d f (set kinds 0 None)
unfolding bits_of
slots_none j d f kinds e z n v l =
    let one : 2 ^ j ≡ 1 = ap (λ i. 2 ^ i) z in
    let v0 : v ≡ 0 = omega arith in
    ap (λ i. get_or (set kinds 0 None) i None) v0
    ∙ (get_or-set_same kinds 0 None None (omega arith)
    ∙ sym (ap (λ i. one_answer (d - i) (part (take d (bits_of i v)) f)) z
    ∙ (ap (λ x. one_answer (d - 0) (part x f)) (take_nil d)
    ∙ (ap (λ n. one_answer n f) (let k : d - 0 ≡ d = omega arith in k) ∙ e))))

pub low_bits : (j v : ℕ) → v < 2 ^ j → bits_of (suc j) v ≡ false ∷ bits_of j v
unfolding bits_of
low_bits j v l = ap (λ b. nat_eq b 1 ∷ bits_of j v) (bit_at_above v j j l (omega arith))

pub high_bits : (j u : ℕ) → u < 2 ^ j → bits_of (suc j) (2 ^ j + u) ≡ true ∷ bits_of j u
unfolding bits_of
high_bits j u l =
    let e : 2 ^ j + u ≡ 1 * 2 ^ j + u = omega arith in
    ap (bits_of (suc j)) e
    ∙ (ap (λ x. nat_eq (x % 2) 1 ∷ bits_of j (1 * 2 ^ j + u)) (shr_high 1 j u l)
    ∙ ap (λ bs. true ∷ bs) (bits_low j 1 u l))

pub halves : (j d : ℕ) (f : List Bool → ℕ) (low high : List (Option ℕ)) → length low ≡ 2 ^ j → AreSlots j d (side false f) low → AreSlots j d (side true f) high → AreSlots (suc j) (suc d) f (low ++ high)
halves j d f low high n a b v l =
    elim (cases_lt v (2 ^ j)) [
      | inl h ↦
          get_or_append_left low high None v (omega arith)
          ∙ (a v h
          ∙ sym (ap (λ x. one_answer (suc d - suc j) (part (take (suc d) x) f)) (low_bits j v h)
          ∙ ap (λ n. one_answer n (part (take d (bits_of j v)) (side false f))) (let e : suc d - suc j ≡ d - j = omega arith in e)))
      | inr h ↦
          let u = v - 2 ^ j in
          let is : v ≡ 2 ^ j + u = omega arith in
          let m : u < 2 ^ j = omega (arith, double j) in
          get_or-append_right low high (2 ^ j) v None n h
          ∙ (b u m
          ∙ sym (ap (λ i. one_answer (suc d - suc j) (part (take (suc d) (bits_of (suc j) i)) f)) is
          ∙ (ap (λ x. one_answer (suc d - suc j) (part (take (suc d) x) f)) (high_bits j u m)
          ∙ ap (λ n. one_answer n (part (take d (bits_of j u)) (side true f))) (let e : suc d - suc j ≡ d - j = omega arith in e))))
    ]

-- the same of what the code has
pub slots_halves : (j d e g : ℕ) (f fl fh : List Bool → ℕ) (low high : List (Option ℕ)) → j ≢ 0 → length low ≡ 2 ^ (j - 1) → e + 1 ≡ d → g + 1 ≡ d → fl ≡ side false f → fh ≡ side true f → AreSlots (j - 1) e fl low → AreSlots (j - 1) g fh high → AreSlots j d f (low ++ high)
slots_halves j d e g f fl fh low high z n de dg pl ph a b =
    let k = j - 1 in
    let is : suc k ≡ j = omega arith in
    let sd : suc e ≡ d = omega arith in
    let same : g ≡ e = omega arith in
    let a2 : AreSlots k e (side false f) low = subst (λ (x : List Bool → ℕ). AreSlots k e x low) pl a in
    let b2 : AreSlots k e (side true f) high = subst (λ (x : List Bool → ℕ). AreSlots k e x high) ph (subst (λ (x : ℕ). AreSlots k x fh high) same b) in
    subst (λ (x : ℕ). AreSlots x d f (low ++ high)) is (subst (λ (x : ℕ). AreSlots (suc k) x f (low ++ high)) sd (halves k e f low high n a2 b2))

-- ---- the way down to a part
pub descended : (depth bits x : ℕ) (f h out : List Bool → ℕ) → depth ≢ 0 → x ≡ bit_and (bits / 2 ^ (depth - 1)) 1 → h ≡ side (nat_eq x 1) f → out ≡ part (bits_of (depth - 1) bits) h → out ≡ part (bits_of depth bits) f
unfolding bits_of
descended depth bits x f h out z b e o =
    let is : suc (depth - 1) ≡ depth = omega arith in
    o
    ∙ (ap (part (bits_of (depth - 1) bits)) (e ∙ ap (λ y. side (nat_eq y 1) f) (b ∙ shr_and_one bits (depth - 1)))
    ∙ ap (λ n. part (bits_of n bits) f) is)

pub descended_last : (depth bits x : ℕ) (f h : List Bool → ℕ) → 0 < depth → depth - 1 ≡ 0 → x ≡ bit_and (bits / 2 ^ (depth - 1)) 1 → h ≡ side (nat_eq x 1) f → h ≡ part (bits_of depth bits) f
unfolding bits_of
descended_last depth bits x f h z l b e = descended depth bits x f h h (omega arith) b e (sym (ap (λ n. part (bits_of n bits) h) l))
