-- What else is out stays out.
use Rattle.std.proofs.Common.{◌≡◌, ℕ, zero, suc, ◌+◌, ◌^◌, ◌≤◌, List, [], ◌∷◌, ◌++◌, take, drop, length, inl, inr, Bool, true, false, refl, sym, ap, ◌∙◌, subst, arith, replicate, nat_eq}
use Rattle.buddy_arena.specs.Space.{Space, marked, blocks, num, empty, IsOut, TakesBlock, OneEach, Apart}
use Rattle.buddy_arena.proofs.Spans.{blocks_whole, all_replicate}
use Rattle.std.proofs.lemmas.List.{take_at}
use Rattle.std.proofs.lemmas.Nat.{pow_pos}
use Rattle.buddy_arena.proofs.Totals.{tick_le}
use Rattle.buddy_arena.proofs.Words.{no_overlap}
use Rattle.buddy_arena.specs.Space.{all_true}

-- two times the same value: the order doesn't matter
marked_both : (v : Bool) (p i q n : ℕ) (f : List Bool) → marked p i v (marked q n v f) ≡ marked q n v (marked p i v f)
marked_both v p i q n [] = refl
marked_both v zero zero zero zero (b ∷ f) = refl
marked_both v zero zero zero (suc n) (b ∷ f) = refl
marked_both v zero zero (suc q) n (b ∷ f) = refl
marked_both v zero (suc i) zero zero (b ∷ f) = refl
marked_both v zero (suc i) zero (suc n) (b ∷ f) = ap (λ r. v ∷ r) (marked_both v zero i zero n f)
marked_both v zero (suc i) (suc q) n (b ∷ f) = ap (λ r. v ∷ r) (marked_both v zero i q n f)
marked_both v (suc p) i zero zero (b ∷ f) = refl
marked_both v (suc p) i zero (suc n) (b ∷ f) = ap (λ r. v ∷ r) (marked_both v p i zero n f)
marked_both v (suc p) i (suc q) n (b ∷ f) = ap (λ r. b ∷ r) (marked_both v p i q n f)

pub still_out : (order : ℕ) (old new : List Bool) (place k p i : ℕ) → TakesBlock order old new place k → IsOut order old p i → IsOut order new p i
still_out order old new place k p i t o = record {
  aligned = o.aligned;
  small = o.small;
  within = o.within;
  out = ap (marked p (2 ^ i) false) t.free ∙ marked_both false p (2 ^ i) place (2 ^ k) old ∙ ap (marked place (2 ^ k) false) o.out ∙ sym t.free;
}

-- two values at places apart
pub marked_apart : (p i q n : ℕ) (f : List Bool) → p + i ≤ q → marked p i false (marked q n true f) ≡ marked q n true (marked p i false f)
marked_apart p i q n [] h = refl
marked_apart zero zero zero zero (b ∷ f) h = refl
marked_apart zero zero zero (suc n) (b ∷ f) h = refl
marked_apart zero zero (suc q) n (b ∷ f) h = refl
marked_apart zero (suc i) zero n (b ∷ f) h = absurd (omega arith)
marked_apart zero (suc i) (suc q) n (b ∷ f) h = ap (λ r. false ∷ r) (marked_apart zero i q n f (omega arith))
marked_apart (suc p) i zero n (b ∷ f) h = absurd (omega arith)
marked_apart (suc p) i (suc q) n (b ∷ f) h = ap (λ r. b ∷ r) (marked_apart p i q n f (omega arith))

pub marked_apart_after : (p i q n : ℕ) (f : List Bool) → q + n ≤ p → marked p i false (marked q n true f) ≡ marked q n true (marked p i false f)
marked_apart_after p i q n [] h = refl
marked_apart_after zero zero zero zero (b ∷ f) h = refl
marked_apart_after zero (suc i) zero zero (b ∷ f) h = refl
marked_apart_after zero i zero (suc n) (b ∷ f) h = absurd (omega arith)
marked_apart_after zero i (suc q) n (b ∷ f) h = absurd (omega arith)
marked_apart_after (suc p) i zero zero (b ∷ f) h = refl
marked_apart_after (suc p) i zero (suc n) (b ∷ f) h = ap (λ r. true ∷ r) (marked_apart_after p i zero n f (omega arith))
marked_apart_after (suc p) i (suc q) n (b ∷ f) h = ap (λ r. b ∷ r) (marked_apart_after p i q n f (omega arith))

-- a new arena has one free block
pub one_whole : (n : ℕ) (f : List Bool) → f ≡ replicate (2 ^ n) true → OneEach (blocks n f)
one_whole n f e i = subst (λ (x : ℕ). x ≤ 1) (sym (ap (num i) (blocks_whole n f (ap all_true e ∙ all_replicate (2 ^ n))))) (omega (arith, tick_le (nat_eq n i)))

pub taken_apart : (order later : ℕ) (old new : List Bool) (q m p k : ℕ) → later ≡ order → length old ≡ 2 ^ order → TakesBlock order old new q m → IsOut later new q m → IsOut order old p k → Apart p k q m
taken_apart order later old new q m p k e l t n o = no_overlap p (2 ^ k) q (2 ^ m) old (pow_pos k) (pow_pos m) (omega (arith, l, o.within)) (omega (arith, l, ap (λ i. 2 ^ i) e, n.within)) o.out t.were

-- what is out beside a block that is given back stays out
pub given_out : (order : ℕ) (old new : List Bool) (q m p k : ℕ) → new ≡ marked q (2 ^ m) true old → Apart p k q m → IsOut order old p k → IsOut order new p k
given_out order old new q m p k e (inl a) o = record { aligned = o.aligned; small = o.small; within = o.within; out = ap (marked p (2 ^ k) false) e ∙ marked_apart p (2 ^ k) q (2 ^ m) old a ∙ ap (marked q (2 ^ m) true) o.out ∙ sym e }
given_out order old new q m p k e (inr a) o = record { aligned = o.aligned; small = o.small; within = o.within; out = ap (marked p (2 ^ k) false) e ∙ marked_apart_after p (2 ^ k) q (2 ^ m) old a ∙ ap (marked q (2 ^ m) true) o.out ∙ sym e }

pub given_still : (order later : ℕ) (old new : List Bool) (q m p k : ℕ) → later ≡ order → new ≡ marked q (2 ^ m) true old → Apart p k q m → IsOut order old p k → IsOut later new p k
given_still order later old new q m p k e f a o = subst (λ (n : ℕ). IsOut n new p k) (sym e) (given_out order old new q m p k f a o)

-- an arena of nothing but free places, each cell as at first
abbrev space : {T : Type 0} → ℕ → List Bool → List T → T → Space T
space n f cells v = record { order = n; free = f; cells = cells; fill = v }

pub made_empty : {T : Type 0} (n : ℕ) (f : List Bool) (cells : List T) (v : T) → f ≡ replicate (2 ^ n) true → cells ≡ replicate (2 ^ n) v → space n f cells v ≡ empty n v
made_empty n f cells v e d = ap (λ x. space n x cells v) e ∙ ap (λ x. space n (replicate (2 ^ n) true) x v) d

-- what a vector holds after a call that was lent all of it
pub lent_all : {X : Type 0} (n : ℕ) (new old : List X) → length new ≡ n → take n (new ++ drop (length new) old) ≡ new
lent_all n new old e = take_at new (drop (length new) old) n e
