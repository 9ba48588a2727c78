-- What comes next of an input.
use Rattle.std.proofs.Common.{◌≡◌, ℕ, ◌+◌, ◌-◌, ◌^◌, ◌≤◌, ◌<◌, List, [], ◌++◌, take, drop, length, Option, Some, None, refl, sym, ap, subst, ◌∙◌, arith, append_assoc, length-append, length-take, take_all}
use Rattle.std.specs.Prelude.{IfSome}
use Rattle.std.proofs.lemmas.List.{append-nil, take-append-drop, take-take, drop-drop, drop-take, drop_all}
use Rattle.fib_io.specs.Octets.{AreAt}
use Rattle.fib_io.specs.Pieces.{octets_read, octets_from, ComeNext, IsEnd, IsLarge}

-- what a read gave, and what is left, is what was left
ahead : (m at n : ℕ) (c buf : List ℕ) → at + n ≤ m → take n buf ≡ take n (drop at c) → drop at (take m c) ≡ take n buf ++ drop (at + n) (take m c)
ahead m at n c buf h e =
    let k : ℕ = m - at in
    let split : drop at (take m c) ≡ take k (drop at c) = subst (λ j. drop at (take j c) ≡ take k (drop at c)) (let s : at + k ≡ m = omega arith in s) (drop-take at k c) in
    sym (ap (λ z. z ++ drop (at + n) (take m c)) (e ∙ sym (take-take n k (drop at c) (omega arith)) ∙ ap (take n) (sym split))
    ∙ ap (λ z. take n (drop at (take m c)) ++ z) (sym (drop-drop n at (take m c)))
    ∙ take-append-drop n (drop at (take m c)))

pub come_next : (o : Option (List ℕ)) (at n : ℕ) (room : List ℕ) → at + n ≤ 2 ^ 36 → IfSome o (λ c. AreAt c at room n) → IfSome o (λ c. ComeNext c at room n)
come_next None at n room h a = tt
come_next (Some c) at n room h a = ahead (2 ^ 36) at n c room h a.same

nothing_from : (at : ℕ) (c : List ℕ) → length (take (2 ^ 36) c) ≤ at → octets_from at c ≡ []
nothing_from at c h = drop_all at (take (2 ^ 36) c) h

pub ends_here : (o : Option (List ℕ)) (at n : ℕ) (room : List ℕ) → at ≤ 2 ^ 36 → 0 < length room → n ≡ 0 → IfSome o (λ c. AreAt c at room n) → IfSome o (λ c. IsEnd c at)
ends_here None at n room h some none a = tt
ends_here (Some c) at n room h some none a =
    let short : length c ≤ at = a.ends none some in
    (nothing_from at c (omega (arith, length-take (2 ^ 36) c)), omega arith)

pub is_large : (o : Option (List ℕ)) (at n : ℕ) (room : List ℕ) → at ≡ 2 ^ 36 → 0 < n → IfSome o (λ c. AreAt c at room n) → IfSome o (λ c. IsLarge c at)
is_large None at n room e some a = tt
is_large (Some c) at n room e some a =
    let within : n ≤ length c - at = a.within in
    (nothing_from at c (omega (arith, length-take (2 ^ 36) c)), omega arith)

-- a fact on what an input tells, of the input as it was before
pub told_before : (old now : List ℕ → Option (List ℕ)) (name : List ℕ) (P : List ℕ → Type 0) → now ≡ old → IfSome (now name) P → IfSome (old name) P
told_before old now name P e h = let Q : (List ℕ → Option (List ℕ)) → Type 0 = λ k. IfSome (k name) P in subst Q e h

-- ---- all that is read

-- what was read so far, and what comes
abbrev pub ReadOn : List ℕ → List ℕ → Type 0
ReadOn xs c = octets_read c ≡ xs ++ octets_from (length xs) c

pub read_first : (o : Option (List ℕ)) (xs : List ℕ) → xs ≡ [] → IfSome o (ReadOn xs)
read_first None xs e = tt
read_first (Some c) xs e = rw e refl

pub longer_by : (xs ys room : List ℕ) (n : ℕ) → n ≤ length room → ys ≡ xs ++ take n room → length ys ≡ length xs + n
longer_by xs ys room n h e = omega (arith, ap length e, length-append xs (take n room), length-take n room)

pub read_more : (o : Option (List ℕ)) (xs ys room : List ℕ) (at n : ℕ) → at ≡ length xs → n ≤ length room → ys ≡ xs ++ take n room → IfSome o (λ c. ComeNext c at room n) → IfSome o (ReadOn xs) → IfSome o (ReadOn ys)
read_more None xs ys room at n is h e next on = tt
read_more (Some c) xs ys room at n is h e next on =
    let len : at + n ≡ length ys = omega (arith, ap length e, length-append xs (take n room), length-take n room) in
    on ∙ ap (λ k. xs ++ octets_from k c) (sym is) ∙ ap (λ z. xs ++ z) next
    ∙ sym (append_assoc xs (take n room) (octets_from (at + n) c))
    ∙ ap (λ z. z ++ octets_from (at + n) c) (sym e) ∙ ap (λ k. ys ++ octets_from k c) len

pub read_all : (o : Option (List ℕ)) (xs : List ℕ) (at : ℕ) → at ≡ length xs → IfSome o (λ c. IsEnd c at) → IfSome o (ReadOn xs) → IfSome o (λ c. xs ≡ c)
read_all None xs at is end on = tt
read_all (Some c) xs at is end on =
    sym (sym (take_all (2 ^ 36) c end.1) ∙ on ∙ ap (λ k. xs ++ octets_from k c) (sym is) ∙ ap (λ z. xs ++ z) end.0 ∙ append-nil xs)

pub large_of : (o : Option (List ℕ)) (at : ℕ) → IfSome o (λ c. IsLarge c at) → IfSome o (λ c. 2 ^ 36 < length c)
large_of None at l = tt
large_of (Some c) at l = l.1
