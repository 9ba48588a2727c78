-- What was fed of an input, and what comes of it.
use Rattle.std.proofs.Common.{◌≡◌, ℕ, ◌+◌, ◌^◌, ◌≤◌, List, [], ◌++◌, length, Option, Some, None, take, refl, sym, ap, subst, ◌∙◌, append_assoc, append-nil}
use Rattle.std.proofs.Math.Seq.{take-append_seam}
use Rattle.std.proofs.lemmas.List.{take-take}
use Rattle.std.specs.Prelude.{IfSome}
use Rattle.fib_io.specs.Pieces.{octets_read, octets_from, ComeNext}

-- what was fed, and what comes of the input
abbrev pub Comes : List ℕ → ℕ → List ℕ → Type 0
Comes fed at c = octets_read c ≡ fed ++ octets_from at c

pub comes_first : (o : Option (List ℕ)) → IfSome o (Comes [] 0)
comes_first None = tt
comes_first (Some c) = refl

pub comes_next : (o : Option (List ℕ)) (fed room : List ℕ) (at n : ℕ) → IfSome o (Comes fed at) → IfSome o (λ c. ComeNext c at room n) → IfSome o (Comes (fed ++ take n room) (at + n))
comes_next None fed room at n s t = tt
comes_next (Some c) fed room at n s t = s ∙ ap (λ z. fed ++ z) t ∙ sym (append_assoc fed (take n room) (octets_from (at + n) c))

pub all_fed : (c fed : List ℕ) (at : ℕ) → octets_from at c ≡ [] → Comes fed at c → octets_read c ≡ fed
all_fed c fed at nothing comes = comes ∙ ap (λ z. fed ++ z) nothing ∙ append-nil fed

-- what was fed is all that stands before the next place
pub fed_before : (c fed : List ℕ) (at : ℕ) → at ≤ 2 ^ 36 → length fed ≡ at → Comes fed at c → take at c ≡ fed
fed_before c fed at within is comes =
    sym (take-take at (2 ^ 36) c within) ∙ ap (take at) comes ∙ ap (λ k. take k (fed ++ octets_from at c)) (sym is) ∙ take-append_seam fed (octets_from at c)

-- what holds of what was fed holds of that
pub such_before : (content : Option (List ℕ)) (fed : List ℕ) (at : ℕ) (Such : List ℕ → Type 0) → at ≤ 2 ^ 36 → length fed ≡ at → IfSome content (Comes fed at) → Such fed → IfSome content (λ c. Such (take at c))
such_before None fed at Such within is comes such = tt
such_before (Some c) fed at Such within is comes such = subst Such (sym (fed_before c fed at within is comes)) such

-- an input as it was before
pub told_before : (old now : List ℕ → Option (List ℕ)) (name : List ℕ) (P : List ℕ → Type 0) → now ≡ old → IfSome (now name) P → IfSome (old name) P
told_before old now name P e h = let Q : (List ℕ → Option (List ℕ)) → Type 0 = λ k. IfSome (k name) P in subst Q e h
