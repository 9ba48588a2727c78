-- Where calls leave a reader.
use Rattle.std.proofs.Common.{◌≡◌, ◌∙◌, refl, sym, ap, ℕ, ◌+◌, ◌^◌, ◌<◌, ◌≤◌, List, [], ◌∷◌, ◌++◌, Option, Some, None, arith}
use Rattle.std.specs.Prelude.{IfSome}
use Rattle.std.specs.Option.{SomeIff}
use Rattle.std.proofs.lemmas.Option.{none-some, same_Some}
use Rattle.fib_io.specs.Files.{Call, Went, Gave, place_after, StandsAfter, with_call}

place_after-append : (at : ℕ) (xs ys : List Call) → place_after at (xs ++ ys) ≡ place_after (place_after at xs) ys
place_after-append at [] ys = refl
place_after-append at (Went to ∷ xs) ys = place_after-append to xs ys
place_after-append at (Gave n ∷ xs) ys = place_after-append (at + n) xs ys

-- the calls after one more
told_calls : (old : Option (List Call)) (call : Call) (met : List Call) → with_call call old ≡ Some met → (before : List Call) × (old ≡ Some before) × (met ≡ before ++ call ∷ [])
told_calls None call met e = absurd (none-some met e)
told_calls (Some before) call met e = (before, refl, sym (same_Some _ met e))

-- it went to a place
pub went_stands : (old new : Option (List Call)) (at : ℕ) → at < 2 ^ 64 → new ≡ with_call (Went at) old → StandsAfter new (Some at)
went_stands old new at h e met is =
    let told = told_calls old (Went at) met (sym e ∙ is) in
    let stands : place_after 0 met ≡ at = ap (place_after 0) told.2 ∙ place_after-append 0 told.0 (Went at ∷ []) in
    (λ place p. sym (same_Some at place p) ∙ sym stands, λ none. absurd (none-some at (sym none)))

past : (k place : ℕ) → place ≡ k → (k < 2 ^ 64 → ⊥) → 2 ^ 64 ≤ place
past k place e h = grind (arith, e, h)

-- it gave octets from a place on
pub gave_stands : (old new : Option (List Call)) (P : Type 0) (at n : ℕ) (place : Option ℕ) → (at + n < 2 ^ 64 → P) → SomeIff place P (at + n) → new ≡ with_call (Gave n) old → StandsAfter old (Some at) → StandsAfter new place
gave_stands old new P at n None fits iff e stood met is =
    let told = told_calls old (Gave n) met (sym e ∙ is) in
    let from : at ≡ place_after 0 told.0 = (stood told.0 told.1).0 at refl in
    let stands : place_after 0 met ≡ at + n = ap (place_after 0) told.2 ∙ place_after-append 0 told.0 (Gave n ∷ []) ∙ ap (λ k. k + n) (sym from) in
    (λ place p. absurd (none-some place p), λ none. past (at + n) (place_after 0 met) stands (λ h. iff (fits h)))
gave_stands old new P at n (Some place) fits iff e stood met is =
    let told = told_calls old (Gave n) met (sym e ∙ is) in
    let from : at ≡ place_after 0 told.0 = (stood told.0 told.1).0 at refl in
    let stands : place_after 0 met ≡ at + n = ap (place_after 0) told.2 ∙ place_after-append 0 told.0 (Gave n ∷ []) ∙ ap (λ k. k + n) (sym from) in
    (λ other p. sym (same_Some place other p) ∙ iff.1 ∙ sym stands, λ none. absurd (none-some place (sym none)))

-- it was opened
pub opened_stands : (calls : Option (List Call)) (place : Option ℕ) → place ≡ Some 0 → IfSome calls (λ met. met ≡ []) → StandsAfter calls place
opened_stands None place e fresh met is = absurd (none-some met is)
opened_stands (Some before) place e fresh met is =
    let none : met ≡ [] = sym (same_Some before met is) ∙ fresh in
    (λ at p. sym (same_Some 0 at (sym e ∙ p)) ∙ sym (ap (place_after 0) none), λ no. absurd (none-some 0 (sym no ∙ e)))
