-- The fields of a line are cut at what stands between them.
use Rattle.std.proofs.Common.{◌≡◌, ℕ, ◌+◌, ◌<◌, List, [], ◌∷◌, Bool, true, false, not, cond, Option, Some, None, length, take, drop, refl, sym, ap, ◌∙◌, is_some, IsTrue}
use Rattle.std.specs.Prelude.{◌↔◌, ◌==◌, ◌||◌, nat_lt, position}
use Rattle.std.specs.Borrow.{Bor}
use Rattle.printed_text.specs.Fields.{fields_left}
use Rattle.std.specs.List.{slice_split, onto_first, list_any, position_or_len}
use Rattle.std.proofs.lemmas.Bool.{ltb-true}
use Rattle.std.proofs.lemmas.List.Splits.{slice_split_first, slice_split-cons_no}
use Rattle.fib_addr.proofs.HopLemmas.{any_before}

place_of : (test : ℕ → Bool) (text : List ℕ) (place : ℕ) → Some place ≡ position test text → (position_or_len test text < length text) × (position_or_len test text ≡ place)
place_of test text place e = by_test (nat_lt (position_or_len test text) (length text)) refl e
  where
    by_test : (t : Bool) → nat_lt (position_or_len test text) (length text) ≡ t → Some place ≡ cond t (Some (position_or_len test text)) None → (position_or_len test text < length text) × (position_or_len test text ≡ place)
    by_test true t f = (ltb-true _ _ t, let same : position_or_len test text ≡ place = cc in same)
    by_test false t f = absurd cc

-- the first field ends at the first such octet
pub at_first : (test : ℕ → Bool) (text : List ℕ) (place : ℕ) → Some place ≡ position test text → slice_split test text ≡ take place text ∷ slice_split test (drop (place + 1) text)
at_first test text place e =
    let h = place_of test text place e in
    slice_split_first test text 0 h.0 ∙ ap (λ (n : ℕ). take n text ∷ slice_split test (drop (n + 1) text)) h.1

none_there : (test : ℕ → Bool) (text : List ℕ) → list_any test text ≡ false → slice_split test text ≡ text ∷ []
none_there test [] e = refl
none_there test (c ∷ text) e = by_test (test c) refl e (none_there test text)
  where
    by_test : (t : Bool) → test c ≡ t → (t || list_any test text) ≡ false → (list_any test text ≡ false → slice_split test text ≡ text ∷ []) → slice_split test (c ∷ text) ≡ (c ∷ text) ∷ []
    by_test true t f ih = absurd cc
    by_test false t f ih = slice_split-cons_no test c text t ∙ ap (onto_first c) (ih f)

-- a text without one is one field
pub none_between : (test : ℕ → Bool) (text : List ℕ) → None ≡ position test text → slice_split test text ≡ text ∷ []
none_between test text e = by_test (nat_lt (position_or_len test text) (length text)) refl e
  where
    by_test : (t : Bool) → nat_lt (position_or_len test text) (length text) ≡ t → None ≡ cond t (Some (position_or_len test text)) None → slice_split test text ≡ text ∷ []
    by_test true t f = absurd cc
    by_test false t f = none_there test text (any_before test text ∙ t)

-- a text has a field at least
pub never_none : (test : ℕ → Bool) (text : List ℕ) → slice_split test text ≡ [] → ⊥
never_none test text e = by_place (position test text) refl
  where
    by_place : (p : Option ℕ) → p ≡ position test text → ⊥
    by_place (Some place) f = let no : take place text ∷ slice_split test (drop (place + 1) text) ≡ [] = sym (at_first test text place f) ∙ e in absurd cc
    by_place None f = let no : text ∷ [] ≡ [] = sym (none_between test text f) ∙ e in absurd cc

-- so no field is left exactly where no text is
pub none_left : (mark : ℕ) (left : Option (Bor (List ℕ))) (b : Bool) → is_some left ≡ not b → IsTrue b ↔ (fields_left mark left ≡ [])
none_left mark None true e = (λ t. refl, λ n. refl)
none_left mark None false e = absurd cc
none_left mark (Some text) true e = absurd cc
none_left mark (Some text) false e = (λ t. absurd cc, λ n. absurd (never_none (λ b. b == mark) text.now n))
