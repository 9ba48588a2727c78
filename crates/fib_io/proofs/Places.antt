-- Places that are known, and inputs that are open, one at a place of a list.
use Rattle.std.proofs.Common.{◌≡◌, ◌∙◌, refl, sym, subst, List, [], ◌∷◌, ◌++◌, Option, Some, None}
use Rattle.std.specs.Prelude.{IfSome}
use Rattle.std.specs.List.{All}
use Rattle.std.proofs.lemmas.List.Elements.{All-append, All-cons, All-nil}
use Rattle.std.specs.Option.{SomeIff}
use Rattle.std.proofs.lemmas.Option.{none-some, same_Some}

-- what is there is the value
pub value_is : {A : Type 0} (P : Type 0) (o : Option A) (v x : A) → SomeIff o P v → o ≡ Some x → v ≡ x
value_is P None v x s e = absurd (none-some x e)
value_is P (Some y) v x s e = sym s.1 ∙ same_Some y x e

-- what holds of all and of one more
pub all_pushed : {X : Type 0} (P : X → Type 0) (xs ys : List X) (x : X) → ys ≡ xs ++ x ∷ [] → All P xs → P x → All P ys
all_pushed P xs ys x e all p = subst (All P) (sym e) (All-append P xs (x ∷ []) all (All-cons P x [] p (All-nil P)))

-- what holds of any content that there may be
pub of_content : {A : Type 0} (o : Option A) (P : A → Type 0) → ((x : A) → o ≡ Some x → P x) → IfSome o P
of_content None P h = tt
of_content (Some x) P h = h x refl
