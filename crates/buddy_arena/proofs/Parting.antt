-- Arrays that share no place.
use Rattle.std.proofs.Common.{◌≡◌, ℕ, List, [], ◌∷◌, ◌++◌, Bool, true, false, refl, sym, ◌∙◌}
use Rattle.std.specs.Prelude.{not, ◌&&◌}
use Rattle.std.specs.List.{AllByRecursion}
use Rattle.buddy_arena.specs.Arrays.{Array, Has, IsIn, Share, AreApart}

pub since_now : (a b : Bool) → (b && not a) ≡ true → b ≡ true
since_now true true e = cc
since_now true false e = cc
since_now false true e = refl
since_now false false e = cc

pub since_not : (a b : Bool) → (b && not a) ≡ true → a ≡ false
since_not true true e = cc
since_not true false e = cc
since_not false b e = refl

pub all_append : (P : Array → Type 0) (xs ys : List Array) → AllByRecursion P xs → AllByRecursion P ys → AllByRecursion P (xs ++ ys)
all_append P [] ys a b = b
all_append P (x ∷ xs) ys a b = (a.0, all_append P xs ys a.1 b)

pub apart_more : (N P : ℕ → Bool) (xs : List Array) → ((i : ℕ) → N i ≡ true → P i ≡ true) → AreApart N xs → AreApart P xs
unfolding AreApart
apart_more N P [] h a = tt
apart_more N P (x ∷ xs) h a = (((λ i o. h i (a.0.0 i o)), a.0.1), a.1, apart_more N P xs h a.2)

-- an array outside N shares no place with those in N
outside : (N : ℕ → Bool) (x : Array) (ys : List Array) → ((i : ℕ) → Has x i → N i ≡ false) → AreApart N ys → AllByRecursion (Share x) ys
unfolding AreApart
outside N x [] h a = tt
outside N x (y ∷ ys) h a = ((λ i o p. let e : true ≡ false = sym (a.0.0 i p) ∙ h i o in cc), outside N x ys h a.2)

-- one array, and others in N
pub apart_cons : (N P : ℕ → Bool) (x : Array) (ys : List Array) → IsIn P x → ((i : ℕ) → Has x i → N i ≡ false) → ((i : ℕ) → N i ≡ true → P i ≡ true) → AreApart N ys → AreApart P (x ∷ ys)
unfolding AreApart
apart_cons N P x ys i h s a = (i, outside N x ys h a, apart_more N P ys s a)

-- arrays in two sets
pub apart_append : (N M P : ℕ → Bool) (xs ys : List Array) → ((i : ℕ) → N i ≡ true → M i ≡ false) → ((i : ℕ) → N i ≡ true → P i ≡ true) → ((i : ℕ) → M i ≡ true → P i ≡ true) → AreApart N xs → AreApart M ys → AreApart P (xs ++ ys)
unfolding AreApart
apart_append N M P [] ys h s t a b = apart_more M P ys t b
apart_append N M P (x ∷ xs) ys h s t a b = (
  ((λ i o. s i (a.0.0 i o)), a.0.1),
  all_append (Share x) xs ys a.1 (outside M x ys (λ i o. h i (a.0.0 i o)) b),
  apart_append N M P xs ys h s t a.2 b,
)

pub part_left : (N : ℕ → Bool) (xs ys : List Array) → AreApart N (xs ++ ys) → AreApart N xs
unfolding AreApart
part_left N [] ys a = tt
part_left N (x ∷ xs) ys a = (a.0, all_left (Share x) xs ys a.1, part_left N xs ys a.2)
  where
    all_left : (P : Array → Type 0) (us vs : List Array) → AllByRecursion P (us ++ vs) → AllByRecursion P us
    all_left P [] vs b = tt
    all_left P (u ∷ us) vs b = (b.0, all_left P us vs b.1)

pub part_right : (N : ℕ → Bool) (xs ys : List Array) → AreApart N (xs ++ ys) → AreApart N ys
unfolding AreApart
part_right N [] ys a = a
part_right N (x ∷ xs) ys a = part_right N xs ys a.2
