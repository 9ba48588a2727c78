-- Blocks that share no place, in any order.
use Rattle.std.proofs.Common.{◌≡◌, ℕ, ◌+◌, List, [], ◌∷◌, ◌++◌, Bool, true, false, refl, sym, ap, ◌∙◌, arith, subst, inl, inr}
use Rattle.std.specs.Prelude.{not, ◌&&◌, ◌⊎◌, ◌||◌, nat_le, nat_lt}
use Rattle.std.specs.List.{AllByRecursion}
use Rattle.std.proofs.lemmas.List.{append-nil, append_assoc}
use Rattle.std.proofs.lemmas.Bool.{leb-true, ltb-true, le-leb, lt-ltb}
use Rattle.buddy_arena.specs.Arrays.{Array, Has, IsIn, Share, AreApart, places_of, has, among}
use Rattle.buddy_arena.proofs.Parting.{all_append, part_right}

pub both_left : (a b : Bool) → (a && b) ≡ true → a ≡ true
both_left true b e = refl
both_left false b e = cc

pub both_right : (a b : Bool) → (a && b) ≡ true → b ≡ true
both_right true b e = e
both_right false b e = cc

pub both : (a b : Bool) → a ≡ true → b ≡ true → (a && b) ≡ true
both true b e f = f
both false b e f = cc

pub not_true : (a : Bool) → a ≡ false → not a ≡ true
not_true true e = cc
not_true false e = refl

pub was_false : (a : Bool) → not a ≡ true → a ≡ false
was_false true e = cc
was_false false e = refl

pub is_place : (a : Array) (i : ℕ) → has a i ≡ true → Has a i
is_place a i e = (leb-true a.0 i (both_left (nat_le a.0 i) _ e), ltb-true i (a.0 + a.1) (both_right (nat_le a.0 i) _ e))

pub place_is : (a : Array) (i : ℕ) → Has a i → has a i ≡ true
place_is a i h = both (nat_le a.0 i) (nat_lt i (a.0 + a.1)) (le-leb a.0 i h.0) (lt-ltb i (a.0 + a.1) h.1)

pub either : (a b : Bool) → (a || b) ≡ true → (a ≡ true) ⊎ (b ≡ true)
either true b e = inl refl
either false b e = inr e

pub or_left : (a b : Bool) → a ≡ true → (a || b) ≡ true
or_left true b e = refl
or_left false b e = cc

pub or_right : (a b : Bool) → b ≡ true → (a || b) ≡ true
or_right true b e = refl
or_right false b e = e

pub among_append : (xs ys : List Array) (i : ℕ) → among (xs ++ ys) i ≡ (among xs i || among ys i)
among_append [] ys i = refl
among_append (x ∷ xs) ys i = ap (λ b. has x i || b) (among_append xs ys i) ∙ assoc (has x i) (among xs i) (among ys i)
  where
    assoc : (a b c : Bool) → (a || (b || c)) ≡ ((a || b) || c)
    assoc true b c = refl
    assoc false b c = refl

-- what is in none of the places is not among them
pub not_among : (xs : List Array) (i : ℕ) → (among xs i ≡ true → ⊥) → among xs i ≡ false
not_among xs i h = by (among xs i) refl
  where
    by : (b : Bool) → among xs i ≡ b → among xs i ≡ false
    by true e = absurd (h e)
    by false e = e

pub among_in : (N : ℕ → Bool) (xs : List Array) (i : ℕ) → AreApart N xs → among xs i ≡ true → N i ≡ true
unfolding AreApart
among_in N [] i a e = cc
among_in N (x ∷ xs) i a e =
    elim (either (has x i) (among xs i) e) [
      | inl h ↦ a.0.0 i (is_place x i h)
      | inr h ↦ among_in N xs i a.2 h
    ]

share_none : (x : Array) (ys : List Array) (i : ℕ) → AllByRecursion (Share x) ys → has x i ≡ true → among ys i ≡ true → ⊥
share_none x [] i a e f = cc
share_none x (y ∷ ys) i a e f =
    elim (either (has y i) (among ys i) f) [
      | inl h ↦ a.0 i (is_place x i e) (is_place y i h)
      | inr h ↦ share_none x ys i a.1 e h
    ]

pub all_right : (P : Array → Type 0) (xs ys : List Array) → AllByRecursion P (xs ++ ys) → AllByRecursion P ys
all_right P [] ys a = a
all_right P (x ∷ xs) ys a = all_right P xs ys a.1

pub all_left : (P : Array → Type 0) (xs ys : List Array) → AllByRecursion P (xs ++ ys) → AllByRecursion P xs
all_left P [] ys a = tt
all_left P (x ∷ xs) ys a = (a.0, all_left P xs ys a.1)

-- two lists of blocks that are apart have no common place
pub no_common : (N : ℕ → Bool) (xs ys : List Array) (i : ℕ) → AreApart N (xs ++ ys) → among xs i ≡ true → among ys i ≡ true → ⊥
unfolding AreApart
no_common N [] ys i a e f = cc
no_common N (x ∷ xs) ys i a e f =
    elim (either (has x i) (among xs i) e) [
      | inl h ↦ share_none x ys i (all_right (Share x) xs ys a.1) h f
      | inr h ↦ no_common N xs ys i a.2 h f
    ]

-- ---- in another order
insert : (N : ℕ → Bool) (a : Array) (ys xs : List Array) → IsIn N a → AllByRecursion (Share a) (ys ++ xs) → AreApart N (ys ++ xs) → AreApart N (ys ++ a ∷ xs)
unfolding AreApart
insert N a [] xs h s p = (h, s, p)
insert N a (y ∷ ys) xs h s p = (
  p.0,
  all_append (Share y) ys (a ∷ xs) (all_left (Share y) ys xs p.1) (λ i o q. s.0 i q o, all_right (Share y) ys xs p.1),
  insert N a ys xs h s.1 p.2,
)

pub swap : (N : ℕ → Bool) (xs ys : List Array) → AreApart N (xs ++ ys) → AreApart N (ys ++ xs)
unfolding AreApart
swap N [] ys p = subst (λ (zs : List Array). AreApart N zs) (sym (append-nil ys)) p
swap N (x ∷ xs) ys p = insert N x ys xs p.0 (all_append (Share x) ys xs (all_right (Share x) xs ys p.1) (all_left (Share x) xs ys p.1)) (swap N xs ys p.2)

-- the parts of a list of three, the first of which goes behind the second
pub front_back : (N : ℕ → Bool) (xs ys zs : List Array) → AreApart N ((xs ++ ys) ++ zs) → AreApart N ((ys ++ xs) ++ zs)
unfolding AreApart
front_back N [] ys zs p = subst (λ (us : List Array). AreApart N (us ++ zs)) (sym (append-nil ys)) p
front_back N (x ∷ xs) ys zs p =
    let all = p.1 in
    let a = all_left (Share x) (xs ++ ys) zs all in
    let b = all_append (Share x) ys xs (all_right (Share x) xs ys a) (all_left (Share x) xs ys a) in
    let c = all_append (Share x) (ys ++ xs) zs b (all_right (Share x) (xs ++ ys) zs all) in
    let r = insert N x ys (xs ++ zs) p.0 (subst (λ (us : List Array). AllByRecursion (Share x) us) (append_assoc ys xs zs) c) (subst (λ (us : List Array). AreApart N us) (append_assoc ys xs zs) (front_back N xs ys zs p.2)) in
    subst (λ (us : List Array). AreApart N us) (sym (append_assoc ys (x ∷ xs) zs)) r

-- blocks that aren't one that is given back stay
pub without : (N M : ℕ → Bool) (a : Array) (rest : List Array) → ((i : ℕ) → N i ≡ true → (Has a i → ⊥) → M i ≡ true) → AreApart N (a ∷ rest) → AreApart M rest
unfolding AreApart
without N M a [] h p = tt
without N M a (b ∷ rest) h p = (
  ((λ i o. h i (p.2.0.0 i o) (λ q. p.1.0 i q o)), p.2.0.1),
  p.2.1,
  without N M a rest h (p.0, p.1.1, p.2.2),
)

-- ---- how many places they have
pub places_append : (xs ys : List Array) → places_of (xs ++ ys) ≡ places_of xs + places_of ys
places_append [] ys = omega arith
places_append (x ∷ xs) ys = let e = places_append xs ys in omega arith

-- what is left of blocks in a set when the first of them are given back
pub apart_less : (N M : ℕ → Bool) (gone rest : List Array) → ((i : ℕ) → N i ≡ true → among gone i ≡ false → M i ≡ true) → AreApart N (gone ++ rest) → AreApart M rest
unfolding AreApart
apart_less N M gone rest h p = less rest (λ i e. not_among gone i (λ q. no_common N gone rest i p q e)) (part_right N gone rest p)
  where
    less : (xs : List Array) → ((i : ℕ) → among xs i ≡ true → among gone i ≡ false) → AreApart N xs → AreApart M xs
    less [] g a = tt
    less (x ∷ xs) g a = (
      ((λ i o. h i (a.0.0 i o) (g i (or_left (has x i) (among xs i) (place_is x i o)))), a.0.1),
      a.1,
      less xs (λ i e. g i (or_right (has x i) (among xs i) e)) a.2,
    )
