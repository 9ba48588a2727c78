-- The first blocks of those that were retired, as long as their end is no later than a time.
use Rattle.std.proofs.Common.{◌≡◌, ℕ, zero, suc, ◌+◌, ◌^◌, ◌<◌, ◌≤◌, List, [], ◌∷◌, ◌++◌, true, false, cond, length, take, drop, get_or, refl, sym, ap, ◌∙◌, arith, subst}
use Rattle.std.specs.Prelude.{nat_le}
use Rattle.std.specs.List.{AllByRecursion}
use Rattle.std.proofs.Math.Seq.{take-suc, drop-cons}
use Rattle.std.proofs.lemmas.Bool.{le-leb}
use Rattle.std.proofs.lemmas.Bool.Decides.{nat_tests}
use Rattle.std.proofs.lemmas.List.{drop_all, take-append-drop, get_or-drop, get_or-take, drop-drop}
use Rattle.buddy_arena.specs.Space.{Space, IsSized, IsOut, marked}
use Rattle.buddy_arena.specs.declared.arena.Block.{Block}
use Rattle.buddy_arena.specs.Places.{is_out}
use Rattle.buddy_arena.specs.Arrays.{Array, AreApart}
use Rattle.buddy_arena.specs.Blocks.{GivesBack, Retired, arrays_of, blocks_of, retired_of, early, late, EndsAscend, IsCut}
use Rattle.buddy_arena.specs.declared.blocks.Aside.{Aside}
use Rattle.buddy_arena.proofs.Given_back.{Given, given_start, given_out, given_next}

abbrev pub blocks_in : List Aside → List Block
blocks_in [] = []
blocks_in (a ∷ rest) = a.block ∷ blocks_in rest

same_blocks : (xs : List Aside) → arrays_of (blocks_in xs) ≡ blocks_of (retired_of xs)
same_blocks [] = refl
same_blocks (x ∷ xs) = ap (λ (r : List Array). (x.block.place, 2 ^ x.block.order) ∷ r) (same_blocks xs)

first_blocks : (n : ℕ) (xs : List Aside) → take n (blocks_in xs) ≡ blocks_in (take n xs)
first_blocks zero xs = refl
first_blocks (suc n) [] = refl
first_blocks (suc n) (x ∷ xs) = ap (λ (r : List Block). x.block ∷ r) (first_blocks n xs)

many_blocks : (xs : List Aside) → length (blocks_in xs) ≡ length xs
many_blocks [] = refl
many_blocks (x ∷ xs) = let e = many_blocks xs in omega arith

block_at : (xs : List Aside) (i : ℕ) (d : Aside) → get_or (blocks_in xs) i d.block ≡ (get_or xs i d).block
block_at [] i d = refl
block_at (x ∷ xs) zero d = refl
block_at (x ∷ xs) (suc i) d = block_at xs i d

abbrev pub AllEarly : ℕ → List Aside → Type 0
AllEarly since xs = AllByRecursion (λ (a : Aside). a.end ≤ since) xs

abbrev AllLate : ℕ → List Aside → Type 0
AllLate since xs = AllByRecursion (λ (a : Aside). since < a.end) xs

split : (since : ℕ) (xs ys : List Aside) → AllEarly since xs → AllLate since ys → (early since (retired_of (xs ++ ys)) ≡ retired_of xs) × (late since (retired_of (xs ++ ys)) ≡ retired_of ys)
split since [] ys a b = all_late ys b
  where
    all_late : (zs : List Aside) → AllLate since zs → (early since (retired_of zs) ≡ []) × (late since (retired_of zs) ≡ retired_of zs)
    all_late [] b = (refl, refl)
    all_late (z ∷ zs) b =
        let r = all_late zs b.1 in
        let f = over z.end since b.0 in
        let head : Retired = record { block = (z.block.place, 2 ^ z.block.order); end = z.end } in (
          ap (λ t. cond t (head ∷ early since (retired_of zs)) (early since (retired_of zs))) f ∙ r.0,
          ap (λ t. cond t (late since (retired_of zs)) (head ∷ late since (retired_of zs))) f ∙ ap (λ (x : List Retired). head ∷ x) r.1,
        )
      where
        over : (a b : ℕ) → b < a → nat_le a b ≡ false
        over a b h = grind (arith, nat_tests)
split since (x ∷ xs) ys a b =
    let r = split since xs ys a.1 b in
    let f = le-leb x.end since a.0 in
    let head : Retired = record { block = (x.block.place, 2 ^ x.block.order); end = x.end } in (
      ap (λ t. cond t (head ∷ early since (retired_of (xs ++ ys))) (early since (retired_of (xs ++ ys)))) f ∙ ap (λ (z : List Retired). head ∷ z) r.0,
      ap (λ t. cond t (late since (retired_of (xs ++ ys))) (head ∷ late since (retired_of (xs ++ ys)))) f ∙ r.1,
    )

-- ---- the loop
pub record Releases {T : Type 0} (aside : List Aside) (since : ℕ) (old now : Space T) (i : ℕ) : Type 0 where
  pub given : Given (blocks_in aside) old now i
  pub early : AllEarly since (take i aside)

pub releases_start : {T : Type 0} (aside : List Aside) (since : ℕ) (s : Space T) → IsSized s → AreApart (is_out s.free) (blocks_of (retired_of aside)) → Releases aside since s s 0
releases_start aside since s z a = record { given = given_start (blocks_in aside) s z (subst (λ (x : List Array). AreApart (is_out s.free) x) (sym (same_blocks aside)) a); early = tt }

all_more : (P : Aside → Type 0) (xs : List Aside) (y : Aside) → AllByRecursion P xs → P y → AllByRecursion P (xs ++ y ∷ [])
all_more P [] y a p = (p, tt)
all_more P (x ∷ xs) y a p = (a.0, all_more P xs y a.1 p)

module _ {T : Type 0} (aside : List Aside) (since : ℕ) (old now : Space T) (i : ℕ) (a d : Aside) (is : a ≡ get_or aside i d) (l : i < length aside) (r : Releases aside since old now i) where
  block_is : a.block ≡ get_or (blocks_in aside) i d.block
  block_is = ap (λ (x : Aside). x.block) is ∙ sym (block_at aside i d)

  within : i < length (blocks_in aside)
  within = let e = many_blocks aside in omega arith

  pub releases_out : IsOut now.order now.free a.block.place a.block.order
  releases_out = given_out (blocks_in aside) old now i a.block d.block block_is within r.given

  pub releases_next : a.end ≤ since → (t : Space T) → t.free ≡ marked a.block.place (2 ^ a.block.order) true now.free → t.order ≡ now.order → t.cells ≡ now.cells → t.fill ≡ now.fill → Releases aside since old t (i + 1)
  releases_next e t free order cells fill =
      let s : suc i ≡ i + 1 = omega arith in
      record {
        given = given_next (blocks_in aside) old now i a.block d.block block_is within r.given t free order cells fill;
        early = subst (λ (j : ℕ). AllEarly since (take j aside)) s (subst (λ (x : List Aside). AllEarly since x) (sym (take-suc aside i d l)) (all_more (λ (b : Aside). b.end ≤ since) (take i aside) (get_or aside i d) r.early (subst (λ (x : Aside). x.end ≤ since) is e)));
      }

raise : (since n : ℕ) (xs : List Aside) → since < n → AllByRecursion (λ (b : Aside). n ≤ b.end) xs → AllLate since xs
raise since n [] l a = tt
raise since n (x ∷ xs) l a = (omega (arith, a.0), raise since n xs l a.1)

after : (since : ℕ) (xs : List Aside) (j : ℕ) (d : Aside) → j < length xs → since < (get_or xs j d).end → EndsAscend xs → AllLate since (drop (suc j) xs)
after since [] j d l e asc = absurd (omega arith)
after since (x ∷ xs) zero d l e asc = raise since x.end xs e asc.0
after since (x ∷ xs) (suc j) d l e asc = after since xs j d (omega arith) e asc.1

module _ {T : Type 0} (aside : List Aside) (since : ℕ) (old now : Space T) (i : ℕ) (few : i ≤ length aside) (r : Releases aside since old now i) where
  cut : AllLate since (drop i aside) → IsCut aside since i
  cut h =
      let s = split since (take i aside) (drop i aside) r.early h in
      let w : retired_of (take i aside ++ drop i aside) ≡ retired_of aside = ap retired_of (take-append-drop i aside) in
      record { few = few; gone = ap (λ (x : List Retired). early since x) (sym w) ∙ s.0; left = ap (λ (x : List Retired). late since x) (sym w) ∙ s.1 }

  pub released_gives : GivesBack (blocks_of (retired_of (take i aside))) old now
  released_gives = subst (λ (x : List Array). GivesBack x old now) (ap arrays_of (first_blocks i aside) ∙ same_blocks (take i aside)) r.given.gives

  pub cut_end : length aside ≤ i → IsCut aside since i
  cut_end l = cut (subst (λ (x : List Aside). AllLate since x) (sym (drop_all i aside l)) tt)

  pub cut_stop : (a d : Aside) → a ≡ get_or aside i d → i < length aside → since < a.end → EndsAscend aside → IsCut aside since i
  cut_stop a d is l e asc = cut (subst (λ (x : List Aside). AllLate since x) (sym (drop-cons aside i d l)) (subst (λ (x : Aside). since < x.end) is e, after since aside i d l (subst (λ (x : Aside). since < x.end) is e) asc))

-- ---- the queue's front
pub front_read : (old now : List Aside) (n i : ℕ) (x : Aside) → now ≡ drop i old → i < n → x ≡ get_or now 0 x → x ≡ get_or (take n old) i x
front_read old now n i x e l q =
    let z : i + 0 ≡ i = omega arith in
    q ∙ (ap (λ (xs : List Aside). get_or xs 0 x) e ∙ (get_or-drop i old 0 x ∙ (ap (λ (j : ℕ). get_or old j x) z ∙ sym (get_or-take n old i x l))))

pub front_gone : (old now later : List Aside) (i : ℕ) → now ≡ drop i old → later ≡ drop 1 now → later ≡ drop (i + 1) old
front_gone old now later i e q = q ∙ (ap (λ (xs : List Aside). drop 1 xs) e ∙ drop-drop 1 i old)
