-- The places that a lookup may read: they stay so through every step, and all of a version's are so at a first go.
use Rattle.std.proofs.Common.{◌≡◌, ℕ, suc, ◌<◌, ◌≤◌, List, [], ◌∷◌, ◌++◌, Bool, true, false, cond, refl, ap, ◌∙◌, arith, inl, inr}
use Rattle.std.specs.Prelude.{not, ◌&&◌, ◌||◌, nat_eq, nat_le}
use Rattle.std.proofs.lemmas.Bool.{leb-true, le-leb}
use Rattle.std.proofs.lemmas.List.{append-nil}
use Rattle.std.proofs.lemmas.Bool.Decides.{nat_tests}
use Rattle.buddy_arena.specs.Space.{Space}
use Rattle.buddy_arena.specs.Places.{is_out, since}
use Rattle.buddy_arena.specs.Arrays.{Array, AreApart, among, has}
use Rattle.buddy_arena.proofs.Parting.{since_not, part_right}
use Rattle.poptrie_set.specs.Rooms.{Room, safe, room_at_end}
use Rattle.buddy_arena.specs.Blocks.{Retired, GivesBack, early, late, blocks_of, at_end}
use Rattle.buddy_arena.proofs.Sets.{both, both_left, both_right, not_true, was_false, either, or_left, or_right, not_among, among_append, among_in, no_common}

some_made : (made : ℕ) → nat_eq (suc made) 0 ≡ false
some_made made = grind (arith, nat_tests)

-- the three parts
pub safe_from : {T : Type 0} (r : Room T) (made since i : ℕ) → is_out r.space.free i ≡ true → among (blocks_of (early since r.retired)) i ≡ false → (nat_eq made 0 && among r.taken i) ≡ false → safe r made since i ≡ true
safe_from r made since i a b c = both (is_out r.space.free i && not (among (blocks_of (early since r.retired)) i)) _ (both (is_out r.space.free i) _ a (not_true _ b)) (not_true _ c)

module _ {T : Type 0} (r : Room T) (made since i : ℕ) (s : safe r made since i ≡ true) where
  first_two : (is_out r.space.free i && not (among (blocks_of (early since r.retired)) i)) ≡ true
  first_two = both_left (is_out r.space.free i && not (among (blocks_of (early since r.retired)) i)) (not (nat_eq made 0 && among r.taken i)) s

  pub safe_out : is_out r.space.free i ≡ true
  safe_out = both_left (is_out r.space.free i) _ first_two

  pub safe_late : among (blocks_of (early since r.retired)) i ≡ false
  safe_late = was_false _ (both_right (is_out r.space.free i) _ first_two)

  pub safe_made : (nat_eq made 0 && among r.taken i) ≡ false
  safe_made = was_false _ (both_right (is_out r.space.free i && not (among (blocks_of (early since r.retired)) i)) _ s)

  -- a store
  pub store_safe : safe r (suc made) since i ≡ true
  store_safe = safe_from r (suc made) since i safe_out safe_late (ap (λ b. b && among r.taken i) (some_made made))

-- an end
early_append : (since : ℕ) (xs ys : List Retired) → early since (xs ++ ys) ≡ early since xs ++ early since ys
early_append since [] ys = refl
early_append since (x ∷ xs) ys = by (nat_le x.end since) (early_append since xs ys)
  where
    by : (b : Bool) → early since (xs ++ ys) ≡ early since xs ++ early since ys → cond b (x ∷ early since (xs ++ ys)) (early since (xs ++ ys)) ≡ cond b (x ∷ early since xs) (early since xs) ++ early since ys
    by true e = ap (λ (t : List Retired). x ∷ t) e
    by false e = e

late_end : (since t : ℕ) (xs : List Array) → since < t → early since (at_end t xs) ≡ []
late_end since t [] l = refl
late_end since t (x ∷ xs) l = ap (λ b. cond b (record { block = x; end = t } ∷ early since (at_end t xs)) (early since (at_end t xs))) (over t since l) ∙ late_end since t xs l
  where
    over : (a b : ℕ) → b < a → nat_le a b ≡ false
    over a b h = grind (arith, nat_tests)

pub end_safe : {T : Type 0} (r : Room T) (made since t i : ℕ) → since < t → safe r made since i ≡ true → safe (room_at_end r t) 0 since i ≡ true
end_safe r made since t i l s =
    let e : early since (r.retired ++ at_end t r.replaced) ≡ early since r.retired = early_append since r.retired (at_end t r.replaced) ∙ (ap (λ (x : List Retired). early since r.retired ++ x) (late_end since t r.replaced l) ∙ append-nil (early since r.retired)) in
    safe_from (room_at_end r t) 0 since i (safe_out r made since i s) (ap (λ (x : List Retired). among (blocks_of x) i) e ∙ safe_late r made since i s) refl

-- what was taken is given back before a store was made
pub cancel_safe : {T : Type 0} (r : Room T) (space : Space T) (since i : ℕ) → GivesBack r.taken r.space space → safe r 0 since i ≡ true → safe (record { space = space; taken = []; replaced = []; retired = r.retired }) 0 since i ≡ true
cancel_safe r space since i g s = safe_from (record { space = space; taken = []; replaced = []; retired = r.retired }) 0 since i (g.still i (safe_out r 0 since i s) (safe_made r 0 since i s)) (safe_late r 0 since i s) refl

-- what no open lookup reads is given back
among_early : (since : ℕ) (xs : List Retired) (i : ℕ) → among (blocks_of (early since xs)) i ≡ true → among (blocks_of xs) i ≡ true
among_early since [] i e = e
among_early since (x ∷ xs) i e = by (λ h. among_early since xs i h) (nat_le x.end since) e
  where
    by : (among (blocks_of (early since xs)) i ≡ true → among (blocks_of xs) i ≡ true) → (b : Bool) → among (blocks_of (cond b (x ∷ early since xs) (early since xs))) i ≡ true → (has x.block i || among (blocks_of xs) i) ≡ true
    by again true q =
        elim (either (has x.block i) (among (blocks_of (early since xs)) i) q) [
          | inl h ↦ or_left (has x.block i) _ h
          | inr h ↦ or_right (has x.block i) _ (again h)
        ]
    by again false q = or_right (has x.block i) _ (again q)

module _ (since0 since : ℕ) (le : since0 ≤ since) where
  earlier : (t : ℕ) → nat_le t since0 ≡ true → nat_le t since ≡ true
  earlier t e = let l = leb-true t since0 e in le-leb t since (omega arith)

  -- those that are given back at the one time are given back at the other
  early_more : (xs : List Retired) (i : ℕ) → among (blocks_of (early since0 xs)) i ≡ true → among (blocks_of (early since xs)) i ≡ true
  early_more [] i e = e
  early_more (x ∷ xs) i e = by (λ h. early_more xs i h) (nat_le x.end since0) (nat_le x.end since) (earlier x.end) e
    where
      by : (among (blocks_of (early since0 xs)) i ≡ true → among (blocks_of (early since xs)) i ≡ true) → (a b : Bool) → (a ≡ true → b ≡ true) → among (blocks_of (cond a (x ∷ early since0 xs) (early since0 xs))) i ≡ true → among (blocks_of (cond b (x ∷ early since xs) (early since xs))) i ≡ true
      by again true true h q =
          elim (either (has x.block i) (among (blocks_of (early since0 xs)) i) q) [
            | inl p ↦ or_left (has x.block i) _ p
            | inr p ↦ or_right (has x.block i) _ (again p)
          ]
      by again true false h q = let z = h refl in cc
      by again false true h q = or_right (has x.block i) _ (again q)
      by again false false h q = again q

  early_late : (xs : List Retired) (i : ℕ) → among (blocks_of (early since (late since0 xs))) i ≡ true → among (blocks_of (early since xs)) i ≡ true
  early_late [] i e = e
  early_late (x ∷ xs) i e = by (λ h. early_late xs i h) (nat_le x.end since0) (earlier x.end) e
    where
      either_way : (among (blocks_of (early since (late since0 xs))) i ≡ true → among (blocks_of (early since xs)) i ≡ true) → (b : Bool) → among (blocks_of (cond b (x ∷ early since (late since0 xs)) (early since (late since0 xs)))) i ≡ true → among (blocks_of (cond b (x ∷ early since xs) (early since xs))) i ≡ true
      either_way again true q =
          elim (either (has x.block i) (among (blocks_of (early since (late since0 xs))) i) q) [
            | inl p ↦ or_left (has x.block i) _ p
            | inr p ↦ or_right (has x.block i) _ (again p)
          ]
      either_way again false q = again q

      more : (b : Bool) → among (blocks_of (early since xs)) i ≡ true → among (blocks_of (cond b (x ∷ early since xs) (early since xs))) i ≡ true
      more true q = or_right (has x.block i) _ q
      more false q = q

      by : (among (blocks_of (early since (late since0 xs))) i ≡ true → among (blocks_of (early since xs)) i ≡ true) → (a : Bool) → (a ≡ true → nat_le x.end since ≡ true) → among (blocks_of (early since (cond a (late since0 xs) (x ∷ late since0 xs)))) i ≡ true → among (blocks_of (cond (nat_le x.end since) (x ∷ early since xs) (early since xs))) i ≡ true
      by again true h q = more (nat_le x.end since) (again q)
      by again false h q = either_way again (nat_le x.end since) q

  module _ {T : Type 0} (r : Room T) (space : Space T) (g : GivesBack (blocks_of (early since0 r.retired)) r.space space) (none : r.taken ≡ []) where
    pub release_safe : (made i : ℕ) → safe r made since i ≡ true → safe (record { space = space; taken = []; replaced = []; retired = late since0 r.retired }) made since i ≡ true
    release_safe made i s =
        let e = safe_late r made since i s in
        safe_from (record { space = space; taken = []; replaced = []; retired = late since0 r.retired }) made since i
        (g.still i (safe_out r made since i s) (not_among (blocks_of (early since0 r.retired)) i (λ q. let f = early_more r.retired i q in cc)))
        (not_among (blocks_of (early since (late since0 r.retired))) i (λ q. let f = early_late r.retired i q in cc))
        (no (nat_eq made 0))
      where
        no : (b : Bool) → (b && false) ≡ false
        no true = refl
        no false = refl

-- blocks come out for an update
pub grown_safe : {T : Type 0} (r : Room T) (space : Space T) (taken replaced : List Array) (made t i : ℕ) → ((j : ℕ) → is_out r.space.free j ≡ true → is_out space.free j ≡ true) → AreApart (since (is_out r.space.free) (is_out space.free)) taken → safe r made t i ≡ true → safe (record { space = space; taken = taken; replaced = replaced; retired = r.retired }) 0 t i ≡ true
grown_safe r space taken replaced made t i h a s =
    safe_from (record { space = space; taken = taken; replaced = replaced; retired = r.retired }) 0 t i (h i (safe_out r made t i s)) (safe_late r made t i s)
    (not_among taken i (λ q. let e = since_not (is_out r.space.free i) (is_out space.free i) (among_in (since (is_out r.space.free) (is_out space.free)) taken i a q) in let o = safe_out r made t i s in cc))

-- ---- the places of a version
module _ {T : Type 0} (r : Room T) (xs : List Array) where
  -- of the one before: they are neither taken nor retired
  pub before_safe : (made t i : ℕ) → AreApart (is_out r.space.free) ((r.taken ++ blocks_of r.retired) ++ xs) → among xs i ≡ true → safe r made t i ≡ true
  before_safe made t i a e =
      safe_from r made t i (among_in (is_out r.space.free) xs i (part_right (is_out r.space.free) (r.taken ++ blocks_of r.retired) xs a) e)
      (not_among (blocks_of (early t r.retired)) i (λ q. no_common (is_out r.space.free) (r.taken ++ blocks_of r.retired) xs i a (among_append r.taken (blocks_of r.retired) i ∙ or_right (among r.taken i) _ (among_early t r.retired i q)) e))
      (no (nat_eq made 0) (among r.taken i) (λ q. no_common (is_out r.space.free) (r.taken ++ blocks_of r.retired) xs i a (among_append r.taken (blocks_of r.retired) i ∙ or_left (among r.taken i) _ q) e))
    where
      no : (a b : Bool) → (b ≡ true → ⊥) → (a && b) ≡ false
      no true true h = absurd (h refl)
      no true false h = refl
      no false b h = refl

  -- of the one after, where a store was made
  pub after_safe : (made t i : ℕ) → AreApart (is_out r.space.free) ((r.replaced ++ blocks_of r.retired) ++ xs) → among xs i ≡ true → safe r (suc made) t i ≡ true
  after_safe made t i a e =
      safe_from r (suc made) t i (among_in (is_out r.space.free) xs i (part_right (is_out r.space.free) (r.replaced ++ blocks_of r.retired) xs a) e)
      (not_among (blocks_of (early t r.retired)) i (λ q. no_common (is_out r.space.free) (r.replaced ++ blocks_of r.retired) xs i a (among_append r.replaced (blocks_of r.retired) i ∙ or_right (among r.replaced i) _ (among_early t r.retired i q)) e))
      (ap (λ b. b && among r.taken i) (some_made made))
