-- The queue of blocks that are set aside, and what it is seen as.
use Rattle.std.proofs.Common.{◌≡◌, ℕ, zero, suc, Bool, true, false, cond, ◌+◌, ◌-◌, ◌≤◌, ◌^◌, List, [], ◌∷◌, ◌++◌, length, take, drop, refl, sym, ap, ◌∙◌, arith, subst}
use Rattle.std.specs.List.{AllByRecursion}
use Rattle.std.proofs.lemmas.Bool.{le-leb}
use Rattle.std.proofs.lemmas.List.{length-append, take-append-le, drop-append-le, take_all, take-append-drop, drop_all, length-take, length-drop, drop-drop, drop-take, append_assoc}
use Rattle.buddy_arena.specs.Space.{Space, IsSized, IsOut}
use Rattle.buddy_arena.specs.Space as arena
use Rattle.buddy_arena.proofs.Placing.{taken, still}
use Rattle.buddy_arena.specs.declared.arena.Block.{Block}
use Rattle.buddy_arena.specs.declared.blocks.Aside.{Aside}
use Rattle.buddy_arena.specs.Places.{is_out}
use Rattle.buddy_arena.specs.Arrays.{Array, Has, IsIn, AreApart, among}
use Rattle.buddy_arena.specs.Blocks.{Held, with_taken, with_replaced, Retired, arrays_of, retired_of, blocks_of, at_end, ended, cancelled, released, late, early, EndAt, EndBy, EndsAscend, IsQueue, AreHeldIn, IsCut, GivesBack, AreRetiredBy}
use Rattle.buddy_arena.proofs.Parting.{apart_cons, apart_more}
use Rattle.buddy_arena.proofs.Sets.{front_back, apart_less}

-- ---- of all blocks of two lists
both_all : (P : Aside → Type 0) (xs ys : List Aside) → AllByRecursion P xs → AllByRecursion P ys → AllByRecursion P (xs ++ ys)
both_all P [] ys a b = b
both_all P (x ∷ xs) ys a b = (a.0, both_all P xs ys a.1 b)

later_all : (s t : ℕ) (xs : List Aside) → s ≤ t → EndBy s xs → EndBy t xs
later_all s t [] l e = tt
later_all s t (x ∷ xs) l e = (omega (arith, e.0), later_all s t xs l e.1)

at_is_by : (t : ℕ) (xs : List Aside) → EndAt t xs → EndBy t xs
at_is_by t [] e = tt
at_is_by t (x ∷ xs) e = (omega (arith, e.0), at_is_by t xs e.1)

take_all_of : (P : Aside → Type 0) (n : ℕ) (xs : List Aside) → AllByRecursion P xs → AllByRecursion P (take n xs)
take_all_of P zero xs a = tt
take_all_of P (suc n) [] a = tt
take_all_of P (suc n) (x ∷ xs) a = (a.0, take_all_of P n xs a.1)

drop_all_of : (P : Aside → Type 0) (n : ℕ) (xs : List Aside) → AllByRecursion P xs → AllByRecursion P (drop n xs)
drop_all_of P zero xs a = a
drop_all_of P (suc n) [] a = tt
drop_all_of P (suc n) (x ∷ xs) a = drop_all_of P n xs a.1

pub take_ascends : (n : ℕ) (xs : List Aside) → EndsAscend xs → EndsAscend (take n xs)
take_ascends zero xs a = tt
take_ascends (suc n) [] a = tt
take_ascends (suc n) (x ∷ xs) a = (take_all_of (λ (b : Aside). x.end ≤ b.end) n xs a.0, take_ascends n xs a.1)

drop_ascends : (n : ℕ) (xs : List Aside) → EndsAscend xs → EndsAscend (drop n xs)
drop_ascends zero xs a = a
drop_ascends (suc n) [] a = tt
drop_ascends (suc n) (x ∷ xs) a = drop_ascends n xs a.1

-- ---- the queue after each step
pub queue_ended : (xs : List Aside) (n len time : ℕ) → len ≡ length xs → IsQueue xs n time → IsQueue xs len (suc time)
queue_ended xs n len time l q = record {
  many = omega arith;
  past =
      subst (λ (x : List Aside). EndBy (suc time) x) (take-append-drop n xs ∙ sym (take_all len xs (omega arith)))
      (both_all (λ (a : Aside). a.end ≤ suc time) (take n xs) (drop n xs) (later_all time (suc time) (take n xs) (omega arith) q.past) (at_is_by (suc time) (drop n xs) q.pending));
  pending = subst (λ (x : List Aside). EndAt (suc (suc time)) x) (sym (drop_all len xs (omega arith))) tt;
  in_order = q.in_order;
}

pub queue_cancelled : (xs short : List Aside) (n time : ℕ) → short ≡ take n xs → IsQueue xs n time → IsQueue short n time
queue_cancelled xs short n time e q =
    let len : length short ≡ n = ap length e ∙ (length-take n xs ∙ omega (arith, q.many)) in
    record {
      many = omega arith;
      past = subst (λ (x : List Aside). EndBy time x) (sym e ∙ sym (take_all n short (omega arith))) q.past;
      pending = subst (λ (x : List Aside). EndAt (suc time) x) (sym (drop_all n short (omega arith))) tt;
      in_order = subst (λ (x : List Aside). EndsAscend x) (sym e) (take_ascends n xs q.in_order);
    }

-- the first k of the retired ones are gone
pub first_gone : (xs : List Aside) (n k : ℕ) → k ≤ n → take (n - k) (drop k xs) ≡ drop k (take n xs)
first_gone xs n k l = let e : k + (n - k) ≡ n = omega arith in sym (drop-take k (n - k) xs) ∙ ap (λ (m : ℕ). drop k (take m xs)) e

pub others_stay : (xs : List Aside) (n k : ℕ) → k ≤ n → drop (n - k) (drop k xs) ≡ drop n xs
others_stay xs n k l = let e : k + (n - k) ≡ n = omega arith in drop-drop (n - k) k xs ∙ ap (λ (m : ℕ). drop m xs) e

pub queue_released : (xs left : List Aside) (n k time : ℕ) → k ≤ n → left ≡ drop k xs → IsQueue xs n time → IsQueue left (n - k) time
queue_released xs left n k time l e q =
    let len : length left ≡ length xs - k = ap length e ∙ length-drop k xs in
    record {
      many = omega (arith, q.many);
      past = subst (λ (x : List Aside). EndBy time x) (sym (first_gone xs n k l) ∙ ap (λ (x : List Aside). take (n - k) x) (sym e)) (drop_all_of (λ (a : Aside). a.end ≤ time) k (take n xs) q.past);
      pending = subst (λ (x : List Aside). EndAt (suc time) x) (sym (others_stay xs n k l) ∙ ap (λ (x : List Aside). drop (n - k) x) (sym e)) q.pending;
      in_order = subst (λ (x : List Aside). EndsAscend x) (sym e) (drop_ascends k xs q.in_order);
    }

-- ---- and what it is seen as
abbrev pub seen : List Block → List Aside → ℕ → ℕ → Held
seen some xs n time = record { taken = arrays_of some; replaced = blocks_of (retired_of (drop n xs)); retired = retired_of (take n xs); time = time }

pub retired_append : (xs ys : List Aside) → retired_of (xs ++ ys) ≡ retired_of xs ++ retired_of ys
retired_append [] ys = refl
retired_append (x ∷ xs) ys = ap (λ (r : List Retired). record { block = (x.block.place, 2 ^ x.block.order); end = x.end } ∷ r) (retired_append xs ys)

all_end : (t : ℕ) (xs : List Aside) → EndAt t xs → retired_of xs ≡ at_end t (blocks_of (retired_of xs))
all_end t [] e = refl
all_end t (x ∷ xs) e =
    ap (λ (n : ℕ). record { block = (x.block.place, 2 ^ x.block.order); end = n } ∷ retired_of xs) e.0
    ∙ ap (λ (r : List Retired). record { block = (x.block.place, 2 ^ x.block.order); end = t } ∷ r) (all_end t xs e.1)

pub seen_ended : (none some : List Block) (xs : List Aside) (n len time : ℕ) → none ≡ [] → len ≡ length xs → IsQueue xs n time → seen none xs len (suc time) ≡ ended (seen some xs n time)
seen_ended none some xs n len time e l q =
    let all : retired_of (take len xs) ≡ retired_of (take n xs) ++ at_end (suc time) (blocks_of (retired_of (drop n xs))) =
    ap retired_of (take_all len xs (omega arith)) ∙ (ap retired_of (sym (take-append-drop n xs)) ∙ (retired_append (take n xs) (drop n xs) ∙ ap (λ (r : List Retired). retired_of (take n xs) ++ r) (all_end (suc time) (drop n xs) q.pending))) in
    let gone : blocks_of (retired_of (drop len xs)) ≡ [] = ap (λ (x : List Aside). blocks_of (retired_of x)) (drop_all len xs (omega arith)) in
    ap (λ (x : List Block). record { taken = arrays_of x; replaced = blocks_of (retired_of (drop len xs)); retired = retired_of (take len xs); time = suc time }) e
    ∙ (ap (λ (x : List Array). record { taken = []; replaced = x; retired = retired_of (take len xs); time = suc time }) gone
    ∙ ap (λ (x : List Retired). record { taken = []; replaced = []; retired = x; time = suc time }) all)

pub seen_cancelled : (none some : List Block) (xs short : List Aside) (n time : ℕ) → none ≡ [] → short ≡ take n xs → IsQueue xs n time → seen none short n time ≡ cancelled (seen some xs n time)
seen_cancelled none some xs short n time e s q =
    let len : length short ≡ n = ap length s ∙ (length-take n xs ∙ omega (arith, q.many)) in
    let whole : take n short ≡ take n xs = take_all n short (omega arith) ∙ s in
    let gone : blocks_of (retired_of (drop n short)) ≡ [] = ap (λ (x : List Aside). blocks_of (retired_of x)) (drop_all n short (omega arith)) in
    ap (λ (x : List Block). record { taken = arrays_of x; replaced = blocks_of (retired_of (drop n short)); retired = retired_of (take n short); time = time }) e
    ∙ (ap (λ (x : List Array). record { taken = []; replaced = x; retired = retired_of (take n short); time = time }) gone
    ∙ ap (λ (x : List Aside). record { taken = []; replaced = []; retired = retired_of x; time = time }) whole)

pub seen_released : (some : List Block) (xs left : List Aside) (n k time since : ℕ) → k ≤ n → left ≡ drop k xs → IsCut (take n xs) since k → seen some left (n - k) time ≡ released since (seen some xs n time)
seen_released some xs left n k time since l e c =
    let a : blocks_of (retired_of (drop (n - k) left)) ≡ blocks_of (retired_of (drop n xs)) = ap (λ (x : List Aside). blocks_of (retired_of x)) (ap (λ (x : List Aside). drop (n - k) x) e ∙ others_stay xs n k l) in
    let b : retired_of (take (n - k) left) ≡ late since (retired_of (take n xs)) = ap retired_of (ap (λ (x : List Aside). take (n - k) x) e ∙ first_gone xs n k l) ∙ sym c.left in
    ap (λ (x : List Array). record { taken = arrays_of some; replaced = x; retired = retired_of (take (n - k) left); time = time }) a
    ∙ ap (λ (x : List Retired). record { taken = arrays_of some; replaced = blocks_of (retired_of (drop n xs)); retired = x; time = time }) b

-- ---- the places
pub held_cancelled : {T : Type 0} (space after : Space T) (h : Held) → GivesBack h.taken space after → AreApart (is_out space.free) (h.taken ++ blocks_of h.retired) → AreHeldIn (is_out after.free) (cancelled h)
held_cancelled space after h g a =
    let p = apart_less (is_out space.free) (is_out after.free) h.taken (blocks_of h.retired) g.still a in
    record { with_taken = p; with_replaced = p }

pub blocks_append : (xs ys : List Retired) → blocks_of (xs ++ ys) ≡ blocks_of xs ++ blocks_of ys
blocks_append [] ys = refl
blocks_append (x ∷ xs) ys = ap (λ (r : List Array). x.block ∷ r) (blocks_append xs ys)

-- some of the blocks that stand last are given back
less_between : (N M : ℕ → Bool) (xs gone rest : List Array) → ((i : ℕ) → N i ≡ true → among gone i ≡ false → M i ≡ true) → AreApart N (xs ++ (gone ++ rest)) → AreApart M (xs ++ rest)
less_between N M xs gone rest h a =
    apart_less N M gone (xs ++ rest) h
    (subst (λ (x : List Array). AreApart N x) (append_assoc gone xs rest)
    (front_back N xs gone rest (subst (λ (x : List Array). AreApart N x) (sym (append_assoc xs gone rest)) a)))

pub held_released : {T : Type 0} (space after : Space T) (some : List Block) (xs : List Aside) (n k time since : ℕ) → IsCut (take n xs) since k → GivesBack (blocks_of (retired_of (take k (take n xs)))) space after → AreHeldIn (is_out space.free) (seen some xs n time) → AreHeldIn (is_out after.free) (released since (seen some xs n time))
held_released space after some xs n k time since c g a =
    let parts : blocks_of (retired_of (take n xs)) ≡ blocks_of (retired_of (take k (take n xs))) ++ blocks_of (late since (retired_of (take n xs))) =
    ap (λ (x : List Aside). blocks_of (retired_of x)) (sym (take-append-drop k (take n xs))) ∙ (ap blocks_of (retired_append (take k (take n xs)) (drop k (take n xs))) ∙ (blocks_append (retired_of (take k (take n xs))) (retired_of (drop k (take n xs))) ∙ ap (λ (x : List Retired). blocks_of (retired_of (take k (take n xs))) ++ blocks_of x) (sym c.left))) in
    record {
      with_taken = less_between (is_out space.free) (is_out after.free) (arrays_of some) (blocks_of (retired_of (take k (take n xs)))) _ g.still (subst (λ (x : List Array). AreApart (is_out space.free) (arrays_of some ++ x)) parts a.with_taken);
      with_replaced = less_between (is_out space.free) (is_out after.free) (blocks_of (retired_of (drop n xs))) (blocks_of (retired_of (take k (take n xs)))) _ g.still (subst (λ (x : List Array). AreApart (is_out space.free) (blocks_of (retired_of (drop n xs)) ++ x)) parts a.with_replaced);
    }

-- what is retired ends by now
pub retired_by : (time : ℕ) (xs : List Aside) → EndBy time xs → AreRetiredBy time (retired_of xs)
retired_by time [] e = tt
retired_by time (x ∷ xs) e = (e.0, retired_by time xs e.1)

-- nothing is left that is later than all ends
none_late : (since time : ℕ) (xs : List Aside) → time ≤ since → EndBy time xs → late since (retired_of xs) ≡ []
none_late since time [] l e = refl
none_late since time (x ∷ xs) l e = ap (λ b. cond b (late since (retired_of xs)) (record { block = (x.block.place, 2 ^ x.block.order); end = x.end } ∷ late since (retired_of xs))) (le-leb x.end since (omega (arith, e.0))) ∙ none_late since time xs l e.1

pub all_released : (some : List Block) (xs : List Aside) (n time since : ℕ) → time ≤ since → IsQueue xs n time → (released since (seen some xs n time)).retired ≡ []
all_released some xs n time since l q = none_late since time (take n xs) l q.past

-- those that are given back are the first
pub cut_parts : (xs : List Aside) (since k : ℕ) → IsCut xs since k → retired_of xs ≡ early since (retired_of xs) ++ late since (retired_of xs)
cut_parts xs since k c =
    ap retired_of (sym (take-append-drop k xs))
    ∙ (retired_append (take k xs) (drop k xs)
    ∙ (ap (λ (x : List Retired). x ++ retired_of (drop k xs)) (sym c.gone) ∙ ap (λ (x : List Retired). early since (retired_of xs) ++ x) (sym c.left)))

-- ---- one more block is taken, or set aside
pub arrays_join : (xs ys : List Block) → arrays_of (xs ++ ys) ≡ arrays_of xs ++ arrays_of ys
arrays_join [] ys = refl
arrays_join (x ∷ xs) ys = ap (λ (r : List Array). (x.place, 2 ^ x.order) ∷ r) (arrays_join xs ys)

pub seen_taken : (some more : List Block) (b : Block) (xs : List Aside) (n time : ℕ) → more ≡ some ++ b ∷ [] → seen more xs n time ≡ with_taken (seen some xs n time) (b.place, 2 ^ b.order)
seen_taken some more b xs n time e = ap (λ (x : List Array). record { taken = x; replaced = blocks_of (retired_of (drop n xs)); retired = retired_of (take n xs); time = time }) (ap arrays_of e ∙ arrays_join some (b ∷ []))

pub seen_aside : (some : List Block) (xs ys : List Aside) (b : Block) (n time end : ℕ) → n ≤ length xs → ys ≡ xs ++ record { end = end; block = b } ∷ [] → seen some ys n time ≡ with_replaced (seen some xs n time) (b.place, 2 ^ b.order)
seen_aside some xs ys b n time end l e =
    let one : List Aside = record { end = end; block = b } ∷ [] in
    let rest : blocks_of (retired_of (drop n ys)) ≡ blocks_of (retired_of (drop n xs)) ++ (b.place, 2 ^ b.order) ∷ [] =
    ap (λ (x : List Aside). blocks_of (retired_of (drop n x))) e ∙ (ap (λ (x : List Aside). blocks_of (retired_of x)) (drop-append-le n xs one l) ∙ (ap blocks_of (retired_append (drop n xs) one) ∙ blocks_append (retired_of (drop n xs)) (retired_of one))) in
    let front : retired_of (take n ys) ≡ retired_of (take n xs) = ap (λ (x : List Aside). retired_of (take n x)) e ∙ ap retired_of (take-append-le n xs one l) in
    ap (λ (x : List Array). record { taken = arrays_of some; replaced = x; retired = retired_of (take n ys); time = time }) rest
    ∙ ap (λ (x : List Retired). record { taken = arrays_of some; replaced = blocks_of (retired_of (drop n xs)) ++ (b.place, 2 ^ b.order) ∷ []; retired = x; time = time }) front

one_later : (xs : List Aside) (y : Aside) → AllByRecursion (λ (a : Aside). a.end ≤ y.end) xs → EndsAscend xs → EndsAscend (xs ++ y ∷ [])
one_later [] y a s = (tt, tt)
one_later (x ∷ xs) y a s = (both_all (λ (b : Aside). x.end ≤ b.end) xs (y ∷ []) s.0 (a.0, tt), one_later xs y a.1 s.1)

pub queue_aside : (xs ys : List Aside) (b : Block) (n time end : ℕ) → end ≡ suc time → ys ≡ xs ++ record { end = end; block = b } ∷ [] → IsQueue xs n time → IsQueue ys n time
queue_aside xs ys b n time end late e q =
    let one : List Aside = record { end = end; block = b } ∷ [] in
    let all : EndBy end xs = subst (λ (x : List Aside). EndBy end x) (take-append-drop n xs) (both_all (λ (a : Aside). a.end ≤ end) (take n xs) (drop n xs) (later_all time end (take n xs) (omega arith) q.past) (subst (λ (t : ℕ). EndBy t (drop n xs)) (sym late) (at_is_by (suc time) (drop n xs) q.pending))) in
    subst (λ (x : List Aside). IsQueue x n time) (sym e)
    (record {
      many = omega (arith, length-append xs one, q.many);
      past = subst (λ (x : List Aside). EndBy time x) (sym (take-append-le n xs one q.many)) q.past;
      pending = subst (λ (x : List Aside). EndAt (suc time) x) (sym (drop-append-le n xs one q.many)) (both_all (λ (a : Aside). a.end ≡ suc time) (drop n xs) one q.pending (late, tt));
      in_order = one_later xs (record { end = end; block = b }) all q.in_order;
    })

-- the block that is taken was free, so it shares no place with those that are held
pub held_taken : {T : Type 0} (space after : Space T) (h : Held) (p k n : ℕ) → IsSized after → arena.TakesBlock space.order space.free after.free p k → IsOut after.order after.free p k → 2 ^ k ≡ n → AreHeldIn (is_out space.free) h → AreHeldIn (is_out after.free) (with_taken h (p, 2 ^ k))
held_taken space after h p k n z w o e a =
    let t = taken space after p k (2 ^ k) w o z refl in
    let more = still space after p k 0 w in
    let inside : IsIn (is_out after.free) (p, 2 ^ k) = ((λ i b. let s : p + (i - p) ≡ i = omega (arith, b.0) in ap (is_out after.free) (sym s) ∙ t.are (i - p) (omega (arith, b.0, b.1))), o.aligned) in
    let outside : (i : ℕ) → Has (p, 2 ^ k) i → is_out space.free i ≡ false = λ i b. (let s : p + (i - p) ≡ i = omega (arith, b.0) in ap (is_out space.free) (sym s) ∙ t.were (i - p) (omega (arith, b.0, b.1))) in
    record {
      with_taken = front_back (is_out after.free) ((p, 2 ^ k) ∷ []) h.taken (blocks_of h.retired) (apart_cons (is_out space.free) (is_out after.free) (p, 2 ^ k) (h.taken ++ blocks_of h.retired) inside outside more a.with_taken);
      with_replaced = apart_more (is_out space.free) (is_out after.free) (h.replaced ++ blocks_of h.retired) more a.with_replaced;
    }
