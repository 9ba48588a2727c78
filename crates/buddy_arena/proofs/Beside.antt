-- The places of blocks, as they are counted.
use Rattle.std.proofs.Common.{◌≡◌, ℕ, true, ◌+◌, ◌-◌, ◌^◌, ◌<◌, ◌≤◌, List, [], ◌∷◌, ◌++◌, length, take, drop, refl, sym, ap, ◌∙◌, arith, subst, inl, inr}
use Rattle.std.specs.Prelude.{min}
use Rattle.std.proofs.Math.Nat.{min-eq_left}
use Rattle.std.proofs.Math.Pow.{pow_mono}
use Rattle.std.proofs.lemmas.Bool.{cases_lt}
use Rattle.std.proofs.lemmas.List.{take-append-drop, take_all, drop_all, take-append-le, drop-append-le, length-take}
use Rattle.buddy_arena.specs.Space.{Space, IsSized, marked}
use Rattle.buddy_arena.specs.declared.arena.Block.{Block}
use Rattle.buddy_arena.specs.declared.blocks.Aside.{Aside}
use Rattle.buddy_arena.specs.Places.{is_out, count_free}
use Rattle.buddy_arena.specs.Arrays.{Array, AreApart, places_of}
use Rattle.buddy_arena.specs.Blocks.{Counts, AreCounted, GivesBack, arrays_of, blocks_of, retired_of}
use Rattle.buddy_arena.proofs.Sets.{places_append}
use Rattle.buddy_arena.proofs.Totals.{total_le, small_pow}
use Rattle.buddy_arena.proofs.Given_back.{one_given, rest_apart, still_sized}
use Rattle.buddy_arena.proofs.Queue.{retired_append, blocks_append, arrays_join, first_gone, others_stay}

abbrev pub places_in : List Aside → ℕ
places_in xs = places_of (blocks_of (retired_of xs))

in_both : (xs ys : List Aside) → places_in (xs ++ ys) ≡ places_in xs + places_in ys
in_both xs ys = ap (λ r. places_of (blocks_of r)) (retired_append xs ys) ∙ (ap places_of (blocks_append (retired_of xs) (retired_of ys)) ∙ places_append (blocks_of (retired_of xs)) (blocks_of (retired_of ys)))

in_parts : (n : ℕ) (xs : List Aside) → places_in xs ≡ places_in (take n xs) + places_in (drop n xs)
in_parts n xs = ap places_in (sym (take-append-drop n xs)) ∙ in_both (take n xs) (drop n xs)

-- ---- sums
pub counts_none : (xs : List Array) → xs ≡ [] → Counts 0 xs
counts_none xs e s = sym (ap places_of e)

pub counts_more : (n m k : ℕ) (xs ys zs : List Array) → k ≡ min (n + m) 18446744073709551615 → places_of zs ≡ places_of xs + places_of ys → Counts n xs → Counts m ys → Counts k zs
counts_more n m k xs ys zs e z a b s =
    let p = a (omega (arith, z, s)) in
    let q = b (omega (arith, z, s)) in
    e ∙ (min-eq_left (omega (arith, p, q, z, s)) ∙ omega (arith, p, q, z))

pub counts_block : (n o p : ℕ) → (o < 64 → n ≡ 2 ^ o) → Counts n ((p, 2 ^ o) ∷ [])
counts_block n o p f s = f (small (omega (arith, s))) ∙ omega arith
  where
    small : 2 ^ o < 2 ^ 64 → o < 64
    small h =
        elim (cases_lt o 64) [
          | inl l ↦ l
          | inr l ↦ absurd (omega (arith, h, pow_mono {i = 64} {j = o} l))
        ]

-- ---- after each step
pub counted_none : AreCounted [] [] 0 0 0 0
counted_none = record { taken = λ s. refl; replaced = λ s. refl; retired = λ s. refl }

pub counted_cleared : (some : List Block) (aside : List Aside) → some ≡ [] → aside ≡ [] → AreCounted some aside 0 0 0 0
counted_cleared some aside e f = record {
  taken = counts_none (arrays_of some) (ap arrays_of e);
  replaced = counts_none (blocks_of (retired_of aside)) (ap (λ (x : List Aside). blocks_of (retired_of x)) f);
  retired = counts_none [] refl;
}

pub counted_ended : (none some : List Block) (xs : List Aside) (n len t p r r2 : ℕ) → none ≡ [] → len ≡ length xs → r2 ≡ min (r + p) 18446744073709551615 → AreCounted some xs n t p r → AreCounted none xs len 0 0 r2
counted_ended none some xs n len t p r r2 e l s c = record {
  taken = counts_none (arrays_of none) (ap arrays_of e);
  replaced = counts_none _ (ap (λ (x : List Aside). blocks_of (retired_of x)) (drop_all len xs (omega arith)));
  retired = counts_more r p r2 (blocks_of (retired_of (take n xs))) (blocks_of (retired_of (drop n xs))) (blocks_of (retired_of (take len xs))) s (ap places_in (take_all len xs (omega arith)) ∙ in_parts n xs) c.retired c.replaced;
}

pub counted_cancelled : (none some : List Block) (xs short : List Aside) (n t p r : ℕ) → none ≡ [] → short ≡ take n xs → n ≤ length xs → AreCounted some xs n t p r → AreCounted none short n 0 0 r
counted_cancelled none some xs short n t p r e s m c =
    let len : length short ≡ n = ap length s ∙ (length-take n xs ∙ omega (arith, m)) in
    record {
      taken = counts_none (arrays_of none) (ap arrays_of e);
      replaced = counts_none _ (ap (λ (x : List Aside). blocks_of (retired_of x)) (drop_all n short (omega arith)));
      retired = subst (λ (x : List Aside). Counts r (blocks_of (retired_of x))) (sym s ∙ sym (take_all n short (omega arith))) c.retired;
    }

pub counted_taken : (some more : List Block) (b : Block) (xs : List Aside) (n t p r t2 k : ℕ) → more ≡ some ++ b ∷ [] → (b.order < 64 → k ≡ 2 ^ b.order) → t2 ≡ min (t + k) 18446744073709551615 → AreCounted some xs n t p r → AreCounted more xs n t2 p r
counted_taken some more b xs n t p r t2 k e f s c = record {
  taken = counts_more t k t2 (arrays_of some) ((b.place, 2 ^ b.order) ∷ []) (arrays_of more) s (ap (λ (x : List Block). places_of (arrays_of x)) e ∙ (ap places_of (arrays_join some (b ∷ [])) ∙ places_append (arrays_of some) ((b.place, 2 ^ b.order) ∷ []))) c.taken (counts_block k b.order b.place f);
  replaced = c.replaced;
  retired = c.retired;
}

pub counted_aside : (some : List Block) (xs ys : List Aside) (b : Block) (n end t p r p2 k : ℕ) → n ≤ length xs → ys ≡ xs ++ record { end = end; block = b } ∷ [] → (b.order < 64 → k ≡ 2 ^ b.order) → p2 ≡ min (p + k) 18446744073709551615 → AreCounted some xs n t p r → AreCounted some ys n t p2 r
counted_aside some xs ys b n end t p r p2 k l e f s c =
    let one : List Aside = record { end = end; block = b } ∷ [] in
    record {
      taken = c.taken;
      replaced = counts_more p k p2 (blocks_of (retired_of (drop n xs))) ((b.place, 2 ^ b.order) ∷ []) (blocks_of (retired_of (drop n ys))) s (ap (λ (x : List Aside). places_in (drop n x)) e ∙ (ap places_in (drop-append-le n xs one l) ∙ in_both (drop n xs) one)) c.replaced (counts_block k b.order b.place f);
      retired = subst (λ (x : List Aside). Counts r (blocks_of (retired_of x))) (sym (ap (take n) e ∙ take-append-le n xs one l)) c.retired;
    }

-- ---- what is out of an arena is at most its places
pub out_at_most : {T : Type 0} (s : Space T) (xs : List Aside) → IsSized s → AreApart (is_out s.free) (blocks_of (retired_of xs)) → count_free s + places_in xs ≤ 2 ^ s.order
out_at_most s [] z a = omega (arith, total_le s.free, z.places)
out_at_most {T} s (x ∷ xs) z a =
    let t : Space T = record s { free = marked x.block.place (2 ^ x.block.order) true s.free } in
    let rest = blocks_of (retired_of xs) in
    let g = one_given s x.block.place x.block.order rest z a t refl refl refl refl in
    let more = out_at_most t xs (still_sized s x.block.place x.block.order rest z a t refl refl refl refl) (rest_apart s x.block.place x.block.order rest z a t refl refl refl refl) in
    omega (arith, more, g.left)

-- the first of the retired ones are given back
pub counted_released : {T : Type 0} (space after : Space T) (some : List Block) (xs left : List Aside) (n k t p r r2 free free2 : ℕ) → IsSized space → AreApart (is_out space.free) (blocks_of (retired_of (take n xs))) → k ≤ n → left ≡ drop k xs → GivesBack (blocks_of (retired_of (take k (take n xs)))) space after → free ≡ count_free space → free2 ≡ count_free after → r2 ≡ r - (free2 - free) → AreCounted some xs n t p r → AreCounted some left (n - k) t p r2
counted_released space after some xs left n k t p r r2 free free2 z a l e g f f2 s c =
    let out = out_at_most space (take n xs) z a in
    let small = small_pow space.order z.small in
    let is : r ≡ places_in (take n xs) = c.retired (omega (arith, out, small)) in
    let parts : places_in (take n xs) ≡ places_in (take k (take n xs)) + places_in (drop k (take n xs)) = in_parts k (take n xs) in
    record {
      taken = c.taken;
      replaced = subst (λ (x : List Aside). Counts p (blocks_of (retired_of x))) (sym (ap (λ (x : List Aside). drop (n - k) x) e ∙ others_stay xs n k l)) c.replaced;
      retired = subst (λ (x : List Aside). Counts r2 (blocks_of (retired_of x))) (sym (ap (λ (x : List Aside). take (n - k) x) e ∙ first_gone xs n k l)) (λ few. omega (arith, s, f, f2, g.left, is, parts));
    }

pub counted_beside : (some : List Block) (xs : List Aside) (n t p r m : ℕ) → m ≡ min (t + r) 18446744073709551615 → AreCounted some xs n t p r → Counts m (arrays_of some ++ blocks_of (retired_of (take n xs)))
counted_beside some xs n t p r m s c = counts_more t r m (arrays_of some) (blocks_of (retired_of (take n xs))) (arrays_of some ++ blocks_of (retired_of (take n xs))) s (places_append (arrays_of some) (blocks_of (retired_of (take n xs)))) c.taken c.retired
