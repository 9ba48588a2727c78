-- One more leaf, written beside those before it.
use Rattle.std.proofs.Common.{◌≡◌, ◌≢◌, ℕ, ◌+◌, ◌^◌, ◌<◌, ◌≤◌, List, length, get_or, refl, sym, ap, ◌∙◌, arith, inl, inr, set}
use Rattle.std.specs.Prelude.{◌⊎◌}
use Rattle.std.proofs.Math.Pow.{pow_mono}
use Rattle.std.proofs.Math.ListN.{length-set}
use Rattle.std.proofs.lemmas.Bool.{cases_eq}
use Rattle.std.proofs.lemmas.List.{get_or-set_same, get_or-set_other}
use Rattle.buddy_arena.specs.Space.{Space, IsSized}
use Rattle.poptrie_build.specs.Put.{PutsAll}

pub puts_none : (base : ℕ) (hops : List ℕ) (s : Space ℕ) → IsSized s → PutsAll base 0 hops s s
puts_none base hops s z = record {
  cells = λ i l. absurd (omega arith);
  others = λ i o. refl;
  long = refl;
  free = refl;
  order = refl;
  fill = refl;
  sized = z;
}

pub puts_more : (base n x : ℕ) (hops : List ℕ) (old now to : Space ℕ) → base + n < length now.cells → x ≡ get_or hops n 0 → to.cells ≡ set now.cells (base + n) x → to.free ≡ now.free → to.order ≡ now.order → to.fill ≡ now.fill → IsSized to → PutsAll base n hops old now → PutsAll base (n + 1) hops old to
puts_more base n x hops old now to room is c f o p z s = record {
  cells = λ i l.
      elim (cases_eq i n) [
        | inl same ↦ ap (λ y. get_or y (base + i) 0) c ∙ (ap (λ j. get_or (set now.cells (base + n) x) (base + j) 0) same ∙ (get_or-set_same now.cells (base + n) x 0 room ∙ (is ∙ ap (λ j. get_or hops j 0) (sym same))))
        | inr other ↦ (
            let ne : base + i ≢ base + n = λ q. other (omega (arith, q)) in
            ap (λ y. get_or y (base + i) 0) c ∙ (get_or-set_other now.cells (base + n) (base + i) x 0 ne ∙ s.cells i (omega arith)))
      ];
  others = λ i b.
      let ne : i ≢ base + n = aside i b in
      ap (λ y. get_or y i 0) c ∙ (get_or-set_other now.cells (base + n) i x 0 ne ∙ s.others i (wide i b));
  long = ap length c ∙ (length-set now.cells (base + n) x ∙ s.long);
  free = f ∙ s.free;
  order = o ∙ s.order;
  fill = p ∙ s.fill;
  sized = z;
}
  where
    aside : (i : ℕ) → (i < base) ⊎ (base + (n + 1) ≤ i) → i ≢ base + n
    aside i (inl l) = omega arith
    aside i (inr l) = omega arith

    wide : (i : ℕ) → (i < base) ⊎ (base + (n + 1) ≤ i) → (i < base) ⊎ (base + n ≤ i)
    wide i (inl l) = inl l
    wide i (inr l) = inr (omega arith)

pub small_place : (s : Space ℕ) (i : ℕ) → IsSized s → i < length s.cells → i < 4294967296
small_place s i z l = let m : 2 ^ s.order ≤ 2 ^ 30 = pow_mono {i = s.order} {j = 30} (omega (arith, z.small)) in omega (arith, z.cells)
