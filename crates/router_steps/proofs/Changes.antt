-- The words that an update stores, and the slots at which an address gets another answer.
use Rattle.std.proofs.Common.{◌≡◌, ℕ, zero, suc, ◌-◌, ◌^◌, ◌<◌, ◌≤◌, List, [], ◌∷◌, ◌++◌, Bool, true, false, Some, take, drop, map, length, nat_eq, length-append, refl, sym, ap, ◌∙◌, arith, subst, mod-eq_of_lt, inl, inr}
use Rattle.std.specs.Prelude.{◌⊎◌, ◌≢◌, ◌||◌, ◌↔◌, slice_index}
use Rattle.std.specs.List.{list_any, AllByRecursion}
use Rattle.std.proofs.Math.Seq.{take-append_seam}
use Rattle.std.proofs.lemmas.Bool.{cases_eq, ne_eqb}
use Rattle.std.proofs.lemmas.List.{take-append-drop, length-take-le, length-drop}
use Rattle.table_model.specs.Address.{Address, IsAddress, Prefix}
use Rattle.table_model.specs.Bits.{bits_of, value_of}
use Rattle.table_model.specs.Width.{width}
use Rattle.table_model.specs.declared.family.Family.{Family}
use Rattle.table_model.specs.declared.family.Family.TheVariants.{V4, V6}
use Rattle.table_model.proofs.BitLaws.{length-bits_of, value-bits_of, value-lt, bits_from_value}
use Rattle.fib_addr.specs.Answers.{all_answers, part}
use Rattle.table_model.specs.Sets.{side}
use Rattle.poptrie_build.specs.Tries.{rest}
use Rattle.poptrie_set.specs.Lives.{Store, stores_cover, ShowsIn}
use Rattle.poptrie_set.specs.Prepares.{SameAt, AreInOrder, StoresJust}
use Rattle.poptrie_update.specs.Lives.{Living, ShowsBy}
use Rattle.poptrie_update.specs.declared.live.Other.{Other}
use Rattle.poptrie_update.specs.declared.live.Other.TheVariants as other
use Rattle.step_script.specs.Machine.{World, words, Ascends, Differs, AreChanges, MayStore, direct_slot}
use Rattle.router_steps.specs.Paused.{stores_in}
use Rattle.fib_router.specs.Lives.{StoresJustBy}
use Rattle.router_steps.proofs.Slots.{eq_comm}

-- ---- two regions of answers are the same, or part somewhere
abbrev Parts : ℕ → (List Bool → ℕ) → (List Bool → ℕ) → Type 0
Parts d f g = (a : List Bool) × (length a ≡ d) × (f a ≢ g a)

abbrev Same : ℕ → (List Bool → ℕ) → (List Bool → ℕ) → Type 0
Same d f g = (a : List Bool) → length a ≡ d → f a ≡ g a

no_bits : (f g : List Bool → ℕ) → f [] ≡ g [] → Same 0 f g
no_bits f g e [] l = e
no_bits f g e (b ∷ a) l = absurd (omega arith)

both_sides : (d : ℕ) (f g : List Bool → ℕ) → Same d (side false f) (side false g) → Same d (side true f) (side true g) → Same (suc d) f g
both_sides d f g l r [] e = absurd (omega arith)
both_sides d f g l r (false ∷ a) e = l a (omega (arith, e))
both_sides d f g l r (true ∷ a) e = r a (omega (arith, e))

parts_or : (d : ℕ) (f g : List Bool → ℕ) → Parts d f g ⊎ Same d f g
parts_or zero f g = elim (cases_eq (f []) (g [])) [
  | inl e ↦ inr (no_bits f g e)
  | inr e ↦ inl ([], refl, e)
]
parts_or (suc d) f g = elim (parts_or d (side false f) (side false g)) [
  | inl p ↦ inl (false ∷ p.0, ap suc p.1, p.2)
  | inr l ↦ elim (parts_or d (side true f) (side true g)) [
    | inl p ↦ inl (true ∷ p.0, ap suc p.1, p.2)
    | inr r ↦ inr (both_sides d f g l r)
  ]
]

wide : (f : Family) → 32 ≤ width f
wide V4 = omega arith
wide V6 = omega arith

-- ---- the slots that differ
-- each is at a slot below the number
abbrev AreBelow : ℕ → List Store → Type 0
AreBelow n stores = AllByRecursion (λ (x : Store). x.0 < n) stores

module _ (w : World) (n : ℕ) (f : Family) (few : w.direct ≤ 18) where
  in_slot : (a : Address) (v : ℕ) → IsAddress a → direct_slot w a ≡ v → v < 2 ^ w.direct → take w.direct a.bits ≡ bits_of w.direct v
  in_slot a v is at below =
      let long : w.direct ≤ length a.bits = omega (arith, few, is, wide a.family) in
      bits_from_value (take w.direct a.bits) (bits_of w.direct v) (length-take-le w.direct a.bits long ∙ sym (length-bits_of w.direct v)) (at ∙ sym (value-bits_of w.direct v ∙ mod-eq_of_lt below))

  apart : (v : ℕ) → v < 2 ^ w.direct → Parts (rest f w.direct) (part (bits_of w.direct v) (all_answers f (w.routes n))) (part (bits_of w.direct v) (all_answers f (w.routes (suc n)))) → Differs w n f v
  apart v below p =
      let long : length (bits_of w.direct v ++ p.0) ≡ width f = length-append (bits_of w.direct v) p.0 ∙ omega (arith, length-bits_of w.direct v, p.1, few, wide f) in
      let start : take w.direct (bits_of w.direct v ++ p.0) ≡ bits_of w.direct v = ap (λ (k : ℕ). take k (bits_of w.direct v ++ p.0)) (sym (length-bits_of w.direct v)) ∙ take-append_seam (bits_of w.direct v) p.0 in
      (record { family = f; bits = bits_of w.direct v ++ p.0 }, long, refl, ap value_of start ∙ (value-bits_of w.direct v ∙ mod-eq_of_lt below), p.2)

  alike : (v : ℕ) → Same (rest f w.direct) (part (bits_of w.direct v) (all_answers f (w.routes n))) (part (bits_of w.direct v) (all_answers f (w.routes (suc n)))) → SameAt f w.direct (w.routes n) (w.routes (suc n)) v
  alike v h a is fam start =
      let e : bits_of w.direct v ++ drop w.direct a.bits ≡ a.bits = ap (λ (x : List Bool). x ++ drop w.direct a.bits) (sym start) ∙ take-append-drop w.direct a.bits in
      let k : length a.bits ≡ width f = is ∙ ap width fam in
      let d : length (drop w.direct a.bits) ≡ rest f w.direct = length-drop w.direct a.bits ∙ ap (λ (m : ℕ). m - w.direct) k in
      let q : all_answers f (w.routes n) a.bits ≡ all_answers f (w.routes (suc n)) a.bits = subst (λ (bs : List Bool). all_answers f (w.routes n) bs ≡ all_answers f (w.routes (suc n)) bs) e (h (drop w.direct a.bits) d) in
      subst (λ (g : Family). all_answers g (w.routes (suc n)) a.bits ≡ all_answers g (w.routes n) a.bits) (sym fam) (sym q)

  differs : (v : ℕ) → v < 2 ^ w.direct → (SameAt f w.direct (w.routes n) (w.routes (suc n)) v → ⊥) → Differs w n f v
  differs v below unlike = elim (parts_or (rest f w.direct) (part (bits_of w.direct v) (all_answers f (w.routes n))) (part (bits_of w.direct v) (all_answers f (w.routes (suc n))))) [
    | inl p ↦ apart v below p
    | inr h ↦ absurd (unlike (alike v h))
  ]

  not_same : (v : ℕ) → v < 2 ^ w.direct → Differs w n f v → SameAt f w.direct (w.routes n) (w.routes (suc n)) v → ⊥
  not_same v below d same = d.4 (sym (same d.0 d.1 d.2 (in_slot d.0 v d.1 d.3 below)))

  in_range : (v : ℕ) → Differs w n f v → v < 2 ^ w.direct
  in_range v d =
      let long : w.direct ≤ length d.0.bits = omega (arith, few, d.1, wide d.0.family) in
      subst (λ (k : ℕ). v < 2 ^ k) (length-take-le w.direct d.0.bits long) (subst (λ (u : ℕ). u < 2 ^ length (take w.direct d.0.bits)) d.3 (value-lt (take w.direct d.0.bits)))

  covered_below : (stores : List Store) → AreBelow (2 ^ w.direct) stores → (v : ℕ) → stores_cover stores v ≡ true → v < 2 ^ w.direct
  covered_below [] below v e = absurd (cc)
  covered_below (x ∷ stores) below v e = elim (cases_eq x.0 v) [
    | inl q ↦ subst (λ (u : ℕ). u < 2 ^ w.direct) q below.0
    | inr q ↦ covered_below stores below.1 v (sym (ap (λ (b : Bool). b || stores_cover stores v) (ne_eqb x.0 v q)) ∙ e)
  ]

  changed : (stores : List Store) → AreBelow (2 ^ w.direct) stores → StoresJust f w.direct (w.routes n) (w.routes (suc n)) stores → (v : ℕ) → (b : Bool) → stores_cover stores v ≡ b → (b ≡ true) ↔ Differs w n f v
  changed stores below just v true e =
      let low : v < 2 ^ w.direct = covered_below stores below v e in
      ((λ q. differs v low (λ same. let z : stores_cover stores v ≡ false = (just.just v low).1 same in absurd (cc))), (λ d. refl))
  changed stores below just v false e = ((λ q. absurd (cc)), (λ d. let low : v < 2 ^ w.direct = in_range v d in absurd (not_same v low d ((just.just v low).0 e))))

-- ---- in the order of slots
ascends : (stores : List Store) → AreInOrder stores → Ascends (map (λ (x : ℕ × ℕ). x.0) stores)
unfolding Ascends
ascends [] o = tt
ascends (x ∷ []) o = tt
ascends (x ∷ y ∷ stores) o = (o.0.0, ascends (y ∷ stores) o.1)

covers_all : (stores : List Store) (v : ℕ) → stores_cover stores v ≡ list_any (nat_eq v) (map (λ (x : ℕ × ℕ). x.0) stores)
covers_all [] v = refl
covers_all (x ∷ stores) v = ap (λ (b : Bool). b || stores_cover stores v) (eq_comm x.0 v) ∙ ap (λ (b : Bool). nat_eq v x.0 || b) (covers_all stores v)

pub are_changes : (w : World) (n : ℕ) (f : Family) (stores : List Store) → w.direct ≤ 18 → AreBelow (2 ^ w.direct) stores → StoresJust f w.direct (w.routes n) (w.routes (suc n)) stores → AreChanges w n f (map (λ (x : ℕ × ℕ). x.0) stores)
are_changes w n f stores few below just = (ascends stores just.in_order, (λ v. subst (λ (b : Bool). (b ≡ true) ↔ Differs w n f v) (covers_all stores v) (changed w n f few stores below just v (stores_cover stores v) refl)))

-- ---- as the token tells
due_below : (n : ℕ) (new : List ℕ) (stores : List Store) → AllByRecursion (λ (x : Store). (x.0 < n) × (slice_index new x.0 ≡ x.1)) stores → AreBelow n stores
due_below n new [] due = tt
due_below n new (x ∷ stores) due = (due.0.0, due_below n new stores due.1)

module _ (w : World) (n : ℕ) (f : Family) (few : w.direct ≤ 18) (p : Prefix) (fam : p.family ≡ f) (l : Living) (family : l.selected.family ≡ f) (direct : l.selected.direct_bits ≡ w.direct) where
  below_in : ShowsIn l.selected (w.routes n) (w.routes (suc n)) → AreBelow (2 ^ w.direct) l.selected.stores
  below_in shows = subst (λ (s : ℕ). AreBelow (2 ^ s) l.selected.stores) direct (due_below (2 ^ l.selected.direct_bits) shows.1 l.selected.stores shows.2.due)

  just_words : ShowsIn l.selected (w.routes n) (w.routes (suc n)) → StoresJust l.selected.family l.selected.direct_bits (w.routes n) (w.routes (suc n)) l.selected.stores → MayStore w n (Some p) (words (map (λ (x : ℕ × ℕ). x.0) l.selected.stores))
  just_words shows just = subst (λ (g : Family). AreChanges w n g (map (λ (x : ℕ × ℕ). x.0) l.selected.stores)) (sym fam) (are_changes w n f l.selected.stores few (below_in shows) (subst (λ (s : ℕ). StoresJust f s (w.routes n) (w.routes (suc n)) l.selected.stores) direct (subst (λ (g : Family). StoresJust g l.selected.direct_bits (w.routes n) (w.routes (suc n)) l.selected.stores) family just)))

  pub may_store : (o : Other) → ShowsBy o l.selected l.other (w.routes n) (w.routes (suc n)) → StoresJustBy o l (w.routes n) (w.routes (suc n)) → MayStore w n (Some p) (stores_in o l.selected)
  may_store other.Free shows just = just_words shows just
  may_store (other.Retired end) shows just = just_words shows just
  may_store other.Built shows just = tt
  may_store other.Replaced shows just = tt
