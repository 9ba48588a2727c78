-- Of which family an arena is that is too small.
use Rattle.std.proofs.Common.{◌≡◌, ℕ, ◌^◌, ◌≤◌, Bool, true, false, cond, Some, None, refl, arith, subst, inl, inr}
use Rattle.std.specs.Prelude.{◌⊎◌, nat_lt}
use Rattle.std.proofs.lemmas.Bool.{ltb-false, ltb-true}
use Rattle.table_model.specs.declared.family.Family.{Family}
use Rattle.table_model.specs.declared.family.Family.TheVariants.{V4, V6}
use Rattle.table_model.specs.Entries.{Entries}
use Rattle.poptrie_build.specs.Need.{need_in_u64}
use Rattle.poptrie_build.specs.Tries.{IsTooMuch, leaf_need, node_need}
use Rattle.route_tries.specs.Sizes.{Shortage, Sizes, first_short, short_or, shortage}
use Rattle.router_steps.specs.Hops.{arena_family, arena_within}

abbrev Of : Family → Shortage → (nodes leaves N L : ℕ) → Type 0
Of f t nodes leaves N L = (arena_family t.arena ≡ f) × IsTooMuch (arena_within t.arena) t.need t.have nodes leaves N L

some_is : (x t : Shortage) → Some x ≡ Some t → x ≡ t
some_is x t e = cc

module _ (a b c d N L : ℕ) (t : Shortage) where
  abbrev Either : Type 0
  Either = Of V4 t a b N L ⊎ Of V6 t c d N L

  fourth : c ≤ N → short_or 3 d L None ≡ Some t → Either
  fourth le e = by_test (nat_lt L d) refl e
    where
      by_test : (x : Bool) → nat_lt L d ≡ x → cond x (Some (record { arena = 3; need = need_in_u64 d; have = L })) None ≡ Some t → Either
      by_test true q e = subst (λ (y : Shortage). Of V4 y a b N L ⊎ Of V6 y c d N L) (some_is _ t e) (inr (refl, inr (refl, le, refl, refl, ltb-true L d q)))
      by_test false q e = absurd (cc)

  third : short_or 2 c N (short_or 3 d L None) ≡ Some t → Either
  third e = by_test (nat_lt N c) refl e
    where
      by_test : (x : Bool) → nat_lt N c ≡ x → cond x (Some (record { arena = 2; need = need_in_u64 c; have = N })) (short_or 3 d L None) ≡ Some t → Either
      by_test true q e = subst (λ (y : Shortage). Of V4 y a b N L ⊎ Of V6 y c d N L) (some_is _ t e) (inr (refl, inl (refl, refl, refl, ltb-true N c q)))
      by_test false q e = fourth (ltb-false N c q) e

  second : a ≤ N → short_or 1 b L (short_or 2 c N (short_or 3 d L None)) ≡ Some t → Either
  second le e = by_test (nat_lt L b) refl e
    where
      by_test : (x : Bool) → nat_lt L b ≡ x → cond x (Some (record { arena = 1; need = need_in_u64 b; have = L })) (short_or 2 c N (short_or 3 d L None)) ≡ Some t → Either
      by_test true q e = subst (λ (y : Shortage). Of V4 y a b N L ⊎ Of V6 y c d N L) (some_is _ t e) (inl (refl, inr (refl, le, refl, refl, ltb-true L b q)))
      by_test false q e = third e

  first : short_or 0 a N (short_or 1 b L (short_or 2 c N (short_or 3 d L None))) ≡ Some t → Either
  first e = by_test (nat_lt N a) refl e
    where
      by_test : (x : Bool) → nat_lt N a ≡ x → cond x (Some (record { arena = 0; need = need_in_u64 a; have = N })) (short_or 1 b L (short_or 2 c N (short_or 3 d L None))) ≡ Some t → Either
      by_test true q e = subst (λ (y : Shortage). Of V4 y a b N L ⊎ Of V6 y c d N L) (some_is _ t e) (inl (refl, inl (refl, refl, refl, ltb-true N a q)))
      by_test false q e = second (ltb-false N a q) e

not_much : (arena need have n l a b : ℕ) → n ≤ a → l ≤ b → IsTooMuch arena need have n l a b → ⊥
not_much arena need have n l a b few some (inl x) = omega (arith, few, x.2, x.3)
not_much arena need have n l a b few some (inr x) = omega (arith, some, x.3, x.4)

abbrev pub TooMuchOf : Family → Sizes → Entries → Shortage → Type 0
TooMuchOf f z E t = (arena_family t.arena ≡ f) × IsTooMuch (arena_within t.arena) t.need t.have (node_need f z.direct E) (leaf_need f z.direct E) (2 ^ z.nodes) (2 ^ z.leaves)

-- it is of the family whose other one has room
pub short_of : (f : Family) (z : Sizes) (E : Entries) (t : Shortage) → ((g : Family) → (g ≡ f → ⊥) → (node_need g z.direct E ≤ 2 ^ z.nodes) × (leaf_need g z.direct E ≤ 2 ^ z.leaves)) → shortage z E ≡ Some t → TooMuchOf f z E t
unfolding first_short
short_of V4 z E t room e = elim (first (node_need V4 z.direct E) (leaf_need V4 z.direct E) (node_need V6 z.direct E) (leaf_need V6 z.direct E) (2 ^ z.nodes) (2 ^ z.leaves) t e) [
  | inl x ↦ x
  | inr x ↦ (let r = room V6 (λ q. absurd (cc)) in absurd (not_much (arena_within t.arena) t.need t.have (node_need V6 z.direct E) (leaf_need V6 z.direct E) (2 ^ z.nodes) (2 ^ z.leaves) r.0 r.1 x.1))
]
short_of V6 z E t room e = elim (first (node_need V4 z.direct E) (leaf_need V4 z.direct E) (node_need V6 z.direct E) (leaf_need V6 z.direct E) (2 ^ z.nodes) (2 ^ z.leaves) t e) [
  | inl x ↦ (let r = room V4 (λ q. absurd (cc)) in absurd (not_much (arena_within t.arena) t.need t.have (node_need V4 z.direct E) (leaf_need V4 z.direct E) (2 ^ z.nodes) (2 ^ z.leaves) r.0 r.1 x.1))
  | inr x ↦ x
]
