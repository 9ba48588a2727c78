-- Arenas that have room for the tries of both families.
use Rattle.std.proofs.Common.{◌≡◌, ℕ, ◌^◌, ◌≤◌, Bool, true, false, cond, Option, Some, None, refl, sym, arith, subst, inl, inr}
use Rattle.std.specs.Prelude.{nat_lt}
use Rattle.std.proofs.lemmas.Bool.Decides.{nat_tests}
use Rattle.table_model.specs.declared.family.Family.{Family}
use Rattle.table_model.specs.declared.family.Family.TheVariants.{V4, V6}
use Rattle.table_model.specs.Entries.{Entries}
use Rattle.fib_addr.specs.Answers.{all_answers}
use Rattle.poptrie_build.specs.Need.{need_in_u64}
use Rattle.poptrie_build.specs.Tries.{node_need, leaf_need, IsTooMuch}
use Rattle.poptrie_build.specs.declared.filling.TrieFull.{TrieFull}
use Rattle.poptrie_set.specs.Lives.{Seen, IsTooMuchFor}
use Rattle.route_tries.specs.Sizes.{Shortage, Sizes, short_or, shortage, first_short}
use Rattle.fib_router.proofs.Alike.{leaf_need_alike, node_need_alike}

not_less : (a b : ℕ) → nat_lt a b ≡ false → b ≤ a
not_less a b e = grind (arith, nat_tests)

enough : (arena need have : ℕ) (later : Option Shortage) → short_or arena need have later ≡ None → (need ≤ have) × (later ≡ None)
enough arena need have later e = by (nat_lt have need) refl e
  where
    by : (b : Bool) → nat_lt have need ≡ b → cond b (Some (record { arena = arena; need = need_in_u64 need; have = have })) later ≡ None → (need ≤ have) × (later ≡ None)
    by true t e = absurd (cc)
    by false t e = (not_less have need t, e)

-- all four arenas
abbrev Room : (a b c d node_places leaf_places : ℕ) → Type 0
Room a b c d node_places leaf_places = (a ≤ node_places) × (b ≤ leaf_places) × (c ≤ node_places) × (d ≤ leaf_places)

all_fit : (a b c d nodes leaves : ℕ) → short_or 0 a nodes (short_or 1 b leaves (short_or 2 c nodes (short_or 3 d leaves None))) ≡ None → Room a b c d nodes leaves
all_fit a b c d nodes leaves e =
    let v = enough 0 a nodes (short_or 1 b leaves (short_or 2 c nodes (short_or 3 d leaves None))) e in
    let x = enough 1 b leaves (short_or 2 c nodes (short_or 3 d leaves None)) v.1 in
    let y = enough 2 c nodes (short_or 3 d leaves None) x.1 in
    let z = enough 3 d leaves None y.1 in
    (v.0, x.0, y.0, z.0)

fit : (z : Sizes) (L : Entries) → shortage z L ≡ None → Room (node_need V4 z.direct L) (leaf_need V4 z.direct L) (node_need V6 z.direct L) (leaf_need V6 z.direct L) (2 ^ z.nodes) (2 ^ z.leaves)
unfolding first_short
fit z L e = all_fit (node_need V4 z.direct L) (leaf_need V4 z.direct L) (node_need V6 z.direct L) (leaf_need V6 z.direct L) (2 ^ z.nodes) (2 ^ z.leaves) e

-- each family's own
pub room_of : (f : Family) (z : Sizes) (L : Entries) → shortage z L ≡ None → (node_need f z.direct L ≤ 2 ^ z.nodes) × (leaf_need f z.direct L ≤ 2 ^ z.leaves)
room_of V4 z L e = let a = fit z L e in (a.0, a.1)
room_of V6 z L e = let a = fit z L e in (a.2, a.3)

-- the same for entries with the same answers
pub room_alike : (f : Family) (z : Sizes) (L M : Entries) → shortage z L ≡ None → all_answers f M ≡ all_answers f L → (node_need f z.direct M ≤ 2 ^ z.nodes) × (leaf_need f z.direct M ≤ 2 ^ z.leaves)
room_alike f z L M e a =
    let r = room_of f z L e in
    let n = node_need_alike f z.direct M L a in
    let l = leaf_need_alike f z.direct M L a in
    (omega (arith, r.0, n), omega (arith, r.1, l))

-- they are not too much
not_much : (arena need have n l a b : ℕ) → n ≤ a → l ≤ b → IsTooMuch arena need have n l a b → ⊥
not_much arena need have n l a b few some (inl x) = omega (arith, few, x.2, x.3)
not_much arena need have n l a b few some (inr x) = omega (arith, some, x.3, x.4)

pub not_too_much : (f : Family) (direct nodes leaves : ℕ) (s : Seen) (L : Entries) (t : TrieFull) → s.family ≡ f → s.direct_bits ≡ direct → s.nodes.space.order ≡ nodes → s.leaves.space.order ≡ leaves → (node_need f direct L ≤ 2 ^ nodes) × (leaf_need f direct L ≤ 2 ^ leaves) → IsTooMuchFor s L t → ⊥
not_too_much f direct nodes leaves s L t fam d n l room much =
    let few : node_need s.family s.direct_bits L ≤ 2 ^ s.nodes.space.order =
    subst (λ (o : ℕ). node_need s.family s.direct_bits L ≤ 2 ^ o) (sym n) (subst (λ (k : ℕ). node_need s.family k L ≤ 2 ^ nodes) (sym d) (subst (λ (g : Family). node_need g direct L ≤ 2 ^ nodes) (sym fam) room.0))
    in
    let some : leaf_need s.family s.direct_bits L ≤ 2 ^ s.leaves.space.order =
    subst (λ (o : ℕ). leaf_need s.family s.direct_bits L ≤ 2 ^ o) (sym l) (subst (λ (k : ℕ). leaf_need s.family k L ≤ 2 ^ leaves) (sym d) (subst (λ (g : Family). leaf_need g direct L ≤ 2 ^ leaves) (sym fam) room.1))
    in
    not_much t.arena t.need t.have (node_need s.family s.direct_bits L) (leaf_need s.family s.direct_bits L) (2 ^ s.nodes.space.order) (2 ^ s.leaves.space.order) few some much
