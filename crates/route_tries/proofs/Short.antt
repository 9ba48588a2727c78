-- The first arena that is too small.
use Rattle.std.proofs.Common.{◌≡◌, ℕ, ◌+◌, ◌^◌, ◌<◌, ◌≤◌, ◌⊎◌, inl, inr, [], arith, Bool, true, false, cond, Option, Some, None, refl, sym, ap, ◌∙◌}
use Rattle.std.specs.Prelude.{option_map, nat_lt}
use Rattle.std.proofs.lemmas.Bool.{cases_lt, ltb-true, lt-ltb, ltb_from_iff}
use Rattle.std.proofs.Math.Pow.{pow_mono}
use Rattle.table_model.specs.Width.{width}
use Rattle.table_model.specs.declared.family.Family.{Family}
use Rattle.table_model.specs.declared.family.Family.TheVariants.{V4, V6}
use Rattle.table_model.specs.Entries.{Entries}
use Rattle.poptrie_build.specs.Need.{need_in_u64}
use Rattle.fib_addr.specs.Answers.{all_answers}
use Rattle.fib_addr.proofs.OneAnswer.{one_answer_from}
use Rattle.poptrie_build.specs.Strides.{strides}
use Rattle.poptrie_build.specs.Tries.{node_need, leaf_need, rest}
use Rattle.poptrie_build.specs.declared.counts.Needs.{Needs}
use Rattle.poptrie_build.proofs.Directing.{no_trie_nodes, no_trie_leaves}
use Rattle.poptrie_build.proofs.Filled.{wide_enough}
use Rattle.route_tries.specs.Sizes.{Sizes, Shortage, shortage_as, short_or, short_of_one, first_short, shortage, need_of, needs_of, needs_of_both, told_need, told_needs, AreFew}
use Rattle.route_tries.specs.declared.sizes.TrieFull.{TrieFull}
use Rattle.route_tries.specs.declared.needs.FamilyNeeds.{FamilyNeeds}

pub first_is : (z : Sizes) (n : FamilyNeeds) (a b c d : Option TrieFull) → option_map shortage_as d ≡ short_or 3 n.v6.leaves (2 ^ z.leaves) None → option_map shortage_as c ≡ short_or 2 n.v6.nodes (2 ^ z.nodes) (option_map shortage_as d)
    → option_map shortage_as b ≡ short_or 1 n.v4.leaves (2 ^ z.leaves) (option_map shortage_as c) → option_map shortage_as a ≡ short_or 0 n.v4.nodes (2 ^ z.nodes) (option_map shortage_as b) → option_map shortage_as a ≡ first_short z n
unfolding first_short
first_is z n a b c d w x y v =
    v
    ∙ (ap (short_or 0 n.v4.nodes (2 ^ z.nodes)) y
    ∙ (ap (λ (o : Option Shortage). short_or 0 n.v4.nodes (2 ^ z.nodes) (short_or 1 n.v4.leaves (2 ^ z.leaves) o)) x
    ∙ ap (λ (o : Option Shortage). short_or 0 n.v4.nodes (2 ^ z.nodes) (short_or 1 n.v4.leaves (2 ^ z.leaves) (short_or 2 n.v6.nodes (2 ^ z.nodes) o))) w))

-- ---- one family after the other

abbrev or_else : Option Shortage → Option Shortage → Option Shortage
or_else None later = later
or_else (Some x) later = Some x

short_else : (arena need have : ℕ) (o later : Option Shortage) → short_or arena need have (or_else o later) ≡ or_else (short_or arena need have o) later
short_else arena need have o later = by (nat_lt have need)
  where
    by : (b : Bool) → cond b (Some (let x : Shortage = record { arena = arena; need = need_in_u64 need; have = have } in x)) (or_else o later) ≡ or_else (cond b (Some (let x : Shortage = record { arena = arena; need = need_in_u64 need; have = have } in x)) o) later
    by true = refl
    by false = refl

one_else : (f : Family) (z : Sizes) (first : ℕ) (L : Entries) (later : Option Shortage) → short_of_one f z first L later ≡ or_else (short_of_one f z first L None) later
one_else f z first L later =
    ap (short_or first (node_need f z.direct L) (2 ^ z.nodes)) (short_else (first + 1) (leaf_need f z.direct L) (2 ^ z.leaves) None later)
    ∙ short_else first (node_need f z.direct L) (2 ^ z.nodes) (short_or (first + 1) (leaf_need f z.direct L) (2 ^ z.leaves) None) later

both_else : (z : Sizes) (f g : Family) (L M : Entries) → f ≡ V4 → g ≡ V6 → first_short z (needs_of_both z.direct L M) ≡ or_else (short_of_one f z 0 L None) (short_of_one g z 2 M None)
unfolding first_short
both_else z f g L M a b =
    one_else V4 z 0 L (short_of_one V6 z 2 M None)
    ∙ (ap (λ (h : Family). or_else (short_of_one h z 0 L None) (short_of_one V6 z 2 M None)) (sym a) ∙ ap (λ (h : Family). or_else (short_of_one f z 0 L None) (short_of_one h z 2 M None)) (sym b))

module _ (z : Sizes) (f g : Family) (L M : Entries) (a : f ≡ V4) (b : g ≡ V6) where
  pub both_fit : short_of_one f z 0 L None ≡ None → short_of_one g z 2 M None ≡ None → first_short z (needs_of_both z.direct L M) ≡ None
  both_fit x y = both_else z f g L M a b ∙ (ap (λ o. or_else o (short_of_one g z 2 M None)) x ∙ y)

  pub first_full : (t : Shortage) → short_of_one f z 0 L None ≡ Some t → first_short z (needs_of_both z.direct L M) ≡ Some t
  first_full t x = both_else z f g L M a b ∙ ap (λ o. or_else o (short_of_one g z 2 M None)) x

  pub second_full : (t : Shortage) → short_of_one f z 0 L None ≡ None → short_of_one g z 2 M None ≡ Some t → first_short z (needs_of_both z.direct L M) ≡ Some t
  second_full t x y = both_else z f g L M a b ∙ (ap (λ o. or_else o (short_of_one g z 2 M None)) x ∙ y)

-- ---- needs as they are told, and needs that fit

same_test : (need have : ℕ) → have < 18446744073709551615 → nat_lt have (need_in_u64 need) ≡ nat_lt have need
same_test need have l = ltb_from_iff {b = nat_lt have (need_in_u64 need)} (λ t. omega (arith, l, ltb-true have (need_in_u64 need) t), λ m. lt-ltb have (need_in_u64 need) (omega (arith, l, m)))

short_told : (arena need have : ℕ) (later : Option Shortage) → have < 18446744073709551615 → short_or arena (need_in_u64 need) have later ≡ short_or arena need have later
short_told arena need have later l =
    let twice : need_in_u64 (need_in_u64 need) ≡ need_in_u64 need = omega arith in
    ap (λ b. cond b (Some (let x : Shortage = record { arena = arena; need = need_in_u64 (need_in_u64 need); have = have } in x)) later) (same_test need have l)
    ∙ ap (λ m. cond (nat_lt have need) (Some (let x : Shortage = record { arena = arena; need = m; have = have } in x)) later) twice

short_none : (arena need have : ℕ) (later : Option Shortage) → need ≤ have → short_or arena need have later ≡ later
short_none arena need have later l = by (nat_lt have need) refl
  where
    by : (b : Bool) → nat_lt have need ≡ b → cond b (Some (let x : Shortage = record { arena = arena; need = need_in_u64 need; have = have } in x)) later ≡ later
    by true t = absurd (omega (arith, l, ltb-true have need t))
    by false t = refl

short_fits : (arena need have : ℕ) (later : Option Shortage) → short_or arena need have later ≡ None → (need ≤ have) × (later ≡ None)
short_fits arena need have later e = by (cases_lt have need)
  where
    by : (have < need) ⊎ (need ≤ have) → (need ≤ have) × (later ≡ None)
    by (inl l) = absurd (let t : Some (let x : Shortage = record { arena = arena; need = need_in_u64 need; have = have } in x) ≡ None = sym (ap (λ b. cond b (Some (let x : Shortage = record { arena = arena; need = need_in_u64 need; have = have } in x)) later) (lt-ltb have need l)) ∙ e in cc)
    by (inr l) = (l, sym (short_none arena need have later l) ∙ e)

module _ (z : Sizes) (few_nodes : z.nodes ≤ 24) (few_leaves : z.leaves ≤ 26) where
  nodes_most : 2 ^ z.nodes ≤ 67108864
  nodes_most = let m : 2 ^ z.nodes ≤ 2 ^ 26 = pow_mono {i = z.nodes} {j = 26} (omega arith) in omega (arith, m)

  leaves_most : 2 ^ z.leaves ≤ 67108864
  leaves_most = let m : 2 ^ z.leaves ≤ 2 ^ 26 = pow_mono {i = z.leaves} {j = 26} few_leaves in omega (arith, m)

  pub told_short : (n : FamilyNeeds) → first_short z (told_needs n) ≡ first_short z n
  unfolding first_short
  told_short n =
      let a : 2 ^ z.nodes < 18446744073709551615 = omega (arith, nodes_most) in
      let b : 2 ^ z.leaves < 18446744073709551615 = omega (arith, leaves_most) in
      short_told 0 n.v4.nodes (2 ^ z.nodes) (short_or 1 (need_in_u64 n.v4.leaves) (2 ^ z.leaves) (short_or 2 (need_in_u64 n.v6.nodes) (2 ^ z.nodes) (short_or 3 (need_in_u64 n.v6.leaves) (2 ^ z.leaves) None))) a
      ∙ (ap (short_or 0 n.v4.nodes (2 ^ z.nodes)) (short_told 1 n.v4.leaves (2 ^ z.leaves) (short_or 2 (need_in_u64 n.v6.nodes) (2 ^ z.nodes) (short_or 3 (need_in_u64 n.v6.leaves) (2 ^ z.leaves) None)) b)
      ∙ (ap (λ (o : Option Shortage). short_or 0 n.v4.nodes (2 ^ z.nodes) (short_or 1 n.v4.leaves (2 ^ z.leaves) o)) (short_told 2 n.v6.nodes (2 ^ z.nodes) (short_or 3 (need_in_u64 n.v6.leaves) (2 ^ z.leaves) None) a)
      ∙ ap (λ (o : Option Shortage). short_or 0 n.v4.nodes (2 ^ z.nodes) (short_or 1 n.v4.leaves (2 ^ z.leaves) (short_or 2 n.v6.nodes (2 ^ z.nodes) o))) (short_told 3 n.v6.leaves (2 ^ z.leaves) None b)))

  pub fit_few : (n : FamilyNeeds) → first_short z n ≡ None → AreFew n
  unfolding first_short
  fit_few n e =
      let a = short_fits 0 n.v4.nodes (2 ^ z.nodes) (short_or 1 n.v4.leaves (2 ^ z.leaves) (short_or 2 n.v6.nodes (2 ^ z.nodes) (short_or 3 n.v6.leaves (2 ^ z.leaves) None))) e in
      let b = short_fits 1 n.v4.leaves (2 ^ z.leaves) (short_or 2 n.v6.nodes (2 ^ z.nodes) (short_or 3 n.v6.leaves (2 ^ z.leaves) None)) a.1 in
      let d = short_fits 2 n.v6.nodes (2 ^ z.nodes) (short_or 3 n.v6.leaves (2 ^ z.leaves) None) b.1 in
      let f = short_fits 3 n.v6.leaves (2 ^ z.leaves) None d.1 in
      (omega (arith, a.0, nodes_most), omega (arith, b.0, leaves_most), omega (arith, d.0, nodes_most), omega (arith, f.0, leaves_most))

few_number : (n : ℕ) → n ≤ 67108864 → need_in_u64 n ≡ n
few_number n l = omega (arith, l)

pub few_told : (n : FamilyNeeds) → AreFew n → told_needs n ≡ n
few_told n few =
    ap (λ m. let x : FamilyNeeds = record { v4 = record { nodes = m; leaves = need_in_u64 n.v4.leaves }; v6 = told_need n.v6 } in x) (few_number n.v4.nodes (omega (arith, few.0)))
    ∙ (ap (λ m. let x : FamilyNeeds = record { v4 = record { nodes = n.v4.nodes; leaves = m }; v6 = told_need n.v6 } in x) (few_number n.v4.leaves (omega (arith, few.1)))
    ∙ (ap (λ m. let x : FamilyNeeds = record { v4 = n.v4; v6 = record { nodes = m; leaves = need_in_u64 n.v6.leaves } } in x) (few_number n.v6.nodes (omega (arith, few.2)))
    ∙ ap (λ m. let x : FamilyNeeds = record { v4 = n.v4; v6 = record { nodes = n.v6.nodes; leaves = m } } in x) (few_number n.v6.leaves (omega (arith, few.3)))))

-- ---- a table of nothing needs nothing

none_of : (f : Family) (s : ℕ) → s ≤ 18 → need_of f s [] ≡ record { nodes = 0; leaves = 0 }
none_of f s few =
    let one = one_answer_from (width f) (all_answers f []) 0 (λ a l. refl) in
    let n : node_need f s [] ≡ 0 = no_trie_nodes s (strides (rest f s)) (rest f s) (width f) 0 (all_answers f []) (wide_enough f s few) one in
    let m : leaf_need f s [] ≡ 0 = no_trie_leaves s (strides (rest f s)) (rest f s) (width f) 0 (all_answers f []) (wide_enough f s few) one in
    ap (λ x. let r : Needs = record { nodes = x; leaves = leaf_need f s [] } in r) n ∙ ap (λ x. let r : Needs = record { nodes = 0; leaves = x } in r) m

pub no_needs : (s : ℕ) → s ≤ 18 → needs_of s [] ≡ record { v4 = record { nodes = 0; leaves = 0 }; v6 = record { nodes = 0; leaves = 0 } }
no_needs s few =
    ap (λ x. let r : FamilyNeeds = record { v4 = x; v6 = need_of V6 s [] } in r) (none_of V4 s few) ∙ ap (λ x. let r : FamilyNeeds = record { v4 = record { nodes = 0; leaves = 0 }; v6 = x } in r) (none_of V6 s few)

pub no_shortage : (z : Sizes) → z.direct ≤ 18 → shortage z [] ≡ None
unfolding first_short
no_shortage z few =
    ap (first_short z) (no_needs z.direct few)
    ∙ (short_none 0 0 (2 ^ z.nodes) (short_or 1 0 (2 ^ z.leaves) (short_or 2 0 (2 ^ z.nodes) (short_or 3 0 (2 ^ z.leaves) None))) (omega arith)
    ∙ (short_none 1 0 (2 ^ z.leaves) (short_or 2 0 (2 ^ z.nodes) (short_or 3 0 (2 ^ z.leaves) None)) (omega arith) ∙ (short_none 2 0 (2 ^ z.nodes) (short_or 3 0 (2 ^ z.leaves) None) (omega arith) ∙ short_none 3 0 (2 ^ z.leaves) None (omega arith))))
