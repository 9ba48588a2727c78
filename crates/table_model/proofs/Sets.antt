-- The candidate sets of two halves.
use Rattle.std.proofs.Common.{◌≡◌, ℕ, ◌+◌, ◌≤◌, List, [], ◌∷◌, ◌++◌, Bool, true, false, ◌&&◌, ◌||◌, cond, ◌⊎◌, inl, inr, Option, Some, None, length, nat_eq, min, refl, sym, ap, ◌∙◌, arith}
use Rattle.std.proofs.lemmas.Bool.{eqb-true, eq-eqb, cases_lt, or_cases, and_parts}
use Rattle.std.proofs.lemmas.List.Folds.{list_any-append}
use Rattle.std.proofs.Math.Nat.{min-eq_left, min-eq_right, min-le_left, min-le_right}
use Rattle.table_model.specs.Table.{here, inherit}
use Rattle.table_model.specs.Sets.{is_in, common, or_else, joint, one_if_empty, apart, smallest, pick, own}

-- 1 where the hop is not in the set
abbrev pub miss : ℕ → List ℕ → ℕ
miss h S = cond (is_in h S) 0 1

common_step : (h x : ℕ) (S T : List ℕ) (q r : Bool) → nat_eq x h ≡ q → is_in x T ≡ r → is_in h (common S T) ≡ (is_in h S && is_in h T) → is_in h (cond r (x ∷ common S T) (common S T)) ≡ ((q || is_in h S) && is_in h T)
common_step h x S T true true e f ih = ap (λ y. y || is_in h (common S T)) e ∙ sym (ap (λ y. is_in y T) (sym (eqb-true x h e)) ∙ f)
common_step h x S T false true e f ih = ap (λ y. y || is_in h (common S T)) e ∙ ih
common_step h x S T true false e f ih = let no : is_in h T ≡ false = ap (λ y. is_in y T) (sym (eqb-true x h e)) ∙ f in ih ∙ (ap (λ y. is_in h S && y) no ∙ (none (is_in h S) ∙ sym no))
  where
    none : (b : Bool) → (b && false) ≡ false
    none true = refl
    none false = refl
common_step h x S T false false e f ih = ih

pub in_common : (h : ℕ) (S T : List ℕ) → is_in h (common S T) ≡ (is_in h S && is_in h T)
in_common h [] T = refl
in_common h (x ∷ S) T = common_step h x S T (nat_eq x h) (is_in x T) refl refl (in_common h S T)

-- the sets have a common hop
abbrev pub Meet : List ℕ → List ℕ → Type 0
Meet S T = ((h : ℕ) → is_in h (joint S T) ≡ (is_in h S && is_in h T)) × (apart S T ≡ 0)

-- they have none
abbrev pub Part : List ℕ → List ℕ → Type 0
Part S T = ((h : ℕ) → (is_in h S && is_in h T) ≡ false) × ((h : ℕ) → is_in h (joint S T) ≡ (is_in h S || is_in h T)) × (apart S T ≡ 1)

by_common : (S T c : List ℕ) → common S T ≡ c → Meet S T ⊎ Part S T
by_common S T [] e = inr (
  λ h. sym (in_common h S T) ∙ ap (is_in h) e,
  λ h. ap (λ x. is_in h (or_else x (S ++ T))) e ∙ list_any-append (λ g. nat_eq g h) S T,
  ap one_if_empty e,
)
by_common S T (g ∷ c) e = inl (
  λ h. ap (λ x. is_in h (or_else x (S ++ T))) e ∙ (sym (ap (is_in h) e) ∙ in_common h S T),
  ap one_if_empty e,
)

meet_or_part : (S T : List ℕ) → Meet S T ⊎ Part S T
meet_or_part S T = by_common S T (common S T) refl

-- tests as numbers
meet_none : (u v : Bool) → cond (u && v) 0 1 ≤ cond u 0 1 + cond v 0 1
meet_none true true = omega arith
meet_none true false = omega arith
meet_none false true = omega arith
meet_none false false = omega arith

part_none : (u v : Bool) → (u && v) ≡ false → 1 + cond (u || v) 0 1 ≤ cond u 0 1 + cond v 0 1
part_none true true e = cc
part_none true false e = omega arith
part_none false true e = omega arith
part_none false false e = omega arith

part_some : (u v : Bool) → (u && v) ≡ false → 1 ≤ cond u 0 1 + cond v 0 1
part_some true true e = cc
part_some true false e = omega arith
part_some false true e = omega arith
part_some false false e = omega arith

one_most : (u : Bool) → cond u 0 1 ≤ 1
one_most true = omega arith
one_most false = omega arith

meet_in : (u v : Bool) → (u && v) ≡ true → cond u 0 1 + cond v 0 1 ≡ 0
meet_in true true e = refl
meet_in true false e = cc
meet_in false v e = cc

part_in : (u v : Bool) → (u && v) ≡ false → (u || v) ≡ true → cond u 0 1 + cond v 0 1 ≡ 1
part_in true true e f = cc
part_in true false e f = refl
part_in false true e f = refl
part_in false false e f = cc

-- with no entry at the root both halves inherit h
pub without_entry : (S T : List ℕ) (h : ℕ) → apart S T + miss h (joint S T) ≤ miss h S + miss h T
without_entry S T h = elim (meet_or_part S T) [
  | inl m ↦ let e : miss h (joint S T) ≡ cond (is_in h S && is_in h T) 0 1 = ap (λ (b : Bool). cond b 0 1) (m.0 h) in omega (arith, meet_none (is_in h S) (is_in h T), m.1, e)
  | inr p ↦ let e : miss h (joint S T) ≡ cond (is_in h S || is_in h T) 0 1 = ap (λ (b : Bool). cond b 0 1) (p.1 h) in omega (arith, part_none (is_in h S) (is_in h T) (p.0 h), p.2, e)
]

-- with an entry of hop g both inherit g
pub with_entry : (S T : List ℕ) (g h : ℕ) → apart S T + miss h (joint S T) ≤ 1 + miss g S + miss g T
with_entry S T g h = elim (meet_or_part S T) [
  | inl m ↦ omega (arith, one_most (is_in h (joint S T)), m.1)
  | inr p ↦ omega (arith, one_most (is_in h (joint S T)), part_some (is_in g S) (is_in g T) (p.0 g), p.2)
]

-- a hop of the joint set misses as often as the sets are apart
pub of_the_set : (S T : List ℕ) (h : ℕ) → is_in h (joint S T) ≡ true → miss h S + miss h T ≡ apart S T
of_the_set S T h e = elim (meet_or_part S T) [
  | inl m ↦ meet_in (is_in h S) (is_in h T) (sym (m.0 h) ∙ e) ∙ sym m.1
  | inr p ↦ part_in (is_in h S) (is_in h T) (p.0 h) (sym (p.1 h) ∙ e) ∙ sym p.2
]

-- sets are never empty
abbrev pub filled : List ℕ → Bool
filled [] = false
filled (g ∷ S) = true

filled_or : (c S T : List ℕ) → filled S ≡ true → filled (or_else c (S ++ T)) ≡ true
filled_or [] [] T e = cc
filled_or [] (g ∷ S) T e = refl
filled_or (x ∷ c) S T e = refl

pub filled_joint : (S T : List ℕ) → filled S ≡ true → filled (joint S T) ≡ true
filled_joint S T e = filled_or (common S T) S T e

pub in_first : (g h : ℕ) (S : List ℕ) → g ≡ h → is_in h (g ∷ S) ≡ true
in_first g h S e = ap (λ b. b || is_in h S) (eq-eqb g h e)

pub in_rest : (g h : ℕ) (S : List ℕ) → is_in h S ≡ true → is_in h (g ∷ S) ≡ true
in_rest g h S e = ap (λ b. nat_eq g h || b) e ∙ all (nat_eq g h)
  where
    all : (b : Bool) → (b || true) ≡ true
    all true = refl
    all false = refl

min_cases : (a b : ℕ) → (min a b ≡ a) ⊎ (min a b ≡ b)
min_cases a b = elim (cases_lt a b) [ inl lt ↦ inl (min-eq_left {n = a} {m = b} (omega arith)) | inr le ↦ inr (min-eq_right {n = b} {m = a} le) ]

pub in_smallest : (S : List ℕ) → filled S ≡ true → is_in (smallest S) S ≡ true
in_smallest [] e = cc
in_smallest (g ∷ []) e = in_first g g [] refl
in_smallest (g ∷ k ∷ S) e = elim (min_cases g (smallest (k ∷ S))) [
  | inl f ↦ in_first g (min g (smallest (k ∷ S))) (k ∷ S) (sym f)
  | inr f ↦ in_rest g (min g (smallest (k ∷ S))) (k ∷ S) (ap (λ x. is_in x (k ∷ S)) f ∙ in_smallest (k ∷ S) refl)
]

in_cond : (S : List ℕ) (g : ℕ) (b : Bool) → is_in g S ≡ b → filled S ≡ true → is_in (cond b g (smallest S)) S ≡ true
in_cond S g true e f = e
in_cond S g false e f = in_smallest S f

pub in_pick : (S : List ℕ) (o : Option ℕ) → filled S ≡ true → is_in (pick S o) S ≡ true
in_pick S None f = in_smallest S f
in_pick S (Some g) f = in_cond S g (is_in g S) refl f

own_cond : (S : List ℕ) (o : Option ℕ) (h : ℕ) (b : Bool) → is_in h S ≡ b → filled S ≡ true → is_in (inherit (cond b None (Some (pick S o))) h) S ≡ true
own_cond S o h true e f = e
own_cond S o h false e f = in_pick S o f

-- what is inherited from a region's own entry, or without one, is in its set
pub in_own : (S : List ℕ) (o : Option ℕ) (h : ℕ) → filled S ≡ true → is_in (inherit (own S o h) h) S ≡ true
in_own S o h f = own_cond S o h (is_in h S) refl f

count_cond : (b : Bool) (g : ℕ) → length (here (cond b None (Some g))) ≡ cond b 0 1
count_cond true g = refl
count_cond false g = refl

pub length_own : (S : List ℕ) (o : Option ℕ) (h : ℕ) → length (here (own S o h)) ≡ miss h S
length_own S o h = count_cond (is_in h S) (pick S o)

single_or : (b : Bool) → (b || false) ≡ true → b ≡ true
single_or true e = refl
single_or false e = e

-- the only hop of a set of one
pub in_single : (g h : ℕ) → is_in h (g ∷ []) ≡ true → g ≡ h
in_single g h e = eqb-true g h (single_or (nat_eq g h) e)

pub miss_single : (g : ℕ) → miss g (g ∷ []) ≡ 0
miss_single g = ap (λ (b : Bool). cond b 0 1) (in_first g g [] refl)

pub miss_most : (h : ℕ) (S : List ℕ) → miss h S ≤ 1
miss_most h S = one_most (is_in h S)

-- a hop of the joint set is in one of the sets
pub in_joint : (S T : List ℕ) (h : ℕ) → is_in h (joint S T) ≡ true → (is_in h S ≡ true) ⊎ (is_in h T ≡ true)
in_joint S T h e = elim (meet_or_part S T) [
  | inl m ↦ inl (and_parts (is_in h S) (is_in h T) (sym (m.0 h) ∙ e)).0
  | inr p ↦ or_cases (is_in h S) (is_in h T) (sym (p.1 h) ∙ e)
]

miss_out : (b : Bool) → cond b 0 1 ≤ 0 → b ≡ true
miss_out true h = refl
miss_out false h = absurd (omega arith)

pub not_missed : (h : ℕ) (S : List ℕ) → miss h S ≤ 0 → is_in h S ≡ true
not_missed h S e = miss_out (is_in h S) e

pub in_is_zero : (h : ℕ) (S : List ℕ) → is_in h S ≡ true → miss h S ≡ 0
in_is_zero h S e = ap (λ (b : Bool). cond b 0 1) e

-- the least number of a set
smallest_step : (g k h : ℕ) (S : List ℕ) → (is_in h (k ∷ S) ≡ true → smallest (k ∷ S) ≤ h) → (nat_eq g h ≡ true) ⊎ (is_in h (k ∷ S) ≡ true) → min g (smallest (k ∷ S)) ≤ h
smallest_step g k h S ih e = elim e [
  | inl f ↦ omega (arith, min-le_left g (smallest (k ∷ S)), eqb-true g h f)
  | inr f ↦ omega (arith, min-le_right g (smallest (k ∷ S)), ih f)
]

pub smallest_least : (S : List ℕ) (h : ℕ) → is_in h S ≡ true → smallest S ≤ h
smallest_least [] h e = cc
smallest_least (g ∷ []) h e = let f : g ≡ h = in_single g h e in omega arith
smallest_least (g ∷ k ∷ S) h e = smallest_step g k h S (smallest_least (k ∷ S) h) (or_cases (nat_eq g h) (is_in h (k ∷ S)) e)

-- sets with the same hops, as a sorted list and the set that it stands for
abbrev pub SameHops : List ℕ → List ℕ → Type 0
SameHops S T = (h : ℕ) → is_in h S ≡ is_in h T

pub same_smallest : (S T : List ℕ) → filled S ≡ true → filled T ≡ true → SameHops S T → smallest S ≡ smallest T
same_smallest S T e f s = omega (arith, smallest_least S (smallest T) (s (smallest T) ∙ in_smallest T f), smallest_least T (smallest S) (sym (s (smallest S)) ∙ in_smallest S e))

pub same_pick : (S T : List ℕ) (o : Option ℕ) → filled S ≡ true → filled T ≡ true → SameHops S T → pick S o ≡ pick T o
same_pick S T None e f s = same_smallest S T e f s
same_pick S T (Some g) e f s = ap (λ (b : Bool). cond b g (smallest S)) (s g) ∙ ap (λ x. cond (is_in g T) g x) (same_smallest S T e f s)

pub same_own : (S T : List ℕ) (o : Option ℕ) (h : ℕ) → filled S ≡ true → filled T ≡ true → SameHops S T → own S o h ≡ own T o h
same_own S T o h e f s = ap (λ (b : Bool). cond b None (Some (pick S o))) (s h) ∙ ap (λ x. cond (is_in h T) None (Some x)) (same_pick S T o e f s)

-- joint sets of the same hops have the same hops, and are apart alike
pub same_common : (S T U V : List ℕ) → SameHops S U → SameHops T V → SameHops (common S T) (common U V)
same_common S T U V s t h = in_common h S T ∙ (ap (λ b. b && is_in h T) (s h) ∙ (ap (λ b. is_in h U && b) (t h) ∙ sym (in_common h U V)))

joint_by : (c d S T U V : List ℕ) → SameHops c d → SameHops S U → SameHops T V → SameHops (or_else c (S ++ T)) (or_else d (U ++ V)) × (one_if_empty c ≡ one_if_empty d)
joint_by [] [] S T U V e s t = (λ h. list_any-append (λ g. nat_eq g h) S T ∙ (ap (λ b. b || is_in h T) (s h) ∙ (ap (λ b. is_in h U || b) (t h) ∙ sym (list_any-append (λ g. nat_eq g h) U V))), refl)
joint_by [] (g ∷ d) S T U V e s t = let f : false ≡ true = e g ∙ in_first g g d refl in cc
joint_by (g ∷ c) [] S T U V e s t = let f : true ≡ false = sym (in_first g g c refl) ∙ e g in cc
joint_by (g ∷ c) (k ∷ d) S T U V e s t = (e, refl)

pub same_joint : (S T U V : List ℕ) → SameHops S U → SameHops T V → SameHops (joint S T) (joint U V) × (apart S T ≡ apart U V)
same_joint S T U V s t = joint_by (common S T) (common U V) S T U V (same_common S T U V s t) s t
