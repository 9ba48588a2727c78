-- Changes turn by turn.
use Rattle.std.proofs.Common.{◌≡◌, ℕ, zero, suc, ◌+◌, ◌-◌, ◌≤◌, ◌<◌, List, [], ◌∷◌, ◌++◌, Bool, true, false, cond, nat_eq, length, refl, sym, ap, subst, ◌∙◌, arith, append-nil, append_assoc, inl, inr}
use Rattle.std.specs.Prelude.{◌&&◌}
use Rattle.std.specs.List.{AllByRecursion, filter}
use Rattle.std.specs.List.Sorted.{IsPermutation}
use Rattle.std.proofs.lemmas.List.Sorted.{IsPermutation-refl, IsPermutation-sym, IsPermutation-cons, IsPermutation-trans, IsPermutation-middle, IsPermutation-append_right}
use Rattle.std.proofs.lemmas.Bool.{eqb-true, eq-eqb, cases_lt}
use Rattle.table_model.specs.Width.{width}
use Rattle.table_model.specs.Address.{IsPrefix, same_family}
use Rattle.table_model.specs.declared.family.Family.{Family}
use Rattle.table_model.specs.declared.family.Family.TheVariants.{V4, V6}
use Rattle.table_model.specs.Changes.{Change, Add, Replace, Remove}
use Rattle.kept_model.specs.Between.{place_of}
use Rattle.kept_model.specs.Steady.{sets, removes, longest_first, shortest_first, steady_of, in_steady_order}
use Rattle.kept_model.specs.Turns.{first_turn, set_turn, remove_turn, turn_of, AreInTurn}

-- the changes whose turn is the n-th, as they stand
abbrev pub in_turn : ℕ → List Change → List Change
in_turn n cs = filter (λ c. nat_eq (turn_of c) n) cs

-- the changes of k turns from the n-th on, turn by turn
unfoldable pub in_turns : ℕ → ℕ → List Change → List Change
in_turns zero n cs = []
in_turns (suc k) n cs = in_turn n cs ++ in_turns k (n + 1) cs

-- IPv4's 66 turns and IPv6's 258
abbrev pub all_turns : ℕ
all_turns = 324

-- each is at a prefix
abbrev pub ArePlaced : List Change → Type 0
ArePlaced cs = AllByRecursion (λ c. IsPrefix (place_of c)) cs

-- ---- what holds of all changes

pub all_filter : (P : Change → Type 0) (t : Change → Bool) (cs : List Change) → AllByRecursion P cs → AllByRecursion P (filter t cs)
all_filter P t [] a = tt
all_filter P t (c ∷ cs) a = by_test (t c) (all_filter P t cs a.1)
  where
    by_test : (b : Bool) → AllByRecursion P (filter t cs) → AllByRecursion P (cond b (c ∷ filter t cs) (filter t cs))
    by_test true r = (a.0, r)
    by_test false r = r

pub all_append : (P : Change → Type 0) (cs ds : List Change) → AllByRecursion P cs → AllByRecursion P ds → AllByRecursion P (cs ++ ds)
all_append P [] ds a b = b
all_append P (c ∷ cs) ds a b = (a.0, all_append P cs ds a.1 b)

-- ---- they are in turn

pub have_turn : (n : ℕ) (cs : List Change) → AllByRecursion (λ c. turn_of c ≡ n) (in_turn n cs)
have_turn n [] = tt
have_turn n (c ∷ cs) = by_test (nat_eq (turn_of c) n) refl (have_turn n cs)
  where
    by_test : (b : Bool) → nat_eq (turn_of c) n ≡ b → AllByRecursion (λ c. turn_of c ≡ n) (in_turn n cs) → AllByRecursion (λ c. turn_of c ≡ n) (cond b (c ∷ in_turn n cs) (in_turn n cs))
    by_test true e r = (eqb-true (turn_of c) n e, r)
    by_test false e r = r

all_weaker : (P Q : Change → Type 0) (cs : List Change) → ((c : Change) → P c → Q c) → AllByRecursion P cs → AllByRecursion Q cs
all_weaker P Q [] h a = tt
all_weaker P Q (c ∷ cs) h a = (h c a.0, all_weaker P Q cs h a.1)

pub not_before : (k n : ℕ) (cs : List Change) → AllByRecursion (λ c. n ≤ turn_of c) (in_turns k n cs)
unfolding in_turns
not_before zero n cs = tt
not_before (suc k) n cs =
    all_append (λ c. n ≤ turn_of c) (in_turn n cs) (in_turns k (n + 1) cs) (all_weaker (λ c. turn_of c ≡ n) (λ c. n ≤ turn_of c) (in_turn n cs) (λ c e. omega (arith, e)) (have_turn n cs))
    (all_weaker (λ c. n + 1 ≤ turn_of c) (λ c. n ≤ turn_of c) (in_turns k (n + 1) cs) (λ c e. omega (arith, e)) (not_before k (n + 1) cs))

one_turn : (n : ℕ) (cs ds : List Change) → AllByRecursion (λ c. turn_of c ≡ n) cs → AllByRecursion (λ c. n ≤ turn_of c) ds → AreInTurn ds → AreInTurn (cs ++ ds)
one_turn n [] ds a b s = s
one_turn n (c ∷ cs) ds a b s =
    let e : turn_of c ≡ n = a.0 in (
      all_append (λ d. turn_of c ≤ turn_of d) cs ds (all_weaker (λ d. turn_of d ≡ n) (λ d. turn_of c ≤ turn_of d) cs (λ d i. omega (arith, e, i)) a.1) (all_weaker (λ d. n ≤ turn_of d) (λ d. turn_of c ≤ turn_of d) ds (λ d i. omega (arith, e, i)) b),
      one_turn n cs ds a.1 b s,
    )

turns_in_turn : (k n : ℕ) (cs : List Change) → AreInTurn (in_turns k n cs)
unfolding in_turns
turns_in_turn zero n cs = tt
turns_in_turn (suc k) n cs = one_turn n (in_turn n cs) (in_turns k (n + 1) cs) (have_turn n cs) (all_weaker (λ c. n + 1 ≤ turn_of c) (λ c. n ≤ turn_of c) (in_turns k (n + 1) cs) (λ c e. omega (arith, e)) (not_before k (n + 1) cs)) (turns_in_turn k (n + 1) cs)

-- ---- the changes that pass a test

filter_append : (t : Change → Bool) (cs ds : List Change) → filter t (cs ++ ds) ≡ filter t cs ++ filter t ds
filter_append t [] ds = refl
filter_append t (c ∷ cs) ds = by_test (t c) (filter_append t cs ds)
  where
    by_test : (b : Bool) → filter t (cs ++ ds) ≡ filter t cs ++ filter t ds → cond b (c ∷ filter t (cs ++ ds)) (filter t (cs ++ ds)) ≡ cond b (c ∷ filter t cs) (filter t cs) ++ filter t ds
    by_test true e = ap (λ z. c ∷ z) e
    by_test false e = e

filter_swap : (t u : Change → Bool) (cs : List Change) → filter t (filter u cs) ≡ filter u (filter t cs)
filter_swap t u [] = refl
filter_swap t u (c ∷ cs) = by_test (t c) refl (u c) refl (filter_swap t u cs)
  where
    by_test : (b : Bool) → t c ≡ b → (d : Bool) → u c ≡ d → filter t (filter u cs) ≡ filter u (filter t cs) → filter t (cond d (c ∷ filter u cs) (filter u cs)) ≡ filter u (cond b (c ∷ filter t cs) (filter t cs))
    by_test true e true i r = ap (λ z. cond z (c ∷ filter t (filter u cs)) (filter t (filter u cs))) e ∙ (ap (λ z. c ∷ z) r ∙ sym (ap (λ z. cond z (c ∷ filter u (filter t cs)) (filter u (filter t cs))) i))
    by_test true e false i r = r ∙ sym (ap (λ z. cond z (c ∷ filter u (filter t cs)) (filter u (filter t cs))) i)
    by_test false e true i r = ap (λ z. cond z (c ∷ filter t (filter u cs)) (filter t (filter u cs))) e ∙ r
    by_test false e false i r = r

filter_turns : (t : Change → Bool) (k n : ℕ) (cs : List Change) → filter t (in_turns k n cs) ≡ in_turns k n (filter t cs)
unfolding in_turns
filter_turns t zero n cs = refl
filter_turns t (suc k) n cs =
    filter_append t (in_turn n cs) (in_turns k (n + 1) cs) ∙ (ap (λ z. z ++ filter t (in_turns k (n + 1) cs)) (filter_swap t (λ c. nat_eq (turn_of c) n) cs) ∙ ap (λ z. in_turn n (filter t cs) ++ z) (filter_turns t k (n + 1) cs))

-- ---- changes that are in turn stand so again

differ : (m n : ℕ) → (m ≡ n → ⊥) → nat_eq m n ≡ false
differ m n d = by_test (nat_eq m n) refl
  where
    by_test : (b : Bool) → nat_eq m n ≡ b → b ≡ false
    by_test true e = absurd (d (eqb-true m n e))
    by_test false e = refl

none_in_turns : (k n : ℕ) → in_turns k n [] ≡ []
unfolding in_turns
none_in_turns zero n = refl
none_in_turns (suc k) n = none_in_turns k (n + 1)

-- a change whose turn is over
over : (k n : ℕ) (c : Change) (cs : List Change) → turn_of c < n → in_turns k n (c ∷ cs) ≡ in_turns k n cs
unfolding in_turns
over zero n c cs l = refl
over (suc k) n c cs l =
    ap (λ b. cond b (c ∷ in_turn n cs) (in_turn n cs) ++ in_turns k (n + 1) (c ∷ cs)) (differ (turn_of c) n (λ e. absurd (omega (arith, e, l))))
    ∙ ap (λ z. in_turn n cs ++ z) (over k (n + 1) c cs (omega (arith, l)))

none_yet : (n : ℕ) (cs : List Change) → AllByRecursion (λ c. n < turn_of c) cs → in_turn n cs ≡ []
none_yet n [] a = refl
none_yet n (c ∷ cs) a = ap (λ b. cond b (c ∷ in_turn n cs) (in_turn n cs)) (differ (turn_of c) n (λ e. absurd (omega (arith, e, a.0)))) ∙ none_yet n cs a.1

above : (m : ℕ) → {n : ℕ} → n ≤ m → nat_eq m n ≡ false → n < m
above m {n} l e =
    elim (cases_lt n m) [
      | inl lt ↦ lt
      | inr ge ↦ let i : m ≡ n = omega (arith, l, ge) in let z : nat_eq m n ≡ true = eq-eqb m n i in absurd cc
    ]

stands_first : (k n : ℕ) (c : Change) (cs : List Change) → n ≤ turn_of c → turn_of c < n + k → AllByRecursion (λ d. turn_of c ≤ turn_of d) cs → in_turns k n (c ∷ cs) ≡ c ∷ in_turns k n cs
unfolding in_turns
stands_first zero n c cs l u a = absurd (omega (arith, l, u))
stands_first (suc k) n c cs l u a = by_test (nat_eq (turn_of c) n) refl (λ lt. stands_first k (n + 1) c cs (omega (arith, lt)) (omega (arith, u)) a)
  where
    by_test : (b : Bool) → nat_eq (turn_of c) n ≡ b → (n < turn_of c → in_turns k (n + 1) (c ∷ cs) ≡ c ∷ in_turns k (n + 1) cs) → cond b (c ∷ in_turn n cs) (in_turn n cs) ++ in_turns k (n + 1) (c ∷ cs) ≡ c ∷ (in_turn n cs ++ in_turns k (n + 1) cs)
    by_test true e ih = let i : turn_of c ≡ n = eqb-true (turn_of c) n e in ap (λ z. c ∷ (in_turn n cs ++ z)) (over k (n + 1) c cs (omega (arith, i)))
    by_test false e ih =
        let lt : n < turn_of c = above (turn_of c) l e in
        let none : in_turn n cs ≡ [] = none_yet n cs (all_weaker (λ d. turn_of c ≤ turn_of d) (λ d. n < turn_of d) cs (λ d i. omega (arith, i, lt)) a) in
        ap (λ z. z ++ in_turns k (n + 1) (c ∷ cs)) none ∙ (ih lt ∙ ap (λ z. c ∷ (z ++ in_turns k (n + 1) cs)) (sym none))

again : (k : ℕ) (cs : List Change) → AreInTurn cs → AllByRecursion (λ c. turn_of c < 0 + k) cs → in_turns k 0 cs ≡ cs
again k [] s a = none_in_turns k 0
again k (c ∷ cs) s a = stands_first k 0 c cs (omega arith) a.0 s.0 ∙ ap (λ z. c ∷ z) (again k cs s.1 a.1)

-- ---- they are the same changes

moved : (k n : ℕ) (c : Change) (cs : List Change) → n ≤ turn_of c → turn_of c < n + k → IsPermutation (c ∷ in_turns k n cs) (in_turns k n (c ∷ cs))
unfolding in_turns
moved zero n c cs l u = absurd (omega (arith, l, u))
moved (suc k) n c cs l u = by_test (nat_eq (turn_of c) n) refl (λ lt. moved k (n + 1) c cs (omega (arith, lt)) (omega (arith, u)))
  where
    by_test : (b : Bool) → nat_eq (turn_of c) n ≡ b → (n < turn_of c → IsPermutation (c ∷ in_turns k (n + 1) cs) (in_turns k (n + 1) (c ∷ cs)))
        → IsPermutation (c ∷ (in_turn n cs ++ in_turns k (n + 1) cs)) (cond b (c ∷ in_turn n cs) (in_turn n cs) ++ in_turns k (n + 1) (c ∷ cs))
    by_test true e ih =
        let i : turn_of c ≡ n = eqb-true (turn_of c) n e in
        subst (λ (ds : List Change). IsPermutation (c ∷ (in_turn n cs ++ in_turns k (n + 1) cs)) (c ∷ (in_turn n cs ++ ds))) (sym (over k (n + 1) c cs (omega (arith, i)))) (IsPermutation-refl (c ∷ (in_turn n cs ++ in_turns k (n + 1) cs)))
    by_test false e ih =
        IsPermutation-trans _ _ _ (IsPermutation-sym _ _ (IsPermutation-middle (in_turn n cs) c (in_turns k (n + 1) cs)))
        (IsPermutation-append_right (in_turn n cs) (c ∷ in_turns k (n + 1) cs) (in_turns k (n + 1) (c ∷ cs)) (ih (above (turn_of c) l e)))

all_moved : (k : ℕ) (cs : List Change) → AllByRecursion (λ c. turn_of c < 0 + k) cs → IsPermutation cs (in_turns k 0 cs)
all_moved k [] a = subst (λ (ds : List Change). IsPermutation [] ds) (sym (none_in_turns k 0)) (IsPermutation-refl [])
all_moved k (c ∷ cs) a = IsPermutation-trans _ _ _ (IsPermutation-cons c _ _ (all_moved k cs a.1)) (moved k 0 c cs (omega arith) a.0)

-- ---- steady order is turn by turn

differ_where : (m n : ℕ) → (m ≡ n → ⊥) → false ≡ nat_eq m n
differ_where m n d = sym (differ m n d)

same_test : (k l m n : ℕ) → (k ≡ l → m ≡ n) → (m ≡ n → k ≡ l) → nat_eq k l ≡ nat_eq m n
same_test k l m n there back = by_test (nat_eq k l) refl
  where
    by_test : (b : Bool) → nat_eq k l ≡ b → b ≡ nat_eq m n
    by_test true e = sym (eq-eqb m n (there (eqb-true k l e)))
    by_test false e = differ_where m n (λ i. let z : nat_eq k l ≡ true = eq-eqb k l (back i) in absurd cc)

-- one turn for each family and length
set_once : (f g : Family) (l n : ℕ) → l ≤ width g → n ≤ width f → same_family f g && nat_eq l n ≡ nat_eq (set_turn g l) (set_turn f n)
set_once V4 V4 l n u v = same_test l n (0 + (32 - l)) (0 + (32 - n)) (λ e. omega (arith, e)) (λ e. omega (arith, e, u, v))
set_once V6 V6 l n u v = same_test l n (66 + (128 - l)) (66 + (128 - n)) (λ e. omega (arith, e)) (λ e. omega (arith, e, u, v))
set_once V4 V6 l n u v = differ_where (66 + (128 - l)) (0 + (32 - n)) (λ e. absurd (omega (arith, e)))
set_once V6 V4 l n u v = differ_where (0 + (32 - l)) (66 + (128 - n)) (λ e. absurd (omega (arith, e)))

removed_once : (f g : Family) (l n : ℕ) → l ≤ width g → n ≤ width f → same_family f g && nat_eq l n ≡ nat_eq (remove_turn g l) (remove_turn f n)
removed_once V4 V4 l n u v = same_test l n (0 + (33 + l)) (0 + (33 + n)) (λ e. omega (arith, e)) (λ e. omega (arith, e))
removed_once V6 V6 l n u v = same_test l n (66 + (129 + l)) (66 + (129 + n)) (λ e. omega (arith, e)) (λ e. omega (arith, e))
removed_once V4 V6 l n u v = differ_where (66 + (129 + l)) (0 + (33 + n)) (λ e. absurd (omega (arith, e, v)))
removed_once V6 V4 l n u v = differ_where (0 + (33 + l)) (66 + (129 + n)) (λ e. absurd (omega (arith, e, u)))

apart : (f g : Family) (l n : ℕ) → l ≤ width g → n ≤ width f → remove_turn g l ≡ set_turn f n → ⊥
apart V4 V4 l n u v e = absurd (omega (arith, e))
apart V6 V6 l n u v e = absurd (omega (arith, e))
apart V4 V6 l n u v e = absurd (omega (arith, e))
apart V6 V4 l n u v e = absurd (omega (arith, e, u))

sets_in : (f : Family) (n : ℕ) → n ≤ width f → (c : Change) → IsPrefix (place_of c) → sets f n c ≡ nat_eq (turn_of c) (set_turn f n)
sets_in f n v (Add p h) x = set_once f p.family (length p.bits) n x v
sets_in f n v (Replace p h) x = set_once f p.family (length p.bits) n x v
sets_in f n v (Remove p) x = differ_where (remove_turn p.family (length p.bits)) (set_turn f n) (apart f p.family (length p.bits) n x v)

removes_in : (f : Family) (n : ℕ) → n ≤ width f → (c : Change) → IsPrefix (place_of c) → removes f n c ≡ nat_eq (turn_of c) (remove_turn f n)
removes_in f n v (Add p h) x = differ_where (set_turn p.family (length p.bits)) (remove_turn f n) (λ e. apart p.family f n (length p.bits) v x (sym e))
removes_in f n v (Replace p h) x = differ_where (set_turn p.family (length p.bits)) (remove_turn f n) (λ e. apart p.family f n (length p.bits) v x (sym e))
removes_in f n v (Remove p) x = removed_once f p.family (length p.bits) n x v

same_filter : (t u : Change → Bool) (cs : List Change) → ((c : Change) → IsPrefix (place_of c) → t c ≡ u c) → ArePlaced cs → filter t cs ≡ filter u cs
same_filter t u [] h a = refl
same_filter t u (c ∷ cs) h a = ap (λ b. cond b (c ∷ filter t cs) (filter t cs)) (h c a.0) ∙ by_test (u c) (same_filter t u cs h a.1)
  where
    by_test : (b : Bool) → filter t cs ≡ filter u cs → cond b (c ∷ filter t cs) (filter t cs) ≡ cond b (c ∷ filter u cs) (filter u cs)
    by_test true e = ap (λ z. c ∷ z) e
    by_test false e = e

split_turns : (j k n : ℕ) (cs : List Change) → in_turns (j + k) n cs ≡ in_turns j n cs ++ in_turns k (n + j) cs
unfolding in_turns
split_turns zero k n cs =
    let i : 0 + k ≡ k = omega arith in
    let j : n ≡ n + 0 = omega arith in
    ap (λ (m : ℕ). in_turns m n cs) i ∙ ap (λ (m : ℕ). in_turns k m cs) j
split_turns (suc j) k n cs =
    let h : suc j + k ≡ suc (j + k) = omega arith in
    let i : (n + 1) + j ≡ n + suc j = omega arith in
    ap (λ (m : ℕ). in_turns m n cs) h
    ∙ (ap (λ z. in_turn n cs ++ z) (split_turns j k (n + 1) cs ∙ ap (λ (m : ℕ). in_turns j (n + 1) cs ++ in_turns k m cs) i) ∙ sym (append_assoc (in_turn n cs) (in_turns j (n + 1) cs) (in_turns k (n + suc j) cs)))

one_turn_alone : (n : ℕ) (cs : List Change) → in_turns 1 n cs ≡ in_turn n cs
unfolding in_turns
one_turn_alone n cs = append-nil (in_turn n cs)

first_of_turns : (k n : ℕ) (cs : List Change) → in_turns (suc k) n cs ≡ in_turn n cs ++ in_turns k (n + 1) cs
unfolding in_turns
first_of_turns k n cs = refl

longest : (f : Family) (n : ℕ) (cs : List Change) → n ≤ width f → ArePlaced cs → longest_first (sets f) n cs ≡ in_turns (suc n) (set_turn f n) cs
longest f zero cs l a = same_filter (sets f 0) (λ c. nat_eq (turn_of c) (set_turn f 0)) cs (sets_in f 0 l) a ∙ sym (one_turn_alone (set_turn f 0) cs)
longest f (suc n) cs l a =
    let i : set_turn f n ≡ set_turn f (suc n) + 1 = omega (arith, l) in
    ap (λ z. z ++ longest_first (sets f) n cs) (same_filter (sets f (suc n)) (λ c. nat_eq (turn_of c) (set_turn f (suc n))) cs (sets_in f (suc n) l) a)
    ∙ (ap (λ z. in_turn (set_turn f (suc n)) cs ++ z) (longest f n cs (omega (arith, l)) a ∙ ap (λ (m : ℕ). in_turns (suc n) m cs) i) ∙ sym (first_of_turns (suc n) (set_turn f (suc n)) cs))

shortest : (f : Family) (n : ℕ) (cs : List Change) → n ≤ width f → ArePlaced cs → shortest_first (removes f) n cs ≡ in_turns (suc n) (remove_turn f 0) cs
shortest f zero cs l a = same_filter (removes f 0) (λ c. nat_eq (turn_of c) (remove_turn f 0)) cs (removes_in f 0 l) a ∙ sym (one_turn_alone (remove_turn f 0) cs)
shortest f (suc n) cs l a =
    let i : remove_turn f (suc n) ≡ remove_turn f 0 + suc n = omega arith in
    let j : suc n + 1 ≡ suc (suc n) = omega arith in
    ap (λ z. z ++ filter (removes f (suc n)) cs) (shortest f n cs (omega (arith, l)) a)
    ∙ (ap (λ z. in_turns (suc n) (remove_turn f 0) cs ++ z) (same_filter (removes f (suc n)) (λ c. nat_eq (turn_of c) (remove_turn f (suc n))) cs (removes_in f (suc n) l) a ∙ (ap (λ (m : ℕ). in_turn m cs) i ∙ sym (one_turn_alone (remove_turn f 0 + suc n) cs)))
    ∙ (sym (split_turns (suc n) 1 (remove_turn f 0) cs) ∙ ap (λ (m : ℕ). in_turns m (remove_turn f 0) cs) j))

family_turns : (f : Family) (cs : List Change) → ArePlaced cs → steady_of f cs ≡ in_turns (suc (width f) + suc (width f)) (first_turn f) cs
unfolding steady_of
family_turns f cs a =
    let i : set_turn f (width f) ≡ first_turn f = omega arith in
    let j : remove_turn f 0 ≡ first_turn f + suc (width f) = omega arith in
    ap (λ z. z ++ shortest_first (removes f) (width f) cs) (longest f (width f) cs (omega arith) a ∙ ap (λ (m : ℕ). in_turns (suc (width f)) m cs) i)
    ∙ (ap (λ z. in_turns (suc (width f)) (first_turn f) cs ++ z) (shortest f (width f) cs (omega arith) a ∙ ap (λ (m : ℕ). in_turns (suc (width f)) m cs) j) ∙ sym (split_turns (suc (width f)) (suc (width f)) (first_turn f) cs))

pub by_turns : (cs : List Change) → ArePlaced cs → in_steady_order cs ≡ in_turns all_turns 0 cs
unfolding in_steady_order
by_turns cs a =
    ap (λ z. z ++ steady_of V6 cs) (family_turns V4 cs a) ∙ (ap (λ z. in_turns 66 0 cs ++ z) (family_turns V6 cs a) ∙ sym (split_turns 66 258 0 cs))

-- ---- what holds of steady order

all_longest : (P : Change → Type 0) (t : ℕ → Change → Bool) (n : ℕ) (cs : List Change) → AllByRecursion P cs → AllByRecursion P (longest_first t n cs)
all_longest P t zero cs a = all_filter P (t 0) cs a
all_longest P t (suc n) cs a = all_append P (filter (t (suc n)) cs) (longest_first t n cs) (all_filter P (t (suc n)) cs a) (all_longest P t n cs a)

all_shortest : (P : Change → Type 0) (t : ℕ → Change → Bool) (n : ℕ) (cs : List Change) → AllByRecursion P cs → AllByRecursion P (shortest_first t n cs)
all_shortest P t zero cs a = all_filter P (t 0) cs a
all_shortest P t (suc n) cs a = all_append P (shortest_first t n cs) (filter (t (suc n)) cs) (all_shortest P t n cs a) (all_filter P (t (suc n)) cs a)

all_of : (P : Change → Type 0) (f : Family) (cs : List Change) → AllByRecursion P cs → AllByRecursion P (steady_of f cs)
unfolding steady_of
all_of P f cs a = all_append P (longest_first (sets f) (width f) cs) (shortest_first (removes f) (width f) cs) (all_longest P (sets f) (width f) cs a) (all_shortest P (removes f) (width f) cs a)

pub all_steady : (P : Change → Type 0) (cs : List Change) → AllByRecursion P cs → AllByRecursion P (in_steady_order cs)
unfolding in_steady_order
all_steady P cs a = all_append P (steady_of V4 cs) (steady_of V6 cs) (all_of P V4 cs a) (all_of P V6 cs a)

set_below : (f : Family) (n : ℕ) → set_turn f n < all_turns
set_below V4 n = omega arith
set_below V6 n = omega arith

remove_below : (f : Family) (n : ℕ) → n ≤ width f → remove_turn f n < all_turns
remove_below V4 n l = omega (arith, l)
remove_below V6 n l = omega (arith, l)

has_turn : (c : Change) → IsPrefix (place_of c) → turn_of c < all_turns
has_turn (Add p h) x = set_below p.family (length p.bits)
has_turn (Replace p h) x = set_below p.family (length p.bits)
has_turn (Remove p) x = remove_below p.family (length p.bits) x

have_turns : (cs : List Change) → ArePlaced cs → AllByRecursion (λ c. turn_of c < all_turns) cs
have_turns [] a = tt
have_turns (c ∷ cs) a = (has_turn c a.0, have_turns cs a.1)

pub steady_in_turn : (cs : List Change) → ArePlaced cs → AreInTurn (in_steady_order cs)
steady_in_turn cs a = subst AreInTurn (sym (by_turns cs a)) (turns_in_turn all_turns 0 cs)

pub steady_same : (cs : List Change) → ArePlaced cs → IsPermutation cs (in_steady_order cs)
steady_same cs a = subst (λ (ds : List Change). IsPermutation cs ds) (sym (by_turns cs a)) (all_moved all_turns cs (have_turns cs a))

-- what passes the test, if it is in turn by itself
pub filter_steady : (t : Change → Bool) (cs : List Change) → AreInTurn (filter t cs) → ArePlaced cs → filter t (in_steady_order cs) ≡ filter t cs
filter_steady t cs s a =
    ap (filter t) (by_turns cs a) ∙ (filter_turns t all_turns 0 cs ∙ again all_turns (filter t cs) s (all_filter (λ c. turn_of c < all_turns) t cs (have_turns cs a)))
