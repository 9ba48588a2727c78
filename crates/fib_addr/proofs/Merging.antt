-- Merges of sorted lists.
use Rattle.std.proofs.Common.{◌≡◌, ℕ, zero, suc, ◌+◌, ◌<◌, ◌≤◌, List, [], ◌∷◌, ◌++◌, Bool, true, false, cond, ◌||◌, Option, Some, length, nat_eq, get_or, take, drop, refl, ◌-◌, length-drop, sym, ap, ◌∙◌, arith, subst, append_assoc, append-nil}
use Rattle.std.specs.List.{AllByRecursion, slice_get}
use Rattle.std.proofs.lemmas.Bool.{ne_eqb, eq-eqb, or_parts}
use Rattle.std.proofs.lemmas.List.{drop_more, drop_all, take_all}
use Rattle.std.proofs.lemmas.List.Folds.{list_any-append}
use Rattle.std.proofs.Math.Nat.{min-eq_left}
use Rattle.table_model.specs.Sets.{is_in, common, or_else, joint, smallest}
use Rattle.fib_addr.specs.HopSets.{Ascending, SameHops}

-- a hop before a sorted list isn't in it
absent : (x : ℕ) (S : List ℕ) → AllByRecursion (λ y. x < y) S → is_in x S ≡ false
absent x [] a = refl
absent x (y ∷ S) a =
    let e : nat_eq y x ≡ false = ne_eqb y x (λ q. omega (arith, a.0, q)) in
    ap (λ b. b || is_in x S) e ∙ absent x S a.1

-- all that follow a later number are later
later : (x y : ℕ) (S : List ℕ) → x < y → AllByRecursion (λ z. y < z) S → AllByRecursion (λ z. x < z) S
later x y [] l a = tt
later x y (z ∷ S) l a = (omega (arith, l, a.0), later x y S l a.1)

rest_ascends : (n : ℕ) (S : List ℕ) → Ascending S → Ascending (drop n S)
rest_ascends zero S a = a
rest_ascends (suc n) [] a = tt
rest_ascends (suc n) (x ∷ S) a = rest_ascends n S a.1

-- ---- the common hops

skip_first : (x : ℕ) (S T : List ℕ) → is_in x T ≡ false → common (x ∷ S) T ≡ common S T
skip_first x S T e = ap (λ (b : Bool). cond b (x ∷ common S T) (common S T)) e

skip_second : (y : ℕ) (S T : List ℕ) → is_in y S ≡ false → common S (y ∷ T) ≡ common S T
skip_second y [] T e = refl
skip_second y (x ∷ S) T e =
    let p = or_parts (nat_eq x y) (is_in y S) e in
    let n : nat_eq y x ≡ false = ne_eqb y x (λ q. let z : nat_eq x y ≡ true = eq-eqb x y (sym q) in cc) in
    ap (λ b. cond (b || is_in x T) (x ∷ common S (y ∷ T)) (common S (y ∷ T))) n ∙ ap (λ z. cond (is_in x T) (x ∷ z) z) (skip_second y S T p.1)

take_both : (x y : ℕ) (S T : List ℕ) → x ≡ y → is_in y S ≡ false → common (x ∷ S) (y ∷ T) ≡ x ∷ common S T
take_both x y S T e n = ap (λ b. cond (b || is_in x T) (x ∷ common S (y ∷ T)) (common S (y ∷ T))) (eq-eqb y x (sym e)) ∙ ap (λ z. x ∷ z) (skip_second y S T n)

-- what is left to merge
abbrev pub CommonLeft : List ℕ → ℕ → ℕ → List ℕ → List ℕ → Type 0
CommonLeft P i j S T = P ++ common (drop i S) (drop j T) ≡ common S T

pub common_low : (P S T : List ℕ) (i j : ℕ) → Ascending T → i < length S → j < length T → get_or S i 0 < get_or T j 0 → CommonLeft P i j S T → CommonLeft P (i + 1) j S T
common_low P S T i j b m n l c =
    let x = get_or S i 0 in
    let y = get_or T j 0 in
    let s : drop i S ≡ x ∷ drop (i + 1) S = drop_more S i 0 m in
    let t : drop j T ≡ y ∷ drop (j + 1) T = drop_more T j 0 n in
    let a = subst (λ (z : List ℕ). Ascending z) t (rest_ascends j T b) in
    let out : is_in x (drop j T) ≡ false = ap (is_in x) t ∙ absent x (y ∷ drop (j + 1) T) (l, later x y (drop (j + 1) T) l a.0) in
    ap (λ z. P ++ z) (sym (skip_first x (drop (i + 1) S) (drop j T) out) ∙ ap (λ z. common z (drop j T)) (sym s)) ∙ c

pub common_high : (P S T : List ℕ) (i j : ℕ) → Ascending S → i < length S → j < length T → get_or T j 0 < get_or S i 0 → CommonLeft P i j S T → CommonLeft P i (j + 1) S T
common_high P S T i j b m n l c =
    let x = get_or S i 0 in
    let y = get_or T j 0 in
    let s : drop i S ≡ x ∷ drop (i + 1) S = drop_more S i 0 m in
    let t : drop j T ≡ y ∷ drop (j + 1) T = drop_more T j 0 n in
    let a = subst (λ (z : List ℕ). Ascending z) s (rest_ascends i S b) in
    let out : is_in y (drop i S) ≡ false = ap (is_in y) s ∙ absent y (x ∷ drop (i + 1) S) (l, later y x (drop (i + 1) S) l a.0) in
    ap (λ z. P ++ z) (sym (skip_second y (drop i S) (drop (j + 1) T) out) ∙ ap (λ z. common (drop i S) z) (sym t)) ∙ c

pub common_both : (P S T : List ℕ) (i j : ℕ) → Ascending S → i < length S → j < length T → get_or S i 0 ≡ get_or T j 0 → CommonLeft P i j S T → CommonLeft (P ++ get_or S i 0 ∷ []) (i + 1) (j + 1) S T
common_both P S T i j b m n q c =
    let x = get_or S i 0 in
    let y = get_or T j 0 in
    let s : drop i S ≡ x ∷ drop (i + 1) S = drop_more S i 0 m in
    let t : drop j T ≡ y ∷ drop (j + 1) T = drop_more T j 0 n in
    let a = subst (λ (z : List ℕ). Ascending z) s (rest_ascends i S b) in
    let out : is_in y (drop (i + 1) S) ≡ false = ap (λ z. is_in z (drop (i + 1) S)) (sym q) ∙ absent x (drop (i + 1) S) a.0 in
    append_assoc P (x ∷ []) (common (drop (i + 1) S) (drop (j + 1) T))
    ∙ (ap (λ z. P ++ z) (sym (take_both x y (drop (i + 1) S) (drop (j + 1) T) q out) ∙ (ap (λ z. common z (y ∷ drop (j + 1) T)) (sym s) ∙ ap (common (drop i S)) (sym t))) ∙ c)

common_nil : (S : List ℕ) → common S [] ≡ []
common_nil [] = refl
common_nil (x ∷ S) = common_nil S

pub common_end_low : (P S T : List ℕ) (i j : ℕ) → length S ≤ i → CommonLeft P i j S T → P ≡ common S T
common_end_low P S T i j l c = sym (append-nil P) ∙ (ap (λ z. P ++ common z (drop j T)) (sym (drop_all i S l)) ∙ c)

pub common_end_high : (P S T : List ℕ) (i j : ℕ) → length T ≤ j → CommonLeft P i j S T → P ≡ common S T
common_end_high P S T i j l c = sym (append-nil P) ∙ (ap (λ z. P ++ z) (sym (common_nil (drop i S)) ∙ ap (common (drop i S)) (sym (drop_all j T l))) ∙ c)

-- the common hops of a sorted list are sorted
later_common : (x : ℕ) (S T : List ℕ) → AllByRecursion (λ y. x < y) S → AllByRecursion (λ y. x < y) (common S T)
later_common x [] T a = tt
later_common x (y ∷ S) T a = by_test (is_in y T) (later_common x S T a.1)
  where
    by_test : (b : Bool) → AllByRecursion (λ z. x < z) (common S T) → AllByRecursion (λ z. x < z) (cond b (y ∷ common S T) (common S T))
    by_test true r = (a.0, r)
    by_test false r = r

pub common_ascends : (S T : List ℕ) → Ascending S → Ascending (common S T)
common_ascends [] T a = tt
common_ascends (x ∷ S) T a = by_test (is_in x T) (common_ascends S T a.1) (later_common x S T a.0)
  where
    by_test : (b : Bool) → Ascending (common S T) → AllByRecursion (λ z. x < z) (common S T) → Ascending (cond b (x ∷ common S T) (common S T))
    by_test true r l = (l, r)
    by_test false r l = r

-- ---- all hops

all_between : (p x y : ℕ) (P A B : List ℕ) → AllByRecursion (λ z. p < z) (P ++ x ∷ A) → AllByRecursion (λ z. p < z) (P ++ y ∷ B) → AllByRecursion (λ z. p < z) (P ++ x ∷ y ∷ B)
all_between p x y [] A B a b = (a.0, b)
all_between p x y (q ∷ P) A B a b = (a.0, all_between p x y P A B a.1 b.1)

between : (x y : ℕ) (P A B : List ℕ) → Ascending (P ++ x ∷ A) → Ascending (P ++ y ∷ B) → x < y → Ascending (P ++ x ∷ y ∷ B)
between x y [] A B a b l = ((l, later x y B l b.0), b)
between x y (p ∷ P) A B a b l = (all_between p x y P A B a.0 b.0, between x y P A B a.1 b.1 l)

abbrev AllLeft' : List ℕ → List ℕ → List ℕ → List ℕ → Type 0
AllLeft' P A B U = Ascending (P ++ A) × Ascending (P ++ B) × SameHops (P ++ (A ++ B)) U

-- what is left to merge
abbrev pub AllLeft : List ℕ → ℕ → ℕ → List ℕ → List ℕ → Type 0
AllLeft P i j S T = Ascending (P ++ drop i S) × Ascending (P ++ drop j T) × SameHops (P ++ (drop i S ++ drop j T)) (S ++ T)

in_parts : (h : ℕ) (P A B : List ℕ) → is_in h (P ++ (A ++ B)) ≡ (is_in h P || (is_in h A || is_in h B))
in_parts h P A B = list_any-append (λ g. nat_eq g h) P (A ++ B) ∙ ap (λ b. is_in h P || b) (list_any-append (λ g. nat_eq g h) A B)

in_pushed : (h x : ℕ) (P A B : List ℕ) → is_in h ((P ++ x ∷ []) ++ (A ++ B)) ≡ ((is_in h P || (nat_eq x h || false)) || (is_in h A || is_in h B))
in_pushed h x P A B = in_parts h (P ++ x ∷ []) A B ∙ ap (λ b. b || (is_in h A || is_in h B)) (list_any-append (λ g. nat_eq g h) P (x ∷ []))

moved_low : (p q a b : Bool) → ((p || (q || false)) || (a || b)) ≡ (p || ((q || a) || b))
moved_low true q a b = refl
moved_low false true a b = refl
moved_low false false a b = refl

moved_high : (p q a b : Bool) → ((p || (q || false)) || (a || b)) ≡ (p || (a || (q || b)))
moved_high true q a b = refl
moved_high false true true b = refl
moved_high false true false b = refl
moved_high false false a b = refl

moved_both : (p q a b : Bool) → ((p || (q || false)) || (a || b)) ≡ (p || ((q || a) || (q || b)))
moved_both true q a b = refl
moved_both false true a b = refl
moved_both false false a b = refl

low_step : (x y : ℕ) (P A B U : List ℕ) → x < y → AllLeft' P (x ∷ A) (y ∷ B) U → AllLeft' (P ++ x ∷ []) A (y ∷ B) U
low_step x y P A B U l s = (
  subst (λ (z : List ℕ). Ascending z) (sym (append_assoc P (x ∷ []) A)) s.0,
  subst (λ (z : List ℕ). Ascending z) (sym (append_assoc P (x ∷ []) (y ∷ B))) (between x y P A B s.0 s.1 l),
  λ h. in_pushed h x P A (y ∷ B) ∙ (moved_low (is_in h P) (nat_eq x h) (is_in h A) (is_in h (y ∷ B)) ∙ (sym (in_parts h P (x ∷ A) (y ∷ B)) ∙ s.2 h)),
)

high_step : (x y : ℕ) (P A B U : List ℕ) → y < x → AllLeft' P (x ∷ A) (y ∷ B) U → AllLeft' (P ++ y ∷ []) (x ∷ A) B U
high_step x y P A B U l s = (
  subst (λ (z : List ℕ). Ascending z) (sym (append_assoc P (y ∷ []) (x ∷ A))) (between y x P B A s.1 s.0 l),
  subst (λ (z : List ℕ). Ascending z) (sym (append_assoc P (y ∷ []) B)) s.1,
  λ h. in_pushed h y P (x ∷ A) B ∙ (moved_high (is_in h P) (nat_eq y h) (is_in h (x ∷ A)) (is_in h B) ∙ (sym (in_parts h P (x ∷ A) (y ∷ B)) ∙ s.2 h)),
)

both_step : (x y : ℕ) (P A B U : List ℕ) → x ≡ y → AllLeft' P (x ∷ A) (y ∷ B) U → AllLeft' (P ++ x ∷ []) A B U
both_step x y P A B U e s = (
  subst (λ (z : List ℕ). Ascending z) (sym (append_assoc P (x ∷ []) A)) s.0,
  subst (λ (z : List ℕ). Ascending z) (ap (λ z. P ++ z ∷ B) (sym e) ∙ sym (append_assoc P (x ∷ []) B)) s.1,
  λ h. in_pushed h x P A B ∙ (moved_both (is_in h P) (nat_eq x h) (is_in h A) (is_in h B) ∙ (ap (λ z. is_in h P || ((nat_eq x h || is_in h A) || (nat_eq z h || is_in h B))) e ∙ (sym (in_parts h P (x ∷ A) (y ∷ B)) ∙ s.2 h))),
)

at_heads : (P A B C D U : List ℕ) → A ≡ C → B ≡ D → AllLeft' P A B U → AllLeft' P C D U
at_heads P A B C D U e f s = subst (λ (z : List ℕ). AllLeft' P z D U) e (subst (λ (z : List ℕ). AllLeft' P A z U) f s)

pub all_low : (P S T : List ℕ) (i j : ℕ) → i < length S → j < length T → get_or S i 0 < get_or T j 0 → AllLeft P i j S T → AllLeft (P ++ get_or S i 0 ∷ []) (i + 1) j S T
all_low P S T i j m n l s =
    let x = get_or S i 0 in
    let y = get_or T j 0 in
    let a : drop i S ≡ x ∷ drop (i + 1) S = drop_more S i 0 m in
    let b : drop j T ≡ y ∷ drop (j + 1) T = drop_more T j 0 n in
    at_heads (P ++ x ∷ []) (drop (i + 1) S) (y ∷ drop (j + 1) T) (drop (i + 1) S) (drop j T) (S ++ T) refl (sym b)
    (low_step x y P (drop (i + 1) S) (drop (j + 1) T) (S ++ T) l (at_heads P (drop i S) (drop j T) (x ∷ drop (i + 1) S) (y ∷ drop (j + 1) T) (S ++ T) a b s))

pub all_high : (P S T : List ℕ) (i j : ℕ) → i < length S → j < length T → get_or T j 0 < get_or S i 0 → AllLeft P i j S T → AllLeft (P ++ get_or T j 0 ∷ []) i (j + 1) S T
all_high P S T i j m n l s =
    let x = get_or S i 0 in
    let y = get_or T j 0 in
    let a : drop i S ≡ x ∷ drop (i + 1) S = drop_more S i 0 m in
    let b : drop j T ≡ y ∷ drop (j + 1) T = drop_more T j 0 n in
    at_heads (P ++ y ∷ []) (x ∷ drop (i + 1) S) (drop (j + 1) T) (drop i S) (drop (j + 1) T) (S ++ T) (sym a) refl
    (high_step x y P (drop (i + 1) S) (drop (j + 1) T) (S ++ T) l (at_heads P (drop i S) (drop j T) (x ∷ drop (i + 1) S) (y ∷ drop (j + 1) T) (S ++ T) a b s))

pub all_both : (P S T : List ℕ) (i j : ℕ) → i < length S → j < length T → get_or S i 0 ≡ get_or T j 0 → AllLeft P i j S T → AllLeft (P ++ get_or S i 0 ∷ []) (i + 1) (j + 1) S T
all_both P S T i j m n q s =
    let x = get_or S i 0 in
    let y = get_or T j 0 in
    both_step x y P (drop (i + 1) S) (drop (j + 1) T) (S ++ T) q (at_heads P (drop i S) (drop j T) (x ∷ drop (i + 1) S) (y ∷ drop (j + 1) T) (S ++ T) (drop_more S i 0 m) (drop_more T j 0 n) s)

-- ---- the least of a sorted list comes first

first_least : (x : ℕ) (S : List ℕ) → Ascending (x ∷ S) → smallest (x ∷ S) ≡ x
first_least x [] a = refl
first_least x (y ∷ S) a =
    let e : smallest (y ∷ S) ≡ y = first_least y S a.1 in
    let l : x ≤ smallest (y ∷ S) = omega (arith, e, a.0.0) in
    min-eq_left {n = x} {m = smallest (y ∷ S)} l

pub least_is : (x : ℕ) (S : List ℕ) → Ascending S → (let a : Option ℕ = Some x in a) ≡ slice_get S 0 → x ≡ smallest S
least_is x [] a e = cc
least_is x (y ∷ S) a e = same_some x y e ∙ sym (first_least y S a)
  where
    same_some : (g h : ℕ) → (let b : Option ℕ = Some g in b) ≡ Some h → g ≡ h
    same_some g h q = cc

-- ---- both in one pass

pub rest_row : (S : List ℕ) (i : ℕ) → take (length S - i) (drop i S) ≡ drop i S
rest_row S i = take_all (length S - i) (drop i S) (omega (arith, length-drop i S))

pub rest_row_ascends : (S : List ℕ) (i : ℕ) → Ascending S → Ascending (take (length S - i) (drop i S))
rest_row_ascends S i a = subst (λ (z : List ℕ). Ascending z) (sym (rest_row S i)) (rest_ascends i S a)

rest_common : (S T : List ℕ) (i j : ℕ) → Ascending S → Ascending T → Ascending (common (drop i S) (drop j T))
rest_common S T i j a b = common_ascends (drop i S) (drop j T) (rest_ascends i S a)

-- the first common hop is met
module _ (S T M : List ℕ) (i j : ℕ) (m : i < length S) (n : j < length T) (l : get_or T j 0 ≤ get_or S i 0) (k : get_or S i 0 ≤ get_or T j 0)
    (c : CommonLeft [] i j S T) (e : M ≡ common (take (length S - i) (drop i S)) (take (length T - j) (drop j T))) where
  pub met_is : M ≡ common S T
  met_is = e ∙ (ap (λ z. common z (take (length T - j) (drop j T))) (rest_row S i) ∙ (ap (common (drop i S)) (rest_row T j) ∙ c))

  some_met : (U V : List ℕ) (x y : ℕ) → x ≡ y → common (x ∷ U) (y ∷ V) ≡ [] → ⊥
  some_met U V x y q z =
      let a : x ∷ common U (y ∷ V) ≡ [] = sym (ap (λ (b : Bool). cond (b || is_in x V) (x ∷ common U (y ∷ V)) (common U (y ∷ V))) (eq-eqb y x (sym q))) ∙ z in
      cc

  pub met_some : common S T ≡ [] → ⊥
  met_some z =
      some_met (drop (i + 1) S) (drop (j + 1) T) (get_or S i 0) (get_or T j 0) (omega (arith, l, k))
      (ap (λ w. common w (get_or T j 0 ∷ drop (j + 1) T)) (sym (drop_more S i 0 m)) ∙ (ap (common (drop i S)) (sym (drop_more T j 0 n)) ∙ (c ∙ z)))

  pub met_order : Ascending S → Ascending M
  met_order a = subst (λ (z : List ℕ). Ascending z) (sym met_is) (common_ascends S T a)

  filled_else : (C U : List ℕ) → (C ≡ [] → ⊥) → or_else C U ≡ C
  filled_else [] U z = absurd (z refl)
  filled_else (g ∷ C) U z = refl

  pub met_hops : SameHops M (joint S T)
  met_hops h = ap (is_in h) (met_is ∙ sym (filled_else (common S T) (S ++ T) met_some))

-- none is met
pub none_low : (S T : List ℕ) (i j : ℕ) → length S ≤ i → CommonLeft [] i j S T → common S T ≡ []
none_low S T i j l c = sym (common_end_low [] S T i j l c)

pub none_high : (S T : List ℕ) (i j : ℕ) → length T ≤ j → CommonLeft [] i j S T → common S T ≡ []
none_high S T i j l c = sym (common_end_high [] S T i j l c)

pub none_hops : (P Q M S T : List ℕ) (i j : ℕ) → AllLeft P i j S T → Q ≡ P ++ take (length S - i) (drop i S) → M ≡ Q ++ take (length T - j) (drop j T) → common S T ≡ [] → SameHops M (joint S T)
none_hops P Q M S T i j a q m z h =
    ap (is_in h) (m ∙ (ap (λ x. x ++ take (length T - j) (drop j T)) q ∙ (ap (λ x. (P ++ x) ++ take (length T - j) (drop j T)) (rest_row S i) ∙ (ap (λ x. (P ++ drop i S) ++ x) (rest_row T j) ∙ append_assoc P (drop i S) (drop j T)))))
    ∙ (a.2 h ∙ ap (λ x. is_in h (or_else x (S ++ T))) (sym z))
