-- Where runs first answer differently.
use Rattle.std.proofs.Common.{◌≡◌, ◌≢◌, ℕ, zero, suc, ◌+◌, ◌^◌, ◌<◌, inl, inr, List, [], ◌∷◌, ◌++◌, Bool, true, false, Option, Some, None, length, take, drop, fold, get_or, nat_eq, refl, sym, ap, ◌∙◌, arith, subst, append-nil, mod-eq_of_lt}
use Rattle.std.specs.Prelude.{◌&&◌}
use Rattle.std.specs.List.{AllByRecursion}
use Rattle.std.proofs.lemmas.Bool.{cases_order, cond-true, cond-false, lt-ltb, le-ltb, le-leb, and_from, and_parts, eq-eqb, eqb-true}
use Rattle.std.proofs.lemmas.List.{take-append-drop}
use Rattle.std.proofs.Common.{drop-cons}
use Rattle.table_model.specs.Bits.{bits_of, value_of}
use Rattle.table_model.specs.Width.{width}
use Rattle.table_model.specs.declared.family.Family.{Family}
use Rattle.table_model.proofs.BitLaws.{value-bits_of, value-lt, bits_from_value, length-bits_of}
use Rattle.std.specs.Option.{IfSome}
use Rattle.table_model.specs.Table.{lpm}
use Rattle.table_model.specs.Entries.{Entries, of_family}
use Rattle.table_model.specs.Sets.{answers}
use Rattle.cert_model.specs.Verdict.{NotSame, least_differing, not_same_at, not_same_in}
use Rattle.cert_model.proofs.Differing.{IsLeastAt, none_differs, none_from, some_differs}
use Rattle.cert_check.specs.declared.runs.Run.{Run}
use Rattle.cert_check.specs.declared.alike.Apart.{Apart}
use Rattle.cert_check.specs.Runs.{run_hop_at, last_hop, AreRuns, Below, RunsTell}
use Rattle.cert_check.specs.Apart.{next_apart, IsFirstApart, no_of}
use Rattle.cert_check.proofs.Sweeps.{from_run, from_append, past_all, before_all}

-- ---- runs cut at one of them

abbrev last_from : List Run → ℕ → ℕ
last_from runs h = fold (λ g r. r.hop) h runs

all_middle : (P : Run → Type 0) (c r : List Run) (x : Run) → AllByRecursion P (c ++ x ∷ r) → P x
all_middle P [] r x a = a.0
all_middle P (y ∷ c) r x a = all_middle P c r x a.1

below_start : (h : ℕ) (c r : List Run) (x : Run) → AreRuns h (c ++ x ∷ r) → Below x.start c
below_start h [] r x a = tt
below_start h (y ∷ c) r x a = (all_middle (λ (s : Run). y.start < s.start) c r x a.1, below_start y.hop c r x a.2)

pub other_hop : (h : ℕ) (c r : List Run) (x : Run) → AreRuns h (c ++ x ∷ r) → last_from c h ≢ x.hop
other_hop h [] r x a = a.0
other_hop h (y ∷ c) r x a = other_hop y.hop c r x a.2

pub later_starts : (h : ℕ) (c r : List Run) (x : Run) → AreRuns h (c ++ x ∷ r) → AllByRecursion (λ (s : Run). x.start < s.start) r
later_starts h [] r x a = a.1
later_starts h (y ∷ c) r x a = later_starts y.hop c r x a.2

pub all_after : (n m : ℕ) (r : List Run) → n < m → AllByRecursion (λ (s : Run). m < s.start) r → AllByRecursion (λ (s : Run). n < s.start) r
all_after n m [] lt a = tt
all_after n m (s ∷ r) lt a = (omega (arith, a.0), all_after n m r lt a.1)

pub at_start : (c r : List Run) (x : Run) → AreRuns 0 (c ++ x ∷ r) → run_hop_at (c ++ x ∷ r) x.start ≡ x.hop
at_start c r x a =
    from_append c (x ∷ r) x.start 0 ∙ (ap (from_run r x.start) (cond-true _ _ _ (le-leb x.start x.start (omega arith))) ∙ before_all r x.start x.hop (later_starts 0 c r x a))

before_start : (c r : List Run) (x : Run) (n : ℕ) → AreRuns 0 (c ++ x ∷ r) → n < x.start → run_hop_at (c ++ x ∷ r) n ≡ run_hop_at c n
before_start c r x n a lt =
    from_append c (x ∷ r) n 0 ∙ before_all (x ∷ r) n (from_run c n 0) (lt, all_after n x.start r lt (later_starts 0 c r x a))

up_to_start : (c r : List Run) (x : Run) → AreRuns 0 (c ++ x ∷ r) → run_hop_at c x.start ≡ last_hop c
up_to_start c r x a = past_all c x.start x.start 0 (below_start 0 c r x a) (omega arith)

below_middle : (m : ℕ) (c r : List Run) (x : Run) → Below m (c ++ x ∷ r) → x.start < m
below_middle m c r x b = all_middle (λ (s : Run). s.start < m) c r x b

-- ---- the cases

-- the first list goes on, the second doesn't
pub first_longer : (c r : List Run) (x : Run) → AreRuns 0 (c ++ x ∷ r) → IsFirstApart (c ++ x ∷ r) c (Some (record { start = x.start; first = x.hop; second = last_hop c }))
first_longer c r x a = (
  at_start c r x a,
  up_to_start c r x a,
  (λ e. other_hop 0 c r x a (sym e)),
  (λ n lt. before_start c r x n a lt),
  (λ m p q. below_middle m c r x p),
)

pub second_longer : (c r : List Run) (x : Run) → AreRuns 0 (c ++ x ∷ r) → IsFirstApart c (c ++ x ∷ r) (Some (record { start = x.start; first = last_hop c; second = x.hop }))
second_longer c r x a = (
  up_to_start c r x a,
  at_start c r x a,
  other_hop 0 c r x a,
  (λ n lt. sym (before_start c r x n a lt)),
  (λ m p q. below_middle m c r x q),
)

abbrev Both : List Run → List Run → List Run → Run → Run → Apart → Type 0
Both c r s x y z = IsFirstApart (c ++ x ∷ r) (c ++ y ∷ s) (Some z)

both_longer : (c r s : List Run) (x y : Run) → AreRuns 0 (c ++ x ∷ r) → AreRuns 0 (c ++ y ∷ s) → (x.start ≡ y.start → x.hop ≢ y.hop) → Both c r s x y (next_apart x y (last_hop c))
both_longer c r s x y a b other = elim (cases_order x.start y.start) [
  | inl e ↦
      let f : next_apart x y (last_hop c) ≡ record { start = x.start; first = x.hop; second = y.hop } =
      cond-false _ _ _ (le-ltb x.start y.start (omega arith)) ∙ cond-false _ _ _ (le-ltb y.start x.start (omega arith)) in
      subst (Both c r s x y) (sym f) (
        at_start c r x a,
        ap (run_hop_at (c ++ y ∷ s)) e ∙ at_start c s y b,
        other e,
        (λ n lt. before_start c r x n a lt ∙ sym (before_start c s y n b (omega (arith, e)))),
        (λ m p q. below_middle m c r x p),
      )
  | inr (inl lt) ↦
      let f : next_apart x y (last_hop c) ≡ record { start = x.start; first = x.hop; second = last_hop c } = cond-true _ _ _ (lt-ltb x.start y.start lt) in
      subst (Both c r s x y) (sym f) (
        at_start c r x a,
        before_start c s y x.start b lt ∙ up_to_start c r x a,
        (λ e. other_hop 0 c r x a (sym e)),
        (λ n l. before_start c r x n a l ∙ sym (before_start c s y n b (omega arith))),
        (λ m p q. below_middle m c r x p),
      )
  | inr (inr gt) ↦
      let f : next_apart x y (last_hop c) ≡ record { start = y.start; first = last_hop c; second = y.hop } =
      cond-false _ _ _ (le-ltb x.start y.start (omega arith)) ∙ cond-true _ _ _ (lt-ltb y.start x.start gt) in
      subst (Both c r s x y) (sym f) (
        before_start c r x y.start a gt ∙ up_to_start c s y b,
        at_start c s y b,
        other_hop 0 c s y b,
        (λ n l. before_start c r x n a (omega arith) ∙ sym (before_start c s y n b l)),
        (λ m p q. below_middle m c s y q),
      )
]

-- ---- as the loop goes

pub split_at : {X : Type 0} (xs : List X) (i : ℕ) (x z : X) → i < length xs → x ≡ get_or xs i z → xs ≡ take i xs ++ x ∷ drop (suc i) xs
split_at xs i x z lt is = sym (take-append-drop i xs) ∙ (ap (λ ys. take i xs ++ ys) (drop-cons xs i z lt) ∙ ap (λ y. take i xs ++ y ∷ drop (suc i) xs) (sym is))

pub take_one_more : {X : Type 0} (xs : List X) (i : ℕ) (x z : X) → i < length xs → x ≡ get_or xs i z → take (i + 1) xs ≡ take i xs ++ x ∷ []
take_one_more [] i x z h e = absurd (omega arith)
take_one_more (y ∷ xs) zero x z h e = ap (λ a. a ∷ []) (sym e)
take_one_more (y ∷ xs) (suc i) x z h e = let g : suc i + 1 ≡ suc (i + 1) = omega arith in ap (λ j. take j (y ∷ xs)) g ∙ ap (λ ys. y ∷ ys) (take_one_more xs i x z (omega arith) e)

take_all : {X : Type 0} (xs : List X) (i : ℕ) → i ≡ length xs → take i xs ≡ xs
take_all {X = X} xs i e = ap (λ j. take j xs) e ∙ (sym (append-nil (take (length xs) xs)) ∙ (ap (λ ys. take (length xs) xs ++ ys) (sym (drop_all xs)) ∙ take-append-drop (length xs) xs))
  where
    drop_all : (ys : List X) → drop (length ys) ys ≡ []
    drop_all [] = refl
    drop_all (y ∷ ys) = drop_all ys

pub ended_second : (a b : List Run) (i hop : ℕ) (x z : Run) → AreRuns 0 a → i < length a → x ≡ get_or a i z → i ≡ length b → take i a ≡ take i b → hop ≡ last_hop (take i a)
    → IsFirstApart a b (Some (record { start = x.start; first = x.hop; second = hop }))
ended_second a b i hop x z runs lt is e front h =
    let c = take i a in
    let whole : a ≡ c ++ x ∷ drop (suc i) a = split_at a i x z lt is in
    let other : c ≡ b = front ∙ take_all b i e in
    let f = first_longer c (drop (suc i) a) x (subst (AreRuns 0) whole runs) in
    subst (λ (k : ℕ). IsFirstApart a b (Some (record { start = x.start; first = x.hop; second = k }))) (sym h)
    (subst (λ (ys : List Run). IsFirstApart ys b (Some (record { start = x.start; first = x.hop; second = last_hop c }))) (sym whole)
    (subst (λ (ys : List Run). IsFirstApart (c ++ x ∷ drop (suc i) a) ys (Some (record { start = x.start; first = x.hop; second = last_hop c }))) other f))

pub ended_first : (a b : List Run) (i hop : ℕ) (y z : Run) → AreRuns 0 b → i < length b → y ≡ get_or b i z → i ≡ length a → take i a ≡ take i b → hop ≡ last_hop (take i a)
    → IsFirstApart a b (Some (record { start = y.start; first = hop; second = y.hop }))
ended_first a b i hop y z runs lt is e front h =
    let c = take i b in
    let whole : b ≡ c ++ y ∷ drop (suc i) b = split_at b i y z lt is in
    let other : c ≡ a = sym front ∙ take_all a i e in
    let last : hop ≡ last_hop c = h ∙ ap last_hop front in
    let f = second_longer c (drop (suc i) b) y (subst (AreRuns 0) whole runs) in
    subst (λ (k : ℕ). IsFirstApart a b (Some (record { start = y.start; first = k; second = y.hop }))) (sym last)
    (subst (λ (ys : List Run). IsFirstApart a ys (Some (record { start = y.start; first = last_hop c; second = y.hop }))) (sym whole)
    (subst (λ (xs : List Run). IsFirstApart xs (c ++ y ∷ drop (suc i) b) (Some (record { start = y.start; first = last_hop c; second = y.hop }))) other f))

pub both_go_on : (a b : List Run) (i hop : ℕ) (x y u v : Run) (r : Apart) → AreRuns 0 a → AreRuns 0 b → i < length a → i < length b → x ≡ get_or a i u → y ≡ get_or b i v
    → (nat_eq x.start y.start && nat_eq x.hop y.hop) ≡ false → take i a ≡ take i b → hop ≡ last_hop (take i a) → r ≡ next_apart x y hop → IsFirstApart a b (Some r)
both_go_on a b i hop x y u v r ra rb la lb ia ib ne front h e =
    let c = take i a in
    let wa : a ≡ c ++ x ∷ drop (suc i) a = split_at a i x u la ia in
    let wb : b ≡ c ++ y ∷ drop (suc i) b = split_at b i y v lb ib ∙ ap (λ (ys : List Run). ys ++ y ∷ drop (suc i) b) (sym front) in
    let other : x.start ≡ y.start → x.hop ≢ y.hop = λ s t. let w : (nat_eq x.start y.start && nat_eq x.hop y.hop) ≡ true = and_from _ _ (eq-eqb x.start y.start s) (eq-eqb x.hop y.hop t) in cc in
    let f = both_longer c (drop (suc i) a) (drop (suc i) b) x y (subst (AreRuns 0) wa ra) (subst (AreRuns 0) wb rb) other in
    let is : next_apart x y (last_hop c) ≡ r = ap (next_apart x y) (sym h) ∙ sym e in
    subst (λ (z : Apart). IsFirstApart a b (Some z)) is
    (subst (λ (xs : List Run). IsFirstApart xs b (Some (next_apart x y (last_hop c)))) (sym wa) (subst (λ (ys : List Run). IsFirstApart (c ++ x ∷ drop (suc i) a) ys (Some (next_apart x y (last_hop c)))) (sym wb) f))

pub front_more : (a b : List Run) (i : ℕ) (x y u v : Run) → i < length a → i < length b → x ≡ get_or a i u → y ≡ get_or b i v → (nat_eq x.start y.start && nat_eq x.hop y.hop) ≡ true → take i a ≡ take i b
    → (take (i + 1) a ≡ take (i + 1) b) × (x.hop ≡ last_hop (take (i + 1) a))
front_more a b i x y u v la lb ia ib e front =
    let t = and_parts (nat_eq x.start y.start) (nat_eq x.hop y.hop) e in
    let same : x ≡ y =
    ap (λ (s : ℕ). let r : Run = record { start = s; hop = x.hop } in r) (eqb-true x.start y.start t.0) ∙ ap (λ (s : ℕ). let r : Run = record { start = y.start; hop = s } in r) (eqb-true x.hop y.hop t.1) in (
      take_one_more a i x u la ia ∙ (ap (λ ys. ys ++ x ∷ []) front ∙ (ap (λ z. take i b ++ z ∷ []) same ∙ sym (take_one_more b i y v lb ib))),
      sym (ap last_hop (take_one_more a i x u la ia) ∙ last_of (take i a) 0),
    )
  where
    last_of : (c : List Run) (h : ℕ) → last_from (c ++ x ∷ []) h ≡ x.hop
    last_of [] h = refl
    last_of (w ∷ c) h = last_of c w.hop

-- ---- numbers and addresses

pub number_bits : (w : ℕ) (a : List Bool) → length a ≡ w → bits_of w (value_of a) ≡ a
number_bits w a e =
    let lt : value_of a < 2 ^ w = subst (λ (j : ℕ). value_of a < 2 ^ j) e (value-lt a) in
    bits_from_value (bits_of w (value_of a)) a (length-bits_of w (value_of a) ∙ sym e) (value-bits_of w (value_of a) ∙ mod-eq_of_lt lt)

pub number_lt : (w : ℕ) (a : List Bool) → length a ≡ w → value_of a < 2 ^ w
number_lt w a e = subst (λ (j : ℕ). value_of a < 2 ^ j) e (value-lt a)

told_at : (f : Family) (L : Entries) (runs : List Run) → RunsTell f L runs → (a : List Bool) → length a ≡ width f → answers (of_family f L) [] a ≡ run_hop_at runs (value_of a)
told_at f L runs t a e = sym (t.2 (value_of a) (number_lt (width f) a e) ∙ ap (λ p. lpm (of_family f L) p 0) (number_bits (width f) a e))

told_number : (f : Family) (L : Entries) (runs : List Run) → RunsTell f L runs → (n : ℕ) → n < 2 ^ width f → answers (of_family f L) [] (bits_of (width f) n) ≡ run_hop_at runs n
told_number f L runs t n lt = sym (t.2 n lt)

only_least : (d : ℕ) (f g : List Bool → ℕ) (a : List Bool) → IsLeastAt d f g a → least_differing d f g ≡ Some a
only_least d f g a i = by_answer (least_differing d f g) refl
  where
    by_answer : (o : Option (List Bool)) → least_differing d f g ≡ o → o ≡ Some a
    by_answer None e = absurd (i.1 (none_differs d f g e a i.0))
    by_answer (Some b) e =
        let j = some_differs d f g b e in
        elim (cases_order (value_of b) (value_of a)) [
          | inl s ↦ ap Some (bits_from_value b a (j.0 ∙ sym i.0) s)
          | inr (inl lt) ↦ absurd (j.1 (i.2 b j.0 lt))
          | inr (inr gt) ↦ absurd (i.1 (j.2 a i.0 gt))
        ]

pub no_of_is : (f : Family) (L M : Entries) (a b : List Run) (o : Option Apart) → RunsTell f L a → RunsTell f M b → IsFirstApart a b o → no_of f o ≡ not_same_in L M f
no_of_is f L M a b None s t i = sym (ap (not_same_at L M f) (none_from (width f) (answers (of_family f L) []) (answers (of_family f M) []) (λ p e. told_at f L a s p e ∙ (i (value_of p) ∙ sym (told_at f M b t p e)))))
no_of_is f L M a b (Some x) s t i =
    let w = width f in
    let p = bits_of w x.start in
    let lt : x.start < 2 ^ w = i.4 (2 ^ w) s.0 t.0 in
    let first : answers (of_family f L) [] p ≡ x.first = told_number f L a s x.start lt ∙ i.0 in
    let second : answers (of_family f M) [] p ≡ x.second = told_number f M b t x.start lt ∙ i.1 in
    let value : value_of p ≡ x.start = value-bits_of w x.start ∙ mod-eq_of_lt lt in
    let least : IsLeastAt w (answers (of_family f L) []) (answers (of_family f M) []) p = (
      length-bits_of w x.start,
      (λ e. i.2 (sym first ∙ (e ∙ second))),
      (λ q e n. told_at f L a s q e ∙ (i.3 (value_of q) (omega (arith, value)) ∙ sym (told_at f M b t q e))),
    ) in
    sym (ap (not_same_at L M f) (only_least w (answers (of_family f L) []) (answers (of_family f M) []) p least)
    ∙ (ap (λ (n : ℕ). Some (NotSame (record { family = f; bits = p }) n (answers (of_family f M) [] p))) first ∙ ap (λ (n : ℕ). Some (NotSame (record { family = f; bits = p }) x.first n)) second))

pub start_below : (m : ℕ) (a b : List Run) (o : Option Apart) → Below m a → Below m b → IsFirstApart a b o → IfSome o (λ (x : Apart). x.start < m)
start_below m a b None p q i = tt
start_below m a b (Some x) p q i = i.4 m p q
