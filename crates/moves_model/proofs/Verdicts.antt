-- The verdict is that nothing is wrong exactly where the changes are shortest, and the rows prove it.
use Rattle.std.proofs.Common.{◌≡◌, ℕ, suc, ◌+◌, ◌<◌, ◌≤◌, List, [], ◌∷◌, ◌++◌, Bool, true, false, cond, Option, Some, None, inl, inr, length, nat_eq, nat_lt, refl, sym, ap, ◌∙◌, arith, length-append, ◌↔◌}
use Rattle.std.specs.Prelude.{option_map, is_some, ◌&&◌}
use Rattle.std.specs.List.{AllByRecursion}
use Rattle.std.specs.Option.{option_or, option_and_then, unwrap_or}
use Rattle.std.proofs.lemmas.Bool.{eqb-true, eq-eqb, cond-true, cond-false, and_parts, and_from, lt-ltb, le-ltb, cases_lt}
use Rattle.table_model.specs.Width.{width}
use Rattle.table_model.specs.Address.{Prefix, IsPrefix, same_family, same_prefix}
use Rattle.table_model.specs.Halves.{half_at}
use Rattle.table_model.specs.declared.family.Family.{Family}
use Rattle.table_model.proofs.SamePrefix.{same_family_is, same_family_itself, same_prefix_is, same_prefix_itself}
use Rattle.table_model.specs.Table.{Alike}
use Rattle.table_model.specs.Entries.{Entries, in_order, of_family}
use Rattle.table_model.specs.Changes.{Change, after_change, after_changes}
use Rattle.table_model.specs.Sets.{answers}
use Rattle.cert_model.specs.Rows.{CertRow, leaf_row, join_row, bound_row, whole_prefix}
use Rattle.cert_model.specs.Verdict.{twice, least_differing, all_get, RowFits}
use Rattle.cert_model.proofs.Verdicts.{once_is, once_from}
use Rattle.cert_model.proofs.Differing.{none_differs, none_from}
use Rattle.cert_model.proofs.Reading.{all_get_is, all_get_from}
use Rattle.moves_model.specs.Sets.{Allowed}
use Rattle.moves_model.specs.Nearest.{near_bound}
use Rattle.moves_model.specs.Demands.{Demand, leaf_demand, join_demand, change_bound, none_below, DemandsRead, HaveChangeBound}
use Rattle.moves_model.specs.Shortest.{AreProvedShortest}
use Rattle.moves_model.specs.Verdict.{NoMoves, Twice, Apply, Shape, LeafWrong, JoinWrong, NotShortest, changed_by, changed_by_all, first_refused, answers_differ_at, answers_differ, have_halves, no_row_more, wrong_moves_row, too_many, moves_verdict}
use Rattle.moves_model.proofs.Rules.{bound_is}

none_of : (x y : Option NoMoves) → option_or x y ≡ None → (x ≡ None) × (y ≡ None)
none_of None y e = (refl, e)
none_of (Some n) y e = cc

both_none : (x y : Option NoMoves) → x ≡ None → y ≡ None → option_or x y ≡ None
both_none x y e f = ap (λ z. option_or z y) e ∙ f

mapped : {X : Type 0} (f : X → NoMoves) (o : Option X) → option_map f o ≡ None → o ≡ None
mapped f None e = refl
mapped f (Some x) e = cc

-- ---- the changes

made_is : (cs : List Change) (L : Entries) (n : ℕ) → first_refused cs L n ≡ None → after_changes cs L ≡ Some (changed_by_all cs L)
made_is [] L n e = refl
made_is (c ∷ cs) L n e = by_first (after_change c L) refl (λ m z. made_is cs (changed_by c L) m z)
  where
    by_first : (o : Option Entries) → after_change c L ≡ o → ((m : ℕ) → first_refused cs (changed_by c L) m ≡ None → after_changes cs (changed_by c L) ≡ Some (changed_by_all cs (changed_by c L))) → after_changes (c ∷ cs) L ≡ Some (changed_by_all (c ∷ cs) L)
    by_first None z later = let x : Some n ≡ None = sym (ap (λ o. cond (is_some o) (first_refused cs (changed_by c L) (n + 1)) (Some n)) z) ∙ e in cc
    by_first (Some M) z later =
        let x : first_refused cs (changed_by c L) (n + 1) ≡ None = sym (ap (λ o. cond (is_some o) (first_refused cs (changed_by c L) (n + 1)) (Some n)) z) ∙ e in
        ap (option_and_then (after_changes cs)) z ∙ (ap (after_changes cs) (sym (ap (λ o. unwrap_or o L) z)) ∙ later (n + 1) x)

made_from : (cs : List Change) (L N : Entries) (n : ℕ) → after_changes cs L ≡ Some N → (first_refused cs L n ≡ None) × (changed_by_all cs L ≡ N)
made_from [] L N n e = (refl, (let x : L ≡ N = cc in x))
made_from (c ∷ cs) L N n e = by_first (after_change c L) refl e (λ M y. made_from cs M N (n + 1) y)
  where
    by_first : (o : Option Entries) → after_change c L ≡ o → option_and_then (after_changes cs) o ≡ Some N → ((M : Entries) → after_changes cs M ≡ Some N → (first_refused cs M (n + 1) ≡ None) × (changed_by_all cs M ≡ N))
        → (first_refused (c ∷ cs) L n ≡ None) × (changed_by_all (c ∷ cs) L ≡ N)
    by_first None z y later = cc
    by_first (Some M) z y later =
        let m : changed_by c L ≡ M = ap (λ o. unwrap_or o L) z in
        let x = later M y in (
          ap (λ o. cond (is_some o) (first_refused cs (changed_by c L) (n + 1)) (Some n)) z ∙ (ap (λ E. first_refused cs E (n + 1)) m ∙ x.0),
          ap (changed_by_all cs) m ∙ x.1,
        )

-- ---- the answers

alike_is : (R N : Entries) (f : Family) → answers_differ R N f ≡ None → Alike (width f) (of_family f R) (of_family f N)
alike_is R N f e = none_differs (width f) (answers (of_family f R) []) (answers (of_family f N) []) (none_at (least_differing (width f) (answers (of_family f R) []) (answers (of_family f N) [])) e)
  where
    none_at : (o : Option (List Bool)) → answers_differ_at R N f o ≡ None → o ≡ None
    none_at None e = refl
    none_at (Some a) e = cc

alike_from : (R N : Entries) (f : Family) → Alike (width f) (of_family f R) (of_family f N) → answers_differ R N f ≡ None
alike_from R N f e = ap (answers_differ_at R N f) (none_from (width f) (answers (of_family f R) []) (answers (of_family f N) []) e)

-- ---- the rows

module _ (R T : Entries) where
  abbrev region : Prefix → Demand → Demand → Demand
  region p low high = join_demand T p low high

  halves_are : (p : Prefix) (low high : Demand) → have_halves p low high ≡ true → (low.prefix ≡ half_at false p) × (high.prefix ≡ half_at true p)
  halves_are p low high e =
      let b = and_parts (same_prefix low.prefix (half_at false p)) (same_prefix high.prefix (half_at true p)) e in
      (same_prefix_is low.prefix (half_at false p) b.0, same_prefix_is high.prefix (half_at true p) b.1)

  halves_from : (p : Prefix) (low high : Demand) → low.prefix ≡ half_at false p → high.prefix ≡ half_at true p → have_halves p low high ≡ true
  halves_from p low high l h =
      and_from _ _ (ap (λ x. same_prefix x (half_at false p)) l ∙ same_prefix_itself (half_at false p)) (ap (λ x. same_prefix x (half_at true p)) h ∙ same_prefix_itself (half_at true p))

  -- right rows are passed
  passes : (rows more : List CertRow) (f : Family) (st end : List Demand) (n : ℕ) → DemandsRead R T rows st end → wrong_moves_row R T f (rows ++ more) st n ≡ wrong_moves_row R T f more end (n + length rows)
  unfolding wrong_moves_row
  passes [] more f st end n r = ap (λ s. wrong_moves_row R T f more s n) r ∙ ap (λ (m : ℕ). wrong_moves_row R T f more end m) (let e : n ≡ n + 0 = omega arith in e)
  passes (leaf_row p h ∷ rows) more f st end n r =
      cond-true _ _ _ (and_from _ _ (all_get_from R p h r.0 r.1) r.2) ∙ (passes rows more f (leaf_demand T p h ∷ st) end (n + 1) r.3
      ∙ ap (λ (m : ℕ). wrong_moves_row R T f more end m) (let e : n + 1 + length rows ≡ n + suc (length rows) = omega arith in e))
  passes (join_row p k ∷ rows) more f [] end n r = absurd r
  passes (join_row p k ∷ rows) more f (i ∷ []) end n r = absurd r
  passes (join_row p k ∷ rows) more f (high ∷ low ∷ st) end n r =
      cond-true _ _ _ (halves_from p low high r.1 r.2) ∙ (cond-true _ _ _ (eq-eqb k (region p low high).k r.3) ∙ (passes rows more f (region p low high ∷ st) end (n + 1) r.4
      ∙ ap (λ (m : ℕ). wrong_moves_row R T f more end m) (let e : n + 1 + length rows ≡ n + suc (length rows) = omega arith in e)))
  passes (bound_row g k ∷ rows) more f st end n r = absurd r

  last_row : (f : Family) (m n : ℕ) (i : Demand) → i.prefix ≡ whole_prefix f → m ≡ change_bound i.hops i.k → wrong_moves_row R T f (bound_row f m ∷ []) (i ∷ []) n ≡ None
  unfolding wrong_moves_row
  last_row f m n i e b =
      cond-true _ _ _ (and_from _ _ (same_family_itself f) (ap (λ x. same_prefix x (whole_prefix f)) e ∙ same_prefix_itself (whole_prefix f))) ∙ cond-true _ _ _ (eq-eqb m (change_bound i.hops i.k) b)

  rows_from : (rows : List CertRow) (f : Family) (m : ℕ) → HaveChangeBound R T f rows m → wrong_moves_row R T f (rows ++ (bound_row f m ∷ [])) [] 1 ≡ None
  rows_from rows f m (S, k, r, b) =
      let i : Demand = record { prefix = whole_prefix f; hops = S; k = k } in
      passes rows (bound_row f m ∷ []) f [] (i ∷ []) 1 r ∙ last_row f m (1 + length rows) i refl b

  -- and rows that are passed are right
  abbrev Short : List Demand → Type 0
  Short st = AllByRecursion (λ (i : Demand). IsPrefix i.prefix) st

  abbrev IsFront : List CertRow → Family → List Demand → Type 0
  IsFront rows f st =
      (front : List CertRow) × (m : ℕ) × (S : Allowed) × (k : ℕ) × (rows ≡ front ++ (bound_row f m ∷ []))
      × DemandsRead R T front st (record { prefix = whole_prefix f; hops = S; k = k } ∷ []) × (m ≡ change_bound S k)

  front_step : (row : CertRow) (rows : List CertRow) (f : Family) (st after : List Demand) → ((front : List CertRow) (end : List Demand) → DemandsRead R T front after end → DemandsRead R T (row ∷ front) st end)
      → IsFront rows f after → IsFront (row ∷ rows) f st
  front_step row rows f st after go (front, m, S, k, e, r, b) = (row ∷ front, m, S, k, ap (λ x. row ∷ x) e, go front (record { prefix = whole_prefix f; hops = S; k = k } ∷ []) r, b)

  fronts : (rows : List CertRow) (f : Family) (st : List Demand) (n : ℕ) → AllByRecursion RowFits rows → Short st → wrong_moves_row R T f rows st n ≡ None → IsFront rows f st
  unfolding wrong_moves_row
  fronts [] f st n a s e = cc
  fronts (leaf_row p h ∷ rows) f st n a s e = by_test (λ z. fronts rows f (leaf_demand T p h ∷ st) (n + 1) a.1 (a.0, s) z) (all_get R p h && none_below T p) refl e
    where
      by_test : (wrong_moves_row R T f rows (leaf_demand T p h ∷ st) (n + 1) ≡ None → IsFront rows f (leaf_demand T p h ∷ st)) → (b : Bool) → (all_get R p h && none_below T p) ≡ b
          → cond b (wrong_moves_row R T f rows (leaf_demand T p h ∷ st) (n + 1)) (Some (LeafWrong n)) ≡ None → IsFront (leaf_row p h ∷ rows) f st
      by_test later true t z =
          let x = and_parts (all_get R p h) (none_below T p) t in
          front_step (leaf_row p h) rows f st (leaf_demand T p h ∷ st) (λ front end r. (a.0, all_get_is R p h a.0 x.0, x.1, r)) (later z)
      by_test later false t z = cc
  fronts (join_row p m ∷ rows) f [] n a s e = cc
  fronts (join_row p m ∷ rows) f (i ∷ []) n a s e = cc
  fronts (join_row p m ∷ rows) f (high ∷ low ∷ st) n a s e = by_tests (λ z. fronts rows f (region p low high ∷ st) (n + 1) a.1 (a.0, s.1.1) z) (have_halves p low high) (nat_eq m (region p low high).k) refl refl e
    where
      by_tests : (wrong_moves_row R T f rows (region p low high ∷ st) (n + 1) ≡ None → IsFront rows f (region p low high ∷ st)) → (b c : Bool) → have_halves p low high ≡ b → nat_eq m (region p low high).k ≡ c
          → cond b (cond c (wrong_moves_row R T f rows (region p low high ∷ st) (n + 1)) (Some (JoinWrong n m (region p low high).k))) (Some (Shape n)) ≡ None → IsFront (join_row p m ∷ rows) f (high ∷ low ∷ st)
      by_tests later true true t u z =
          let x = halves_are p low high t in
          let l : length low.prefix.bits ≡ length (p.bits ++ (false ∷ [])) = ap (λ (q : Prefix). length q.bits) x.0 in
          let w : width low.prefix.family ≡ width p.family = ap (λ (q : Prefix). width q.family) x.0 in
          let short : length p.bits < width p.family = omega (arith, length-append p.bits (false ∷ []), s.1.0) in
          front_step (join_row p m) rows f (high ∷ low ∷ st) (region p low high ∷ st) (λ front end r. (short, x.0, x.1, eqb-true m (region p low high).k u, r)) (later z)
      by_tests later true false t u z = cc
      by_tests later false c t u z = cc
  fronts (bound_row g m ∷ rows) f [] n a s e = cc
  fronts (bound_row g m ∷ rows) f (i ∷ j ∷ st) n a s e = cc
  fronts (bound_row g m ∷ rows) f (i ∷ []) n a s e = by_tests (same_family g f && same_prefix i.prefix (whole_prefix f)) (nat_eq m (change_bound i.hops i.k)) refl refl e
    where
      nothing : (rows : List CertRow) (n : ℕ) → no_row_more rows n ≡ None → rows ≡ []
      nothing [] n e = refl
      nothing (row ∷ rows) n e = cc

      by_tests : (b c : Bool) → (same_family g f && same_prefix i.prefix (whole_prefix f)) ≡ b → nat_eq m (change_bound i.hops i.k) ≡ c
          → cond b (cond c (no_row_more rows (n + 1)) (Some (JoinWrong n m (change_bound i.hops i.k)))) (Some (Shape n)) ≡ None → IsFront (bound_row g m ∷ rows) f (i ∷ [])
      by_tests true true t u z =
          let x = and_parts (same_family g f) (same_prefix i.prefix (whole_prefix f)) t in
          let fam : g ≡ f = same_family_is g f x.0 in
          let top : i.prefix ≡ whole_prefix f = same_prefix_is i.prefix (whole_prefix f) x.1 in
          ([], m, i.hops, i.k, ap (λ y. bound_row y m ∷ rows) fam ∙ ap (λ xs. bound_row f m ∷ xs) (nothing rows (n + 1) z), ap (λ y. let j : Demand = record { prefix = y; hops = i.hops; k = i.k } in j ∷ []) top, eqb-true m (change_bound i.hops i.k) u)
      by_tests true false t u z = cc
      by_tests false c t u z = cc

-- ---- too many changes

few_is : (R T : Entries) (f : Family) (cs : List Change) → too_many R T f cs ≡ None → length cs ≤ near_bound (width f) (of_family f R) (of_family f T)
few_is R T f cs e = elim (cases_lt (near_bound (width f) (of_family f R) (of_family f T)) (length cs)) [
  | inl t ↦ absurd (said (near_bound (width f) (of_family f R) (of_family f T)) (length cs) (lt-ltb (near_bound (width f) (of_family f R) (of_family f T)) (length cs) t) e)
  | inr t ↦ t
]
  where
    said : (m n : ℕ) → nat_lt m n ≡ true → cond (nat_lt m n) (Some (NotShortest n m)) None ≡ None → ⊥
    said m n t z = let x : Some (NotShortest n m) ≡ None = sym (cond-true _ _ _ t) ∙ z in cc

few_from : (R T : Entries) (f : Family) (cs : List Change) → length cs ≤ near_bound (width f) (of_family f R) (of_family f T) → too_many R T f cs ≡ None
few_from R T f cs n = cond-false _ _ _ (le-ltb (near_bound (width f) (of_family f R) (of_family f T)) (length cs) n)

-- ---- the whole

pub verdict_is : (f : Family) (T R : Entries) (cs : List Change) (rows : List CertRow) → AllByRecursion RowFits rows → moves_verdict f T R cs rows ≡ None → AreProvedShortest f R T cs rows
verdict_is f T R cs rows a e =
    let wrong = wrong_moves_row R T f rows [] 1 in
    let after = changed_by_all cs (in_order T) in
    let x1 = none_of (option_map Twice (twice T)) (option_or (option_map Twice (twice R)) (option_or (option_map Apply (first_refused cs (in_order T) 1)) (option_or (answers_differ R after f) (option_or wrong (too_many R T f cs))))) e in
    let x2 = none_of (option_map Twice (twice R)) (option_or (option_map Apply (first_refused cs (in_order T) 1)) (option_or (answers_differ R after f) (option_or wrong (too_many R T f cs)))) x1.1 in
    let x3 = none_of (option_map Apply (first_refused cs (in_order T) 1)) (option_or (answers_differ R after f) (option_or wrong (too_many R T f cs))) x2.1 in
    let x4 = none_of (answers_differ R after f) (option_or wrong (too_many R T f cs)) x3.1 in
    let x5 = none_of wrong (too_many R T f cs) x4.1 in
    let (front, m, S, k, p, r, b) = fronts R T rows f [] 1 a tt x5.0 in
    let h : HaveChangeBound R T f front m = (S, k, r, b) in
    record {
      old_once = once_is T (mapped Twice (twice T) x1.0);
      routes_once = once_is R (mapped Twice (twice R) x2.0);
      after = after;
      makes = made_is cs (in_order T) 1 (mapped Apply (first_refused cs (in_order T) 1) x3.0);
      alike = alike_is R after f x4.0;
      regions = front;
      bound = m;
      parts = p;
      right = h;
      few = omega (arith, bound_is R T f front m h, few_is R T f cs x5.1);
    }

pub verdict_from : (f : Family) (T R : Entries) (cs : List Change) (rows : List CertRow) → AreProvedShortest f R T cs rows → moves_verdict f T R cs rows ≡ None
verdict_from f T R cs rows c =
    let x = made_from cs (in_order T) c.after 1 c.makes in
    let y : answers_differ R (changed_by_all cs (in_order T)) f ≡ None = ap (λ E. answers_differ R E f) x.1 ∙ alike_from R c.after f c.alike in
    let z : wrong_moves_row R T f rows [] 1 ≡ None = ap (λ xs. wrong_moves_row R T f xs [] 1) c.parts ∙ rows_from R T c.regions f c.bound c.right in
    both_none (option_map Twice (twice T)) _ (ap (option_map Twice) (once_from T c.old_once))
    (both_none (option_map Twice (twice R)) _ (ap (option_map Twice) (once_from R c.routes_once))
    (both_none (option_map Apply (first_refused cs (in_order T) 1)) _ (ap (option_map Apply) x.0)
    (both_none (answers_differ R (changed_by_all cs (in_order T)) f) _ y (both_none (wrong_moves_row R T f rows [] 1) _ z (few_from R T f cs (omega (arith, bound_is R T f c.regions c.bound c.right, c.few)))))))

pub verdict_law : (f : Family) (T R : Entries) (cs : List Change) (rows : List CertRow) → AllByRecursion RowFits rows → (moves_verdict f T R cs rows ≡ None) ↔ AreProvedShortest f R T cs rows
verdict_law f T R cs rows a = (verdict_is f T R cs rows a, verdict_from f T R cs rows)

-- ---- the bound that is told last

not_nil : (ys : List CertRow) (y : CertRow) → [] ≡ ys ++ y ∷ [] → ⊥
not_nil [] y e = cc
not_nil (z ∷ ys) y e = cc

last_same : (xs ys : List CertRow) (x y : CertRow) → xs ++ x ∷ [] ≡ ys ++ y ∷ [] → x ≡ y
last_same [] [] x y e = cc
last_same [] (z ∷ ys) x y e = let r : [] ≡ ys ++ y ∷ [] = cc in absurd (not_nil ys y r)
last_same (z ∷ xs) [] x y e = let r : [] ≡ xs ++ x ∷ [] = cc in absurd (not_nil xs x r)
last_same (z ∷ xs) (z' ∷ ys) x y e = let r : xs ++ x ∷ [] ≡ ys ++ y ∷ [] = cc in last_same xs ys x y r

pub last_bound : (R T : Entries) (f g : Family) (rows front : List CertRow) (b : ℕ) → AllByRecursion RowFits rows → wrong_moves_row R T f rows [] 1 ≡ None → rows ≡ front ++ (bound_row g b ∷ []) → near_bound (width f) (of_family f R) (of_family f T) ≡ b
last_bound R T f g rows front b a e s =
    let (own, m, S, k, p, r, i) = fronts R T rows f [] 1 a tt e in
    let same : bound_row f m ≡ bound_row g b = last_same own front (bound_row f m) (bound_row g b) (sym p ∙ s) in
    let number : m ≡ b = cc in
    bound_is R T f own m (S, k, r, i) ∙ number
