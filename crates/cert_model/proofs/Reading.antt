-- No row is wrong exactly where the rows are right.
use Rattle.std.proofs.Common.{◌≡◌, ℕ, suc, ◌+◌, ◌-◌, ◌<◌, List, [], ◌∷◌, ◌++◌, Bool, true, false, cond, Option, Some, None, length, nat_eq, refl, ap, ◌∙◌, arith, length-append}
use Rattle.std.specs.Prelude.{◌&&◌}
use Rattle.std.specs.List.{AllByRecursion}
use Rattle.std.proofs.lemmas.Bool.{eqb-true, eq-eqb, cond-true, and_parts, and_from}
use Rattle.table_model.specs.Width.{width}
use Rattle.table_model.specs.Address.{Prefix, IsPrefix, same_family, same_prefix}
use Rattle.table_model.specs.Halves.{half_at}
use Rattle.table_model.specs.declared.family.Family.{Family}
use Rattle.table_model.proofs.SamePrefix.{same_family_is, same_family_itself, same_prefix_is, same_prefix_itself}
use Rattle.table_model.specs.Entries.{Entries, of_family}
use Rattle.table_model.specs.Uniform.{AllGet}
use Rattle.table_model.specs.Sets.{answers}
use Rattle.fib_addr.specs.Answers.{one_answer}
use Rattle.cert_model.specs.Rows.{CertRow, leaf_row, join_row, bound_row, whole_prefix}
use Rattle.cert_model.specs.Right.{Item, leaf_item, join_item, joint_k, bound_by, StackReads, HaveBound}
use Rattle.cert_model.specs.Verdict.{Shape, LeafWrong, JoinWrong, is_answer, all_get, are_halves, wrong_row, RowFits}
use Rattle.cert_model.proofs.Regions.{get_bits, get_all}
use Rattle.fib_addr.proofs.OneAnswer.{one_answer_is, one_answer_from}

is_answer_is : (h : ℕ) (o : Option ℕ) → is_answer h o ≡ true → o ≡ Some h
is_answer_is h None e = cc
is_answer_is h (Some g) e = ap Some (eqb-true g h e)

-- ---- leaves

pub all_get_is : (R : Entries) (p : Prefix) (h : ℕ) → IsPrefix p → all_get R p h ≡ true → AllGet R p h
all_get_is R p h s e =
    let d = width p.family - length p.bits in
    let f = answers (of_family p.family R) p.bits in
    get_all R p h (λ a l. one_answer_is d f h (is_answer_is h (one_answer d f) e) a (let n : length a ≡ d = omega (arith, length-append p.bits a) in n))

pub all_get_from : (R : Entries) (p : Prefix) (h : ℕ) → IsPrefix p → AllGet R p h → all_get R p h ≡ true
all_get_from R p h s g =
    let d = width p.family - length p.bits in
    let f = answers (of_family p.family R) p.bits in
    ap (is_answer h) (one_answer_from d f h (λ a l. get_bits R p h g a (let n : length (p.bits ++ a) ≡ width p.family = omega (arith, length-append p.bits a) in n))) ∙ eq-eqb h h refl

-- ---- joins

halves_are : (p : Prefix) (low high : Item) → are_halves p low high ≡ true → (low.prefix ≡ half_at false p) × (high.prefix ≡ half_at true p)
halves_are p low high e =
    let b = and_parts (same_prefix low.prefix (half_at false p)) (same_prefix high.prefix (half_at true p)) e in
    (same_prefix_is low.prefix (half_at false p) b.0, same_prefix_is high.prefix (half_at true p) b.1)

halves_from : (p : Prefix) (low high : Item) → low.prefix ≡ half_at false p → high.prefix ≡ half_at true p → are_halves p low high ≡ true
halves_from p low high l h =
    and_from _ _ (ap (λ x. same_prefix x (half_at false p)) l ∙ same_prefix_itself (half_at false p)) (ap (λ x. same_prefix x (half_at true p)) h ∙ same_prefix_itself (half_at true p))

-- ---- right rows are passed

pub passes : (R : Entries) (rows more : List CertRow) (f : Family) (due : List Family) (st end : List Item) (n : ℕ) → StackReads R rows st end
    → wrong_row R (rows ++ more) (f ∷ due) st n ≡ wrong_row R more (f ∷ due) end (n + length rows)
unfolding wrong_row
passes R [] more f due st end n r = ap (λ s. wrong_row R more (f ∷ due) s n) r ∙ ap (λ (m : ℕ). wrong_row R more (f ∷ due) end m) (let e : n ≡ n + 0 = omega arith in e)
passes R (leaf_row p h ∷ rows) more f due st end n r =
    cond-true _ _ _ (all_get_from R p h r.0 r.1) ∙ (passes R rows more f due (leaf_item p h ∷ st) end (n + 1) r.2
    ∙ ap (λ (m : ℕ). wrong_row R more (f ∷ due) end m) (let e : n + 1 + length rows ≡ n + suc (length rows) = omega arith in e))
passes R (join_row p k ∷ rows) more f due [] end n r = absurd r
passes R (join_row p k ∷ rows) more f due (i ∷ []) end n r = absurd r
passes R (join_row p k ∷ rows) more f due (high ∷ low ∷ st) end n r =
    cond-true _ _ _ (halves_from p low high r.1 r.2) ∙ (cond-true _ _ _ (eq-eqb k (joint_k low high) r.3) ∙ (passes R rows more f due (join_item p low high ∷ st) end (n + 1) r.4
    ∙ ap (λ (m : ℕ). wrong_row R more (f ∷ due) end m) (let e : n + 1 + length rows ≡ n + suc (length rows) = omega arith in e)))
passes R (bound_row g k ∷ rows) more f due st end n r = absurd r

-- a family's rows and its bound
pub passes_family : (R : Entries) (rows more : List CertRow) (f : Family) (due : List Family) (m n : ℕ) → HaveBound R f rows m → (k : ℕ) × (wrong_row R (rows ++ (bound_row f m ∷ more)) (f ∷ due) [] n ≡ wrong_row R more due [] k)
unfolding wrong_row
passes_family R rows more f due m n (S, k, r, b) = (
  n + length rows + 1,
  passes R rows (bound_row f m ∷ more) f due [] (record { prefix = whole_prefix f; hops = S; k = k } ∷ []) n r
      ∙ (cond-true _ _ _ (and_from _ _ (same_family_itself f) (same_prefix_itself (whole_prefix f))) ∙ cond-true _ _ _ (eq-eqb m (bound_by S k) b)),
)

-- ---- rows that are passed are right

abbrev Short : List Item → Type 0
Short st = AllByRecursion (λ (i : Item). IsPrefix i.prefix) st

-- the rows of a family stand in front, with its bound after them
abbrev IsFront : Entries → List CertRow → Family → List Family → List Item → Type 0
IsFront R rows f due st =
    (front : List CertRow) × (m : ℕ) × (more : List CertRow) × (S : List ℕ) × (k : ℕ) × (n : ℕ) × (rows ≡ front ++ (bound_row f m ∷ more))
    × StackReads R front st (record { prefix = whole_prefix f; hops = S; k = k } ∷ []) × (m ≡ bound_by S k) × (wrong_row R more due [] n ≡ None) × AllByRecursion RowFits more

front_step : (R : Entries) (row : CertRow) (rows : List CertRow) (f : Family) (due : List Family) (st after : List Item) → ((front : List CertRow) (end : List Item) → StackReads R front after end → StackReads R (row ∷ front) st end)
    → IsFront R rows f due after → IsFront R (row ∷ rows) f due st
front_step R row rows f due st after go (front, m, more, S, k, n, e, r, b, w, a) =
    (row ∷ front, m, more, S, k, n, ap (λ x. row ∷ x) e, go front (record { prefix = whole_prefix f; hops = S; k = k } ∷ []) r, b, w, a)

pub fronts : (R : Entries) (rows : List CertRow) (f : Family) (due : List Family) (st : List Item) (n : ℕ) → AllByRecursion RowFits rows → Short st → wrong_row R rows (f ∷ due) st n ≡ None → IsFront R rows f due st
unfolding wrong_row
fronts R [] f due st n a s e = cc
fronts R (leaf_row p h ∷ rows) f due st n a s e = by_test (λ z. fronts R rows f due (leaf_item p h ∷ st) (n + 1) a.1 (a.0, s) z) (all_get R p h) refl e
  where
    by_test : (wrong_row R rows (f ∷ due) (leaf_item p h ∷ st) (n + 1) ≡ None → IsFront R rows f due (leaf_item p h ∷ st)) → (b : Bool) → all_get R p h ≡ b → cond b (wrong_row R rows (f ∷ due) (leaf_item p h ∷ st) (n + 1)) (Some (LeafWrong n)) ≡ None → IsFront R (leaf_row p h ∷ rows) f due st
    by_test later true t z = front_step R (leaf_row p h) rows f due st (leaf_item p h ∷ st) (λ front end r. (a.0, all_get_is R p h a.0 t, r)) (later z)
    by_test later false t z = cc
fronts R (join_row p m ∷ rows) f due [] n a s e = cc
fronts R (join_row p m ∷ rows) f due (i ∷ []) n a s e = cc
fronts R (join_row p m ∷ rows) f due (high ∷ low ∷ st) n a s e = by_tests (λ z. fronts R rows f due (join_item p low high ∷ st) (n + 1) a.1 (a.0, s.1.1) z) (are_halves p low high) (nat_eq m (joint_k low high)) refl refl e
  where
    by_tests : (wrong_row R rows (f ∷ due) (join_item p low high ∷ st) (n + 1) ≡ None → IsFront R rows f due (join_item p low high ∷ st)) → (b c : Bool) → are_halves p low high ≡ b → nat_eq m (joint_k low high) ≡ c
        → cond b (cond c (wrong_row R rows (f ∷ due) (join_item p low high ∷ st) (n + 1)) (Some (JoinWrong n m (joint_k low high)))) (Some (Shape n)) ≡ None → IsFront R (join_row p m ∷ rows) f due (high ∷ low ∷ st)
    by_tests later true true t u z =
        let x = halves_are p low high t in
        let l : length low.prefix.bits ≡ length (p.bits ++ (false ∷ [])) = ap (λ (q : Prefix). length q.bits) x.0 in
        let w : width low.prefix.family ≡ width p.family = ap (λ (q : Prefix). width q.family) x.0 in
        let short : length p.bits < width p.family = omega (arith, length-append p.bits (false ∷ []), s.1.0) in
        front_step R (join_row p m) rows f due (high ∷ low ∷ st) (join_item p low high ∷ st) (λ front end r. (short, x.0, x.1, eqb-true m (joint_k low high) u, r))
        (later z)
    by_tests later true false t u z = cc
    by_tests later false c t u z = cc
fronts R (bound_row g m ∷ rows) f due [] n a s e = cc
fronts R (bound_row g m ∷ rows) f due (i ∷ j ∷ st) n a s e = cc
fronts R (bound_row g m ∷ rows) f due (i ∷ []) n a s e = by_tests (same_family g f && same_prefix i.prefix (whole_prefix f)) (nat_eq m (bound_by i.hops i.k)) refl refl e
  where
    by_tests : (b c : Bool) → (same_family g f && same_prefix i.prefix (whole_prefix f)) ≡ b → nat_eq m (bound_by i.hops i.k) ≡ c
        → cond b (cond c (wrong_row R rows due [] (n + 1)) (Some (JoinWrong n m (bound_by i.hops i.k)))) (Some (Shape n)) ≡ None → IsFront R (bound_row g m ∷ rows) f due (i ∷ [])
    by_tests true true t u z =
        let x = and_parts (same_family g f) (same_prefix i.prefix (whole_prefix f)) t in
        let fam : g ≡ f = same_family_is g f x.0 in
        let top : i.prefix ≡ whole_prefix f = same_prefix_is i.prefix (whole_prefix f) x.1 in
        ([], m, rows, i.hops, i.k, n + 1, ap (λ y. bound_row y m ∷ rows) fam, ap (λ y. let j : Item = record { prefix = y; hops = i.hops; k = i.k } in j ∷ []) top, eqb-true m (bound_by i.hops i.k) u, z, a.1)
    by_tests true false t u z = cc
    by_tests false c t u z = cc

pub nothing_left : (R : Entries) (rows : List CertRow) (st : List Item) (n : ℕ) → wrong_row R rows [] st n ≡ None → rows ≡ []
unfolding wrong_row
nothing_left R [] st n e = refl
nothing_left R (row ∷ rows) st n e = cc
