-- Slots and the rows that their places tell.
use Rattle.std.proofs.Common.{◌≡◌, ℕ, zero, suc, ◌+◌, ◌-◌, ◌<◌, ◌≤◌, ◌^◌, List, [], ◌∷◌, ◌++◌, Bool, true, false, Option, Some, None, Result, Ok, Err, length, get_or, refl, sym, ap, subst, ◌∙◌, arith, length-append, inl, inr}
use Rattle.std.specs.Prelude.{slice_get, slice_set, slice_index_or, option_map, nat_lt, OnOk, OnErr, if◌then◌else◌}
use Rattle.std.proofs.lemmas.Bool.{cases_lt}
use Rattle.std.proofs.lemmas.Option.{same_Some, slice_get_within, slice_get_past, slice_get_read, get_or_from_slice_get}
use Rattle.adj_rib_in.specs.declared.rows.Row.{Row}
use Rattle.adj_rib_in.specs.declared.slot.PathSlot.{PathSlot}
use Rattle.adj_rib_in.specs.declared.slot.RunSlot.{RunSlot}
use Rattle.adj_rib_in.specs.Slots.{rowless, in_row, begun, row_at, placed_from, AreRising, AreSlotRuns}
use Rattle.adj_rib_in.specs.Flat.{IsInRun, IsSlotRun, off_or, no_slot}
use Rattle.adj_rib_in.proofs.Places.{got_pushed}
use Rattle.adj_rib_in.proofs.RowLists.{got_within}

-- ---- how many rows begin at a place or before it

lt_true : (a b : ℕ) → a < b → nat_lt a b ≡ true
lt_true a b l = by_test (nat_lt a b) refl
  where
    by_test : (t : Bool) → nat_lt a b ≡ t → t ≡ true
    by_test true e = refl
    by_test false e = absurd (grind (arith, e, l))

lt_false : (a b : ℕ) → b ≤ a → nat_lt a b ≡ false
lt_false a b l = by_test (nat_lt a b) refl
  where
    by_test : (t : Bool) → nat_lt a b ≡ t → t ≡ false
    by_test true e = absurd (grind (arith, e, l))
    by_test false e = refl

begun_more : (rows : List Row) (y : Row) (i : ℕ) → i < y.off → begun (rows ++ y ∷ []) i ≡ begun rows i
unfolding begun
begun_more [] y i l = ap (λ (b : Bool). if b then 0 else 1) (lt_true i y.off l)
begun_more (r ∷ rows) y i l = ap (λ n. if nat_lt i r.off then 0 else suc n) (begun_more rows y i l)

begun_all : (rows : List Row) (i : ℕ) → ((j : ℕ) (r : Row) → slice_get rows j ≡ Some r → r.off ≤ i) → begun rows i ≡ length rows
unfolding begun
begun_all [] i h = refl
begun_all (r ∷ rows) i h = ap (λ (b : Bool). if b then 0 else suc (begun rows i)) (lt_false i r.off (h 0 r refl)) ∙ ap suc (begun_all rows i (λ j t g. h (suc j) t g))

pub begun_most : (rows : List Row) (i : ℕ) → begun rows i ≤ length rows
unfolding begun
begun_most [] i = omega arith
begun_most (r ∷ rows) i = by_test (nat_lt i r.off) (begun_most rows i)
  where
    by_test : (b : Bool) → begun rows i ≤ length rows → (if b then 0 else suc (begun rows i)) ≤ suc (length rows)
    by_test true h = omega arith
    by_test false h = omega (arith, h)

pub begun_past : (rows : List Row) (i mid : ℕ) (r : Row) → AreRising rows → slice_get rows mid ≡ Some r → r.off ≤ i → mid < begun rows i
unfolding begun
begun_past [] i mid r rise g l = absurd cc
begun_past (x ∷ rows) i zero r rise g l =
    let e : nat_lt i x.off ≡ false = lt_false i x.off (subst (λ (y : Row). y.off ≤ i) (sym (same_Some x r g)) l) in
    subst (λ (b : Bool). 0 < (if b then 0 else suc (begun rows i))) (sym e) (omega arith)
begun_past (x ∷ rows) i (suc mid) r rise g l =
    let m : x.off ≤ r.off = rise 0 (suc mid) x r (omega arith) refl g in
    let e : nat_lt i x.off ≡ false = lt_false i x.off (omega (arith, m, l)) in
    let h : mid < begun rows i = begun_past rows i mid r (λ a b s t k u v. rise (suc a) (suc b) s t (omega (arith, k)) u v) g l in
    subst (λ (b : Bool). suc mid < (if b then 0 else suc (begun rows i))) (sym e) (omega (arith, h))

pub begun_before : (rows : List Row) (i mid : ℕ) (r : Row) → slice_get rows mid ≡ Some r → i < r.off → begun rows i ≤ mid
unfolding begun
begun_before [] i mid r g l = absurd cc
begun_before (x ∷ rows) i zero r g l =
    let e : nat_lt i x.off ≡ true = lt_true i x.off (subst (λ (y : Row). i < y.off) (sym (same_Some x r g)) l) in
    subst (λ (b : Bool). (if b then 0 else suc (begun rows i)) ≤ 0) (sym e) (omega arith)
begun_before (x ∷ rows) i (suc mid) r g l = by_test (nat_lt i x.off) (begun_before rows i mid r g l)
  where
    by_test : (b : Bool) → begun rows i ≤ mid → (if b then 0 else suc (begun rows i)) ≤ suc mid
    by_test true h = omega arith
    by_test false h = omega (arith, h)

-- ---- the row of a place in a run

module _ (rows : List Row) (r end i : ℕ) (f : AreSlotRuns rows end) (x : IsInRun rows r end i) where
  -- the place has a slot
  pub run_within : i < end
  run_within = by_next (slice_get rows (suc r)) refl x.1
    where
      by_next : (o : Option Row) → slice_get rows (suc r) ≡ o → i < off_or end o → i < end
      by_next None g l = l
      by_next (Some next) g l = omega (arith, l, f.within (suc r) next g)

  run_begun : begun rows i ≡ suc r
  run_begun = by_row (slice_get rows r) refl x.0
    where
      by_next : (o : Option Row) → slice_get rows (suc r) ≡ o → i < off_or end o → begun rows i ≤ suc r
      by_next None g l = elim (cases_lt (suc r) (length rows)) [
        | inl m ↦ let k = got_within rows (suc r) m in absurd cc
        | inr m ↦ omega (arith, begun_most rows i, m)
      ]
      by_next (Some next) g l = begun_before rows i (suc r) next g l

      by_row : (o : Option Row) → slice_get rows r ≡ o → off_or end o ≤ i → begun rows i ≡ suc r
      by_row None g l = absurd (omega (arith, l, run_within))
      by_row (Some row) g l = omega (arith, begun_past rows i r row f.rising g l, by_next (slice_get rows (suc r)) refl x.1)

  pub run_row : row_at rows i ≡ r
  run_row = omega (arith, run_begun)

  pub run_few : r < 2 ^ 32
  run_few = omega (arith, run_begun, begun_most rows i, f.few)

pub row_few : (rows : List Row) (end i : ℕ) → AreSlotRuns rows end → row_at rows i < 2 ^ 32
row_few rows end i f = omega (arith, begun_most rows i, f.few)

-- ---- slots with their rows

pub placed_length : (rows : List Row) (k : ℕ) (xs : List RunSlot) → length (placed_from rows k xs) ≡ length xs
unfolding placed_from
placed_length rows k [] = refl
placed_length rows k (x ∷ xs) = ap suc (placed_length rows (suc k) xs)

got_from : (rows : List Row) (k : ℕ) (xs : List RunSlot) (i : ℕ) → slice_get (placed_from rows k xs) i ≡ option_map (in_row (row_at rows (k + i))) (slice_get xs i)
unfolding placed_from
got_from rows k [] i = refl
got_from rows k (x ∷ xs) zero = let e : k ≡ k + 0 = omega arith in ap (λ n. Some (in_row (row_at rows n) x)) e
got_from rows k (x ∷ xs) (suc i) = let e : suc k + i ≡ k + suc i = omega arith in got_from rows (suc k) xs i ∙ ap (λ n. option_map (in_row (row_at rows n)) (slice_get xs i)) e

pub placed_get : (rows : List Row) (xs : List RunSlot) (i : ℕ) → slice_get (placed_from rows 0 xs) i ≡ option_map (in_row (row_at rows i)) (slice_get xs i)
placed_get rows xs i = let e : 0 + i ≡ i = omega arith in got_from rows 0 xs i ∙ ap (λ n. option_map (in_row (row_at rows n)) (slice_get xs i)) e

set_from : (rows : List Row) (k : ℕ) (xs : List RunSlot) (i : ℕ) (y : RunSlot) → placed_from rows k (slice_set xs i y) ≡ slice_set (placed_from rows k xs) i (in_row (row_at rows (k + i)) y)
unfolding placed_from
set_from rows k [] i y = refl
set_from rows k (x ∷ xs) zero y = let e : k ≡ k + 0 = omega arith in ap (λ n. in_row (row_at rows n) y ∷ placed_from rows (suc k) xs) e
set_from rows k (x ∷ xs) (suc i) y =
    let e : suc k + i ≡ k + suc i = omega arith in
    ap (λ zs. in_row (row_at rows k) x ∷ zs) (set_from rows (suc k) xs i y ∙ ap (λ n. slice_set (placed_from rows (suc k) xs) i (in_row (row_at rows n) y)) e)

pub placed_set : (rows : List Row) (xs : List RunSlot) (i : ℕ) (y : RunSlot) → placed_from rows 0 (slice_set xs i y) ≡ slice_set (placed_from rows 0 xs) i (in_row (row_at rows i) y)
placed_set rows xs i y = let e : 0 + i ≡ i = omega arith in set_from rows 0 xs i y ∙ ap (λ n. slice_set (placed_from rows 0 xs) i (in_row (row_at rows n) y)) e

push_from : (rows : List Row) (k : ℕ) (xs : List RunSlot) (y : RunSlot) → placed_from rows k (xs ++ y ∷ []) ≡ placed_from rows k xs ++ in_row (row_at rows (k + length xs)) y ∷ []
unfolding placed_from
push_from rows k [] y = let e : k ≡ k + 0 = omega arith in ap (λ n. in_row (row_at rows n) y ∷ []) e
push_from rows k (x ∷ xs) y =
    let e : suc k + length xs ≡ k + suc (length xs) = omega arith in
    ap (λ zs. in_row (row_at rows k) x ∷ zs) (push_from rows (suc k) xs y ∙ ap (λ n. placed_from rows (suc k) xs ++ in_row (row_at rows n) y ∷ []) e)

-- a slot of the last row behind all others
pub placed_push : (rows : List Row) (xs : List RunSlot) (s : PathSlot) → AreSlotRuns rows (length xs) → suc s.row ≡ length rows → placed_from rows 0 (xs ++ rowless s ∷ []) ≡ placed_from rows 0 xs ++ s ∷ []
placed_push rows xs s f last =
    let e : 0 + length xs ≡ length xs = omega arith in
    let r : row_at rows (length xs) ≡ s.row = omega (arith, begun_all rows (length xs) f.within, last) in
    push_from rows 0 xs (rowless s) ∙ (ap (λ n. placed_from rows 0 xs ++ in_row (row_at rows n) (rowless s) ∷ []) e ∙ ap (λ n. placed_from rows 0 xs ++ in_row n (rowless s) ∷ []) r)

pub runs_longer : (rows : List Row) (xs more : List RunSlot) (y : RunSlot) → more ≡ xs ++ y ∷ [] → AreSlotRuns rows (length xs) → AreSlotRuns rows (length more)
runs_longer rows xs more y e f = record {
  rising = f.rising;
  within = λ i r g. let n : length more ≡ length (xs ++ y ∷ []) = ap length e in omega (arith, f.within i r g, n, length-append xs (y ∷ []));
  few = f.few;
}

-- a row more, whose run begins behind all slots
same_rows : (rows more : List Row) (k end : ℕ) (xs : List RunSlot) → k + length xs ≡ end → ((i : ℕ) → i < end → begun more i ≡ begun rows i) → placed_from more k xs ≡ placed_from rows k xs
unfolding placed_from
same_rows rows more k end [] n h = refl
same_rows rows more k end (x ∷ xs) n h =
    ap (λ m. in_row (m - 1) x ∷ placed_from more (suc k) xs) (h k (omega (arith, n)))
    ∙ ap (λ zs. in_row (row_at rows k) x ∷ zs) (same_rows rows more (suc k) end xs (omega (arith, n)) h)

pub placed_same : (rows more : List Row) (row : Row) (xs : List RunSlot) → row.off ≡ length xs → more ≡ rows ++ row ∷ [] → placed_from more 0 xs ≡ placed_from rows 0 xs
placed_same rows more row xs o e = ap (λ rs. placed_from rs 0 xs) e ∙ same_rows rows (rows ++ row ∷ []) 0 (length xs) xs (omega arith) (λ i l. begun_more rows row i (omega (arith, l, o)))

pub runs_more : (rows more : List Row) (row : Row) (end : ℕ) → AreSlotRuns rows end → length rows < 2 ^ 32 - 1 → row.off ≡ end → more ≡ rows ++ row ∷ [] → AreSlotRuns more end
runs_more rows more row end f few o e = subst (λ rs. AreSlotRuns rs end) (sym e) (record {
  rising = λ i j r t l g h. elim (got_pushed rows row j t h) [
    | inl y ↦ elim (got_pushed rows row i r g) [
      | inl x ↦ f.rising i j r t l x y
      | inr x ↦ absurd (omega (arith, l, x.0, slice_get_within rows j t y))
    ]
    | inr y ↦ elim (got_pushed rows row i r g) [
      | inl x ↦ subst (λ (k : Row). r.off ≤ k.off) y.1 (omega (arith, f.within i r x, o))
      | inr x ↦ absurd (omega (arith, l, x.0, y.0))
    ]
  ];
  within = λ i r g. elim (got_pushed rows row i r g) [
    | inl x ↦ f.within i r x
    | inr x ↦ subst (λ (k : Row). k.off ≤ end) x.1 (omega (arith, o))
  ];
  few = omega (arith, few, length-append rows (row ∷ []));
})

-- ---- what the code reads and writes

-- what a search keeps
pub record IsBetween (from at to end : ℕ) : Type 0 where
  pub above : from ≤ at
  pub below : at ≤ to
  pub within : to ≤ end

pub count_of : (rows : List Row) (xs : List RunSlot) (now : List PathSlot) → placed_from rows 0 xs ≡ now → length xs ≡ length now
count_of rows xs now e = sym (placed_length rows 0 xs) ∙ ap length e

pub in_place : (rows : List Row) (r end from to i : ℕ) → IsSlotRun rows r end from to → from ≤ i → i < to → IsInRun rows r end i
in_place rows r end from to i run l m = (subst (λ n. n ≤ i) run.0 l, subst (λ n. i < n) run.1 m)

pub run_inside : (rows items : List Row) (xs : List RunSlot) (now : List PathSlot) (r i : ℕ) → rows ≡ items → placed_from rows 0 xs ≡ now → IsInRun items r (length now) i → IsInRun rows r (length xs) i
run_inside rows items xs now r i d e x = subst (λ n. IsInRun rows r n i) (sym (count_of rows xs now e)) (subst (λ rs. IsInRun rs r (length now) i) (sym d) x)

pub slot_there : (rows : List Row) (xs : List RunSlot) (now : List PathSlot) (i r : ℕ) (s : RunSlot) (t : PathSlot) → placed_from rows 0 xs ≡ now → slice_get xs i ≡ Some s → row_at rows i ≡ r → t ≡ in_row r s → Some t ≡ slice_get now i
slot_there rows xs now i r s t e g h k = ap Some (k ∙ ap (λ n. in_row n s) (sym h)) ∙ (sym (placed_get rows xs i ∙ ap (option_map (in_row (row_at rows i))) g) ∙ ap (λ zs. slice_get zs i) e)

pub no_slot_there : (rows : List Row) (xs : List RunSlot) (now : List PathSlot) (i : ℕ) → placed_from rows 0 xs ≡ now → slice_get xs i ≡ None → slice_get now i ≡ None
no_slot_there rows xs now i e g = ap (λ zs. slice_get zs i) (sym e) ∙ (placed_get rows xs i ∙ ap (option_map (in_row (row_at rows i))) g)

pub bare_there : (rows : List Row) (xs : List RunSlot) (now : List PathSlot) (i : ℕ) (s : RunSlot) → placed_from rows 0 xs ≡ now → slice_get xs i ≡ Some s → Some s ≡ option_map rowless (slice_get now i)
bare_there rows xs now i s e g = ap (option_map rowless) (slot_there rows xs now i (row_at rows i) s (in_row (row_at rows i) s) e g refl refl)

pub slot_read : {X : Type 0} (xs ys : List X) (i : ℕ) (x : X) → xs ≡ ys → i < length xs → x ≡ get_or xs i x → slice_get ys i ≡ Some x
slot_read xs ys i x d l e = ap (λ zs. slice_get zs i) (sym d) ∙ slice_get_read xs (length xs) i x refl l e

pub slot_unread : {X : Type 0} (xs ys : List X) (i : ℕ) → xs ≡ ys → length xs ≤ i → slice_get ys i ≡ None
slot_unread xs ys i d l = ap (λ zs. slice_get zs i) (sym d) ∙ slice_get_past xs i l

pub slot_written : (rows : List Row) (xs : List RunSlot) (now : List PathSlot) (i : ℕ) (s new : RunSlot) (write : PathSlot → PathSlot) → placed_from rows 0 xs ≡ now → slice_get xs i ≡ Some s → in_row (row_at rows i) new ≡ write (in_row (row_at rows i) s) → placed_from rows 0 (slice_set xs i new) ≡ slice_set now i (write (slice_index_or now i no_slot))
slot_written rows xs now i s new write e g h =
    let t : PathSlot = in_row (row_at rows i) s in
    let there : slice_get now i ≡ Some t = sym (slot_there rows xs now i (row_at rows i) s t e g refl refl) in
    placed_set rows xs i new
    ∙ (ap (slice_set (placed_from rows 0 xs) i) h
    ∙ (ap (λ zs. slice_set zs i (write t)) e
    ∙ ap (λ w. slice_set now i (write w)) (sym (get_or_from_slice_get now i t no_slot there))))

pub runs_pushed : {A E : Type 0} (r : Result A E) (rows more : List Row) (row : Row) (end : ℕ) → OnOk r (more ≡ rows ++ row ∷ []) → OnErr r (more ≡ rows) → AreSlotRuns rows end → length rows < 2 ^ 32 - 1 → row.off ≡ end → AreSlotRuns more end
runs_pushed (Ok x) rows more row end ok err f few o = runs_more rows more row end f few o ok
runs_pushed (Err x) rows more row end ok err f few o = subst (λ rs. AreSlotRuns rs end) (sym err) f

pub slots_pushed : {A E : Type 0} (r : Result A E) (rows more : List Row) (row : Row) (xs : List RunSlot) → OnOk r (more ≡ rows ++ row ∷ []) → OnErr r (more ≡ rows) → row.off ≡ length xs → placed_from more 0 xs ≡ placed_from rows 0 xs
slots_pushed (Ok x) rows more row xs ok err o = placed_same rows more row xs o ok
slots_pushed (Err x) rows more row xs ok err o = ap (λ rs. placed_from rs 0 xs) err
