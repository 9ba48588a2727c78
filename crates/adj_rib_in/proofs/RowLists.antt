-- Rows in their order, and the search of one.
use Rattle.std.proofs.Common.{◌≡◌, ℕ, zero, suc, ◌+◌, ◌-◌, ◌<◌, ◌≤◌, List, [], ◌∷◌, true, false, Some, None, Ok, Err, length, get_or, take, drop, refl, sym, ap, subst, ◌∙◌, arith, inl, inr}
use Rattle.std.specs.Prelude.{slice_get}
use Rattle.std.specs.List.Sorted.{IsNonDecreasingBy, IsBinarySearchResult}
use Rattle.std.specs.Ordering.{ordering_index, ordering_reverse, is_eq, is_lt, is_gt}
use Rattle.std.specs.declared.cmp.Ordering.{Ordering}
use Rattle.std.specs.declared.cmp.Ordering.TheVariants.{Less, Equal, Greater}
use Rattle.std.proofs.lemmas.Bool.{cases_lt}
use Rattle.std.proofs.lemmas.Cmp.{tied_back, alike_right}
use Rattle.std.proofs.lemmas.Option.{none-some, same_Some, slice_get_within, slice_get_past, slice_get-get_or, get_or_from_slice_get}
use Rattle.fib_addr.specs.Order.{code_cmp}
use Rattle.fib_addr.specs.declared.prefix.Prefix as code
use Rattle.adj_rib_in.specs.declared.rows.Row.{Row}
use Rattle.adj_rib_in.specs.Flat.{IsRowPlace, HasNoRow}
use Rattle.adj_rib_in.specs.RowLists.{AreOrdered}
use Rattle.adj_rib_in.proofs.Orders.{prefix_total}
use Rattle.adj_rib_in.proofs.Places.{got_new}

-- ---- a part of a list

got_take : {X : Type 0} (xs : List X) (n i : ℕ) → i < n → slice_get (take n xs) i ≡ slice_get xs i
got_take xs zero i l = absurd (omega (arith, l))
got_take [] (suc n) i l = refl
got_take (x ∷ xs) (suc n) zero l = refl
got_take (x ∷ xs) (suc n) (suc i) l = got_take xs n i (omega (arith, l))

taken : {X : Type 0} (xs : List X) (n i : ℕ) (x : X) → slice_get (take n xs) i ≡ Some x → slice_get xs i ≡ Some x
taken xs zero i x h = absurd cc
taken [] (suc n) i x h = absurd cc
taken (y ∷ xs) (suc n) zero x h = h
taken (y ∷ xs) (suc n) (suc i) x h = taken xs n i x h

got_drop : {X : Type 0} (xs : List X) (n i : ℕ) → slice_get (drop n xs) i ≡ slice_get xs (n + i)
got_drop xs zero i = let e : i ≡ 0 + i = omega arith in ap (slice_get xs) e
got_drop [] (suc n) i = refl
got_drop (x ∷ xs) (suc n) i = let e : suc (n + i) ≡ suc n + i = omega arith in got_drop xs n i ∙ ap (slice_get (x ∷ xs)) e

part_there : {X : Type 0} (xs : List X) (from n i : ℕ) (x : X) → slice_get (take n (drop from xs)) i ≡ Some x → slice_get xs (from + i) ≡ Some x
part_there xs from n i x h = sym (got_drop xs from i) ∙ taken (drop from xs) n i x h

there_part : {X : Type 0} (xs : List X) (from n j : ℕ) (x : X) → from ≤ j → j - from < n → slice_get xs j ≡ Some x → slice_get (take n (drop from xs)) (j - from) ≡ Some x
there_part xs from n j x l m h = let e : from + (j - from) ≡ j = omega (arith, l) in got_take (drop from xs) n (j - from) m ∙ (got_drop xs from (j - from) ∙ (ap (slice_get xs) e ∙ h))

pub got_within : {X : Type 0} (xs : List X) (i : ℕ) → i < length xs → (x : X) × (slice_get xs i ≡ Some x)
got_within [] i l = absurd (omega (arith, l))
got_within (x ∷ xs) zero l = (x, refl)
got_within (x ∷ xs) (suc i) l = got_within xs i (omega (arith, l))

-- ---- rows and a prefix

abbrev pub row_order : Row → Row → Ordering
row_order r t = code_cmp r.prefix t.prefix

pub flipped : (p q : code.Prefix) → code_cmp p q ≡ Less → is_eq (code_cmp q p) ≡ false
flipped p q e = ap is_eq (prefix_total.antisymm q p ∙ ap ordering_reverse e)

turned : (p q : code.Prefix) → code_cmp p q ≡ Greater → is_eq (code_cmp q p) ≡ false
turned p q e = ap is_eq (prefix_total.antisymm q p ∙ ap ordering_reverse e)

rises : (rows : List Row) (x : Row) → AreOrdered rows → IsNonDecreasingBy (λ y. ordering_index (row_order y x)) rows
rises rows x f i j d le lt = elim (cases_lt i j) [
  | inl m ↦ by_order (row_order (get_or rows j d) x) refl (f i j (get_or rows i d) (get_or rows j d) m (slice_get-get_or rows i d (omega (arith, m, lt))) (slice_get-get_or rows j d lt))
  | inr m ↦ let e : i ≡ j = omega (arith, m, le) in subst (λ k. ordering_index (row_order (get_or rows i d) x) ≤ ordering_index (row_order (get_or rows k d) x)) e (omega arith)
]
  where
    low : (o : Ordering) → o ≡ Less → (n : ℕ) → ordering_index o ≤ n
    low Less e n = omega arith
    low Equal e n = absurd cc
    low Greater e n = absurd cc

    high : (o : Ordering) → ordering_index o ≤ 2
    high Less = omega arith
    high Equal = omega arith
    high Greater = omega arith

    by_order : (o : Ordering) → row_order (get_or rows j d) x ≡ o → row_order (get_or rows i d) (get_or rows j d) ≡ Less → ordering_index (row_order (get_or rows i d) x) ≤ ordering_index o
    by_order Less e l = low (row_order (get_or rows i d) x) (prefix_total.trans (get_or rows i d).prefix (get_or rows j d).prefix x.prefix l e) 0
    by_order Equal e l = low (row_order (get_or rows i d) x) (sym (alike_right prefix_total (get_or rows j d).prefix x.prefix (get_or rows i d).prefix e) ∙ l) 1
    by_order Greater e l = high (row_order (get_or rows i d) x)

module _ (rows : List Row) (x : Row) (p : code.Prefix) (e : x.prefix ≡ p) where
  told : (k : ℕ) (row : Row) → slice_get rows k ≡ Some row → (o : Ordering) → row_order (get_or rows k x) x ≡ o → code_cmp row.prefix p ≡ o
  told k row there o y = ap (λ (r : Row). code_cmp r.prefix p) (sym (get_or_from_slice_get rows k row x there)) ∙ (ap (code_cmp (get_or rows k x).prefix) (sym e) ∙ y)

  -- what a search of the prefix finds
  pub found : (i : ℕ) → i < length rows → IsBinarySearchResult (λ y. row_order y x) rows (Ok i) → IsRowPlace rows p i
  found i l h = (get_or rows i x, slice_get-get_or rows i x l, ap is_eq (tied_back prefix_total (get_or rows i x).prefix p (ap (code_cmp (get_or rows i x).prefix) (sym e) ∙ h x)))

  -- and where it ends without it
  before_gap : (i k : ℕ) (row : Row) → AreOrdered rows → IsBinarySearchResult (λ y. row_order y x) rows (Err i) → slice_get rows k ≡ Some row → k < i → code_cmp row.prefix p ≡ Less
  before_gap i k row f h there m = told k row there Less ((h (rises rows x f)).0 k x (omega arith) m)

  after_gap : (i k : ℕ) (row : Row) → AreOrdered rows → IsBinarySearchResult (λ y. row_order y x) rows (Err i) → slice_get rows k ≡ Some row → i ≤ k → code_cmp row.prefix p ≡ Greater
  after_gap i k row f h there m = told k row there Greater ((h (rises rows x f)).1 k x m (slice_get_within rows k row there))

  pub none_found : (i : ℕ) → AreOrdered rows → IsBinarySearchResult (λ y. row_order y x) rows (Err i) → HasNoRow rows p
  none_found i f h j row g = elim (cases_lt j i) [
    | inl k ↦ flipped row.prefix p (before_gap i j row f h g k)
    | inr k ↦ turned row.prefix p (after_gap i j row f h g k)
  ]

-- what a search in a range finds
pub near_found : (rows near : List Row) (from to : ℕ) (x : Row) (p : code.Prefix) → x.prefix ≡ p → near ≡ take (to - from) (drop from rows) → (i : ℕ) → i < length near → IsBinarySearchResult (λ y. row_order y x) near (Ok i) → IsRowPlace rows p (from + i)
near_found rows near from to x p e d i l h =
    let f = found near x p e i l h in
    (f.0, part_there rows from (to - from) i f.0 (ap (λ ys. slice_get ys i) (sym d) ∙ f.1), f.2)

-- ---- rows on both sides of a place

module _ (rows : List Row) (p : code.Prefix) (f : AreOrdered rows) where
  pub rows_before : (at : ℕ) (t : Row) → slice_get rows (at - 1) ≡ Some t → code_cmp t.prefix p ≡ Less → (i : ℕ) (row : Row) → i < at → slice_get rows i ≡ Some row → code_cmp row.prefix p ≡ Less
  rows_before at t g e i row m h = elim (cases_lt i (at - 1)) [
    | inl l ↦ prefix_total.trans row.prefix t.prefix p (f i (at - 1) row t l h g) e
    | inr l ↦
        let j : i ≡ at - 1 = omega (arith, l, m) in
        ap (λ (r : Row). code_cmp r.prefix p) (same_Some row t (sym h ∙ (ap (slice_get rows) j ∙ g))) ∙ e
  ]

  pub rows_after : (at : ℕ) (t : Row) → slice_get rows at ≡ Some t → code_cmp t.prefix p ≡ Greater → (i : ℕ) (row : Row) → at ≤ i → slice_get rows i ≡ Some row → code_cmp row.prefix p ≡ Greater
  rows_after at t g e i row m h = elim (cases_lt at i) [
    | inl l ↦ back row.prefix (prefix_total.trans p t.prefix row.prefix (back_less t.prefix e) (f at i t row l g h))
    | inr l ↦
        let j : i ≡ at = omega (arith, l, m) in
        ap (λ (r : Row). code_cmp r.prefix p) (same_Some row t (sym h ∙ (ap (slice_get rows) j ∙ g))) ∙ e
  ]
    where
      back_less : (q : code.Prefix) → code_cmp q p ≡ Greater → code_cmp p q ≡ Less
      back_less q y = prefix_total.antisymm p q ∙ ap ordering_reverse y

      back : (q : code.Prefix) → code_cmp p q ≡ Less → code_cmp q p ≡ Greater
      back q y = prefix_total.antisymm q p ∙ ap ordering_reverse y

  pub none_after : (at : ℕ) → slice_get rows at ≡ None → (i : ℕ) (row : Row) → at ≤ i → slice_get rows i ≡ Some row → code_cmp row.prefix p ≡ Greater
  none_after at g i row m h =
      let w = slice_get_within rows i row h in
      let k = got_within rows at (omega (arith, m, w)) in
      absurd (none-some k.0 (sym g ∙ k.1))

pub no_row_beside : (rows : List Row) (p : code.Prefix) (at : ℕ)
    → ((i : ℕ) (row : Row) → i < at → slice_get rows i ≡ Some row → code_cmp row.prefix p ≡ Less)
    → ((i : ℕ) (row : Row) → at ≤ i → slice_get rows i ≡ Some row → code_cmp row.prefix p ≡ Greater) → HasNoRow rows p
no_row_beside rows p at before after j row g = elim (cases_lt j at) [
  | inl m ↦ flipped row.prefix p (before j row m g)
  | inr m ↦ turned row.prefix p (after j row m g)
]

pub less_if : (o : Ordering) → is_lt o ≡ true → o ≡ Less
less_if Less e = refl
less_if Equal e = absurd cc
less_if Greater e = absurd cc

pub greater_if : (o : Ordering) → is_gt o ≡ true → o ≡ Greater
greater_if Less e = absurd cc
greater_if Equal e = absurd cc
greater_if Greater e = refl
