-- Rows read one by one.
use Rattle.std.proofs.Common.{◌≡◌, ◌≢◌, ℕ, zero, suc, ◌+◌, ◌<◌, ◌≤◌, List, [], ◌∷◌, ◌++◌, Bool, true, false, cond, Option, Some, None, length, map, take, drop, get_or, drop-cons, fold, nat_eq, refl, sym, ap, ◌∙◌, arith, subst}
use Rattle.std.specs.List.{AllByRecursion}
use Rattle.std.specs.Prelude.{◌&&◌, ◌↔◌, is_some, IsSome, option_map, option_to_list}
use Rattle.std.proofs.lemmas.Bool.{cond-true, cond-false, eq-eqb, ne_eqb}
use Rattle.table_model.specs.Address.{Prefix, same_prefix, same_family}
use Rattle.table_model.specs.Halves.{half_at}
use Rattle.table_model.specs.declared.family.Family.{Family}
use Rattle.table_model.specs.Entries.{Entries}
use Rattle.cert_model.specs.Rows.{CertRow, leaf_row, join_row, bound_row, whole_prefix}
use Rattle.cert_model.specs.Verdict.{all_get}
use Rattle.cert_model.specs.declared.row.Row.{Row}
use Rattle.cert_model.specs.Views.{row_as}
use Rattle.moves_model.specs.Sets.{Allowed, any, these, is_allowed, allowed_by_both, gap, set_over, k_over}
use Rattle.moves_model.specs.Demands.{old_at, none_below, demand_over, leaf_demand, join_demand, change_bound}
use Rattle.moves_model.specs.Demands.{Demand as ModelDemand}
use Rattle.moves_model.specs.Verdict.{NoMoves, Shape, LeafWrong, JoinWrong, have_halves, no_row_more, wrong_moves_row}
use Rattle.moves_check.specs.Views.{no_moves_as}
use Rattle.moves_check.specs.declared.refusal.NoMoves as code
use Rattle.moves_check.specs.declared.rows.Demand.{Demand}
use Rattle.moves_check.specs.Stack.{SameDemand, demand_as, demands_as, wrong_in_rest, MovesRowRead, TakenOff, IsNumberOf, EndsWithBound}
use Rattle.fib_moves.specs.Views.{SameAllowed}
use Rattle.fib_moves.proofs.Same.{same_allowed, same_both, same_itself}

pub push_as : (xs : List Demand) (x : Demand) → demands_as (xs ++ x ∷ []) ≡ demand_as x ∷ demands_as xs
push_as xs x = go xs []
  where
    go : (ys : List Demand) (st : List ModelDemand) → fold (λ st i. demand_as i ∷ st) st (ys ++ x ∷ []) ≡ demand_as x ∷ fold (λ st i. demand_as i ∷ st) st ys
    go [] st = refl
    go (y ∷ ys) st = go ys (demand_as y ∷ st)

-- a region's own entry counted
pub same_over : (T : Entries) (p : Prefix) (S Q : Allowed) (m n : ℕ) → SameAllowed S Q → m ≡ n → SameDemand (demand_over T p S m) (demand_over T p Q n)
same_over T p S Q m n e f = by_entry (old_at T p)
  where
    by_entry : (o : Option ℕ) → (p ≡ p) × SameAllowed (set_over o S) (set_over o Q) × (k_over o S m ≡ k_over o Q n)
    by_entry None = (refl, e, f)
    by_entry (Some t) = (refl, tt, ap (λ (b : Bool). cond b m (m + 1)) (same_allowed S Q t e) ∙ ap (λ k. cond (is_allowed t Q) k (k + 1)) f)

same_join : (T : Entries) (p : Prefix) (low high low' high' : ModelDemand) → SameDemand low low' → SameDemand high high' → SameDemand (join_demand T p low high) (join_demand T p low' high')
same_join T p low high low' high' a b =
    let x = same_both low.hops high.hops low'.hops high'.hops a.1 b.1 in
    same_over T p (allowed_by_both low.hops high.hops) (allowed_by_both low'.hops high'.hops) (low.k + high.k + gap low.hops high.hops) (low'.k + high'.k + gap low'.hops high'.hops) x.0 (omega (arith, a.2, b.2, x.1))

-- ---- stacks of the same regions go on alike

abbrev SameStack : List ModelDemand → List ModelDemand → Type 0
SameStack [] [] = Unit {0}
SameStack [] (j ∷ st) = ⊥
SameStack (i ∷ st) [] = ⊥
SameStack (i ∷ st) (j ∷ st') = SameDemand i j × SameStack st st'

same_bound : (i j : ModelDemand) → SameDemand i j → change_bound i.hops i.k ≡ change_bound j.hops j.k
same_bound i j s = ap (λ (b : Bool). cond b i.k (i.k + 1)) (same_allowed i.hops j.hops 0 s.1) ∙ ap (change_bound j.hops) s.2

module _ (R T : Entries) (f : Family) where
  wrong_same : (rows : List CertRow) (st st' : List ModelDemand) (n : ℕ) → SameStack st st' → wrong_moves_row R T f rows st n ≡ wrong_moves_row R T f rows st' n
  unfolding wrong_moves_row
  wrong_same [] st st' n s = refl
  wrong_same (leaf_row p h ∷ rows) st st' n s =
      ap (λ x. cond (all_get R p h && none_below T p) x (Some (LeafWrong n))) (wrong_same rows (leaf_demand T p h ∷ st) (leaf_demand T p h ∷ st') (n + 1) (same_over T p (these (h ∷ [])) (these (h ∷ [])) 0 0 (λ x. refl) refl, s))
  wrong_same (join_row p k ∷ rows) [] [] n s = refl
  wrong_same (join_row p k ∷ rows) [] (j ∷ st') n s = absurd s
  wrong_same (join_row p k ∷ rows) (i ∷ st) [] n s = absurd s
  wrong_same (join_row p k ∷ rows) (i ∷ []) (j ∷ []) n s = refl
  wrong_same (join_row p k ∷ rows) (i ∷ []) (j ∷ j' ∷ st') n s = absurd s.1
  wrong_same (join_row p k ∷ rows) (i ∷ i' ∷ st) (j ∷ []) n s = absurd s.1
  wrong_same (join_row p k ∷ rows) (high ∷ low ∷ st) (high' ∷ low' ∷ st') n s =
      let x = same_join T p low high low' high' s.1.0 s.0 in
      let more = wrong_same rows (join_demand T p low high ∷ st) (join_demand T p low' high' ∷ st') (n + 1) (x, s.1.1) in
      let rest : ℕ → Option NoMoves → Option NoMoves = λ m y. cond (nat_eq k m) y (Some (JoinWrong n k m)) in
      ap (λ y. cond (have_halves p low high) (rest (join_demand T p low high).k y) (Some (Shape n))) more
      ∙ (ap (λ m. cond (have_halves p low high) (rest m (wrong_moves_row R T f rows (join_demand T p low' high' ∷ st') (n + 1))) (Some (Shape n))) x.2
      ∙ ap (λ (b : Bool). cond b (rest (join_demand T p low' high').k (wrong_moves_row R T f rows (join_demand T p low' high' ∷ st') (n + 1))) (Some (Shape n)))
      (ap (λ q. same_prefix q (half_at false p) && same_prefix high.prefix (half_at true p)) s.1.0.0 ∙ ap (λ q. same_prefix low'.prefix (half_at false p) && same_prefix q (half_at true p)) s.0.0))
  wrong_same (bound_row g m ∷ rows) [] [] n s = refl
  wrong_same (bound_row g m ∷ rows) [] (j ∷ st') n s = absurd s
  wrong_same (bound_row g m ∷ rows) (i ∷ st) [] n s = absurd s
  wrong_same (bound_row g m ∷ rows) (i ∷ []) (j ∷ []) n s =
      let rest : ℕ → Option NoMoves = λ d. cond (nat_eq m d) (no_row_more rows (n + 1)) (Some (JoinWrong n m d)) in
      ap (λ d. cond (same_family g f && same_prefix i.prefix (whole_prefix f)) (rest d) (Some (Shape n))) (same_bound i j s.0)
      ∙ ap (λ q. cond (same_family g f && same_prefix q (whole_prefix f)) (rest (change_bound j.hops j.k)) (Some (Shape n))) s.0.0
  wrong_same (bound_row g m ∷ rows) (i ∷ []) (j ∷ j' ∷ st') n s = absurd s.1
  wrong_same (bound_row g m ∷ rows) (i ∷ i' ∷ st) (j ∷ []) n s = absurd s.1
  wrong_same (bound_row g m ∷ rows) (i ∷ i' ∷ st) (j ∷ j' ∷ st') n s = refl

  stack_itself : (st : List ModelDemand) → SameStack st st
  stack_itself [] = tt
  stack_itself (i ∷ st) = ((refl, same_itself i.hops, refl), stack_itself st)

  -- ---- leaves

  pub leaf_passed : (p : Prefix) (h n : ℕ) (st st' : List ModelDemand) (i : ModelDemand) → (all_get R p h && none_below T p) ≡ true → i ≡ leaf_demand T p h → st' ≡ i ∷ st → MovesRowRead R T f (leaf_row p h) n None st None st' None
  unfolding wrong_moves_row
  leaf_passed p h n st st' i t e s rows = cond-true _ _ _ t ∙ ap (λ xs. wrong_moves_row R T f rows xs (n + 1)) (ap (λ x. x ∷ st) (sym e) ∙ sym s)

  pub leaf_refused : (p : Prefix) (h n : ℕ) (st st' : List ModelDemand) (b : Option ℕ) → (all_get R p h && none_below T p) ≡ false → MovesRowRead R T f (leaf_row p h) n None st b st' (Some (LeafWrong n))
  unfolding wrong_moves_row
  leaf_refused p h n st st' b t rows = cond-false _ _ _ t

  -- ---- joins

  pub join_passed : (p : Prefix) (k n : ℕ) (st st' more : List ModelDemand) (low high i : ModelDemand) → st ≡ high ∷ low ∷ more → have_halves p low high ≡ true → SameDemand i (join_demand T p low high) → k ≡ i.k → st' ≡ i ∷ more
      → MovesRowRead R T f (join_row p k) n None st None st' None
  unfolding wrong_moves_row
  join_passed p k n st st' more low high i s t x e z rows =
      ap (λ xs. wrong_moves_row R T f (join_row p k ∷ rows) xs n) s
      ∙ (cond-true _ _ _ t ∙ (cond-true _ _ _ (eq-eqb k (join_demand T p low high).k (e ∙ x.2))
      ∙ (wrong_same rows (join_demand T p low high ∷ more) (i ∷ more) (n + 1) ((sym x.0, turned (join_demand T p low high) i x, sym x.2), stack_itself more) ∙ ap (λ xs. wrong_moves_row R T f rows xs (n + 1)) (sym z))))
    where
      back : (S Q : Allowed) → SameAllowed S Q → SameAllowed Q S
      back any any e = tt
      back any (these Q) e = absurd e
      back (these S) any e = absurd e
      back (these S) (these Q) e = λ h. sym (e h)

      turned : (j i : ModelDemand) → SameDemand i j → SameAllowed j.hops i.hops
      turned j i x = back i.hops j.hops x.1

  pub join_wrong : (p : Prefix) (k n : ℕ) (st st' more : List ModelDemand) (low high i : ModelDemand) (b : Option ℕ) → st ≡ high ∷ low ∷ more → have_halves p low high ≡ true → SameDemand i (join_demand T p low high) → k ≢ i.k
      → MovesRowRead R T f (join_row p k) n None st b st' (Some (JoinWrong n k i.k))
  unfolding wrong_moves_row
  join_wrong p k n st st' more low high i b s t x e rows =
      ap (λ xs. wrong_moves_row R T f (join_row p k ∷ rows) xs n) s
      ∙ (cond-true _ _ _ t ∙ (cond-false _ _ _ (ne_eqb k (join_demand T p low high).k (λ z. e (z ∙ sym x.2))) ∙ ap (λ d. Some (JoinWrong n k d)) (sym x.2)))

  pub join_apart : (p : Prefix) (k n : ℕ) (st st' more : List ModelDemand) (low high : ModelDemand) (b : Option ℕ) → st ≡ high ∷ low ∷ more → have_halves p low high ≡ false → MovesRowRead R T f (join_row p k) n None st b st' (Some (Shape n))
  unfolding wrong_moves_row
  join_apart p k n st st' more low high b s t rows = ap (λ xs. wrong_moves_row R T f (join_row p k ∷ rows) xs n) s ∙ cond-false _ _ _ t

  pub join_empty : (p : Prefix) (k n : ℕ) (st st' : List ModelDemand) (b : Option ℕ) → st ≡ [] → MovesRowRead R T f (join_row p k) n None st b st' (Some (Shape n))
  unfolding wrong_moves_row
  join_empty p k n st st' b s rows = ap (λ xs. wrong_moves_row R T f (join_row p k ∷ rows) xs n) s

  pub join_single : (p : Prefix) (k n : ℕ) (st st' : List ModelDemand) (i : ModelDemand) (b : Option ℕ) → st ≡ i ∷ [] → MovesRowRead R T f (join_row p k) n None st b st' (Some (Shape n))
  unfolding wrong_moves_row
  join_single p k n st st' i b s rows = ap (λ xs. wrong_moves_row R T f (join_row p k ∷ rows) xs n) s

  -- ---- the bound

  pub bound_passed : (g : Family) (m n : ℕ) (st st' : List ModelDemand) (i : ModelDemand) → st ≡ i ∷ [] → (same_family g f && same_prefix i.prefix (whole_prefix f)) ≡ true → m ≡ change_bound i.hops i.k → MovesRowRead R T f (bound_row g m) n None st (Some m) st' None
  unfolding wrong_moves_row
  bound_passed g m n st st' i s t e rows = ap (λ xs. wrong_moves_row R T f (bound_row g m ∷ rows) xs n) s ∙ (cond-true _ _ _ t ∙ cond-true _ _ _ (eq-eqb m (change_bound i.hops i.k) e))

  pub bound_wrong : (g : Family) (m n due : ℕ) (st st' : List ModelDemand) (i : ModelDemand) (b : Option ℕ) → st ≡ i ∷ [] → (same_family g f && same_prefix i.prefix (whole_prefix f)) ≡ true → due ≡ change_bound i.hops i.k → m ≢ due
      → MovesRowRead R T f (bound_row g m) n None st b st' (Some (JoinWrong n m due))
  unfolding wrong_moves_row
  bound_wrong g m n due st st' i b s t e z rows =
      ap (λ xs. wrong_moves_row R T f (bound_row g m ∷ rows) xs n) s ∙ (cond-true _ _ _ t ∙ (cond-false _ _ _ (ne_eqb m (change_bound i.hops i.k) (λ x. z (x ∙ sym e))) ∙ ap (λ d. Some (JoinWrong n m d)) (sym e)))

  pub bound_other : (g : Family) (m n : ℕ) (st st' : List ModelDemand) (i : ModelDemand) (b : Option ℕ) → st ≡ i ∷ [] → (same_family g f && same_prefix i.prefix (whole_prefix f)) ≡ false → MovesRowRead R T f (bound_row g m) n None st b st' (Some (Shape n))
  unfolding wrong_moves_row
  bound_other g m n st st' i b s t rows = ap (λ xs. wrong_moves_row R T f (bound_row g m ∷ rows) xs n) s ∙ cond-false _ _ _ t

  pub bound_empty : (g : Family) (m n : ℕ) (st st' : List ModelDemand) (b : Option ℕ) → st ≡ [] → MovesRowRead R T f (bound_row g m) n None st b st' (Some (Shape n))
  unfolding wrong_moves_row
  bound_empty g m n st st' b s rows = ap (λ xs. wrong_moves_row R T f (bound_row g m ∷ rows) xs n) s

  pub bound_more : (g : Family) (m n : ℕ) (st st' more : List ModelDemand) (i j : ModelDemand) (b : Option ℕ) → st ≡ i ∷ j ∷ more → MovesRowRead R T f (bound_row g m) n None st b st' (Some (Shape n))
  unfolding wrong_moves_row
  bound_more g m n st st' more i j b s rows = ap (λ xs. wrong_moves_row R T f (bound_row g m ∷ rows) xs n) s

  pub row_after : (row : CertRow) (n b : ℕ) (bound : Option ℕ) (st st' : List ModelDemand) (c : Option ℕ) → bound ≡ Some b → MovesRowRead R T f row n bound st c st' (Some (Shape n))
  row_after row n b bound st st' c e rows = ap (λ x. wrong_in_rest R T f x (row ∷ rows) st n) e

popped_none : (old new : List Demand) → length old ≡ 0 → old ≡ new ++ [] → (demands_as old ≡ []) × (demands_as new ≡ [])
popped_none [] [] l e = (refl, refl)
popped_none [] (x ∷ new) l e = cc
popped_none (x ∷ old) new l e = absurd (omega arith)

pub popped : (old new : List Demand) (o : Option Demand) (n : ℕ) → n ≡ length old → IsSome o ↔ (0 < n) → old ≡ new ++ option_to_list o → TakenOff (demands_as old) (demands_as new) (option_map demand_as o)
popped [] new None n l v e = popped_none [] new refl e
popped (x ∷ old) new None n l v e = let some : IsSome {T = Demand} None = v.1 (omega arith) in cc
popped old new (Some x) n l v e = ap demands_as e ∙ push_as new x

-- ---- old entries asked as T

pub over_as : (E T : Entries) (p : Prefix) (S : Allowed) (m : ℕ) → old_at E p ≡ old_at T p → demand_over E p S m ≡ demand_over T p S m
over_as E T p S m e = ap (λ (o : Option ℕ). let i : ModelDemand = record { prefix = p; hops = set_over o S; k = k_over o S m } in i) e

pub leaf_as : (E T : Entries) (p : Prefix) (h : ℕ) (i : ModelDemand) (W : Allowed) → old_at E p ≡ old_at T p → W ≡ these (h ∷ []) → i ≡ demand_over E p W 0 → i ≡ leaf_demand T p h
leaf_as E T p h i W e w x = x ∙ (ap (λ S. demand_over E p S 0) w ∙ over_as E T p (these (h ∷ [])) 0 e)

pub join_as : (E T : Entries) (p : Prefix) (low high i : ModelDemand) → old_at E p ≡ old_at T p → SameDemand i (join_demand E p low high) → SameDemand i (join_demand T p low high)
join_as E T p low high i e x = subst (SameDemand i) (over_as E T p (allowed_by_both low.hops high.hops) (low.k + high.k + gap low.hops high.hops) e) x

-- a region from its halves
pub joined_item : (E : Entries) (p : Prefix) (low high i : ModelDemand) (w : Allowed) (apart : Bool) (m k : ℕ) → SameAllowed w (allowed_by_both low.hops high.hops) → cond apart 1 0 ≡ gap low.hops high.hops → m ≡ low.k + high.k → k ≡ cond apart (m + 1) m
    → i ≡ demand_over E p w k → SameDemand i (join_demand E p low high)
joined_item E p low high i w apart m k x g s e is =
    subst (λ j. SameDemand j (join_demand E p low high)) (sym is)
    (same_over E p w (allowed_by_both low.hops high.hops) k (low.k + high.k + gap low.hops high.hops) x (omega (arith, e, one_more apart, g, s)))
  where
    one_more : (b : Bool) → cond b (m + 1) m ≡ m + cond b 1 0
    one_more true = refl
    one_more false = omega arith

pub row_is : (R T : Entries) (f : Family) (row row' : CertRow) (n : ℕ) (st st' : List ModelDemand) (b b' : Option ℕ) (x : Option NoMoves) → row ≡ row' → b' ≡ b → MovesRowRead R T f row' n None st b st' x → MovesRowRead R T f row n None st b' st' x
row_is R T f row row' n st st' b b' x e i r = subst (λ y. MovesRowRead R T f y n None st b' st' x) (sym e) (subst (λ y. MovesRowRead R T f row' n None st y st' x) (sym i) r)

-- ---- the rows one after another

pub went_on : (R T : Entries) (f : Family) (row : CertRow) (n : ℕ) (st st' : List ModelDemand) (b : Option ℕ) (x : Option code.NoMoves) → x ≡ None → MovesRowRead R T f row n None st b st' (option_map no_moves_as x) → MovesRowRead R T f row n None st b st' None
went_on R T f row n st st' b x e r = subst (λ (y : Option code.NoMoves). MovesRowRead R T f row n None st b st' (option_map no_moves_as y)) e r

pub stopped : (R T : Entries) (f : Family) (row : CertRow) (n : ℕ) (st st' : List ModelDemand) (b : Option ℕ) (x : Option code.NoMoves) (y : code.NoMoves) → x ≡ Some y → MovesRowRead R T f row n None st b st' (option_map no_moves_as x) → (rows : List CertRow) → wrong_moves_row R T f (row ∷ rows) st n ≡ Some (no_moves_as y)
stopped R T f row n st st' b x y e r rows = (subst (λ (z : Option code.NoMoves). MovesRowRead R T f row n None st b st' (option_map no_moves_as z)) e r) rows

pub rows_next : (rows : List Row) (i : ℕ) (r z : Row) → i < length rows → r ≡ get_or rows i z → map row_as (drop i rows) ≡ row_as r ∷ map row_as (drop (i + 1) rows)
rows_next rows i r z lt is =
    ap (map row_as) (drop-cons rows i z lt)
    ∙ (ap (λ (x : Row). row_as x ∷ map row_as (drop (suc i) rows)) (sym is) ∙ ap (λ (j : ℕ). row_as r ∷ map row_as (drop j rows)) (let e : suc i ≡ i + 1 = omega arith in e))

all_dropped : (rows : List Row) (i : ℕ) → length rows ≤ i → drop i rows ≡ []
all_dropped [] zero le = refl
all_dropped [] (suc i) le = refl
all_dropped (r ∷ rows) zero le = absurd (omega arith)
all_dropped (r ∷ rows) (suc i) le = all_dropped rows i (omega arith)

pub rows_over : (R T : Entries) (f : Family) (rows : List Row) (i b : ℕ) (bound : Option ℕ) (st : List ModelDemand) (n : ℕ) → length rows ≤ i → bound ≡ Some b → wrong_in_rest R T f bound (map row_as (drop i rows)) st n ≡ None
rows_over R T f rows i b bound st n le e = ap (λ x. wrong_in_rest R T f x (map row_as (drop i rows)) st n) e ∙ ap (λ xs. no_row_more (map row_as xs) n) (all_dropped rows i le)

pub rows_short : (R T : Entries) (f : Family) (rows : List Row) (i : ℕ) (bound : Option ℕ) (st : List ModelDemand) (n : ℕ) → length rows ≤ i → bound ≡ None → wrong_in_rest R T f bound (map row_as (drop i rows)) st n ≡ Some (Shape n)
unfolding wrong_moves_row
rows_short R T f rows i bound st n le e = ap (λ x. wrong_in_rest R T f x (map row_as (drop i rows)) st n) e ∙ ap (λ xs. wrong_moves_row R T f (map row_as xs) st n) (all_dropped rows i le)

-- ---- the last row

pub last_row : (row : CertRow) (rows front : List CertRow) (b : Option ℕ) (m : ℕ) → IsNumberOf row b → b ≡ Some m → rows ≡ front ++ row ∷ [] → EndsWithBound rows b
last_row row rows front None m o e s = cc
last_row (leaf_row p h) rows front (Some b) m o e s = absurd o
last_row (join_row p k) rows front (Some b) m o e s = absurd o
last_row (bound_row g k) rows front (Some b) m o e s = (front, g, s ∙ ap (λ (y : ℕ). front ++ (bound_row g y ∷ [])) (sym o))

all_taken : (rows : List Row) (i : ℕ) → length rows ≤ i → take i rows ≡ rows
all_taken [] zero le = refl
all_taken [] (suc i) le = refl
all_taken (r ∷ rows) zero le = absurd (omega arith)
all_taken (r ∷ rows) (suc i) le = ap (λ xs. r ∷ xs) (all_taken rows i (omega arith))

pub last_taken : (rows : List Row) (i : ℕ) (b : Option ℕ) → length rows ≤ i → EndsWithBound (map row_as (take i rows)) b → EndsWithBound (map row_as rows) b
last_taken rows i b le x = subst (λ (xs : List Row). EndsWithBound (map row_as xs) b) (all_taken rows i le) x

-- ---- the loop over the rows

some_left : (rows : List Row) (i : ℕ) → i < length rows → (r : Row) × (drop i rows ≡ r ∷ drop (suc i) rows)
some_left [] i lt = absurd (omega arith)
some_left (r ∷ rows) zero lt = (r, refl)
some_left (r ∷ rows) (suc i) lt = some_left rows i (omega arith)

pub rows_after : (R T : Entries) (f : Family) (rows : List Row) (i : ℕ) (bound : Option ℕ) (st : List ModelDemand) (n : ℕ) (x : Bool) → i < length rows → x ≡ is_some bound → x ≡ true → wrong_in_rest R T f bound (map row_as (drop i rows)) st n ≡ Some (Shape n)
rows_after R T f rows i None st n x lt e t = let z : true ≡ false = sym t ∙ e in cc
rows_after R T f rows i (Some b) st n x lt e t = let y = some_left rows i lt in ap (λ xs. no_row_more (map row_as xs) n) y.1

pub no_bound : (bound : Option ℕ) (x : Bool) → x ≡ is_some bound → x ≡ false → bound ≡ None
no_bound None x e t = refl
no_bound (Some b) x e t = let z : false ≡ true = sym t ∙ e in cc

pub bound_told : (bound : Option ℕ) → IsSome bound → (b : ℕ) × (bound ≡ Some b)
bound_told None s = let x : IsSome {T = ℕ} None = s in cc
bound_told (Some b) s = (b, refl)

pub row_at : (P : CertRow → Type 0) (rows : List Row) (i : ℕ) (r z : Row) → i < length rows → r ≡ get_or rows i z → AllByRecursion P (map row_as rows) → P (row_as r)
row_at P [] i r z lt e a = absurd (omega arith)
row_at P (x ∷ rows) zero r z lt e a = subst (λ (y : Row). P (row_as y)) (sym e) a.0
row_at P (x ∷ rows) (suc i) r z lt e a = row_at P rows i r z (omega arith) e a.1

take_next : (rows : List Row) (i : ℕ) (r z : Row) → i < length rows → r ≡ get_or rows i z → map row_as (take (suc i) rows) ≡ map row_as (take i rows) ++ row_as r ∷ []
take_next [] i r z lt e = absurd (omega arith)
take_next (x ∷ rows) zero r z lt e = ap (λ (y : Row). row_as y ∷ []) (sym e)
take_next (x ∷ rows) (suc i) r z lt e = ap (λ xs. row_as x ∷ xs) (take_next rows i r z (omega arith) e)

pub taken_next : (rows : List Row) (i : ℕ) (r z : Row) (b : Option ℕ) → i < length rows → r ≡ get_or rows i z → IsNumberOf (row_as r) b → IsSome b → EndsWithBound (map row_as (take (i + 1) rows)) b
taken_next rows i r z b lt e o s =
    let m = bound_told b s in
    last_row (row_as r) (map row_as (take (i + 1) rows)) (map row_as (take i rows)) b m.0 o m.1 (ap (λ (j : ℕ). map row_as (take j rows)) (let k : i + 1 ≡ suc i = omega arith in k) ∙ take_next rows i r z lt e)
