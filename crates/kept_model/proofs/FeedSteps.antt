-- One elementary event more, and the numbers of hops on the way.
use Rattle.std.proofs.Common.{◌≡◌, ℕ, ◌+◌, ◌≤◌, List, [], ◌∷◌, ◌++◌, length, refl, sym, ap, subst, ◌∙◌, arith, append-nil, append_assoc}
use Rattle.std.specs.List.{AllByRecursion}
use Rattle.table_model.specs.Address.{Address, Prefix}
use Rattle.table_model.specs.Entries.{Entries}
use Rattle.table_model.proofs.Sums.{in_order_again}
use Rattle.table_model.specs.Both.{aggregate_in_both}
use Rattle.table_model.proofs.Both.{aggregates_sorted}
use Rattle.route_model.specs.Events.{Elem}
use Rattle.route_model.specs.Choice.{Candidates, after_elem, after_elems, routes_of}
use Rattle.kept_model.specs.Feed.{AreNumbered, IsNumbered, hops_after, at_event}
use Rattle.kept_model.proofs.Numbers.{hops_more, one_more_at_most, stays, routes_numbered}
use Rattle.kept_model.specs.Kept.{AreNumberedAlong, snapshot_of, kept_by, changes_by, kept_from, kept_changes_from}

-- an aggregate of both families stands in order as it is
pub snapshot_is : (R T : Entries) → snapshot_of R T ≡ aggregate_in_both R T
snapshot_is R T = in_order_again (aggregate_in_both R T) (aggregates_sorted R T)

-- ---- one event more

pub elems_more : (held : Candidates) (xs ys : List Elem) → after_elems held (xs ++ ys) ≡ after_elems (after_elems held xs) ys
elems_more held [] ys = refl
elems_more held (x ∷ xs) ys = elems_more (after_elem held x) xs ys

module _ (every : ℕ) (hops : List Address) (elem : Elem) where
  kept_last : (n m : ℕ) (held : Candidates) (T : Entries) (elems : List Elem) → m ≡ n + length elems
      → kept_from every hops n held T (elems ++ elem ∷ []) ≡ kept_by every hops m (after_elems held elems) (kept_from every hops n held T elems) elem
  unfolding kept_from
  kept_last n m held T [] e = let s : m ≡ n = omega arith in ap (λ k. kept_by every hops k held T elem) (sym s)
  kept_last n m held T (x ∷ elems) e = kept_last (n + 1) m (after_elem held x) (kept_by every hops n held T x) elems (omega arith)

  changes_last : (n m : ℕ) (held : Candidates) (T : Entries) (elems : List Elem) → m ≡ n + length elems
      → kept_changes_from every hops n held T (elems ++ elem ∷ []) ≡ kept_changes_from every hops n held T elems ++ at_event m (changes_by every hops m (after_elems held elems) (kept_from every hops n held T elems) elem)
  unfolding kept_from kept_changes_from
  changes_last n m held T [] e = let s : m ≡ n = omega arith in append-nil (at_event n (changes_by every hops n held T elem)) ∙ ap (λ k. at_event k (changes_by every hops k held T elem)) (sym s)
  changes_last n m held T (x ∷ elems) e =
      let first = at_event n (changes_by every hops n held T x) in
      ap (λ z. first ++ z) (changes_last (n + 1) m (after_elem held x) (kept_by every hops n held T x) elems (omega arith))
      ∙ sym (append_assoc first (kept_changes_from every hops (n + 1) (after_elem held x) (kept_by every hops n held T x) elems) (at_event m (changes_by every hops m (after_elems (after_elem held x) elems) (kept_from every hops (n + 1) (after_elem held x) (kept_by every hops n held T x) elems) elem)))

  pub kept_step : (held : Candidates) (T : Entries) (elems : List Elem) → kept_from every hops 1 held T (elems ++ elem ∷ []) ≡ kept_by every hops (length elems + 1) (after_elems held elems) (kept_from every hops 1 held T elems) elem
  kept_step held T elems = kept_last 1 (length elems + 1) held T elems (omega arith)

  pub changes_step : (held : Candidates) (T : Entries) (elems : List Elem) →
      kept_changes_from every hops 1 held T (elems ++ elem ∷ []) ≡ kept_changes_from every hops 1 held T elems ++ at_event (length elems + 1) (changes_by every hops (length elems + 1) (after_elems held elems) (kept_from every hops 1 held T elems) elem)
  changes_step held T elems = changes_last 1 (length elems + 1) held T elems (omega arith)

-- ---- numbers that stay

longer : (hops : List Address) (elems : List Elem) → length hops ≤ length (hops_after hops elems)
longer hops [] = omega arith
longer hops (x ∷ elems) = omega (arith, (one_more_at_most hops x).0, longer (hops_after hops (x ∷ [])) elems, ap length (hops_more hops (x ∷ []) elems))

still : (hops : List Address) (elems : List Elem) (a : Address) → IsNumbered hops a → IsNumbered (hops_after hops elems) a
still hops elems a (n, e, l, m) = (n, stays hops elems a n e, l, omega (arith, m, longer hops elems))

all_still : (hops : List Address) (elems : List Elem) (routes : List (Prefix × Address)) → AllByRecursion (λ (r : Prefix × Address). IsNumbered hops r.1) routes → AllByRecursion (λ (r : Prefix × Address). IsNumbered (hops_after hops elems) r.1) routes
all_still hops elems [] a = tt
all_still hops elems (r ∷ routes) a = (still hops elems r.1 a.0, all_still hops elems routes a.1)

-- the hops of all routes have numbers among those of all elementary events
pub numbered_later : (before more : List Elem) → AreNumbered (hops_after [] (before ++ more)) (after_elems [] before)
numbered_later before more =
    subst (λ (hops : List Address). AreNumbered hops (after_elems [] before)) (sym (hops_more [] before more)) (all_still (hops_after [] before) more (routes_of (after_elems [] before)) (routes_numbered before))

pub numbered_along : (before elems more : List Elem) → AreNumberedAlong (hops_after [] (before ++ (elems ++ more))) (after_elems [] before) elems
numbered_along before [] more = tt
numbered_along before (x ∷ elems) more =
    let front : before ++ (x ∷ (elems ++ more)) ≡ (before ++ x ∷ []) ++ (elems ++ more) = sym (append_assoc before (x ∷ []) (elems ++ more)) in
    let held : after_elems [] (before ++ x ∷ []) ≡ after_elem (after_elems [] before) x = elems_more [] before (x ∷ []) in
    subst (λ (hops : List Address). AreNumbered hops (after_elem (after_elems [] before) x) × AreNumberedAlong hops (after_elem (after_elems [] before) x) elems) (ap (hops_after []) (sym front))
    (subst (λ (c : Candidates). AreNumbered (hops_after [] ((before ++ x ∷ []) ++ (elems ++ more))) c × AreNumberedAlong (hops_after [] ((before ++ x ∷ []) ++ (elems ++ more))) c elems) held
    (numbered_later (before ++ x ∷ []) (elems ++ more), numbered_along (before ++ x ∷ []) elems more))
