-- Which elementary event is the first after which something is too much, as more of them come.
use Rattle.std.proofs.Common.{◌≡◌, ℕ, ◌+◌, ◌<◌, ◌≤◌, List, [], ◌∷◌, ◌++◌, cond, Option, Some, None, length, refl, sym, ap, ◌∙◌, append_assoc, append-nil, arith}
use Rattle.std.specs.Prelude.{option_map}
use Rattle.std.proofs.lemmas.Bool.{lt-ltb, le-ltb}
use Rattle.route_model.specs.Events.{Elem}
use Rattle.fib_addr.specs.Hops.{most_hops}
use Rattle.kept_model.specs.Feed.{hops_after}
use Rattle.route_tries.specs.Sizes.{Sizes, Shortage, shortage}
use Rattle.fib_due.specs.declared.outcome.MrtInput.{MrtInput}
use Rattle.fib_due.specs.declared.outcome.MrtInput.TheVariants.{Dump, Updates}
use Rattle.fib_due.specs.Refusals.{Refusal, ManyHops, Short, first_or, hops_or, routes_by, stop_at, too_much}

-- ---- one event

pub stop_one : (f : List Elem → Option Refusal) (before : List Elem) (elem : Elem) (r : Refusal) → f (before ++ elem ∷ []) ≡ Some r → stop_at f before (elem ∷ []) ≡ Some (1, r)
unfolding stop_at
stop_one f before elem r e = ap (λ o. first_or o None) e

pub stop_none : (f : List Elem → Option Refusal) (before : List Elem) (elem : Elem) → f (before ++ elem ∷ []) ≡ None → stop_at f before (elem ∷ []) ≡ None
unfolding stop_at
stop_none f before elem e = ap (λ o. first_or o None) e

-- ---- more events

abbrev later : ℕ → Option (ℕ × Refusal) → Option (ℕ × Refusal)
later n o = option_map (λ s. (n + s.0, s.1)) o

later-none : (o : Option (ℕ × Refusal)) → later 1 o ≡ None → o ≡ None
later-none None e = refl
later-none (Some s) e = absurd cc

later-more : (n : ℕ) (o : Option (ℕ × Refusal)) → later 1 (later n o) ≡ later (1 + n) o
later-more n None = refl
later-more n (Some s) = ap (λ k. Some (k, s.1)) (let e : 1 + (n + s.0) ≡ (1 + n) + s.0 = omega arith in e)

later-zero : (o : Option (ℕ × Refusal)) → later 0 o ≡ o
later-zero None = refl
later-zero (Some s) = ap (λ k. Some (k, s.1)) (let e : 0 + s.0 ≡ s.0 = omega arith in e)

pub stop_in_front : (f : List Elem → Option Refusal) (before xs ys : List Elem) (s : ℕ × Refusal) → stop_at f before xs ≡ Some s → stop_at f before (xs ++ ys) ≡ Some s
unfolding stop_at
stop_in_front f before [] ys s e = absurd cc
stop_in_front f before (x ∷ xs) ys s e = by_first (f (before ++ x ∷ [])) (stop_at f (before ++ x ∷ []) xs) refl e (stop_in_front f (before ++ x ∷ []) xs ys)
  where
    by_first : (o : Option Refusal) (m : Option (ℕ × Refusal)) → stop_at f (before ++ x ∷ []) xs ≡ m → first_or o m ≡ Some s → ((t : ℕ × Refusal) → stop_at f (before ++ x ∷ []) xs ≡ Some t → stop_at f (before ++ x ∷ []) (xs ++ ys) ≡ Some t)
        → first_or o (stop_at f (before ++ x ∷ []) (xs ++ ys)) ≡ Some s
    by_first (Some r) m is e ih = e
    by_first None None is e ih = absurd cc
    by_first None (Some t) is e ih = ap (later 1) (ih t is) ∙ e

pub stop_behind : (f : List Elem → Option Refusal) (before xs ys : List Elem) → stop_at f before xs ≡ None → stop_at f before (xs ++ ys) ≡ later (length xs) (stop_at f (before ++ xs) ys)
unfolding stop_at
stop_behind f before [] ys e = ap (λ zs. stop_at f zs ys) (sym (append-nil before)) ∙ sym (later-zero (stop_at f (before ++ []) ys))
stop_behind f before (x ∷ xs) ys e = by_first (f (before ++ x ∷ [])) e (stop_behind f (before ++ x ∷ []) xs ys)
  where
    by_first : (o : Option Refusal) → first_or o (stop_at f (before ++ x ∷ []) xs) ≡ None → (stop_at f (before ++ x ∷ []) xs ≡ None → stop_at f (before ++ x ∷ []) (xs ++ ys) ≡ later (length xs) (stop_at f ((before ++ x ∷ []) ++ xs) ys)) → first_or o (stop_at f (before ++ x ∷ []) (xs ++ ys)) ≡ later (length (x ∷ xs)) (stop_at f (before ++ x ∷ xs) ys)
    by_first (Some r) e ih = absurd cc
    by_first None e ih =
        ap (later 1) (ih (later-none (stop_at f (before ++ x ∷ []) xs) e) ∙ ap (λ zs. later (length xs) (stop_at f zs ys)) (append_assoc before (x ∷ []) xs))
        ∙ (later-more (length xs) (stop_at f (before ++ x ∷ xs) ys) ∙ ap (λ n. later n (stop_at f (before ++ x ∷ xs) ys)) (let e : 1 + length xs ≡ length (x ∷ xs) = omega arith in e))

-- ---- what is too much

abbrev Hops : List Elem → ℕ
Hops elems = length (hops_after [] elems)

many_or : (elems : List Elem) (o : Option Refusal) → most_hops < Hops elems → hops_or elems o ≡ Some ManyHops
many_or elems o over = ap (λ b. cond b (Some ManyHops) o) (lt-ltb most_hops (Hops elems) over)

few_or : (elems : List Elem) (o : Option Refusal) → Hops elems ≤ most_hops → hops_or elems o ≡ o
few_or elems o few = ap (λ b. cond b (Some ManyHops) o) (le-ltb most_hops (Hops elems) few)

pub many_hops : (which : MrtInput) (z : Sizes) (elems : List Elem) → most_hops < Hops elems → too_much which z elems ≡ Some ManyHops
many_hops Dump z elems over = many_or elems None over
many_hops Updates z elems over = many_or elems (option_map Short (shortage z (routes_by elems))) over

pub is_short : (z : Sizes) (elems : List Elem) (s : Shortage) → Hops elems ≤ most_hops → shortage z (routes_by elems) ≡ Some s → too_much Updates z elems ≡ Some (Short s)
is_short z elems s few e = few_or elems (option_map Short (shortage z (routes_by elems))) few ∙ ap (option_map Short) e

pub dump_fits : (z : Sizes) (elems : List Elem) → Hops elems ≤ most_hops → too_much Dump z elems ≡ None
dump_fits z elems few = few_or elems None few

pub updates_fit : (z : Sizes) (elems : List Elem) → Hops elems ≤ most_hops → shortage z (routes_by elems) ≡ None → too_much Updates z elems ≡ None
updates_fit z elems few e = few_or elems (option_map Short (shortage z (routes_by elems))) few ∙ ap (option_map Short) e
