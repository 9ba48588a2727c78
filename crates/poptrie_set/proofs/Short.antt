-- Where the blocks that are asked for run out, those that came out are of no more places than are asked for, and no free block is as large as
-- the one that was refused.
use Rattle.std.proofs.Common.{◌≡◌, ℕ, zero, suc, ◌+◌, ◌-◌, ◌^◌, ◌≤◌, List, [], ◌∷◌, ◌++◌, Bool, true, false, cond, nat_eq, length, Option, Some, None, refl, ap, ◌∙◌, arith, inl, inr}
use Rattle.std.specs.List.{AllByRecursion}
use Rattle.buddy_arena.specs.Space.{blocks, NoneFrom, free_count}
use Rattle.buddy_arena.specs.declared.arena.Full.{Full}
use Rattle.buddy_arena.proofs.Spans.{marked_len}
use Rattle.buddy_arena.proofs.Powers.{up_least}
use Rattle.fib_addr.specs.Answers.{one_answer, part}
use Rattle.table_model.specs.Bits.{bits_of}
use Rattle.poptrie_build.specs.Strides.{slots, slot, mixed, starts, run_start}
use Rattle.poptrie_build.specs.Strides as strides
use Rattle.poptrie_build.specs.Need.{children, runs}
use Rattle.path_copying.specs.Asks.{Ask, Frees, alike, ask_for, asks, if_changed, lists_of, slots_asks, word_asks, MeetsAsk, MeetsInTurn, RunsOut}
use Rattle.path_copying.specs.declared.blocks.Refusal.TheVariants as refusal
use Rattle.path_copying.proofs.Retiring.{node_places, leaf_places, asks_left}

-- ---- no ask is for more than 64 places
abbrev pub AreSmall : List Ask → Type 0
AreSmall xs = AllByRecursion (λ (a : Ask). a.1 ≤ 64) xs

small_append : (xs ys : List Ask) → AreSmall xs → AreSmall ys → AreSmall (xs ++ ys)
small_append [] ys a b = b
small_append (x ∷ xs) ys a b = (a.0, small_append xs ys a.1 b)

small_for : (arena c : ℕ) → c ≤ 64 → AreSmall (ask_for arena c)
small_for arena zero l = tt
small_for arena (suc c) l = ((up_least (suc c) (omega arith)).least 6 l, tt)

few_of : (g : ℕ → ℕ) (n : ℕ) → ((v : ℕ) → g v ≤ 1) → strides.total g n ≤ n
unfolding strides.total
few_of g zero h = omega arith
few_of g (suc n) h = let t = few_of g n h in let s = h n in omega (arith, t, s)

one_mixed : (o : Option ℕ) → mixed o ≤ 1
one_mixed None = omega arith
one_mixed (Some h) = omega arith

one_start : (o p : Option ℕ) → starts o p ≤ 1
one_start None p = omega arith
one_start (Some h) None = omega arith
one_start (Some h) (Some k) = by (nat_eq h k)
  where
    by : (b : Bool) → cond b 0 1 ≤ 1
    by true = omega arith
    by false = omega arith

small_listed : (g : ℕ → List Ask) (n : ℕ) → ((v : ℕ) → AreSmall (g v)) → AreSmall (lists_of g n)
unfolding lists_of
small_listed g zero h = tt
small_listed g (suc n) h = small_append (lists_of g n) (g n) (small_listed g n h) (h n)

small_if : (b : Bool) (o : Option ℕ) (xs : List Ask) → AreSmall xs → AreSmall (if_changed b o xs)
small_if true o xs s = tt
small_if false None xs s = s
small_if false (Some h) xs s = tt

small_asks : (k d : ℕ) (f g : List Bool → ℕ) → AreSmall (asks k d f g)
unfolding asks
small_asks zero d f g = tt
small_asks (suc k) d f g =
    small_if (alike d f g) (one_answer d f) _
    (small_append (ask_for 0 (children (slots d f)) ++ ask_for 1 (runs (slots d f))) (lists_of (λ v. asks k (d - 6) (slot d f v) (slot d g v)) 64)
    (small_append (ask_for 0 (children (slots d f))) (ask_for 1 (runs (slots d f))) (small_for 0 (children (slots d f)) (few_of (λ v. mixed (slots d f v)) 64 (λ v. one_mixed (slots d f v)))) (small_for 1 (runs (slots d f)) (few_of (run_start (slots d f)) 64 (λ v. one_start (slots d f v) _))))
    (small_listed (λ v. asks k (d - 6) (slot d f v) (slot d g v)) 64 (λ v. small_asks k (d - 6) (slot d f v) (slot d g v))))

pub small_slots : (k j d : ℕ) (f : List Bool → ℕ) (h : ℕ → List Bool → ℕ) → AreSmall (slots_asks k j d f h)
small_slots k j d f h = small_listed (λ v. word_asks k d (part (bits_of j v) f) (h v)) (2 ^ j) (λ v. small_append _ _ (small_if (alike d (part (bits_of j v) f) (h v)) (one_answer d (part (bits_of j v) f)) (ask_for 0 1) (small_for 0 1 (omega arith))) (small_asks k d (part (bits_of j v) f) (h v)))

-- ---- the refused one
-- the places free when an ask of an arena of this order is refused, of so many places, where the asks are for so many in all
pub record IsShort (order asked : ℕ) (free : List Bool) (e : Full) : Type 0 where
  pub then : List Bool
  pub long : length then ≡ 2 ^ order
  pub none : NoneFrom e.order (blocks order then)
  pub left : free_count free + 2 ^ e.order ≤ asked + free_count then
  pub small : 2 ^ e.order ≤ 64

met_long : (n l : ℕ) (a : Ask) (s t : Frees) → MeetsAsk n l a s t → (length t.0 ≡ length s.0) × (length t.1 ≡ length s.1)
met_long n l (zero, need) s t m = (ap length m.0.3.free ∙ marked_len m.0.0 (2 ^ m.0.1) false s.0, ap length m.1)
met_long n l (suc a, need) s t m = (ap length m.1, ap length m.0.3.free ∙ marked_len m.0.0 (2 ^ m.0.1) false s.1)

met_left : (n l : ℕ) (a : Ask) (s t : Frees) → MeetsAsk n l a s t → (free_count s.0 ≤ node_places (a ∷ []) + free_count t.0) × (free_count s.1 ≤ leaf_places (a ∷ []) + free_count t.1)
unfolding MeetsInTurn
met_left n l a s t m = asks_left n l (a ∷ []) s t (t, m, refl)

pub nodes_short : (n l : ℕ) (xs : List Ask) (s : Frees) (e : Full) → length s.0 ≡ 2 ^ n → AreSmall xs → RunsOut n l xs s (refusal.Nodes e) → IsShort n (node_places xs) s.0 e
unfolding RunsOut
nodes_short n l [] s e long small r = absurd r
nodes_short n l ((zero, need) ∷ xs) s e long small (inl r) = record {
  then = s.0;
  long = long;
  none = r.1;
  left = omega (arith, r.0);
  small = omega (arith, r.0, small.0);
}
nodes_short n l ((suc a, need) ∷ xs) s e long small (inl r) = absurd r
nodes_short n l (a ∷ xs) s e long small (inr r) =
    let rest = nodes_short n l xs r.0 e ((met_long n l a s r.0 r.1).0 ∙ long) small.1 r.2 in
    let one = (met_left n l a s r.0 r.1).0 in
    record {
      then = rest.then;
      long = rest.long;
      none = rest.none;
      left = omega (arith, rest.left, one, node_cons a xs);
      small = rest.small;
    }
  where
    node_cons : (a : Ask) (xs : List Ask) → node_places (a ∷ xs) ≡ node_places (a ∷ []) + node_places xs
    node_cons (zero, need) xs = omega arith
    node_cons (suc b, need) xs = omega arith

pub leaves_short : (n l : ℕ) (xs : List Ask) (s : Frees) (e : Full) → length s.1 ≡ 2 ^ l → AreSmall xs → RunsOut n l xs s (refusal.Leaves e) → IsShort l (leaf_places xs) s.1 e
unfolding RunsOut
leaves_short n l [] s e long small r = absurd r
leaves_short n l ((suc a, need) ∷ xs) s e long small (inl r) = record {
  then = s.1;
  long = long;
  none = r.1;
  left = omega (arith, r.0);
  small = omega (arith, r.0, small.0);
}
leaves_short n l ((zero, need) ∷ xs) s e long small (inl r) = absurd r
leaves_short n l (a ∷ xs) s e long small (inr r) =
    let rest = leaves_short n l xs r.0 e ((met_long n l a s r.0 r.1).1 ∙ long) small.1 r.2 in
    let one = (met_left n l a s r.0 r.1).1 in
    record {
      then = rest.then;
      long = rest.long;
      none = rest.none;
      left = omega (arith, rest.left, one, leaf_cons a xs);
      small = rest.small;
    }
  where
    leaf_cons : (a : Ask) (xs : List Ask) → leaf_places (a ∷ xs) ≡ leaf_places (a ∷ []) + leaf_places xs
    leaf_cons (zero, need) xs = omega arith
    leaf_cons (suc b, need) xs = omega arith
