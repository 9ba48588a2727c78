-- What a copy asks for, slot by slot.
use Rattle.std.proofs.Common.{◌≡◌, ℕ, zero, suc, ◌-◌, ◌<◌, List, [], ◌∷◌, ◌++◌, Bool, true, false, Some, None, refl, sym, ap, ◌∙◌, arith, subst, inl, inr}
use Rattle.std.proofs.lemmas.List.{append-nil, append_assoc}
use Rattle.std.proofs.lemmas.Bool.{cases_eq, eq-eqb, eqb-true}
use Rattle.buddy_arena.specs.Space.{Space}
use Rattle.buddy_arena.specs.Refusals.{IsRefusal}
use Rattle.buddy_arena.specs.declared.blocks.Refused.{Refused}
use Rattle.buddy_arena.specs.declared.blocks.Refused.TheVariants as refused
use Rattle.buddy_arena.proofs.Sets.{both_left, both_right, both}
use Rattle.fib_addr.specs.Answers.{one_answer}
use Rattle.table_model.specs.Sets.{side}
use Rattle.poptrie_build.specs.Strides.{slots, slot}
use Rattle.poptrie_build.specs.Need.{children, runs}
use Rattle.path_copying.specs.declared.blocks.Refusal.{Refusal}
use Rattle.path_copying.specs.declared.blocks.Refusal.TheVariants as refusal
use Rattle.path_copying.specs.Alike.{SameAnswers}
use Rattle.path_copying.specs.Asks.{Ask, ask_for, alike, lists_of, if_changed, asks, Frees, MeetsCount, MeetsInTurn, RunsOut, IsOutOfBlocks, nodes_refusal, leaves_refusal}

-- ---- whether answers are alike
pub alike_no : (d : ℕ) (f g : List Bool → ℕ) → alike d f g ≡ true → SameAnswers d f g
unfolding alike
alike_no zero f g e [] l = eqb-true (f []) (g []) e
alike_no zero f g e (b ∷ a) l = absurd (omega (arith, l))
alike_no (suc d) f g e [] l = absurd (omega (arith, l))
alike_no (suc d) f g e (false ∷ a) l = alike_no d (side false f) (side false g) (both_left (alike d (side false f) (side false g)) (alike d (side true f) (side true g)) e) a (omega (arith, l))
alike_no (suc d) f g e (true ∷ a) l = alike_no d (side true f) (side true g) (both_right (alike d (side false f) (side false g)) (alike d (side true f) (side true g)) e) a (omega (arith, l))

pub alike_yes : (d : ℕ) (f g : List Bool → ℕ) → SameAnswers d f g → alike d f g ≡ true
unfolding alike
alike_yes zero f g h = eq-eqb (f []) (g []) (h [] refl)
alike_yes (suc d) f g h = both _ _ (alike_yes d (side false f) (side false g) (λ a l. h (false ∷ a) (omega (arith, l)))) (alike_yes d (side true f) (side true g) (λ a l. h (true ∷ a) (omega (arith, l))))

pub alike_false : (d : ℕ) (f g : List Bool → ℕ) → (SameAnswers d f g → ⊥) → alike d f g ≡ false
alike_false d f g n = by (alike d f g) refl
  where
    by : (b : Bool) → alike d f g ≡ b → alike d f g ≡ false
    by true e = absurd (n (alike_no d f g e))
    by false e = e

-- ---- where nothing is asked for
pub none_alike : (k d : ℕ) (f g : List Bool → ℕ) → alike d f g ≡ true → asks k d f g ≡ []
unfolding asks
none_alike zero d f g e = refl
none_alike (suc k) d f g e = ap (λ b. if_changed b (one_answer d f) ((ask_for 0 (children (slots d f)) ++ ask_for 1 (runs (slots d f))) ++ lists_of (λ v. asks k (d - 6) (slot d f v) (slot d g v)) 64)) e

pub none_uniform : (k d h : ℕ) (f g : List Bool → ℕ) → one_answer d f ≡ Some h → asks k d f g ≡ []
unfolding asks
none_uniform zero d h f g e = refl
none_uniform (suc k) d h f g e = ap (λ o. if_changed (alike d f g) o ((ask_for 0 (children (slots d f)) ++ ask_for 1 (runs (slots d f))) ++ lists_of (λ v. asks k (d - 6) (slot d f v) (slot d g v)) 64)) e ∙ by (alike d f g)
  where
    by : (b : Bool) → if_changed b (Some h) ((ask_for 0 (children (slots d f)) ++ ask_for 1 (runs (slots d f))) ++ lists_of (λ v. asks k (d - 6) (slot d f v) (slot d g v)) 64) ≡ []
    by true = refl
    by false = refl

pub asks_are : (k d : ℕ) (f g : List Bool → ℕ) → alike d f g ≡ false → one_answer d f ≡ None → asks (suc k) d f g ≡ (ask_for 0 (children (slots d f)) ++ ask_for 1 (runs (slots d f))) ++ lists_of (λ v. asks k (d - 6) (slot d f v) (slot d g v)) 64
unfolding asks
asks_are k d f g a o =
    ap (λ b. if_changed b (one_answer d f) ((ask_for 0 (children (slots d f)) ++ ask_for 1 (runs (slots d f))) ++ lists_of (λ v. asks k (d - 6) (slot d f v) (slot d g v)) 64)) a
    ∙ ap (λ x. if_changed false x ((ask_for 0 (children (slots d f)) ++ ask_for 1 (runs (slots d f))) ++ lists_of (λ v. asks k (d - 6) (slot d f v) (slot d g v)) 64)) o

-- ---- one after another
module _ (n l : ℕ) where
  pub runs_none : (s : Frees) → MeetsInTurn n l [] s s
  unfolding MeetsInTurn
  runs_none s = refl

  pub runs_append : (xs ys : List Ask) (s t u : Frees) → MeetsInTurn n l xs s t → MeetsInTurn n l ys t u → MeetsInTurn n l (xs ++ ys) s u
  unfolding MeetsInTurn
  runs_append [] ys s t u a b = subst (λ (x : Frees). MeetsInTurn n l ys x u) a b
  runs_append (x ∷ xs) ys s t u a b = (a.0, a.1, runs_append xs ys a.0 t u a.2 b)

  pub out_behind : (xs ys : List Ask) (s t : Frees) (e : Refusal) → MeetsInTurn n l xs s t → RunsOut n l ys t e → RunsOut n l (xs ++ ys) s e
  unfolding MeetsInTurn RunsOut
  out_behind [] ys s t e a b = subst (λ (x : Frees). RunsOut n l ys x e) a b
  out_behind (x ∷ xs) ys s t e a b = inr (a.0, a.1, out_behind xs ys a.0 t e a.2 b)

  pub out_before : (xs ys : List Ask) (s : Frees) (e : Refusal) → RunsOut n l xs s e → RunsOut n l (xs ++ ys) s e
  unfolding RunsOut
  out_before [] ys s e o = absurd o
  out_before (x ∷ xs) ys s e (inl r) = inl r
  out_before (x ∷ xs) ys s e (inr (u, m, o)) = inr (u, m, out_before xs ys u e o)

  -- the same said of a refusal that may be a want of memory
  pub is_out_behind : (xs ys : List Ask) (s t : Frees) (e : Refusal) → MeetsInTurn n l xs s t → IsOutOfBlocks n l ys t e → IsOutOfBlocks n l (xs ++ ys) s e
  is_out_behind xs ys s t refusal.Memory a o = tt
  is_out_behind xs ys s t (refusal.Nodes f) a o = out_behind xs ys s t (refusal.Nodes f) a o
  is_out_behind xs ys s t (refusal.Leaves f) a o = out_behind xs ys s t (refusal.Leaves f) a o

  pub is_out_before : (xs ys : List Ask) (s : Frees) (e : Refusal) → IsOutOfBlocks n l xs s e → IsOutOfBlocks n l (xs ++ ys) s e
  is_out_before xs ys s refusal.Memory o = tt
  is_out_before xs ys s (refusal.Nodes f) o = out_before xs ys s (refusal.Nodes f) o
  is_out_before xs ys s (refusal.Leaves f) o = out_before xs ys s (refusal.Leaves f) o

  -- ---- a node's own blocks
  pub nodes_met : (c : ℕ) (x y z : List Bool) → MeetsCount c n x y → MeetsInTurn n l (ask_for 0 c) (x, z) (y, z)
  unfolding MeetsInTurn
  nodes_met zero x y z m = ap (λ (v : List Bool). (v, z)) m
  nodes_met (suc c) x y z m = ((y, z), (m, refl), refl)

  pub leaves_met : (c : ℕ) (x y z : List Bool) → MeetsCount c l x y → MeetsInTurn n l (ask_for 1 c) (z, x) (z, y)
  unfolding MeetsInTurn
  leaves_met zero x y z m = ap (λ (v : List Bool). (z, v)) m
  leaves_met (suc c) x y z m = ((z, y), (m, refl), refl)

pub nodes_out : {T : Type 0} (l c : ℕ) (s : Space T) (z : List Bool) (e : Refused) → 0 < c → IsRefusal e c s → IsOutOfBlocks s.order l (ask_for 0 c) (s.free, z) (nodes_refusal e)
unfolding RunsOut
nodes_out l zero s z e h r = absurd (omega (arith, h))
nodes_out l (suc c) s z refused.Memory h r = tt
nodes_out l (suc c) s z (refused.Full f) h r = inl r

pub leaves_out : {T : Type 0} (n c : ℕ) (s : Space T) (z : List Bool) (e : Refused) → 0 < c → IsRefusal e c s → IsOutOfBlocks n s.order (ask_for 1 c) (z, s.free) (leaves_refusal e)
unfolding RunsOut
leaves_out n zero s z e h r = absurd (omega (arith, h))
leaves_out n (suc c) s z refused.Memory h r = tt
leaves_out n (suc c) s z (refused.Full f) h r = inl r

-- ---- the slots' asks
pub listed_split : (g : ℕ → List Ask) (v n : ℕ) → v < n → (rest : List Ask) × (lists_of g n ≡ lists_of g v ++ (g v ++ rest))
unfolding lists_of
listed_split g v zero l = absurd (omega (arith, l))
listed_split g v (suc n) l =
    elim (cases_eq v n) [
      | inl e ↦ ([], ap (λ i. lists_of g i ++ g i) (sym e) ∙ ap (λ (x : List Ask). lists_of g v ++ x) (sym (append-nil (g v))))
      | inr ne ↦ (let t = listed_split g v n (omega (arith, l, ne)) in (t.0 ++ g n, ap (λ (x : List Ask). x ++ g n) t.1 ∙ (append_assoc (lists_of g v) (g v ++ t.0) (g n) ∙ ap (λ (x : List Ask). lists_of g v ++ x) (append_assoc (g v) t.0 (g n)))))
    ]

pub listed_same : (g h : ℕ → List Ask) (n : ℕ) → ((u : ℕ) → u < n → g u ≡ h u) → lists_of g n ≡ lists_of h n
unfolding lists_of
listed_same g h zero e = refl
listed_same g h (suc n) e = ap (λ (x : List Ask). x ++ g n) (listed_same g h n (λ u l. e u (omega (arith, l)))) ∙ ap (λ (x : List Ask). lists_of h n ++ x) (e n (omega arith))
