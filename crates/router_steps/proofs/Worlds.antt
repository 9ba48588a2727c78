-- A world in which events do these turns, as it concerns a family.
use Rattle.std.proofs.Common.{◌≡◌, ℕ, zero, suc, List, [], ◌∷◌, Bool, true, false, cond, Option, Some, None, refl, sym, ap, ◌∙◌, subst}
use Rattle.std.specs.Prelude.{option_map}
use Rattle.std.specs.List.{AllByRecursion}
use Rattle.std.specs.Map.{keys_of}
use Rattle.table_model.specs.Address.{Address, Prefix, IsPrefix, same_family, same_prefix}
use Rattle.table_model.specs.Order.{prefix_cmp}
use Rattle.table_model.specs.declared.family.Family.{Family}
use Rattle.table_model.proofs.SamePrefix.{same_family_itself}
use Rattle.table_model.specs.Table.{Table, lpm}
use Rattle.table_model.specs.Entries.{Entries, match_in, of_family}
use Rattle.route_model.proofs.Keyed.{all_put, all_cut}
use Rattle.kept_model.specs.Patched.{with_route}
use Rattle.kept_model.proofs.Outside.{routes_outside}
use Rattle.fib_addr.specs.Answers.{all_answers}
use Rattle.poptrie_set.specs.Prepares.{AgreeOutside}
use Rattle.step_script.specs.Machine.{World, changes_family}
use Rattle.router_steps.proofs.Turns.{Turn, AreTurns, turn_at, turned, entries_in}
use Rattle.router_steps.specs.Paused.{IsWorld}

-- ---- answers are told by the family's entries

of_only : (f : Family) (E : Entries) → of_family f (entries_in f E) ≡ of_family f E
of_only f [] = refl
of_only f (e ∷ E) = by_test (same_family f e.0.family) refl (of_only f E)
  where
    by_test : (b : Bool) → same_family f e.0.family ≡ b → of_family f (entries_in f E) ≡ of_family f E → of_family f (cond b (e ∷ entries_in f E) (entries_in f E)) ≡ cond b (record { prefix = e.0.bits; hop = e.1 } ∷ of_family f E) (of_family f E)
    by_test true t more = ap (λ b. cond b (record { prefix = e.0.bits; hop = e.1 } ∷ of_family f (entries_in f E)) (of_family f (entries_in f E))) t ∙ ap (λ (T : Table). record { prefix = e.0.bits; hop = e.1 } ∷ T) more
    by_test false t more = more

pub answers_of : (f : Family) (L : Entries) → all_answers f (entries_in f L) ≡ all_answers f L
answers_of f L = ap {B = List Bool → ℕ} (λ T a. lpm T a 0) (of_only f L)

match_of : (a : Address) (L : Entries) → match_in (entries_in a.family L) a ≡ match_in L a
match_of a L = ap (λ (T : Table). lpm T a.bits 0) (of_only a.family L)

-- ---- what a turn does to a family's entries

turned_elsewhere : (f : Family) (t : Turn) (L : Entries) → changes_family f (option_map (λ x. x.0) t) ≡ false → turned f t L ≡ L
turned_elsewhere f None L e = refl
turned_elsewhere f (Some t) L e = ap (λ (b : Bool). cond b (with_route t.0 t.1 L) L) e

turned_here : (f : Family) (t : Turn) (p : Prefix) (h : ℕ) (L : Entries) → t ≡ Some (p, h) → p.family ≡ f → turned f t L ≡ with_route p h L
turned_here f t p h L e fam = ap (λ (x : Turn). turned f x L) e ∙ ap (λ (b : Bool). cond b (with_route p h L) L) (ap (same_family f) fam ∙ same_family_itself f)

-- a change at a prefix is a turn there
turn_of : (t : Turn) (p : Prefix) → option_map (λ x. x.0) t ≡ Some p → (h : ℕ) × (t ≡ Some (p, h))
turn_of None p e = absurd (cc)
turn_of (Some t) p e = (t.1, ap (λ (o : Option Prefix). option_map (λ (q : Prefix). (q, t.1)) o) e)

all_routed : (p : Prefix) (h : ℕ) (R : Entries) → IsPrefix p → AllByRecursion IsPrefix (keys_of R) → AllByRecursion IsPrefix (keys_of (with_route p h R))
all_routed p zero R x r = all_cut (same_prefix p) IsPrefix R r
all_routed p (suc h) R x r = all_put prefix_cmp IsPrefix R p (suc h) r x

all_turned : (f : Family) (t : Turn) (L : Entries) → ((p : Prefix) (h : ℕ) → t ≡ Some (p, h) → IsPrefix p) → AllByRecursion IsPrefix (keys_of L) → AllByRecursion IsPrefix (keys_of (turned f t L))
all_turned f None L x all = all
all_turned f (Some t) L x all = by_test (same_family f t.0.family)
  where
    by_test : (b : Bool) → AllByRecursion IsPrefix (keys_of (cond b (with_route t.0 t.1 L) L))
    by_test true = all_routed t.0 t.1 L (x t.0 t.1 refl) all
    by_test false = all

module _ (w : World) (turns : List Turn) (are : AreTurns w turns) (proper : (n : ℕ) (p : Prefix) (h : ℕ) → turn_at n turns ≡ Some (p, h) → IsPrefix p) where
  -- the turn of the next event after n
  abbrev at : ℕ → Turn
  at n = turn_at n turns

  elsewhere_next : (f : Family) (n : ℕ) → changes_family f (w.changed n) ≡ false → entries_in f (w.routes (suc n)) ≡ entries_in f (w.routes n)
  elsewhere_next f n e = (are.each n).routes f ∙ turned_elsewhere f (at n) (entries_in f (w.routes n)) (ap (changes_family f) (sym (are.each n).changed) ∙ e)

  here_next : (f : Family) (n : ℕ) (p : Prefix) (h : ℕ) → turn_at n turns ≡ Some (p, h) → p.family ≡ f → entries_in f (w.routes (suc n)) ≡ with_route p h (entries_in f (w.routes n))
  here_next f n p h e fam = (are.each n).routes f ∙ turned_here f (at n) p h (entries_in f (w.routes n)) e fam

  module _ (f : Family) (first : AllByRecursion IsPrefix (keys_of (entries_in f (w.routes 0)))) where
    all_at : (n : ℕ) → AllByRecursion IsPrefix (keys_of (entries_in f (w.routes n)))
    all_at zero = first
    all_at (suc n) = subst (λ (E : Entries). AllByRecursion IsPrefix (keys_of E)) (sym ((are.each n).routes f)) (all_turned f (at n) (entries_in f (w.routes n)) (proper n) (all_at n))

    within : (n : ℕ) (p : Prefix) → w.changed n ≡ Some p → p.family ≡ f → AgreeOutside p (w.routes n) (w.routes (suc n))
    within n p e fam a is same out =
        let t = turn_of (at n) p (sym (are.each n).changed ∙ e) in
        let own : a.family ≡ f = same ∙ fam in
        let all = subst (λ (g : Family). AllByRecursion IsPrefix (keys_of (entries_in g (w.routes n)))) (sym own) (all_at n) in
        sym (match_of a (w.routes (suc n)))
        ∙ (ap (λ (E : Entries). match_in E a) (here_next a.family n p t.0 t.1 (sym same))
        ∙ (routes_outside p t.0 (entries_in a.family (w.routes n)) a (proper n p t.0 t.1) all out ∙ match_of a (w.routes n)))

    pub is_world : IsWorld w f
    is_world = record {
      stays = λ n e. sym (answers_of f (w.routes (suc n))) ∙ (ap (all_answers f) (elsewhere_next f n e) ∙ answers_of f (w.routes n));
      changes = within;
    }
