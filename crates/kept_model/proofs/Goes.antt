-- Changes in steady order, one after another.
use Rattle.std.proofs.Common.{◌≡◌, ℕ, List, [], ◌∷◌, ◌++◌, Bool, true, false, cond, Option, Some, None, nat_eq, refl, sym, ap, subst, ◌∙◌, inl, inr}
use Rattle.std.specs.Prelude.{◌⊎◌, map}
use Rattle.std.specs.List.{AllByRecursion}
use Rattle.std.specs.List.Sorted.{IsPermutation}
use Rattle.std.specs.Option.{option_and_then}
use Rattle.std.proofs.lemmas.Bool.{eq-eqb}
use Rattle.table_model.specs.Address.{Address, Prefix, IsAddress, IsPrefix, same_prefix}
use Rattle.table_model.specs.Entries.{Entries, AlikeInBoth, in_order, match_in}
use Rattle.table_model.specs.Changes.{Change, Replace, after_change, after_changes}
use Rattle.route_model.proofs.Keyed.{same_entries}
use Rattle.route_model.proofs.Places.{prefix_key}
use Rattle.kept_model.specs.Between.{AreEntries, place_of, entry_hop_at, change_at, between}
use Rattle.kept_model.proofs.Held.{Placed, hop_in_order, in_order_placed}
use Rattle.kept_model.proofs.Places.{at, each_at}
use Rattle.kept_model.proofs.Alike.{all_between, placed_are}
use Rattle.table_model.proofs.Sums.{in_order_again}
use Rattle.kept_model.specs.Steady.{in_steady_order, AnswerSteadily, LeadSteadily}
use Rattle.kept_model.specs.Turns.{AreInTurn}
use Rattle.kept_model.proofs.Turns.{ArePlaced, filter_steady, steady_in_turn, all_steady, steady_same}
use Rattle.kept_model.proofs.Steps.{IsTold, told, Made, made, IsPending, one_step}

-- a change is made, each address keeps its answer or gets that of S, and the rest goes on
pub record GoesOn (rest : Entries → Type 0) (c : Change) (M S : Entries) : Type 0 where
  pub table : Entries
  pub after : after_change c M ≡ Some table
  pub keeps : (a : Address) → IsAddress a → (match_in table a ≡ match_in M a) ⊎ (match_in table a ≡ match_in S a)
  pub more : rest table

-- the changes lead from M to U so
abbrev pub Goes : List Change → Entries → Entries → Entries → Type 0
Goes [] M U S = M ≡ U
Goes (c ∷ cs) M U S = GoesOn (λ N. Goes cs N U S) c M S

nothing : (p : Prefix) (x y : Option ℕ) → [] ≡ change_at p x y → x ≡ y
nothing p x y e = by_case (told p x y)
  where
    by_case : (x ≡ y) ⊎ IsTold p x y → x ≡ y
    by_case (inl i) = i
    by_case (inr t) = let z : [] ≡ t.change ∷ [] = e ∙ t.is in absurd cc

same_already : (p : Prefix) (x y : Option ℕ) → x ≡ y → change_at p x y ≡ []
same_already p None None e = refl
same_already p None (Some h) e = cc
same_already p (Some g) None e = cc
same_already p (Some g) (Some h) e = let i : g ≡ h = cc in ap (λ b. cond b [] (Replace p h ∷ [])) (eq-eqb g h i)

-- at one place stands one change at most
alone : (p : Prefix) (x y : Option ℕ) (c : Change) (cs : List Change) → c ∷ cs ≡ change_at p x y → (change_at p x y ≡ c ∷ []) × (cs ≡ [])
alone p x y c cs e = by_case (told p x y)
  where
    by_case : (x ≡ y) ⊎ IsTold p x y → (change_at p x y ≡ c ∷ []) × (cs ≡ [])
    by_case (inl i) = let z : c ∷ cs ≡ [] = e ∙ same_already p x y i in absurd cc
    by_case (inr t) =
        let z : c ∷ cs ≡ t.change ∷ [] = e ∙ t.is in
        let i : c ≡ t.change = cc in
        let j : cs ≡ [] = cc in
        (t.is ∙ ap (λ d. d ∷ []) (sym i), j)

left_pending : (c : Change) (cs : List Change) (M U : Entries) (s : Made c M U) → IsPending (c ∷ cs) M U → at (place_of c) cs ≡ [] → IsPending cs s.table U
left_pending c cs M U s p none q = by_test (same_prefix q (place_of c)) refl
  where
    by_test : (b : Bool) → same_prefix q (place_of c) ≡ b → at q cs ≡ change_at q (entry_hop_at q s.table) (entry_hop_at q U)
    by_test true e =
        let i : q ≡ place_of c = prefix_key.same q (place_of c) e in
        ap (λ r. at r cs) i ∙ (none
        ∙ sym (same_already q (entry_hop_at q s.table) (entry_hop_at q U) (s.hops q ∙ (ap (λ b. cond b (entry_hop_at (place_of c) U) (entry_hop_at q M)) e ∙ ap (λ r. entry_hop_at r U) (sym i)))))
    by_test false e =
        sym (ap (λ b. cond b (c ∷ at q cs) (at q cs)) e) ∙ (p q ∙ ap (λ o. change_at q o (entry_hop_at q U)) (sym (s.hops q ∙ ap (λ b. cond b (entry_hop_at (place_of c) U) (entry_hop_at q M)) e)))

pub goes : (cs : List Change) (M U : Entries) → AreInTurn cs → IsPending cs M U → ArePlaced cs → Placed M → Placed U → Goes cs M U U
goes [] M U s p x m u = same_entries prefix_key M U m.1 u.1 m.0 u.0 (λ q. nothing q (entry_hop_at q M) (entry_hop_at q U) (p q))
goes (c ∷ cs) M U s p x m u =
    let q = place_of c in
    let here : c ∷ at q cs ≡ change_at q (entry_hop_at q M) (entry_hop_at q U) = sym (ap (λ b. cond b (c ∷ at q cs) (at q cs)) (prefix_key.itself q)) ∙ p q in
    let one = alone q (entry_hop_at q M) (entry_hop_at q U) c (at q cs) here in
    let step : Made c M U = made c M U m x.0 one.0 in
    record {
      table = step.table;
      after = step.after;
      keeps = one_step c cs M U step s p;
      more = goes cs step.table U s.1 (left_pending c cs M U step p one.1) x.1 step.placed u;
    }

-- ---- what follows of changes that go on so

pub goes_sum : (cs : List Change) (M U S : Entries) → Goes cs M U S → after_changes cs M ≡ Some U
goes_sum [] M U S g = ap Some g
goes_sum (c ∷ cs) M U S g = ap (option_and_then (after_changes cs)) g.after ∙ goes_sum cs g.table U S g.more

-- where some of the changes lead
record Led (left : List Change) (M N U S : Entries) : Type 0 where
  goes : Goes left N U S
  keeps : (a : Address) → IsAddress a → (match_in N a ≡ match_in M a) ⊎ (match_in N a ≡ match_in S a)

led : (done left : List Change) (M N U S : Entries) → Goes (done ++ left) M U S → after_changes done M ≡ Some N → Led left M N U S
led [] left M N U S g e = let i : M ≡ N = cc in record { goes = subst (λ (T : Entries). Goes left T U S) i g; keeps = λ a x. inl (ap (λ T. match_in T a) (sym i)) }
led (c ∷ done) left M N U S g e =
    let rest : Led left g.table N U S = led done left g.table N U S g.more (sym (ap (option_and_then (after_changes done)) g.after) ∙ e) in
    record { goes = rest.goes; keeps = λ a x. both a (rest.keeps a x) (g.keeps a x) }
  where
    both : (a : Address) → (match_in N a ≡ match_in g.table a) ⊎ (match_in N a ≡ match_in S a) → (match_in g.table a ≡ match_in M a) ⊎ (match_in g.table a ≡ match_in S a) → (match_in N a ≡ match_in M a) ⊎ (match_in N a ≡ match_in S a)
    both a (inl i) (inl j) = inl (i ∙ j)
    both a (inl i) (inr j) = inr (i ∙ j)
    both a (inr i) j = inr i

after_more : (cs ds : List Change) (L M : Entries) → after_changes cs L ≡ Some M → after_changes (cs ++ ds) L ≡ after_changes ds M
after_more [] ds L M e = let i : L ≡ M = cc in ap (after_changes ds) i
after_more (c ∷ cs) ds L M e = by_first (after_change c L) e (λ N. after_more cs ds N M)
  where
    by_first : (o : Option Entries) → option_and_then (after_changes cs) o ≡ Some M → ((N : Entries) → after_changes cs N ≡ Some M → after_changes (cs ++ ds) N ≡ after_changes ds M) → option_and_then (after_changes (cs ++ ds)) o ≡ after_changes ds M
    by_first None e ih = cc
    by_first (Some N) e ih = ih N e

-- where T answers as R
pub answer_steadily : (cs : List Change) (T U R S : Entries) → Goes cs T U S → AlikeInBoth R T → AnswerSteadily cs T R S
answer_steadily cs T U R S g alike = record {
  either = λ done left M a e f x. as_before M a (alike a x) ((led done left T M U S (subst (λ (ds : List Change). Goes ds T U S) e g) f).keeps a x);
  stays = λ done more left M N a e f h x i.
      let first : Led (more ++ left) T M U S = led done (more ++ left) T M U S (subst (λ (ds : List Change). Goes ds T U S) e g) f in
      let second : Led left M N U S = led more left M N U S first.goes (sym (after_more done more T M f) ∙ h) in
      kept M N a i (second.keeps a x);
}
  where
    as_before : (M : Entries) (a : Address) → match_in R a ≡ match_in T a → (match_in M a ≡ match_in T a) ⊎ (match_in M a ≡ match_in S a) → (match_in M a ≡ match_in R a) ⊎ (match_in M a ≡ match_in S a)
    as_before M a i (inl j) = inl (j ∙ sym i)
    as_before M a i (inr j) = inr j

    kept : (M N : Entries) (a : Address) → match_in M a ≡ match_in S a → (match_in N a ≡ match_in M a) ⊎ (match_in N a ≡ match_in S a) → match_in N a ≡ match_in S a
    kept M N a i (inl j) = j ∙ i
    kept M N a i (inr j) = j

pub steadily : (cs : List Change) (T U : Entries) → Goes cs T U U → LeadSteadily cs T U
steadily cs T U g = record { sum = goes_sum cs T U U g; answers = answer_steadily cs T U T U g (λ a x. refl) }

-- ---- changes after changes

-- the same answers by another table
pub goes_to : (cs : List Change) (M U S W : Entries) → AlikeInBoth W S → Goes cs M U S → Goes cs M U W
goes_to [] M U S W alike g = g
goes_to (c ∷ cs) M U S W alike g = record { table = g.table; after = g.after; keeps = λ a x. by_case a (alike a x) (g.keeps a x); more = goes_to cs g.table U S W alike g.more }
  where
    by_case : (a : Address) → match_in W a ≡ match_in S a → (match_in g.table a ≡ match_in M a) ⊎ (match_in g.table a ≡ match_in S a) → (match_in g.table a ≡ match_in M a) ⊎ (match_in g.table a ≡ match_in W a)
    by_case a i (inl j) = inl j
    by_case a i (inr j) = inr (j ∙ sym i)

pub goes_both : (cs ds : List Change) (M U V S : Entries) → Goes cs M U S → Goes ds U V S → Goes (cs ++ ds) M V S
goes_both [] ds M U V S g h = subst (λ (T : Entries). Goes ds T V S) (sym g) h
goes_both (c ∷ cs) ds M U V S g h = record { table = g.table; after = g.after; keeps = g.keeps; more = goes_both cs ds g.table U V S g.more h }

-- ---- the changes between two tables

pub places_are : (cs : List Change) → AllByRecursion IsPrefix (map place_of cs) → ArePlaced cs
places_are [] a = tt
places_are (c ∷ cs) a = (a.0, places_are cs a.1)

-- what makes one hop another is in turn
told_in_turn : (p : Prefix) (x y : Option ℕ) → AreInTurn (change_at p x y)
told_in_turn p None None = tt
told_in_turn p None (Some h) = (tt, tt)
told_in_turn p (Some g) None = (tt, tt)
told_in_turn p (Some g) (Some h) = by_test (nat_eq g h)
  where
    by_test : (b : Bool) → AreInTurn (cond b [] (Replace p h ∷ []))
    by_test true = tt
    by_test false = (tt, tt)

-- put in steady order, they go so
pub goes_between : (T U : Entries) → AreEntries T → AreEntries U → Goes (in_steady_order (between T U)) (in_order T) (in_order U) (in_order U)
goes_between T U t u =
    let cs = between T U in
    let places : ArePlaced cs = places_are cs (all_between IsPrefix T U t.0 u.0) in
    goes (in_steady_order cs) (in_order T) (in_order U) (steady_in_turn cs places) (λ q. there q places) (all_steady (λ c. IsPrefix (place_of c)) cs places) (in_order_placed T t.0) (in_order_placed U u.0)
  where
    there : (q : Prefix) → ArePlaced (between T U) → at q (in_steady_order (between T U)) ≡ change_at q (entry_hop_at q (in_order T)) (entry_hop_at q (in_order U))
    there q places =
        let e : at q (between T U) ≡ change_at q (entry_hop_at q T) (entry_hop_at q U) = each_at T U q t u in
        filter_steady (λ c. same_prefix q (place_of c)) (between T U) (subst AreInTurn (sym e) (told_in_turn q (entry_hop_at q T) (entry_hop_at q U))) places
        ∙ (e ∙ (ap (λ o. change_at q o (entry_hop_at q U)) (sym (hop_in_order q T t)) ∙ ap (change_at q (entry_hop_at q (in_order T))) (sym (hop_in_order q U u))))

pub steady : (T U : Entries) → AreEntries T → AreEntries U → LeadSteadily (in_steady_order (between T U)) (in_order T) (in_order U)
steady T U t u = steadily (in_steady_order (between T U)) (in_order T) (in_order U) (goes_between T U t u)

pub same_changes : (cs : List Change) → AllByRecursion IsPrefix (map place_of cs) → IsPermutation cs (in_steady_order cs)
same_changes cs a = steady_same cs (places_are cs a)

pub changes_in_turn : (cs : List Change) → AllByRecursion IsPrefix (map place_of cs) → AreInTurn (in_steady_order cs)
changes_in_turn cs a = steady_in_turn cs (places_are cs a)

-- where both answer alike, no answer changes
pub quiet : (T U : Entries) → AreEntries T → AreEntries U → AlikeInBoth (in_order T) (in_order U) → (done left : List Change) (M : Entries) → in_steady_order (between T U) ≡ done ++ left → after_changes done (in_order T) ≡ Some M → AlikeInBoth (in_order T) M
quiet T U t u alike done left M e f = λ a x. by_case a (alike a x) ((steady T U t u).answers.either done left M a e f x)
  where
    by_case : (a : Address) → match_in (in_order T) a ≡ match_in (in_order U) a → (match_in M a ≡ match_in (in_order T) a) ⊎ (match_in M a ≡ match_in (in_order U) a) → match_in (in_order T) a ≡ match_in M a
    by_case a i (inl j) = sym j
    by_case a i (inr j) = i ∙ sym j

-- tables that are in order
pub steady_placed : (T U : Entries) → Placed T → Placed U → after_changes (in_steady_order (between T U)) T ≡ Some U
steady_placed T U t u =
    ap (after_changes (in_steady_order (between T U))) (sym (in_order_again T t.1)) ∙ ((steady T U (placed_are T t) (placed_are U u)).sum ∙ ap Some (in_order_again U u.1))
