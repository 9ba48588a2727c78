-- The first of changes that are in turn: each address keeps its answer, or gets the one that it is to have in the end.
use Rattle.std.proofs.Common.{◌≡◌, ℕ, zero, suc, ◌≤◌, ◌<◌, List, [], ◌∷◌, Bool, true, false, cond, Option, Some, None, nat_eq, length, take, refl, sym, ap, subst, ◌∙◌, arith, inl, inr}
use Rattle.std.specs.Prelude.{is_some, ◌⊎◌}
use Rattle.std.specs.List.{AllByRecursion, filter}
use Rattle.std.specs.Map.{remove_entry}
use Rattle.std.proofs.lemmas.Bool.{cases_lt, eqb-true, eq-eqb}
use Rattle.table_model.specs.Address.{Address, Prefix, IsAddress, IsPrefix, first_bits, same_prefix}
use Rattle.table_model.specs.Order.{prefix_cmp}
use Rattle.table_model.specs.declared.family.Family.{Family}
use Rattle.table_model.specs.Entries.{Entries, with_entry, match_in}
use Rattle.table_model.specs.Changes.{Change, Add, Replace, Remove, after_change}
use Rattle.route_model.proofs.Keyed.{all_put, sorted_put, lookup-put, all_cut, sorted_cut, lookup-cut}
use Rattle.route_model.proofs.Places.{prefix_key}
use Rattle.kept_model.specs.Between.{place_of, entry_hop_at, change_at}
use Rattle.kept_model.proofs.Held.{Placed}
use Rattle.kept_model.proofs.Places.{at}
use Rattle.kept_model.specs.Turns.{set_turn, remove_turn, turn_of, AreInTurn}
use Rattle.kept_model.proofs.Walks.{up_to, hops_of, match_walk, same_walk, IsStep, past}

-- ---- what makes one hop another

-- a change makes the one hop the other, and whether it sets or removes
pub record IsTold (r : Prefix) (x y : Option ℕ) : Type 0 where
  pub change : Change
  pub is : change_at r x y ≡ change ∷ []
  pub turn : (turn_of change ≡ set_turn r.family (length r.bits)) ⊎ ((turn_of change ≡ remove_turn r.family (length r.bits)) × (y ≡ None))

pub told : (r : Prefix) (x y : Option ℕ) → (x ≡ y) ⊎ IsTold r x y
told r None None = inl refl
told r None (Some h) = inr (record { change = Add r h; is = refl; turn = inl refl })
told r (Some g) None = inr (record { change = Remove r; is = refl; turn = inr (refl, refl) })
told r (Some g) (Some h) = by_test (nat_eq g h) refl
  where
    by_test : (b : Bool) → nat_eq g h ≡ b → (Some g ≡ Some h) ⊎ IsTold r (Some g) (Some h)
    by_test true e = inl (ap Some (eqb-true g h e))
    by_test false e = inr (record { change = Replace r h; is = ap (λ b. cond b [] (Replace r h ∷ [])) e; turn = inl refl })

adds : (p : Prefix) (h : ℕ) (x y : Option ℕ) → change_at p x y ≡ Add p h ∷ [] → (x ≡ None) × (y ≡ Some h)
adds p h None None e = cc
adds p h None (Some k) e = (refl, cc)
adds p h (Some g) None e = cc
adds p h (Some g) (Some k) e = by_test (nat_eq g k) e
  where
    by_test : (b : Bool) → cond b [] (Replace p k ∷ []) ≡ Add p h ∷ [] → (Some g ≡ None) × (Some k ≡ Some h)
    by_test true e = cc
    by_test false e = cc

replaces : (p : Prefix) (h : ℕ) (x y : Option ℕ) → change_at p x y ≡ Replace p h ∷ [] → (is_some x ≡ true) × (y ≡ Some h)
replaces p h None None e = cc
replaces p h None (Some k) e = cc
replaces p h (Some g) None e = cc
replaces p h (Some g) (Some k) e = (refl, by_test (nat_eq g k) e)
  where
    by_test : (b : Bool) → cond b [] (Replace p k ∷ []) ≡ Replace p h ∷ [] → Some k ≡ Some h
    by_test true e = cc
    by_test false e = cc

removes : (p : Prefix) (x y : Option ℕ) → change_at p x y ≡ Remove p ∷ [] → (is_some x ≡ true) × (y ≡ None)
removes p None None e = cc
removes p None (Some k) e = cc
removes p (Some g) None e = (refl, refl)
removes p (Some g) (Some k) e = by_test (nat_eq g k) e
  where
    by_test : (b : Bool) → cond b [] (Replace p k ∷ []) ≡ Remove p ∷ [] → (is_some (Some g) ≡ true) × (Some k ≡ None)
    by_test true e = cc
    by_test false e = cc

-- ---- the table after a change

pub record Made (c : Change) (M U : Entries) : Type 0 where
  pub table : Entries
  pub after : after_change c M ≡ Some table
  pub placed : Placed table
  pub hops : (q : Prefix) → entry_hop_at q table ≡ cond (same_prefix q (place_of c)) (entry_hop_at (place_of c) U) (entry_hop_at q M)
  pub turn : ((turn_of c ≡ set_turn (place_of c).family (length (place_of c).bits)) × (is_some (entry_hop_at (place_of c) U) ≡ true)) ⊎ (turn_of c ≡ remove_turn (place_of c).family (length (place_of c).bits))

pub made : (c : Change) (M U : Entries) → Placed M → IsPrefix (place_of c) → change_at (place_of c) (entry_hop_at (place_of c) M) (entry_hop_at (place_of c) U) ≡ c ∷ [] → Made c M U
made (Add p h) M U m x e =
    let w = adds p h (entry_hop_at p M) (entry_hop_at p U) e in
    record {
      table = with_entry M (p, h);
      after = ap (λ o. cond (is_some o) None (Some (with_entry M (p, h)))) w.0;
      placed = (all_put prefix_cmp IsPrefix M p h m.0 x, sorted_put prefix_key M p h m.1);
      hops = λ q. lookup-put prefix_key q M p h m.0 x ∙ ap (λ o. cond (same_prefix q p) o (entry_hop_at q M)) (sym w.1);
      turn = inl (refl, ap is_some w.1);
    }
made (Replace p h) M U m x e =
    let w = replaces p h (entry_hop_at p M) (entry_hop_at p U) e in
    record {
      table = with_entry M (p, h);
      after = ap (λ b. cond b (Some (with_entry M (p, h))) None) w.0;
      placed = (all_put prefix_cmp IsPrefix M p h m.0 x, sorted_put prefix_key M p h m.1);
      hops = λ q. lookup-put prefix_key q M p h m.0 x ∙ ap (λ o. cond (same_prefix q p) o (entry_hop_at q M)) (sym w.1);
      turn = inl (refl, ap is_some w.1);
    }
made (Remove p) M U m x e =
    let w = removes p (entry_hop_at p M) (entry_hop_at p U) e in
    record {
      table = remove_entry (same_prefix p) M;
      after = ap (λ b. cond b (Some (remove_entry (same_prefix p) M)) None) w.0;
      placed = (all_cut (same_prefix p) IsPrefix M m.0, sorted_cut prefix_cmp (same_prefix p) M m.1);
      hops = λ q. lookup-cut prefix_key q p M m.1 ∙ ap (λ o. cond (same_prefix q p) o (entry_hop_at q M)) (sym w.1);
      turn = inr refl;
    }

-- ---- what is pending

-- at each prefix stands what makes M's hop there U's
abbrev pub IsPending : List Change → Entries → Entries → Type 0
IsPending cs M U = (q : Prefix) → at q cs ≡ change_at q (entry_hop_at q M) (entry_hop_at q U)

-- of changes that are in turn, one that passes a test isn't before the first
later : (c d : Change) (cs : List Change) (t : Change → Bool) → AllByRecursion (λ x. turn_of c ≤ turn_of x) cs → filter t cs ≡ d ∷ [] → turn_of c ≤ turn_of d
later c d [] t a e = cc
later c d (x ∷ cs) t a e = by_test (t x) e (later c d cs t a.1)
  where
    by_test : (b : Bool) → cond b (x ∷ filter t cs) (filter t cs) ≡ d ∷ [] → (filter t cs ≡ d ∷ [] → turn_of c ≤ turn_of d) → turn_of c ≤ turn_of d
    by_test true e ih = let i : x ≡ d = cc in subst (λ z. turn_of c ≤ turn_of z) i a.0
    by_test false e ih = ih e

not_first : (c d : Change) (cs : List Change) (t : Change → Bool) → AreInTurn (c ∷ cs) → filter t (c ∷ cs) ≡ d ∷ [] → turn_of c ≤ turn_of d
not_first c d cs t s e = later c d (c ∷ cs) t (omega arith, s.0) e

-- the hops differ only where a change that isn't before the first makes them one
pending : (c : Change) (cs : List Change) (M U : Entries) (r : Prefix) → AreInTurn (c ∷ cs) → IsPending (c ∷ cs) M U
    → (entry_hop_at r M ≡ entry_hop_at r U) ⊎ ((turn_of c ≤ set_turn r.family (length r.bits)) ⊎ ((turn_of c ≤ remove_turn r.family (length r.bits)) × (entry_hop_at r U ≡ None)))
pending c cs M U r s p = by_case (told r (entry_hop_at r M) (entry_hop_at r U))
  where
    by_case : (entry_hop_at r M ≡ entry_hop_at r U) ⊎ IsTold r (entry_hop_at r M) (entry_hop_at r U) → (entry_hop_at r M ≡ entry_hop_at r U) ⊎ ((turn_of c ≤ set_turn r.family (length r.bits)) ⊎ ((turn_of c ≤ remove_turn r.family (length r.bits)) × (entry_hop_at r U ≡ None)))
    by_case (inl e) = inl e
    by_case (inr t) = inr (by_turn t.turn)
      where
        l : turn_of c ≤ turn_of t.change
        l = not_first c t.change cs (λ x. same_prefix r (place_of x)) s (p r ∙ t.is)

        by_turn : (turn_of t.change ≡ set_turn r.family (length r.bits)) ⊎ ((turn_of t.change ≡ remove_turn r.family (length r.bits)) × (entry_hop_at r U ≡ None)) → (turn_of c ≤ set_turn r.family (length r.bits)) ⊎ ((turn_of c ≤ remove_turn r.family (length r.bits)) × (entry_hop_at r U ≡ None))
        by_turn (inl e) = inl (omega (arith, l, e))
        by_turn (inr e) = inr (omega (arith, l, e.0), e.1)

-- ---- one step

length_first : (n : ℕ) (bits : List Bool) → n ≤ length bits → length (take n bits) ≡ n
length_first zero bits l = refl
length_first (suc n) [] l = absurd (omega (arith, l))
length_first (suc n) (b ∷ bits) l = ap suc (length_first n bits (omega (arith, l)))

other_place : (a : Address) (n : ℕ) (q : Prefix) → n ≤ length a.bits → (n ≡ length q.bits → ⊥) → same_prefix (first_bits n a) q ≡ false
other_place a n q l d = by_test (same_prefix (first_bits n a) q) refl
  where
    by_test : (b : Bool) → same_prefix (first_bits n a) q ≡ b → b ≡ false
    by_test true t =
        let e : length (take n a.bits) ≡ length q.bits = ap (λ (r : Prefix). length r.bits) (prefix_key.same (first_bits n a) q t) in
        absurd (d (sym (length_first n a.bits l) ∙ e))
    by_test false t = refl

pub one_step : (c : Change) (cs : List Change) (M U : Entries) (s : Made c M U) → AreInTurn (c ∷ cs) → IsPending (c ∷ cs) M U → (a : Address) → IsAddress a
    → (match_in s.table a ≡ match_in M a) ⊎ (match_in s.table a ≡ match_in U a)
one_step c cs M U s t p a x =
    elim (cases_lt w k) [
      | inl lt ↦ unmoved (λ n l. other_place a n (place_of c) l (λ e. absurd (omega (arith, l, e, lt))))
      | inr ge ↦ by_test (same_prefix (first_bits k a) (place_of c)) refl (omega (arith, ge))
    ]
  where
    k : ℕ
    k = length (place_of c).bits

    w : ℕ
    w = length a.bits

    unmoved : ((n : ℕ) → n ≤ w → same_prefix (first_bits n a) (place_of c) ≡ false) → (match_in s.table a ≡ match_in M a) ⊎ (match_in s.table a ≡ match_in U a)
    unmoved h =
        inl (match_walk s.table a
        ∙ (same_walk w (hops_of s.table a) (hops_of M a) 0 (λ n l. s.hops (first_bits n a) ∙ ap (λ b. cond b (entry_hop_at (place_of c) U) (hops_of M a n)) (h n l)) ∙ sym (match_walk M a)))

    longer : (place_of c).family ≡ a.family → (n : ℕ) → n ≤ w → k < n → (hops_of M a n ≡ hops_of U a n) ⊎ (hops_of U a n ≡ None)
    longer g n l lt = by_case (pending c cs M U (first_bits n a) t p)
      where
        size : length (take n a.bits) ≡ n
        size = length_first n a.bits l

        by_case : (hops_of M a n ≡ hops_of U a n) ⊎ ((turn_of c ≤ set_turn a.family (length (take n a.bits))) ⊎ ((turn_of c ≤ remove_turn a.family (length (take n a.bits))) × (hops_of U a n ≡ None))) → (hops_of M a n ≡ hops_of U a n) ⊎ (hops_of U a n ≡ None)
        by_case (inl e) = inl e
        by_case (inr (inr e)) = inr e.1
        by_case (inr (inl e)) = absurd (by_turn s.turn)
          where
            by_turn : ((turn_of c ≡ set_turn (place_of c).family k) × (is_some (entry_hop_at (place_of c) U) ≡ true)) ⊎ (turn_of c ≡ remove_turn (place_of c).family k) → ⊥
            by_turn (inl i) = let j : turn_of c ≡ set_turn a.family k = i.0 ∙ ap (λ (f : Family). set_turn f k) g in absurd (omega (arith, e, j, size, lt, l, x))
            by_turn (inr i) = let j : turn_of c ≡ remove_turn a.family k = i ∙ ap (λ (f : Family). remove_turn f k) g in absurd (omega (arith, e, j, size, lt, l, x))

    shorter : (place_of c).family ≡ a.family → (turn_of c ≡ remove_turn (place_of c).family k) → k ≤ w → (n : ℕ) → n < k → hops_of M a n ≡ hops_of U a n
    shorter g i u n lt = by_case (pending c cs M U (first_bits n a) t p)
      where
        size : length (take n a.bits) ≡ n
        size = length_first n a.bits (omega (arith, u, lt))

        by_case : (hops_of M a n ≡ hops_of U a n) ⊎ ((turn_of c ≤ set_turn a.family (length (take n a.bits))) ⊎ ((turn_of c ≤ remove_turn a.family (length (take n a.bits))) × (hops_of U a n ≡ None))) → hops_of M a n ≡ hops_of U a n
        by_case (inl e) = e
        by_case (inr (inl e)) = let j : turn_of c ≡ remove_turn a.family k = i ∙ ap (λ (f : Family). remove_turn f k) g in absurd (omega (arith, e, j, size, lt))
        by_case (inr (inr e)) = let j : turn_of c ≡ remove_turn a.family k = i ∙ ap (λ (f : Family). remove_turn f k) g in absurd (omega (arith, e.0, j, size, lt))

    by_test : (b : Bool) → same_prefix (first_bits k a) (place_of c) ≡ b → k ≤ w → (match_in s.table a ≡ match_in M a) ⊎ (match_in s.table a ≡ match_in U a)
    by_test false e u =
        unmoved (λ n l. elsewhere n l (nat_eq n k) refl)
      where
        elsewhere : (n : ℕ) → n ≤ w → (b : Bool) → nat_eq n k ≡ b → same_prefix (first_bits n a) (place_of c) ≡ false
        elsewhere n l true i = ap (λ j. same_prefix (first_bits j a) (place_of c)) (eqb-true n k i) ∙ e
        elsewhere n l false i = other_place a n (place_of c) l (λ j. let z : nat_eq n k ≡ true = eq-eqb n k j in absurd cc)
    by_test true e u = ended (past (hops_of M a) (hops_of s.table a) (hops_of U a) k w 0 w step u (omega arith))
      where
        family : (place_of c).family ≡ a.family
        family = ap (λ (r : Prefix). r.family) (sym (prefix_key.same (first_bits k a) (place_of c) e))

        here : hops_of s.table a k ≡ entry_hop_at (place_of c) U
        here = s.hops (first_bits k a) ∙ ap (λ b. cond b (entry_hop_at (place_of c) U) (hops_of M a k)) e

        same : entry_hop_at (place_of c) U ≡ hops_of U a k
        same = ap (λ r. entry_hop_at r U) (sym (prefix_key.same (first_bits k a) (place_of c) e))

        by_turn : ((turn_of c ≡ set_turn (place_of c).family k) × (is_some (entry_hop_at (place_of c) U) ≡ true)) ⊎ (turn_of c ≡ remove_turn (place_of c).family k) → (is_some (hops_of s.table a k) ≡ true) ⊎ ((n : ℕ) → n < k → hops_of M a n ≡ hops_of U a n)
        by_turn (inl i) = inl (ap is_some here ∙ i.1)
        by_turn (inr i) = inr (shorter family i u)

        step : IsStep (hops_of M a) (hops_of s.table a) (hops_of U a) k w
        step = record {
          others = λ n l d. s.hops (first_bits n a) ∙ ap (λ b. cond b (entry_hop_at (place_of c) U) (hops_of M a n)) (other_place a n (place_of c) l d);
          here = here ∙ same;
          longer = longer family;
          shorter = by_turn s.turn;
        }

        ended : (up_to w (hops_of s.table a) 0 ≡ up_to w (hops_of M a) 0) ⊎ (up_to w (hops_of s.table a) 0 ≡ up_to w (hops_of U a) 0) → (match_in s.table a ≡ match_in M a) ⊎ (match_in s.table a ≡ match_in U a)
        ended (inl i) = inl (match_walk s.table a ∙ (i ∙ sym (match_walk M a)))
        ended (inr i) = inr (match_walk s.table a ∙ (i ∙ sym (match_walk U a)))
