-- The changes between two tables make the second of the first.
use Rattle.std.proofs.Common.{◌≡◌, ℕ, List, [], ◌∷◌, ◌++◌, Bool, true, false, cond, Option, Some, None, nat_eq, refl, sym, ap, ◌∙◌}
use Rattle.std.specs.Prelude.{is_some, ◌||◌}
use Rattle.std.specs.List.{AllByRecursion, list_any}
use Rattle.std.specs.List.Sorted.{IsStrictlySortedBy}
use Rattle.std.specs.Map.{keys_of, remove_entry}
use Rattle.std.specs.Option.{option_and_then}
use Rattle.std.specs.declared.cmp.Ordering.TheVariants.{Less}
use Rattle.std.proofs.lemmas.Bool.{eqb-true}
use Rattle.table_model.specs.Address.{Prefix, IsPrefix, same_prefix}
use Rattle.table_model.specs.Order.{prefix_cmp}
use Rattle.table_model.specs.Entries.{Entries, with_entry, in_order}
use Rattle.table_model.specs.Changes.{Change, Replace, after_change, after_changes}
use Rattle.route_model.proofs.Keyed.{same_entries, all_put, sorted_put, lookup-put, all_cut, sorted_cut, lookup-cut, not_same_less}
use Rattle.route_model.proofs.Places.{prefix_key}
use Rattle.kept_model.specs.Between.{AreEntries, entry_hop_at, change_at, changes_at, between}
use Rattle.kept_model.proofs.Held.{Placed, hop_in_order, in_order_placed, all_both, any_of_both, not_either}

after_more : (cs ds : List Change) (L : Entries) → after_changes (cs ++ ds) L ≡ option_and_then (after_changes ds) (after_changes cs L)
after_more [] ds L = refl
after_more (c ∷ cs) ds L = by_first (after_change c L) (after_more cs ds)
  where
    by_first : (o : Option Entries) → ((M : Entries) → after_changes (cs ++ ds) M ≡ option_and_then (after_changes ds) (after_changes cs M)) → option_and_then (after_changes (cs ++ ds)) o ≡ option_and_then (after_changes ds) (option_and_then (after_changes cs) o)
    by_first None ih = refl
    by_first (Some M) ih = ih M

-- the table after the change at one prefix
record Moved (p : Prefix) (b : Option ℕ) (cs : List Change) (M : Entries) : Type 0 where
  table : Entries
  after : after_changes cs M ≡ Some table
  placed : Placed table
  hops : (q : Prefix) → entry_hop_at q table ≡ cond (same_prefix q p) b (entry_hop_at q M)

stays : (p : Prefix) (M : Entries) (b : Option ℕ) → Placed M → entry_hop_at p M ≡ b → Moved p b [] M
stays p M b m e = record { table = M; after = refl; placed = m; hops = λ q. by_test q (same_prefix q p) refl }
  where
    by_test : (q : Prefix) (t : Bool) → same_prefix q p ≡ t → entry_hop_at q M ≡ cond t b (entry_hop_at q M)
    by_test q true t = ap (λ r. entry_hop_at r M) (prefix_key.same q p t) ∙ e
    by_test q false t = refl

put : (p : Prefix) (M : Entries) (h : ℕ) (cs : List Change) → IsPrefix p → Placed M → after_changes cs M ≡ Some (with_entry M (p, h)) → Moved p (Some h) cs M
put p M h cs x m e = record {
  table = with_entry M (p, h);
  after = e;
  placed = (all_put prefix_cmp IsPrefix M p h m.0 x, sorted_put prefix_key M p h m.1);
  hops = λ q. lookup-put prefix_key q M p h m.0 x;
}

one : (p : Prefix) (M : Entries) (a b : Option ℕ) → IsPrefix p → Placed M → entry_hop_at p M ≡ a → Moved p b (change_at p a b) M
one p M None None x m e = stays p M None m e
one p M None (Some h) x m e = put p M h _ x m (ap (λ o. option_and_then (λ (N : Entries). Some N) (cond (is_some o) None (Some (with_entry M (p, h))))) e)
one p M (Some g) None x m e = record {
  table = remove_entry (same_prefix p) M;
  after = ap (λ o. option_and_then (λ (N : Entries). Some N) (cond (is_some o) (Some (remove_entry (same_prefix p) M)) None)) e;
  placed = (all_cut (same_prefix p) IsPrefix M m.0, sorted_cut prefix_cmp (same_prefix p) M m.1);
  hops = λ q. lookup-cut prefix_key q p M m.1;
}
one p M (Some g) (Some h) x m e = by_test (nat_eq g h) refl
  where
    by_test : (t : Bool) → nat_eq g h ≡ t → Moved p (Some h) (cond t [] (Replace p h ∷ [])) M
    by_test true t = stays p M (Some h) m (e ∙ ap Some (eqb-true g h t))
    by_test false t = put p M h _ x m (ap (λ o. option_and_then (λ (N : Entries). Some N) (cond (is_some o) (Some (with_entry M (p, h))) None)) e)

-- a prefix that all of these are past isn't among them
pub apart : (p q : Prefix) (ps : List Prefix) → same_prefix q p ≡ true → AllByRecursion (λ r. prefix_cmp p r ≡ Less) ps → list_any (same_prefix q) ps ≡ false
apart p q [] t a = refl
apart p q (r ∷ ps) t a = ap (λ b. b || list_any (same_prefix q) ps) (ap (λ z. same_prefix z r) (prefix_key.same q p t) ∙ not_same_less prefix_key p r a.0) ∙ apart p q ps t a.1

-- changes at some prefixes make a table that has the new hops there
came : (ps : List Prefix) (old new M N : Entries) → AllByRecursion IsPrefix ps → IsStrictlySortedBy prefix_cmp ps → Placed M → Placed N
    → ((q : Prefix) → list_any (same_prefix q) ps ≡ false → entry_hop_at q M ≡ entry_hop_at q N) → ((q : Prefix) → list_any (same_prefix q) ps ≡ true → (entry_hop_at q M ≡ entry_hop_at q old) × (entry_hop_at q N ≡ entry_hop_at q new))
    → after_changes (changes_at ps old new) M ≡ Some N
unfolding IsStrictlySortedBy
came [] old new M N x s m n o h = ap Some (same_entries prefix_key M N m.1 n.1 m.0 n.0 (λ q. o q refl))
came (p ∷ ps) old new M N x s m n o h =
    let a = entry_hop_at p old in
    let b = entry_hop_at p new in
    let here = h p (ap (λ t. t || list_any (same_prefix p) ps) (prefix_key.itself p)) in
    let step : Moved p b (change_at p a b) M = one p M a b x.0 m here.0 in
    after_more (change_at p a b) (changes_at ps old new) M
    ∙ (ap (option_and_then (after_changes (changes_at ps old new))) step.after
    ∙ came ps old new step.table N x.1 s.1 step.placed n (λ q e. elsewhere step here.1 q (same_prefix q p) refl e) (λ q e. there step q (same_prefix q p) refl e))
  where
    elsewhere : (step : Moved p (entry_hop_at p new) (change_at p (entry_hop_at p old) (entry_hop_at p new)) M) → entry_hop_at p N ≡ entry_hop_at p new → (q : Prefix) (t : Bool) → same_prefix q p ≡ t → list_any (same_prefix q) ps ≡ false → entry_hop_at q step.table ≡ entry_hop_at q N
    elsewhere step e q true t f = step.hops q ∙ (ap (λ z. cond z (entry_hop_at p new) (entry_hop_at q M)) t ∙ (sym e ∙ ap (λ z. entry_hop_at z N) (sym (prefix_key.same q p t))))
    elsewhere step e q false t f = step.hops q ∙ (ap (λ z. cond z (entry_hop_at p new) (entry_hop_at q M)) t ∙ o q (ap (λ z. z || list_any (same_prefix q) ps) t ∙ f))

    there : (step : Moved p (entry_hop_at p new) (change_at p (entry_hop_at p old) (entry_hop_at p new)) M) → (q : Prefix) (t : Bool) → same_prefix q p ≡ t → list_any (same_prefix q) ps ≡ true → (entry_hop_at q step.table ≡ entry_hop_at q old) × (entry_hop_at q N ≡ entry_hop_at q new)
    there step q true t f = let g : list_any (same_prefix q) ps ≡ false = apart p q ps t s.0 in absurd cc
    there step q false t f = let both = h q (ap (λ z. z || list_any (same_prefix q) ps) t ∙ f) in (step.hops q ∙ (ap (λ z. cond z (entry_hop_at p new) (entry_hop_at q M)) t ∙ both.0), both.1)

pub made : (old new : Entries) → AreEntries old → AreEntries new → after_changes (between old new) (in_order old) ≡ Some (in_order new)
unfolding between
made old new a b =
    let all = in_order_placed (old ++ new) (all_both IsPrefix old new a.0 b.0) in
    came (keys_of (in_order (old ++ new))) old new (in_order old) (in_order new) all.0 all.1 (in_order_placed old a.0) (in_order_placed new b.0)
    (λ q e. let n = not_either (entry_hop_at q old) (entry_hop_at q new) (sym (any_of_both q old new a.0 b.0) ∙ e) in hop_in_order q old a ∙ (n.0 ∙ sym (hop_in_order q new b ∙ n.1)))
    (λ q e. (hop_in_order q old a, hop_in_order q new b))
