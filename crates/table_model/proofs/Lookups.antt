-- Which prefixes the entries put in order hold.
use Rattle.std.proofs.Common.{◌≡◌, ℕ, [], ◌∷◌, Bool, true, false, cond, Some, refl, sym, ap, ◌∙◌}
use Rattle.std.specs.Prelude.{is_some, fold, ◌||◌}
use Rattle.std.specs.List.{AllByRecursion, list_any}
use Rattle.std.specs.Map.{lookup, keys_of}
use Rattle.std.specs.BTreeMap.{insert_entry}
use Rattle.std.specs.Ordering.{match_ordering}
use Rattle.std.specs.declared.cmp.Ordering.{Ordering}
use Rattle.std.specs.declared.cmp.Ordering.TheVariants.{Less, Equal, Greater}
use Rattle.table_model.specs.Address.{Prefix, IsPrefix, same_prefix}
use Rattle.table_model.specs.Order.{prefix_cmp}
use Rattle.table_model.proofs.Ordered.{equal_are_same}
use Rattle.table_model.specs.Entries.{Entries, with_entry}
use Rattle.table_model.specs.Changes.{is_held}
use Rattle.table_model.proofs.Sums.{all_placed}

some_cond : (b : Bool) (h : ℕ) (L : Entries) (p : Prefix) → is_some (cond b (Some h) (lookup (same_prefix p) L)) ≡ (b || is_held p L)
some_cond true h L p = refl
some_cond false h L p = refl

swap : (a b c : Bool) → (a || (b || c)) ≡ (b || (a || c))
swap true true c = refl
swap true false c = refl
swap false true c = refl
swap false false c = refl

again : (a b : Bool) → (a || b) ≡ (a || (a || b))
again true b = refl
again false b = refl

held_placed : (p q : Prefix) (h : ℕ) (T : Entries) → IsPrefix q → AllByRecursion IsPrefix (keys_of T) → is_held p (insert_entry prefix_cmp T q h) ≡ (same_prefix p q || is_held p T)
held_placed p q h [] x a = some_cond (same_prefix p q) h [] p
held_placed p q h (e ∷ T) x a = by_order (prefix_cmp q e.0) refl (held_placed p q h T x a.1)
  where
    by_order : (o : Ordering) → prefix_cmp q e.0 ≡ o → is_held p (insert_entry prefix_cmp T q h) ≡ (same_prefix p q || is_held p T)
        → is_held p (match_ordering o ((q, h) ∷ e ∷ T) ((e.0, h) ∷ T) (e ∷ insert_entry prefix_cmp T q h)) ≡ (same_prefix p q || is_held p (e ∷ T))
    by_order Less c ih = some_cond (same_prefix p q) h (e ∷ T) p
    by_order Equal c ih =
        let same : q ≡ e.0 = equal_are_same q e.0 x a.0 c in
        some_cond (same_prefix p e.0) h T p ∙ (again (same_prefix p e.0) (is_held p T)
        ∙ (ap (λ b. same_prefix p e.0 || b) (sym (some_cond (same_prefix p e.0) e.1 T p)) ∙ ap (λ r. same_prefix p r || is_held p (e ∷ T)) (sym same)))
    by_order Greater c ih =
        some_cond (same_prefix p e.0) e.1 (insert_entry prefix_cmp T q h) p ∙ (ap (λ b. same_prefix p e.0 || b) ih
        ∙ (swap (same_prefix p e.0) (same_prefix p q) (is_held p T) ∙ ap (λ b. same_prefix p q || b) (sym (some_cond (same_prefix p e.0) e.1 T p))))

held_folded : (p : Prefix) (L T : Entries) → AllByRecursion IsPrefix (keys_of L) → AllByRecursion IsPrefix (keys_of T) → is_held p (fold with_entry T L) ≡ (list_any (same_prefix p) (keys_of L) || is_held p T)
held_folded p [] T a b = refl
held_folded p (e ∷ L) T a b =
    held_folded p L (with_entry T e) a.1 (all_placed IsPrefix T e.0 e.1 b a.0)
    ∙ (ap (λ x. list_any (same_prefix p) (keys_of L) || x) (held_placed p e.0 e.1 T a.0 b) ∙ regroup (list_any (same_prefix p) (keys_of L)) (same_prefix p e.0) (is_held p T))
  where
    regroup : (a b c : Bool) → (a || (b || c)) ≡ ((b || a) || c)
    regroup true true c = refl
    regroup true false c = refl
    regroup false true c = refl
    regroup false false c = refl
