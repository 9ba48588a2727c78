-- The kept table stays what it is as more hops get numbers.
use Rattle.std.proofs.Common.{◌≡◌, ℕ, ◌+◌, List, [], ◌∷◌, ◌++◌, refl, ap, ◌∙◌}
use Rattle.table_model.specs.Address.{Address}
use Rattle.table_model.specs.Entries.{Entries}
use Rattle.table_model.specs.Changes.{Change}
use Rattle.route_model.specs.Events.{Elem}
use Rattle.route_model.specs.Choice.{Candidates, after_elem}
use Rattle.kept_model.specs.Between.{between}
use Rattle.kept_model.specs.Patched.{after_repair}
use Rattle.kept_model.specs.Feed.{AreNumbered, hops_after, at_event}
use Rattle.kept_model.proofs.Numbers.{entries_stay}
use Rattle.kept_model.specs.Kept.{AreNumberedAlong, changed_at, is_due, snapshot_of, snapshot_if, kept_at_load, kept_by, changes_by, kept_from, kept_changes_from}

module _ (every : ℕ) (hops : List Address) (more : List Elem) where
  by_stays : (n : ℕ) (held : Candidates) (T : Entries) (elem : Elem) → AreNumbered hops (after_elem held elem) → kept_by every (hops_after hops more) n held T elem ≡ kept_by every hops n held T elem
  by_stays n held T elem a = ap (λ (R : Entries). snapshot_if (is_due every n) R (after_repair R (changed_at held elem) T)) (entries_stay hops (after_elem held elem) more a)

  changes_stay : (n : ℕ) (held : Candidates) (T : Entries) (elem : Elem) → AreNumbered hops (after_elem held elem) → changes_by every (hops_after hops more) n held T elem ≡ changes_by every hops n held T elem
  changes_stay n held T elem a =
      ap (λ (R : Entries). between T (after_repair R (changed_at held elem) T) ++ between (after_repair R (changed_at held elem) T) (snapshot_if (is_due every n) R (after_repair R (changed_at held elem) T))) (entries_stay hops (after_elem held elem) more a)

  pub kept_stays : (n : ℕ) (held : Candidates) (T : Entries) (elems : List Elem) → AreNumberedAlong hops held elems → kept_from every (hops_after hops more) n held T elems ≡ kept_from every hops n held T elems
  unfolding kept_from
  kept_stays n held T [] a = refl
  kept_stays n held T (elem ∷ elems) a =
      ap (λ (M : Entries). kept_from every (hops_after hops more) (n + 1) (after_elem held elem) M elems) (by_stays n held T elem a.0) ∙ kept_stays (n + 1) (after_elem held elem) (kept_by every hops n held T elem) elems a.1

  pub kept_changes_stay : (n : ℕ) (held : Candidates) (T : Entries) (elems : List Elem) → AreNumberedAlong hops held elems → kept_changes_from every (hops_after hops more) n held T elems ≡ kept_changes_from every hops n held T elems
  unfolding kept_changes_from
  kept_changes_stay n held T [] a = refl
  kept_changes_stay n held T (elem ∷ elems) a =
      ap (λ (M : Entries). at_event n (changes_by every (hops_after hops more) n held T elem) ++ kept_changes_from every (hops_after hops more) (n + 1) (after_elem held elem) M elems) (by_stays n held T elem a.0)
      ∙ (ap (λ (cs : List Change). at_event n cs ++ kept_changes_from every (hops_after hops more) (n + 1) (after_elem held elem) (kept_by every hops n held T elem) elems) (changes_stay n held T elem a.0)
      ∙ ap (λ z. at_event n (changes_by every hops n held T elem) ++ z) (kept_changes_stay (n + 1) (after_elem held elem) (kept_by every hops n held T elem) elems a.1))

pub load_stays : (hops : List Address) (more : List Elem) (held : Candidates) → AreNumbered hops held → kept_at_load (hops_after hops more) held ≡ kept_at_load hops held
load_stays hops more held a = ap (λ (R : Entries). snapshot_of R []) (entries_stay hops held more a)
