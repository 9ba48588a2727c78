-- The table after an event: it is in order and answers as the routes.
use Rattle.std.proofs.Common.{◌≡◌, ℕ, ◌+◌, List, [], ◌∷◌, Bool, true, false, Option, Some, None, refl, sym, subst, ◌∙◌}
use Rattle.std.specs.Prelude.{if◌then◌else◌}
use Rattle.std.specs.List.{AllByRecursion}
use Rattle.table_model.specs.Width.{width}
use Rattle.table_model.specs.Address.{Address, Prefix, IsAddress, IsPrefix, same_family}
use Rattle.table_model.specs.declared.family.Family.{Family}
use Rattle.table_model.proofs.SamePrefix.{same_family_is}
use Rattle.table_model.specs.Table.{Alike}
use Rattle.table_model.specs.Entries.{Entries, of_family, AlikeInBoth, match_in}
use Rattle.table_model.specs.Both.{LeastInBoth}
use Rattle.table_model.proofs.Same.{same_answers}
use Rattle.route_model.specs.Events.{Elem, elem_prefix}
use Rattle.route_model.specs.Choice.{Candidates, AreCandidates, IsElem, after_elem, after_elems, chosen_for}
use Rattle.route_model.proofs.Said.{candidates_after}
use Rattle.kept_model.proofs.Held.{Placed}
use Rattle.kept_model.specs.Patched.{after_repair, patch_of}
use Rattle.kept_model.proofs.Patches.{patched_elsewhere}
use Rattle.kept_model.specs.Feed.{entries_of}
use Rattle.kept_model.proofs.Tables.{at_prefix}
use Rattle.kept_model.specs.Kept.{is_other, changed_at, is_due, snapshot_if}
use Rattle.kept_model.proofs.FeedSums.{by_placed, renewed_placed}
use Rattle.kept_model.proofs.FeedAlike.{repaired_alike, snapshot_least}
use Rattle.moves_model.specs.Moved.{with_nearest, after_move, moved_by, table_by, table_from}
use Rattle.moves_model.proofs.Nearest.{nearest_placed, nearest_alike, nearest_elsewhere}

-- ---- the first step at a prefix

move_placed : (fewest : Bool) (R : Entries) (at : Option Prefix) (T : Entries) → Placed (after_repair R at T) → Placed T → Placed (after_move fewest R at T)
move_placed false R at T r t = r
move_placed true R None T r t = t
move_placed true R (Some p) T r t = nearest_placed p.family R T t

move_alike : (fewest : Bool) (R : Entries) (at : Option Prefix) (T : Entries) → ((p : Prefix) → at ≡ Some p → IsPrefix p) → Placed T → AlikeInBoth R (after_repair R at T) → AlikeInBoth R (after_move fewest R at T)
move_alike false R at T x t h = h
move_alike true R None T x t h = h
move_alike true R (Some p) T x t h = λ a l. by_test a l (same_family p.family a.family) refl
  where
    by_test : (a : Address) → IsAddress a → (b : Bool) → same_family p.family a.family ≡ b → match_in R a ≡ match_in (with_nearest p.family R T) a
    by_test a l true s = subst (λ (g : Family). Alike (width g) (of_family g R) (of_family g (with_nearest p.family R T))) (same_family_is p.family a.family s) (nearest_alike p.family R T t) a.bits l
    by_test a l false s =
        let g = a.family in
        h a l
        ∙ (same_answers a.bits (of_family g (patch_of R p T)) (of_family g T) 0 (patched_elsewhere R T p (x p refl) t g s)
        ∙ sym (same_answers a.bits (of_family g (with_nearest p.family R T)) (of_family g T) 0 (nearest_elsewhere p.family R T t g s)))

-- ---- an elementary event

chosen_prefix : (b : Bool) (q p : Prefix) → IsPrefix q → (if b then Some q else None) ≡ Some p → IsPrefix p
chosen_prefix true q p x e = let s : q ≡ p = cc in subst IsPrefix s x
chosen_prefix false q p x e = absurd cc

changed_prefix : (held : Candidates) (elem : Elem) → IsElem elem → (p : Prefix) → changed_at held elem ≡ Some p → IsPrefix p
changed_prefix held elem e p = chosen_prefix (is_other (chosen_for held (elem_prefix elem)) (chosen_for (after_elem held elem) (elem_prefix elem))) (elem_prefix elem) p (at_prefix elem e)

renewed_alike : (b : Bool) (R T : Entries) → AlikeInBoth R T → AlikeInBoth R (snapshot_if b R T)
renewed_alike false R T h = h
renewed_alike true R T h = λ a l. (snapshot_least R T a.family).0 a.bits l

module _ (fewest : Bool) (hops : List Address) (held : Candidates) (T : Entries) (elem : Elem) (e : IsElem elem) (t : Placed T) where
  pub moved_placed : Placed (moved_by fewest hops held T elem)
  moved_placed = move_placed fewest (entries_of hops (after_elem held elem)) (changed_at held elem) T (by_placed hops held T elem e t) t

  pub table_placed : (every n : ℕ) → Placed (table_by fewest every hops n held T elem)
  table_placed every n = renewed_placed (is_due every n) (entries_of hops (after_elem held elem)) (moved_by fewest hops held T elem) moved_placed

  pub moved_alike : AreCandidates held → AlikeInBoth (entries_of hops held) T → AlikeInBoth (entries_of hops (after_elem held elem)) (moved_by fewest hops held T elem)
  moved_alike a h = move_alike fewest (entries_of hops (after_elem held elem)) (changed_at held elem) T (changed_prefix held elem e) t (repaired_alike hops held elem a e T t h)

  pub table_alike : (every n : ℕ) → AreCandidates held → AlikeInBoth (entries_of hops held) T → AlikeInBoth (entries_of hops (after_elem held elem)) (table_by fewest every hops n held T elem)
  table_alike every n a h = renewed_alike (is_due every n) (entries_of hops (after_elem held elem)) (moved_by fewest hops held T elem) (moved_alike a h)

pub renewed_least : (b : Bool) (R T : Entries) → b ≡ true → LeastInBoth R (snapshot_if b R T)
renewed_least true R T e = snapshot_least R T
renewed_least false R T e = absurd cc

-- ---- elementary events

pub from_placed : (fewest : Bool) (every : ℕ) (hops : List Address) (n : ℕ) (held : Candidates) (T : Entries) (elems : List Elem) → AllByRecursion IsElem elems → Placed T → Placed (table_from fewest every hops n held T elems)
unfolding table_from
from_placed fewest every hops n held T [] h t = t
from_placed fewest every hops n held T (elem ∷ elems) h t =
    from_placed fewest every hops (n + 1) (after_elem held elem) (table_by fewest every hops n held T elem) elems h.1 (table_placed fewest hops held T elem h.0 t every n)

pub from_alike : (fewest : Bool) (every : ℕ) (hops : List Address) (n : ℕ) (held : Candidates) (T : Entries) (elems : List Elem) → AreCandidates held → AllByRecursion IsElem elems → Placed T → AlikeInBoth (entries_of hops held) T
    → AlikeInBoth (entries_of hops (after_elems held elems)) (table_from fewest every hops n held T elems)
unfolding table_from
from_alike fewest every hops n held T [] a h t k = k
from_alike fewest every hops n held T (elem ∷ elems) a h t k =
    from_alike fewest every hops (n + 1) (after_elem held elem) (table_by fewest every hops n held T elem) elems (candidates_after held elem a h.0) h.1 (table_placed fewest hops held T elem h.0 t every n) (table_alike fewest hops held T elem h.0 t every n a k)
