-- What is told, in either order.
use Rattle.std.proofs.Common.{◌≡◌, ℕ, ◌+◌, List, [], ◌∷◌, ◌++◌, Bool, true, false, Some, length, refl, sym, ap, ◌∙◌, arith, append-nil, append_assoc}
use Rattle.std.specs.List.{AllByRecursion}
use Rattle.std.specs.List.Sorted.{IsStrictlySortedBy}
use Rattle.table_model.specs.Address.{Address}
use Rattle.table_model.specs.Entries.{Entries}
use Rattle.table_model.specs.Changes.{Change, after_changes, sum_of}
use Rattle.route_model.specs.Events.{Elem}
use Rattle.route_model.specs.Choice.{Candidates, IsElem, after_elem, after_elems}
use Rattle.kept_model.specs.Between.{between}
use Rattle.kept_model.proofs.Held.{Placed}
use Rattle.kept_model.proofs.Alike.{made_placed}
use Rattle.kept_model.specs.Patched.{after_repair}
use Rattle.kept_model.proofs.Turns.{all_steady}
use Rattle.kept_model.proofs.Goes.{steady_placed}
use Rattle.kept_model.specs.Feed.{AreNumbered, entries_of, hops_after, at_event, changes_in}
use Rattle.kept_model.proofs.Numbers.{entries_stay}
use Rattle.kept_model.specs.Kept.{AreNumberedAlong, changed_at, is_due, snapshot_if, kept_at_load, kept_by, kept_from, kept_changes_from, repaired_by}
use Rattle.kept_model.proofs.FeedSums.{by_placed, renewed_placed, snapshot_placed}
use Rattle.kept_model.proofs.FeedStays.{load_stays}
use Rattle.kept_model.specs.Told.{steady_if, event_told, events_told, load_told, run_told}
use Rattle.kept_model.proofs.Blocks.{in_at_event, in_both, after_more}

-- ---- one order or the other

pub all_told : (P : Change → Type 0) (steady : Bool) (cs : List Change) → AllByRecursion P cs → AllByRecursion P (steady_if steady cs)
all_told P false cs a = a
all_told P true cs a = all_steady P cs a

told_placed : (steady : Bool) (T U : Entries) → Placed T → Placed U → after_changes (steady_if steady (between T U)) T ≡ Some U
told_placed false T U t u = made_placed T U t u
told_placed true T U t u = steady_placed T U t u

pub plain : (every : ℕ) (hops : List Address) (n : ℕ) (held : Candidates) (T : Entries) (elems : List Elem) → events_told false every hops n held T elems ≡ kept_changes_from every hops n held T elems
unfolding events_told kept_changes_from
plain every hops n held T [] = refl
plain every hops n held T (elem ∷ elems) = ap (λ cs. at_event n (event_told false every hops n held T elem) ++ cs) (plain every hops (n + 1) (after_elem held elem) (kept_by every hops n held T elem) elems)

-- ---- they add up to the kept table

pub event_sum : (steady : Bool) (every : ℕ) (hops : List Address) (n : ℕ) (held : Candidates) (T : Entries) (elem : Elem) → IsElem elem → Placed T → after_changes (event_told steady every hops n held T elem) T ≡ Some (kept_by every hops n held T elem)
event_sum steady every hops n held T elem e t =
    let N = repaired_by hops held T elem in
    let K = kept_by every hops n held T elem in
    let p = by_placed hops held T elem e t in
    after_more (steady_if steady (between T N)) (steady_if steady (between N K)) T N (told_placed steady T N t p) ∙ told_placed steady N K p (renewed_placed (is_due every n) (entries_of hops (after_elem held elem)) N p)

events_sum : (steady : Bool) (every : ℕ) (hops : List Address) (n : ℕ) (held : Candidates) (T : Entries) (elems : List Elem) → AllByRecursion IsElem elems → Placed T → after_changes (changes_in (events_told steady every hops n held T elems)) T ≡ Some (kept_from every hops n held T elems)
unfolding kept_from events_told
events_sum steady every hops n held T [] h t = refl
events_sum steady every hops n held T (elem ∷ elems) h t =
    let cs = event_told steady every hops n held T elem in
    let K = kept_by every hops n held T elem in
    let rest = events_told steady every hops (n + 1) (after_elem held elem) K elems in
    let k : Placed K = renewed_placed (is_due every n) (entries_of hops (after_elem held elem)) (repaired_by hops held T elem) (by_placed hops held T elem h.0 t) in
    ap (λ ds. after_changes ds T) (in_both (at_event n cs) rest ∙ ap (λ ds. ds ++ changes_in rest) (in_at_event n cs))
    ∙ (after_more cs (changes_in rest) T K (event_sum steady every hops n held T elem h.0 t) ∙ events_sum steady every hops (n + 1) (after_elem held elem) K elems h.1 k)

pub none_placed : Placed []
unfolding IsStrictlySortedBy
none_placed = (tt, tt)

pub run_sum : (steady : Bool) (every : ℕ) (hops : List Address) (held : Candidates) (elems : List Elem) → AllByRecursion IsElem elems → sum_of (changes_in (run_told steady every hops held elems)) ≡ Some (kept_from every hops 1 held (kept_at_load hops held) elems)
run_sum steady every hops held elems e =
    let K = kept_at_load hops held in
    let k : Placed K = snapshot_placed (entries_of hops held) [] in
    let cs = steady_if steady (between [] K) in
    let rest = events_told steady every hops 1 held K elems in
    ap sum_of (in_both (at_event 0 cs) rest ∙ ap (λ ds. ds ++ changes_in rest) (in_at_event 0 cs))
    ∙ (after_more cs (changes_in rest) [] K (told_placed steady [] K none_placed k) ∙ events_sum steady every hops 1 held K elems e k)

-- ---- more hops get numbers

module _ (steady : Bool) (every : ℕ) (hops : List Address) (more : List Elem) where
  by_stays : (n : ℕ) (held : Candidates) (T : Entries) (elem : Elem) → AreNumbered hops (after_elem held elem) → kept_by every (hops_after hops more) n held T elem ≡ kept_by every hops n held T elem
  by_stays n held T elem a = ap (λ (R : Entries). snapshot_if (is_due every n) R (after_repair R (changed_at held elem) T)) (entries_stay hops (after_elem held elem) more a)

  event_stays : (n : ℕ) (held : Candidates) (T : Entries) (elem : Elem) → AreNumbered hops (after_elem held elem) → event_told steady every (hops_after hops more) n held T elem ≡ event_told steady every hops n held T elem
  event_stays n held T elem a =
      ap (λ (R : Entries). steady_if steady (between T (after_repair R (changed_at held elem) T)) ++ steady_if steady (between (after_repair R (changed_at held elem) T) (snapshot_if (is_due every n) R (after_repair R (changed_at held elem) T))))
      (entries_stay hops (after_elem held elem) more a)

  pub events_stay : (n : ℕ) (held : Candidates) (T : Entries) (elems : List Elem) → AreNumberedAlong hops held elems → events_told steady every (hops_after hops more) n held T elems ≡ events_told steady every hops n held T elems
  unfolding events_told
  events_stay n held T [] a = refl
  events_stay n held T (elem ∷ elems) a =
      ap (λ (M : Entries). at_event n (event_told steady every (hops_after hops more) n held T elem) ++ events_told steady every (hops_after hops more) (n + 1) (after_elem held elem) M elems) (by_stays n held T elem a.0)
      ∙ (ap (λ (cs : List Change). at_event n cs ++ events_told steady every (hops_after hops more) (n + 1) (after_elem held elem) (kept_by every hops n held T elem) elems) (event_stays n held T elem a.0)
      ∙ ap (λ z. at_event n (event_told steady every hops n held T elem) ++ z) (events_stay (n + 1) (after_elem held elem) (kept_by every hops n held T elem) elems a.1))

pub load_told_stays : (steady : Bool) (hops : List Address) (more : List Elem) (held : Candidates) → AreNumbered hops held → load_told steady (hops_after hops more) held ≡ load_told steady hops held
load_told_stays steady hops more held a = ap (λ (K : Entries). at_event 0 (steady_if steady (between [] K))) (load_stays hops more held a)

-- ---- one elementary event more

module _ (steady : Bool) (every : ℕ) (hops : List Address) (elem : Elem) where
  events_last : (n m : ℕ) (held : Candidates) (T : Entries) (elems : List Elem) → m ≡ n + length elems
      → events_told steady every hops n held T (elems ++ elem ∷ []) ≡ events_told steady every hops n held T elems ++ at_event m (event_told steady every hops m (after_elems held elems) (kept_from every hops n held T elems) elem)
  unfolding kept_from events_told
  events_last n m held T [] e = let s : m ≡ n = omega arith in append-nil (at_event n (event_told steady every hops n held T elem)) ∙ ap (λ k. at_event k (event_told steady every hops k held T elem)) (sym s)
  events_last n m held T (x ∷ elems) e =
      let first = at_event n (event_told steady every hops n held T x) in
      let K = kept_by every hops n held T x in
      ap (λ z. first ++ z) (events_last (n + 1) m (after_elem held x) K elems (omega arith))
      ∙ sym (append_assoc first (events_told steady every hops (n + 1) (after_elem held x) K elems) (at_event m (event_told steady every hops m (after_elems (after_elem held x) elems) (kept_from every hops (n + 1) (after_elem held x) K elems) elem)))

  pub events_step : (held : Candidates) (T : Entries) (elems : List Elem) →
      events_told steady every hops 1 held T (elems ++ elem ∷ []) ≡ events_told steady every hops 1 held T elems ++ at_event (length elems + 1) (event_told steady every hops (length elems + 1) (after_elems held elems) (kept_from every hops 1 held T elems) elem)
  events_step held T elems = events_last 1 (length elems + 1) held T elems (omega arith)
