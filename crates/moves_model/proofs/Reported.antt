-- What is told: it adds up to the table, stays as more hops get numbers, and grows event by event.
use Rattle.std.proofs.Common.{◌≡◌, ℕ, ◌+◌, List, [], ◌∷◌, ◌++◌, Bool, true, false, Some, length, refl, sym, ap, ◌∙◌, arith, append-nil, append_assoc, length-append}
use Rattle.std.specs.Prelude.{map}
use Rattle.std.specs.List.{AllByRecursion}
use Rattle.std.proofs.lemmas.List.Sorted.{length_permutation}
use Rattle.table_model.specs.Address.{Address, IsPrefix}
use Rattle.table_model.specs.Entries.{Entries}
use Rattle.table_model.specs.Changes.{Change, after_changes, sum_of}
use Rattle.route_model.specs.Events.{Elem}
use Rattle.route_model.specs.Choice.{Candidates, IsElem, after_elem, after_elems}
use Rattle.kept_model.specs.Between.{between, place_of}
use Rattle.kept_model.proofs.Held.{Placed}
use Rattle.kept_model.proofs.Alike.{all_between, made_placed, none_between}
use Rattle.kept_model.specs.Steady.{in_steady_order}
use Rattle.kept_model.proofs.Goes.{same_changes, steady_placed}
use Rattle.kept_model.specs.Feed.{AreNumbered, entries_of, hops_after, at_event, changes_in}
use Rattle.kept_model.proofs.Numbers.{entries_stay}
use Rattle.kept_model.specs.Kept.{AreNumberedAlong, changed_at, is_due, snapshot_if, kept_at_load, kept_by, kept_from}
use Rattle.kept_model.proofs.FeedSums.{snapshot_placed}
use Rattle.kept_model.specs.Told.{steady_if, events_told}
use Rattle.kept_model.proofs.Blocks.{in_at_event, in_both, after_more}
use Rattle.kept_model.proofs.Told.{none_placed}
use Rattle.moves_model.specs.Moved.{after_move, moved_by, table_by, table_from}
use Rattle.moves_model.specs.Reported.{first_changes, then_changes, told_of, told_from, told_of_run, counted_at, moves_of, moves_from}
use Rattle.moves_model.proofs.Moved.{moved_placed, table_placed}

-- ---- without the fewest changes

pub repaired : (every : ℕ) (hops : List Address) (n : ℕ) (held : Candidates) (T : Entries) (elems : List Elem) → table_from false every hops n held T elems ≡ kept_from every hops n held T elems
unfolding table_from kept_from
repaired every hops n held T [] = refl
repaired every hops n held T (elem ∷ elems) = repaired every hops (n + 1) (after_elem held elem) (kept_by every hops n held T elem) elems

pub repaired_told : (steady : Bool) (every : ℕ) (hops : List Address) (n : ℕ) (held : Candidates) (T : Entries) (elems : List Elem) → told_from false steady every hops n held T elems ≡ events_told steady every hops n held T elems
unfolding told_from events_told
repaired_told steady every hops n held T [] = refl
repaired_told steady every hops n held T (elem ∷ elems) =
    ap (λ cs. at_event n (told_of false steady every hops n held T elem) ++ cs) (repaired_told steady every hops (n + 1) (after_elem held elem) (kept_by every hops n held T elem) elems)

-- ---- it adds up to the table

told_placed : (steady : Bool) (T U : Entries) → Placed T → Placed U → after_changes (steady_if steady (between T U)) T ≡ Some U
told_placed false T U t u = made_placed T U t u
told_placed true T U t u = steady_placed T U t u

pub event_sum : (fewest steady : Bool) (every : ℕ) (hops : List Address) (n : ℕ) (held : Candidates) (T : Entries) (elem : Elem) → IsElem elem → Placed T → after_changes (told_of fewest steady every hops n held T elem) T ≡ Some (table_by fewest every hops n held T elem)
event_sum fewest steady every hops n held T elem e t =
    let N = moved_by fewest hops held T elem in
    let K = table_by fewest every hops n held T elem in
    let m = moved_placed fewest hops held T elem e t in
    after_more (steady_if steady (between T N)) (steady_if steady (between N K)) T N (told_placed steady T N t m) ∙ told_placed steady N K m (table_placed fewest hops held T elem e t every n)

events_sum : (fewest steady : Bool) (every : ℕ) (hops : List Address) (n : ℕ) (held : Candidates) (T : Entries) (elems : List Elem) → AllByRecursion IsElem elems → Placed T
    → after_changes (changes_in (told_from fewest steady every hops n held T elems)) T ≡ Some (table_from fewest every hops n held T elems)
unfolding table_from told_from
events_sum fewest steady every hops n held T [] h t = refl
events_sum fewest steady every hops n held T (elem ∷ elems) h t =
    let cs = told_of fewest steady every hops n held T elem in
    let K = table_by fewest every hops n held T elem in
    let rest = told_from fewest steady every hops (n + 1) (after_elem held elem) K elems in
    ap (λ ds. after_changes ds T) (in_both (at_event n cs) rest ∙ ap (λ ds. ds ++ changes_in rest) (in_at_event n cs))
    ∙ (after_more cs (changes_in rest) T K (event_sum fewest steady every hops n held T elem h.0 t)
    ∙ events_sum fewest steady every hops (n + 1) (after_elem held elem) K elems h.1 (table_placed fewest hops held T elem h.0 t every n))

pub run_sum : (fewest steady : Bool) (every : ℕ) (hops : List Address) (held : Candidates) (elems : List Elem) → AllByRecursion IsElem elems
    → sum_of (changes_in (told_of_run fewest steady every hops held elems)) ≡ Some (table_from fewest every hops 1 held (kept_at_load hops held) elems)
run_sum fewest steady every hops held elems e =
    let K = kept_at_load hops held in
    let k : Placed K = snapshot_placed (entries_of hops held) [] in
    let cs = steady_if steady (between [] K) in
    let rest = told_from fewest steady every hops 1 held K elems in
    ap sum_of (in_both (at_event 0 cs) rest ∙ ap (λ ds. ds ++ changes_in rest) (in_at_event 0 cs))
    ∙ (after_more cs (changes_in rest) [] K (told_placed steady [] K none_placed k) ∙ events_sum fewest steady every hops 1 held K elems e k)

-- ---- how many there are

steady_count : (steady : Bool) (cs : List Change) → AllByRecursion IsPrefix (map place_of cs) → length (steady_if steady cs) ≡ length cs
steady_count false cs a = refl
steady_count true cs a = length_permutation cs (in_steady_order cs) (same_changes cs a)

-- where no snapshot is due, those of the first step are all that are told
pub told_count : (fewest steady : Bool) (every : ℕ) (hops : List Address) (n : ℕ) (held : Candidates) (T : Entries) (elem : Elem) → IsElem elem → Placed T → is_due every n ≡ false
    → length (told_of fewest steady every hops n held T elem) ≡ length (first_changes fewest hops held T elem)
told_count fewest steady every hops n held T elem e t d =
    let N = moved_by fewest hops held T elem in
    let R = entries_of hops (after_elem held elem) in
    let m = moved_placed fewest hops held T elem e t in
    let none : length (steady_if steady (then_changes fewest every hops n held T elem)) ≡ 0 =
    ap (λ b. length (steady_if steady (between N (snapshot_if b R N)))) d ∙ (steady_count steady (between N N) (all_between IsPrefix N N m.0 m.0) ∙ ap length (none_between N)) in
    omega (
      arith,
      length-append (steady_if steady (first_changes fewest hops held T elem)) (steady_if steady (then_changes fewest every hops n held T elem)),
      steady_count steady (between T N) (all_between IsPrefix T N t.0 m.0),
      none,
    )

-- ---- more hops get numbers

module _ (fewest steady : Bool) (every : ℕ) (hops : List Address) (more : List Elem) where
  by_stays : (n : ℕ) (held : Candidates) (T : Entries) (elem : Elem) → AreNumbered hops (after_elem held elem) → table_by fewest every (hops_after hops more) n held T elem ≡ table_by fewest every hops n held T elem
  by_stays n held T elem a = ap (λ (R : Entries). snapshot_if (is_due every n) R (after_move fewest R (changed_at held elem) T)) (entries_stay hops (after_elem held elem) more a)

  told_stays : (n : ℕ) (held : Candidates) (T : Entries) (elem : Elem) → AreNumbered hops (after_elem held elem) → told_of fewest steady every (hops_after hops more) n held T elem ≡ told_of fewest steady every hops n held T elem
  told_stays n held T elem a =
      ap (λ (R : Entries). let N = after_move fewest R (changed_at held elem) T in steady_if steady (between T N) ++ steady_if steady (between N (snapshot_if (is_due every n) R N))) (entries_stay hops (after_elem held elem) more a)

  moves_stay : (n : ℕ) (held : Candidates) (T : Entries) (elem : Elem) → AreNumbered hops (after_elem held elem) → moves_of fewest (hops_after hops more) n held T elem ≡ moves_of fewest hops n held T elem
  moves_stay n held T elem a = ap (λ (R : Entries). counted_at (changed_at held elem) n (between T (after_move fewest R (changed_at held elem) T))) (entries_stay hops (after_elem held elem) more a)

  pub table_from_stays : (n : ℕ) (held : Candidates) (T : Entries) (elems : List Elem) → AreNumberedAlong hops held elems → table_from fewest every (hops_after hops more) n held T elems ≡ table_from fewest every hops n held T elems
  unfolding table_from
  table_from_stays n held T [] a = refl
  table_from_stays n held T (elem ∷ elems) a =
      ap (λ (M : Entries). table_from fewest every (hops_after hops more) (n + 1) (after_elem held elem) M elems) (by_stays n held T elem a.0) ∙ table_from_stays (n + 1) (after_elem held elem) (table_by fewest every hops n held T elem) elems a.1

  pub told_from_stays : (n : ℕ) (held : Candidates) (T : Entries) (elems : List Elem) → AreNumberedAlong hops held elems → told_from fewest steady every (hops_after hops more) n held T elems ≡ told_from fewest steady every hops n held T elems
  unfolding told_from
  told_from_stays n held T [] a = refl
  told_from_stays n held T (elem ∷ elems) a =
      let after = after_elem held elem in
      let K = table_by fewest every hops n held T elem in
      ap (λ (M : Entries). at_event n (told_of fewest steady every (hops_after hops more) n held T elem) ++ told_from fewest steady every (hops_after hops more) (n + 1) after M elems) (by_stays n held T elem a.0)
      ∙ (ap (λ (cs : List Change). at_event n cs ++ told_from fewest steady every (hops_after hops more) (n + 1) after K elems) (told_stays n held T elem a.0)
      ∙ ap (λ z. at_event n (told_of fewest steady every hops n held T elem) ++ z) (told_from_stays (n + 1) after K elems a.1))

  pub moves_from_stay : (n : ℕ) (held : Candidates) (T : Entries) (elems : List Elem) → AreNumberedAlong hops held elems → moves_from fewest every (hops_after hops more) n held T elems ≡ moves_from fewest every hops n held T elems
  unfolding moves_from
  moves_from_stay n held T [] a = refl
  moves_from_stay n held T (elem ∷ elems) a =
      let after = after_elem held elem in
      let K = table_by fewest every hops n held T elem in
      ap (λ (M : Entries). moves_of fewest (hops_after hops more) n held T elem ++ moves_from fewest every (hops_after hops more) (n + 1) after M elems) (by_stays n held T elem a.0)
      ∙ (ap (λ (ms : List (ℕ × ℕ)). ms ++ moves_from fewest every (hops_after hops more) (n + 1) after K elems) (moves_stay n held T elem a.0)
      ∙ ap (λ z. moves_of fewest hops n held T elem ++ z) (moves_from_stay (n + 1) after K elems a.1))

-- ---- elementary events one after another

module _ (fewest steady : Bool) (every : ℕ) (hops : List Address) where
  table_after : (n m : ℕ) (held : Candidates) (T : Entries) (xs ys : List Elem) → m ≡ n + length xs → table_from fewest every hops n held T (xs ++ ys) ≡ table_from fewest every hops m (after_elems held xs) (table_from fewest every hops n held T xs) ys
  unfolding table_from
  table_after n m held T [] ys e = let s : m ≡ n = omega arith in ap (λ k. table_from fewest every hops k held T ys) (sym s)
  table_after n m held T (x ∷ xs) ys e = table_after (n + 1) m (after_elem held x) (table_by fewest every hops n held T x) xs ys (omega arith)

  told_after : (n m : ℕ) (held : Candidates) (T : Entries) (xs ys : List Elem) → m ≡ n + length xs
      → told_from fewest steady every hops n held T (xs ++ ys) ≡ told_from fewest steady every hops n held T xs ++ told_from fewest steady every hops m (after_elems held xs) (table_from fewest every hops n held T xs) ys
  unfolding table_from told_from
  told_after n m held T [] ys e = let s : m ≡ n = omega arith in ap (λ k. told_from fewest steady every hops k held T ys) (sym s)
  told_after n m held T (x ∷ xs) ys e =
      let first = at_event n (told_of fewest steady every hops n held T x) in
      let after = after_elem held x in
      let K = table_by fewest every hops n held T x in
      ap (λ z. first ++ z) (told_after (n + 1) m after K xs ys (omega arith))
      ∙ sym (append_assoc first (told_from fewest steady every hops (n + 1) after K xs) (told_from fewest steady every hops m (after_elems after xs) (table_from fewest every hops (n + 1) after K xs) ys))

  moves_after : (n m : ℕ) (held : Candidates) (T : Entries) (xs ys : List Elem) → m ≡ n + length xs
      → moves_from fewest every hops n held T (xs ++ ys) ≡ moves_from fewest every hops n held T xs ++ moves_from fewest every hops m (after_elems held xs) (table_from fewest every hops n held T xs) ys
  unfolding table_from moves_from
  moves_after n m held T [] ys e = let s : m ≡ n = omega arith in ap (λ k. moves_from fewest every hops k held T ys) (sym s)
  moves_after n m held T (x ∷ xs) ys e =
      let first = moves_of fewest hops n held T x in
      let after = after_elem held x in
      let K = table_by fewest every hops n held T x in
      ap (λ z. first ++ z) (moves_after (n + 1) m after K xs ys (omega arith))
      ∙ sym (append_assoc first (moves_from fewest every hops (n + 1) after K xs) (moves_from fewest every hops m (after_elems after xs) (table_from fewest every hops (n + 1) after K xs) ys))

  pub table_more : (held : Candidates) (T : Entries) (xs ys : List Elem) → table_from fewest every hops 1 held T (xs ++ ys) ≡ table_from fewest every hops (length xs + 1) (after_elems held xs) (table_from fewest every hops 1 held T xs) ys
  table_more held T xs ys = table_after 1 (length xs + 1) held T xs ys (omega arith)

  pub told_more : (held : Candidates) (T : Entries) (xs ys : List Elem)
      → told_from fewest steady every hops 1 held T (xs ++ ys) ≡ told_from fewest steady every hops 1 held T xs ++ told_from fewest steady every hops (length xs + 1) (after_elems held xs) (table_from fewest every hops 1 held T xs) ys
  told_more held T xs ys = told_after 1 (length xs + 1) held T xs ys (omega arith)

  pub moves_more : (held : Candidates) (T : Entries) (xs ys : List Elem)
      → moves_from fewest every hops 1 held T (xs ++ ys) ≡ moves_from fewest every hops 1 held T xs ++ moves_from fewest every hops (length xs + 1) (after_elems held xs) (table_from fewest every hops 1 held T xs) ys
  moves_more held T xs ys = moves_after 1 (length xs + 1) held T xs ys (omega arith)

  -- one more
  pub table_step : (held : Candidates) (T : Entries) (elems : List Elem) (elem : Elem) → table_from fewest every hops 1 held T (elems ++ elem ∷ []) ≡ table_by fewest every hops (length elems + 1) (after_elems held elems) (table_from fewest every hops 1 held T elems) elem
  unfolding table_from
  table_step held T elems elem = table_more held T elems (elem ∷ [])

  pub told_step : (held : Candidates) (T : Entries) (elems : List Elem) (elem : Elem) → told_from fewest steady every hops 1 held T (elems ++ elem ∷ [])
      ≡ told_from fewest steady every hops 1 held T elems ++ at_event (length elems + 1) (told_of fewest steady every hops (length elems + 1) (after_elems held elems) (table_from fewest every hops 1 held T elems) elem)
  unfolding told_from
  told_step held T elems elem =
      told_more held T elems (elem ∷ [])
      ∙ ap (λ z. told_from fewest steady every hops 1 held T elems ++ z) (append-nil (at_event (length elems + 1) (told_of fewest steady every hops (length elems + 1) (after_elems held elems) (table_from fewest every hops 1 held T elems) elem)))

  pub moves_step : (held : Candidates) (T : Entries) (elems : List Elem) (elem : Elem) → moves_from fewest every hops 1 held T (elems ++ elem ∷ [])
      ≡ moves_from fewest every hops 1 held T elems ++ moves_of fewest hops (length elems + 1) (after_elems held elems) (table_from fewest every hops 1 held T elems) elem
  unfolding moves_from
  moves_step held T elems elem =
      moves_more held T elems (elem ∷ [])
      ∙ ap (λ z. moves_from fewest every hops 1 held T elems ++ z) (append-nil (moves_of fewest hops (length elems + 1) (after_elems held elems) (table_from fewest every hops 1 held T elems) elem))
