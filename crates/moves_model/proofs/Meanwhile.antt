-- What a router answers while it makes the changes in steady order.
use Rattle.std.proofs.Common.{◌≡◌, ℕ, suc, ◌+◌, ◌<◌, List, [], ◌∷◌, ◌++◌, Bool, true, length, take, refl, sym, ap, subst, ◌∙◌, arith, append_assoc}
use Rattle.std.specs.List.{AllByRecursion}
use Rattle.table_model.specs.Address.{Address}
use Rattle.table_model.specs.Entries.{Entries, AlikeInBoth, in_order}
use Rattle.table_model.specs.Changes.{Change}
use Rattle.table_model.proofs.Sums.{in_order_again}
use Rattle.route_model.specs.Events.{Elem}
use Rattle.route_model.specs.Choice.{Candidates, AreCandidates, IsElem, after_elem, after_elems}
use Rattle.route_model.proofs.Said.{candidates_after}
use Rattle.kept_model.specs.Between.{between}
use Rattle.kept_model.proofs.Held.{Placed}
use Rattle.kept_model.proofs.Alike.{placed_are}
use Rattle.kept_model.specs.Steady.{AnswerSteadily, in_steady_order}
use Rattle.kept_model.proofs.Goes.{Goes, goes_between, goes_to, goes_both, goes_sum, answer_steadily}
use Rattle.kept_model.specs.Feed.{entries_of, at_event}
use Rattle.kept_model.specs.Kept.{kept_at_load}
use Rattle.kept_model.proofs.FeedSums.{snapshot_placed}
use Rattle.kept_model.proofs.FeedAlike.{loaded_alike}
use Rattle.kept_model.specs.Meanwhile.{AnswerMeanwhile, earlier_routes, event_routes}
use Rattle.kept_model.proofs.Told.{none_placed}
use Rattle.kept_model.proofs.Blocks.{Numbered, AnswerFrom, no_blocks, block}
use Rattle.moves_model.specs.Moved.{moved_by, table_by}
use Rattle.moves_model.specs.Reported.{told_of, told_from, told_of_run}
use Rattle.moves_model.proofs.Moved.{moved_placed, moved_alike, table_placed, table_alike}
use Rattle.moves_model.proofs.Reported.{event_sum}

-- ---- one event

placed_goes : (T U : Entries) → Placed T → Placed U → Goes (in_steady_order (between T U)) T U U
placed_goes T U t u =
    let T' = in_order_again T t.1 in
    let U' = in_order_again U u.1 in
    subst (λ (X : Entries). Goes (in_steady_order (between T U)) X U U) T' (subst (λ (X : Entries). Goes (in_steady_order (between T U)) (in_order T) X X) U' (goes_between T U (placed_are T t) (placed_are U u)))

module _ (fewest : Bool) (every : ℕ) (hops : List Address) (n : ℕ) (held : Candidates) (T : Entries) (elem : Elem) (e : IsElem elem) (t : Placed T) where
  event_goes : AreCandidates held → AlikeInBoth (entries_of hops held) T → Goes (told_of fewest true every hops n held T elem) T (table_by fewest every hops n held T elem) (entries_of hops (after_elem held elem))
  event_goes h a =
      let S = entries_of hops (after_elem held elem) in
      let N = moved_by fewest hops held T elem in
      let K = table_by fewest every hops n held T elem in
      let m = moved_placed fewest hops held T elem e t in
      goes_both (in_steady_order (between T N)) (in_steady_order (between N K)) T N K S (goes_to (in_steady_order (between T N)) T N N S (moved_alike fewest hops held T elem e t h a) (placed_goes T N t m))
      (goes_to (in_steady_order (between N K)) N K K S (table_alike fewest hops held T elem e t every n h a) (placed_goes N K m (table_placed fewest hops held T elem e t every n)))

  pub event_answers : AreCandidates held → AlikeInBoth (entries_of hops held) T → AnswerSteadily (told_of fewest true every hops n held T elem) T (entries_of hops held) (entries_of hops (after_elem held elem))
  event_answers h a = answer_steadily (told_of fewest true every hops n held T elem) T (table_by fewest every hops n held T elem) (entries_of hops held) (entries_of hops (after_elem held elem)) (event_goes h a) a

-- ---- all events

numbers_at : (m n : ℕ) (cs : List Change) (rest : Numbered) → m < n → AllByRecursion (λ x. m < x.0) rest → AllByRecursion (λ x. m < x.0) (at_event n cs ++ rest)
numbers_at m n [] rest l r = r
numbers_at m n (c ∷ cs) rest l r = (l, numbers_at m n cs rest l r)

numbers_after : (fewest : Bool) (every : ℕ) (hops : List Address) (m n : ℕ) (held : Candidates) (T : Entries) (elems : List Elem) → m < n → AllByRecursion (λ x. m < x.0) (told_from fewest true every hops n held T elems)
unfolding told_from
numbers_after fewest every hops m n held T [] l = tt
numbers_after fewest every hops m n held T (elem ∷ elems) l =
    numbers_at m n (told_of fewest true every hops n held T elem) _ l (numbers_after fewest every hops m (n + 1) (after_elem held elem) (table_by fewest every hops n held T elem) elems (omega (arith, l)))

-- the routes before and after each event, from event n on
abbrev Follow : (ℕ → Entries) → (ℕ → Entries) → List Address → ℕ → Candidates → List Elem → Type 0
Follow before after hops n held [] = Unit {0}
Follow before after hops n held (elem ∷ elems) = (before n ≡ entries_of hops held) × (after n ≡ entries_of hops (after_elem held elem)) × Follow before after hops (n + 1) (after_elem held elem) elems

runs : (before after : ℕ → Entries) (fewest : Bool) (every : ℕ) (hops : List Address) (n : ℕ) (held : Candidates) (T : Entries) (elems : List Elem) → AreCandidates held → AllByRecursion IsElem elems → Placed T → AlikeInBoth (entries_of hops held) T
    → Follow before after hops n held elems → AnswerFrom (told_from fewest true every hops n held T elems) T before after
unfolding told_from
runs before after fewest every hops n held T [] h e t a f = no_blocks T before after
runs before after fewest every hops n held T (elem ∷ elems) h e t a f =
    let cs = told_of fewest true every hops n held T elem in
    let K = table_by fewest every hops n held T elem in
    let rest = told_from fewest true every hops (n + 1) (after_elem held elem) K elems in
    block before after n cs rest T K (event_sum fewest true every hops n held T elem e.0 t)
    (subst (λ (S : Entries). AnswerSteadily cs T (before n) S) (sym f.1) (subst (λ (R : Entries). AnswerSteadily cs T R (entries_of hops (after_elem held elem))) (sym f.0) (event_answers fewest every hops n held T elem e.0 t h a)))
    (runs before after fewest every hops (n + 1) (after_elem held elem) K elems (candidates_after held elem h e.0) e.1 (table_placed fewest hops held T elem e.0 t every n) (table_alike fewest hops held T elem e.0 t every n h a) f.2)
    (numbers_after fewest every hops n (n + 1) (after_elem held elem) K elems (omega arith))

-- ---- from the load on

load_goes : (hops : List Address) (held : Candidates) → Goes (in_steady_order (between [] (kept_at_load hops held))) [] (kept_at_load hops held) (entries_of hops held)
load_goes hops held =
    let K = kept_at_load hops held in
    goes_to (in_steady_order (between [] K)) [] K K (entries_of hops held) (loaded_alike hops held) (placed_goes [] K none_placed (snapshot_placed (entries_of hops held) []))

take_front : (xs ys : List Elem) → take (length xs) (xs ++ ys) ≡ xs
take_front [] ys = refl
take_front (x ∷ xs) ys = ap (λ zs. x ∷ zs) (take_front xs ys)

take_next : (xs : List Elem) (y : Elem) (ys : List Elem) → take (suc (length xs)) (xs ++ (y ∷ ys)) ≡ xs ++ (y ∷ [])
take_next [] y ys = refl
take_next (x ∷ xs) y ys = ap (λ zs. x ∷ zs) (take_next xs y ys)

after_next : (held : Candidates) (xs : List Elem) (y : Elem) → after_elems held (xs ++ (y ∷ [])) ≡ after_elem (after_elems held xs) y
after_next held [] y = refl
after_next held (x ∷ xs) y = after_next (after_elem held x) xs y

length_next : (xs : List Elem) (y : Elem) → length (xs ++ (y ∷ [])) ≡ suc (length xs)
length_next [] y = refl
length_next (x ∷ xs) y = ap suc (length_next xs y)

follows : (hops : List Address) (held now : Candidates) (all done elems : List Elem) (n : ℕ) → all ≡ done ++ elems → n ≡ suc (length done) → now ≡ after_elems held done → Follow (earlier_routes hops held all) (event_routes hops held all) hops n now elems
follows hops held now all done [] n e i h = tt
follows hops held now all done (elem ∷ elems) n e i h = (
  ap (earlier_routes hops held all) i ∙ (ap (λ (xs : List Elem). entries_of hops (after_elems held (take (length done) xs))) e ∙ (ap (λ (xs : List Elem). entries_of hops (after_elems held xs)) (take_front done (elem ∷ elems)) ∙ ap (entries_of hops) (sym h))),
  (ap (event_routes hops held all) i
      ∙ (ap (λ (xs : List Elem). entries_of hops (after_elems held (take (suc (length done)) xs))) e ∙ (ap (λ (xs : List Elem). entries_of hops (after_elems held xs)) (take_next done elem elems) ∙ ap (entries_of hops) (after_next held done elem ∙ ap (λ c. after_elem c elem) (sym h))))),
  follows hops held (after_elem now elem) all (done ++ (elem ∷ [])) elems (n + 1) (e ∙ sym (append_assoc done (elem ∷ []) elems)) (let s : n + 1 ≡ suc (length done) + 1 = ap (λ (k : ℕ). k + 1) i in omega (arith, s, length_next done elem)) (ap (λ c. after_elem c elem) h ∙ sym (after_next held done elem)),
)

pub meanwhile : (fewest : Bool) (every : ℕ) (hops : List Address) (held : Candidates) (elems : List Elem) → AreCandidates held → AllByRecursion IsElem elems → AnswerMeanwhile (told_of_run fewest true every hops held elems) (earlier_routes hops held elems) (event_routes hops held elems)
meanwhile fewest every hops held elems h e =
    let K = kept_at_load hops held in
    let cs = in_steady_order (between [] K) in
    let before = earlier_routes hops held elems in
    let after = event_routes hops held elems in
    let rest = told_from fewest true every hops 1 held K elems in
    let all : AnswerFrom (at_event 0 cs ++ rest) [] before after =
    block before after 0 cs rest [] K (goes_sum cs [] K (entries_of hops held) (load_goes hops held)) (answer_steadily cs [] K [] (entries_of hops held) (load_goes hops held) (λ a x. refl))
    (runs before after fewest every hops 1 held K elems h e (snapshot_placed (entries_of hops held) []) (loaded_alike hops held) (follows hops held held elems [] elems 1 refl refl refl))
    (numbers_after fewest every hops 0 1 held K elems (omega arith))
    in
    record { either = all.either; stays = all.stays }
