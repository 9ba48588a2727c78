-- With the fewest changes asked for, an event's first step makes a shortest list of changes, and its row tells how many.
use Rattle.std.proofs.Common.{◌≡◌, ℕ, ◌+◌, List, [], ◌∷◌, ◌++◌, Option, Some, None, true, false, length, refl, sym, ap, subst, ◌∙◌, arith, append_assoc, length-append}
use Rattle.std.specs.Prelude.{map}
use Rattle.std.specs.List.{AllByRecursion}
use Rattle.table_model.specs.Address.{Address, Prefix, IsPrefix}
use Rattle.table_model.specs.Entries.{Entries, of_family}
use Rattle.table_model.specs.Changes.{Change}
use Rattle.route_model.specs.Events.{Elem}
use Rattle.route_model.specs.Choice.{Candidates, IsElem, after_elem, after_elems}
use Rattle.kept_model.specs.Between.{between, place_of}
use Rattle.kept_model.proofs.Held.{Placed}
use Rattle.kept_model.proofs.Alike.{all_between, placed_are}
use Rattle.moves_model.specs.Dist.{distance}
use Rattle.moves_model.specs.Shortest.{AreShortest}
use Rattle.moves_model.proofs.Sound.{changes_dist_most}
use Rattle.kept_model.specs.Feed.{entries_of}
use Rattle.kept_model.specs.Kept.{changed_at, kept_at_load}
use Rattle.kept_model.proofs.FeedSteps.{elems_more}
use Rattle.moves_model.specs.Moved.{with_nearest, after_move, table_by, table_of_run}
use Rattle.moves_model.specs.Reported.{counted_at, first_changes, moves_from}
use Rattle.moves_model.specs.Fewest.{IsFewest}
use Rattle.moves_model.proofs.Nearest.{nearest_alike, nearest_makes, nearest_placed, nearest_shortest}
use Rattle.moves_model.proofs.Moved.{table_placed}
use Rattle.moves_model.proofs.Reported.{table_step}

-- ---- one event

pub move_shortest : (R : Entries) (at : Option Prefix) (T : Entries) (p : Prefix) → Placed T → at ≡ Some p → AreShortest p.family R T (between T (after_move true R at T))
move_shortest R None T p t e = absurd cc
move_shortest R (Some q) T p t e = let s : q ≡ p = cc in subst (λ (x : Prefix). AreShortest x.family R T (between T (with_nearest q.family R T))) s (nearest_shortest q.family R T t)

pub counted : (at : Option Prefix) (n : ℕ) (cs : List Change) (p : Prefix) → at ≡ Some p → counted_at at n cs ≡ (n, length cs) ∷ []
counted None n cs p e = absurd cc
counted (Some q) n cs p e = refl

pub uncounted : (at : Option Prefix) (n : ℕ) (cs : List Change) → at ≡ None → counted_at at n cs ≡ []
uncounted None n cs e = refl
uncounted (Some q) n cs e = absurd cc

all_places : (P : Prefix → Type 0) (cs : List Change) → AllByRecursion P (map place_of cs) → AllByRecursion (λ c. P (place_of c)) cs
all_places P [] a = tt
all_places P (c ∷ cs) a = (a.0, all_places P cs a.1)

-- the tables differ at just so many prefixes
move_reached : (R : Entries) (p : Prefix) (T : Entries) → Placed T → distance (of_family p.family T) (of_family p.family (with_nearest p.family R T)) ≡ length (between T (with_nearest p.family R T))
move_reached R p T t =
    let f = p.family in
    let N = with_nearest f R T in
    let cs = between T N in
    let s : AreShortest f R T cs = nearest_shortest f R T t in
    let places = all_places IsPrefix cs (all_between IsPrefix T N t.0 (nearest_placed f R T t).0) in
    omega (arith, changes_dist_most f T N cs (placed_are T t) places (nearest_makes f R T t), s.fewest (of_family f N) (nearest_alike f R T t))

-- ---- the events of a run

module _ (every : ℕ) (hops : List Address) (held : Candidates) (all : List Elem) where
  -- the row of an event after which the candidates and the table are these
  row : (done : List Elem) (elem : Elem) (elems : List Elem) (n : ℕ) (p : Prefix) → all ≡ done ++ elem ∷ elems → n ≡ length done + 1
      → Placed (table_of_run true every hops held done) → changed_at (after_elems held done) elem ≡ Some p
      → IsFewest every hops held all (n, length (first_changes true hops (after_elems held done) (table_of_run true every hops held done) elem))
  row done elem elems n p e i t x =
      let now = after_elems held done in
      let T = table_of_run true every hops held done in
      let R = entries_of hops (after_elem now elem) in
      record {
        before = done;
        elem = elem;
        later = elems;
        prefix = p;
        place = e;
        number = i;
        changed = x;
        reached = ap (λ (at : Option Prefix). distance (of_family p.family T) (of_family p.family (after_move true R at T))) x
            ∙ (move_reached R p T t ∙ sym (ap (λ (at : Option Prefix). length (between T (after_move true R at T))) x));
        fewest = (move_shortest R (changed_at now elem) T p t x).fewest;
      }

  pub rows : (done elems : List Elem) (n : ℕ) (now : Candidates) (T : Entries) → all ≡ done ++ elems → n ≡ length done + 1 → now ≡ after_elems held done → T ≡ table_of_run true every hops held done → Placed T → AllByRecursion IsElem elems
      → AllByRecursion (IsFewest every hops held all) (moves_from true every hops n now T elems)
  unfolding moves_from
  rows done [] n now T e i h k t a = tt
  rows done (elem ∷ elems) n now T e i h k t a =
      by_change (changed_at now elem) refl
      (rows (done ++ elem ∷ []) elems (n + 1) (after_elem now elem) (table_by true every hops n now T elem) (e ∙ sym (append_assoc done (elem ∷ []) elems)) (omega (arith, i, length-append done (elem ∷ [])))
      (ap (λ c. after_elem c elem) h ∙ sym (elems_more held done (elem ∷ []))) next (table_placed true hops now T elem a.0 t every n) a.1)
    where
      next : table_by true every hops n now T elem ≡ table_of_run true every hops held (done ++ elem ∷ [])
      next =
          ap (λ (m : ℕ). table_by true every hops m now T elem) i
          ∙ (ap (λ (c : Candidates). table_by true every hops (length done + 1) c T elem) h
          ∙ (ap (λ (X : Entries). table_by true every hops (length done + 1) (after_elems held done) X elem) k ∙ sym (table_step true false every hops held (kept_at_load hops held) done elem)))

      here : (p : Prefix) → changed_at now elem ≡ Some p → IsFewest every hops held all (n, length (first_changes true hops now T elem))
      here p x =
          subst (λ (c : Candidates). IsFewest every hops held all (n, length (first_changes true hops c T elem))) (sym h)
          (subst (λ (X : Entries). IsFewest every hops held all (n, length (first_changes true hops (after_elems held done) X elem))) (sym k)
          (row done elem elems n p e i (subst Placed k t) (ap (λ c. changed_at c elem) (sym h) ∙ x)))

      by_change : (at : Option Prefix) → changed_at now elem ≡ at → AllByRecursion (IsFewest every hops held all) (moves_from true every hops (n + 1) (after_elem now elem) (table_by true every hops n now T elem) elems)
          → AllByRecursion (IsFewest every hops held all) (counted_at at n (first_changes true hops now T elem) ++ moves_from true every hops (n + 1) (after_elem now elem) (table_by true every hops n now T elem) elems)
      by_change None x more = more
      by_change (Some p) x more = (here p x, more)
