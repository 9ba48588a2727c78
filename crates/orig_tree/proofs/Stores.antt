-- Places that are written: what the nodes are then, and what is kept.
use Rattle.std.proofs.Common.{◌≡◌, ◌≢◌, ℕ, zero, suc, ◌-◌, ◌<◌, ◌≤◌, List, [], ◌∷◌, ◌++◌, length, map, Bool, true, false, refl, sym, ap, ◌∙◌, arith, slice_set, vec_len}
use Rattle.std.specs.Prelude.{nat_eq, slice_index_or, cond}
use Rattle.std.proofs.lemmas.Bool.{eqb-true, eqb-false}
use Rattle.std.proofs.lemmas.Grind.{get_or-set_at}
use Rattle.std.proofs.lemmas.List.{get_or-set_other, length-map, map-set, map-append, get_or-map}
use Rattle.std.proofs.Math.Seq.{map-set_same}
use Rattle.orig_tree.specs.Arena.{cells_of, blank_cell}
use Rattle.orig_tree.specs.Bests.{bests_of, best_in, best_one, put_at}
use Rattle.orig_tree.specs.declared.node.Place.{Place}
use Rattle.orig_tree.specs.declared.node.Nodes.{Nodes}
use Rattle.orig_tree.specs.declared.best.Best.{Best}

pub cells_long : (n : Nodes) → length (cells_of n) ≡ suc (vec_len n.halves)
cells_long n = omega (arith, length-map n.halves.items (λ (p : Place). p.node), n.halves.ok.0)

-- what is seen of the places where one was written
pub seen_put : {A : Type 0} (f : Place → A) (root : Place) (xs : List Place) (i : ℕ) (x : Place) → i ≢ 0 → f root ∷ map f (slice_set xs (i - 1) x) ≡ slice_set (f root ∷ map f xs) i (f x)
seen_put f root xs zero x z = absurd (z refl)
seen_put f root xs (suc j) x z =
    let e : suc j - 1 ≡ j = omega arith in
    ap (λ k. f root ∷ map f (slice_set xs k x)) e ∙ ap (λ l. f root ∷ l) (map-set f xs j x)

-- and where nothing of that was changed
pub seen_same : {A : Type 0} (f : Place → A) (root : Place) (xs : List Place) (i : ℕ) (x d : Place) → f x ≡ f (slice_index_or xs i d) → f root ∷ map f (slice_set xs i x) ≡ f root ∷ map f xs
seen_same f root xs i x d e = ap (λ l. f root ∷ l) (map-set_same f xs i x d e)

-- and where one was added
pub seen_push : {A : Type 0} (f : Place → A) (root : Place) (xs ys : List Place) (x : Place) → ys ≡ xs ++ (x ∷ []) → f root ∷ map f ys ≡ (f root ∷ map f xs) ++ (f x ∷ [])
seen_push f root xs ys x e = ap (λ l. f root ∷ l) (ap (map f) e ∙ map-append f xs (x ∷ []))

-- what is kept where one was written
pub best_put : (old : List Best) (i j : ℕ) (x : Best) → (j ≡ i → i < length old) → slice_index_or (slice_set old i x) j (best_one 0) ≡ put_at (λ k. slice_index_or old k (best_one 0)) i x j
best_put old i j x l = (elim (nat_eq j i) as (λ t. nat_eq j i ≡ t → slice_index_or (slice_set old i x) j (best_one 0) ≡ put_at (λ k. slice_index_or old k (best_one 0)) i x j) [
  | true ↦ λ h.
      let e : j ≡ i = eqb-true j i h in
      get_or-set_at old i j x (best_one 0) e (l e) ∙ sym (ap (λ (b : Bool). cond b x (slice_index_or old j (best_one 0))) h)
  | false ↦ λ h.
      let n : j ≢ i = eqb-false j i h in
      get_or-set_other old i j x (best_one 0) n ∙ sym (ap (λ (b : Bool). cond b x (slice_index_or old j (best_one 0))) h)
]) refl

-- the same of the places themselves
pub kept_put : (root : Place) (xs : List Place) (i j : ℕ) (y : Place) (x : Best) → y.best ≡ x → i ≢ 0 → (j ≡ i → i ≤ length xs) →
    slice_index_or (root.best ∷ map (λ (p : Place). p.best) (slice_set xs (i - 1) y)) j (best_one 0) ≡ put_at (λ k. slice_index_or (root.best ∷ map (λ (p : Place). p.best) xs) k (best_one 0)) i x j
kept_put root xs i j y x e z l =
    let f = λ (p : Place). p.best in
    ap (λ o. slice_index_or o j (best_one 0)) (seen_put f root xs i y z ∙ ap (slice_set (root.best ∷ map f xs) i) e)
    ∙ best_put (root.best ∷ map f xs) i j x (λ h. omega (arith, l h, length-map xs f))

-- what a place keeps, read at the place itself
pub kept_at : (root : Place) (xs : List Place) (i : ℕ) (d : Place) → i ≢ 0 → i ≤ length xs → (slice_index_or xs (i - 1) d).best ≡ slice_index_or (root.best ∷ map (λ (p : Place). p.best) xs) i (best_one 0)
kept_at root xs zero d z l = absurd (z refl)
kept_at root xs (suc j) d z l =
    let e : suc j - 1 ≡ j = omega arith in
    ap (λ k. (slice_index_or xs k d).best) e ∙ sym (get_or-map (λ (p : Place). p.best) xs j d (best_one 0) (omega (arith, l)))

-- the node of a place, read at the place itself
pub node_at : (root : Place) (xs : List Place) (i : ℕ) (d : Place) → i ≢ 0 → i ≤ length xs → (slice_index_or xs (i - 1) d).node ≡ slice_index_or (root.node ∷ map (λ (p : Place). p.node) xs) i blank_cell
node_at root xs zero d z l = absurd (z refl)
node_at root xs (suc j) d z l =
    let e : suc j - 1 ≡ j = omega arith in
    ap (λ k. (slice_index_or xs k d).node) e ∙ sym (get_or-map (λ (p : Place). p.node) xs j d blank_cell (omega (arith, l)))

-- what is kept, where no place keeps anything else
pub kept_is : (old new : Nodes) → bests_of new ≡ bests_of old → best_in new ≡ best_in old
kept_is old new e = ap {B = ℕ → Best} (λ (l : List Best) (j : ℕ). slice_index_or l j (best_one 0)) e

pub bests_same : (old new : Nodes) → bests_of new ≡ bests_of old → (j : ℕ) → best_in new j ≡ best_in old j
bests_same old new e j = ap (λ l. slice_index_or l j (best_one 0)) e

pub put_same : (S T : ℕ → Best) (i j : ℕ) (x : Best) → ((k : ℕ) → S k ≡ T k) → put_at S i x j ≡ put_at T i x j
put_same S T i j x e = ap (cond (nat_eq j i) x) (e j)
