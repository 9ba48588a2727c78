-- VRPs with their numbers: each is the list's of that number, and the list's are all there, in any order.
use Rattle.std.proofs.Common.{◌≡◌, ℕ, zero, suc, ◌+◌, ◌<◌, ◌≤◌, List, [], ◌∷◌, ◌++◌, length, drop, get_or, refl, sym, ap, subst, ◌∙◌, arith, append_assoc, append-nil, zero-add}
use Rattle.std.proofs.lemmas.List.{drop_all, drop_more, get_or_default}
use Rattle.std.proofs.lemmas.List.Elements.{Contains-get_or}
use Rattle.std.proofs.lemmas.List.Sorted.{IsPermutation-refl, All-permutation, Contains-permutation}
use Rattle.std.specs.List.{All, Contains}
use Rattle.std.specs.List.Sorted.{IsPermutation}
use Rattle.fib_rov.specs.declared.vrp.Vrp.{Vrp}
use Rattle.fib_rov.specs.declared.numbered.Numbered.{Numbered}
use Rattle.fib_rov.specs.Index.{IsIndex, numbered, vrp_of, with_number}

many : (n : ℕ) (list : List Vrp) → length (numbered n list) ≡ length list
unfolding numbered
many n [] = refl
many n (v ∷ list) = ap suc (many (n + 1) list)

numbered_at : (n k : ℕ) (list : List Vrp) (r : Numbered) (v : Vrp) → k < length list → get_or (numbered n list) k r ≡ with_number (n + k) (get_or list k v)
unfolding numbered
numbered_at n k [] r v h = absurd (omega arith)
numbered_at n zero (x ∷ list) r v h = let e : n ≡ n + 0 = omega arith in ap (λ m. with_number m x) e
numbered_at n (suc k) (x ∷ list) r v h = let e : n + 1 + k ≡ n + suc k = omega arith in numbered_at (n + 1) k list r v (omega arith) ∙ ap (λ m. with_number m (get_or list k v)) e

from_zero : (k : ℕ) (list : List Vrp) (r : Numbered) (v : Vrp) → k < length list → get_or (numbered 0 list) k r ≡ with_number k (get_or list k v)
from_zero k list r v h = numbered_at 0 k list r v h ∙ ap (λ m. with_number m (get_or list k v)) (zero-add k)

-- it's the list's VRP of its number
pub record IsOf (list : List Vrp) (r : Numbered) : Type 0 where
  pub few : r.number < length list
  pub vrp : (v : Vrp) → get_or list r.number v ≡ vrp_of r

each_is : (list : List Vrp) → All (IsOf list) (numbered 0 list)
each_is list k r h =
    let few : k < length list = omega (arith, h, many 0 list) in
    let here : (v : Vrp) → get_or (numbered 0 list) k r ≡ with_number k (get_or list k v) = λ v. from_zero k list r v few in
    subst (IsOf list) (sym (here (vrp_of r))) (record { few = few; vrp = λ v. get_or_default list k v (vrp_of r) few })

pub row_is : (list : List Vrp) (sorted : List Numbered) → IsPermutation (numbered 0 list) sorted → (i : ℕ) (r : Numbered) → i < length sorted → IsOf list (get_or sorted i r)
row_is list sorted same i r h = All-permutation (IsOf list) (numbered 0 list) sorted same (each_is list) i r h

-- the place of the list's VRP of a number
pub row_at : (list : List Vrp) (sorted : List Numbered) → IsPermutation (numbered 0 list) sorted → (k : ℕ) (v : Vrp) → k < length list → Contains sorted (with_number k (get_or list k v))
row_at list sorted same k v h =
    let d = with_number k (get_or list k v) in
    Contains-permutation (numbered 0 list) sorted d same (subst (Contains (numbered 0 list)) (from_zero k list d v h) (Contains-get_or (numbered 0 list) k d (omega (arith, many 0 list))))

-- ---- one VRP after another

pub numbered_more : (list : List Vrp) (done : List Numbered) (i : ℕ) (d : Vrp) → i < length list → done ++ numbered i (drop i list) ≡ numbered 0 list → (done ++ with_number i (get_or list i d) ∷ []) ++ numbered (i + 1) (drop (i + 1) list) ≡ numbered 0 list
unfolding numbered
numbered_more list done i d h e =
    append_assoc done (with_number i (get_or list i d) ∷ []) (numbered (i + 1) (drop (i + 1) list)) ∙ (ap (λ xs. done ++ numbered i xs) (sym (drop_more list i d h)) ∙ e)

pub numbered_whole : (list : List Vrp) (done : List Numbered) (i : ℕ) → length list ≤ i → done ++ numbered i (drop i list) ≡ numbered 0 list → done ≡ numbered 0 list
unfolding numbered
numbered_whole list done i h e = sym (ap (λ xs. done ++ numbered i xs) (drop_all i list h) ∙ append-nil done) ∙ e

pub numbered_none : (list : List Vrp) → list ≡ [] → numbered 0 list ≡ []
unfolding numbered
numbered_none list e = ap (numbered 0) e

-- the index of no VRPs
pub index_of_none : (list : List Vrp) (sorted : List Numbered) (links : List ℕ) → list ≡ [] → sorted ≡ [] → IsIndex list sorted links
index_of_none list sorted links e s = record {
  same = subst (λ xs. IsPermutation xs sorted) (s ∙ sym (numbered_none list e)) (IsPermutation-refl sorted);
  ordered = λ k d h lt. absurd (omega (arith, ap length s));
  linked = record { many = omega (arith, ap length s); each = λ i r h. absurd (omega (arith, ap length s)) };
}
