-- Regions of a tree's routes.
use Rattle.std.proofs.Common.{◌≡◌, ◌≢◌, ℕ, ◌≤◌, List, ◌++◌, Bool, Option, Some, None, length, take, refl, sym, ap, ◌∙◌}
use Rattle.std.proofs.lemmas.List.{take-append-le}
use Rattle.table_model.specs.declared.family.Family.{Family}
use Rattle.table_model.specs.Table.{Table, half, inherit, lpm, root}
use Rattle.table_model.specs.Entries.{Entries, of_family}
use Rattle.table_model.proofs.Cut.{lpm_cut}
use Rattle.table_model.specs.Sets.{answers, k_of, side}
use Rattle.table_model.proofs.Cost.{k_uniform}
use Rattle.fib_addr.specs.Answers.{one_answer, part, all_answers}
use Rattle.fib_addr.proofs.OneAnswer.{one_answer_is}
use Rattle.orig_tree.specs.Spots.{Spot, spot_answers}

same_function : (f g : List Bool → ℕ) → ((a : List Bool) → f a ≡ g a) → f ≡ g
same_function f g h = λ i a. h a i

-- a region that costs an entry has two answers
pub not_one : (d : ℕ) (f : List Bool → ℕ) → k_of d f ≢ 0 → one_answer d f ≡ None
not_one d f n = by (one_answer d f) refl
  where
    by : (o : Option ℕ) → one_answer d f ≡ o → o ≡ None
    by None e = refl
    by (Some h) e = absurd (n (k_uniform d f h (one_answer_is d f h e)))

pub half_answers : (r s : Spot) (b : Bool) → s.routes ≡ half b r.routes → s.hop ≡ inherit (root r.routes) r.hop → spot_answers s ≡ side b (spot_answers r)
half_answers r s b m i =
    same_function (spot_answers s) (side b (spot_answers r))
    (λ a. ap (λ (T : Table). lpm T a s.hop) m ∙ (ap (lpm (half b r.routes) a) i ∙ sym (lpm_cut r.routes b a r.hop)))

-- the region of a prefix whose bits are known
pub prefix_answers : (r : Spot) (f : Family) (R : Entries) (p q : List Bool) → ((a : List Bool) → spot_answers r a ≡ answers (of_family f R) p a) → p ≡ q → spot_answers r ≡ part q (all_answers f R)
prefix_answers r f R p q h e =
    same_function (spot_answers r) (part q (all_answers f R)) (λ a. h a ∙ ap (λ (x : List Bool). lpm (of_family f R) (x ++ a) 0) e)

pub first_taken : (n : ℕ) (xs ys : List Bool) → n ≤ length xs → take n (xs ++ ys) ≡ take n xs
first_taken n xs ys l = take-append-le n xs ys l
