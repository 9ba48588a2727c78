-- Needs on the way to a path, slot by slot.
use Rattle.std.proofs.Common.{◌≡◌, ℕ, zero, suc, ◌+◌, ◌-◌, ◌*◌, ◌≤◌, List, [], ◌∷◌, ◌++◌, Bool, true, false, Option, Some, None, length, take, drop, refl, sym, ap, ◌∙◌, arith, inl, inr}
use Rattle.std.specs.Prelude.{if◌then◌else◌}
use Rattle.std.proofs.lemmas.Bool.{cases_lt}
use Rattle.std.proofs.lemmas.List.{length-take}
use Rattle.table_model.specs.Bits.{bits_of, begins}
use Rattle.table_model.proofs.BitLaws.{length-bits_of}
use Rattle.buddy_arena.specs.Powers.{up}
use Rattle.fib_addr.specs.Answers.{one_answer}
use Rattle.fib_addr.proofs.OneAnswer.{one_answer_part, mixed_bits}
use Rattle.poptrie_build.specs.Strides.{slots, slot, slot_bits, total}
use Rattle.poptrie_build.specs.Need.{need_in_u64, children, runs, if_mixed, need_nodes, need_leaves}
use Rattle.poptrie_build.proofs.Counting.{nodes_at, leaves_at, need_nodes_is, need_leaves_is, no_nodes, no_leaves}
use Rattle.poptrie_build.specs.Tally.{IsNeed}
use Rattle.poptrie_build.specs.declared.counts.Needs.{Needs}
use Rattle.route_tries.specs.Parts.{AreMoved, meet, way_nodes, way_leaves}
use Rattle.route_tries.specs.Way.{nodes_below, leaves_below}
use Rattle.route_tries.proofs.Meeting.{apart, within, meet_none}

pub same_function : (f g : List Bool → ℕ) → ((a : List Bool) → f a ≡ g a) → f ≡ g
same_function f g h = λ i a. h a i

-- both answer alike where an address doesn't begin with p
abbrev pub AlikeElse : List Bool → (List Bool → ℕ) → (List Bool → ℕ) → Type 0
AlikeElse p f g = (a : List Bool) → begins p a ≡ false → f a ≡ g a

-- ---- sums
total_same : (g h : ℕ → ℕ) (n : ℕ) → ((u : ℕ) → g u ≡ h u) → total g n ≡ total h n
unfolding total
total_same g h zero e = refl
total_same g h (suc n) e = omega (arith, total_same g h n e, e n)

total_none : (g : ℕ → ℕ) (n : ℕ) → ((u : ℕ) → g u ≡ 0) → total g n ≡ 0
unfolding total
total_none g zero e = refl
total_none g (suc n) e = omega (arith, total_none g n e, e n)

pub total_moved : (n m x y : ℕ → ℕ) (j : ℕ) → ((u : ℕ) → AreMoved (n u) (m u) (x u) (y u)) → AreMoved (total n j) (total m j) (total x j) (total y j)
unfolding total
total_moved n m x y zero h = record { few = omega arith; same = refl }
total_moved n m x y (suc j) h =
    let t = total_moved n m x y j h in
    let s = h j in
    record { few = omega (arith, t.few, s.few); same = omega (arith, t.same, s.same) }

-- ---- slots of six bits
take_all : {A : Type 0} (n : ℕ) (xs : List A) → length xs ≤ n → take n xs ≡ xs
take_all zero [] h = refl
take_all zero (x ∷ xs) h = absurd (omega arith)
take_all (suc n) [] h = refl
take_all (suc n) (x ∷ xs) h = ap (λ t. x ∷ t) (take_all n xs (omega arith))

pub six : (d v : ℕ) → 6 ≤ d → slot_bits d v ≡ bits_of 6 v
six d v l = take_all d (bits_of 6 v) (omega (arith, length-bits_of 6 v))

-- a slot of a uniform region is uniform
slot_one : (d h v : ℕ) (f : List Bool → ℕ) → one_answer d f ≡ Some h → one_answer (d - 6) (slot d f v) ≡ Some h
slot_one d h v f e = one_answer_part d (d - 6) f h (slot_bits d v) (omega (arith, length-take d (bits_of 6 v), length-bits_of 6 v)) e

one_here : (f : List Bool → ℕ) → one_answer 0 f ≡ Some (f [])
unfolding one_answer
one_here f = refl

-- ---- A need N over strides and the need W on the way to a path: each has the node's own places and a sum over its slots, of which
-- those that meet the path have a share in W.
module _ (N : ℕ → ℕ → (List Bool → ℕ) → ℕ) (W : ℕ → ℕ → (List Bool → ℕ) → List Bool → ℕ) (own : ℕ → (List Bool → ℕ) → ℕ) (no_strides : (d : ℕ) (f : List Bool → ℕ) → N 0 d f ≡ 0) (no_way_strides : (d : ℕ) (f : List Bool → ℕ) (p : List Bool) → W 0 d f p ≡ 0) (one : (k h : ℕ) (f : List Bool → ℕ) → one_answer 0 f ≡ Some h → N k 0 f ≡ 0) (way_one : (k h : ℕ) (f : List Bool → ℕ) (p : List Bool) → one_answer 0 f ≡ Some h → W k 0 f p ≡ 0)
    (by_slots : (k d : ℕ) (f : List Bool → ℕ) → N (suc k) d f ≡ own d f + total (λ v. N k (d - 6) (slot d f v)) 64) (way_by_slots : (k d : ℕ) (f : List Bool → ℕ) (p : List Bool) → W (suc k) d f p ≡ own d f + total (λ v. if meet (bits_of 6 v) p then W k (d - 6) (slot d f v) (drop 6 p) else 0) 64) where
  -- with nothing left of the path it is the whole need
  pub whole_way : (k d : ℕ) (f : List Bool → ℕ) → W k d f [] ≡ N k d f
  whole_way zero d f = no_way_strides d f [] ∙ sym (no_strides d f)
  whole_way (suc k) d f =
      let s = total_same (λ v. if meet (bits_of 6 v) [] then W k (d - 6) (slot d f v) [] else 0) (λ v. N k (d - 6) (slot d f v)) 64 (λ v. ap (λ b. if b then W k (d - 6) (slot d f v) [] else 0) (meet_none (bits_of 6 v)) ∙ whole_way k (d - 6) (slot d f v)) in
      omega (arith, s, by_slots k d f, way_by_slots k d f [])

  no_bits : (k d : ℕ) (f : List Bool → ℕ) → d ≡ 0 → N k d f ≡ 0
  no_bits k d f e = ap (λ n. N k n f) e ∙ one k (f []) f (one_here f)

  no_way_bits : (k d : ℕ) (f : List Bool → ℕ) (p : List Bool) → d ≡ 0 → W k d f p ≡ 0
  no_way_bits k d f p e = ap (λ n. W k n f p) e ∙ way_one k (f []) f p (one_here f)

  slot_moved : (k d v : ℕ) (f g : List Bool → ℕ) (p : List Bool) → 6 ≤ d → AlikeElse p f g → ((x y : List Bool → ℕ) (q : List Bool) → AlikeElse q x y → AreMoved (N k (d - 6) x) (N k (d - 6) y) (W k (d - 6) x q) (W k (d - 6) y q)) → (b : Bool) → meet (bits_of 6 v) p ≡ b →
      AreMoved (N k (d - 6) (slot d f v)) (N k (d - 6) (slot d g v)) (if b then W k (d - 6) (slot d f v) (drop 6 p) else 0) (if b then W k (d - 6) (slot d g v) (drop 6 p) else 0)
  slot_moved k d v f g p l h ih true e =
      let met : meet (slot_bits d v) p ≡ true = ap (λ q. meet q p) (six d v l) ∙ e in
      let long : length (slot_bits d v) ≡ 6 = ap length (six d v l) ∙ length-bits_of 6 v in
      ih (slot d f v) (slot d g v) (drop 6 p) (λ a z. h (slot_bits d v ++ a) (within (slot_bits d v) p a met ∙ (ap (λ n. begins (drop n p) a) long ∙ z)))
  slot_moved k d v f g p l h ih false e =
      let met : meet (slot_bits d v) p ≡ false = ap (λ q. meet q p) (six d v l) ∙ e in
      let same = ap (N k (d - 6)) (same_function (slot d f v) (slot d g v) (λ a. h (slot_bits d v ++ a) (apart (slot_bits d v) p a met))) in
      record { few = omega arith; same = omega (arith, same) }

  -- a change within the path
  pub way_moved : (k d : ℕ) (f g : List Bool → ℕ) (p : List Bool) → AlikeElse p f g → AreMoved (N k d f) (N k d g) (W k d f p) (W k d g p)
  way_moved zero d f g p h =
      record { few = omega (arith, no_way_strides d f p); same = omega (arith, no_strides d f, no_strides d g, no_way_strides d f p, no_way_strides d g p) }
  way_moved (suc k) d f g p h =
      let t = total_moved (λ v. N k (d - 6) (slot d f v)) (λ v. N k (d - 6) (slot d g v)) (λ v. if meet (bits_of 6 v) p then W k (d - 6) (slot d f v) (drop 6 p) else 0) (λ v. if meet (bits_of 6 v) p then W k (d - 6) (slot d g v) (drop 6 p) else 0) 64
      (λ v. elim (cases_lt d 6) [
        | inl l ↦ (let z : d - 6 ≡ 0 = omega arith in none v z (meet (bits_of 6 v) p))
        | inr l ↦ slot_moved k d v f g p l h (way_moved k (d - 6)) (meet (bits_of 6 v) p) refl
      ])
      in
      record { few = omega (arith, t.few, by_slots k d f, way_by_slots k d f p); same = omega (arith, t.same, by_slots k d f, by_slots k d g, way_by_slots k d f p, way_by_slots k d g p) }
    where
      none : (v : ℕ) → d - 6 ≡ 0 → (b : Bool) → AreMoved (N k (d - 6) (slot d f v)) (N k (d - 6) (slot d g v)) (if b then W k (d - 6) (slot d f v) (drop 6 p) else 0) (if b then W k (d - 6) (slot d g v) (drop 6 p) else 0)
      none v z true = record { few = omega (arith, no_way_bits k (d - 6) (slot d f v) (drop 6 p) z); same = omega (arith, no_bits k (d - 6) (slot d f v) z, no_bits k (d - 6) (slot d g v) z, no_way_bits k (d - 6) (slot d f v) (drop 6 p) z, no_way_bits k (d - 6) (slot d g v) (drop 6 p) z) }
      none v z false = record { few = omega arith; same = omega (arith, no_bits k (d - 6) (slot d f v) z, no_bits k (d - 6) (slot d g v) z) }

-- ---- nodes
abbrev pub slot_nodes : ℕ → ℕ → (List Bool → ℕ) → List Bool → ℕ → ℕ
slot_nodes k d f p v = nodes_below 6 k (d - 6) (slot d f v) p v

abbrev pub own_nodes : ℕ → (List Bool → ℕ) → ℕ
own_nodes d f = if_mixed (one_answer d f) (up (children (slots d f)))

pub no_way_nodes : (k d h : ℕ) (f : List Bool → ℕ) (p : List Bool) → one_answer d f ≡ Some h → way_nodes k d f p ≡ 0
unfolding way_nodes
no_way_nodes zero d h f p e = refl
no_way_nodes (suc k) d h f p e = ap (λ x. if_mixed x (up (children (slots d f)) + total (slot_nodes k d f p) 64)) e

pub way_nodes_is : (k d : ℕ) (f : List Bool → ℕ) (p : List Bool) → one_answer d f ≡ None → way_nodes (suc k) d f p ≡ up (children (slots d f)) + total (slot_nodes k d f p) 64
unfolding way_nodes
way_nodes_is k d f p e = ap (λ x. if_mixed x (up (children (slots d f)) + total (slot_nodes k d f p) 64)) e

-- below a uniform slot nothing is needed
pub no_nodes_below : (k e h v : ℕ) (f : List Bool → ℕ) (p : List Bool) → one_answer e f ≡ Some h → nodes_below 6 k e f p v ≡ 0
no_nodes_below k e h v f p o = by (meet (bits_of 6 v) p)
  where
    by : (b : Bool) → (if b then way_nodes k e f (drop 6 p) else 0) ≡ 0
    by true = no_way_nodes k e h f (drop 6 p) o
    by false = refl

pub nodes_by_slots : (k d : ℕ) (f : List Bool → ℕ) → need_nodes (suc k) d f ≡ own_nodes d f + total (nodes_at k d f) 64
nodes_by_slots k d f = by (one_answer d f) refl
  where
    by : (o : Option ℕ) → one_answer d f ≡ o → need_nodes (suc k) d f ≡ own_nodes d f + total (nodes_at k d f) 64
    by None e = need_nodes_is k d f e ∙ sym (ap (λ x. if_mixed x (up (children (slots d f))) + total (nodes_at k d f) 64) e)
    by (Some h) e = omega (arith, no_nodes (suc k) d h f e, ap (λ x. if_mixed x (up (children (slots d f)))) e, total_none (nodes_at k d f) 64 (λ v. no_nodes k (d - 6) h (slot d f v) (slot_one d h v f e)))

way_nodes_by_slots : (k d : ℕ) (f : List Bool → ℕ) (p : List Bool) → way_nodes (suc k) d f p ≡ own_nodes d f + total (slot_nodes k d f p) 64
way_nodes_by_slots k d f p = by (one_answer d f) refl
  where
    by : (o : Option ℕ) → one_answer d f ≡ o → way_nodes (suc k) d f p ≡ own_nodes d f + total (slot_nodes k d f p) 64
    by None e = way_nodes_is k d f p e ∙ sym (ap (λ x. if_mixed x (up (children (slots d f))) + total (slot_nodes k d f p) 64) e)
    by (Some h) e = omega (arith, no_way_nodes (suc k) d h f p e, ap (λ x. if_mixed x (up (children (slots d f)))) e, total_none (slot_nodes k d f p) 64 (λ v. no_nodes_below k (d - 6) h v (slot d f v) p (slot_one d h v f e)))

pub no_strides_nodes : (d : ℕ) (f : List Bool → ℕ) → need_nodes 0 d f ≡ 0
unfolding need_nodes
no_strides_nodes d f = refl

no_way_strides_nodes : (d : ℕ) (f : List Bool → ℕ) (p : List Bool) → way_nodes 0 d f p ≡ 0
unfolding way_nodes
no_way_strides_nodes d f p = refl

pub whole_nodes : (k d : ℕ) (f : List Bool → ℕ) → way_nodes k d f [] ≡ need_nodes k d f
whole_nodes = whole_way need_nodes way_nodes own_nodes no_strides_nodes no_way_strides_nodes (λ k h f e. no_nodes k 0 h f e) (λ k h f p e. no_way_nodes k 0 h f p e) nodes_by_slots way_nodes_by_slots

pub nodes_moved_below : (k d : ℕ) (f g : List Bool → ℕ) (p : List Bool) → AlikeElse p f g → AreMoved (need_nodes k d f) (need_nodes k d g) (way_nodes k d f p) (way_nodes k d g p)
nodes_moved_below = way_moved need_nodes way_nodes own_nodes no_strides_nodes no_way_strides_nodes (λ k h f e. no_nodes k 0 h f e) (λ k h f p e. no_way_nodes k 0 h f p e) nodes_by_slots way_nodes_by_slots

-- ---- leaves
abbrev pub slot_leaves : ℕ → ℕ → (List Bool → ℕ) → List Bool → ℕ → ℕ
slot_leaves k d f p v = leaves_below 6 k (d - 6) (slot d f v) p v

abbrev pub own_leaves : ℕ → (List Bool → ℕ) → ℕ
own_leaves d f = if_mixed (one_answer d f) (up (runs (slots d f)))

pub no_way_leaves : (k d h : ℕ) (f : List Bool → ℕ) (p : List Bool) → one_answer d f ≡ Some h → way_leaves k d f p ≡ 0
unfolding way_leaves
no_way_leaves zero d h f p e = refl
no_way_leaves (suc k) d h f p e = ap (λ x. if_mixed x (up (runs (slots d f)) + total (slot_leaves k d f p) 64)) e

pub way_leaves_is : (k d : ℕ) (f : List Bool → ℕ) (p : List Bool) → one_answer d f ≡ None → way_leaves (suc k) d f p ≡ up (runs (slots d f)) + total (slot_leaves k d f p) 64
unfolding way_leaves
way_leaves_is k d f p e = ap (λ x. if_mixed x (up (runs (slots d f)) + total (slot_leaves k d f p) 64)) e

-- below a uniform slot nothing is needed
pub no_leaves_below : (k e h v : ℕ) (f : List Bool → ℕ) (p : List Bool) → one_answer e f ≡ Some h → leaves_below 6 k e f p v ≡ 0
no_leaves_below k e h v f p o = by (meet (bits_of 6 v) p)
  where
    by : (b : Bool) → (if b then way_leaves k e f (drop 6 p) else 0) ≡ 0
    by true = no_way_leaves k e h f (drop 6 p) o
    by false = refl

pub leaves_by_slots : (k d : ℕ) (f : List Bool → ℕ) → need_leaves (suc k) d f ≡ own_leaves d f + total (leaves_at k d f) 64
leaves_by_slots k d f = by (one_answer d f) refl
  where
    by : (o : Option ℕ) → one_answer d f ≡ o → need_leaves (suc k) d f ≡ own_leaves d f + total (leaves_at k d f) 64
    by None e = need_leaves_is k d f e ∙ sym (ap (λ x. if_mixed x (up (runs (slots d f))) + total (leaves_at k d f) 64) e)
    by (Some h) e = omega (arith, no_leaves (suc k) d h f e, ap (λ x. if_mixed x (up (runs (slots d f)))) e, total_none (leaves_at k d f) 64 (λ v. no_leaves k (d - 6) h (slot d f v) (slot_one d h v f e)))

way_leaves_by_slots : (k d : ℕ) (f : List Bool → ℕ) (p : List Bool) → way_leaves (suc k) d f p ≡ own_leaves d f + total (slot_leaves k d f p) 64
way_leaves_by_slots k d f p = by (one_answer d f) refl
  where
    by : (o : Option ℕ) → one_answer d f ≡ o → way_leaves (suc k) d f p ≡ own_leaves d f + total (slot_leaves k d f p) 64
    by None e = way_leaves_is k d f p e ∙ sym (ap (λ x. if_mixed x (up (runs (slots d f))) + total (slot_leaves k d f p) 64) e)
    by (Some h) e = omega (arith, no_way_leaves (suc k) d h f p e, ap (λ x. if_mixed x (up (runs (slots d f)))) e, total_none (slot_leaves k d f p) 64 (λ v. no_leaves_below k (d - 6) h v (slot d f v) p (slot_one d h v f e)))

pub no_strides_leaves : (d : ℕ) (f : List Bool → ℕ) → need_leaves 0 d f ≡ 0
unfolding need_leaves
no_strides_leaves d f = refl

no_way_strides_leaves : (d : ℕ) (f : List Bool → ℕ) (p : List Bool) → way_leaves 0 d f p ≡ 0
unfolding way_leaves
no_way_strides_leaves d f p = refl

pub whole_leaves : (k d : ℕ) (f : List Bool → ℕ) → way_leaves k d f [] ≡ need_leaves k d f
whole_leaves = whole_way need_leaves way_leaves own_leaves no_strides_leaves no_way_strides_leaves (λ k h f e. no_leaves k 0 h f e) (λ k h f p e. no_way_leaves k 0 h f p e) leaves_by_slots way_leaves_by_slots

pub leaves_moved_below : (k d : ℕ) (f g : List Bool → ℕ) (p : List Bool) → AlikeElse p f g → AreMoved (need_leaves k d f) (need_leaves k d g) (way_leaves k d f p) (way_leaves k d g p)
leaves_moved_below = way_moved need_leaves way_leaves own_leaves no_strides_leaves no_way_strides_leaves (λ k h f e. no_leaves k 0 h f e) (λ k h f p e. no_way_leaves k 0 h f p e) leaves_by_slots way_leaves_by_slots

-- ---- what is counted of a node's slots
-- the need of a region with two answers
pub way_end : (n : Needs) (d : ℕ) (f : List Bool → ℕ) (p : List Bool) → one_answer d f ≡ None → ((j : ℕ) → d - 6 ≤ 6 * j → IsNeed n (up (children (slots d f)) + total (slot_nodes j d f p) 64) (up (runs (slots d f)) + total (slot_leaves j d f p) 64)) → (k : ℕ) → d ≤ 6 * k → IsNeed n (way_nodes k d f p) (way_leaves k d f p)
way_end n d f p none i zero h = absurd (let m = mixed_bits d f none in omega arith)
way_end n d f p none i (suc k) h =
    let all = i k (omega arith) in
    record { nodes = all.nodes ∙ ap need_in_u64 (sym (way_nodes_is k d f p none)); leaves = all.leaves ∙ ap need_in_u64 (sym (way_leaves_is k d f p none)) }
