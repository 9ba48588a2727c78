-- The halves of a part of a node on the way to a path, and of one beside it.
use Rattle.std.proofs.Common.{◌≡◌, ◌≢◌, ℕ, zero, suc, ◌+◌, ◌-◌, ◌/◌, ◌^◌, ◌<◌, List, [], ◌∷◌, Bool, true, false, Some, nat_eq, drop, refl, sym, ap, ◌∙◌, arith, subst}
use Rattle.std.specs.Prelude.{if◌then◌else◌, bit_and}
use Rattle.std.proofs.lemmas.Nat.Bits.{shr_and_one}
use Rattle.table_model.specs.Bits.{bits_of}
use Rattle.fib_addr.specs.Answers.{one_answer}
use Rattle.poptrie_build.specs.Strides.{slot}
use Rattle.poptrie_build.specs.Need.{need_in_u64}
use Rattle.poptrie_build.specs.Tally.{AreLeaves, AreParts, IsNeed}
use Rattle.poptrie_build.specs.declared.counts.Needs.{Needs}
use Rattle.poptrie_build.proofs.Slotting.{double, halved, low_bits, high_bits}
use Rattle.poptrie_build.proofs.Tallying.{parts_alike}
use Rattle.route_tries.specs.Parts.{meet, way_nodes, way_leaves}
use Rattle.route_tries.specs.Way.{nodes_below, leaves_below, AreOnWay, AreBeside}
use Rattle.route_tries.proofs.Meeting.{meet_none}
use Rattle.route_tries.proofs.Ways.{slot_nodes, slot_leaves, no_way_nodes, no_way_leaves}

drop_nil : (a : ℕ) → drop {A = Bool} a [] ≡ []
drop_nil zero = refl
drop_nil (suc a) = refl

-- N tells of the slots from v on, which j bits tell apart, what W tells of the answers of those that meet the path p, and 0 of others
abbrev Tells : ((List Bool → ℕ) → List Bool → ℕ) → ℕ → (ℕ → List Bool → ℕ) → List Bool → (ℕ → ℕ) → ℕ → Type 0
Tells W j r p N v = (u : ℕ) → u < 2 ^ j → N (v + u) ≡ (if meet (bits_of j u) p then W (r (v + u)) (drop j p) else 0)

abbrev TellsNone : ℕ → (ℕ → ℕ) → ℕ → Type 0
TellsNone j N v = (u : ℕ) → u < 2 ^ j → N (v + u) ≡ 0

module _ (W : (List Bool → ℕ) → List Bool → ℕ) (j : ℕ) (r : ℕ → List Bool → ℕ) (N : ℕ → ℕ) (v : ℕ) where
  after : (u : ℕ) → v + 2 ^ j + u ≡ v + (2 ^ j + u)
  after u = omega arith

  low_on : (p : List Bool) → Tells W (suc j) r (false ∷ p) N v → Tells W j r p N v
  low_on p a u l = a u (omega (arith, double j)) ∙ ap (λ x. if meet x (false ∷ p) then W (r (v + u)) (drop j p) else 0) (low_bits j u l)

  low_off : (p : List Bool) → Tells W (suc j) r (true ∷ p) N v → TellsNone j N v
  low_off p a u l = a u (omega (arith, double j)) ∙ ap (λ x. if meet x (true ∷ p) then W (r (v + u)) (drop j p) else 0) (low_bits j u l)

  high_on : (p : List Bool) → Tells W (suc j) r (true ∷ p) N v → Tells W j r p N (v + 2 ^ j)
  high_on p a u l =
      ap N (after u)
      ∙ (a (2 ^ j + u) (omega (arith, double j))
      ∙ (ap (λ x. if meet x (true ∷ p) then W (r (v + (2 ^ j + u))) (drop j p) else 0) (high_bits j u l)
      ∙ ap (λ n. if meet (bits_of j u) p then W (r n) (drop j p) else 0) (sym (after u))))

  high_off : (p : List Bool) → Tells W (suc j) r (false ∷ p) N v → TellsNone j N (v + 2 ^ j)
  high_off p a u l =
      ap N (after u)
      ∙ (a (2 ^ j + u) (omega (arith, double j))
      ∙ ap (λ x. if meet x (false ∷ p) then W (r (v + (2 ^ j + u))) (drop j p) else 0) (high_bits j u l))

  -- with nothing left of the path
  all_is : (i u n : ℕ) → (if meet (bits_of i u) [] then W (r n) (drop i []) else 0) ≡ W (r n) []
  all_is i u n = ap (λ b. if b then W (r n) (drop i []) else 0) (meet_none (bits_of i u)) ∙ ap (W (r n)) (drop_nil i)

  low_all : Tells W (suc j) r [] N v → Tells W j r [] N v
  low_all a u l = a u (omega (arith, double j)) ∙ (all_is (suc j) u (v + u) ∙ sym (all_is j u (v + u)))

  high_all : Tells W (suc j) r [] N v → Tells W j r [] N (v + 2 ^ j)
  high_all a u l =
      ap N (after u)
      ∙ (a (2 ^ j + u) (omega (arith, double j))
      ∙ (all_is (suc j) (2 ^ j + u) (v + (2 ^ j + u))
      ∙ (ap (λ n. W (r n) []) (sym (after u)) ∙ sym (all_is j u (v + 2 ^ j + u)))))

-- ---- the same of what the code has
pub next_bit : (left q x : ℕ) → left ≢ 0 → x ≡ bit_and (q / 2 ^ (left - 1)) 1 → bits_of left q ≡ nat_eq x 1 ∷ bits_of (left - 1) q
unfolding bits_of
next_bit left q x z e =
    let s : left ≡ suc (left - 1) = omega arith in
    ap (λ n. bits_of n q) s ∙ ap (λ y. nat_eq y 1 ∷ bits_of (left - 1) q) (sym (e ∙ shr_and_one q (left - 1)))

pub no_bit : (left q : ℕ) → left ≡ 0 → bits_of left q ≡ []
unfolding bits_of
no_bit left q e = ap (λ n. bits_of n q) e

module _ (j k e v : ℕ) (r : ℕ → List Bool → ℕ) (N L : ℕ → ℕ) (z : j ≢ 0) where
  s : j ≡ suc (j - 1)
  s = omega arith

  path : (p q : List Bool) → p ≡ q → AreOnWay j k e r p N L v → AreOnWay (suc (j - 1)) k e r q N L v
  path p q h a = subst (λ (x : ℕ). AreOnWay x k e r q N L v) s (subst (λ (x : List Bool). AreOnWay j k e r x N L v) h a)

  pub on_low : (p q : List Bool) (b : Bool) → p ≡ b ∷ q → b ≡ false → AreOnWay j k e r p N L v → AreOnWay (j - 1) k e r q N L v
  on_low p q b h f a =
      let w = path p (false ∷ q) (h ∙ ap (λ x. x ∷ q) f) a in
      record { nodes = low_on (way_nodes k e) (j - 1) r N v q w.nodes; leaves = low_on (way_leaves k e) (j - 1) r L v q w.leaves }

  pub off_high : (p q : List Bool) (b : Bool) → p ≡ b ∷ q → b ≡ false → AreOnWay j k e r p N L v → AreBeside (j - 1) N L (v + 2 ^ (j - 1))
  off_high p q b h f a =
      let w = path p (false ∷ q) (h ∙ ap (λ x. x ∷ q) f) a in
      record { nodes = high_off (way_nodes k e) (j - 1) r N v q w.nodes; leaves = high_off (way_leaves k e) (j - 1) r L v q w.leaves }

  pub off_low : (p q : List Bool) (b : Bool) → p ≡ b ∷ q → b ≡ true → AreOnWay j k e r p N L v → AreBeside (j - 1) N L v
  off_low p q b h f a =
      let w = path p (true ∷ q) (h ∙ ap (λ x. x ∷ q) f) a in
      record { nodes = low_off (way_nodes k e) (j - 1) r N v q w.nodes; leaves = low_off (way_leaves k e) (j - 1) r L v q w.leaves }

  pub on_high : (p q : List Bool) (b : Bool) → p ≡ b ∷ q → b ≡ true → AreOnWay j k e r p N L v → AreOnWay (j - 1) k e r q N L (v + 2 ^ (j - 1))
  on_high p q b h f a =
      let w = path p (true ∷ q) (h ∙ ap (λ x. x ∷ q) f) a in
      record { nodes = high_on (way_nodes k e) (j - 1) r N v q w.nodes; leaves = high_on (way_leaves k e) (j - 1) r L v q w.leaves }

  pub within_low : (p q : List Bool) → p ≡ [] → q ≡ [] → AreOnWay j k e r p N L v → AreOnWay (j - 1) k e r q N L v
  within_low p q h g a =
      let w = path p [] h a in
      subst (λ (x : List Bool). AreOnWay (j - 1) k e r x N L v) (sym g) (record { nodes = low_all (way_nodes k e) (j - 1) r N v w.nodes; leaves = low_all (way_leaves k e) (j - 1) r L v w.leaves })

  pub within_high : (p q : List Bool) → p ≡ [] → q ≡ [] → AreOnWay j k e r p N L v → AreOnWay (j - 1) k e r q N L (v + 2 ^ (j - 1))
  within_high p q h g a =
      let w = path p [] h a in
      subst (λ (x : List Bool). AreOnWay (j - 1) k e r x N L (v + 2 ^ (j - 1))) (sym g) (record { nodes = high_all (way_nodes k e) (j - 1) r N v w.nodes; leaves = high_all (way_leaves k e) (j - 1) r L v w.leaves })

-- a part beside the way
module _ (j v : ℕ) (N L : ℕ → ℕ) (z : j ≢ 0) where
  pub beside_low : AreBeside j N L v → AreBeside (j - 1) N L v
  beside_low a = record { nodes = λ u l. a.nodes u (omega (arith, halved j z)); leaves = λ u l. a.leaves u (omega (arith, halved j z)) }

  pub beside_high : AreBeside j N L v → AreBeside (j - 1) N L (v + 2 ^ (j - 1))
  beside_high a = record {
    nodes = λ u l. let s : v + 2 ^ (j - 1) + u ≡ v + (2 ^ (j - 1) + u) = omega arith in ap N s ∙ a.nodes (2 ^ (j - 1) + u) (omega (arith, halved j z));
    leaves = λ u l. let s : v + 2 ^ (j - 1) + u ≡ v + (2 ^ (j - 1) + u) = omega arith in ap L s ∙ a.leaves (2 ^ (j - 1) + u) (omega (arith, halved j z));
  }

-- ---- at the slots
-- a node's slots
pub way_start : (k d : ℕ) (f : List Bool → ℕ) (p : List Bool) → AreOnWay 6 k (d - 6) (slot d f) p (slot_nodes k d f p) (slot_leaves k d f p) 0
way_start k d f p = record {
  nodes = λ u l. let z : 0 + u ≡ u = omega arith in ap (nodes_below 6 k (d - 6) (slot d f (0 + u)) p) z;
  leaves = λ u l. let z : 0 + u ≡ u = omega arith in ap (leaves_below 6 k (d - 6) (slot d f (0 + u)) p) z;
}

-- one slot
here : (j v : ℕ) (N : ℕ → ℕ) (x : ℕ) → j ≡ 0 → ((u : ℕ) → u < 2 ^ j → N (v + u) ≡ x) → N v ≡ x
here j v N x z a =
    let one : 2 ^ j ≡ 1 = ap (λ i. 2 ^ i) z in
    let e : v ≡ v + 0 = omega arith in
    ap N e ∙ a 0 (omega arith)

pub slot_beside : (n : Needs) (j v : ℕ) (N L : ℕ → ℕ) → j ≡ 0 → n.nodes ≡ 0 → n.leaves ≡ 0 → AreBeside j N L v → IsNeed n (N v) (L v)
slot_beside n j v N L z x y a = record { nodes = x ∙ ap need_in_u64 (sym (here j v N 0 z a.nodes)); leaves = y ∙ ap need_in_u64 (sym (here j v L 0 z a.leaves)) }

pub slot_on_way : (n : Needs) (j k e v : ℕ) (r : ℕ → List Bool → ℕ) (p : List Bool) (N L : ℕ → ℕ) → j ≡ 0 → IsNeed n (way_nodes k e (r v) p) (way_leaves k e (r v) p) → AreOnWay j k e r p N L v → IsNeed n (N v) (L v)
unfolding bits_of
slot_on_way n j k e v r p N L z need a =
    let w : AreOnWay 0 k e r p N L v = subst (λ (x : ℕ). AreOnWay x k e r p N L v) z a in
    let zero_on : v ≡ v + 0 = omega arith in
    let x : N v ≡ way_nodes k e (r v) p = ap N zero_on ∙ (w.nodes 0 (omega arith) ∙ ap (λ i. way_nodes k e (r i) p) (sym zero_on)) in
    let y : L v ≡ way_leaves k e (r v) p = ap L zero_on ∙ (w.leaves 0 (omega arith) ∙ ap (λ i. way_leaves k e (r i) p) (sym zero_on)) in
    record { nodes = need.nodes ∙ ap need_in_u64 (sym x); leaves = need.leaves ∙ ap need_in_u64 (sym y) }

-- slots with one answer
module _ (j d h e v : ℕ) (f : List Bool → ℕ) (r : ℕ → List Bool → ℕ) (N L : ℕ → ℕ) (one : one_answer d f ≡ Some h) (parts : AreParts j d f e r v) where
  pub uniform_beside : AreBeside j N L v → AreLeaves h (λ u. one_answer e (r u)) N L v (2 ^ j)
  uniform_beside a u l = (parts_alike j d h e v f r one parts u l, a.nodes u l, a.leaves u l)

  pub uniform_on_way : (k : ℕ) (p : List Bool) → AreOnWay j k e r p N L v → AreLeaves h (λ u. one_answer e (r u)) N L v (2 ^ j)
  uniform_on_way k p a u l =
      let is = parts_alike j d h e v f r one parts u l in
      (is, a.nodes u l ∙ none (meet (bits_of j u) p) (no_way_nodes k e h (r (v + u)) (drop j p) is), a.leaves u l ∙ none (meet (bits_of j u) p) (no_way_leaves k e h (r (v + u)) (drop j p) is))
    where
      none : {x : ℕ} (b : Bool) → x ≡ 0 → (if b then x else 0) ≡ 0
      none true q = q
      none false q = refl
