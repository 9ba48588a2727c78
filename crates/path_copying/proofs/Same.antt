-- A region compared with a node that stands, slot by slot.
use Rattle.std.proofs.Common.{◌≡◌, ◌≢◌, ℕ, zero, suc, ◌+◌, ◌-◌, ◌%◌, ◌^◌, ◌<◌, ◌≤◌, List, [], ◌++◌, Bool, true, false, Option, Some, None, length, take, drop, get_or, replicate, refl, sym, ap, ◌∙◌, arith, subst, inl, inr}
use Rattle.std.specs.Prelude.{◌⊎◌}
use Rattle.std.specs.Int.{bit_at}
use Rattle.std.proofs.lemmas.Bool.{cases_lt, cases_eq}
use Rattle.std.proofs.lemmas.List.{length-append, length-take-le, length-drop, length-replicate, take_all, take_at, take-take, take-append-le, take-append-drop, drop_all, append-nil}
use Rattle.table_model.specs.Bits.{bits_of, value_of}
use Rattle.table_model.proofs.BitLaws.{length-bits_of, value-bits_of, value-lt, bits_from_value}
use Rattle.fib_addr.proofs.OneAnswer.{one_answer_is}
use Rattle.poptrie_build.specs.Bits.{rank_of}
use Rattle.poptrie_build.specs.Strides.{slots, slot, mixed}
use Rattle.poptrie_build.specs.Stands.{IsLeaf, BySlot, node_at, blank}
use Rattle.poptrie_build.specs.Build.{StandsIn}
use Rattle.poptrie_build.specs.declared.node.Node.{Node}
use Rattle.poptrie_build.proofs.Walk.{leaf_ranked, node_ranked, default_same}
use Rattle.path_copying.specs.Alike.{SameAnswers}
use Rattle.path_copying.proofs.Agree.{slots_alike}

-- ---- the slots of a node that stands
pub record LeafAt (nodes : List Node) (leaves : List ℕ) (n : Node) (d : ℕ) (g : List Bool → ℕ) (v : ℕ) : Type 0 where
  pub hop : ℕ
  pub is : slots d g v ≡ Some hop
  pub some : 0 < rank_of n.leafvec (v + 1)
  pub leaf : IsLeaf leaves (n.base0 + rank_of n.leafvec (v + 1) - 1) hop

pub record NodeAt (nodes : List Node) (N : ℕ → Bool) (leaves : List ℕ) (L : ℕ → Bool) (n : Node) (d : ℕ) (g : List Bool → ℕ) (v : ℕ) : Type 0 where
  pub is : slots d g v ≡ None
  pub some : 0 < rank_of n.vector (v + 1)
  pub within : n.base1 + rank_of n.vector (v + 1) - 1 < length nodes
  pub strides : ℕ
  pub stands : StandsIn strides nodes N leaves L (node_at nodes (n.base1 + rank_of n.vector (v + 1) - 1)) (d - 6) (slot d g v)

module _ (nodes : List Node) (N : ℕ → Bool) (leaves : List ℕ) (L : ℕ → Bool) (n : Node) (d : ℕ) (g : List Bool → ℕ) (v : ℕ) (low : v < 64) where
  pub leaf_at : (k : ℕ) → bit_at n.vector v ≡ 0 → StandsIn k nodes N leaves L n d g → LeafAt nodes leaves n d g v
  unfolding StandsIn
  leaf_at zero z s = absurd s
  leaf_at (suc k) z s = by (slots d g v) refl (s.2 v low)
    where
      by : (x : Option ℕ) → slots d g v ≡ x → BySlot x ((N (n.base1 + rank_of n.vector (v + 1) - 1) ≡ true) × (n.base1 + rank_of n.vector (v + 1) - 1 < length nodes) × StandsIn k nodes N leaves L (node_at nodes (n.base1 + rank_of n.vector (v + 1) - 1)) (d - 6) (slot d g v)) (λ h. (L (n.base0 + rank_of n.leafvec (v + 1) - 1) ≡ true) × IsLeaf leaves (n.base0 + rank_of n.leafvec (v + 1) - 1) h) → LeafAt nodes leaves n d g v
      by None e t = let one : bit_at n.vector v ≡ 1 = s.1.nodes v low ∙ ap mixed e in absurd (omega arith)
      by (Some h) e t = record { hop = h; is = e; some = leaf_ranked n.leafvec (slots d g) v h low s.1.leaves e; leaf = t.1 }

  pub node_at_slot : (k : ℕ) → bit_at n.vector v ≡ 1 → StandsIn k nodes N leaves L n d g → NodeAt nodes N leaves L n d g v
  unfolding StandsIn
  node_at_slot zero z s = absurd s
  node_at_slot (suc k) z s = by (slots d g v) refl (s.2 v low)
    where
      by : (x : Option ℕ) → slots d g v ≡ x → BySlot x ((N (n.base1 + rank_of n.vector (v + 1) - 1) ≡ true) × (n.base1 + rank_of n.vector (v + 1) - 1 < length nodes) × StandsIn k nodes N leaves L (node_at nodes (n.base1 + rank_of n.vector (v + 1) - 1)) (d - 6) (slot d g v)) (λ h. (L (n.base0 + rank_of n.leafvec (v + 1) - 1) ≡ true) × IsLeaf leaves (n.base0 + rank_of n.leafvec (v + 1) - 1) h) → NodeAt nodes N leaves L n d g v
      by None e t = record { is = e; some = node_ranked n.vector v z; within = t.1; strides = k; stands = t.2 }
      by (Some h) e t = let none : bit_at n.vector v ≡ 0 = s.1.nodes v low ∙ ap mixed e in absurd (omega arith)

-- ---- where a slot differs
pub differ_none : (d v h : ℕ) (f g : List Bool → ℕ) → slots d f v ≡ Some h → slots d g v ≡ None → SameAnswers d f g → ⊥
differ_none d v h f g a b al = let e = slots_alike d v f g al in cc

pub differ_some : (d v h : ℕ) (f g : List Bool → ℕ) → slots d f v ≡ None → slots d g v ≡ Some h → SameAnswers d f g → ⊥
differ_some d v h f g a b al = let e = slots_alike d v f g al in cc

pub differ_hop : (d v h i : ℕ) (f g : List Bool → ℕ) → slots d f v ≡ Some h → slots d g v ≡ Some i → i ≢ h → SameAnswers d f g → ⊥
differ_hop d v h i f g a b ne al = let e = slots_alike d v f g al in ne (some_is i h (sym b ∙ (sym e ∙ a)))
  where
    some_is : (x y : ℕ) → Some x ≡ Some y → x ≡ y
    some_is x y q = cc

-- ---- where it doesn't
pub same_hops : (d v h : ℕ) (f g : List Bool → ℕ) → slots d f v ≡ Some h → slots d g v ≡ Some h → SameAnswers (d - 6) (slot d f v) (slot d g v)
same_hops d v h f g a b x l = one_answer_is (d - 6) (slot d f v) h a x l ∙ sym (one_answer_is (d - 6) (slot d g v) h b x l)

pub record AlikeBelow (d : ℕ) (f g : List Bool → ℕ) (n : ℕ) : Type 0 where
  pub each : (u : ℕ) → u < n → SameAnswers (d - 6) (slot d f u) (slot d g u)

pub below_start : (d : ℕ) (f g : List Bool → ℕ) → AlikeBelow d f g 0
below_start d f g = record { each = λ u l. absurd (omega arith) }

pub below_step : (d : ℕ) (f g : List Bool → ℕ) (v : ℕ) → AlikeBelow d f g v → SameAnswers (d - 6) (slot d f v) (slot d g v) → AlikeBelow d f g (v + 1)
below_step d f g v b a = record {
  each = λ u l. elim (cases_eq u v) [
    | inl e ↦ subst (λ (w : ℕ). SameAnswers (d - 6) (slot d f w) (slot d g w)) (sym e) a
    | inr e ↦ b.each u (omega arith)
  ];
}

-- an address is in the slot that its first six bits are, filled up with zeros
padded : List Bool → List Bool
padded a = take 6 (a ++ replicate 6 false)

in_slot : (d : ℕ) (a : List Bool) → length a ≡ d → take d (bits_of 6 (value_of (padded a))) ++ drop 6 a ≡ a
unfolding padded
in_slot d a l =
    let z = replicate 6 false in
    let long : length (a ++ z) ≡ d + 6 = length-append a z ∙ omega (arith, l, length-replicate 6 false) in
    let six : length (take 6 (a ++ z)) ≡ 6 = length-take-le 6 (a ++ z) (omega arith) in
    let lt : value_of (take 6 (a ++ z)) < 2 ^ 6 = subst (λ (n : ℕ). value_of (take 6 (a ++ z)) < 2 ^ n) six (value-lt (take 6 (a ++ z))) in
    let bits : bits_of 6 (value_of (take 6 (a ++ z))) ≡ take 6 (a ++ z) = bits_from_value (bits_of 6 (value_of (take 6 (a ++ z)))) (take 6 (a ++ z)) (length-bits_of 6 (value_of (take 6 (a ++ z))) ∙ sym six) (value-bits_of 6 (value_of (take 6 (a ++ z))) ∙ small (value_of (take 6 (a ++ z))) lt) in
    ap (λ (p : List Bool). take d p ++ drop 6 a) bits ∙ by (cases_lt d 6) six
  where
    small : (x : ℕ) → x < 2 ^ 6 → x % 2 ^ 6 ≡ x
    small x h = omega arith

    by : (d < 6) ⊎ (6 ≤ d) → length (take 6 (a ++ replicate 6 false)) ≡ 6 → take d (take 6 (a ++ replicate 6 false)) ++ drop 6 a ≡ a
    by (inl h) six =
        let none : drop 6 a ≡ [] = drop_all 6 a (omega arith) in
        ap (λ (r : List Bool). take d (take 6 (a ++ replicate 6 false)) ++ r) none ∙ (append-nil _ ∙ (take-take d 6 (a ++ replicate 6 false) (omega arith) ∙ take_at a (replicate 6 false) d l))
    by (inr h) six =
        ap (λ (r : List Bool). r ++ drop 6 a) (take_all d (take 6 (a ++ replicate 6 false)) (omega arith) ∙ take-append-le 6 a (replicate 6 false) (omega arith)) ∙ take-append-drop 6 a

pub whole_alike : (d : ℕ) (f g : List Bool → ℕ) (n : ℕ) → 64 ≤ n → AlikeBelow d f g n → SameAnswers d f g
unfolding padded
whole_alike d f g n le b a l =
    let v = value_of (padded a) in
    let six : length (padded a) ≡ 6 = length-take-le 6 (a ++ replicate 6 false) (omega (arith, length-append a (replicate 6 false), length-replicate 6 false)) in
    let lt : v < 2 ^ 6 = subst (λ (m : ℕ). value_of (padded a) < 2 ^ m) six (value-lt (padded a)) in
    let is = in_slot d a l in
    ap f (sym is) ∙ (b.each v (omega (arith, lt)) (drop 6 a) (length-drop 6 a ∙ omega (arith, l)) ∙ ap g is)

-- ---- what is read at a slot
pub leaf_read_is : (nodes : List Node) (leaves : List ℕ) (n : Node) (d : ℕ) (g : List Bool → ℕ) (v r m fill : ℕ) (a : LeafAt nodes leaves n d g v) → m ≡ rank_of n.leafvec (v + 1) → r ≡ get_or leaves (n.base0 + m - 1) fill → r ≡ a.hop
leaf_read_is nodes leaves n d g v r m fill a e q =
    q ∙ (ap (λ i. get_or leaves (n.base0 + i - 1) fill) e ∙ (default_same leaves (n.base0 + rank_of n.leafvec (v + 1) - 1) fill 0 a.leaf.0 ∙ a.leaf.1))

pub child_read : (nodes : List Node) (N : ℕ → Bool) (leaves : List ℕ) (L : ℕ → Bool) (n : Node) (d : ℕ) (g : List Bool → ℕ) (v m : ℕ) (x fill : Node) (a : NodeAt nodes N leaves L n d g v) → m ≡ rank_of n.vector (v + 1) → x ≡ get_or nodes (n.base1 + m - 1) fill → StandsIn a.strides nodes N leaves L x (d - 6) (slot d g v)
child_read nodes N leaves L n d g v m x fill a e q =
    let is : x ≡ node_at nodes (n.base1 + rank_of n.vector (v + 1) - 1) = q ∙ (ap (λ i. get_or nodes (n.base1 + i - 1) fill) e ∙ default_same nodes (n.base1 + rank_of n.vector (v + 1) - 1) fill blank a.within) in
    subst (λ (y : Node). StandsIn a.strides nodes N leaves L y (d - 6) (slot d g v)) (sym is) a.stands
