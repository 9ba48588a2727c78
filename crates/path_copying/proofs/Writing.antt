-- A new node's children and leaves are written slot by slot.
use Rattle.std.proofs.Common.{◌≡◌, ◌≢◌, ℕ, zero, suc, ◌+◌, ◌-◌, ◌<◌, ◌≤◌, List, true, Option, Some, None, length, get_or, refl, sym, ap, ◌∙◌, arith, subst, inl, inr}
use Rattle.std.specs.Prelude.{◌⊎◌}
use Rattle.std.specs.Int.{bit_at}
use Rattle.std.proofs.Math.ListN.{set, length-set}
use Rattle.std.proofs.lemmas.List.{get_or-set_other, get_or-set_same}
use Rattle.std.proofs.lemmas.Bool.{cases_eq}
use Rattle.std.proofs.lemmas.Nat.Bits.{bit_at-lt}
use Rattle.buddy_arena.specs.Space.{Space, IsSized}
use Rattle.buddy_arena.specs.Places.{is_out}
use Rattle.poptrie_build.specs.Bits.{rank_of}
use Rattle.poptrie_build.specs.Strides.{mixed, run_start}
use Rattle.poptrie_build.specs.Need.{children, runs}
use Rattle.poptrie_build.specs.Making.{slot_kind}
use Rattle.poptrie_build.specs.Stands.{IsCanonical, IsLeaf, node_at, blank}
use Rattle.poptrie_build.specs.declared.node.Node.{Node}
use Rattle.poptrie_build.proofs.Going.{rank_le, same_place}
use Rattle.poptrie_build.proofs.So_far.{rank_total}
use Rattle.poptrie_build.proofs.Walk.{leaf_ranked, node_ranked, rank_more}
use Rattle.path_copying.specs.Kids.{kid_at, kid_in}
use Rattle.path_copying.specs.Written.{Matches, AreMatched, IsBlockOut, WritesCells}
use Rattle.path_copying.proofs.Opened.{kid_none, kid_some}

-- the slots below v are written
pub record Writing (node : Node) (kinds : List (Option ℕ)) (kids : List (Option Node)) (nodes0 nodes : Space Node) (leaves0 leaves : Space ℕ) (v : ℕ) : Type 0 where
  pub nodes_only : WritesCells blank node.base1 (children (slot_kind kinds)) nodes0 nodes
  pub leaves_only : WritesCells 0 node.base0 (runs (slot_kind kinds)) leaves0 leaves
  pub at : (u : ℕ) → u < v → kid_at nodes.cells (Some node) u ≡ kid_in kids u
  pub leaf : (u h : ℕ) → u < v → slot_kind kinds u ≡ Some h → IsLeaf leaves.cells (node.base0 + rank_of node.leafvec (u + 1) - 1) h

writes_none : {T : Type 0} (empty : T) (base n : ℕ) (s : Space T) → IsSized s → WritesCells empty base n s s
writes_none empty base n s z = record { free = refl; order = refl; fill = refl; sized = z; long = refl; others = λ i o. refl }

writes_one : {T : Type 0} (empty : T) (base n i : ℕ) (x : T) (s t u : Space T) → WritesCells empty base n s t → base ≤ i → i < base + n → u.cells ≡ set t.cells i x → u.free ≡ t.free → u.order ≡ t.order → u.fill ≡ t.fill → IsSized u → WritesCells empty base n s u
writes_one empty base n i x s t u w lo hi c f o p z = record {
  free = f ∙ w.free;
  order = o ∙ w.order;
  fill = p ∙ w.fill;
  sized = z;
  long = ap length c ∙ (length-set t.cells i x ∙ w.long);
  others = λ j out. ap (λ y. get_or y j empty) c ∙ (get_or-set_other t.cells i j x empty (apart j out) ∙ w.others j out);
}
  where
    apart : (j : ℕ) → (j < base) ⊎ (base + n ≤ j) → j ≢ i
    apart j (inl h) e = absurd (omega arith)
    apart j (inr h) e = absurd (omega arith)

pub writing_start : (node : Node) (kinds : List (Option ℕ)) (kids : List (Option Node)) (nodes : Space Node) (leaves : Space ℕ) → IsSized nodes → IsSized leaves → Writing node kinds kids nodes nodes leaves leaves 0
writing_start node kinds kids nodes leaves zn zl = record {
  nodes_only = writes_none blank node.base1 (children (slot_kind kinds)) nodes zn;
  leaves_only = writes_none 0 node.base0 (runs (slot_kind kinds)) leaves zl;
  at = λ u l. absurd (omega arith);
  leaf = λ u h l. absurd (omega arith);
}

-- ---- where a slot is written
pub record Spot {T : Type 0} (base r count : ℕ) (s : Space T) : Type 0 where
  pub some : 0 < r
  pub most : r ≤ count
  pub is_out : is_out s.free (base + r - 1) ≡ true
  pub within : base + r - 1 < length s.cells

spot : {T : Type 0} (empty : T) (base r r2 count : ℕ) (s t : Space T) → r2 ≡ r → 0 < r → r ≤ count → IsBlockOut base count s → WritesCells empty base count s t → Spot base r2 count t
spot empty base r r2 count s t e h l o w =
    let same : base + (r - 1) ≡ base + r2 - 1 = omega (arith, h, e) in
    let p = o (r - 1) (omega (arith, h, l)) in
    record {
      some = omega (arith, h, e);
      most = omega (arith, l, e);
      is_out = ap (λ x. is_out x (base + r2 - 1)) w.free ∙ subst (λ (i : ℕ). is_out s.free i ≡ true) same p.0;
      within = omega (arith, p.1, w.long, same);
    }

module _ (node : Node) (kinds : List (Option ℕ)) (kids : List (Option Node)) (nodes0 nodes : Space Node) (leaves0 leaves : Space ℕ) (v : ℕ) (low : v < 64) (can : IsCanonical node.vector node.leafvec (slot_kind kinds)) (matched : AreMatched kinds kids) (w : Writing node kinds kids nodes0 nodes leaves0 leaves v) where
  kind_none : (x : Option ℕ) (y : Option Node) (child : Node) → y ≡ Some child → Matches x y → x ≡ None
  kind_none None y child e m = refl
  kind_none (Some h) None child e m = cc
  kind_none (Some h) (Some n) child e m = absurd m

  kid_nothing : (x : Option ℕ) (y : Option Node) (h : ℕ) → x ≡ Some h → Matches x y → y ≡ None
  kid_nothing x None h e m = refl
  kid_nothing None (Some n) h e m = cc
  kid_nothing (Some g) (Some n) h e m = absurd m

  no_kid : (x : Option ℕ) (y : Option Node) → y ≡ None → Matches x y → (h : ℕ) × (x ≡ Some h)
  no_kid None None e m = absurd m
  no_kid None (Some n) e m = absurd (let z : Some n ≡ None = e in cc)
  no_kid (Some h) y e m = (h, refl)

  bit_one : (child : Node) → kid_in kids v ≡ Some child → bit_at node.vector v ≡ 1
  bit_one child e = can.nodes v low ∙ ap mixed (kind_none (slot_kind kinds v) (kid_in kids v) child e (matched v low))

  pub node_spot : (child : Node) (r : ℕ) → kid_in kids v ≡ Some child → r ≡ rank_of node.vector (v + 1) → IsBlockOut node.base1 (children (slot_kind kinds)) nodes0 → Spot node.base1 r (children (slot_kind kinds)) nodes
  node_spot child r e q o =
      let le = rank_le node.vector (v + 1) 64 (omega (arith, low)) in
      let c : rank_of node.vector 64 ≡ children (slot_kind kinds) = rank_total node.vector 64 (λ u. mixed (slot_kind kinds u)) can.nodes in
      spot blank node.base1 (rank_of node.vector (v + 1)) r (children (slot_kind kinds)) nodes0 nodes q (node_ranked node.vector v (bit_one child e)) (omega (arith, le, c)) o w.nodes_only

  pub leaf_spot : (h r : ℕ) → slot_kind kinds v ≡ Some h → r ≡ rank_of node.leafvec (v + 1) → IsBlockOut node.base0 (runs (slot_kind kinds)) leaves0 → Spot node.base0 r (runs (slot_kind kinds)) leaves
  leaf_spot h r e q o =
      let le = rank_le node.leafvec (v + 1) 64 (omega (arith, low)) in
      let c : rank_of node.leafvec 64 ≡ runs (slot_kind kinds) = rank_total node.leafvec 64 (run_start (slot_kind kinds)) can.leaves in
      spot 0 node.base0 (rank_of node.leafvec (v + 1)) r (runs (slot_kind kinds)) leaves0 leaves q (leaf_ranked node.leafvec (slot_kind kinds) v h low can.leaves e) (omega (arith, le, c)) o w.leaves_only

  -- ---- a child
  module _ (child : Node) (r : ℕ) (is : kid_in kids v ≡ Some child) (q : r ≡ rank_of node.vector (v + 1)) (s : Spot node.base1 r (children (slot_kind kinds)) nodes) (nodes2 : Space Node) (c : nodes2.cells ≡ set nodes.cells (node.base1 + r - 1) child) where
    at_v : kid_at nodes2.cells (Some node) v ≡ kid_in kids v
    at_v =
        kid_some nodes2.cells node v (bit_one child is)
        ∙ (ap Some (ap (λ y. node_at nodes2.cells (node.base1 + y - 1)) (sym q) ∙ (ap (λ y. node_at y (node.base1 + r - 1)) c ∙ get_or-set_same nodes.cells (node.base1 + r - 1) child blank s.within))
        ∙ sym is)

    before : (u : ℕ) → u < v → kid_at nodes2.cells (Some node) u ≡ kid_at nodes.cells (Some node) u
    before u l = by (bit_at node.vector u) refl (bit_at-lt node.vector u)
      where
        by : (n : ℕ) → bit_at node.vector u ≡ n → n < 2 → kid_at nodes2.cells (Some node) u ≡ kid_at nodes.cells (Some node) u
        by zero e m = kid_none nodes2.cells node u e ∙ sym (kid_none nodes.cells node u e)
        by (suc zero) e m =
            let le = rank_le node.vector (u + 1) v (omega (arith, l)) in
            let more = rank_more node.vector v in
            let one = bit_one child is in
            let some = node_ranked node.vector u e in
            let ne : node.base1 + rank_of node.vector (u + 1) - 1 ≢ node.base1 + r - 1 = omega (arith, le, more, one, some, q) in
            kid_some nodes2.cells node u e
            ∙ (ap Some (ap (λ y. node_at y (node.base1 + rank_of node.vector (u + 1) - 1)) c ∙ get_or-set_other nodes.cells (node.base1 + r - 1) (node.base1 + rank_of node.vector (u + 1) - 1) child blank ne)
            ∙ sym (kid_some nodes.cells node u e))
        by (suc (suc n)) e m = absurd (omega arith)

    pub child_written : nodes2.free ≡ nodes.free → nodes2.order ≡ nodes.order → nodes2.fill ≡ nodes.fill → IsSized nodes2 → Writing node kinds kids nodes0 nodes2 leaves0 leaves (v + 1)
    child_written f o p z = record {
      nodes_only = writes_one blank node.base1 (children (slot_kind kinds)) (node.base1 + r - 1) child nodes0 nodes nodes2 w.nodes_only (omega (arith, s.some)) (omega (arith, s.some, s.most)) c f o p z;
      leaves_only = w.leaves_only;
      at = λ u l. elim (cases_eq u v) [
        | inl e ↦ subst (λ (y : ℕ). kid_at nodes2.cells (Some node) y ≡ kid_in kids y) (sym e) at_v
        | inr ne ↦ before u (omega (arith, l, ne)) ∙ w.at u (omega (arith, l, ne))
      ];
      leaf = λ u h l k. elim (cases_eq u v) [
        | inl e ↦ absurd (let y = kind_none (slot_kind kinds v) (kid_in kids v) child is (matched v low) in let x = ap (slot_kind kinds) e in none_some h (sym k ∙ (x ∙ y)))
        | inr ne ↦ w.leaf u h (omega (arith, l, ne)) k
      ];
    }
      where
        none_some : (h : ℕ) → Some h ≡ None → ⊥
        none_some h e = cc

  -- ---- a leaf
  module _ (hop r : ℕ) (is : slot_kind kinds v ≡ Some hop) (q : r ≡ rank_of node.leafvec (v + 1)) (s : Spot node.base0 r (runs (slot_kind kinds)) leaves) (leaves2 : Space ℕ) (c : leaves2.cells ≡ set leaves.cells (node.base0 + r - 1) hop) where
    long : length leaves2.cells ≡ length leaves.cells
    long = ap length c ∙ length-set leaves.cells (node.base0 + r - 1) hop

    here : (j : ℕ) → j ≡ node.base0 + r - 1 → IsLeaf leaves2.cells j hop
    here j e =
        let w = s.within in
        (omega (arith, long, w, e), ap (λ y. get_or y j 0) c ∙ (ap (λ i. get_or (set leaves.cells (node.base0 + r - 1) hop) i 0) e ∙ get_or-set_same leaves.cells (node.base0 + r - 1) hop 0 s.within))

    earlier : (u h : ℕ) → u < v → slot_kind kinds u ≡ Some h → IsLeaf leaves2.cells (node.base0 + rank_of node.leafvec (u + 1) - 1) h
    earlier u h l k =
        let i = node.base0 + rank_of node.leafvec (u + 1) - 1 in
        let old = w.leaf u h l k in
        let ru = leaf_ranked node.leafvec (slot_kind kinds) u h (omega (arith, l, low)) can.leaves k in
        let some = s.some in
        elim (cases_eq i (node.base0 + r - 1)) [
          | inl e ↦
              let rank_same : rank_of node.leafvec (u + 1) ≡ rank_of node.leafvec (v + 1) = omega (arith, e, q, ru, some) in
              let hop_is : hop ≡ h = same_place node.leafvec (slot_kind kinds) u v h hop l low can.leaves k is rank_same in
              subst (λ (x : ℕ). IsLeaf leaves2.cells i x) hop_is (here i e)
          | inr ne ↦ (omega (arith, long, old.0), ap (λ y. get_or y i 0) c ∙ (get_or-set_other leaves.cells (node.base0 + r - 1) i hop 0 ne ∙ old.1))
        ]

    pub leaf_written : leaves2.free ≡ leaves.free → leaves2.order ≡ leaves.order → leaves2.fill ≡ leaves.fill → IsSized leaves2 → Writing node kinds kids nodes0 nodes leaves0 leaves2 (v + 1)
    leaf_written f o p z = record {
      nodes_only = w.nodes_only;
      leaves_only = writes_one 0 node.base0 (runs (slot_kind kinds)) (node.base0 + r - 1) hop leaves0 leaves leaves2 w.leaves_only (omega (arith, s.some)) (omega (arith, s.some, s.most)) c f o p z;
      at = λ u l. elim (cases_eq u v) [
        | inl e ↦ subst (λ (y : ℕ). kid_at nodes.cells (Some node) y ≡ kid_in kids y) (sym e) (kid_none nodes.cells node v (can.nodes v low ∙ ap mixed is) ∙ sym (kid_nothing (slot_kind kinds v) (kid_in kids v) hop is (matched v low)))
        | inr ne ↦ w.at u (omega (arith, l, ne))
      ];
      leaf = λ u h l k. elim (cases_eq u v) [
        | inl e ↦
            let hop_is : hop ≡ h = some_is hop h (sym is ∙ (ap (slot_kind kinds) (sym e) ∙ k)) in
            subst (λ (x : ℕ). IsLeaf leaves2.cells (node.base0 + rank_of node.leafvec (u + 1) - 1) x) hop_is (here (node.base0 + rank_of node.leafvec (u + 1) - 1) (ap (λ y. node.base0 + rank_of node.leafvec (y + 1) - 1) e ∙ ap (λ y. node.base0 + y - 1) (sym q)))
        | inr ne ↦ earlier u h (omega (arith, l, ne)) k
      ];
    }
      where
        some_is : (x y : ℕ) → Some x ≡ Some y → x ≡ y
        some_is x y e = cc

  pub not_empty : kid_in kids v ≡ None → slot_kind kinds v ≡ None → ⊥
  not_empty e k = let t = no_kid (slot_kind kinds v) (kid_in kids v) e (matched v low) in none_some t.0 (sym k ∙ t.1)
    where
      none_some : (h : ℕ) → None ≡ Some h → ⊥
      none_some h q = cc
