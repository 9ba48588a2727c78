-- One node that is read on from.
use Rattle.std.proofs.Common.{◌≡◌, ◌≢◌, ℕ, zero, suc, ◌+◌, ◌-◌, ◌/◌, ◌^◌, ◌<◌, List, Bool, true, length, drop, get_or, bit_and, refl, sym, ap, ◌∙◌, arith, subst}
use Rattle.std.specs.Int.{bit_at}
use Rattle.poptrie_build.specs.Bits.{rank_of}
use Rattle.poptrie_build.specs.Stands.{IsLeaf, node_at, blank}
use Rattle.poptrie_build.specs.declared.node.Node.{Node}
use Rattle.poptrie_build.proofs.Walk.{default_same}
use Rattle.path_copying.proofs.Set_bits.{zero_bit, one_bit}
use Rattle.poptrie_set.specs.Reading.{ByBit, ReadsOn, next_slot}

-- its parts
pub record Ends (nodes : List Node) (leaves : List ℕ) (L : ℕ → Bool) (i : ℕ) (bits : List Bool) (h left : ℕ) : Type 0 where
  pub one : left ≡ 1
  pub some : 0 < rank_of (node_at nodes i).leafvec (next_slot bits + 1)
  pub out : L ((node_at nodes i).base0 + rank_of (node_at nodes i).leafvec (next_slot bits + 1) - 1) ≡ true
  pub leaf : IsLeaf leaves ((node_at nodes i).base0 + rank_of (node_at nodes i).leafvec (next_slot bits + 1) - 1) h

pub record Goes (nodes : List Node) (N : ℕ → Bool) (leaves : List ℕ) (L : ℕ → Bool) (i : ℕ) (bits : List Bool) (h left : ℕ) : Type 0 where
  pub before : ℕ
  pub more : left ≡ suc before
  pub some : 0 < rank_of (node_at nodes i).vector (next_slot bits + 1)
  pub within : (node_at nodes i).base1 + rank_of (node_at nodes i).vector (next_slot bits + 1) - 1 < length nodes
  pub out : N ((node_at nodes i).base1 + rank_of (node_at nodes i).vector (next_slot bits + 1) - 1) ≡ true
  pub reads : ReadsOn before nodes N leaves L ((node_at nodes i).base1 + rank_of (node_at nodes i).vector (next_slot bits + 1) - 1) (drop 6 bits) h

-- a lookup that is not at its end reads a node of N
pub reads_place : (left : ℕ) (nodes : List Node) (N : ℕ → Bool) (leaves : List ℕ) (L : ℕ → Bool) (i : ℕ) (bits : List Bool) (h : ℕ) → ReadsOn left nodes N leaves L i bits h → (N i ≡ true) × (i < length nodes)
unfolding ReadsOn
reads_place zero nodes N leaves L i bits h r = absurd r
reads_place (suc left) nodes N leaves L i bits h r = (r.0, r.1)

pub reads_leaf : (left : ℕ) (nodes : List Node) (N : ℕ → Bool) (leaves : List ℕ) (L : ℕ → Bool) (i : ℕ) (bits : List Bool) (h : ℕ) → bit_at (node_at nodes i).vector (next_slot bits) ≡ 0 → ReadsOn left nodes N leaves L i bits h → Ends nodes leaves L i bits h left
unfolding ReadsOn
reads_leaf zero nodes N leaves L i bits h b r = absurd r
reads_leaf (suc left) nodes N leaves L i bits h b r =
    let t = by (bit_at (node_at nodes i).vector (next_slot bits)) _ _ b r.2 in
    record { one = ap suc t.0; some = t.1; out = t.2; leaf = t.3 }
  where
    by : (x : ℕ) (P Q : Type 0) → x ≡ 0 → ByBit x P Q → Q
    by zero P Q e q = q
    by (suc x) P Q e q = absurd (omega arith)

pub reads_node : (left : ℕ) (nodes : List Node) (N : ℕ → Bool) (leaves : List ℕ) (L : ℕ → Bool) (i : ℕ) (bits : List Bool) (h : ℕ) → bit_at (node_at nodes i).vector (next_slot bits) ≡ 1 → ReadsOn left nodes N leaves L i bits h → Goes nodes N leaves L i bits h left
unfolding ReadsOn
reads_node zero nodes N leaves L i bits h b r = absurd r
reads_node (suc left) nodes N leaves L i bits h b r =
    let t = by (bit_at (node_at nodes i).vector (next_slot bits)) _ _ b r.2 in
    let p = reads_place left nodes N leaves L ((node_at nodes i).base1 + rank_of (node_at nodes i).vector (next_slot bits + 1) - 1) (drop 6 bits) h t.1 in
    record { before = left; more = refl; some = t.0; within = p.1; out = p.0; reads = t.1 }
  where
    by : (x : ℕ) (P Q : Type 0) → x ≡ 1 → ByBit x P Q → P
    by zero P Q e q = absurd (omega arith)
    by (suc x) P Q e q = q

-- the same of the node as it was read
pub read_is : (left : ℕ) (nodes : List Node) (N : ℕ → Bool) (leaves : List ℕ) (L : ℕ → Bool) (i : ℕ) (bits : List Bool) (h : ℕ) (n fill : Node) → n ≡ get_or nodes i fill → ReadsOn left nodes N leaves L i bits h → n ≡ node_at nodes i
read_is left nodes N leaves L i bits h n fill e r = e ∙ default_same nodes i fill blank (reads_place left nodes N leaves L i bits h r).1

module _ (left : ℕ) (nodes : List Node) (N : ℕ → Bool) (leaves : List ℕ) (L : ℕ → Bool) (i : ℕ) (bits : List Bool) (h : ℕ) (n fill : Node) (v m : ℕ) (slot : next_slot bits ≡ v) (e : n ≡ get_or nodes i fill) (r : ReadsOn left nodes N leaves L i bits h) where
  pub leaf_read : bit_and (n.vector / 2 ^ v) 1 ≡ 0 → m ≡ rank_of n.leafvec (v + 1) → (left ≡ 1) × (0 < m) × IsLeaf leaves (n.base0 + m - 1) h
  leaf_read b q =
      let is = read_is left nodes N leaves L i bits h n fill e r in
      let t = reads_leaf left nodes N leaves L i bits h (ap (λ (x : Node). bit_at x.vector (next_slot bits)) (sym is) ∙ (ap (bit_at n.vector) slot ∙ zero_bit n.vector v b)) r in
      let w : m ≡ rank_of (node_at nodes i).leafvec (next_slot bits + 1) = q ∙ (ap (λ (x : ℕ). rank_of n.leafvec (x + 1)) (sym slot) ∙ ap (λ (x : Node). rank_of x.leafvec (next_slot bits + 1)) is) in
      let p : (node_at nodes i).base0 + rank_of (node_at nodes i).leafvec (next_slot bits + 1) - 1 ≡ n.base0 + m - 1 = ap (λ (x : Node). x.base0 + rank_of (node_at nodes i).leafvec (next_slot bits + 1) - 1) (sym is) ∙ ap (λ y. n.base0 + y - 1) (sym w) in
      (t.one, subst (λ (x : ℕ). 0 < x) (sym w) t.some, subst (λ (x : ℕ). IsLeaf leaves x h) p t.leaf)

  pub node_read : bit_and (n.vector / 2 ^ v) 1 ≢ 0 → m ≡ rank_of n.vector (v + 1) → (before : ℕ) × (left ≡ suc before) × (0 < m) × (n.base1 + m - 1 < length nodes) × ReadsOn before nodes N leaves L (n.base1 + m - 1) (drop 6 bits) h
  node_read b q =
      let is = read_is left nodes N leaves L i bits h n fill e r in
      let t = reads_node left nodes N leaves L i bits h (ap (λ (x : Node). bit_at x.vector (next_slot bits)) (sym is) ∙ (ap (bit_at n.vector) slot ∙ one_bit n.vector v b)) r in
      let w : m ≡ rank_of (node_at nodes i).vector (next_slot bits + 1) = q ∙ (ap (λ (x : ℕ). rank_of n.vector (x + 1)) (sym slot) ∙ ap (λ (x : Node). rank_of x.vector (next_slot bits + 1)) is) in
      let p : (node_at nodes i).base1 + rank_of (node_at nodes i).vector (next_slot bits + 1) - 1 ≡ n.base1 + m - 1 = ap (λ (x : Node). x.base1 + rank_of (node_at nodes i).vector (next_slot bits + 1) - 1) (sym is) ∙ ap (λ y. n.base1 + y - 1) (sym w) in
      (t.before, t.more, subst (λ (x : ℕ). 0 < x) (sym w) t.some, subst (λ (x : ℕ). x < length nodes) p t.within, subst (λ (x : ℕ). ReadsOn t.before nodes N leaves L x (drop 6 bits) h) p t.reads)
