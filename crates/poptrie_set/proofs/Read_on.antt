-- Reading on from a node that stands.
use Rattle.std.proofs.Common.{◌≡◌, ℕ, zero, suc, ◌+◌, ◌-◌, ◌<◌, List, ◌++◌, Bool, true, Option, Some, None, length, take, drop, refl, sym, ap, ◌∙◌, arith, subst}
use Rattle.std.specs.Int.{bit_at}
use Rattle.std.proofs.lemmas.List.{take-append-drop, length-drop}
use Rattle.poptrie_build.specs.Bits.{rank_of}
use Rattle.poptrie_build.specs.Strides.{slots, slot, mixed, visits}
use Rattle.fib_addr.specs.Answers.{one_answer, part}
use Rattle.poptrie_build.specs.Stands.{BySlot, IsLeaf, node_at, blank}
use Rattle.poptrie_build.specs.Build.{StandsIn}
use Rattle.poptrie_build.specs.declared.node.Node.{Node}
use Rattle.poptrie_build.proofs.Carry.{Carries}
use Rattle.fib_addr.proofs.OneAnswer.{one_answer_is}
use Rattle.poptrie_build.proofs.Visits.{visits_none}
use Rattle.poptrie_build.proofs.Walk.{leaf_ranked, node_ranked}
use Rattle.poptrie_set.specs.Reading.{ByBit, ReadsOn, next_slot}
use Rattle.poptrie_set.proofs.Key_bits.{next_small, slot_bits_next}

-- what is read in places that are kept is read again
map_bit : (b : ℕ) (P P2 Q Q2 : Type 0) → (P → P2) → (Q → Q2) → ByBit b P Q → ByBit b P2 Q2
map_bit zero P P2 Q Q2 p q x = q x
map_bit (suc b) P P2 Q Q2 p q x = p x

pub reads_again : (left : ℕ) (nodes after : List Node) (N M : ℕ → Bool) (leaves others : List ℕ) (L R : ℕ → Bool) (i : ℕ) (bits : List Bool) (h : ℕ) → Carries blank nodes N after M → Carries 0 leaves L others R → ReadsOn left nodes N leaves L i bits h → ReadsOn left after M others R i bits h
unfolding ReadsOn
reads_again zero nodes after N M leaves others L R i bits h a b r = absurd r
reads_again (suc left) nodes after N M leaves others L R i bits h a b r = (
  a.inside i r.0,
  omega (arith, r.1, a.long),
  subst (λ (n : Node). ByBit (bit_at n.vector (next_slot bits)) ((0 < rank_of n.vector (next_slot bits + 1)) × ReadsOn left after M others R (n.base1 + rank_of n.vector (next_slot bits + 1) - 1) (drop 6 bits) h) ((left ≡ 0) × (0 < rank_of n.leafvec (next_slot bits + 1)) × (R (n.base0 + rank_of n.leafvec (next_slot bits + 1) - 1) ≡ true) × IsLeaf others (n.base0 + rank_of n.leafvec (next_slot bits + 1) - 1) h)) (sym (a.same i r.0))
      (map_bit (bit_at (node_at nodes i).vector (next_slot bits)) _ _ _ _
      (λ t. (t.0, reads_again left nodes after N M leaves others L R _ (drop 6 bits) h a b t.1))
      (λ t. (t.0, t.1, b.inside _ t.2, (omega (arith, t.3.0, b.long), b.same _ t.2 ∙ t.3.1)))
      r.2),
)

further : (left : ℕ) (nodes : List Node) (N : ℕ → Bool) (leaves : List ℕ) (L : ℕ → Bool) (i : ℕ) (bits : List Bool) (h : ℕ) → N i ≡ true → i < length nodes → bit_at (node_at nodes i).vector (next_slot bits) ≡ 1 → 0 < rank_of (node_at nodes i).vector (next_slot bits + 1) → ReadsOn left nodes N leaves L ((node_at nodes i).base1 + rank_of (node_at nodes i).vector (next_slot bits + 1) - 1) (drop 6 bits) h → ReadsOn (1 + left) nodes N leaves L i bits h
unfolding ReadsOn
further left nodes N leaves L i bits h n l b s r =
    let e : suc left ≡ 1 + left = omega arith in
    subst (λ (m : ℕ). ReadsOn m nodes N leaves L i bits h) e (n, l, subst (λ (x : ℕ). ByBit x ((0 < rank_of (node_at nodes i).vector (next_slot bits + 1)) × ReadsOn left nodes N leaves L ((node_at nodes i).base1 + rank_of (node_at nodes i).vector (next_slot bits + 1) - 1) (drop 6 bits) h) ((left ≡ 0) × (0 < rank_of (node_at nodes i).leafvec (next_slot bits + 1)) × (L ((node_at nodes i).base0 + rank_of (node_at nodes i).leafvec (next_slot bits + 1) - 1) ≡ true) × IsLeaf leaves ((node_at nodes i).base0 + rank_of (node_at nodes i).leafvec (next_slot bits + 1) - 1) h)) (sym b) (s, r))

last : (nodes : List Node) (N : ℕ → Bool) (leaves : List ℕ) (L : ℕ → Bool) (i : ℕ) (bits : List Bool) (h : ℕ) → N i ≡ true → i < length nodes → bit_at (node_at nodes i).vector (next_slot bits) ≡ 0 → 0 < rank_of (node_at nodes i).leafvec (next_slot bits + 1) → L ((node_at nodes i).base0 + rank_of (node_at nodes i).leafvec (next_slot bits + 1) - 1) ≡ true → IsLeaf leaves ((node_at nodes i).base0 + rank_of (node_at nodes i).leafvec (next_slot bits + 1) - 1) h → ReadsOn 1 nodes N leaves L i bits h
unfolding ReadsOn
last nodes N leaves L i bits h n l b s o t =
    (n, l, subst (λ (x : ℕ). ByBit x ((0 < rank_of (node_at nodes i).vector (next_slot bits + 1)) × ReadsOn 0 nodes N leaves L ((node_at nodes i).base1 + rank_of (node_at nodes i).vector (next_slot bits + 1) - 1) (drop 6 bits) h) ((let z : ℕ = 0 in z ≡ 0) × (0 < rank_of (node_at nodes i).leafvec (next_slot bits + 1)) × (L ((node_at nodes i).base0 + rank_of (node_at nodes i).leafvec (next_slot bits + 1) - 1) ≡ true) × IsLeaf leaves ((node_at nodes i).base0 + rank_of (node_at nodes i).leafvec (next_slot bits + 1) - 1) h)) (sym b) (refl, s, o, t))

-- ---- the region of the slot that bits lead to, and what they get there
answer_next : (d : ℕ) (f : List Bool → ℕ) (bits : List Bool) → length bits ≡ d → slot d f (next_slot bits) (drop 6 bits) ≡ f bits
answer_next d f bits e = ap (λ p. f (p ++ drop 6 bits)) (slot_bits_next d bits e) ∙ ap f (take-append-drop 6 bits)

visits_next : (k d : ℕ) (f : List Bool → ℕ) (bits : List Bool) → length bits ≡ d → one_answer d f ≡ None → visits (suc k) d f bits ≡ 1 + visits k (d - 6) (slot d f (next_slot bits)) (drop 6 bits)
unfolding visits
visits_next k d f bits e m = ap (λ o. mixed o + visits k (d - 6) (part (take 6 bits) f) (drop 6 bits)) m ∙ ap (λ p. 1 + visits k (d - 6) (part p f) (drop 6 bits)) (sym (slot_bits_next d bits e))

visits_one : (k d : ℕ) (f : List Bool → ℕ) (bits : List Bool) (h : ℕ) → length bits ≡ d → one_answer d f ≡ None → slots d f (next_slot bits) ≡ Some h → visits (suc k) d f bits ≡ 1
visits_one k d f bits h e m s =
    visits_next k d f bits e m ∙ ap (λ n. 1 + n) (visits_none k (d - 6) (slot d f (next_slot bits)) h (drop 6 bits) (length-drop 6 bits ∙ ap (λ n. n - 6) e) s)

-- a node that stands by these places is read on from, to the answer of its region, after the visits that are due there
pub reads_on : (k : ℕ) (nodes : List Node) (N : ℕ → Bool) (leaves : List ℕ) (L : ℕ → Bool) (i d : ℕ) (f : List Bool → ℕ) (bits : List Bool) → length bits ≡ d → N i ≡ true → i < length nodes → StandsIn k nodes N leaves L (node_at nodes i) d f → ReadsOn (visits k d f bits) nodes N leaves L i bits (f bits)
unfolding StandsIn ReadsOn
reads_on zero nodes N leaves L i d f bits hd n l s = absurd s
reads_on (suc k) nodes N leaves L i d f bits hd n l s =
    by (λ j x y z. reads_on k nodes N leaves L j (d - 6) (slot d f (next_slot bits)) (drop 6 bits) (length-drop 6 bits ∙ ap (λ n. n - 6) hd) x y z) (slots d f (next_slot bits)) refl (s.2 (next_slot bits) (next_small bits))
  where
    by : ((j : ℕ) → N j ≡ true → j < length nodes → StandsIn k nodes N leaves L (node_at nodes j) (d - 6) (slot d f (next_slot bits)) → ReadsOn (visits k (d - 6) (slot d f (next_slot bits)) (drop 6 bits)) nodes N leaves L j (drop 6 bits) (slot d f (next_slot bits) (drop 6 bits))) → (x : Option ℕ) → slots d f (next_slot bits) ≡ x → BySlot x ((N ((node_at nodes i).base1 + rank_of (node_at nodes i).vector (next_slot bits + 1) - 1) ≡ true) × ((node_at nodes i).base1 + rank_of (node_at nodes i).vector (next_slot bits + 1) - 1 < length nodes) × StandsIn k nodes N leaves L (node_at nodes ((node_at nodes i).base1 + rank_of (node_at nodes i).vector (next_slot bits + 1) - 1)) (d - 6) (slot d f (next_slot bits))) (λ h. (L ((node_at nodes i).base0 + rank_of (node_at nodes i).leafvec (next_slot bits + 1) - 1) ≡ true) × IsLeaf leaves ((node_at nodes i).base0 + rank_of (node_at nodes i).leafvec (next_slot bits + 1) - 1) h) → ReadsOn (visits (suc k) d f bits) nodes N leaves L i bits (f bits)
    by again None e t =
        let v = next_slot bits in
        let b : bit_at (node_at nodes i).vector v ≡ 1 = s.1.nodes v (next_small bits) ∙ ap mixed e in
        let some = node_ranked (node_at nodes i).vector v b in
        let r = again _ t.0 t.1 t.2 in
        let more = visits_next k d f bits hd s.0 in
        subst (λ (m : ℕ). ReadsOn m nodes N leaves L i bits (f bits)) (sym more)
        (subst (λ (h : ℕ). ReadsOn (1 + visits k (d - 6) (slot d f v) (drop 6 bits)) nodes N leaves L i bits h) (answer_next d f bits hd)
        (further (visits k (d - 6) (slot d f v) (drop 6 bits)) nodes N leaves L i bits (slot d f v (drop 6 bits)) n l b some r))
    by again (Some h) e t =
        let v = next_slot bits in
        let b : bit_at (node_at nodes i).vector v ≡ 0 = s.1.nodes v (next_small bits) ∙ ap mixed e in
        let some = leaf_ranked (node_at nodes i).leafvec (slots d f) v h (next_small bits) s.1.leaves e in
        let is : h ≡ f bits = sym (one_answer_is (d - 6) (slot d f v) h e (drop 6 bits) (length-drop 6 bits ∙ ap (λ n. n - 6) hd)) ∙ answer_next d f bits hd in
        subst (λ (m : ℕ). ReadsOn m nodes N leaves L i bits (f bits)) (sym (visits_one k d f bits h hd s.0 e))
        (subst (λ (g : ℕ). ReadsOn 1 nodes N leaves L i bits g) is (last nodes N leaves L i bits h n l b some t.0 t.1))
