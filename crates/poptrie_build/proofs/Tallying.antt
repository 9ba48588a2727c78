-- Tallies with more slots, and the slots of the halves of a region.
use Rattle.std.proofs.Common.{◌≡◌, ◌≢◌, ℕ, zero, suc, ◌+◌, ◌-◌, ◌*◌, ◌^◌, ◌<◌, ◌≤◌, List, Bool, true, false, cond, Option, Some, None, length, take, min, refl, sym, ap, ◌∙◌, arith, subst}
use Rattle.std.specs.Option.{option_eq}
use Rattle.std.proofs.lemmas.Bool.{eq-eqb, eqb-true, eqb-false}
use Rattle.std.proofs.Math.Dec.{eqb}
use Rattle.std.proofs.lemmas.List.{length-take}
use Rattle.table_model.specs.Bits.{bits_of}
use Rattle.table_model.proofs.BitLaws.{length-bits_of}
use Rattle.fib_addr.specs.Answers.{part, one_answer}
use Rattle.fib_addr.proofs.OneAnswer.{one_answer_part, mixed_bits}
use Rattle.table_model.specs.Sets.{side}
use Rattle.buddy_arena.specs.Powers.{up}
use Rattle.poptrie_build.specs.Strides.{slot, slots, mixed, starts, or_earlier, leaf_before, run_start, total}
use Rattle.poptrie_build.specs.Need.{need_in_u64, children, runs, need_nodes, need_leaves}
use Rattle.poptrie_build.specs.Tally.{AreLeaves, IsNeed, IsTally, AreParts}
use Rattle.poptrie_build.specs.declared.counts.Needs.{Needs}
use Rattle.poptrie_build.specs.declared.tally.Tally.{Tally}
use Rattle.poptrie_build.proofs.Counting.{total_more, nodes_at, leaves_at, need_nodes_is, need_leaves_is, no_nodes, no_leaves}
use Rattle.poptrie_build.proofs.Slotting.{low_bits, high_bits, take_nil, double}
use Rattle.poptrie_build.proofs.So_far.{last_more, starts_other}

pub tally_start : (t : Tally) (g : ℕ → Option ℕ) (N L : ℕ → ℕ) → t.last ≡ None → t.nodes ≡ 0 → t.leaves ≡ 0 → t.below.nodes ≡ 0 → t.below.leaves ≡ 0 → IsTally t g N L 0
unfolding leaf_before total
tally_start t g N L l n m bn bl = record {
  last = l;
  nodes = n;
  leaves = m;
  below = record { nodes = bn; leaves = bl };
}

-- ---- many leaves of one hop
before_alike : (g : ℕ → Option ℕ) (v n h : ℕ) → ((u : ℕ) → u < suc n → g (v + u) ≡ Some h) → leaf_before g (v + suc n) ≡ Some h
unfolding leaf_before
before_alike g v n h a =
    let s : v + suc n ≡ suc (v + n) = omega arith in
    ap (leaf_before g) s ∙ ap (λ x. or_earlier x (leaf_before g (v + n))) (a n (omega arith))

total_none : (g : ℕ → ℕ) (v n : ℕ) → ((u : ℕ) → u < n → g (v + u) ≡ 0) → total g (v + n) ≡ total g v
unfolding total
total_none g v zero z = let e : v + zero ≡ v = omega arith in ap (total g) e
total_none g v (suc n) z =
    let s : v + suc n ≡ suc (v + n) = omega arith in
    let i = total_none g v n (λ u l. z u (omega arith)) in
    let l = z n (omega arith) in
    ap (total g) s ∙ omega arith

runs_alike : (g : ℕ → Option ℕ) (v n h : ℕ) → ((u : ℕ) → u < suc n → g (v + u) ≡ Some h) → total (run_start g) (v + suc n) ≡ total (run_start g) v + starts (Some h) (leaf_before g v)
unfolding total
runs_alike g v zero h a =
    let z : v + zero ≡ v = omega arith in
    let e : g v ≡ Some h = ap g (sym z) ∙ a zero (omega arith) in
    total_more (run_start g) v ∙ ap (λ x. total (run_start g) v + starts x (leaf_before g v)) e
runs_alike g v (suc n) h a =
    let s : v + suc (suc n) ≡ suc (v + suc n) = omega arith in
    let i = runs_alike g v n h (λ u l. a u (omega arith)) in
    let b = before_alike g v n h (λ u l. a u (omega arith)) in
    let q : run_start g (v + suc n) ≡ 0 = ap (λ x. starts x (leaf_before g (v + suc n))) (a (suc n) (omega arith)) ∙ (ap (starts (Some h)) b ∙ ap (λ x. cond x 0 1) (eq-eqb h h refl)) in
    ap (total (run_start g)) s ∙ omega arith

pub tally_leaves : (t s : Tally) (h : ℕ) (g : ℕ → Option ℕ) (N L : ℕ → ℕ) (v n : ℕ) → s.last ≡ Some h → s.nodes ≡ t.nodes → s.leaves ≡ t.leaves + starts (Some h) t.last → s.below.nodes ≡ t.below.nodes → s.below.leaves ≡ t.below.leaves → 0 < n → AreLeaves h g N L v n → IsTally t g N L v → IsTally s g N L (v + n)
tally_leaves t s h g N L v zero l c m bn bl z a i = absurd (omega arith)
tally_leaves t s h g N L v (suc n) l c m bn bl z a i =
    let alike : (u : ℕ) → u < suc n → g (v + u) ≡ Some h = λ u l. (a u l).0 in
    record {
      last = l ∙ sym (before_alike g v n h alike);
      nodes = c ∙ (i.nodes ∙ sym (total_none (λ u. mixed (g u)) v (suc n) (λ u l. ap mixed (alike u l))));
      leaves = m ∙ (ap (λ x. x + starts (Some h) t.last) i.leaves ∙ (ap (λ x. total (run_start g) v + starts (Some h) x) i.last ∙ sym (runs_alike g v n h alike)));
      below = record {
        nodes = bn ∙ (i.below.nodes ∙ ap need_in_u64 (sym (total_none N v (suc n) (λ u l. (a u l).1))));
        leaves = bl ∙ (i.below.leaves ∙ ap need_in_u64 (sym (total_none L v (suc n) (λ u l. (a u l).2))));
      };
    }

pub last_is : (o : Option ℕ) (h : ℕ) → option_eq eqb o (Some h) ≡ true → o ≡ Some h
last_is None h e = cc
last_is (Some k) h e = ap Some (eqb-true k h e)

pub goes_on : (o : Option ℕ) (h : ℕ) → o ≡ Some h → starts (Some h) o ≡ 0
goes_on o h e = ap (starts (Some h)) e ∙ ap (λ x. cond x 0 1) (eq-eqb h h refl)

pub starts_anew : (o : Option ℕ) (h : ℕ) → option_eq eqb o (Some h) ≡ false → starts (Some h) o ≡ 1
starts_anew None h e = refl
starts_anew (Some k) h e = starts_other h k (λ q. eqb-false k h e (sym q))

-- ---- a node
pub tally_node : (t s : Tally) (n : Needs) (g : ℕ → Option ℕ) (N L : ℕ → ℕ) (v : ℕ) → s.last ≡ t.last → s.nodes ≡ t.nodes + 1 → s.leaves ≡ t.leaves → s.below.nodes ≡ min (t.below.nodes + n.nodes) 18446744073709551615 → s.below.leaves ≡ min (t.below.leaves + n.leaves) 18446744073709551615 → g v ≡ None → IsNeed n (N v) (L v) → IsTally t g N L v → IsTally s g N L (v + 1)
tally_node t s n g N L v l c m bn bl none need i = record {
  last = l ∙ (i.last ∙ (sym (ap (λ x. or_earlier x (leaf_before g v)) none) ∙ sym (last_more g v)));
  nodes = omega (arith, c, i.nodes, total_more (λ u. mixed (g u)) v, ap mixed none);
  leaves = omega (arith, m, i.leaves, total_more (run_start g) v, ap (λ x. starts x (leaf_before g v)) none);
  below = record {
    nodes = omega (arith, bn, i.below.nodes, need.nodes, total_more N v);
    leaves = omega (arith, bl, i.below.leaves, need.leaves, total_more L v);
  };
}

-- ---- at the end
pub tally_end : (t : Tally) (n : Needs) (g : ℕ → Option ℕ) (N L : ℕ → ℕ) → n.nodes ≡ min (up t.nodes + t.below.nodes) 18446744073709551615 → n.leaves ≡ min (up t.leaves + t.below.leaves) 18446744073709551615 → IsTally t g N L 64 → IsNeed n (up (children g) + total N 64) (up (runs g) + total L 64)
tally_end t n g N L en el i = record {
  nodes = omega (arith, en, ap up i.nodes, i.below.nodes);
  leaves = omega (arith, el, ap up i.leaves, i.below.leaves);
}

-- the need of a region with two answers
pub need_end : (n : Needs) (d : ℕ) (f : List Bool → ℕ) → one_answer d f ≡ None → ((j : ℕ) → d - 6 ≤ 6 * j → IsNeed n (up (children (slots d f)) + total (nodes_at j d f) 64) (up (runs (slots d f)) + total (leaves_at j d f) 64)) → (k : ℕ) → d ≤ 6 * k → IsNeed n (need_nodes k d f) (need_leaves k d f)
need_end n d f none i zero h = absurd (let m = mixed_bits d f none in omega arith)
need_end n d f none i (suc k) h =
    let all = i k (omega arith) in
    record { nodes = all.nodes ∙ ap need_in_u64 (sym (need_nodes_is k d f none)); leaves = all.leaves ∙ ap need_in_u64 (sym (need_leaves_is k d f none)) }

-- ---- the slots of a region
pub parts_start : (d : ℕ) (f : List Bool → ℕ) → AreParts 6 d f (d - 6) (slot d f) 0
parts_start d f = record {
  bits = refl;
  answers = λ u l. let z : 0 + u ≡ u = omega arith in ap (slot d f) z;
}

pub parts_alike : (j d h e v : ℕ) (f : List Bool → ℕ) (r : ℕ → List Bool → ℕ) → one_answer d f ≡ Some h → AreParts j d f e r v → (u : ℕ) → u < 2 ^ j → one_answer e (r (v + u)) ≡ Some h
parts_alike j d h e v f r one a u l =
    let p = take d (bits_of j u) in
    let n : length p + (d - j) ≡ d = omega (arith, length-take d (bits_of j u), length-bits_of j u) in
    ap (λ n. one_answer n (r (v + u))) a.bits
    ∙ (ap (one_answer (d - j)) (a.answers u l)
    ∙ one_answer_part d (d - j) f h p n one)

one_part : (j d e v : ℕ) (f : List Bool → ℕ) (r : ℕ → List Bool → ℕ) → j ≡ 0 → AreParts j d f e r v → r v ≡ f
unfolding bits_of
one_part j d e v f r z a =
    let one : 2 ^ j ≡ 1 = ap (λ i. 2 ^ i) z in
    let v0 : v + 0 ≡ v = omega arith in
    ap r (sym v0)
    ∙ (a.answers 0 (omega arith)
    ∙ (ap (λ i. part (take d (bits_of i 0)) f) z
    ∙ ap (λ p. part p f) (take_nil d)))

-- a region that is one slot, and what is needed below it
pub part_node : (j d e v : ℕ) (f : List Bool → ℕ) (r : ℕ → List Bool → ℕ) → j ≡ 0 → one_answer d f ≡ None → AreParts j d f e r v → one_answer e (r v) ≡ None
part_node j d e v f r z none a =
    let b : d ≡ e = omega (arith, a.bits) in
    ap (one_answer e) (one_part j d e v f r z a) ∙ (ap (λ x. one_answer x f) (sym b) ∙ none)

pub part_need : (n : Needs) (N L : ℕ → (List Bool → ℕ) → ℕ) (j d e v : ℕ) (f : List Bool → ℕ) (r : ℕ → List Bool → ℕ) → j ≡ 0 → AreParts j d f e r v → IsNeed n (N d f) (L d f) → IsNeed n (N e (r v)) (L e (r v))
part_need n N L j d e v f r z a need =
    let b : d ≡ e = omega (arith, a.bits) in
    subst (λ (g : List Bool → ℕ). IsNeed n (N e g) (L e g)) (sym (one_part j d e v f r z a)) (subst (λ (x : ℕ). IsNeed n (N x f) (L x f)) b need)

-- the slots of a region with one answer
pub uniform_slots : (k j d h e v : ℕ) (f : List Bool → ℕ) (r : ℕ → List Bool → ℕ) → one_answer d f ≡ Some h → AreParts j d f e r v → AreLeaves h (λ u. one_answer e (r u)) (λ u. need_nodes k e (r u)) (λ u. need_leaves k e (r u)) v (2 ^ j)
uniform_slots k j d h e v f r one a u l =
    let is = parts_alike j d h e v f r one a u l in
    (is, no_nodes k e h (r (v + u)) is, no_leaves k e h (r (v + u)) is)

low_parts : (j d e v : ℕ) (f : List Bool → ℕ) (r : ℕ → List Bool → ℕ) → AreParts (suc j) (suc d) f e r v → AreParts j d (side false f) e r v
low_parts j d e v f r a = record {
  bits = omega (arith, a.bits);
  answers = λ u l. a.answers u (omega (arith, double j)) ∙ ap (λ p. part (take (suc d) p) f) (low_bits j u l);
}

high_parts : (j d e v : ℕ) (f : List Bool → ℕ) (r : ℕ → List Bool → ℕ) → AreParts (suc j) (suc d) f e r v → AreParts j d (side true f) e r (v + 2 ^ j)
high_parts j d e v f r a = record {
  bits = omega (arith, a.bits);
  answers = λ u l.
      let s : v + 2 ^ j + u ≡ v + (2 ^ j + u) = omega arith in
      ap r s
      ∙ (a.answers (2 ^ j + u) (omega (arith, double j))
      ∙ ap (λ p. part (take (suc d) p) f) (high_bits j u l));
}

-- the same of what the code has
module _ (j d e v : ℕ) (f : List Bool → ℕ) (r : ℕ → List Bool → ℕ) (z : j ≢ 0) (b : ℕ) (h : List Bool → ℕ) (n : b + 1 ≡ d) (a : AreParts j d f e r v) where
  whole : AreParts (suc (j - 1)) (suc b) f e r v
  whole =
      let sj : j ≡ suc (j - 1) = omega arith in
      let sd : d ≡ suc b = omega arith in
      subst (λ (x : ℕ). AreParts x (suc b) f e r v) sj (subst (λ (x : ℕ). AreParts j x f e r v) sd a)

  pub parts_low : h ≡ side false f → AreParts (j - 1) b h e r v
  parts_low s = subst (λ (x : List Bool → ℕ). AreParts (j - 1) b x e r v) (sym s) (low_parts (j - 1) b e v f r whole)

  pub parts_high : h ≡ side true f → AreParts (j - 1) b h e r (v + 2 ^ (j - 1))
  parts_high s = subst (λ (x : List Bool → ℕ). AreParts (j - 1) b x e r (v + 2 ^ (j - 1))) (sym s) (high_parts (j - 1) b e v f r whole)
