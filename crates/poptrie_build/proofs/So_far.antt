-- One more slot in the vectors, and the counts of their bits.
use Rattle.std.proofs.Common.{◌≡◌, ◌≢◌, ℕ, zero, suc, ◌+◌, ◌*◌, ◌%◌, ◌^◌, ◌<◌, ◌≤◌, cond, Option, Some, None, refl, sym, ap, ◌∙◌, arith, subst, inl, inr, w64}
use Rattle.std.specs.Prelude.{bit_or, ◌⊎◌}
use Rattle.std.specs.Int.{bit_at}
use Rattle.std.specs.Int.Count.{ones}
use Rattle.std.proofs.lemmas.Bool.{cases_eq, eq-eqb, ne_eqb}
use Rattle.std.proofs.lemmas.Nat.{mod_below, pow_pos}
use Rattle.std.proofs.lemmas.Nat.Bits.{bit_at_set_same, bit_at_set_other, bit_at-zero, bit_at_above, same_from_bits}
use Rattle.poptrie_build.specs.Bits.{rank_of}
use Rattle.poptrie_build.specs.Strides.{mixed, starts, or_earlier, leaf_before, run_start, total}
use Rattle.poptrie_build.specs.Making.{IsSoFar}
use Rattle.poptrie_build.specs.declared.making.Partial.{Partial}
use Rattle.poptrie_build.proofs.Bits.{rank_ones}
use Rattle.poptrie_build.proofs.Address.{bit_mod}

-- bits below v that agree with h, and the bit at v
bits_set : (n v : ℕ) (h : ℕ → ℕ) → v < 64 → h v ≡ 1 → ((u : ℕ) → u < v → bit_at n u ≡ h u) → (u : ℕ) → u < v + 1 → bit_at (bit_or n (1 * 2 ^ v % 2 ^ 64)) u ≡ h u
bits_set n v h l one b u m =
    elim (cases_eq u v) [
      | inl same ↦ ap (bit_at (bit_or n (1 * 2 ^ v % 2 ^ 64))) same ∙ (bit_at_set_same w64 n v l ∙ (sym one ∙ ap h (sym same)))
      | inr other ↦ bit_at_set_other w64 n v l u other ∙ b u (omega arith)
    ]

bits_kept : (n v : ℕ) (h : ℕ → ℕ) → bit_at n v ≡ 0 → h v ≡ 0 → ((u : ℕ) → u < v → bit_at n u ≡ h u) → (u : ℕ) → u < v + 1 → bit_at n u ≡ h u
bits_kept n v h z e b u m =
    elim (cases_eq u v) [
      | inl same ↦ ap (bit_at n) same ∙ (z ∙ (sym e ∙ ap h (sym same)))
      | inr other ↦ b u (omega arith)
    ]

none_set : (n v : ℕ) → v < 64 → ((u : ℕ) → v ≤ u → bit_at n u ≡ 0) → (u : ℕ) → v + 1 ≤ u → bit_at (bit_or n (1 * 2 ^ v % 2 ^ 64)) u ≡ 0
none_set n v l b u m = let ne : u ≢ v = omega arith in bit_at_set_other w64 n v l u ne ∙ b u (omega arith)

pub last_more : (g : ℕ → Option ℕ) (v : ℕ) → leaf_before g (v + 1) ≡ or_earlier (g v) (leaf_before g v)
unfolding leaf_before
last_more g v = let e : v + 1 ≡ suc v = omega arith in ap (leaf_before g) e

pub so_far_start : (g : ℕ → Option ℕ) (s : Partial) → s ≡ record { vector = 0; leafvec = 0; last = None } → IsSoFar s g 0
unfolding leaf_before
so_far_start g s e = subst (λ (t : Partial). IsSoFar t g 0) (sym e) (record {
  nodes = λ u l. absurd (omega arith);
  leaves = λ u l. absurd (omega arith);
  no_nodes = λ u l. bit_at-zero u;
  no_leaves = λ u l. bit_at-zero u;
  last = refl;
})

-- ---- a node
pub so_far_node : (g : ℕ → Option ℕ) (v x y : ℕ) (last : Option ℕ) → v < 64 → None ≡ g v → IsSoFar (record { vector = x; leafvec = y; last = last }) g v → IsSoFar (record { vector = bit_or x (1 * 2 ^ v % 2 ^ 64); leafvec = y; last = last }) g (v + 1)
so_far_node g v x y last l e s = record {
  nodes = bits_set x v (λ u. mixed (g u)) l (sym (ap mixed e)) s.nodes;
  leaves = bits_kept y v (run_start g) (s.no_leaves v (omega arith)) (sym (ap (λ k. starts k (leaf_before g v)) e)) s.leaves;
  no_nodes = none_set x v l s.no_nodes;
  no_leaves = λ u m. s.no_leaves u (omega arith);
  last = s.last ∙ (ap (λ k. or_earlier k (leaf_before g v)) e ∙ sym (last_more g v));
}

-- ---- a leaf that starts a run
pub so_far_start_of_run : (g : ℕ → Option ℕ) (v x y h : ℕ) (last : Option ℕ) → v < 64 → Some h ≡ g v → starts (Some h) last ≡ 1 → IsSoFar (record { vector = x; leafvec = y; last = last }) g v → IsSoFar (record { vector = x; leafvec = bit_or y (1 * 2 ^ v % 2 ^ 64); last = Some h }) g (v + 1)
so_far_start_of_run g v x y h last l e r s = record {
  nodes = bits_kept x v (λ u. mixed (g u)) (s.no_nodes v (omega arith)) (sym (ap mixed e)) s.nodes;
  leaves = bits_set y v (run_start g) l (sym (ap (λ k. starts k (leaf_before g v)) e) ∙ (ap (starts (Some h)) (sym s.last) ∙ r)) s.leaves;
  no_nodes = λ u m. s.no_nodes u (omega arith);
  no_leaves = none_set y v l s.no_leaves;
  last = ap (λ k. or_earlier k (leaf_before g v)) e ∙ sym (last_more g v);
}

-- ---- a leaf that goes on with a run
pub so_far_same : (g : ℕ → Option ℕ) (v : ℕ) (s : Partial) (h : ℕ) → v < 64 → Some h ≡ g v → s.last ≡ Some h → IsSoFar s g v → IsSoFar s g (v + 1)
so_far_same g v s h l e q i =
    let r : starts (Some h) s.last ≡ 0 = ap (starts (Some h)) q ∙ ap (λ b. cond b 0 1) (eq-eqb h h refl) in
    record {
      nodes = bits_kept s.vector v (λ u. mixed (g u)) (i.no_nodes v (omega arith)) (sym (ap mixed e)) i.nodes;
      leaves = bits_kept s.leafvec v (run_start g) (i.no_leaves v (omega arith)) (sym (ap (λ k. starts k (leaf_before g v)) e) ∙ (ap (starts (Some h)) (sym i.last) ∙ r)) i.leaves;
      no_nodes = λ u m. i.no_nodes u (omega arith);
      no_leaves = λ u m. i.no_leaves u (omega arith);
      last = q ∙ (ap (λ k. or_earlier k (leaf_before g v)) e ∙ sym (last_more g v));
    }

pub starts_other : (h k : ℕ) → h ≢ k → starts (Some h) (Some k) ≡ 1
starts_other h k n = ap (λ b. cond b 0 1) (ne_eqb h k n)

-- ---- counts
pub rank_total : (n k : ℕ) (h : ℕ → ℕ) → ((u : ℕ) → u < k → bit_at n u ≡ h u) → rank_of n k ≡ total h k
unfolding rank_of total
rank_total n zero h b = refl
rank_total n (suc k) h b =
    let r = rank_total n k h (λ u l. b u (omega arith)) in
    let e = b k (omega arith) in
    omega arith

pub cases_le : (k i : ℕ) → (i < k) ⊎ (k ≤ i)
cases_le k i = grind arith

-- a number with no bit from k on is below 2 ^ k
no_bits : (n k : ℕ) → ((u : ℕ) → k ≤ u → bit_at n u ≡ 0) → n ≡ n % 2 ^ k
no_bits n k z = same_from_bits n (n % 2 ^ k) (λ i. by i (cases_le k i))
  where
    by : (i : ℕ) → (i < k) ⊎ (k ≤ i) → bit_at n i ≡ bit_at (n % 2 ^ k) i
    by i (inl l) = sym (bit_mod n k i l)
    by i (inr l) = z i l ∙ sym (bit_at_above (n % 2 ^ k) k i (mod_below n (2 ^ k) (pow_pos k)) l)

pub ones_total : (n v : ℕ) (h : ℕ → ℕ) → v ≤ 64 → 64 ≤ v → ((u : ℕ) → v ≤ u → bit_at n u ≡ 0) → ((u : ℕ) → u < v → bit_at n u ≡ h u) → ones n ≡ total h 64
ones_total n v h l m z b = ap ones (no_bits n 64 (λ u k. z u (omega arith))) ∙ (rank_ones n 64 ∙ rank_total n 64 h (λ u k. b u (omega arith)))
