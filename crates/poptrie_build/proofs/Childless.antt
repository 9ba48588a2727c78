-- A node none of whose slots has a node: with its leaves written it is made.
use Rattle.std.proofs.Common.{◌≡◌, ℕ, zero, suc, ◌+◌, ◌<◌, ◌≤◌, List, Bool, Some, refl, ◌∙◌, arith, subst}
use Rattle.std.specs.Int.{bit_at}
use Rattle.buddy_arena.specs.Space.{Space, IsSized}
use Rattle.buddy_arena.specs.Places.{is_out}
use Rattle.poptrie_build.specs.Need.{children}
use Rattle.poptrie_build.specs.Stands.{IsCanonical}
use Rattle.poptrie_build.specs.Strides.{slots, mixed, total}
use Rattle.poptrie_build.specs.declared.node.Node.{Node}
use Rattle.poptrie_build.proofs.Counting.{Counted, count_leaf, total_more, total_upto}
use Rattle.poptrie_build.proofs.Directing.{keeps_all}
use Rattle.poptrie_build.proofs.Going.{Going, LeavesThere, hop_of, leaf_there, state}
use Rattle.poptrie_build.proofs.Parted.{Parted, parted_leaf, parted_start}

each_none : (g : ℕ → ℕ) (n v : ℕ) → total g n ≡ 0 → v < n → g v ≡ 0
each_none g n v e l = omega (arith, e, total_more g v, total_upto g (v + 1) n (omega (arith, l)))

module _ (vector leafvec base0 base1 d : ℕ) (f : List Bool → ℕ) (n0 n1 : Space Node) (l0 l1 : Space ℕ) (can : IsCanonical vector leafvec (slots d f)) (there : LeavesThere leafvec base0 d f l1.cells) (none : children (slots d f) ≡ 0) where
  hop_at : (v : ℕ) → v < 64 → (h : ℕ) × (slots d f v ≡ Some h)
  hop_at v l = hop_of (slots d f v) (each_none (λ u. mixed (slots d f u)) 64 v none l)

  no_bit : (v : ℕ) → v < 64 → bit_at vector v ≡ 0
  no_bit v l = can.nodes v l ∙ each_none (λ u. mixed (slots d f u)) 64 v none l

  pub going_upto : (v : ℕ) → v ≤ 64 → Going vector leafvec base0 base1 d f (state n0.cells (is_out n0.free) l0.cells (is_out l0.free)) (state n1.cells (is_out n1.free) l1.cells (is_out l1.free)) (state n1.cells (is_out n1.free) l1.cells (is_out l1.free)) 0 →
      Going vector leafvec base0 base1 d f (state n0.cells (is_out n0.free) l0.cells (is_out l0.free)) (state n1.cells (is_out n1.free) l1.cells (is_out l1.free)) (state n1.cells (is_out n1.free) l1.cells (is_out l1.free)) v
  going_upto zero l g = g
  going_upto (suc v) l g =
      let now = state n1.cells (is_out n1.free) l1.cells (is_out l1.free) in
      let was = state n0.cells (is_out n0.free) l0.cells (is_out l0.free) in
      let some = hop_at v (omega (arith, l)) in
      let e : v + 1 ≡ suc v = omega arith in
      subst (λ (w : ℕ). Going vector leafvec base0 base1 d f was now now w) e (leaf_there vector leafvec base0 base1 d f was now now now v some.0 (omega (arith, l)) some.1 can there (keeps_all 0 _ _ _ _ refl (λ i o. o)) (going_upto v (omega (arith, l)) g) refl refl refl refl)

  pub counted_upto : (v : ℕ) → v ≤ 64 → IsSized l1 → Counted d f n0 n1 l0 l1 0 → Counted d f n0 n1 l0 l1 v
  counted_upto zero l z c = c
  counted_upto (suc v) l z c =
      let some = hop_at v (omega (arith, l)) in
      let e : v + 1 ≡ suc v = omega arith in
      subst (λ (w : ℕ). Counted d f n0 n1 l0 l1 w) e (count_leaf d f n0 n1 n1 l0 l1 l1 v some.0 some.1 refl refl refl refl z (counted_upto v (omega (arith, l)) z c))

  pub parted_upto : (v : ℕ) → v ≤ 64 → Parted vector base1 (state n1.cells (is_out n1.free) l1.cells (is_out l1.free)) (state n1.cells (is_out n1.free) l1.cells (is_out l1.free)) v
  parted_upto zero l = parted_start vector base1 _
  parted_upto (suc v) l =
      let now = state n1.cells (is_out n1.free) l1.cells (is_out l1.free) in
      let e : v + 1 ≡ suc v = omega arith in
      subst (λ (w : ℕ). Parted vector base1 now now w) e (parted_leaf vector base1 now now now v (no_bit v (omega (arith, l))) refl refl refl (parted_upto v (omega (arith, l))))
