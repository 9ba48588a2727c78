-- A set that runs short of a block: which one.
use Rattle.std.proofs.Common.{◌≡◌, ℕ, zero, suc, ◌^◌, ◌<◌, ◌≤◌, List, [], ◌∷◌, arith, subst, inl, inr}
use Rattle.std.proofs.lemmas.Bool.{cases_lt}
use Rattle.std.proofs.lemmas.Nat.{pow_below}
use Rattle.table_model.specs.Entries.{Entries}
use Rattle.buddy_arena.specs.declared.arena.Full.{Full}
use Rattle.table_model.specs.Bits.{bits_of}
use Rattle.fib_addr.specs.Answers.{part, all_answers}
use Rattle.poptrie_build.specs.Strides.{strides}
use Rattle.poptrie_build.specs.Tries.{rest}
use Rattle.path_copying.specs.Asks.{Ask, Frees, RunsOut}
use Rattle.path_copying.specs.declared.blocks.Refusal.TheVariants as refusal
use Rattle.path_copying.proofs.Retiring.{node_places, leaf_places, slots_places}
use Rattle.poptrie_set.specs.Lives.{Seen}
use Rattle.poptrie_set.specs.Prepares.{AsksRunOut, asks_of}
use Rattle.poptrie_set.specs.declared.reasons.NotReady.{NotReady as NotBeside}
use Rattle.poptrie_set.specs.declared.reasons.NotReady.TheVariants as beside
use Rattle.poptrie_update.specs.Prepares.{RunsShort, refusal_in}

-- ---- a block that is refused is no larger than all that are asked for
nodes_refused : (n l : ℕ) (xs : List Ask) (s : Frees) (e : Full) → RunsOut n l xs s (refusal.Nodes e) → 2 ^ e.order ≤ node_places xs
unfolding RunsOut
nodes_refused n l [] s e r = absurd r
nodes_refused n l ((zero, need) ∷ xs) s e (inl r) = omega (arith, r.0)
nodes_refused n l ((suc a, need) ∷ xs) s e (inl r) = absurd r
nodes_refused n l (x ∷ xs) s e (inr r) = let h = nodes_refused n l xs r.0 e r.2 in omega (arith, h)

leaves_refused : (n l : ℕ) (xs : List Ask) (s : Frees) (e : Full) → RunsOut n l xs s (refusal.Leaves e) → 2 ^ e.order ≤ leaf_places xs
unfolding RunsOut
leaves_refused n l [] s e r = absurd r
leaves_refused n l ((zero, need) ∷ xs) s e (inl r) = absurd r
leaves_refused n l ((suc a, need) ∷ xs) s e (inl r) = omega (arith, r.0)
leaves_refused n l (x ∷ xs) s e (inr r) = let h = leaves_refused n l xs r.0 e r.2 in omega (arith, h)

low : (k j : ℕ) → 2 ^ k ≤ 2 ^ j → j ≤ 26 → k < 64
low k j h few = elim (cases_lt j k) [
  | inl a ↦ let p = pow_below j k a in absurd (omega (arith, p, h))
  | inr a ↦ omega arith
]

-- so it has few places, as the needs fit
module _ (s : Seen) (L M : Entries) (nodes_small : s.nodes.space.order ≤ 26) (leaves_small : s.leaves.space.order ≤ 26) where
  pub order_low : (arena : ℕ) (e : Full) → RunsShort s L M s.nodes.space s.leaves.space (refusal_in arena e) → e.order < 64
  order_low zero e r =
      let a = nodes_refused s.nodes.space.order s.leaves.space.order (asks_of s.family s.direct_bits L M) (s.nodes.space.free, s.leaves.space.free) e r.refused in
      let b = (slots_places (strides (rest s.family s.direct_bits)) s.direct_bits (rest s.family s.direct_bits) (all_answers s.family M) (λ v. part (bits_of s.direct_bits v) (all_answers s.family L))).0 in
      low e.order s.nodes.space.order (omega (arith, a, b, r.nodes_fit)) nodes_small
  order_low (suc n) e r =
      let a = leaves_refused s.nodes.space.order s.leaves.space.order (asks_of s.family s.direct_bits L M) (s.nodes.space.free, s.leaves.space.free) e r.refused in
      let b = (slots_places (strides (rest s.family s.direct_bits)) s.direct_bits (rest s.family s.direct_bits) (all_answers s.family M) (λ v. part (bits_of s.direct_bits v) (all_answers s.family L))).1 in
      low e.order s.leaves.space.order (omega (arith, a, b, r.leaves_fit)) leaves_small

-- ---- what was told of the block
pub short_of_nodes : (s : Seen) (L M : Entries) (why : NotBeside) (e : Full) → why ≡ beside.NodesOut e → AsksRunOut s L M why → RunsShort s L M s.nodes.space s.leaves.space (refusal_in 0 e)
short_of_nodes s L M why e is out = let r = subst (λ (w : NotBeside). AsksRunOut s L M w) is out in record { nodes_fit = r.0; leaves_fit = r.1; refused = r.2 }

pub short_of_leaves : (s : Seen) (L M : Entries) (why : NotBeside) (e : Full) → why ≡ beside.LeavesOut e → AsksRunOut s L M why → RunsShort s L M s.nodes.space s.leaves.space (refusal_in 1 e)
short_of_leaves s L M why e is out = let r = subst (λ (w : NotBeside). AsksRunOut s L M w) is out in record { nodes_fit = r.0; leaves_fit = r.1; refused = r.2 }
