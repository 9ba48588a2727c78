use Rattle.std.proofs.Common.{◌≡◌, ℕ, ◌+◌, ◌^◌, List, ◌++◌, Bool, drop, sym, ap, arith}
use Rattle.buddy_arena.specs.Arrays.{Array, places_of}
use Rattle.buddy_arena.specs.Blocks.{blocks_of}
use Rattle.fib_addr.specs.Answers.{all_answers, part}
use Rattle.table_model.specs.Bits.{bits_of}
use Rattle.poptrie_build.specs.Strides.{strides}
use Rattle.poptrie_build.specs.Tries.{rest, node_need, leaf_need}
use Rattle.path_copying.proofs.Retiring.{slots_places}
use Rattle.poptrie_set.specs.Crowds.{sum}
use Rattle.poptrie_set.proofs.Late.{late_few, early_late}
use Rattle.poptrie_set.proofs.Short.{small_slots, nodes_short, leaves_short}
use Rattle.poptrie_set.proofs.Crowded.{crowded}
use Rattle.poptrie_set.proofs.crowd_laws.crowded_law.Goals as goal

pub returns-clause-nodes : goal.returns-clause-nodes
returns-clause-nodes c = λ s L M ns ls since nodes leaves e still sh past gave out.
    let k : ℕ = strides (rest s.family s.direct_bits) in
    let d : ℕ = rest s.family s.direct_bits in
    let f : List Bool → ℕ = all_answers s.family M in
    let h : ℕ → List Bool → ℕ = λ v. part (bits_of s.direct_bits v) (all_answers s.family L) in
    let asked = (slots_places k s.direct_bits d f h).0 in
    let short = nodes_short nodes.order leaves.order _ (nodes.free, leaves.free) e gave.nodes_sized.places (small_slots k s.direct_bits d f h) out in
    let none : places_of (s.nodes.taken ++ blocks_of s.nodes.retired) ≡ places_of (blocks_of s.nodes.retired) = ap (λ (x : List Array). places_of (x ++ blocks_of s.nodes.retired)) still.0 in
    let order : 2 ^ s.nodes.space.order ≡ 2 ^ nodes.order = ap (λ (o : ℕ). 2 ^ o) (sym gave.nodes.order) in
    let fill = sh.2.before.nodes_fill in
    let late = late_few since ns s.nodes.retired past.nodes in
    let parts = early_late since s.nodes.retired in
    let all = crowded nodes.order _ (sum (drop since ns) + node_need s.family s.direct_bits L + node_need s.family s.direct_bits M) nodes.free e gave.nodes_sized.places short (omega (arith, fill, none, order, late, parts, gave.nodes.left, asked)) (omega (arith, asked)) in
    omega (arith, all, order)

pub returns-clause-leaves : goal.returns-clause-leaves
returns-clause-leaves c = λ s L M ns ls since nodes leaves e still sh past gave out.
    let k : ℕ = strides (rest s.family s.direct_bits) in
    let d : ℕ = rest s.family s.direct_bits in
    let f : List Bool → ℕ = all_answers s.family M in
    let h : ℕ → List Bool → ℕ = λ v. part (bits_of s.direct_bits v) (all_answers s.family L) in
    let asked = (slots_places k s.direct_bits d f h).1 in
    let short = leaves_short nodes.order leaves.order _ (nodes.free, leaves.free) e gave.leaves_sized.places (small_slots k s.direct_bits d f h) out in
    let none : places_of (s.leaves.taken ++ blocks_of s.leaves.retired) ≡ places_of (blocks_of s.leaves.retired) = ap (λ (x : List Array). places_of (x ++ blocks_of s.leaves.retired)) still.1 in
    let order : 2 ^ s.leaves.space.order ≡ 2 ^ leaves.order = ap (λ (o : ℕ). 2 ^ o) (sym gave.leaves.order) in
    let fill = sh.2.before.leaves_fill in
    let late = late_few since ls s.leaves.retired past.leaves in
    let parts = early_late since s.leaves.retired in
    let all = crowded leaves.order _ (sum (drop since ls) + leaf_need s.family s.direct_bits L + leaf_need s.family s.direct_bits M) leaves.free e gave.leaves_sized.places short (omega (arith, fill, none, order, late, parts, gave.leaves.left, asked)) (omega (arith, asked)) in
    omega (arith, all, order)
