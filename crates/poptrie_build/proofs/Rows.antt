-- Worked rows: the definitions at a region of one more bit, of which the last stride's slots are two addresses.
use Rattle.std.proofs.Common.{◌≡◌, ℕ, List, [], ◌∷◌, Bool, true, cond, Some, None, refl}
use Rattle.table_model.specs.Bits.{bits_of}
use Rattle.fib_addr.specs.Answers.{one_answer}
use Rattle.poptrie_build.specs.Strides.{slots, visits, leaf_before, total}
use Rattle.buddy_arena.specs.Powers.{up, up_from}
use Rattle.poptrie_build.specs.Need.{need_nodes, need_leaves}

abbrev two : List Bool → ℕ
two [] = 0
two (b ∷ a) = cond b 7 3

uniform : one_answer 1 two ≡ None
unfolding one_answer
uniform = refl

low_slot : slots 1 two 31 ≡ Some 3
unfolding one_answer bits_of
low_slot = refl

high_slot : slots 1 two 32 ≡ Some 7
unfolding one_answer bits_of
high_slot = refl

one_visit : visits 1 1 two (true ∷ []) ≡ 1
unfolding visits one_answer
one_visit = refl

two_runs : need_leaves 1 1 two ≡ 2
unfolding need_leaves one_answer bits_of total leaf_before up up_from
two_runs = refl

no_children : need_nodes 1 1 two ≡ 0
unfolding need_nodes one_answer bits_of total up up_from
no_children = refl
