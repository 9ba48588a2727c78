-- How many places the nodes and the leaves of a trie need.
use Rattle.std.specs.Prelude.{ℕ, zero, suc, ◌+◌, ◌-◌, List, Bool, true, false, Option, Some, None, min}
use Rattle.buddy_arena.specs.Powers.{up}
use Rattle.fib_addr.specs.Answers.{one_answer}
use Rattle.table_model.specs.Sets.{side}
use Rattle.poptrie_build.specs.Strides.{slots, slot, mixed, run_start, total}

-- the places that one node needs: c nodes and r leaves
abbrev pub children : (ℕ → Option ℕ) → ℕ
children g = total (λ v. mixed (g v)) 64

abbrev pub runs : (ℕ → Option ℕ) → ℕ
runs g = total (run_start g) 64

-- nothing for a uniform region
abbrev pub if_mixed : Option ℕ → ℕ → ℕ
if_mixed None n = n
if_mixed (Some h) n = 0

-- below a chunk region, over k strides
unfoldable pub need_nodes : ℕ → ℕ → (List Bool → ℕ) → ℕ
need_nodes zero d f = 0
need_nodes (suc k) d f = if_mixed (one_answer d f) (up (children (slots d f)) + total (λ v. need_nodes k (d - 6) (slot d f v)) 64)

unfoldable pub need_leaves : ℕ → ℕ → (List Bool → ℕ) → ℕ
need_leaves zero d f = 0
need_leaves (suc k) d f = if_mixed (one_answer d f) (up (runs (slots d f)) + total (λ v. need_leaves k (d - 6) (slot d f v)) 64)

-- of a whole trie of s direct bits over addresses of s + d bits, k strides below the direct slots: by halves down to the slots,
-- each of which that has a node has that node's place too
unfoldable pub trie_nodes : ℕ → ℕ → ℕ → (List Bool → ℕ) → ℕ
trie_nodes zero k d f = mixed (one_answer d f) + need_nodes k d f
trie_nodes (suc s) k d f = trie_nodes s k d (side false f) + trie_nodes s k d (side true f)

unfoldable pub trie_leaves : ℕ → ℕ → ℕ → (List Bool → ℕ) → ℕ
trie_leaves zero k d f = need_leaves k d f
trie_leaves (suc s) k d f = trie_leaves s k d (side false f) + trie_leaves s k d (side true f)

-- a need as a u64 holds it
abbrev pub need_in_u64 : ℕ → ℕ
need_in_u64 n = min n 18446744073709551615
