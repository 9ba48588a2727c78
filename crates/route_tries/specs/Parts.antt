-- What a trie needs at a prefix.
use Rattle.std.specs.Prelude.{◌≡◌, ◌≤◌, ℕ, zero, suc, ◌+◌, ◌-◌, List, [], ◌∷◌, Bool, true, false, not, nat_eq, ◌||◌, if◌then◌else◌, Option, Some, None, take, drop}
use Rattle.table_model.specs.Bits.{bits_of, begins}
use Rattle.table_model.specs.Address.{Address, Prefix, contains}
use Rattle.table_model.specs.declared.family.Family.{Family}
use Rattle.table_model.specs.Entries.{Entries, match_in}
use Rattle.buddy_arena.specs.Powers.{up}
use Rattle.fib_addr.specs.Answers.{all_answers, part, same_hop, one_answer}
use Rattle.table_model.specs.Sets.{side}
use Rattle.poptrie_build.specs.Strides.{strides, slots, slot, mixed, total}
use Rattle.poptrie_build.specs.Need.{children, runs, if_mixed}
use Rattle.poptrie_build.specs.Tries.{rest}
use Rattle.poptrie_build.specs.declared.counts.Needs.{Needs}
use Rattle.route_tries.specs.Sizes.{need_of, told_need}

-- paths meet if one begins with the other: only then do some addresses begin with both
abbrev pub meet : List Bool → List Bool → Bool
meet p q = begins p q || begins q p

-- Below a chunk region, over k strides, what is needed on the way to a path and within it: each node's own places, and what the slots
-- that meet the path need in turn. With nothing left of the path it is the whole need.
unfoldable pub way_nodes : ℕ → ℕ → (List Bool → ℕ) → List Bool → ℕ
way_nodes zero d f p = 0
way_nodes (suc k) d f p = if_mixed (one_answer d f) (up (children (slots d f)) + total (λ v. if meet (bits_of 6 v) p then way_nodes k (d - 6) (slot d f v) (drop 6 p) else 0) 64)

unfoldable pub way_leaves : ℕ → ℕ → (List Bool → ℕ) → List Bool → ℕ
way_leaves zero d f p = 0
way_leaves (suc k) d f p = if_mixed (one_answer d f) (up (runs (slots d f)) + total (λ v. if meet (bits_of 6 v) p then way_leaves k (d - 6) (slot d f v) (drop 6 p) else 0) 64)

-- ---- nodes that last
-- the one answer of a half and of what else is beside a path, if anything is
abbrev pub half_and : Option ℕ → Option (Option ℕ) → Option ℕ
half_and o None = o
half_and o (Some x) = same_hop o x

-- The one answer of a region's addresses of d more bits that are beside the path p, that is, don't begin with it: Some None if two
-- of them have different answers, None if there is no such address.
unfoldable pub answer_beside : ℕ → (List Bool → ℕ) → List Bool → Option (Option ℕ)
answer_beside zero f p = None
answer_beside (suc d) f [] = None
answer_beside (suc d) f (b ∷ p) = Some (half_and (one_answer d (side (not b) f)) (answer_beside d (side b f) p))

abbrev pub are_two : Option (Option ℕ) → Bool
are_two None = false
are_two (Some None) = true
are_two (Some (Some h)) = false

-- whether some address has another answer than h
abbrev pub other_than : ℕ → Option (Option ℕ) → Bool
other_than h None = false
other_than h (Some None) = true
other_than h (Some (Some g)) = not (nat_eq g h)

-- A region's node lasts if two addresses beside the path have different answers: whatever changes within the path, the region has
-- two answers.
abbrev pub lasts : ℕ → (List Bool → ℕ) → List Bool → Bool
lasts d f p = are_two (answer_beside d f p)

-- Below a chunk region, over k strides, what is needed on the way to a path and within it, from the deepest node that lasts on: what the
-- nodes above it need beside it stays the same if something changes within the path. From the region's own node on if none below it
-- lasts.
unfoldable pub deep_nodes : ℕ → ℕ → (List Bool → ℕ) → List Bool → ℕ
deep_nodes zero d f p = 0
deep_nodes (suc k) d f p = if lasts (d - 6) (part (take 6 p) f) (drop 6 p) then deep_nodes k (d - 6) (part (take 6 p) f) (drop 6 p) else way_nodes (suc k) d f p

unfoldable pub deep_leaves : ℕ → ℕ → (List Bool → ℕ) → List Bool → ℕ
deep_leaves zero d f p = 0
deep_leaves (suc k) d f p = if lasts (d - 6) (part (take 6 p) f) (drop 6 p) then deep_leaves k (d - 6) (part (take 6 p) f) (drop 6 p) else way_leaves (suc k) d f p

-- ---- a whole trie
-- Of a whole trie of s direct bits, over k strides of the d bits after them: by halves down to the direct slots that meet the path,
-- each of which that has a node has that node's place too.
unfoldable pub trie_way_nodes : ℕ → ℕ → ℕ → (List Bool → ℕ) → List Bool → ℕ
trie_way_nodes zero k d f p = mixed (one_answer d f) + deep_nodes k d f p
trie_way_nodes (suc s) k d f [] = trie_way_nodes s k d (side false f) [] + trie_way_nodes s k d (side true f) []
trie_way_nodes (suc s) k d f (b ∷ p) = trie_way_nodes s k d (side b f) p

unfoldable pub trie_way_leaves : ℕ → ℕ → ℕ → (List Bool → ℕ) → List Bool → ℕ
trie_way_leaves zero k d f p = deep_leaves k d f p
trie_way_leaves (suc s) k d f [] = trie_way_leaves s k d (side false f) [] + trie_way_leaves s k d (side true f) []
trie_way_leaves (suc s) k d f (b ∷ p) = trie_way_leaves s k d (side b f) p

-- the need of a family's trie on the way to the bits p and within them, from the deepest node on that lasts
abbrev pub nodes_on_way : Family → ℕ → Entries → List Bool → ℕ
nodes_on_way f s L p = trie_way_nodes s (strides (rest f s)) (rest f s) (all_answers f L) p

abbrev pub leaves_on_way : Family → ℕ → Entries → List Bool → ℕ
leaves_on_way f s L p = trie_way_leaves s (strides (rest f s)) (rest f s) (all_answers f L) p

-- the need at a prefix: from the deepest node on that lasts on the way to it, the own places of the nodes on the way, and the whole need
-- of what is at and within it
abbrev pub need_at : ℕ → Entries → Prefix → Needs
need_at s L p = record { nodes = nodes_on_way p.family s L p.bits; leaves = leaves_on_way p.family s L p.bits }

-- both tables answer alike at every address that isn't in the prefix
abbrev pub AreAlikeOutside : Prefix → Entries → Entries → Type 0
AreAlikeOutside p L M = (a : Address) → contains p a ≡ false → match_in L a ≡ match_in M a

-- The need of the whole before a change and after it, and that of a part, which no other part shares: the others' need stays.
pub record AreMoved (n m part_n part_m : ℕ) : Type 0 where
  pub few : part_n ≤ n
  pub same : m + part_n ≡ n + part_m

-- The needs before, those at a prefix before, and those at it after: if the table changed within the prefix alone, the last of
-- them is the need after, as a u64 holds it.
abbrev pub IsNeedAfter : (whole before after moved : Needs) → Type 0
IsNeedAfter whole before after moved =
    (s : ℕ) (L M : Entries) (p : Prefix) → AreAlikeOutside p L M → whole ≡ need_of p.family s L → before ≡ told_need (need_at s L p) → after ≡ told_need (need_at s M p) → moved ≡ told_need (need_of p.family s M)
