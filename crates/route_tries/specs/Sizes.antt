-- How large the tries of both families are, what they need, and what is said if an arena is too small.
use Rattle.std.specs.Prelude.{◌≤◌, ℕ, ◌+◌, ◌^◌, Option, Some, None, cond, nat_lt}
use Rattle.table_model.specs.declared.family.Family.{Family}
use Rattle.table_model.specs.declared.family.Family.TheVariants.{V4, V6}
use Rattle.table_model.specs.Entries.{Entries}
use Rattle.poptrie_build.specs.Need.{need_in_u64}
use Rattle.poptrie_build.specs.Tries.{node_need, leaf_need}
use Rattle.poptrie_build.specs.declared.counts.Needs.{Needs}
use Rattle.route_tries.specs.declared.sizes.Sizes as code_sizes
use Rattle.route_tries.specs.declared.sizes.TrieFull as code_full
use Rattle.route_tries.specs.declared.needs.FamilyNeeds.{FamilyNeeds}

-- the direct bits, and the orders of the arenas of nodes and of leaves, of each family's trie
pub record Sizes : Type 0 where
  pub direct : ℕ
  pub nodes : ℕ
  pub leaves : ℕ

-- An arena is too small: 0 is that of IPv4's nodes, 1 of its leaves, 2 of IPv6's nodes, 3 of its leaves. With it the places that are
-- needed, at most 2^64 - 1, and those that there are.
pub record Shortage : Type 0 where
  pub arena : ℕ
  pub need : ℕ
  pub have : ℕ

abbrev pub sizes_as : code_sizes.Sizes → Sizes
sizes_as z = record { direct = z.direct; nodes = z.nodes; leaves = z.leaves }

abbrev pub shortage_as : code_full.TrieFull → Shortage
shortage_as t = record { arena = t.arena; need = t.need; have = t.have }

-- ---- needs

-- the need of a family's trie with s direct bits for a table
abbrev pub need_of : Family → ℕ → Entries → Needs
need_of f s L = record { nodes = node_need f s L; leaves = leaf_need f s L }

-- the needs of both families' tries, if L has the entries of IPv4 and M those of IPv6
abbrev pub needs_of_both : ℕ → Entries → Entries → FamilyNeeds
needs_of_both s L M = record { v4 = need_of V4 s L; v6 = need_of V6 s M }

-- the same for a table of both families
abbrev pub needs_of : ℕ → Entries → FamilyNeeds
needs_of s L = needs_of_both s L L

-- needs as u64s hold them
abbrev pub told_need : Needs → Needs
told_need n = record { nodes = need_in_u64 n.nodes; leaves = need_in_u64 n.leaves }

abbrev pub told_needs : FamilyNeeds → FamilyNeeds
told_needs n = record { v4 = told_need n.v4; v6 = told_need n.v6 }

-- ---- what is short

-- what is short of this arena, or, if its places are enough, what is said of the arenas after it
abbrev pub short_or : (arena need have : ℕ) → Option Shortage → Option Shortage
short_or arena need have later = cond (nat_lt have need) (Some (record { arena = arena; need = need_in_u64 need; have = have })) later

-- of one family's trie, whose arenas are numbered from the first on: its nodes, or else its leaves
abbrev pub short_of_one : Family → Sizes → ℕ → Entries → Option Shortage → Option Shortage
short_of_one f z first L later = short_or first (node_need f z.direct L) (2 ^ z.nodes) (short_or (first + 1) (leaf_need f z.direct L) (2 ^ z.leaves) later)

-- the first arena whose need is more than its places
unfoldable pub first_short : Sizes → FamilyNeeds → Option Shortage
first_short z n = short_or 0 n.v4.nodes (2 ^ z.nodes) (short_or 1 n.v4.leaves (2 ^ z.leaves) (short_or 2 n.v6.nodes (2 ^ z.nodes) (short_or 3 n.v6.leaves (2 ^ z.leaves) None)))

-- what is short for the tries of a table
abbrev pub shortage : Sizes → Entries → Option Shortage
shortage z L = first_short z (needs_of z.direct L)

-- none is more than 2^26
abbrev pub AreFew : FamilyNeeds → Type 0
AreFew n = (n.v4.nodes ≤ 2 ^ 26) × (n.v4.leaves ≤ 2 ^ 26) × (n.v6.nodes ≤ 2 ^ 26) × (n.v6.leaves ≤ 2 ^ 26)
