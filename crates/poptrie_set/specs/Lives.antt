-- What a live trie is seen as, and what it shows.
use Rattle.std.specs.Prelude.{◌≡◌, ℕ, ◌^◌, ◌<◌, ◌≤◌, List, [], ◌∷◌, ◌++◌, Bool, true, false, ◌||◌, nat_eq, take, length, slice_index}
use Rattle.std.specs.List.{AllByRecursion}
use Rattle.table_model.specs.declared.family.Family.{Family}
use Rattle.table_model.specs.Entries.{Entries}
use Rattle.buddy_arena.specs.Space.{Space, IsSized}
use Rattle.buddy_arena.specs.Places.{is_out}
use Rattle.buddy_arena.specs.Arrays.{places_of}
use Rattle.buddy_arena.specs.Blocks.{Held, blocks_of, AreHeldIn, AreRetiredBy}
use Rattle.poptrie_build.specs.Tries.{node_need, leaf_need, IsTooMuch}
use Rattle.poptrie_build.specs.declared.counts.Needs.{Needs}
use Rattle.poptrie_build.specs.declared.filling.TrieFull.{TrieFull}
use Rattle.poptrie_build.specs.declared.node.Node.{Node}
use Rattle.path_copying.specs.declared.slots.Store.{Store as Stored}
use Rattle.poptrie_set.specs.declared.trie_set.Pending.{Pending}
use Rattle.poptrie_set.specs.Rooms.{Room}
use Rattle.poptrie_set.specs.Version.{IsVersion}

-- a word to be stored, and its slot
abbrev pub Store : Type 0
Store = ℕ × ℕ

-- the direct words as they are, both arenas with their blocks, whether an update is pending, its stores and how many of them were
-- made, and the number of ends so far
pub record Seen : Type 0 where
  pub family : Family
  pub direct_bits : ℕ
  pub words : List ℕ
  pub nodes : Room Node
  pub leaves : Room ℕ
  pub pending : Bool
  pub stores : List Store
  pub made : ℕ
  pub time : ℕ

-- a trie of the same family, direct bits and arenas
abbrev pub HasSizesOf : Seen → Seen → Type 0
HasSizesOf old new = (new.family ≡ old.family) × (new.direct_bits ≡ old.direct_bits) × (new.nodes.space.order ≡ old.nodes.space.order) × (new.leaves.space.order ≡ old.leaves.space.order)

-- whether one of the stores is at the slot
abbrev pub stores_cover : List Store → ℕ → Bool
stores_cover [] v = false
stores_cover (s ∷ rest) v = nat_eq s.0 v || stores_cover rest v

-- a new copy beside the old blocks, or nothing pending: both versions stand in the arenas, one in the words as they were and one in
-- the words as they will be. A pending block stands in none of the first's, a replaced one in none of the second's, and a store
-- leads from the one to the other at its slot alone
pub record Beside (l : Seen) (L M : Entries) (old new : List ℕ) : Type 0 where
  pub before : IsVersion l.family l.direct_bits l.nodes.space l.leaves.space old L (l.nodes.taken ++ blocks_of l.nodes.retired) (l.leaves.taken ++ blocks_of l.leaves.retired)
  pub after : IsVersion l.family l.direct_bits l.nodes.space l.leaves.space new M (l.nodes.replaced ++ blocks_of l.nodes.retired) (l.leaves.replaced ++ blocks_of l.leaves.retired)
  pub nodes_few : places_of l.nodes.replaced ≤ node_need l.family l.direct_bits L
  pub leaves_few : places_of l.leaves.replaced ≤ leaf_need l.family l.direct_bits L
  pub made : l.made ≤ length l.stores
  pub words : length l.words ≡ 2 ^ l.direct_bits
  pub stored : (v : ℕ) → v < 2 ^ l.direct_bits → stores_cover (take l.made l.stores) v ≡ true → slice_index l.words v ≡ slice_index new v
  pub unstored : (v : ℕ) → v < 2 ^ l.direct_bits → stores_cover (take l.made l.stores) v ≡ false → slice_index l.words v ≡ slice_index old v
  pub shared : (v : ℕ) → v < 2 ^ l.direct_bits → stores_cover l.stores v ≡ false → slice_index old v ≡ slice_index new v
  pub due : AllByRecursion (λ (s : Store). (s.0 < 2 ^ l.direct_bits) × (slice_index new s.0 ≡ s.1)) l.stores

-- the direct words stand for the first entries if no store that was made covers the slot, and else for the second
abbrev pub ShowsIn : Seen → Entries → Entries → Type 0
ShowsIn l L M = (old : List ℕ) × (new : List ℕ) × Beside l L M old new

-- it shows some entries
pub record ShowsSome (l : Seen) : Type 0 where
  pub before : Entries
  pub after : Entries
  pub shows : ShowsIn l before after

-- nothing is pending: there are no stores, and no block was taken or is replaced
pub record HasNonePending (l : Seen) : Type 0 where
  pub no_stores : l.stores ≡ []
  pub nodes_taken : l.nodes.taken ≡ []
  pub nodes_replaced : l.nodes.replaced ≡ []
  pub leaves_taken : l.leaves.taken ≡ []
  pub leaves_replaced : l.leaves.replaced ≡ []

-- What it keeps of its blocks at every moment. In each arena those of the version that it shows, the pending ones, the retired ones
-- and the free ones share no place and fill the arena, and so do those of the version to come, the replaced ones, the retired ones
-- and the free ones. What is retired was so at an end that is over.
pub record KeepsBlocks (l : Seen) : Type 0 where
  pub shows : ShowsSome l
  pub nodes_over : AreRetiredBy l.time l.nodes.retired
  pub leaves_over : AreRetiredBy l.time l.leaves.retired
  pub quiet : l.pending ≡ false → HasNonePending l

-- ---- as it is kept
abbrev pub stores_of : List Stored → List Store
stores_of [] = []
stores_of (s ∷ rest) = (s.slot, s.word) ∷ stores_of rest

-- nothing is pending: then there are no stores, and no block was taken or is replaced
pub record IsQuiet (stores : List Stored) (made : ℕ) (nodes leaves : Held) : Type 0 where
  pub no_stores : stores ≡ []
  pub none_made : made ≡ 0
  pub nodes_taken : nodes.taken ≡ []
  pub nodes_replaced : nodes.replaced ≡ []
  pub leaves_taken : leaves.taken ≡ []
  pub leaves_replaced : leaves.replaced ≡ []

-- what every live trie keeps: so it can always be cancelled, and blocks can always be given back
pub record IsLive (direct_bits : ℕ) (words : List ℕ) (nodes : Space Node) (leaves : Space ℕ) (node_blocks leaf_blocks : Held) (pending : Bool) (stores : List Stored) (made : ℕ) : Type 0 where
  pub few : direct_bits ≤ 18
  pub many : length words ≡ 2 ^ direct_bits
  pub nodes_sized : IsSized nodes
  pub leaves_sized : IsSized leaves
  pub nodes_held : AreHeldIn (is_out nodes.free) node_blocks
  pub leaves_held : AreHeldIn (is_out leaves.free) leaf_blocks
  pub times : leaf_blocks.time ≡ node_blocks.time
  pub slots : AllByRecursion (λ (s : Stored). s.slot < 2 ^ direct_bits) stores
  pub counted : made ≤ length stores
  pub quiet : pending ≡ false → IsQuiet stores made node_blocks leaf_blocks

-- a token of the pending update
abbrev pub IsTokenIn : Pending → Seen → Type 0
IsTokenIn p l = (l.pending ≡ true) × (p.made ≡ l.made)

-- the refusal of entries for which its arenas are too small: it names the nodes if their need is more than their places, else the
-- leaves
abbrev pub IsTooMuchFor : Seen → Entries → TrieFull → Type 0
IsTooMuchFor l L e = IsTooMuch e.arena e.need e.have (node_need l.family l.direct_bits L) (leaf_need l.family l.direct_bits L) (2 ^ l.nodes.space.order) (2 ^ l.leaves.space.order)

-- the needs of a trie for the entries
abbrev pub AreNeedsOf : Needs → Seen → Entries → Type 0
AreNeedsOf n l L = (n.nodes ≡ node_need l.family l.direct_bits L) × (n.leaves ≡ leaf_need l.family l.direct_bits L)
