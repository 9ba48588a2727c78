-- An update that is made ready.
use Rattle.std.specs.Prelude.{◌≡◌, ◌↔◌, ℕ, ◌^◌, ◌<◌, List, [], ◌∷◌, Bool, false, cond, length, take}
use Rattle.std.specs.List.{AllByRecursion}
use Rattle.table_model.specs.Address.{Address, Prefix, IsAddress, contains}
use Rattle.table_model.specs.Bits.{bits_of, begins}
use Rattle.table_model.specs.Width.{width}
use Rattle.table_model.specs.declared.family.Family.{Family}
use Rattle.table_model.specs.Entries.{Entries, match_in}
use Rattle.buddy_arena.specs.Space.{Space, IsSized}
use Rattle.buddy_arena.specs.Blocks.{GivesBack, blocks_of, early}
use Rattle.fib_addr.specs.Answers.{part, all_answers}
use Rattle.poptrie_build.specs.Strides.{strides}
use Rattle.poptrie_build.specs.Tries.{rest, node_need, leaf_need}
use Rattle.poptrie_build.specs.declared.node.Node.{Node}
use Rattle.path_copying.specs.Asks.{Ask, slots_asks, MeetsInTurn}
use Rattle.poptrie_set.specs.Lives.{Seen, Store, stores_cover}
use Rattle.poptrie_set.specs.Reasons.{IsReason}
use Rattle.poptrie_set.specs.declared.reasons.NotReady.{NotReady}

-- the addresses that don't begin with the prefix get the same from both
abbrev pub AgreeOutside : Prefix → Entries → Entries → Type 0
AgreeOutside p L M = (a : Address) → IsAddress a → a.family ≡ p.family → contains p a ≡ false → match_in M a ≡ match_in L a

-- the answers of the addresses that don't begin with the prefix are what the entries give them
abbrev pub KeepsOutside : Prefix → Entries → (List Bool → ℕ) → Type 0
KeepsOutside p L f = (a : List Bool) → length a ≡ width p.family → begins p.bits a ≡ false → f a ≡ all_answers p.family L a

-- whether the slot of an address, its first s bits, holds addresses of the prefix
abbrev pub meets_slot : Prefix → ℕ → Address → Bool
meets_slot p s a = begins (take s p.bits) (take s a.bits)

-- in the slots that the prefix meets the addresses get from the last what the second table gives them, and all others what the first does
abbrev pub MergesSlots : Prefix → ℕ → Entries → Entries → Entries → Type 0
MergesSlots p s L M N = (a : Address) → IsAddress a → a.family ≡ p.family → match_in N a ≡ match_in (cond (meets_slot p s a) M L) a

-- all addresses of the slot get the same from both
abbrev pub SameAt : Family → ℕ → Entries → Entries → ℕ → Type 0
SameAt f s L M v = (a : Address) → IsAddress a → a.family ≡ f → take s a.bits ≡ bits_of s v → match_in M a ≡ match_in L a

-- each is at a slot after the ones before it
abbrev pub AreInOrder : List Store → Type 0
AreInOrder [] = Unit {0}
AreInOrder (s ∷ rest) = AllByRecursion (λ (t : Store). s.0 < t.0) rest × AreInOrder rest

-- the words of these slots are stored, in the order of the slots: just those at which an address gets another answer
pub record StoresJust (f : Family) (s : ℕ) (L M : Entries) (stores : List Store) : Type 0 where
  pub in_order : AreInOrder stores
  pub just : (v : ℕ) → v < 2 ^ s → (stores_cover stores v ≡ false) ↔ SameAt f s L M v

-- the blocks that an update from the first entries to the second asks its arenas for, in their order
abbrev pub asks_of : Family → ℕ → Entries → Entries → List Ask
asks_of f s L M = slots_asks (strides (rest f s)) s (rest f s) (all_answers f M) (λ v. part (bits_of s v) (all_answers f L))

-- what was retired by this time is given back, and of both arenas these spaces are left
pub record GaveBack (since : ℕ) (l : Seen) (node_space : Space Node) (leaf_space : Space ℕ) : Type 0 where
  pub nodes : GivesBack (blocks_of (early since l.nodes.retired)) l.nodes.space node_space
  pub leaves : GivesBack (blocks_of (early since l.leaves.retired)) l.leaves.space leaf_space
  pub nodes_sized : IsSized node_space
  pub leaves_sized : IsSized leaf_space

-- each ask is met in its turn from what was free before
abbrev pub AsksRun : Seen → Seen → Entries → Entries → Type 0
AsksRun old new L M = MeetsInTurn old.nodes.space.order old.leaves.space.order (asks_of old.family old.direct_bits L M) (old.nodes.space.free, old.leaves.space.free) (new.nodes.space.free, new.leaves.space.free)

-- of the asks one is refused, or they are too much
abbrev pub AsksRunOut : Seen → Entries → Entries → NotReady → Type 0
AsksRunOut l L M e = IsReason e (asks_of l.family l.direct_bits L M) l.nodes.space l.leaves.space (node_need l.family l.direct_bits M) (leaf_need l.family l.direct_bits M)
