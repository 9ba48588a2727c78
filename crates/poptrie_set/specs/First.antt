-- What a lookup reads first: the direct word of its address, which is published for it.
use Rattle.std.specs.Prelude.{◌≡◌, ℕ, cond, take}
use Rattle.table_model.specs.Bits.{value_of}
use Rattle.fib_addr.specs.declared.addr.Addr.{Addr}
use Rattle.fib_addr.specs.Views.{addr_as}
use Rattle.table_model.specs.Entries.{Entries, match_in}
use Rattle.poptrie_build.specs.Tries.{visits_of}
use Rattle.poptrie_set.specs.Rooms.{safe}
use Rattle.poptrie_set.specs.Lives.{Seen, stores_cover}
use Rattle.poptrie_set.specs.Reading.{ReadsOn, bits_after}
use Rattle.poptrie_set.specs.declared.reading.At.{At}
use Rattle.poptrie_set.specs.declared.reading.At.TheVariants as at

-- the slot of an address: the number that its first s bits are
abbrev pub slot_of : ℕ → Addr → ℕ
slot_of s a = value_of (take s (addr_as a).bits)

-- the entries that are published to an address: those after the update if a store that was made covers its slot
abbrev pub published_in : Seen → Entries → Entries → Addr → Entries
published_in l L M a = cond (stores_cover (take l.made l.stores) (slot_of l.direct_bits a)) M L

-- what was read is the address's answer in these entries, of which no node is to be visited, or the first node of those that are,
-- all in places that nothing writes or gives back before the lookup ends, whenever it started
abbrev pub StartsIn : At → Seen → Entries → Addr → Type 0
StartsIn (at.Answer h) l E a = (h.0 ≡ match_in E (addr_as a)) × (visits_of l.direct_bits E (addr_as a) ≡ 0)
StartsIn (at.Node i t) l E a = (t ≡ 0) × ((since : ℕ) → ReadsOn (visits_of l.direct_bits E (addr_as a)) l.nodes.space.cells (safe l.nodes l.made since) l.leaves.space.cells (safe l.leaves l.made since) i (bits_after l.direct_bits 0 a) (match_in E (addr_as a)))
