-- What a lookup reads: the selector and a direct word first, which are published for its address, and then nodes.
use Rattle.std.specs.Prelude.{◌≡◌, ℕ, suc, List, Bool, true, false, cond, take}
use Rattle.fib_addr.specs.declared.addr.Addr.{Addr}
use Rattle.fib_addr.specs.Views.{addr_as}
use Rattle.table_model.specs.Entries.{Entries, match_in}
use Rattle.poptrie_build.specs.Tries.{visits_of}
use Rattle.poptrie_build.specs.declared.node.Node.{Node}
use Rattle.poptrie_set.specs.Rooms.{safe}
use Rattle.poptrie_set.specs.Lives.{Seen, stores_cover}
use Rattle.poptrie_set.specs.First.{slot_of}
use Rattle.poptrie_set.specs.Reading.{ReadsOn, bits_after}
use Rattle.poptrie_set.specs.declared.reading.At.{At as Read}
use Rattle.poptrie_set.specs.declared.reading.At.TheVariants as read
use Rattle.poptrie_update.specs.Lives.{Living, Shows}
use Rattle.poptrie_update.specs.declared.live.Other.{Other}
use Rattle.poptrie_update.specs.declared.live.Other.TheVariants as other
use Rattle.poptrie_update.specs.declared.live.At.{At}
use Rattle.poptrie_update.specs.declared.live.At.TheVariants as at

-- whether a store that was made covers a slot: the selector covers every slot
abbrev pub covers_by : Other → Seen → ℕ → Bool
covers_by other.Free s v = stores_cover (take s.made s.stores) v
covers_by (other.Retired end) s v = stores_cover (take s.made s.stores) v
covers_by other.Built s v = false
covers_by other.Replaced s v = true

-- the entries that are published to an address: those after the update if a store that was made covers its slot
abbrev pub published_entries : Living → Entries → Entries → Addr → Entries
published_entries l L M a = cond (covers_by l.state l.selected (slot_of l.selected.direct_bits a)) M L

-- it shows some entries
abbrev pub IsShowing : Living → Type 0
IsShowing l = (L : Entries) × (M : Entries) × Shows l L M

-- what was read is the address's answer in these entries, of which no node is to be visited, or the first node of those that are,
-- in the selected set and in places that nothing writes or gives back before the lookup ends, whenever it started
abbrev pub Starts : At → Living → Entries → Addr → Type 0
Starts (at.Answer h) l E a = (h.0 ≡ match_in E (addr_as a)) × (visits_of l.selected.direct_bits E (addr_as a) ≡ 0)
Starts (at.Node i set t) l E a =
    (set ≡ l.number)
    × (t ≡ 0)
    × ((since : ℕ) → ReadsOn (visits_of l.selected.direct_bits E (addr_as a)) l.selected.nodes.space.cells (safe l.selected.nodes l.selected.made since) l.selected.leaves.space.cells (safe l.selected.leaves l.selected.made since) i (bits_after l.selected.direct_bits 0 a) (match_in E (addr_as a)))

-- what was read is the answer, or leads on to a node of the same set and the next stride, from which one node less is visited
abbrev pub Leads : At → ℕ → ℕ → List Node → (ℕ → Bool) → List ℕ → (ℕ → Bool) → ℕ → ℕ → Addr → ℕ → Type 0
Leads (at.Node i set t) left from nodes N leaves L s stride a h = (set ≡ from) × (t ≡ suc stride) × ((before : ℕ) × (left ≡ suc before) × ReadsOn before nodes N leaves L i (bits_after s t a) h)
Leads (at.Answer g) left from nodes N leaves L s stride a h = (left ≡ 1) × (g.0 ≡ h)

-- the same place, in the set of this number
abbrev pub IsInSet : Read → ℕ → At → Type 0
IsInSet (read.Answer g) n a = a ≡ at.Answer g
IsInSet (read.Node i t) n a = a ≡ at.Node i n t
