-- The blocks that an update asks its arenas for, in their order, and what becomes of the free places.
use Rattle.std.specs.Prelude.{◌≡◌, ℕ, zero, suc, ◌+◌, ◌-◌, ◌*◌, ◌^◌, ◌<◌, ◌≤◌, List, [], ◌∷◌, ◌++◌, Bool, true, false, ◌&&◌, ◌⊎◌, Option, Some, None, nat_eq, slice_index}
use Rattle.buddy_arena.specs.Space.{Space, blocks, NoneFrom, IsGreatest, TakesBlock}
use Rattle.buddy_arena.specs.declared.arena.Full.{Full}
use Rattle.buddy_arena.specs.Powers.{up}
use Rattle.buddy_arena.specs.declared.blocks.Refused.{Refused}
use Rattle.buddy_arena.specs.declared.blocks.Refused.TheVariants as refused
use Rattle.buddy_arena.specs.Places.{is_out}
use Rattle.poptrie_build.specs.declared.node.Node.{Node}
use Rattle.path_copying.specs.Kids.{StandsAs}
use Rattle.fib_addr.specs.Answers.{one_answer, part}
use Rattle.table_model.specs.Bits.{bits_of}
use Rattle.table_model.specs.Sets.{side}
use Rattle.poptrie_build.specs.Build.{WordIn}
use Rattle.poptrie_build.specs.Strides.{slots, slot}
use Rattle.poptrie_build.specs.Need.{children, runs}
use Rattle.path_copying.specs.declared.blocks.Refusal.{Refusal}
use Rattle.path_copying.specs.declared.blocks.Refusal.TheVariants as refusal

-- a block of n places, of the arena 0 of nodes or the arena 1 of leaves
abbrev pub Ask : Type 0
Ask = ℕ × ℕ

-- one for n children or leaves, none for none
abbrev pub ask_for : ℕ → ℕ → List Ask
ask_for arena zero = []
ask_for arena (suc n) = (arena, up (suc n)) ∷ []

-- whether every address of d more bits gets the same from both
unfoldable pub alike : ℕ → (List Bool → ℕ) → (List Bool → ℕ) → Bool
alike zero f g = nat_eq (f []) (g [])
alike (suc d) f g = alike d (side false f) (side false g) && alike d (side true f) (side true g)

-- the lists of the first n numbers, one after another
unfoldable pub lists_of : (ℕ → List Ask) → ℕ → List Ask
lists_of g zero = []
lists_of g (suc n) = lists_of g n ++ g n

-- those of a region where an address gets another answer than before and that has a node now: its children's block, its leaves', and
-- then what its slots ask for; no others ask for any. Regions are asked about top down and in the order of addresses
abbrev pub if_changed : Bool → Option ℕ → List Ask → List Ask
if_changed true o asks = []
if_changed false (Some h) asks = []
if_changed false None asks = asks

unfoldable pub asks : ℕ → ℕ → (List Bool → ℕ) → (List Bool → ℕ) → List Ask
asks zero d f g = []
asks (suc k) d f g = if_changed (alike d f g) (one_answer d f) ((ask_for 0 (children (slots d f)) ++ ask_for 1 (runs (slots d f))) ++ lists_of (λ v. asks k (d - 6) (slot d f v) (slot d g v)) 64)

-- ---- the free places of both arenas, of these orders, as asks are met
abbrev pub Frees : Type 0
Frees = List Bool × List Bool

-- a block of n places comes out
abbrev pub MeetsNeed : ℕ → ℕ → List Bool → List Bool → Type 0
MeetsNeed order need old new = (place : ℕ) × (k : ℕ) × (2 ^ k ≡ need) × TakesBlock order old new place k

-- the same said of a count: for none nothing comes out
abbrev pub MeetsCount : ℕ → ℕ → List Bool → List Bool → Type 0
MeetsCount zero order old new = new ≡ old
MeetsCount (suc n) order old new = MeetsNeed order (up (suc n)) old new

abbrev pub MeetsAsk : (node_order leaf_order : ℕ) → Ask → Frees → Frees → Type 0
MeetsAsk n l (zero, need) s t = MeetsNeed n need s.0 t.0 × (t.1 ≡ s.1)
MeetsAsk n l (suc a, need) s t = MeetsNeed l need s.1 t.1 × (t.0 ≡ s.0)

-- each is met in its turn
unfoldable pub MeetsInTurn : (node_order leaf_order : ℕ) → List Ask → Frees → Frees → Type 0
MeetsInTurn n l [] s t = t ≡ s
MeetsInTurn n l (a ∷ rest) s t = (u : Frees) × MeetsAsk n l a s u × MeetsInTurn n l rest u t

-- no free block is large enough, and the greatest order of a free block is named
abbrev pub RefusesBlock : ℕ → ℕ → List Bool → Full → Type 0
RefusesBlock order need free e = (2 ^ e.order ≡ need) × NoneFrom e.order (blocks order free) × IsGreatest e.largest (blocks order free)

abbrev pub RefusesAsk : (node_order leaf_order : ℕ) → Ask → Frees → Refusal → Type 0
RefusesAsk n l (zero, need) s (refusal.Nodes e) = RefusesBlock n need s.0 e
RefusesAsk n l (suc a, need) s (refusal.Leaves e) = RefusesBlock l need s.1 e
RefusesAsk n l a s e = ⊥

-- the asks before one are met, and that one is refused
unfoldable pub RunsOut : (node_order leaf_order : ℕ) → List Ask → Frees → Refusal → Type 0
RunsOut n l [] s e = ⊥
RunsOut n l (a ∷ rest) s e = RefusesAsk n l a s e ⊎ ((u : Frees) × MeetsAsk n l a s u × RunsOut n l rest u e)

-- a refusal that isn't out of memory
abbrev pub IsOutOfBlocks : (node_order leaf_order : ℕ) → List Ask → Frees → Refusal → Type 0
IsOutOfBlocks n l xs s refusal.Memory = Unit {0}
IsOutOfBlocks n l xs s e = RunsOut n l xs s e

-- a block's refusal, as one of its arena
abbrev pub nodes_refusal : Refused → Refusal
nodes_refusal refused.Memory = refusal.Memory
nodes_refusal (refused.Full f) = refusal.Nodes f

abbrev pub leaves_refusal : Refused → Refusal
leaves_refusal refused.Memory = refusal.Memory
leaves_refusal (refused.Full f) = refusal.Leaves f

-- ---- what a part that stood for some answers g asks for if it is to stand for the answers f
abbrev pub MeetsAll : Space Node → Space ℕ → Option Node → Space Node → Space ℕ → ℕ → (List Bool → ℕ) → Type 0
MeetsAll nodes leaves was nodes2 leaves2 d f =
    (k : ℕ) (g : List Bool → ℕ) → d ≤ 6 * k → StandsAs k nodes.cells (is_out nodes.free) leaves.cells (is_out leaves.free) was d g → MeetsInTurn nodes.order leaves.order (asks k d f g) (nodes.free, leaves.free) (nodes2.free, leaves2.free)

abbrev pub MeetsNotAll : Space Node → Space ℕ → Option Node → ℕ → (List Bool → ℕ) → Refusal → Type 0
MeetsNotAll nodes leaves was d f e =
    (k : ℕ) (g : List Bool → ℕ) → d ≤ 6 * k → StandsAs k nodes.cells (is_out nodes.free) leaves.cells (is_out leaves.free) was d g → IsOutOfBlocks nodes.order leaves.order (asks k d f g) (nodes.free, leaves.free) e

-- the same if an answer changes
abbrev pub MeetsChanged : Space Node → Space ℕ → Option Node → Space Node → Space ℕ → ℕ → (List Bool → ℕ) → Type 0
MeetsChanged nodes leaves was nodes2 leaves2 d f =
    (k : ℕ) (g : List Bool → ℕ) → d ≤ 6 * k → StandsAs k nodes.cells (is_out nodes.free) leaves.cells (is_out leaves.free) was d g → alike d f g ≡ false → MeetsInTurn nodes.order leaves.order (asks k d f g) (nodes.free, leaves.free) (nodes2.free, leaves2.free)

abbrev pub MeetsNotChanged : Space Node → Space ℕ → Option Node → ℕ → (List Bool → ℕ) → Refusal → Type 0
MeetsNotChanged nodes leaves was d f e =
    (k : ℕ) (g : List Bool → ℕ) → d ≤ 6 * k → StandsAs k nodes.cells (is_out nodes.free) leaves.cells (is_out leaves.free) was d g → alike d f g ≡ false → IsOutOfBlocks nodes.order leaves.order (asks k d f g) (nodes.free, leaves.free) e

-- ---- direct words: a slot's node is asked for first
abbrev pub word_asks : ℕ → ℕ → (List Bool → ℕ) → (List Bool → ℕ) → List Ask
word_asks k d f g = if_changed (alike d f g) (one_answer d f) (ask_for 0 1) ++ asks k d f g

abbrev pub MeetsWord : Space Node → Space ℕ → ℕ → Space Node → Space ℕ → ℕ → (List Bool → ℕ) → Type 0
MeetsWord nodes leaves w nodes2 leaves2 d f =
    (k : ℕ) (g : List Bool → ℕ) → d ≤ 6 * k → WordIn w k nodes.cells (is_out nodes.free) leaves.cells (is_out leaves.free) d g → MeetsInTurn nodes.order leaves.order (word_asks k d f g) (nodes.free, leaves.free) (nodes2.free, leaves2.free)

abbrev pub MeetsNotWord : Space Node → Space ℕ → ℕ → ℕ → (List Bool → ℕ) → Refusal → Type 0
MeetsNotWord nodes leaves w d f e =
    (k : ℕ) (g : List Bool → ℕ) → d ≤ 6 * k → WordIn w k nodes.cells (is_out nodes.free) leaves.cells (is_out leaves.free) d g → IsOutOfBlocks nodes.order leaves.order (word_asks k d f g) (nodes.free, leaves.free) e

-- the same if an answer changes
abbrev pub MeetsChangedWord : Space Node → Space ℕ → ℕ → Space Node → Space ℕ → ℕ → (List Bool → ℕ) → Type 0
MeetsChangedWord nodes leaves w nodes2 leaves2 d f =
    (k : ℕ) (g : List Bool → ℕ) → d ≤ 6 * k → WordIn w k nodes.cells (is_out nodes.free) leaves.cells (is_out leaves.free) d g → alike d f g ≡ false → MeetsInTurn nodes.order leaves.order (word_asks k d f g) (nodes.free, leaves.free) (nodes2.free, leaves2.free)

abbrev pub MeetsNotChangedWord : Space Node → Space ℕ → ℕ → ℕ → (List Bool → ℕ) → Refusal → Type 0
MeetsNotChangedWord nodes leaves w d f e =
    (k : ℕ) (g : List Bool → ℕ) → d ≤ 6 * k → WordIn w k nodes.cells (is_out nodes.free) leaves.cells (is_out leaves.free) d g → alike d f g ≡ false → IsOutOfBlocks nodes.order leaves.order (word_asks k d f g) (nodes.free, leaves.free) e

-- ---- the slots of a region, j bits below it, the old answers of which are h
abbrev pub slots_asks : (k j d : ℕ) → (List Bool → ℕ) → (ℕ → List Bool → ℕ) → List Ask
slots_asks k j d f h = lists_of (λ v. word_asks k d (part (bits_of j v) f) (h v)) (2 ^ j)

-- the words of the 2 ^ j slots from the first on stand for the answers h
abbrev pub StandFor : (k j d first : ℕ) → Space Node → Space ℕ → List ℕ → (ℕ → List Bool → ℕ) → Type 0
StandFor k j d first nodes leaves words h = (v : ℕ) → v < 2 ^ j → WordIn (slice_index words (first + v)) k nodes.cells (is_out nodes.free) leaves.cells (is_out leaves.free) d (h v)

abbrev pub MeetsSlots : Space Node → Space ℕ → List ℕ → Space Node → Space ℕ → (first j d : ℕ) → (List Bool → ℕ) → Type 0
MeetsSlots nodes leaves words nodes2 leaves2 first j d f =
    (k : ℕ) (h : ℕ → List Bool → ℕ) → d ≤ 6 * k → StandFor k j d first nodes leaves words h → MeetsInTurn nodes.order leaves.order (slots_asks k j d f h) (nodes.free, leaves.free) (nodes2.free, leaves2.free)

abbrev pub MeetsNotSlots : Space Node → Space ℕ → List ℕ → (first j d : ℕ) → (List Bool → ℕ) → Refusal → Type 0
MeetsNotSlots nodes leaves words first j d f e =
    (k : ℕ) (h : ℕ → List Bool → ℕ) → d ≤ 6 * k → StandFor k j d first nodes leaves words h → IsOutOfBlocks nodes.order leaves.order (slots_asks k j d f h) (nodes.free, leaves.free) e
