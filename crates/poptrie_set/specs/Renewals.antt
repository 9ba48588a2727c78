-- The direct words made anew for a table that differs from the one before within a prefix.
use Rattle.std.specs.Prelude.{◌≡◌, ℕ, ◌*◌, ◌^◌, ◌<◌, ◌≤◌, List, ◌++◌, Bool, cond, take, slice_index}
use Rattle.table_model.specs.Bits.{bits_of, begins}
use Rattle.buddy_arena.specs.Space.{Space, IsSized}
use Rattle.buddy_arena.specs.Places.{Keeps, is_out}
use Rattle.buddy_arena.specs.Arrays.{Array, AreApart}
use Rattle.buddy_arena.specs.Blocks.{Held}
use Rattle.fib_addr.specs.Answers.{part}
use Rattle.poptrie_build.specs.declared.node.Node.{Node}
use Rattle.path_copying.specs.declared.slots.Store.{Store}
use Rattle.path_copying.specs.Alike.{SameAnswers}
use Rattle.path_copying.specs.Stores.{stored}
use Rattle.path_copying.specs.Words.{WordRow}
use Rattle.path_copying.specs.Asks.{slots_asks, StandFor, MeetsInTurn, IsOutOfBlocks}
use Rattle.path_copying.specs.declared.blocks.Refusal.{Refusal}

-- the answers of each slot once the slots are made anew in which an address begins with p: those of f there, else those that they had, h
abbrev pub merged : List Bool → ℕ → (List Bool → ℕ) → (ℕ → List Bool → ℕ) → ℕ → List Bool → ℕ
merged p s f h u = cond (begins (take s p) (bits_of s u)) (part (bits_of s u) f) (h u)

-- g has the answers of each of the 2 ^ s slots
abbrev pub IsSpliced : List Bool → (s d : ℕ) → (List Bool → ℕ) → (ℕ → List Bool → ℕ) → (List Bool → ℕ) → Type 0
IsSpliced p s d f h g = (u : ℕ) → u < 2 ^ s → SameAnswers d (part (bits_of s u) g) (merged p s f h u)

-- if the words stood for h, they stand for these answers: what they led to alone is put aside, whatever else is out stays apart, and
-- no place is lost
abbrev pub Rebuilds : Space Node → Held → Space ℕ → Held → (ℕ → ℕ) → Space Node → Held → Space ℕ → Held → (ℕ → ℕ) → List Bool → (s d : ℕ) → (List Bool → ℕ) → Type 0
Rebuilds nodes nb leaves lb words nodes2 nb2 leaves2 lb2 words2 p s d f =
    (k : ℕ) (h : ℕ → List Bool → ℕ) (g : List Bool → ℕ) (x y : List Array) (m m2 : ℕ) → d ≤ 6 * k → IsSpliced p s d f h g → WordRow k (2 ^ s) nodes leaves words d h (nb.replaced ++ x) (lb.replaced ++ y) m m2 → WordRow k (2 ^ s) nodes2 leaves2 words2 d (λ u. part (bits_of s u) g) (nb2.replaced ++ x) (lb2.replaced ++ y) m m2

-- whatever the words stood for, what is put aside shares no place with what was out beside them
abbrev pub SetsAside : Space Node → Held → Space ℕ → Held → (ℕ → ℕ) → Space Node → Held → Space ℕ → Held → (s d : ℕ) → Type 0
SetsAside nodes nb leaves lb words nodes2 nb2 leaves2 lb2 s d =
    (k : ℕ) (h : ℕ → List Bool → ℕ) (x y : List Array) (m m2 : ℕ) → d ≤ 6 * k → WordRow k (2 ^ s) nodes leaves words d h (nb.replaced ++ x) (lb.replaced ++ y) m m2 → AreApart (is_out nodes2.free) (nb2.replaced ++ x) × AreApart (is_out leaves2.free) (lb2.replaced ++ y)

-- the blocks that this asks for come out in their turn
abbrev pub MeetsRenewal : Space Node → Space ℕ → List ℕ → Space Node → Space ℕ → List Bool → (s d : ℕ) → (List Bool → ℕ) → Type 0
MeetsRenewal nodes leaves words nodes2 leaves2 p s d f =
    (k : ℕ) (h : ℕ → List Bool → ℕ) (g : List Bool → ℕ) → d ≤ 6 * k → IsSpliced p s d f h g → StandFor k s d 0 nodes leaves words h → MeetsInTurn nodes.order leaves.order (slots_asks k s d g h) (nodes.free, leaves.free) (nodes2.free, leaves2.free)

-- one of them is refused
abbrev pub MeetsNotRenewal : Space Node → Space ℕ → List ℕ → List Bool → (s d : ℕ) → (List Bool → ℕ) → Refusal → Type 0
MeetsNotRenewal nodes leaves words p s d f e =
    (k : ℕ) (h : ℕ → List Bool → ℕ) (g : List Bool → ℕ) → d ≤ 6 * k → IsSpliced p s d f h g → StandFor k s d 0 nodes leaves words h → IsOutOfBlocks nodes.order leaves.order (slots_asks k s d g h) (nodes.free, leaves.free) e

-- of the slots at which all addresses get what they got, none is stored
abbrev pub KeepsRenewal : Space Node → Space ℕ → List ℕ → List Store → List Bool → (s d : ℕ) → (List Bool → ℕ) → Type 0
KeepsRenewal nodes leaves words stores p s d f =
    (k : ℕ) (h : ℕ → List Bool → ℕ) (g : List Bool → ℕ) → IsSpliced p s d f h g → StandFor k s d 0 nodes leaves words h → (u : ℕ) → u < 2 ^ s → SameAnswers d (part (bits_of s u) g) (h u) → stored stores words u ≡ slice_index words u

-- an arena of which blocks were taken, written and given back again: the same places are free, and what is out holds what it held
pub record GivesAllBack {T : Type 0} (empty : T) (old new : Space T) : Type 0 where
  pub keeps : Keeps empty old.cells (is_out old.free) new.cells (is_out new.free)
  pub free : new.free ≡ old.free
  pub order : new.order ≡ old.order
  pub fill : new.fill ≡ old.fill
  pub sized : IsSized new
