-- Direct words to be stored.
use Rattle.std.specs.Prelude.{◌≡◌, ◌≢◌, ℕ, ◌+◌, ◌-◌, ◌*◌, ◌^◌, ◌<◌, ◌≤◌, List, [], ◌∷◌, ◌++◌, Bool, cond, nat_eq, nat_le, nat_lt, ◌&&◌, slice_index}
use Rattle.std.specs.List.{AllByRecursion}
use Rattle.table_model.specs.Bits.{bits_of}
use Rattle.buddy_arena.specs.Space.{Space}
use Rattle.buddy_arena.specs.Arrays.{Array}
use Rattle.buddy_arena.specs.Blocks.{Held}
use Rattle.fib_addr.specs.Answers.{part}
use Rattle.poptrie_build.specs.declared.node.Node.{Node}
use Rattle.path_copying.specs.declared.slots.Store.{Store}
use Rattle.path_copying.specs.Words.{WordRow, KeepsWord}

-- the words with those that are to be stored
abbrev pub stored : List Store → List ℕ → ℕ → ℕ
stored [] words u = slice_index words u
stored (s ∷ rest) words u = cond (nat_eq u s.slot) s.word (stored rest words u)

-- their slots ascend
abbrev pub SlotsAscend : List Store → Type 0
SlotsAscend [] = Unit {0}
SlotsAscend (s ∷ rest) = AllByRecursion (λ (t : Store). s.slot < t.slot) rest × SlotsAscend rest

-- for slots below an end, in their order, each a word that differs from the one that is there
pub record AreStores (words : List ℕ) (stores : List Store) (end : ℕ) : Type 0 where
  pub below : AllByRecursion (λ (s : Store). s.slot < end) stores
  pub in_order : SlotsAscend stores
  pub changed : AllByRecursion (λ (s : Store). slice_index words s.slot ≢ s.word) stores

-- the answers of the slots: those of a region of j bits above the slots in its 2 ^ j slots from the first on, else h
abbrev pub slots_under : ℕ → ℕ → (List Bool → ℕ) → (ℕ → List Bool → ℕ) → ℕ → List Bool → ℕ
slots_under first j f h u = cond (nat_le first u && nat_lt u (first + 2 ^ j)) (part (bits_of j (u - first)) f) (h u)

-- the words of these slots are made anew beside the old ones, as `ReplacesWord` says it of one
abbrev pub ReplacesWords : Space Node → Held → Space ℕ → Held → (ℕ → ℕ) → Space Node → Held → Space ℕ → Held → (ℕ → ℕ) → (first j d : ℕ) → (List Bool → ℕ) → Type 0
ReplacesWords nodes nb leaves lb words nodes2 nb2 leaves2 lb2 words2 first j d f =
    (k n : ℕ) (h : ℕ → List Bool → ℕ) (x y : List Array) (m m2 : ℕ) → first + 2 ^ j ≤ n → d ≤ 6 * k → WordRow k n nodes leaves words d h (nb.replaced ++ x) (lb.replaced ++ y) m m2 → WordRow k n nodes2 leaves2 words2 d (slots_under first j f h) (nb2.replaced ++ x) (lb2.replaced ++ y) m m2

-- of the slots before the first nothing more is stored, and of the 2 ^ j slots from the first on only those where an address gets
-- another answer
pub record KeepsSlots (nodes : Space Node) (leaves : Space ℕ) (words : List ℕ) (stores stores2 : List Store) (first j d : ℕ) (f : List Bool → ℕ) : Type 0 where
  pub before : (u : ℕ) → u < first → stored stores2 words u ≡ stored stores words u
  pub each : (v : ℕ) → v < 2 ^ j → KeepsWord nodes leaves (slice_index words (first + v)) (stored stores2 words (first + v)) d (part (bits_of j v) f)
