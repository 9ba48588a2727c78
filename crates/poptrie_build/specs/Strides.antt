-- Regions by strides of six bits: their slots, how many nodes an address visits, and runs of leaves.
use Rattle.std.specs.Prelude.{ℕ, zero, suc, ◌+◌, ◌-◌, ◌/◌, List, Bool, cond, Option, Some, None, nat_eq, take, drop}
use Rattle.table_model.specs.Bits.{bits_of}
use Rattle.fib_addr.specs.Answers.{part, one_answer}

-- the region of a slot has the bits of the slot's number, of which those past the region's end are not looked at: in the
-- last stride several slots are one address
abbrev pub slot_bits : ℕ → ℕ → List Bool
slot_bits d v = take d (bits_of 6 v)

abbrev pub slot : ℕ → (List Bool → ℕ) → ℕ → List Bool → ℕ
slot d f v = part (slot_bits d v) f

-- the one answer of each slot of a region, None if the slot has a node
abbrev pub slots : ℕ → (List Bool → ℕ) → ℕ → Option ℕ
slots d f v = one_answer (d - 6) (slot d f v)

-- 1 if there is no one answer, else 0
abbrev pub mixed : Option ℕ → ℕ
mixed None = 1
mixed (Some h) = 0

-- how many of the chunk regions of the address a have a node, over k strides: those that hold two addresses with different
-- answers. Each stride is counted, whatever the ones before it are
unfoldable pub visits : ℕ → ℕ → (List Bool → ℕ) → List Bool → ℕ
visits zero d f a = 0
visits (suc k) d f a = mixed (one_answer d f) + visits k (d - 6) (part (take 6 a) f) (drop 6 a)

-- how many strides d bits are
abbrev pub strides : ℕ → ℕ
strides d = (d + 5) / 6

-- ---- runs of leaves, over what the slots are
-- the nearest leaf before slot v
abbrev pub or_earlier : Option ℕ → Option ℕ → Option ℕ
or_earlier (Some h) o = Some h
or_earlier None o = o

unfoldable pub leaf_before : (ℕ → Option ℕ) → ℕ → Option ℕ
leaf_before g zero = None
leaf_before g (suc v) = or_earlier (g v) (leaf_before g v)

-- 1 if a slot is a leaf and no leaf is before it, or the nearest before it differs
abbrev pub starts : Option ℕ → Option ℕ → ℕ
starts None before = 0
starts (Some h) None = 1
starts (Some h) (Some k) = cond (nat_eq h k) 0 1

abbrev pub run_start : (ℕ → Option ℕ) → ℕ → ℕ
run_start g v = starts (g v) (leaf_before g v)

-- a sum over the first n slots
unfoldable pub total : (ℕ → ℕ) → ℕ → ℕ
total g zero = 0
total g (suc n) = total g n + g n

-- a region of d more bits with its answers, over at most k strides
pub record Region : Type 0 where
  pub strides : ℕ
  pub bits : ℕ
  pub answers : List Bool → ℕ

-- the first d bits of a key whose bits stand from the most significant of 128 on
abbrev pub address : ℕ → ℕ → List Bool
address d key = take d (bits_of 128 key)

-- the visits of an address of a trie whose first s bits are looked up directly
abbrev pub trie_visits : ℕ → ℕ → ℕ → (List Bool → ℕ) → List Bool → ℕ
trie_visits s k d f a = visits k d (part (take s a) f) (drop s a)
