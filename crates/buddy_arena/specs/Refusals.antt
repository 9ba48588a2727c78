-- Why a block is not taken.
use Rattle.std.specs.Prelude.{◌≡◌, ℕ, ◌^◌}
use Rattle.buddy_arena.specs.Space.{Space, blocks, NoneFrom, IsGreatest}
use Rattle.buddy_arena.specs.Powers.{up}
use Rattle.buddy_arena.specs.declared.blocks.Refused.{Refused}
use Rattle.buddy_arena.specs.declared.blocks.Refused.TheVariants as refused

-- if it isn't out of memory, no free block is large enough for n places, and the greatest order of a free block is named
abbrev pub IsRefusal : {T : Type 0} → Refused → ℕ → Space T → Type 0
IsRefusal refused.Memory count s = Unit {0}
IsRefusal (refused.Full f) count s = (2 ^ f.order ≡ up count) × NoneFrom f.order (blocks s.order s.free) × IsGreatest f.largest (blocks s.order s.free)

-- no free block is large enough for `count` places
abbrev pub HasNoBlockFor : {T : Type 0} → ℕ → Space T → Type 0
HasNoBlockFor count s = (k : ℕ) → 2 ^ k ≡ up count → NoneFrom k (blocks s.order s.free)
