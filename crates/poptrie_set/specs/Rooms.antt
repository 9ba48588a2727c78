-- An arena with its blocks that belong to no present version, or won't, and the places that a lookup may read.
use Rattle.std.specs.Prelude.{◌≡◌, ℕ, ◌+◌, ◌^◌, List, [], ◌++◌, Bool, not, ◌&&◌, nat_eq}
use Rattle.buddy_arena.specs.Space.{Space}
use Rattle.buddy_arena.specs.Places.{is_out, count_free}
use Rattle.buddy_arena.specs.Arrays.{Array, among, places_of}
use Rattle.buddy_arena.specs.Blocks.{Held, Retired, blocks_of, early, at_end}

-- the blocks that the pending update took, those that it replaces, and the retired ones
pub record Room (T : Type 0) : Type 0 where
  pub space : Space T
  pub taken : List Array
  pub replaced : List Array
  pub retired : List Retired

abbrev pub room_of : {T : Type 0} → Space T → Held → Room T
room_of s h = record { space = s; taken = h.taken; replaced = h.replaced; retired = h.retired }

-- the blocks that the update took are the present version's, and those that it replaced are retired
abbrev pub room_at_end : {T : Type 0} → Room T → ℕ → Room T
room_at_end r t = record { space = r.space; taken = []; replaced = []; retired = r.retired ++ at_end t r.replaced }

-- nothing is pending, and the space is another one
abbrev pub quiet_room : {T : Type 0} → Space T → List Retired → Room T
quiet_room s retired = record { space = s; taken = []; replaced = []; retired = retired }

-- the places that a lookup of this start may read: they are out, are not given back before it ends, and were not written since
-- a store could lead to them
abbrev pub safe : {T : Type 0} → Room T → ℕ → ℕ → ℕ → Bool
safe r made since i = is_out r.space.free i && not (among (blocks_of (early since r.retired)) i) && not (nat_eq made 0 && among r.taken i)

-- n places are neither free nor in a block that the update took or a retired one
abbrev pub IsRest : {T : Type 0} → ℕ → Space T → Held → Type 0
IsRest n s h = count_free s + (places_of (h.taken ++ blocks_of h.retired) + n) ≡ 2 ^ s.order
