-- The chains of slots, one for each peer: from a peer's last slot to the one before it, and so on.
use Rattle.std.specs.Prelude.{◌≡◌, ◌≢◌, ◌<◌, ◌≤◌, ℕ, suc, List, Option, Some, None, slice_get, length}
use Rattle.adj_rib_in.specs.declared.slot.PathSlot.{PathSlot}

-- the peer's number in a slot that is no path key any more
abbrev pub no_peer : ℕ
no_peer = 4294967295

-- where a peer's chain begins: 1 more than the place of its last slot, or 0
abbrev pub end_or : Option ℕ → ℕ
end_or None = 0
end_or (Some n) = n

abbrev pub chain_end : List ℕ → ℕ → ℕ
chain_end ends q = end_or (slice_get ends q)

-- a slot's link and a peer's chain lead to slots of the same peer, and pass none of them
pub record AreChained (slots : List PathSlot) (ends : List ℕ) : Type 0 where
  pub falls : (i : ℕ) (s : PathSlot) → slice_get slots i ≡ Some s → s.link ≤ i
  pub links : (i : ℕ) (s t : PathSlot) (k : ℕ) → slice_get slots i ≡ Some s → s.peer ≢ no_peer → s.link ≡ suc k → slice_get slots k ≡ Some t → t.peer ≡ s.peer
  pub passes : (i j : ℕ) (s t : PathSlot) → i < j → slice_get slots i ≡ Some s → slice_get slots j ≡ Some t → s.peer ≢ no_peer → s.peer ≡ t.peer → i < t.link
  pub starts : (i : ℕ) (s : PathSlot) → slice_get slots i ≡ Some s → s.peer ≢ no_peer → i < chain_end ends s.peer
  pub heads : (q k : ℕ) (s : PathSlot) → q ≢ no_peer → chain_end ends q ≡ suc k → slice_get slots k ≡ Some s → s.peer ≡ q
  pub within : (q : ℕ) → chain_end ends q ≤ length slots
