-- The labels of a node with their covers.
use Rattle.std.specs.Prelude.{◌≡◌, ℕ, Option}
use Rattle.table_model.specs.Regions.{join}
use Rattle.orig_tree.specs.Walk.{Walks}
use Rattle.orig_tree.specs.Cover.{IsCover}
use Rattle.orig_tree.specs.Packed.{cover_in}
use Rattle.orig_tree.specs.declared.cover.Slot.{Slot}
use Rattle.orig_tree.specs.declared.node.Label.{Label}
use Rattle.orig_tree.specs.declared.node.Label.TheVariants.{Route, Entry}

-- both covers of a node are those of its tables
pub record AreCovers (route entry : Slot) (low high : Walks) : Type 0 where
  pub routes : IsCover (join route.hop low.routes high.routes) (cover_in route)
  pub entries : IsCover (join entry.hop low.entries high.entries) (cover_in entry)

-- one label has become this, with its cover, and the other is as it was
abbrev pub Retold : Label → Option ℕ → Slot → Slot → Slot → Slot → Walks → Walks → Type 0
Retold Route h route entry new_route new_entry low high = (new_route.hop ≡ h) × IsCover (join h low.routes high.routes) (cover_in new_route) × (new_entry ≡ entry)
Retold Entry h route entry new_route new_entry low high = (new_entry.hop ≡ h) × IsCover (join h low.entries high.entries) (cover_in new_entry) × (new_route ≡ route)
