-- What a plan says.
use Rattle.std.specs.Prelude.{◌≡◌, [], Bool, true, false, cond, ◌++◌, map, Option, Some, None, option_map}
use Rattle.std.specs.Option.{ForSome}
use Rattle.table_model.specs.Address.{Prefix}
use Rattle.table_model.specs.declared.family.Family.{Family}
use Rattle.table_model.specs.Width.{width}
use Rattle.table_model.specs.Entries.{Entries, of_family}
use Rattle.table_model.specs.Changes.{after_changes}
use Rattle.kept_model.specs.Between.{between}
use Rattle.kept_model.specs.Patched.{after_repair, after_snapshot}
use Rattle.moves_model.specs.Rows.{near_in}
use Rattle.fib_moves.specs.Event.{AlikeBefore}
use Rattle.fib_addr.specs.Views.{prefix_as}
use Rattle.fib_addr.specs.declared.prefix.Prefix as code_prefix
use Rattle.fib_addr.specs.declared.entry.Hop as code_hop
use Rattle.fib_delta.specs.Views.{change_as}
use Rattle.orig_tree.specs.Views.{Labels, InPlace}
use Rattle.smalta_keep.specs.Rooms.{AreOf, HaveRoom, IsNodeAt}
use Rattle.smalta_keep.specs.Routes.{HasFormer, former_place, undone_in}
use Rattle.smalta_keep.specs.Known.{SameBeside, StaysAt}
use Rattle.smalta_keep.specs.Views.{repair_as, snapshot_as, with_planned, place_in}
use Rattle.smalta_keep.specs.declared.routes.Former.{Former}
use Rattle.smalta_keep.specs.declared.told.Mend.{Mend}
use Rattle.smalta_keep.specs.declared.repair.Moved.{Moved}
use Rattle.smalta_keep.specs.declared.repair.Repair.{Repair}

-- the table after the repair at this prefix, if there is one: what is within the prefix is made least, or the table becomes the
-- nearest one that answers as the routes, by the fewest changes
abbrev pub repaired_table : Bool → Labels → Option Prefix → Entries
repaired_table false kept at = after_repair kept.routes at kept.entries
repaired_table true kept None = kept.entries
repaired_table true kept (Some p) = near_in kept.family kept.routes kept.entries

-- the table after that, and then after a snapshot, if it is due
abbrev pub planned_table : Bool → Labels → Option Prefix → Bool → Entries
planned_table fewest kept at due = after_snapshot kept.family kept.routes due (repaired_table fewest kept at)

-- What a plan says are the changes to the table that the repair makes, and those from there to the table after the snapshot;
-- together they make it. The routes are the new ones, and the table is the old one.
pub record Tells (kept : Labels) (fewest : Bool) (at : Option Prefix) (due : Bool) (m : Moved) : Type 0 where
  pub repair : repair_as m ≡ between kept.entries (repaired_table fewest kept at)
  pub snapshot : snapshot_as m ≡ between (repaired_table fewest kept at) (planned_table fewest kept at due)
  pub makes : after_changes (repair_as m ++ snapshot_as m) kept.entries ≡ Some (planned_table fewest kept at due)

-- Planned, and nothing changed since: there is room for the changes, which make the table of the repair and of the snapshot, if it is
-- due; the repair's are within its reach, where, unless they are to be the fewest, a pass then leaves what there is; and the former
-- route can be put back.
pub record IsRepairPlanned (kept : Labels) (r : Repair) : Type 0 where
  pub repair_of : AreOf kept.family (repair_as r.moved)
  pub snapshot_of : AreOf kept.family (snapshot_as r.moved)
  pub reach_of : ForSome r.reach (λ p. p.family ≡ kept.family)
  pub repair_room : HaveRoom kept.nodes (repair_as r.moved)
  pub snapshot_room : HaveRoom kept.nodes (snapshot_as r.moved)
  pub repaired : Entries
  pub beside : SameBeside (option_map prefix_as r.reach) kept.family kept.entries repaired
  pub makes : after_changes (repair_as r.moved ++ snapshot_as r.moved) kept.entries ≡ Some (after_snapshot kept.family kept.routes r.due repaired)
  pub settled : r.fewest ≡ false → StaysAt (option_map prefix_as r.reach) kept.family kept.routes repaired
  pub former : HasFormer kept r.former

-- ---- while a plan is made

-- the plan's route, if it has one, is set over the routes R at a node, and the former one puts these back
pub record IsRouteSet (route : Option (code_prefix.Prefix × code_hop.Hop)) (R : Entries) (kept : Labels) (f : Option Former) : Type 0 where
  pub routes : kept.routes ≡ with_planned route R
  pub undone : undone_in f kept.routes ≡ R
  pub held : HasFormer kept f
  pub place : former_place f ≡ place_in route
  pub node : IsNodeAt (place_in route) kept.nodes

-- the routes stay, and those that can be put back
pub record RoutesStay (old new : Labels) : Type 0 where
  pub routes : new.routes ≡ old.routes
  pub before : new.before ≡ old.before

-- if the repair at this prefix, if there is one, is to have the fewest changes, the table answered as the routes did before they
-- changed there
abbrev pub IsBeforeAt : Bool → Option Prefix → Labels → Type 0
IsBeforeAt false at kept = Unit {0}
IsBeforeAt true None kept = Unit {0}
IsBeforeAt true (Some p) kept = AlikeBefore (width kept.family) p.bits (of_family kept.family kept.routes) (of_family kept.family kept.entries)

-- the table, T if there is none
abbrev pub some_or : Entries → Option Entries → Entries
some_or T None = T
some_or T (Some U) = U

-- the table that the changes make of T, if they fit it
abbrev pub mended : Mend → Entries → Entries
mended m T = some_or T (after_changes (map change_as m.there.items) T)

-- the changes from one table of a family to another, which is in order, and those back, if they are asked for; all are within
-- their reach
pub record IsMend (f : Family) (back_too : Bool) (old new : Entries) (m : Mend) : Type 0 where
  pub old_order : InPlace old
  pub order : InPlace new
  pub there : map change_as m.there.items ≡ between old new
  pub back : map change_as m.back.items ≡ cond back_too (between new old) []
  pub of_there : AreOf f (map change_as m.there.items)
  pub of_back : AreOf f (map change_as m.back.items)
  pub of_reach : ForSome m.reach (λ p. p.family ≡ f)
  pub beside : SameBeside (option_map prefix_as m.reach) f old new

-- the changes are those of a repair and a snapshot, and there is room for them
pub record IsMoved (kept : Labels) (fewest : Bool) (at : Option Prefix) (due : Bool) (r : Repair) : Type 0 where
  pub is_due : r.due ≡ due
  pub is_fewest : r.fewest ≡ fewest
  pub repair : repair_as r.moved ≡ between kept.entries (repaired_table fewest kept at)
  pub snapshot : snapshot_as r.moved ≡ between (repaired_table fewest kept at) (planned_table fewest kept at due)
  pub repair_of : AreOf kept.family (repair_as r.moved)
  pub snapshot_of : AreOf kept.family (snapshot_as r.moved)
  pub reach_of : ForSome r.reach (λ p. p.family ≡ kept.family)
  pub beside : SameBeside (option_map prefix_as r.reach) kept.family kept.entries (repaired_table fewest kept at)
  pub settled : fewest ≡ false → StaysAt (option_map prefix_as r.reach) kept.family kept.routes (repaired_table fewest kept at)
  pub repair_room : HaveRoom kept.nodes (repair_as r.moved)
  pub snapshot_room : HaveRoom kept.nodes (snapshot_as r.moved)
  pub old_order : InPlace kept.entries
  pub repaired_order : InPlace (repaired_table fewest kept at)
  pub planned_order : InPlace (planned_table fewest kept at due)
