-- The way down to an event's prefix.
use Rattle.std.specs.Prelude.{◌≡◌, ℕ, suc, ◌+◌, List, [], ◌++◌, Bool, true, false}
use Rattle.table_model.specs.Width.{width}
use Rattle.table_model.specs.Halves.{half_at}
use Rattle.table_model.specs.declared.family.Family.{Family}
use Rattle.table_model.specs.Table.{Table, root, half, inherit, cut}
use Rattle.table_model.specs.Regions.{entry_at, above}
use Rattle.fib_addr.specs.Views.{prefix_as}
use Rattle.orig_tree.specs.Walk.{behind}
use Rattle.moves_model.specs.Way.{is_blocked, turn_by}
use Rattle.fib_moves.specs.Needs.{IsNodeOf}
use Rattle.fib_moves.specs.declared.way.Way.{Way}
use Rattle.fib_moves.specs.declared.way.LastBlocked.{LastBlocked}

-- the turn after a step to y's prefix
abbrev pub turn_after : Bool → Bool → Way → Way → LastBlocked
turn_after bit true x y = record { prefix = y.at; old = root y.place.region.entries; inherited = y.comes }
turn_after bit false x y = x.turn

-- y is one step further than x
pub record IsStep (bit : Bool) (x y : Way) : Type 0 where
  pub place : IsNodeOf y.place
  pub at : prefix_as y.at ≡ half_at bit (prefix_as x.at)
  pub bits : suc y.place.region.bits ≡ x.place.region.bits
  pub routes : (behind y.place.node).routes ≡ half bit (behind x.place.node).routes
  pub entries : y.place.region.entries ≡ half bit x.place.region.entries
  pub comes : y.comes ≡ inherit (root x.place.region.entries) x.comes
  pub turn : y.turn ≡ turn_after bit (is_blocked bit y.place.region.bits x.place.region.entries) x y

-- the way is gone to q, with the routes R of the family and its old table T
pub record IsWay (f : Family) (R T : Table) (q : List Bool) (x : Way) : Type 0 where
  pub place : IsNodeOf x.place
  pub at : prefix_as x.at ≡ record { family = f; bits = q }
  pub bits : x.place.region.bits + x.at.len ≡ width f
  pub routes : (behind x.place.node).routes ≡ cut q R
  pub entries : x.place.region.entries ≡ cut q T
  pub comes : x.comes ≡ above q T 0
  pub old : x.turn.old ≡ entry_at (prefix_as x.turn.prefix).bits T
  pub inherited : x.turn.inherited ≡ above (prefix_as x.turn.prefix).bits T 0
  pub family : x.turn.prefix.family ≡ f
  pub turn : (s : List Bool) (d : ℕ) → d + x.at.len ≡ width f → turn_by q (prefix_as x.turn.prefix).bits s d (cut q T) ≡ turn_by [] [] (q ++ s) (width f) T

-- the way is gone so far that s is left to p
pub record IsGone (f : Family) (R T : Table) (p s : List Bool) (x : Way) : Type 0 where
  pub front : List Bool
  pub way : IsWay f R T front x
  pub rest : front ++ s ≡ p
