-- The world that a load and updates make: what a run in steps may be a run of.
use Rattle.std.specs.Prelude.{ℕ, ◌-◌, List, [], ◌∷◌, ◌++◌, Option, Some, None, is_some, length, take, drop}
use Rattle.table_model.specs.Address.{Address, Prefix}
use Rattle.route_model.specs.Events.{Elem}
use Rattle.route_model.specs.Choice.{Candidates, after_elems}
use Rattle.kept_model.specs.Feed.{entries_of, full_at, hops_after}
use Rattle.kept_model.specs.Kept.{changed_at}
use Rattle.route_tries.specs.Sizes.{Sizes}
use Rattle.step_script.specs.Machine.{World}

-- the elementary events before the one, counted from 1, that brings one hop too many; all of them if none does
abbrev pub front_of : Option ℕ → List Elem → List Elem
front_of None elems = elems
front_of (Some n) elems = take (n - 1) elems

-- those of the updates that are taken after the load: all before the one that brings one hop too many
abbrev pub taken_of : (load updates : List Elem) → List Elem
taken_of load updates = front_of (full_at (hops_after [] load) updates) updates

-- the candidates after the load and n of the updates
abbrev pub held_after : (load updates : List Elem) → ℕ → Candidates
held_after load updates n = after_elems (after_elems [] load) (take n (taken_of load updates))

-- the hops that have numbers in the end: those of the load and of all updates that are taken
abbrev pub world_hops : (load updates : List Elem) → List Address
world_hops load updates = hops_after [] (load ++ taken_of load updates)

-- where the first of these elementary events changes the chosen hop, if there is one and it does
abbrev pub changed_next : Candidates → List Elem → Option Prefix
changed_next held [] = None
changed_next held (elem ∷ elems) = changed_at held elem

-- The events are the elementary events of the updates in their order, up to the one that brings one hop too many, if one does. The routes
-- after n of them are those of the candidates then, with the numbers that their hops have in the end.
abbrev pub steps_world : Sizes → (load updates : List Elem) → World
steps_world z load updates = record {
  routes = λ n. entries_of (world_hops load updates) (held_after load updates n);
  hops = world_hops load updates;
  events = length (taken_of load updates);
  is_full = is_some (full_at (hops_after [] load) updates);
  changed = λ n. changed_next (held_after load updates n) (drop n (taken_of load updates));
  direct = z.direct;
  nodes = z.nodes;
  leaves = z.leaves;
}
