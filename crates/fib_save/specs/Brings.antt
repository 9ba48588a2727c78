-- What inputs bring: candidates.
use Rattle.std.specs.Prelude.{◌≡◌, List, [], ◌++◌, ℕ, Option, Some, None, IfSome}
use Rattle.route_model.specs.Events.{Event}
use Rattle.route_model.specs.Choice.{Candidates}
use Rattle.mrt_read.specs.Whole.{HasEvents}
use Rattle.mrt_write.specs.Reads.{after_events}

-- the candidates are those after all events of an input
pub record TakesInput (content : Option (List ℕ)) (before now : Candidates) : Type 0 where
  pub events : List Event
  pub has : IfSome content (HasEvents events)
  pub are : now ≡ after_events before events

-- the events of an input that is named, and none without a name
abbrev pub HasNamed : (List ℕ → Option (List ℕ)) → Option (List ℕ) → List Event → Type 0
HasNamed content None events = events ≡ []
HasNamed content (Some name) events = IfSome (content name) (HasEvents events)

-- The candidates are those after all events of the dump, and then of the updates, if these are named.
pub record Brings (content : List ℕ → Option (List ℕ)) (dump : List ℕ) (updates : Option (List ℕ)) (held : Candidates) : Type 0 where
  pub load : List Event
  pub loaded : IfSome (content dump) (HasEvents load)
  pub later : List Event
  pub updated : HasNamed content updates later
  pub are : held ≡ after_events [] (load ++ later)
