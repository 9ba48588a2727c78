-- What a clause sees of what was read.
use Rattle.std.specs.Prelude.{ℕ, List, [], Option, Some, None}
use Rattle.route_model.specs.Events.{Event}
use Rattle.wire_model.specs.Update.{Said}
use Rattle.mrt_records.specs.declared.record.RecordTold.{RecordTold}
use Rattle.mrt_records.specs.declared.record.RecordTold.TheVariants.{Skipped, Treated}

-- the events of a record, none if it is skipped
abbrev pub said_events : Option Said → List Event
said_events (Some words) = words.events
said_events None = []

-- how many records were skipped by reading one that said this, and how many messages treated
abbrev pub skips : RecordTold → ℕ
skips Skipped = 1
skips told = 0

abbrev pub treats : RecordTold → ℕ
treats Treated = 1
treats told = 0
