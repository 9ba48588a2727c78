-- What a clause sees of what a peer says of a list of prefixes.
use Rattle.wire_model.specs.Path.{Path}
use Rattle.mrt_records.specs.declared.event.Saying.{Saying}

-- their path: its length, and where the routes originate
abbrev pub said_path : Saying → Path
said_path s = record { length = s.path; origin = s.origin }
