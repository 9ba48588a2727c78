-- What a checkpoint is good for: read as a dump it brings what it was written of.
use Rattle.std.specs.Prelude.{List, []}
use Rattle.route_model.specs.Events.{Event}
use Rattle.mrt_write.specs.Saved.{saved}
use Rattle.mrt_write.specs.Reads.{ReadsAs, after_events}

-- The checkpoint of the candidates after these events is read as these candidates: it breaks no rule, and none of it is skipped or treated as a
-- withdrawal. So, whatever is said later, the candidates are those that they would be without it.
abbrev pub Restores : List Event → Type 0
Restores said = ReadsAs (saved (after_events [] said)) (after_events [] said)
