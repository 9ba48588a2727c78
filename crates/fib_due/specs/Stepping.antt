-- What a run in steps takes of its inputs.
use Rattle.std.specs.Prelude.{List, ℕ, Option, Result, Ok}
use Rattle.octet_fields.specs.Field.{◌>>=◌}
use Rattle.wire_model.specs.Rules.{rule_number}
use Rattle.route_model.specs.Events.{Event}
use Rattle.mrt_read.specs.declared.whole.WholeError.{WholeError}
use Rattle.mrt_read.specs.declared.whole.WholeError.TheVariants as whole
use Rattle.fib_due.specs.declared.outcome.Outcome.{Outcome}
use Rattle.fib_due.specs.declared.outcome.Outcome.TheVariants.{Malformed, NoMemory, ReadFault, TooLarge}
use Rattle.fib_due.specs.declared.outcome.MrtInput.{MrtInput}
use Rattle.fib_due.specs.declared.outcome.MrtInput.TheVariants.{Updates}
use Rattle.fib_due.specs.Stops.{Stop, input_of, records_due, told_content}

-- the events of all records of an input
unfoldable pub events_of : MrtInput → (List ℕ → Option (List ℕ)) → List ℕ → Result (List Event) Stop
events_of which content name = do
  octets ← told_content (content name)
  read ← records_due which octets
  Ok read.events

-- those of the updates
abbrev pub events_at : (List ℕ → Option (List ℕ)) → List ℕ → Result (List Event) Stop
events_at content name = events_of Updates content name

-- the outcome if an input gives no events
abbrev pub refusal_by : MrtInput → WholeError → Outcome
refusal_by which (whole.Malformed malformed) = Malformed (input_of which) malformed.number (rule_number malformed.rule)
refusal_by which whole.NoMemory = NoMemory
refusal_by which whole.Fault = ReadFault
refusal_by which whole.TooLarge = TooLarge (input_of which)

abbrev pub refusal_of_whole : WholeError → Outcome
refusal_of_whole error = refusal_by Updates error
