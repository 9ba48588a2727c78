-- What the readers of records add after the events that there are.
use Rattle.std.specs.Prelude.{◌≡◌, ℕ, List, [], ◌∷◌, ◌++◌, Option, Some, None, Result, Ok, Err, Bool}
use Rattle.route_model.specs.Events.{Event}
use Rattle.wire_model.specs.declared.rule.Rule.{Rule}
use Rattle.wire_model.specs.Update.{Said}
use Rattle.bgp_attrs.specs.declared.refusal.Refusal.{Refusal}
use Rattle.bgp_attrs.specs.Gives.{Refuses}

-- the event of an entry, and what follows it
abbrev pub AddsEntry : {T : Type 0} → (T → List ℕ) → List Event → List Event → Result T Refusal → Result (Event × List ℕ) Rule → Type 0
AddsEntry view old new (Ok rest) read = (added : Event) × (read ≡ Ok (added, view rest)) × (new ≡ old ++ added ∷ [])
AddsEntry view old new (Err refusal) read = Refuses refusal read

-- the events of n entries, and what follows them
abbrev pub AddsEntries : {T : Type 0} → (T → List ℕ) → List Event → List Event → Result T Refusal → Result (List Event × List ℕ) Rule → Type 0
AddsEntries view old new (Ok rest) read = (added : List Event) × (read ≡ Ok (added, view rest)) × (new ≡ old ++ added)
AddsEntries view old new (Err refusal) read = Refuses refusal read

-- what a session's record says, or nothing if it is skipped
abbrev pub AddsSession : List Event → List Event → Result (Option Bool) Refusal → Result (Option Said) Rule → Type 0
AddsSession old new (Ok None) read = (read ≡ Ok None) × (new ≡ old)
AddsSession old new (Ok (Some treated)) read = (added : List Event) × (read ≡ Ok (Some (record { events = added; treated = treated }))) × (new ≡ old ++ added)
AddsSession old new (Err refusal) read = Refuses refusal read
