-- What the calls do, as steps of the machine.
use Rattle.std.specs.Prelude.{◌≡◌, ℕ, suc, Bool, true, false, Option, Some, None, Result, Ok, Err}
use Rattle.table_model.specs.declared.family.Family.{Family}
use Rattle.table_model.specs.Entries.{match_in}
use Rattle.fib_addr.specs.Hops.{hop_at}
use Rattle.fib_addr.specs.declared.entry.Hop.{Hop}
use Rattle.step_script.specs.Rows.{StepRow, opened, full, went_on, answered, not_open, stored, ended, left, cancelled, late, nothing, printed_number}
use Rattle.step_script.specs.Machine.{World, State, Lookup, Stores, changes_family, Goes, version_of}

-- ---- lookups
-- the row of a lookup that is opened
abbrev pub open_row : {E : Type 0} → Family → Result ℕ E → StepRow
open_row f (Ok n) = opened (printed_number f n)
open_row f (Err e) = full

-- A go leads on to a node, or to the answer: the number of the hop that the routes of its version give, from which the row's hop
-- follows
abbrev pub GoesTo : {E : Type 0} → World → State → Family → ℕ → Result (Option Hop) E → State → Type 0
GoesTo w s f n (Ok None) t = Goes w s f n (went_on (printed_number f n)) t
GoesTo w s f n (Ok (Some h)) t =
    (k : Lookup)
    × (s.lookups f n ≡ Some k)
    × (h.0 ≡ match_in (w.routes (version_of w s k)) k.addr)
    × Goes w s f n (answered (printed_number f n) (hop_at w.hops h.0)) t
GoesTo w s f n (Err e) t = Goes w s f n (not_open (printed_number f n)) t

-- ---- an update
-- the state after it is begun
abbrev pub begun_with : Stores → State → State
begun_with what s = record s { begun = Some (record { stores = what; made = 0 }) }

-- the rows of its steps
abbrev pub store_row : Bool → StepRow
store_row true = stored
store_row false = nothing

abbrev pub end_row : {A E : Type 0} → Result A E → StepRow
end_row (Ok a) = ended
end_row (Err e) = left

abbrev pub cancel_row : {A E : Type 0} → Result A E → StepRow
cancel_row (Ok a) = cancelled
cancel_row (Err e) = late

-- ---- steps that concern the other family
-- the family's lookups stay, and what is begun stays if it is of the family
pub record IsElsewhere (w : World) (f : Family) (s t : State) : Type 0 where
  pub ended : t.ended ≡ s.ended
  pub lookups : (n : ℕ) → t.lookups f n ≡ s.lookups f n
  pub begun : changes_family f (w.changed s.ended) ≡ true → t.begun ≡ s.begun

-- the state after the event that is begun has ended
abbrev pub ended_with : State → State
ended_with s = record s { ended = suc s.ended; begun = None }
