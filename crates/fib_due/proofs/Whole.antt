-- Inputs of records that are read to their end.
use Rattle.std.proofs.Common.{◌≡◌, ◌∙◌, ℕ, ◌^◌, Bool, true, false, List, length, Option, Some, None, Result, Ok, Err, ap, refl, sym}
use Rattle.std.specs.Prelude.{IfSome, not, ◌&&◌}
use Rattle.std.proofs.lemmas.Bool.{le-leb, lt-leb}
use Rattle.octet_fields.specs.Field.{◌>>=◌}
use Rattle.wire_model.specs.Rules.{rule_number}
use Rattle.route_model.specs.Events.{Event}
use Rattle.wire_model.specs.Input.{Progress, Stopped, input}
use Rattle.fib_io.specs.Pieces.{octets_read}
use Rattle.mrt_read.specs.declared.framer.Malformed as code_malformed
use Rattle.mrt_read.specs.Cuts.{is_cut, is_small}
use Rattle.mrt_read.specs.Whole.{EndsOrIsCut, HasEvents, IsBad, IsInputRefused, IsTooLarge}
use Rattle.mrt_read.specs.declared.whole.WholeError.{WholeError}
use Rattle.mrt_read.specs.declared.whole.WholeError.TheVariants as whole
use Rattle.mrt_read.proofs.Cutting.{goes_past}
use Rattle.fib_due.specs.declared.outcome.Outcome.TheVariants.{Malformed, TooLarge}
use Rattle.fib_due.specs.declared.outcome.MrtInput.{MrtInput}
use Rattle.fib_due.specs.declared.outcome.MrtInput.TheVariants.{Updates}
use Rattle.fib_due.specs.Stops.{FailsDue, IsDueIfTold, Refused, Stop, all_records, bad_record, input_of, told_content, whole_records}
use Rattle.fib_due.specs.Stepping.{events_at, events_of, refusal_by, refusal_of_whole}

module _ (which : MrtInput) where
  -- the events of what was read of these octets
  abbrev due_in : List ℕ → Result Progress Stopped → Result (List Event) Stop
  due_in c r = whole_records which (is_small c) (is_cut (octets_read c)) r >>= λ read. Ok read.events

  -- the same of an input, where it is told
  abbrev due_of : Option (List ℕ) → Result (List Event) Stop
  due_of o = told_content o >>= λ c. due_in c (input (octets_read c))

  all_of : (b : Bool) (read : Progress) → b ≡ true → (all_records which b read >>= λ r. Ok r.events) ≡ Ok read.events
  all_of true read e = refl
  all_of false read e = absurd cc

  past_of : (b : Bool) (read : Progress) → b ≡ false → (all_records which b read >>= λ r. Ok r.events) ≡ Err (Refused (TooLarge (input_of which)))
  past_of true read e = absurd cc
  past_of false read e = refl

  bad_of : (b : Bool) (stopped : Stopped) → b ≡ false → (bad_record which b stopped >>= λ r. Ok r.events) ≡ Err (Refused (Malformed (input_of which) stopped.read.records (rule_number stopped.rule)))
  bad_of true stopped e = absurd cc
  bad_of false stopped e = refl

  cut_of : (b : Bool) (stopped : Stopped) → b ≡ true → (bad_record which b stopped >>= λ r. Ok r.events) ≡ Err (Refused (TooLarge (input_of which)))
  cut_of true stopped e = refl
  cut_of false stopped e = absurd cc

  -- ---- what is due of the octets

  has_due : (c : List ℕ) (events : List Event) → HasEvents events c → due_in c (input (octets_read c)) ≡ Ok events
  has_due c events h = ap (due_in c) h.all ∙ (all_of (is_small c) h.read (le-leb (length c) (2 ^ 36) h.small) ∙ ap Ok h.are)

  bad_due : (c : List ℕ) (malformed : code_malformed.Malformed) → IsBad malformed c → due_in c (input (octets_read c)) ≡ Err (Refused (Malformed (input_of which) malformed.number (rule_number malformed.rule)))
  bad_due c malformed h =
      ap (due_in c) h.stops
      ∙ (bad_of (not (is_small c) && is_cut (octets_read c) h.stopped.read.records) h.stopped h.whole
      ∙ (ap (λ n. Err (Refused (Malformed (input_of which) n (rule_number h.stopped.rule)))) (sym h.number)
      ∙ ap (λ r. Err (Refused (Malformed (input_of which) malformed.number (rule_number r)))) (sym h.rule)))

  large_due : (c : List ℕ) → IsTooLarge c → due_in c (input (octets_read c)) ≡ Err (Refused (TooLarge (input_of which)))
  large_due c h = by_read (input (octets_read c)) h.ends
    where
      by_read : (r : Result Progress Stopped) → EndsOrIsCut (octets_read c) r → due_in c r ≡ Err (Refused (TooLarge (input_of which)))
      by_read (Ok read) e = past_of (is_small c) read (lt-leb (length c) (2 ^ 36) h.large)
      by_read (Err stopped) e = cut_of (not (is_small c) && is_cut (octets_read c) stopped.read.records) stopped (goes_past (is_small c) (is_cut (octets_read c) stopped.read.records) (lt-leb (length c) (2 ^ 36) h.large) e)

  -- ---- what is due of the input

  pub told_due : (o : Option (List ℕ)) (events : List Event) → IfSome o (HasEvents events) → IsDueIfTold (due_of o) (Ok events)
  told_due None events h = tt
  told_due (Some c) events h = rw (has_due c events h) refl

  pub told_fails : (o : Option (List ℕ)) (error : WholeError) → IfSome o (IsInputRefused error) → FailsDue (refusal_by which error) (due_of o)
  told_fails None (whole.Malformed malformed) h = tt
  told_fails None whole.TooLarge h = tt
  told_fails (Some c) (whole.Malformed malformed) h = rw (bad_due c malformed h) refl
  told_fails (Some c) whole.TooLarge h = rw (large_due c h) refl
  told_fails o whole.NoMemory h = tt
  told_fails o whole.Fault h = tt

-- all events that were read are those that are due
pub whole_due : (content : List ℕ → Option (List ℕ)) (name : List ℕ) (events : List Event) → IfSome (content name) (HasEvents events) → IsDueIfTold (events_at content name) (Ok events)
unfolding events_of
whole_due content name events h = told_due Updates (content name) events h

-- what was refused is what is due, but for a fault of reading and want of memory
pub whole_fails : (content : List ℕ → Option (List ℕ)) (name : List ℕ) (error : WholeError) → IfSome (content name) (IsInputRefused error) → FailsDue (refusal_of_whole error) (events_at content name)
unfolding events_of
whole_fails content name error h = told_fails Updates (content name) error h

-- the same of any input of records
pub all_due : (which : MrtInput) (content : List ℕ → Option (List ℕ)) (name : List ℕ) (events : List Event) → IfSome (content name) (HasEvents events) → IsDueIfTold (events_of which content name) (Ok events)
unfolding events_of
all_due which content name events h = told_due which (content name) events h

pub all_fails : (which : MrtInput) (content : List ℕ → Option (List ℕ)) (name : List ℕ) (error : WholeError) → IfSome (content name) (IsInputRefused error) → FailsDue (refusal_by which error) (events_of which content name)
unfolding events_of
all_fails which content name error h = told_fails which (content name) error h
