-- How the program ends where memory runs out for its words.
use Rattle.std.proofs.Common.{◌≡◌, refl, ℕ, ◌<◌, List, ◌∷◌, Option, Some, None, Ok, Err, inl, inr, arith}
use Rattle.std.specs.Prelude.{IfSome, [], unwrap_or}
use Rattle.fib_io.specs.Reads.{Read}
use Rattle.fib_io.proofs.Passing.{makes_none}
use Rattle.fib_io.proofs.Timing.{no_pass_in_time}
use Rattle.fib_words.specs.Commands.{Asked, Run, Check, Make, Steps, Same, Save, Moves, CheckMoves, command_of}
use Rattle.fib_due.specs.declared.outcome.Outcome.TheVariants.{NoMemory}
use Rattle.fib_due.specs.Ends.{TellsOf}
use Rattle.fib_due.specs.Owned.{IsOf}
use Rattle.fib_due.specs.InTime.{TextMayGoOn, RunMayGoOn, SaveMayGoOn, StepsMayGoOn}
use Rattle.fib_due.specs.Passes.{Content, Input, Judge, ReadInPart, ReadsAt, check_inputs, check_moves_inputs, moves_inputs, run_inputs, same_inputs, save_inputs, steps_inputs}
use Rattle.fib_due.specs.Stepped.{EndsRun, FitsSteps, IfStepping}
use Rattle.fib_due.specs.Due.{stepping_at}
use Rattle.fib_due.specs.Untold.{FitsSome}
use Rattle.fib.specs.Ends.{Ends, moment}

owned : (asked : Option Asked) → IsOf asked NoMemory
owned None = tt
owned (Some asked) = tt

fits_some : (content : List ℕ → Option (List ℕ)) (asked : Option Asked) (out : Option (List ℕ)) → FitsSome content asked out out NoMemory
fits_some content None out = tt
fits_some content (Some (Run named)) out = inl (inl tt)
fits_some content (Some (Check name)) out = inl tt
fits_some content (Some (Make routes seed)) out = (tt, refl)
fits_some content (Some (Steps named)) out = inl tt
fits_some content (Some (Same named)) out = inl (1, tt)
fits_some content (Some (Save named)) out = inl (inl tt)
fits_some content (Some (Moves named)) out = inl (1, tt)
fits_some content (Some (CheckMoves named)) out = inl (1, tt)

fits_steps : (content : List ℕ → Option (List ℕ)) (asked : Option Asked) (out : Option (List ℕ)) → FitsSteps content asked out out NoMemory
fits_steps content None out = tt
fits_steps content (Some (Run named)) out = tt
fits_steps content (Some (Check name)) out = tt
fits_steps content (Some (Make routes seed)) out = tt
fits_steps content (Some (Same named)) out = tt
fits_steps content (Some (Save named)) out = tt
fits_steps content (Some (Moves named)) out = tt
fits_steps content (Some (CheckMoves named)) out = tt
fits_steps content (Some (Steps named)) out = elim (stepping_at content named) as (λ d. IfStepping d (λ s. EndsRun s out out NoMemory)) [ Ok s ↦ tt | Err stop ↦ tt ]

-- none of these inputs was begun
none_begun : (content : Content) (Goes : Judge) (inputs : List Input) → ReadInPart content Goes inputs []
none_begun content Goes [] = record { before = []; after = []; order = refl; first = []; whole = refl; last = []; begun = refl; all = refl }
none_begun content Goes (input ∷ inputs) = record { before = []; after = input ∷ inputs; order = refl; first = []; whole = refl; last = []; begun = no_pass_in_time (content input.1) (Goes input.0) input.1; all = refl }

none_read : (content : Content) (asked : Option Asked) → ReadsAt content asked NoMemory []
none_read content None = refl
none_read content (Some (Run named)) = none_begun content (RunMayGoOn content named) (run_inputs named)
none_read content (Some (Check name)) = none_begun content TextMayGoOn (check_inputs name)
none_read content (Some (Make routes seed)) = refl
none_read content (Some (Steps named)) = none_begun content (StepsMayGoOn named) (steps_inputs named)
none_read content (Some (Same named)) = none_begun content TextMayGoOn (same_inputs named)
none_read content (Some (Save named)) = none_begun content SaveMayGoOn (save_inputs named)
none_read content (Some (Moves named)) = none_begun content TextMayGoOn (moves_inputs named)
none_read content (Some (CheckMoves named)) = none_begun content TextMayGoOn (check_moves_inputs named)

not_more : {P : Type 0} (n : ℕ) → n < n → P
not_more n h = absurd (omega (arith, h))

-- nothing was read or written, and standard error has the line
pub no_memory : (words : List (List ℕ)) (content : List ℕ → Option (List ℕ)) (faults : List ℕ → ℕ) (made : Option (List Read)) (out : Option (List ℕ)) (out_faults : ℕ) (old new : Option (List ℕ)) (before now : ℕ) → TellsOf NoMemory old new before now → Ends words (moment content faults made out out_faults old before) (moment content faults made out out_faults new now) NoMemory
no_memory words content faults made out out_faults old new before now told = record {
  exact = tt;
  own = owned (command_of words);
  read = refl;
  write = refl;
  out = refl;
  err = told;
  some = fits_some content (command_of words) out;
  steps = fits_steps content (command_of words) out;
  same = refl;
  risen_input = λ name h. not_more (faults name) h;
  risen_out = λ h. not_more out_faults h;
  complete = λ _ _. inr refl;
  printed = λ e. absurd (cc);
  front = λ e. absurd (cc);
  due_yes = λ e. absurd (cc);
  saves = λ e. absurd (cc);
  due_saves = λ e. absurd (cc);
  reads = makes_none made (ReadsAt content (command_of words) NoMemory) (none_read content (command_of words));
}

-- the words that a command line tells, if it does
pub are_told : (told : Option (List (List ℕ))) → IfSome told (λ given. unwrap_or told [] ≡ given)
are_told None = tt
are_told (Some given) = refl
