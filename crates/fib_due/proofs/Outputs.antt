-- What holds of whatever is due.
use Rattle.std.proofs.Common.{◌≡◌, List, Result, Ok, Err, refl}
use Rattle.octet_fields.specs.Field.{◌>>=◌}
use Rattle.table_model.specs.Address.{Prefix}
use Rattle.route_model.specs.Events.{Event}
use Rattle.router_steps.specs.Stepping.{Stepping}
use Rattle.fib_same.specs.Due as same
use Rattle.fib_due.specs.declared.outcome.Outcome.TheVariants.{BadLine, TooLarge}
use Rattle.fib_due.specs.declared.outcome.Which.TheVariants.{Text}
use Rattle.fib_due.specs.Due.{Alike, Checked, Claimed, Made, Moved, Output, Ran, Repeats, Saved, of_texts, stepped}
use Rattle.fib_due.specs.Stops.{Stop, Refused, Untold}

abbrev pub Due : Type 0
Due = Result Output Stop

-- what holds of all refusals
abbrev pub OfStops : (Due → Type 0) → Type 0
OfStops Q = (stop : Stop) → Q (Err stop)

-- of what is printed of something, or of a refusal
pub all_of : {X : Type 0} (Q : Due → Type 0) (out : X → Output) → ((x : X) → Q (Ok (out x))) → OfStops Q → (r : Result X Stop) → Q (r >>= λ x. Ok (out x))
all_of Q out each stops (Ok x) = each x
all_of Q out each stops (Err stop) = stops stop

-- of a run in steps, whose text isn't told
pub all_steps : (Q : Due → Type 0) → OfStops Q → (s : Result Stepping Stop) → Q (stepped s)
all_steps Q stops (Ok s) = stops Untold
all_steps Q stops (Err stop) = stops stop

-- of what is printed of texts, of a prefix that stands twice in one, or of a refusal
pub all_texts : {X : Type 0} (Q : Due → Type 0) (out : X → Output) (t : Result X same.TextStop) → ((x : X) → t ≡ Ok x → Q (Ok (out x))) → ((p : Prefix) → Q (Ok (Repeats p))) → OfStops Q → Q (of_texts out t)
all_texts Q out (Ok x) each twice stops = each x refl
all_texts Q out (Err same.Untold) each twice stops = stops Untold
all_texts Q out (Err (same.Refused (same.TooLarge n))) each twice stops = stops (Refused (TooLarge (Text n)))
all_texts Q out (Err (same.Refused (same.BadLine n line why))) each twice stops = stops (Refused (BadLine (Text n) line why))
all_texts Q out (Err (same.Refused (same.Twice n p))) each twice stops = twice p

-- ---- a checkpoint alone

abbrev pub IsSavedOnly : Result Output Stop → Type 0
IsSavedOnly (Ok (Saved said)) = Unit {0}
IsSavedOnly (Ok (Ran p)) = ⊥
IsSavedOnly (Ok (Checked used)) = ⊥
IsSavedOnly (Ok (Made p)) = ⊥
IsSavedOnly (Ok (Alike texts)) = ⊥
IsSavedOnly (Ok (Repeats p)) = ⊥
IsSavedOnly (Ok (Moved steady t)) = ⊥
IsSavedOnly (Ok (Claimed c)) = ⊥
IsSavedOnly (Err stop) = Unit {0}

-- of a checkpoint, or of a refusal
pub all_saved : (Q : Due → Type 0) → ((said : List Event) → Q (Ok (Saved said))) → OfStops Q → (d : Due) → IsSavedOnly d → Q d
all_saved Q each stops (Ok (Saved said)) s = each said
all_saved Q each stops (Ok (Ran p)) s = absurd s
all_saved Q each stops (Ok (Checked used)) s = absurd s
all_saved Q each stops (Ok (Made p)) s = absurd s
all_saved Q each stops (Ok (Alike texts)) s = absurd s
all_saved Q each stops (Ok (Repeats p)) s = absurd s
all_saved Q each stops (Ok (Moved steady t)) s = absurd s
all_saved Q each stops (Ok (Claimed c)) s = absurd s
all_saved Q each stops (Err stop) s = stops stop
