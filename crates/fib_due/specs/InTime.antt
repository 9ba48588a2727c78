-- After which octets an input may be read on: those of which nothing is refused.
use Rattle.std.specs.Prelude.{◌≡◌, ℕ, List, [], Option, None, IfOk, IsOk}
use Rattle.route_model.specs.Events.{Elem}
use Rattle.printed_text.specs.Rows.{Vrp}
use Rattle.wire_model.specs.Input.{input}
use Rattle.route_tries.specs.Sizes.{Sizes}
use Rattle.fib_words.specs.Commands.{Named, NamedSteps}
use Rattle.mrt_read.specs.Whole.{MayGoOn}
use Rattle.fib_due.specs.declared.outcome.MrtInput.{MrtInput}
use Rattle.fib_due.specs.declared.outcome.MrtInput.TheVariants as mrt
use Rattle.fib_due.specs.declared.outcome.Which.{Which}
use Rattle.fib_due.specs.declared.outcome.Which.TheVariants.{Asks, Vrps, Dump, Updates, Printed, Script, Text}
use Rattle.fib_due.specs.Asks.{ended_asks_in}
use Rattle.fib_due.specs.Due.{elems_in, load_at, read_part, sizes_of, steps_sizes, vrps_at}
use Rattle.fib_due.specs.Refusals.{stop_at, too_much}

-- asks may be read on after these octets: each of their lines that has its line feed is empty or an address
abbrev pub AsksMayGoOn : List ℕ → Type 0
AsksMayGoOn octets = IsOk (ended_asks_in octets)

-- each elementary event that the records of these octets bring after earlier ones is taken
abbrev pub AreTaken : Sizes → List Vrp → MrtInput → List Elem → List ℕ → Type 0
AreTaken z vrps which before octets = stop_at (too_much which z) before (elems_in vrps before (read_part (input octets))) ≡ None

-- an input of records may be read on after these octets: they break no rule but that their last record is cut (RFC 6396, 2), and each elementary event that they bring after earlier ones is taken
pub record FeedMayGoOn (z : Sizes) (vrps : List Vrp) (which : MrtInput) (before : List Elem) (octets : List ℕ) : Type 0 where
  pub whole : MayGoOn octets
  pub taken : AreTaken z vrps which before octets

-- a list of VRPs, a printed text and a script may be read on after any octets: they are judged once they were read to their end
abbrev pub TextMayGoOn : Which → List ℕ → Type 0
TextMayGoOn which = λ octets. Unit {0}

-- each input of a run may be read on after these octets; events are judged by the list of VRPs, if it is known, and those of the updates come after those of the dump, if it says them
abbrev pub RunMayGoOn : (List ℕ → Option (List ℕ)) → Named → Which → List ℕ → Type 0
RunMayGoOn content named Asks = AsksMayGoOn
RunMayGoOn content named Dump = λ octets. MayGoOn octets × IfOk (vrps_at content named.vrps) (λ vrps. AreTaken (sizes_of named) vrps mrt.Dump [] octets)
RunMayGoOn content named Updates = λ octets. MayGoOn octets × IfOk (vrps_at content named.vrps) (λ vrps. IfOk (load_at (sizes_of named) content vrps named.dump) (λ load. AreTaken (sizes_of named) vrps mrt.Updates load.elems octets))
RunMayGoOn content named Vrps = λ octets. Unit {0}
RunMayGoOn content named Printed = λ octets. Unit {0}
RunMayGoOn content named Script = λ octets. Unit {0}
RunMayGoOn content named (Text n) = λ octets. Unit {0}

-- the same of a run in steps, which takes the events of the updates once they were read to their end
abbrev pub StepsMayGoOn : NamedSteps → Which → List ℕ → Type 0
StepsMayGoOn named Dump = FeedMayGoOn (steps_sizes named) [] mrt.Dump []
StepsMayGoOn named Updates = MayGoOn
StepsMayGoOn named Asks = λ octets. Unit {0}
StepsMayGoOn named Vrps = λ octets. Unit {0}
StepsMayGoOn named Printed = λ octets. Unit {0}
StepsMayGoOn named Script = λ octets. Unit {0}
StepsMayGoOn named (Text n) = λ octets. Unit {0}

-- the same of a checkpoint: records alone are judged
abbrev pub SaveMayGoOn : Which → List ℕ → Type 0
SaveMayGoOn Dump = MayGoOn
SaveMayGoOn Updates = MayGoOn
SaveMayGoOn Asks = λ octets. Unit {0}
SaveMayGoOn Vrps = λ octets. Unit {0}
SaveMayGoOn Printed = λ octets. Unit {0}
SaveMayGoOn Script = λ octets. Unit {0}
SaveMayGoOn (Text n) = λ octets. Unit {0}
