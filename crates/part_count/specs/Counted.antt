-- What is counted of an input, and why it isn't.
use Rattle.std.specs.Prelude.{◌≡◌, ℕ, ◌-◌, ◌^◌, ◌<◌, List, length, min, Ok}
use Rattle.fib_io.specs.Pieces.{octets_read}
use Rattle.mrt_read.specs.Records.{fault_of}
use Rattle.mrt_read.specs.Standing.{IsFault}
use Rattle.wire_model.specs.Input.{Progress, input}
use Rattle.mrt_read.specs.declared.whole.WholeError.{WholeError}
use Rattle.mrt_read.specs.declared.whole.WholeError.TheVariants.{Malformed, NoMemory, Fault, TooLarge}
use Rattle.part_count.specs.declared.count.Counts.{Counts}

-- the counts are those of what the octets say; more events than 64 bits count are reported as the greatest number
pub record CountsOctets (counts : Counts) (octets : List ℕ) : Type 0 where
  pub told : Progress
  pub all : input octets ≡ Ok told
  pub records : counts.records ≡ told.records
  pub skipped : counts.skipped ≡ told.skipped
  pub treated : counts.treated ≡ told.treated
  pub events : counts.events ≡ min (length told.events) (2 ^ 64 - 1)

-- a record of the octets that are read breaks this rule, or there are more octets than are read
abbrev pub IsUncounted : WholeError → List ℕ → Type 0
IsUncounted (Malformed malformed) octets = (told : Progress) × IsFault (octets_read octets) told (fault_of malformed)
IsUncounted TooLarge octets = 2 ^ 36 < length octets
IsUncounted NoMemory octets = Unit {0}
IsUncounted Fault octets = Unit {0}
