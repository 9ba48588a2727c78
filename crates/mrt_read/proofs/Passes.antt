-- Where the pass over an input ends that is refused.
use Rattle.std.proofs.Common.{◌≡◌, refl}
use Rattle.fib_io.specs.Reads.{Anywhere}
use Rattle.fib_io.specs.Reads as io
use Rattle.fib_io.specs.declared.pieces.ReadError.{ReadError}
use Rattle.fib_io.specs.declared.pieces.ReadError.TheVariants as pieces
use Rattle.mrt_read.specs.declared.reader.EventsError.{EventsError}
use Rattle.mrt_read.specs.declared.reader.EventsError.TheVariants as read
use Rattle.mrt_read.specs.Whole.{pass_end_by, of_input, of_read}

pub end_of_input : (error : ReadError) → pass_end_by (of_input error) ≡ io.end_by error
end_of_input pieces.Fault = refl
end_of_input pieces.TooLarge = refl
end_of_input pieces.NoMemory = refl

pub end_of_read : (error : EventsError) → pass_end_by (of_read error) ≡ Anywhere
end_of_read (read.Malformed malformed) = refl
end_of_read read.NoMemory = refl
