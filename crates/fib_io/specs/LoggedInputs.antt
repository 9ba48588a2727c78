-- Inputs that keep the reads that were made of them.
use Rattle.std.specs.Prelude.{List, map, Option, Some, None, if◌then◌else◌}
use Rattle.std.specs.String.{string_bytes}
use Rattle.fib_io.specs.Reads.{Read}
use Rattle.fib_io.specs.declared.logged_inputs.LoggedRead.{LoggedRead}
use Rattle.fib_io.specs.declared.logged_inputs.LoggedInputs.{LoggedInputs}

abbrev pub read_as : LoggedRead → Read
read_as read = record { name = string_bytes read.name; at = read.at; gave = read.gave }

-- the reads that were made, if all of them were kept
abbrev pub reads_kept : {I : Type 0} → LoggedInputs I → Option (List Read)
reads_kept inputs = if inputs.is_whole then Some (map read_as inputs.log.items) else None

-- the inputs below
abbrev pub inputs_below : {I : Type 0} → LoggedInputs I → I
inputs_below inputs = inputs.inputs
