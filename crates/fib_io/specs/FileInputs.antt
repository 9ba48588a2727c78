-- What inputs over files have open, and what they stand over.
use Rattle.std.specs.Prelude.{List}
use Rattle.fib_io.specs.declared.files.OpenInput.{OpenInput}
use Rattle.fib_io.specs.declared.files.FileInputs.{FileInputs}

-- the inputs that are open, in the order in which they were opened
abbrev pub inputs_of : {N R : Type 0} {a : _} {b : _} {c : _} {d : _} → FileInputs N R a b c d → List (OpenInput R)
inputs_of files = files.inputs.items

-- the system below
abbrev pub files_of : {N R : Type 0} {a : _} {b : _} {c : _} {d : _} → FileInputs N R a b c d → N
files_of files = files.files
