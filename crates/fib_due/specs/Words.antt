-- What the words of a call ask for, which inputs they read, and what is due of them.
use Rattle.std.specs.Prelude.{ℕ, List, Option, Result, map}
use Rattle.std.specs.String.{string_bytes}
use Rattle.std.specs.declared.string.String.{String}
use Rattle.fib_words.specs.Commands.{Asked, command_of}
use Rattle.fib_due.specs.Stops.{Stop}
use Rattle.fib_due.specs.Due.{Output, due}
use Rattle.fib_due.specs.Ends.{reads}

-- the words as texts
abbrev pub texts_of : {A : Type 0} → List (String A) → List (List ℕ)
texts_of words = map string_bytes words

abbrev pub asked_by : {A : Type 0} → List (String A) → Option Asked
asked_by words = command_of (texts_of words)

abbrev pub due_by : {A : Type 0} → List (String A) → (List ℕ → Option (List ℕ)) → Result Output Stop
due_by words content = due (texts_of words) content

abbrev pub read_by : {A : Type 0} → List (String A) → (List ℕ → Option (List ℕ)) → List (List ℕ)
read_by words content = reads (texts_of words) content
