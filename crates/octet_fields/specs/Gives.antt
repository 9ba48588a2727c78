-- What a function of the code returned, seen by view, is what the definition gives.
use Rattle.std.specs.Prelude.{◌≡◌, Result, Ok, Err}

abbrev pub Gives : {X Y F : Type 0} → (X → Y) → Result X F → Result Y F → Type 0
Gives view (Ok x) read = read ≡ Ok (view x)
Gives view (Err fault) read = read ≡ Err fault
