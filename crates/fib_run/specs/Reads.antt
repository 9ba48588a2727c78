-- What a reading of asks gives.
use Rattle.std.specs.Prelude.{◌≡◌, ℕ, Result, Ok, Err}
use Rattle.fib_run.specs.declared.asks.AskError.{AskError}
use Rattle.fib_run.specs.declared.asks.AskError.TheVariants as ask

-- what a reader of lines returned is what the definition gives, unless memory ran out
abbrev pub IsList : {X Y : Type 0} → (X → Y) → Result X AskError → Result Y ℕ → Type 0
IsList view (Ok x) due = due ≡ Ok (view x)
IsList view (Err (ask.BadLine line)) due = due ≡ Err line
IsList view (Err ask.NoMemory) due = Unit {0}
IsList view (Err ask.Fault) due = ⊥
IsList view (Err ask.TooLarge) due = ⊥
