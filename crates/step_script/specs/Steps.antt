-- What a clause sees of steps.
use Rattle.std.specs.Prelude.{◌≡◌, List, Result, Ok, Err, map}
use Rattle.std.specs.declared.vec.Vec.{Vec}
use Rattle.fib_addr.specs.Views.{addr_as}
use Rattle.printed_text.specs.Texts.{BadLine}
use Rattle.printed_text.specs.Printed.{bad_as}
use Rattle.step_script.specs.Script as script
use Rattle.step_script.specs.Script.{opens, goes, prepares, stores, ends, cancels}
use Rattle.step_script.specs.declared.step.Step.{Step}
use Rattle.step_script.specs.declared.step.Step.TheVariants as step
use Rattle.step_script.specs.declared.script.ScriptError.{ScriptError}
use Rattle.step_script.specs.declared.script.ScriptError.TheVariants as error

abbrev pub step_as : Step → script.Step
step_as (step.Open a) = opens (addr_as a)
step_as (step.Go n) = goes n
step_as step.Prepare = prepares
step_as step.Store = stores
step_as step.End = ends
step_as step.Cancel = cancels

-- what a reader of a script returned is what the definition gives, unless memory ran out
abbrev pub IsScriptRead : {X : Type 0} → Result (Vec Step X) ScriptError → Result (List script.Step) BadLine → Type 0
IsScriptRead (Ok steps) due = due ≡ Ok (map step_as steps.items)
IsScriptRead (Err (error.BadLine bad)) due = due ≡ Err (bad_as bad)
IsScriptRead (Err error.NoMemory) due = Unit {0}
