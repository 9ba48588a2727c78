-- An input in memory.
use Rattle.std.specs.Prelude.{ℕ}
use Rattle.fib_io.specs.declared.memory_inputs.MemInputs.{MemInputs}
use Rattle.fib_io.specs.declared.plan.Plan.{Plan}

-- which reads are to fail
abbrev pub read_plan : MemInputs → Plan
read_plan inputs = inputs.plan

-- the most octets of a read
abbrev pub read_most : MemInputs → ℕ
read_most inputs = inputs.most
