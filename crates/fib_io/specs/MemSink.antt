-- A sink in memory.
use Rattle.std.specs.Prelude.{ℕ, ◌-◌, vec_capacity, vec_len}
use Rattle.fib_io.specs.declared.memory_sinks.MemSink.{MemSink}
use Rattle.fib_io.specs.declared.plan.Plan.{Plan}

-- how many octets still fit
abbrev pub room_left : MemSink → ℕ
room_left sink = vec_capacity sink.octets - vec_len sink.octets

-- which writes are to fail
abbrev pub write_plan : MemSink → Plan
write_plan sink = sink.plan

-- the most octets of a write
abbrev pub write_most : MemSink → ℕ
write_most sink = sink.most
