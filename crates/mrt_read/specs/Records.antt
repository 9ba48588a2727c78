-- Records, refusals and answers of the code, without where they lie in memory.
use Rattle.std.specs.Prelude.{ℕ, ◌+◌, List, take, drop, length, Result, Ok, Err, Bool, true, false}
use Rattle.wire_model.specs.declared.rule.Rule.{Rule}
use Rattle.wire_model.specs.declared.rule.Rule.TheVariants.{HeaderCut, BodyCut, TooLong}
use Rattle.wire_model.specs.Record.{Record, Fault}
use Rattle.mrt_read.specs.declared.framer.Framed.{Framed}
use Rattle.mrt_read.specs.declared.framer.Header.{Header}
use Rattle.mrt_read.specs.declared.framer.Malformed.{Malformed}

abbrev pub record_of : Framed → Record
record_of framed = record { kind = framed.kind; subtype = framed.sub; body = framed.body.now }

abbrev pub fault_of : Malformed → Fault
fault_of malformed = record { number = malformed.number; rule = malformed.rule }

-- an answer, its value seen by view
abbrev pub result_of : {A B : Type 0} → (A → B) → Result A Malformed → Result B Fault
result_of view (Ok x) = Ok (view x)
result_of view (Err malformed) = Err (fault_of malformed)

-- the record after this header, and what follows it
abbrev pub record_behind : List ℕ → Header → Record × List ℕ
record_behind octets header = (record { kind = header.kind; subtype = header.sub; body = take header.length (drop 12 octets) }, drop (12 + header.length) octets)

-- the octets of a record: its header and its body
abbrev pub record_size : Record → ℕ
record_size r = 12 + length r.body

-- the most octets of a record that is cut: those of a header and of the longest body, less one
abbrev pub most_left : ℕ
most_left = 16777227

-- the rules about headers and about how long bodies are
abbrev pub IsOfFrames : Rule → Type 0
IsOfFrames HeaderCut = Unit {0}
IsOfFrames BodyCut = Unit {0}
IsOfFrames TooLong = Unit {0}
IsOfFrames rule = ⊥

-- the rule of a Length over the limit
abbrev pub is_long : Rule → Bool
is_long TooLong = true
is_long rule = false
