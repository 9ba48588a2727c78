-- The ends of a run and of a check.
use Rattle.std.proofs.Common.{ℕ, List, Result, inl, inr, refl}
use Rattle.fib_io.specs.Causes.{Rose}
use Rattle.fib_due.specs.declared.outcome.Outcome.{Outcome}
use Rattle.fib_due.specs.declared.outcome.Outcome.TheVariants.{Done, CheckNo, Differ, MovesNo, Usage, ReadFault, WriteFault, NoMemory, TooLarge, Malformed, HopsFull, TrieFull, BadLine, PeersFull, PathTooLong}
use Rattle.fib_due.specs.Stops.{Stop}
use Rattle.fib_due.specs.Due.{Output}
use Rattle.fib_due.specs.Ends.{Meets, ReadsBy, WritesBy, Completes}

-- with no fault what is due comes
pub completes : (d : Result Output Stop) (read_failed : Type 0) (before now : List ℕ → ℕ) (b n : ℕ) (result : Outcome) → Meets d result → ReadsBy read_failed before now result → WritesBy b n result → Completes d read_failed (Rose b n) result
completes d f before now b n ReadFault m r w = λ nr nw. absurd (nr r)
completes d f before now b n WriteFault m r w = λ nr nw. absurd (nw w)
completes d f before now b n NoMemory m r w = λ nr nw. inr refl
completes d f before now b n Done m r w = λ nr nw. inl m
completes d f before now b n (CheckNo x) m r w = λ nr nw. inl m
completes d f before now b n (Differ x) m r w = λ nr nw. inl m
completes d f before now b n (MovesNo x) m r w = λ nr nw. inl m
completes d f before now b n (PeersFull peers) m r w = λ nr nw. inl m
completes d f before now b n (PathTooLong p k) m r w = λ nr nw. inl m
completes d f before now b n Usage m r w = λ nr nw. inl m
completes d f before now b n (TooLarge input) m r w = λ nr nw. inl m
completes d f before now b n (Malformed input number rule) m r w = λ nr nw. inl m
completes d f before now b n (HopsFull event) m r w = λ nr nw. inl m
completes d f before now b n (TrieFull event need have arena) m r w = λ nr nw. inl m
completes d f before now b n (BadLine input line why) m r w = λ nr nw. inl m
