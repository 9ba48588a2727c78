-- The one answer of a region.
use Rattle.std.proofs.Common.{◌≡◌, ℕ, List, Bool, Some, length, ◌↔◌}
use Rattle.fib_addr.specs.Answers.{one_answer}
use Rattle.fib_addr.proofs.OneAnswer.{one_answer_is, one_answer_from}

pub one_answer_law : (d : ℕ) (f : List Bool → ℕ) (h : ℕ) → (one_answer d f ≡ Some h) ↔ ((a : List Bool) → length a ≡ d → f a ≡ h)
one_answer_law d f h = (one_answer_is d f h, one_answer_from d f h)
