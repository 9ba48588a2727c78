-- A count that is always 0 doesn't rise.
use Rattle.std.proofs.Common.{ℕ, List, [], ◌∷◌, inl, inr, arith}
use Rattle.fib_due.specs.Ends.{OneRose}

pub none_rose : (names : List (List ℕ)) → OneRose names (λ _. 0) (λ _. 0) → ⊥
none_rose [] h = h
none_rose (name ∷ names) (inl h) = grind arith
none_rose (name ∷ names) (inr h) = none_rose names h
