use Rattle.std.proofs.Common.{◌≡◌, ◌++◌}
use Rattle.fib.specs.Ends.{words_left}
use Rattle.fib.proofs.collected.Given as goal

abbrev pub invariant-loop-word : goal.invariant-loop-word
invariant-loop-word l = l.all.items ++ words_left l.word-iterator ≡ words_left l.initial.word-iterator
