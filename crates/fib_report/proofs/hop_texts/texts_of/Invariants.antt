use Rattle.std.proofs.Common.{◌≡◌, length}
use Rattle.fib_report.specs.HopTexts.{AreTextsOf}
use Rattle.fib_report.proofs.hop_texts.texts_of.Given as goal

-- the texts of as many hops as there were turns
abbrev pub invariant-loop-place : goal.invariant-loop-place
invariant-loop-place l = (length l.texts.items ≡ l.place) × AreTextsOf l.table.list l.texts.items
