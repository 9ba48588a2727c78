use Rattle.printed_text.proofs.Hops.{kind_numbers, kind_stays}
use Rattle.printed_text.proofs.Whole.{kind_rows, kind_bad}
use Rattle.printed_text.proofs.printed_laws.kinds_law.Goals as goal

pub returns-clause-rows : goal.returns-clause-rows
returns-clause-rows c = kind_rows

pub returns-clause-bad : goal.returns-clause-bad
returns-clause-bad c = kind_bad

pub returns-clause-numbers : goal.returns-clause-numbers
returns-clause-numbers c = kind_numbers

pub returns-clause-stay : goal.returns-clause-stay
returns-clause-stay c = kind_stays
