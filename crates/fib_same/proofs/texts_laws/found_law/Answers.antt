use Rattle.fib_same.proofs.Found.{all_found, one_found}
use Rattle.fib_same.proofs.texts_laws.found_law.Goals as goal

pub returns-clause-one : goal.returns-clause-one
returns-clause-one c = one_found

pub returns-clause-all : goal.returns-clause-all
returns-clause-all c = all_found
