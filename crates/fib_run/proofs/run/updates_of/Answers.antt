use Rattle.std.proofs.Common.{refl}
use Rattle.fib_due.specs.Due.{feed_at, no_feed}
use Rattle.fib_due.proofs.Passes.{nothing_read}
use Rattle.fib_run.proofs.run.updates_of.Goals as goal

pub returns-in-None-clause-due : goal.returns-in-None-clause-due
unfolding feed_at
returns-in-None-clause-due g c = λ limits before s. (no_feed, record { counted = c.no_counts.ensures; stands = s }, rw c.in-None.is refl)

pub returns-in-Some-clause-reads : goal.returns-in-Some-clause-reads
returns-in-Some-clause-reads g c = λ limits before s. rw c.in-Some.is (c.feed_of.ensures.reads limits before s)

pub returns-in-None-clause-reads : goal.returns-in-None-clause-reads
returns-in-None-clause-reads g c = λ limits before s. rw c.in-None.is (nothing_read _)
