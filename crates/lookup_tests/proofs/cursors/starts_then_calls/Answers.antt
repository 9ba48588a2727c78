use Rattle.poptrie_update.specs.Cursors.{Dues}
use Rattle.lookup_tests.proofs.cursors.starts_then_calls.Goals as goal

pub starts-started-requires-clause-fits : goal.starts-started-requires-clause-fits
starts-started-requires-clause-fits c =
    let due : Dues = λ n. record { answer = 0; left = 0 } in
    (due, c.in_ok-cursors.ensures.fits c.build.new.self due)
