use Rattle.std.proofs.Common.{map, subst, sym}
use Rattle.fib_addr.specs.Views.{entry_as}
use Rattle.cert_check.specs.Runs.{RunsTell}
use Rattle.cert_check.proofs.table_runs.TableRuns.first_differ_in.Goals as goal

pub returns : goal.returns
returns c = λ R t.
    let M = map entry_as c.args.entries.now in
    c.differ_in.ensures R M (c.of.ensures.tells R t) (subst (RunsTell c.args.family M) (sym c.deref.ensures.value) c.in_ok-other.ensures)
