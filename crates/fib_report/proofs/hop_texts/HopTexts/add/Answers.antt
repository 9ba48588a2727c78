use Rattle.std.proofs.Common.{subst}
use Rattle.printed_text.specs.Rows.{IsHop}
use Rattle.fib_report.proofs.Proper.{hop_proper}
use Rattle.fib_report.proofs.hop_texts.HopTexts.add.Goals as goal

pub returns-in-None-clause-hop : goal.returns-in-None-clause-hop
returns-in-None-clause-hop c = rw (← c.self.view_is) (subst IsHop c.addr.ensures.addr (hop_proper c.addr.result))
