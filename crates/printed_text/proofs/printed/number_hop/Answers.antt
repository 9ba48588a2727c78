use Rattle.printed_text.proofs.Taking.{hop_numbered}
use Rattle.printed_text.proofs.printed.number_hop.Goals as goal

pub returns-in-Some : goal.returns-in-Some
returns-in-Some c = let n = c.number.ensures in rw c.in-Some.is (hop_numbered _ _ _ c.number.result n.number n.hops n.few n.full)
