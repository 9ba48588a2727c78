use Rattle.std.proofs.Common.{refl}
use Rattle.cert_check.proofs.Holding.{last_hop_at}
use Rattle.cert_check.proofs.runs.hop_before.Goals as goal

pub returns-else-place-eq0 : goal.returns-else-place-eq0
returns-else-place-eq0 c = last_hop_at c.args.runs.now c.args.place _ _ c.if-place-eq0.false c.requires refl
