use Rattle.std.proofs.Common.{rules}
use Rattle.cert_check.proofs.Stacks.{popped}
use Rattle.cert_check.proofs.rows.pop_item.Goals as goal

pub returns : goal.returns
returns c = popped _ _ _ _ (search rules) c.pop.ensures.variant c.pop.ensures.items
