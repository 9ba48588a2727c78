use Rattle.fib_addr.specs.Views.{prefix_as}
use Rattle.smalta_keep.proofs.Near.{entry_hop}
use Rattle.smalta_keep.proofs.back.entry_at.Goals as goal

pub returns : goal.returns
returns c = entry_hop c.args.tree.now.entries (prefix_as c.args.prefix.now) c.args.tree.now.family c.region-region.result.entries c.entry.result c.requires c.entry.ensures c.region-region.ensures.entries
