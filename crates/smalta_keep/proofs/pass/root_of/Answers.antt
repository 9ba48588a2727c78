use Rattle.smalta_keep.proofs.Apart.{root_some}
use Rattle.smalta_keep.proofs.pass.root_of.Goals as goal

pub returns-in-Some : goal.returns-in-Some
returns-in-Some c = root_some c.args.dirty.now c.in-Some.dirty c.root.result c.in-Some.is c.root.ensures.entries
