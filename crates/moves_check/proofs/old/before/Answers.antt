use Rattle.std.proofs.Common.{rules}
use Rattle.std.proofs.lemmas.List.Sorted.{IsPartitionPoint-from_clause}
use Rattle.fib_addr.specs.Views.{prefix_as}
use Rattle.fib_addr.specs.declared.entry.Entry as code_entry
use Rattle.moves_check.specs.Places.{stands_before}
use Rattle.moves_check.proofs.Places.{parted}
use Rattle.moves_check.proofs.old.before.Goals as goal

pub returns-clause-placed : goal.returns-clause-placed
returns-clause-placed c = λ pl.
    let p = prefix_as c.args.prefix.now in
    IsPartitionPoint-from_clause (λ (e : code_entry.Entry). stands_before p c.args.itself (prefix_as e.prefix)) c.args.entries.now c.partition_point.result c.partition_point.ensures.partitioned
    (parted p c.args.itself c.args.entries.now pl.1) (λ a r f' k. search rules)
