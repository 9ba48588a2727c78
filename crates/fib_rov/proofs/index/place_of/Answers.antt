use Rattle.std.proofs.Common.{rules}
use Rattle.std.proofs.lemmas.List.Sorted.{IsPartitionPoint-from_clause}
use Rattle.fib_addr.specs.Views.{prefix_as}
use Rattle.fib_rov.specs.Index.{stands_up_to}
use Rattle.fib_rov.proofs.Lasts.{parted}
use Rattle.fib_rov.proofs.index.place_of.Goals as goal

pub returns-clause-placed : goal.returns-clause-placed
returns-clause-placed c =
    IsPartitionPoint-from_clause (stands_up_to (prefix_as c.args.prefix.now)) c.args.sorted.now c.partition_point.result c.partition_point.ensures.partitioned
    (parted (prefix_as c.args.prefix.now) c.args.sorted.now c.requires) (λ a r f' k. search rules)
