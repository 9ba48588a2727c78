use Rattle.std.proofs.Common.{rules}
use Rattle.std.specs.Prelude.{nat_le}
use Rattle.std.proofs.lemmas.List.Sorted.{IsPartitionPoint-from_clause, IsPartitionedBy-leb}
use Rattle.cert_check.specs.declared.runs.Run.{Run}
use Rattle.cert_check.proofs.Holding.{rising, begun_at}
use Rattle.cert_check.proofs.runs.begun.Goals as goal

pub returns-clause-begun : goal.returns-clause-begun
returns-clause-begun c = λ runs.
    begun_at c.args.number c.args.runs.now c.partition_point.result c.partition_point.ensures.bound
    (IsPartitionPoint-from_clause (λ (r : Run). nat_le r.start c.args.number) c.args.runs.now c.partition_point.result c.partition_point.ensures.partitioned
    (IsPartitionedBy-leb (λ (r : Run). r.start) c.args.runs.now c.args.number (rising 0 c.args.runs.now runs)) (λ a r f' k. search rules))
