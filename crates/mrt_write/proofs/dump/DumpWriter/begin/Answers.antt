use Rattle.std.proofs.Common.{◌++◌, map, ap, ◌∙◌}
use Rattle.fib_prefix.specs.Views.{peer_as}
use Rattle.mrt_write.specs.Checkpoint.{table_body}
use Rattle.mrt_write.proofs.Written.{part_is}
use Rattle.mrt_write.proofs.Whole.{table_few}
use Rattle.mrt_write.proofs.dump.DumpWriter.begin.Goals as goal

pub put_record-requires : goal.put_record-requires
put_record-requires c = table_few c.args.peers.items c.deref-2.result.now c.requires.few (part_is c.deref-2.result.now c.put_table.new.out.items c.new-body.result.items (table_body (map peer_as c.args.peers.items)) c.deref-2.ensures.value (c.in_ok-put_table.ensures ∙ ap (λ ps. c.new-body.result.items ++ table_body (map peer_as ps)) c.deref.ensures.value) c.new-body.ensures.items)
