use Rattle.std.proofs.Common.{◌++◌, length, map, sym, ap, ◌∙◌, arith}
use Rattle.fib_prefix.specs.Views.{cand_as, peer_as}
use Rattle.mrt_write.specs.Entries.{entry_octets}
use Rattle.mrt_write.proofs.Sharing.{length_entry}
use Rattle.mrt_write.proofs.dump.DumpWriterCandSink.put.Goals as goal

pub take_entry-requires-clause-short : goal.take_entry-requires-clause-short
take_entry-requires-clause-short c =
    let peers = map peer_as c.deref.result.now in
    let ids = c.args.self.now.ids in
    let cand = cand_as c.args.cand.now in
    let entry = c.in_ok-put_entry.ensures peers (sym c.in-Some.ensures.1) ∙ ap (λ xs. xs ++ entry_octets peers ids cand) c.clear.ensures.items in
    omega (arith, ap length entry, length_entry peers ids cand c.if-cand-gt-MOST_PATH.false)
