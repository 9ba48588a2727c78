use Rattle.std.proofs.Common.{map, refl}
use Rattle.std.proofs.lemmas.Result.{err_from_is_err_and}
use Rattle.fib_prefix.specs.Views.{cand_as}
use Rattle.mrt_write.specs.Dumps.{PutsCands}
use Rattle.mrt_write.specs.Plans.{Learns}
use Rattle.mrt_write.proofs.Writing.{all_written, list_read, list_taken, none_written}
use Rattle.mrt_write.proofs.list.write_dump.Goals as goal

pub returns-in_err-dump-clause-written : goal.returns-in_err-dump-clause-written
returns-in_err-dump-clause-written c =
    let p = err_from_is_err_and c.from_residual-in_err-dump.result c.from_residual-in_err-dump.ensures.1 in
    none_written c.new-plan.result c.emit_list.new.out (map cand_as c.args.cands.now) c.in_err-dump.field-0.0 c.from_residual-in_err-dump.result (rw (p.1, p.2) refl) c.new-plan.ensures.knows
    (list_taken Learns c.new-plan.result c.emit_list.new.out c.args.cands.now c.in_ok-emit_list.ensures.takes) c.in_err-dump.ensures.answers

pub returns-clause-written : goal.returns-clause-written
returns-clause-written c =
    all_written c.new-plan.result c.emit_list.new.out (map cand_as c.args.cands.now) c.in_ok-dump.dump c.emit_list-2.new.out c.in_ok-octets.octets c.new-plan.ensures.knows (list_taken Learns c.new-plan.result c.emit_list.new.out c.args.cands.now c.in_ok-emit_list.ensures.takes) c.in_ok-dump.ensures.answers
    (list_taken PutsCands c.in_ok-dump.dump c.emit_list-2.new.out c.args.cands.now c.in_ok-emit_list-2.ensures.takes) c.in_ok-octets.ensures

pub returns-clause-reads : goal.returns-clause-reads
returns-clause-reads c = λ are. list_read c.args.cands.now c.in_ok-octets.octets (returns-clause-written c) are
