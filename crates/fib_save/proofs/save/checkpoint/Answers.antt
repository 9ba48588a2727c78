use Rattle.std.proofs.Common.{refl}
use Rattle.std.proofs.lemmas.Result.{err_from_is_err_and}
use Rattle.mrt_write.proofs.Writing.{all_written, none_written}
use Rattle.fib_save.proofs.save.checkpoint.Goals as goal

pub returns-in_err-dump-clause-written : goal.returns-in_err-dump-clause-written
returns-in_err-dump-clause-written c =
    let p = err_from_is_err_and c.from_residual-in_err-dump.result c.from_residual-in_err-dump.ensures.1 in
    none_written c.new-plan.result c.emit_all.new.out c.args.candidates.now.candidates c.in_err-dump.field-0.0 c.from_residual-in_err-dump.result (rw (p.1, p.2) refl) c.new-plan.ensures.knows c.in_ok-emit_all.ensures.takes c.in_err-dump.ensures.answers

pub returns-clause-written : goal.returns-clause-written
returns-clause-written c = all_written c.new-plan.result c.emit_all.new.out c.args.candidates.now.candidates c.in_ok-dump.dump c.emit_all-2.new.out c.in_ok-octets.octets c.new-plan.ensures.knows c.in_ok-emit_all.ensures.takes c.in_ok-dump.ensures.answers c.in_ok-emit_all-2.ensures.takes c.in_ok-octets.ensures
