use Rattle.std.proofs.Common.{List, ℕ, Bor, option_map, refl}
use Rattle.std.proofs.lemmas.Result.{err_from_is_err_and}
use Rattle.route_choice.specs.declared.candidates.Candidates.{Candidates}
use Rattle.fib_save.proofs.Saving.{all_saved, none_faults, none_reads, none_saved, not_saved}
use Rattle.fib_save.proofs.save.save_inputs.Goals as goal

pub returns-in_err-candidates-clause-saves : goal.returns-in_err-candidates-clause-saves
returns-in_err-candidates-clause-saves g c =
    let p = err_from_is_err_and c.from_residual.result c.from_residual.ensures.1 in
    none_saved (g.I.Inputs.content c.args.inputs.now) c.args.dump.now (option_map {T = Bor (List ℕ)} {U = List ℕ} (λ n. n.now) c.args.updates) c.in_err-candidates.field-0.0 c.from_residual.result (rw (p.1, p.2) refl) c.in_err-candidates.ensures.none

pub returns-in_err-candidates-clause-cause : goal.returns-in_err-candidates-clause-cause
returns-in_err-candidates-clause-cause g c =
    let p = err_from_is_err_and c.from_residual.result c.from_residual.ensures.1 in
    none_faults Candidates (g.I.Inputs.faults c.args.inputs.now) (g.I.Inputs.faults c.candidates_of.new.inputs) c.args.dump.now (option_map {T = Bor (List ℕ)} {U = List ℕ} (λ n. n.now) c.args.updates) c.in_err-candidates.field-0.0 c.from_residual.result (rw (p.1, p.2) refl) c.in_err-candidates.ensures.cause

pub returns-in_err-candidates-clause-reads : goal.returns-in_err-candidates-clause-reads
returns-in_err-candidates-clause-reads g c =
    let p = err_from_is_err_and c.from_residual.result c.from_residual.ensures.1 in
    none_reads Candidates (g.I.Inputs.content c.args.inputs.now) (g.I.Inputs.reads c.args.inputs.now) (g.I.Inputs.reads c.candidates_of.new.inputs) c.args.dump.now (option_map {T = Bor (List ℕ)} {U = List ℕ} (λ n. n.now) c.args.updates) c.in_err-candidates.field-0.0 c.from_residual.result (rw (p.1, p.2) refl) c.in_err-candidates.ensures.reads

pub returns-in-Ok-clause-saves : goal.returns-in-Ok-clause-saves
returns-in-Ok-clause-saves g c =
    all_saved _ _ _ _ c.in-Ok.octets c.in_ok-candidates.ensures.brings c.in-Ok.ensures.written c.checkpoint.ensures.held c.in-Ok.ensures.octets

pub returns-clause-saves : goal.returns-clause-saves
returns-clause-saves g c = not_saved ℕ _ _ _ _ c.in-Err.error c.in_ok-candidates.ensures.brings c.in-Err.ensures.written
