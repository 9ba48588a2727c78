use Rattle.std.proofs.Common.{None, refl, subst, sym}
use Rattle.fib_io.specs.Reads.{Makes}
use Rattle.fib_words.specs.Commands.{Save, save_as}
use Rattle.fib_due.specs.declared.reply.Reply as code_reply
use Rattle.fib_due.specs.Due.{saved_at, with_reply}
use Rattle.fib_due.specs.Ends.{OneRose, ReadsBy, reads_saved}
use Rattle.fib_due.specs.InTime.{SaveMayGoOn}
use Rattle.fib_due.specs.Owned.{IsOf}
use Rattle.fib_due.specs.Passes.{ReadsTo, save_inputs}
use Rattle.fib_due.specs.Stops.{FailsDue}
use Rattle.fib_due.specs.Untold.{SavedOfSome}
use Rattle.std.proofs.Common.{Err, Some}
use Rattle.fib_texts.proofs.Saving.{checkpoint_due, checkpoint_some, holds, none_cause, none_due, none_own, none_reads, none_some, saved_reads}
use Rattle.fib_texts.proofs.save.save_for.Goals as goal

pub returns-in-Ok-clause-holds : goal.returns-in-Ok-clause-holds
returns-in-Ok-clause-holds g c = holds (g.I.Inputs.content c.args.inputs.now) (save_as c.args.command.now) c.in-Ok.text (record { text = c.in-Ok.text; wrong = None }) refl refl c.in-Ok.ensures.saves

pub returns-in-Ok-clause-due : goal.returns-in-Ok-clause-due
returns-in-Ok-clause-due g c =
    let reply : code_reply.Reply = record { text = c.in-Ok.text; wrong = None } in
    checkpoint_due (g.I.Inputs.content c.args.inputs.now) (save_as c.args.command.now) reply (holds (g.I.Inputs.content c.args.inputs.now) (save_as c.args.command.now) c.in-Ok.text reply refl refl c.in-Ok.ensures.saves)

pub returns-in-Ok-clause-some : goal.returns-in-Ok-clause-some
returns-in-Ok-clause-some g c =
    let reply : code_reply.Reply = record { text = c.in-Ok.text; wrong = None } in
    checkpoint_some (g.I.Inputs.content c.args.inputs.now) (save_as c.args.command.now) reply (holds (g.I.Inputs.content c.args.inputs.now) (save_as c.args.command.now) c.in-Ok.text reply refl refl c.in-Ok.ensures.saves)

pub returns-in-Ok-clause-reads : goal.returns-in-Ok-clause-reads
returns-in-Ok-clause-reads g c = saved_reads (g.I.Inputs.content c.args.inputs.now) (save_as c.args.command.now) _ _ c.in-Ok.ensures.reads

pub returns-in-Err-clause-due : goal.returns-in-Err-clause-due
returns-in-Err-clause-due g c =
    let content = g.I.Inputs.content c.args.inputs.now in
    let named = save_as c.args.command.now in
    subst (λ o. FailsDue o (with_reply (saved_at content named))) (sym c.outcome_of_save.ensures) (none_due content named c.in-Err.error c.in-Err.ensures.saves)

pub returns-in-Err-clause-some : goal.returns-in-Err-clause-some
returns-in-Err-clause-some g c =
    let content = g.I.Inputs.content c.args.inputs.now in
    subst (λ o. SavedOfSome (Err o)) (sym c.outcome_of_save.ensures) (none_some content (save_as c.args.command.now) c.in-Err.error c.in-Err.ensures.saves)

pub returns-in-Err-clause-own : goal.returns-in-Err-clause-own
returns-in-Err-clause-own g c =
    let content = g.I.Inputs.content c.args.inputs.now in
    let named = save_as c.args.command.now in
    subst (IsOf (Some (Save named))) (sym c.outcome_of_save.ensures) (none_own content named c.in-Err.error c.in-Err.ensures.saves)

pub returns-in-Err-clause-cause : goal.returns-in-Err-clause-cause
returns-in-Err-clause-cause g c =
    let content = g.I.Inputs.content c.args.inputs.now in
    let named = save_as c.args.command.now in
    let before = g.I.Inputs.faults c.args.inputs.now in
    let now = g.I.Inputs.faults c.save_inputs.new.inputs in
    subst (λ o. ReadsBy (OneRose (reads_saved content named) before now) before now o) (sym c.outcome_of_save.ensures) (none_cause content named before now c.in-Err.error c.in-Err.ensures.saves c.in-Err.ensures.cause)

pub returns-in-Err-clause-reads : goal.returns-in-Err-clause-reads
returns-in-Err-clause-reads g c =
    let content = g.I.Inputs.content c.args.inputs.now in
    let named = save_as c.args.command.now in
    let before = g.I.Inputs.reads c.args.inputs.now in
    let now = g.I.Inputs.reads c.save_inputs.new.inputs in
    subst (λ o. Makes before now (ReadsTo content SaveMayGoOn (save_inputs named) o)) (sym c.outcome_of_save.ensures) (none_reads content named before now c.in-Err.error c.in-Err.ensures.reads)
