use Rattle.std.proofs.Common.{◌∙◌, ap, sym, subst, ◌+◌, Some}
use Rattle.std.specs.Option.{is_some}
use Rattle.fib_io.specs.Files.{StandsAfter}
use Rattle.fib_io.proofs.Calls.{gave_stands}
use Rattle.fib_io.proofs.Places.{value_is}
use Rattle.fib_io.proofs.files.OpenInput.read_at.Goals as goal

pub returns-in_err-n-clause-reads : goal.returns-in_err-n-clause-reads
returns-in_err-n-clause-reads g c content o octets e =
    let here = c.in_ok-go_to.ensures.reads content o octets e in
    let at = here.2 c.args.at c.in_ok-go_to.ensures.at in
    let stays = c.in_err-n.ensures.told octets here.0 c.args.at at in
    (c.in_err-n.ensures.same octets here.0, ap is_some stays, λ place w. stays ∙ (sym c.in_ok-go_to.ensures.at ∙ w))

pub returns-clause-reads : goal.returns-clause-reads
returns-clause-reads g c content o octets e =
    let here = c.in_ok-go_to.ensures.reads content o octets e in
    let at = here.2 c.args.at c.in_ok-go_to.ensures.at in
    let moved = (c.in_ok-n.ensures.told octets here.0 c.args.at at).1 in
    (c.in_ok-n.ensures.same octets here.0, ap is_some moved, λ place w. moved ∙ ap (λ n. Some n) (value_is _ c.checked_add-self.result (c.args.at + c.in_ok-n.n) place c.checked_add-self.ensures w))

pub returns-clause-told : goal.returns-clause-told
returns-clause-told g c octets o =
    let here = c.in_ok-go_to.ensures.reads (Some octets) (λ x e. o x e) octets (λ i. Some octets) in
    (c.in_ok-n.ensures.told octets here.0 c.args.at (here.2 c.args.at c.in_ok-go_to.ensures.at)).0

pub returns-clause-stands : goal.returns-clause-stands
returns-clause-stands g c stood =
    let before = g.R.ReadSeek.calls c.go_to.new.self.reader in
    gave_stands before (g.R.ReadSeek.calls c.read_on.new.self) _ c.args.at c.in_ok-n.n c.checked_add-self.result (λ h. h) c.checked_add-self.ensures c.in_ok-n.ensures.met
    (subst (StandsAfter before) c.in_ok-go_to.ensures.at (c.in_ok-go_to.ensures.stands stood))
