use Rattle.std.proofs.lemmas.Result.{IfOk-weaker}
use Rattle.router_moves.proofs.Judging.{is_proved}
use Rattle.router_moves.proofs.check.first_wrong.Goals as goal

pub returns-clause-yes : goal.returns-clause-yes
returns-clause-yes c = IfOk-weaker c.wrong_in-2.result _ _ (λ w yes none. is_proved c.args.claim.now (c.in_ok-wrong.ensures.yes c.in_default.is) (yes none)) c.wrong_in-2.ensures.yes
