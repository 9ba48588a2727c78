-- What a clause sees of a verdict on printed changes.
use Rattle.std.specs.Prelude.{◌≡◌, None, map, option_map, Result, Ok, IfSome}
use Rattle.fib_addr.specs.Views.{entry_as}
use Rattle.fib_delta.specs.Views.{change_as}
use Rattle.cert_model.specs.Views.{row_as}
use Rattle.moves_check.specs.Views.{no_moves_as}
use Rattle.fib_same.specs.Due.{TextStop}
use Rattle.fib_same.specs.Gives.{MatchesIfTold}
use Rattle.moves_model.specs.Claims as model
use Rattle.moves_model.specs.Claims.{Claim, IsProved, IsProvedIn}
use Rattle.router_moves.specs.Checked.{Claimed, Verdict, verdict_for}
use Rattle.router_moves.specs.declared.check.Claim.{Claim as CodeClaim}
use Rattle.router_moves.specs.declared.verdict.MovesVerdict.{MovesVerdict}
use Rattle.router_moves.specs.declared.verdict.WrongMoves.{WrongMoves}

abbrev pub wrong_moves_as : WrongMoves → model.WrongMoves
wrong_moves_as w = record { family = w.family; no = no_moves_as w.no }

abbrev pub verdict_as : MovesVerdict → Verdict
verdict_as v = record { wrong = option_map wrong_moves_as v.wrong; hops = v.hops.list }

-- what is claimed
abbrev pub claim_as : CodeClaim → Claim
claim_as c = record { table = map entry_as c.asked.table.items; routes = map entry_as c.asked.routes.items; changes = map change_as c.said.changes.items; rows = map row_as c.said.rows.items }

-- Of some claim: if nothing is wrong, it is proved; and if something is wrong in a family, the family's rows don't prove its changes
-- shortest.
pub record IsJudged (c : Claim) (v : MovesVerdict) : Type 0 where
  pub yes : v.wrong ≡ None → IsProved c
  pub no : IfSome v.wrong (λ w. IsProvedIn w.family c → ⊥)

-- Whatever the texts hold: the verdict is that on some claim, which is that of the texts if these are known, and it is right.
abbrev pub EndsJudged : Result Claimed TextStop → MovesVerdict → Type 0
EndsJudged due v = (t : Claimed) × MatchesIfTold due (Ok t) × (verdict_as v ≡ verdict_for t) × IsJudged t.claim v
