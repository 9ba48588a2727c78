-- What is judged of a claim.
use Rattle.std.proofs.Common.{◌≡◌, List, None, map, sym, ap}
use Rattle.std.specs.Prelude.{option_map}
use Rattle.table_model.specs.declared.family.Family.{Family}
use Rattle.table_model.specs.declared.family.Family.TheVariants.{V4, V6}
use Rattle.moves_model.specs.Verdict.{NoMoves, moves_verdict}
use Rattle.moves_model.proofs.Verdicts.{verdict_from}
use Rattle.fib_addr.specs.Views.{entry_as}
use Rattle.fib_addr.specs.declared.entry.Entry.{Entry}
use Rattle.fib_delta.specs.Views.{change_as}
use Rattle.fib_delta.specs.declared.change.Change.{Change}
use Rattle.cert_model.specs.Views.{row_as}
use Rattle.cert_model.specs.declared.row.Row.{Row}
use Rattle.moves_model.specs.Shortest.{AreProvedShortest}
use Rattle.moves_model.specs.Both.{own_entries}
use Rattle.moves_model.specs.Claims.{IsProved, IsProvedIn, WrongMoves, own_changes, own_rows, wrong_claim}
use Rattle.moves_model.proofs.Claims.{proved_both}
use Rattle.router_moves.specs.Judged.{claim_as}
use Rattle.router_moves.specs.declared.check.Claim as code_claim
use Rattle.router_moves.proofs.Found.{places_fit, prefixes_fit}

-- nothing is wrong in a family whose own entries, changes and rows are proved
pub none_wrong : (f : Family) (c : code_claim.Claim) (table routes : List Entry) (changes : List Change) (rows : List Row) → map entry_as table ≡ own_entries f (claim_as c).table → map entry_as routes ≡ own_entries f (claim_as c).routes
    → map change_as changes ≡ own_changes f (claim_as c).changes → map row_as rows ≡ own_rows f (claim_as c).rows → AreProvedShortest f (map entry_as routes) (map entry_as table) (map change_as changes) (map row_as rows) → None ≡ wrong_claim f (claim_as c)
none_wrong f c table routes changes rows t r cs rs p =
    let own : moves_verdict f (map entry_as table) (map entry_as routes) (map change_as changes) (map row_as rows) ≡ None = verdict_from f (map entry_as table) (map entry_as routes) (map change_as changes) (map row_as rows) p in
    let told : NoMoves → WrongMoves = λ x. record { family = f; no = x } in
    sym (ap (option_map told) (rw (t, r, cs, rs) at own))

-- both families are proved
pub is_proved : (c : code_claim.Claim) → IsProvedIn V4 (claim_as c) → IsProvedIn V6 (claim_as c) → IsProved (claim_as c)
is_proved c p q = proved_both (claim_as c) (prefixes_fit c.asked.table.items) (prefixes_fit c.asked.routes.items) (places_fit c.said.changes.items) p q
