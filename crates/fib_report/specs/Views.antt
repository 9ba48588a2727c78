-- What a clause sees of a run, without what its types keep.
use Rattle.std.specs.Prelude.{ℕ, List, map}
use Rattle.table_model.specs.Address.{Address}
use Rattle.table_model.specs.Entries.{Entries}
use Rattle.table_model.specs.Changes.{Change}
use Rattle.cert_model.specs.Rows.{CertRow}
use Rattle.printed_text.specs.Rows.{Announced, Vrp}
use Rattle.fib_addr.specs.Views.{addr_as, entry_as, prefix_as}
use Rattle.cert_model.specs.Views.{row_as}
use Rattle.fib_delta.specs.Views.{change_as}
use Rattle.fib_report.specs.declared.run.Report.{Report}
use Rattle.fib_report.specs.declared.run.Answer as code_answer
use Rattle.fib_report.specs.declared.run.Invalid as code_invalid
use Rattle.fib_report.specs.declared.run.Moves as code_moves
use Rattle.fib_report.specs.declared.run.Run as code_run

-- an address that was asked for, the number of its hop, and how many nodes its lookup visits
pub record Answer : Type 0 where
  pub addr : Address
  pub hop : ℕ
  pub visits : ℕ

abbrev pub answer_as : code_answer.Answer → Answer
answer_as answer = record { addr = addr_as answer.addr; hop = answer.hop.0; visits = answer.visits }

-- an announcement that is Invalid, and a VRP that covers it
abbrev pub invalid_as : code_invalid.Invalid → Announced × Vrp
invalid_as i = (record { prefix = prefix_as i.prefix; peer = addr_as i.peer; peer_as = i.peer_as; origin = i.origin }, record { prefix = prefix_as i.vrp_prefix; maxlen = i.maxlen; asn = i.vrp_as })

-- an event's number, and how many changes it needed
abbrev pub moves_as : code_moves.Moves → ℕ × ℕ
moves_as m = (m.event, m.count)

-- What a run gives: the routes, the Invalid announcements with the VRPs that cover them, the changes with their events' numbers, the number of each event with that of the changes it needed, the answers, the table, the least table, the certificate that it is least, and what was counted.
pub record Told : Type 0 where
  pub routes : Entries
  pub invalid : List (Announced × Vrp)
  pub changes : List (ℕ × Change)
  pub moves : List (ℕ × ℕ)
  pub answers : List Answer
  pub table : Entries
  pub least : Entries
  pub cert : List CertRow
  pub report : Report

-- the run, item by item
abbrev pub run_as : code_run.Run → Told
run_as run = record {
  routes = map entry_as run.routes.items;
  invalid = map invalid_as run.invalid.items;
  changes = map (λ c. (c.0, change_as c.1)) run.changes.items;
  moves = map moves_as run.moves.items;
  answers = map answer_as run.answers.items;
  table = map entry_as run.table.items;
  least = map entry_as run.least.items;
  cert = map row_as run.cert.items;
  report = run.report;
}
