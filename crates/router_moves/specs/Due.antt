-- What a router must change to forward as printed routes do, by what the inputs hold.
use Rattle.std.specs.Prelude.{ℕ, List, [], ◌∷◌, Bool, Option, Result, Ok}
use Rattle.octet_fields.specs.Field.{◌>>=◌}
use Rattle.table_model.specs.Address.{Address}
use Rattle.table_model.specs.Entries.{Entries}
use Rattle.table_model.specs.Changes.{Change}
use Rattle.cert_model.specs.Rows.{CertRow}
use Rattle.moves_model.specs.Both.{both_changes, both_proving_rows, told_in}
use Rattle.printed_text.specs.declared.kind.Kind.TheVariants.{Least, Route}
use Rattle.fib_same.specs.Due.{TextStop, text_at}
use Rattle.fib_same.specs.Gives.{names_after}

-- The table that the router has, the routes that it is to forward as, and the hops that the numbers in both stand for.
pub record RouterTables : Type 0 where
  pub table : Entries
  pub routes : Entries
  pub hops : List Address

-- Those of two texts: the least rows of the router's text, which is text 1, and the route rows of the printed text, which is text 2.
-- The router's is judged before the other is read, and its hops have their numbers first.
unfoldable pub router_at : (List ℕ → Option (List ℕ)) → List ℕ → List ℕ → Result RouterTables TextStop
router_at content router printed = do
  table ← text_at content Least [] 1 router
  routes ← text_at content Route table.hops 2 printed
  Ok (record { table = table.entries; routes = routes.entries; hops = routes.hops })

-- The names of the texts that are due to be read: the printed one isn't if the router's is refused.
abbrev pub names_asked : (List ℕ → Option (List ℕ)) → List ℕ → List ℕ → List (List ℕ)
names_asked content router printed = router ∷ names_after (text_at content Least [] 1 router) (printed ∷ []) (λ table. printed ∷ [])

-- The changes of the router's table, the rows that prove that no fewer would do, and the hops that the numbers in both stand for.
-- IPv4's come before IPv6's. Each family's changes stand in the order of prefixes, or in steady order if that is asked for.
pub record ShortestMoves : Type 0 where
  pub changes : List Change
  pub rows : List CertRow
  pub hops : List Address

abbrev pub moves_for : Bool → RouterTables → ShortestMoves
moves_for steady t = record { changes = told_in steady (both_changes t.routes t.table); rows = both_proving_rows t.routes t.table; hops = t.hops }

-- the moves that are due
abbrev pub moves_at : (List ℕ → Option (List ℕ)) → List ℕ → List ℕ → Bool → Result ShortestMoves TextStop
moves_at content router printed steady = router_at content router printed >>= λ t. Ok (moves_for steady t)
