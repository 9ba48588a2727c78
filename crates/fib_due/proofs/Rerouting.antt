-- What a router must change, where it is due, is shortest, and its rows prove it; and so is what it was told to change, where a check of it says yes.
use Rattle.std.proofs.Common.{◌≡◌, ℕ, Bool, true, false, List, [], ◌∷◌, ◌++◌, Option, Some, None, Result, Ok, Err, refl, subst}
use Rattle.std.specs.Prelude.{◌≤◌, flat_map, length, IfSome}
use Rattle.std.proofs.Common.{arith}
use Rattle.std.specs.List.{AllByRecursion, filter}
use Rattle.std.specs.Map.{keys_of}
use Rattle.octet_fields.specs.Field.{◌>>=◌}
use Rattle.table_model.specs.Address.{Address, Prefix, IsPrefix}
use Rattle.table_model.specs.declared.family.Family.TheVariants.{V4, V6}
use Rattle.table_model.specs.Entries.{Entries}
use Rattle.table_model.specs.Changes.{Change}
use Rattle.kept_model.specs.Between.{place_of}
use Rattle.printed_text.specs.declared.kind.Kind.{Kind}
use Rattle.printed_text.specs.declared.kind.Kind.TheVariants.{Route, Table, Least}
use Rattle.printed_text.specs.Kinds.{KindEntries, kind_entries, kind_hops, kind_in}
use Rattle.printed_text.specs.Rows.{PrintedRow, route_row, invalid_row, add_row, replace_row, remove_row, moves_row, answer_row, visits_row, table_row, least_row, cert_leaf_row, cert_join_row, cert_bound_row, report_row}
use Rattle.printed_text.specs.Texts.{BadLine as BadRow, line_texts, rows_by}
use Rattle.printed_text.specs.Used.{entry_said, kind_entry, said_by}
use Rattle.printed_text.specs.Whole.{is_filled}
use Rattle.cert_model.specs.Verdict.{RowFits, twice}
use Rattle.fib_same.specs.Due.{TextStop, text_entries, text_octets, rowed_text, text_at, unless_twice}
use Rattle.moves_model.specs.Claims.{Claim}
use Rattle.router_moves.specs.Checked.{Claimed, claimed_at, lined_moves, said_moves_at}
use Rattle.router_moves.specs.Due.{RouterTables, router_at}
use Rattle.router_moves.specs.Said.{SaidMoves, change_part, moves_hop, moves_hops, said_in, said_moves}
use Rattle.fib_due.specs.Proves.{IfClaimed, IfMoved, Reroutes, ReroutesSteadily, DecidesMoves}
use Rattle.fib_due.proofs.Fitting.{Fits, all_append, all_fit, lines_fit}
use Rattle.fib_due.proofs.Outputs.{all_texts}
use Rattle.fib_addr.specs.Hops.{most_hops}
use Rattle.printed_text.proofs.Texts.{few_before}
use Rattle.printed_text.proofs.Whole.{kind_rows, rows_of_text}
use Rattle.moves_model.proofs.Told.{own_proved, shortest_both, steadily_both}
use Rattle.moves_model.proofs.Claims.{claim_law}
use Rattle.fib_due.specs.Due.{Claimed as Claims, Moved, claimed, moved}

-- ---- the entries that were read are of prefixes

said_fits : (kind : Kind) (row : PrintedRow) → Fits row → IfSome (said_by kind row) (λ s. IsPrefix s.0)
said_fits Route (route_row p a) f = f
said_fits Route (invalid_row a v) f = tt
said_fits Route (add_row event p hop) f = tt
said_fits Route (replace_row event p hop) f = tt
said_fits Route (remove_row event p) f = tt
said_fits Route (moves_row event n) f = tt
said_fits Route (answer_row a hop) f = tt
said_fits Route (visits_row a n) f = tt
said_fits Route (table_row p hop) f = tt
said_fits Route (least_row p hop) f = tt
said_fits Route (cert_leaf_row p hop) f = tt
said_fits Route (cert_join_row p k) f = tt
said_fits Route (cert_bound_row g n) f = tt
said_fits Route (report_row count n) f = tt
said_fits Table (route_row p a) f = tt
said_fits Table (invalid_row a v) f = tt
said_fits Table (add_row event p hop) f = tt
said_fits Table (replace_row event p hop) f = tt
said_fits Table (remove_row event p) f = tt
said_fits Table (moves_row event n) f = tt
said_fits Table (answer_row a hop) f = tt
said_fits Table (visits_row a n) f = tt
said_fits Table (table_row p hop) f = f
said_fits Table (least_row p hop) f = tt
said_fits Table (cert_leaf_row p hop) f = tt
said_fits Table (cert_join_row p k) f = tt
said_fits Table (cert_bound_row g n) f = tt
said_fits Table (report_row count n) f = tt
said_fits Least (route_row p a) f = tt
said_fits Least (invalid_row a v) f = tt
said_fits Least (add_row event p hop) f = tt
said_fits Least (replace_row event p hop) f = tt
said_fits Least (remove_row event p) f = tt
said_fits Least (moves_row event n) f = tt
said_fits Least (answer_row a hop) f = tt
said_fits Least (visits_row a n) f = tt
said_fits Least (table_row p hop) f = tt
said_fits Least (least_row p hop) f = f
said_fits Least (cert_leaf_row p hop) f = tt
said_fits Least (cert_join_row p k) f = tt
said_fits Least (cert_bound_row g n) f = tt
said_fits Least (report_row count n) f = tt

keys_both : (L M : Entries) → AllByRecursion IsPrefix (keys_of L) → AllByRecursion IsPrefix (keys_of M) → AllByRecursion IsPrefix (keys_of (L ++ M))
keys_both [] M a b = b
keys_both (e ∷ L) M a b = (a.0, keys_both L M a.1 b)

entry_fits : (hops : List Address) (said : Option (Prefix × Option Address)) → IfSome said (λ s. IsPrefix s.0) → AllByRecursion IsPrefix (keys_of (entry_said hops said))
entry_fits hops None f = tt
entry_fits hops (Some s) f = (f, tt)

entries_fit : (kind : Kind) (hops : List Address) (rows : List PrintedRow) → AllByRecursion Fits rows → AllByRecursion IsPrefix (keys_of (flat_map (kind_entry kind hops) rows))
entries_fit kind hops [] f = tt
entries_fit kind hops (row ∷ rows) f = keys_both (kind_entry kind hops row) (flat_map (kind_entry kind hops) rows) (entry_fits hops (said_by kind row) (said_fits kind row f.0)) (entries_fit kind hops rows f.1)

-- entries of prefixes, with hops that aren't too many
pub record AreRead (read : KindEntries) : Type 0 where
  pub prefixes : AllByRecursion IsPrefix (keys_of read.entries)
  pub few : length read.hops ≤ most_hops

abbrev fine : KindEntries → Result KindEntries BadRow
fine x = Ok x

same_fine : (x y : KindEntries) → fine x ≡ fine y → x ≡ y
same_fine x y e = cc

kind_read : (kind : Kind) (hops : List Address) (text : List ℕ) (read : KindEntries) → length hops ≤ most_hops → kind_in kind hops text ≡ Ok read → AreRead read
kind_read kind hops text read few e = by_rows (rows_by (kind_hops kind hops) text) refl e
  where
    by_rows : (r : Result (List PrintedRow) BadRow) → rows_by (kind_hops kind hops) text ≡ r → (r >>= λ rows. fine (kind_entries kind hops rows)) ≡ Ok read → AreRead read
    by_rows (Ok rows) is e =
        let have = (kind_rows kind hops text rows few).0 is in
        subst AreRead (same_fine (kind_entries kind hops rows) read e) (record { prefixes = entries_fit kind (kind_hops kind hops rows) rows (lines_fit (filter is_filled (line_texts text)) rows have.said); few = have.few })
    by_rows (Err bad) is e = absurd cc

abbrev got : {X : Type 0} → X → Result X TextStop
got x = Ok x

same_got : {X : Type 0} (x y : X) → got x ≡ got y → x ≡ y
same_got x y e = cc

text_read : (content : List ℕ → Option (List ℕ)) (kind : Kind) (hops : List Address) (n : ℕ) (name : List ℕ) (read : KindEntries) → length hops ≤ most_hops → text_at content kind hops n name ≡ Ok read → AreRead read
unfolding text_at text_entries
text_read content kind hops n name read few e = by_octets (text_octets content n name) e
  where
    by_twice : (o : Option Prefix) (r : KindEntries) → unless_twice n r o ≡ Ok read → r ≡ read
    by_twice None r e = same_got r read e
    by_twice (Some p) r e = absurd cc

    by_read : (octets : List ℕ) (r : Result KindEntries BadRow) → kind_in kind hops octets ≡ r → (rowed_text n r >>= λ x. unless_twice n x (twice x.entries)) ≡ Ok read → AreRead read
    by_read octets (Ok r) is e = subst AreRead (by_twice (twice r.entries) r e) (kind_read kind hops octets r few is)
    by_read octets (Err bad) is e = absurd cc

    by_octets : (o : Result (List ℕ) TextStop) → (o >>= λ octets. rowed_text n (kind_in kind hops octets) >>= λ x. unless_twice n x (twice x.entries)) ≡ Ok read → AreRead read
    by_octets (Ok octets) e = by_read octets (kind_in kind hops octets) refl e
    by_octets (Err stop) e = absurd cc

-- ---- what a text of changes says is of prefixes

-- a change is at a prefix
abbrev IsAtPrefix : Change → Type 0
IsAtPrefix c = IsPrefix (place_of c)

change_fits : (hops : List Address) (row : PrintedRow) → Fits row → AllByRecursion IsAtPrefix (change_part hops row)
change_fits hops (add_row event p hop) f = (f, tt)
change_fits hops (replace_row event p hop) f = (f, tt)
change_fits hops (remove_row event p) f = (f, tt)
change_fits hops (route_row p a) f = tt
change_fits hops (invalid_row a v) f = tt
change_fits hops (moves_row event n) f = tt
change_fits hops (answer_row a hop) f = tt
change_fits hops (visits_row a n) f = tt
change_fits hops (table_row p hop) f = tt
change_fits hops (least_row p hop) f = tt
change_fits hops (cert_leaf_row p hop) f = tt
change_fits hops (cert_join_row p k) f = tt
change_fits hops (cert_bound_row g n) f = tt
change_fits hops (report_row count n) f = tt

changes_fit : (hops : List Address) (rows : List PrintedRow) → AllByRecursion Fits rows → AllByRecursion IsAtPrefix (flat_map (change_part hops) rows)
changes_fit hops [] f = tt
changes_fit hops (row ∷ rows) f = all_append IsAtPrefix (change_part hops row) (flat_map (change_part hops) rows) (change_fits hops row f.0) (changes_fit hops rows f.1)

-- changes at prefixes, and rows of prefixes
pub record AreSaid (said : SaidMoves) : Type 0 where
  pub changes : AllByRecursion IsAtPrefix said.changes
  pub rows : AllByRecursion RowFits said.rows

abbrev told : SaidMoves → Result SaidMoves BadRow
told x = Ok x

same_told : (x y : SaidMoves) → told x ≡ told y → x ≡ y
same_told x y e = cc

moves_read : (hops : List Address) (text : List ℕ) (said : SaidMoves) → length hops ≤ most_hops → said_in hops text ≡ Ok said → AreSaid said
moves_read hops text said few e = by_rows (rows_by (moves_hops hops) text) refl e
  where
    by_rows : (r : Result (List PrintedRow) BadRow) → rows_by (moves_hops hops) text ≡ r → (r >>= λ rows. told (said_moves hops rows)) ≡ Ok said → AreSaid said
    by_rows (Ok rows) is e =
        let have = (rows_of_text (moves_hops hops) (λ before rows. few_before moves_hop hops before rows) few text rows).0 is in
        let fit = lines_fit (filter is_filled (line_texts text)) rows have.said in
        subst AreSaid (same_told (said_moves hops rows) said e) (record { changes = changes_fit (moves_hops hops rows) rows fit; rows = all_fit (moves_hops hops rows) rows fit })
    by_rows (Err bad) is e = absurd cc

said_read : (content : List ℕ → Option (List ℕ)) (hops : List Address) (n : ℕ) (name : List ℕ) (said : SaidMoves) → length hops ≤ most_hops → said_moves_at content hops n name ≡ Ok said → AreSaid said
unfolding said_moves_at
said_read content hops n name said few e = by_octets (text_octets content n name) e
  where
    by_said : (octets : List ℕ) (r : Result SaidMoves BadRow) → said_in hops octets ≡ r → lined_moves n r ≡ Ok said → AreSaid said
    by_said octets (Ok s) is e = subst AreSaid (same_got s said e) (moves_read hops octets s few is)
    by_said octets (Err bad) is e = absurd cc

    by_octets : (o : Result (List ℕ) TextStop) → (o >>= λ octets. lined_moves n (said_in hops octets)) ≡ Ok said → AreSaid said
    by_octets (Ok octets) e = by_said octets (said_in hops octets) refl e
    by_octets (Err stop) e = absurd cc

-- ---- what is due

-- the table and the routes that are asked for are of prefixes, with hops that aren't too many
pub record ArePrefixes (t : RouterTables) : Type 0 where
  pub table : AllByRecursion IsPrefix (keys_of t.table)
  pub routes : AllByRecursion IsPrefix (keys_of t.routes)
  pub few : length t.hops ≤ most_hops

asked_read : (content : List ℕ → Option (List ℕ)) (router printed : List ℕ) (t : RouterTables) → router_at content router printed ≡ Ok t → ArePrefixes t
unfolding router_at
asked_read content router printed t e = by_table (text_at content Least [] 1 router) refl e
  where
    by_routes : (table : KindEntries) (r : Result KindEntries TextStop) → AreRead table → text_at content Route table.hops 2 printed ≡ r → (r >>= λ routes. got (record { table = table.entries; routes = routes.entries; hops = routes.hops })) ≡ Ok t → ArePrefixes t
    by_routes table (Ok routes) a is e =
        let b = text_read content Route table.hops 2 printed routes a.few is in
        subst ArePrefixes (same_got (record { table = table.entries; routes = routes.entries; hops = routes.hops }) t e) (record { table = a.prefixes; routes = b.prefixes; few = b.few })
    by_routes table (Err stop) a is e = absurd cc

    by_table : (r : Result KindEntries TextStop) → text_at content Least [] 1 router ≡ r → (r >>= λ table. text_at content Route table.hops 2 printed >>= λ routes. got (record { table = table.entries; routes = routes.entries; hops = routes.hops })) ≡ Ok t → ArePrefixes t
    by_table (Ok table) is e = by_routes table (text_at content Route table.hops 2 printed) (text_read content Least [] 1 router table (omega arith) is) refl e
    by_table (Err stop) is e = absurd cc

reroutes : (steady : Bool) (t : RouterTables) → ArePrefixes t → Reroutes steady t
reroutes steady t a = record {
  shortest = shortest_both t.routes t.table a.routes a.table steady;
  v4 = own_proved V4 t.routes t.table a.table steady a.routes;
  v6 = own_proved V6 t.routes t.table a.table steady a.routes;
}

pub router_reroutes : (content : List ℕ → Option (List ℕ)) (router printed : List ℕ) (steady : Bool) → IfMoved (moved steady (router_at content router printed)) Reroutes
router_reroutes content router printed steady =
    all_texts (λ d. IfMoved d Reroutes) (Moved steady) (router_at content router printed) (λ t e. reroutes steady t (asked_read content router printed t e)) (λ p. tt) (λ stop. tt)

steadily : (steady : Bool) (t : RouterTables) → ArePrefixes t → ReroutesSteadily steady t
steadily true t a on = steadily_both t.routes t.table a.routes a.table
steadily false t a on = absurd cc

pub router_steadily : (content : List ℕ → Option (List ℕ)) (router printed : List ℕ) (steady : Bool) → IfMoved (moved steady (router_at content router printed)) ReroutesSteadily
router_steadily content router printed steady =
    all_texts (λ d. IfMoved d ReroutesSteadily) (Moved steady) (router_at content router printed) (λ t e. steadily steady t (asked_read content router printed t e)) (λ p. tt) (λ stop. tt)

-- ---- what is claimed

claim_read : (content : List ℕ → Option (List ℕ)) (router printed moves : List ℕ) (c : Claimed) → claimed_at content router printed moves ≡ Ok c → DecidesMoves c
unfolding claimed_at
claim_read content router printed moves c e = by_asked (router_at content router printed) refl e
  where
    by_said : (asked : RouterTables) (r : Result SaidMoves TextStop) → ArePrefixes asked → said_moves_at content asked.hops 3 moves ≡ r
        → (r >>= λ said. got (record { claim = record { table = asked.table; routes = asked.routes; changes = said.changes; rows = said.rows }; hops = said.hops })) ≡ Ok c → DecidesMoves c
    by_said asked (Ok said) a is e =
        let b = said_read content asked.hops 3 moves said a.few is in
        let claim : Claim = record { table = asked.table; routes = asked.routes; changes = said.changes; rows = said.rows } in
        subst DecidesMoves (same_got (record { claim = claim; hops = said.hops }) c e) (claim_law claim (record { table = a.table; routes = a.routes; changes = b.changes; rows = b.rows }))
    by_said asked (Err stop) a is e = absurd cc

    by_asked : (r : Result RouterTables TextStop) → router_at content router printed ≡ r
        → (r >>= λ asked. said_moves_at content asked.hops 3 moves >>= λ said. got (record { claim = record { table = asked.table; routes = asked.routes; changes = said.changes; rows = said.rows }; hops = said.hops })) ≡ Ok c → DecidesMoves c
    by_asked (Ok asked) is e = by_said asked (said_moves_at content asked.hops 3 moves) (asked_read content router printed asked is) refl e
    by_asked (Err stop) is e = absurd cc

pub claim_decides : (content : List ℕ → Option (List ℕ)) (router printed moves : List ℕ) → IfClaimed (claimed (claimed_at content router printed moves)) DecidesMoves
claim_decides content router printed moves =
    all_texts (λ d. IfClaimed d DecidesMoves) Claims (claimed_at content router printed moves) (λ c e. claim_read content router printed moves c e) (λ p. tt) (λ stop. tt)
