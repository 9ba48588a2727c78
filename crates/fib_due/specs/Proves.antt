-- What a check's yes says, and the text of a run, to which a check says yes.
use Rattle.std.specs.Prelude.{◌≡◌, ◌↔◌, Bool, true, ℕ, List, [], ◌∷◌, Option, Some, None, Result, Ok, Err}
use Rattle.fib_io.specs.Octets.{Adds, AddsSome}
use Rattle.table_model.specs.Both.{LeastInBoth}
use Rattle.cert_model.specs.Right.{IsCertificate}
use Rattle.printed_text.specs.Used.{Used, printed_in}
use Rattle.table_model.specs.Entries.{AlikeInBoth}
use Rattle.route_model.specs.Events.{Event}
use Rattle.fib_same.specs.Texts.{ComparesTo, EveryTwo, least_difference}
use Rattle.mrt_write.specs.Saved.{saved}
use Rattle.fib_same.specs.Due.{Compared, answer_of}
use Rattle.mrt_write.specs.Reads.{after_events}
use Rattle.table_model.specs.declared.family.Family.{Family}
use Rattle.table_model.specs.declared.family.Family.TheVariants.{V4, V6}
use Rattle.table_model.specs.Entries.{in_order}
use Rattle.table_model.specs.Changes.{Change}
use Rattle.moves_model.specs.Shortest.{AreProvedShortest}
use Rattle.kept_model.specs.Steady.{AnswerSteadily}
use Rattle.moves_model.specs.Both.{AreShortestInBoth, family_changes, family_table, proving_rows, told_in}
use Rattle.moves_model.specs.Claims.{IsProved, claim_verdict}
use Rattle.router_moves.specs.Due.{moves_for}
use Rattle.router_moves.specs.Due as router
use Rattle.router_moves.specs.Checked as claims
use Rattle.fib_save.specs.Restores.{Restores}
use Rattle.fib_words.specs.Commands.{Asked, Run, Check, Make, Steps, Same, Save, Moves, CheckMoves}
use Rattle.fib_due.specs.Stops.{Stop}
use Rattle.fib_due.specs.Checks.{verdict_of}
use Rattle.fib_due.specs.Owned.{IsSave}
use Rattle.fib_due.specs.Due.{Output, Ran, Checked, Made, Alike, Repeats, Saved, Moved, Claimed, Printed, printed_text}

-- nothing is wrong exactly if the rows are a certificate that the least table is least for the routes
abbrev pub Decides : Used → Type 0
Decides used = (verdict_of used ≡ None) ↔ IsCertificate used.routes used.least used.cert

-- if nothing is wrong, the least table sends every address where the routes send it, and in either family no table that does so has fewer entries
abbrev pub YesProves : Used → Type 0
YesProves used = verdict_of used ≡ None → LeastInBoth used.routes used.least

-- this holds of what is used of a text, if a check is due
abbrev pub IfChecked : Result Output Stop → (Used → Type 0) → Type 0
IfChecked (Ok (Ran p)) P = Unit {0}
IfChecked (Ok (Checked used)) P = P used
IfChecked (Ok (Made p)) P = Unit {0}
IfChecked (Ok (Alike texts)) P = Unit {0}
IfChecked (Ok (Repeats p)) P = Unit {0}
IfChecked (Ok (Saved said)) P = Unit {0}
IfChecked (Ok (Moved steady t)) P = Unit {0}
IfChecked (Ok (Claimed c)) P = Unit {0}
IfChecked (Err stop) P = Unit {0}

-- The text, if it isn't too large for an input, is one that a check says yes to: each of its lines is a printed row, the rows have a certificate that proves their least table least for their routes, and so nothing is wrong with them.
pub record ChecksYes (text : List ℕ) : Type 0 where
  pub used : Used
  pub read : printed_in text ≡ Ok used
  pub certified : IsCertificate used.routes used.least used.cert
  pub yes : verdict_of used ≡ None

-- so is the text of what is printed
abbrev pub PrintsYes : Printed → Type 0
PrintsYes p = ChecksYes (printed_text p)

-- if a run is due, this holds of what is to be printed
abbrev pub IfRan : Result Output Stop → (Printed → Type 0) → Type 0
IfRan (Ok (Ran p)) P = P p
IfRan (Ok (Checked used)) P = Unit {0}
IfRan (Ok (Made p)) P = Unit {0}
IfRan (Ok (Alike texts)) P = Unit {0}
IfRan (Ok (Repeats p)) P = Unit {0}
IfRan (Ok (Saved said)) P = Unit {0}
IfRan (Ok (Moved steady t)) P = Unit {0}
IfRan (Ok (Claimed c)) P = Unit {0}
IfRan (Err stop) P = Unit {0}

-- the words are those of a run
abbrev pub IsRun : Option Asked → Type 0
IsRun (Some (Run named)) = Unit {0}
IsRun (Some (Check name)) = ⊥
IsRun (Some (Make routes seed)) = ⊥
IsRun (Some (Steps named)) = ⊥
IsRun (Some (Same named)) = ⊥
IsRun (Some (Save named)) = ⊥
IsRun (Some (Moves named)) = ⊥
IsRun (Some (CheckMoves named)) = ⊥
IsRun None = ⊥

-- a text that a check says yes to was added, if out says it
abbrev pub AddsYes : Option (List ℕ) → Option (List ℕ) → Type 0
AddsYes old new = (text : List ℕ) × Adds old new text × ChecksYes text

-- the first n octets of such a text were added
abbrev pub AddsFrontOfYes : Option (List ℕ) → Option (List ℕ) → Type 0
AddsFrontOfYes old new = (text : List ℕ) × AddsSome old new text × ChecksYes text

-- ---- texts that are compared

-- this holds of texts, if they are compared
abbrev pub IfCompared : Result Output Stop → (Compared → Type 0) → Type 0
IfCompared (Ok (Alike texts)) P = P texts
IfCompared (Ok (Ran p)) P = Unit {0}
IfCompared (Ok (Checked used)) P = Unit {0}
IfCompared (Ok (Made p)) P = Unit {0}
IfCompared (Ok (Repeats p)) P = Unit {0}
IfCompared (Ok (Saved said)) P = Unit {0}
IfCompared (Ok (Moved steady t)) P = Unit {0}
IfCompared (Ok (Claimed c)) P = Unit {0}
IfCompared (Err stop) P = Unit {0}

-- The answer is what comparing the tables comes to: none differs from the first, or the least address at which one does and the first that does there. If none differs, every two tables send every address to the same hop.
pub record Compares (texts : Compared) : Type 0 where
  pub found : ComparesTo texts.first texts.others (least_difference texts.first texts.others)
  pub alike : answer_of texts ≡ None → EveryTwo AlikeInBoth (texts.first ∷ texts.others)

-- ---- what a router must change

-- this holds of a router's table and routes, and of whether changes come in steady order, if it is due what the router must change
abbrev pub IfMoved : Result Output Stop → (Bool → router.RouterTables → Type 0) → Type 0
IfMoved (Ok (Moved steady t)) P = P steady t
IfMoved (Ok (Ran p)) P = Unit {0}
IfMoved (Ok (Checked used)) P = Unit {0}
IfMoved (Ok (Made p)) P = Unit {0}
IfMoved (Ok (Alike texts)) P = Unit {0}
IfMoved (Ok (Repeats p)) P = Unit {0}
IfMoved (Ok (Saved said)) P = Unit {0}
IfMoved (Ok (Claimed c)) P = Unit {0}
IfMoved (Err stop) P = Unit {0}

-- a family's changes, as they are written
abbrev pub told_family_changes : Bool → Family → router.RouterTables → List Change
told_family_changes steady f t = told_in steady (family_changes f t.routes t.table)

-- The changes are possible one after another, and make the router's table one that sends every address where the routes send it; no table that does differs from the router's at fewer prefixes, whatever its prefixes and hops. In each family the rows prove it, to whoever trusts the rules of rows alone.
pub record Reroutes (steady : Bool) (t : router.RouterTables) : Type 0 where
  pub shortest : AreShortestInBoth (in_order t.routes) (in_order t.table) (moves_for steady t).changes
  pub v4 : AreProvedShortest V4 (family_table V4 t.routes) (family_table V4 t.table) (told_family_changes steady V4 t) (proving_rows V4 t.routes t.table)
  pub v6 : AreProvedShortest V6 (family_table V6 t.routes) (family_table V6 t.table) (told_family_changes steady V6 t) (proving_rows V6 t.routes t.table)

-- If the changes come in steady order: while the router makes them one by one, it sends each address where its table sends it or where the routes do, and never back.
abbrev pub ReroutesSteadily : Bool → router.RouterTables → Type 0
ReroutesSteadily steady t = steady ≡ true → AnswerSteadily (moves_for steady t).changes (in_order t.table) (in_order t.table) (in_order t.routes)

-- ---- what a router was told to change

-- this holds of what is claimed of a router's table and routes, if a check of it is due
abbrev pub IfClaimed : Result Output Stop → (claims.Claimed → Type 0) → Type 0
IfClaimed (Ok (Claimed c)) P = P c
IfClaimed (Ok (Ran p)) P = Unit {0}
IfClaimed (Ok (Checked used)) P = Unit {0}
IfClaimed (Ok (Made p)) P = Unit {0}
IfClaimed (Ok (Alike texts)) P = Unit {0}
IfClaimed (Ok (Repeats p)) P = Unit {0}
IfClaimed (Ok (Saved said)) P = Unit {0}
IfClaimed (Ok (Moved steady t)) P = Unit {0}
IfClaimed (Err stop) P = Unit {0}

-- Nothing is wrong exactly if the changes, IPv4's before IPv6's, make the router's table one that sends every address where the routes send it, no fewer do, and in each family its rows prove it, to whoever trusts the rules of rows alone.
abbrev pub DecidesMoves : claims.Claimed → Type 0
DecidesMoves c = (claim_verdict c.claim ≡ None) ↔ IsProved c.claim

-- ---- checkpoints

-- this holds of what was said, if it is saved
abbrev pub IfSaved : Result Output Stop → (List Event → Type 0) → Type 0
IfSaved (Ok (Saved said)) P = P said
IfSaved (Ok (Ran p)) P = Unit {0}
IfSaved (Ok (Checked used)) P = Unit {0}
IfSaved (Ok (Made p)) P = Unit {0}
IfSaved (Ok (Alike texts)) P = Unit {0}
IfSaved (Ok (Repeats p)) P = Unit {0}
IfSaved (Ok (Moved steady t)) P = Unit {0}
IfSaved (Ok (Claimed c)) P = Unit {0}
IfSaved (Err stop) P = Unit {0}

-- the words are those of a checkpoint
abbrev pub IsSaving : Option Asked → Type 0
IsSaving (Some asked) = IsSave asked
IsSaving None = ⊥

-- the octets are the checkpoint of what some events bring, and restore it
pub record IsCheckpoint (octets : List ℕ) : Type 0 where
  pub said : List Event
  pub are : octets ≡ saved (after_events [] said)
  pub restores : Restores said

-- such octets were added, if out says it
abbrev pub AddsCheckpoint : Option (List ℕ) → Option (List ℕ) → Type 0
AddsCheckpoint old new = (octets : List ℕ) × Adds old new octets × IsCheckpoint octets
