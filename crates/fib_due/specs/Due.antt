-- What a run and a check are to come to.
use Rattle.std.specs.Prelude.{Bool, true, false, ℕ, ◌+◌, List, [], ◌∷◌, ◌++◌, bytes_eq, codes, decimal, length, nat_lt, Option, Some, None, Result, Ok, Err, map, option_map, if◌then◌else◌}
use Rattle.octet_fields.specs.Field.{◌>>=◌}
use Rattle.table_model.specs.Address.{Address, Prefix}
use Rattle.table_model.specs.Entries.{Entries, match_in}
use Rattle.table_model.specs.Changes.{Change}
use Rattle.table_model.specs.Both.{aggregate_in_both}
use Rattle.cert_model.specs.Rows.{certificate_of}
use Rattle.route_model.specs.Events.{Elem, Event}
use Rattle.route_model.specs.Choice.{Candidates, PathAttrs, Place, after_elems, elems_after}
use Rattle.wire_model.specs.Input.{Progress, Stopped, input}
use Rattle.kept_model.specs.Feed.{hops_after, entries_of}
use Rattle.moves_model.specs.Moved.{table_of_run}
use Rattle.moves_model.specs.Reported.{moves_of_run, told_of_run}
use Rattle.poptrie_build.specs.Tries.{visits_of}
use Rattle.route_tries.specs.Sizes.{Sizes, needs_of, shortage}
use Rattle.route_tries.specs.declared.needs.FamilyNeeds.{FamilyNeeds}
use Rattle.made_input.specs.Files.{dump_octets, updates_octets}
use Rattle.fib_report.specs.Views.{Answer, Told}
use Rattle.fib_report.specs.Rows.{report_text, run_text}
use Rattle.fib_report.specs.declared.run.Report.{Report}
use Rattle.cert_model.specs.Verdict.{No, Twice}
use Rattle.fib_addr.specs.Text.{address_text}
use Rattle.printed_text.specs.Rows.{hop_text, line}
use Rattle.mrt_write.specs.Saved.{long_one, most_peers, peers_with_candidates, saved}
use Rattle.mrt_write.specs.Reads.{after_events}
use Rattle.fib_same.specs.Due.{Compared, TextDifference, answer_of, same_at}
use Rattle.fib_same.specs.Due as same
use Rattle.moves_model.specs.Claims.{WrongMoves, claim_verdict}
use Rattle.router_moves.specs.Due.{router_at, moves_for}
use Rattle.router_moves.specs.Due as router
use Rattle.router_moves.specs.Checked.{claimed_at}
use Rattle.router_moves.specs.Checked as claims
use Rattle.printed_text.specs.Used.{Used, printed_in}
use Rattle.printed_text.specs.Rows.{Announced, Vrp}
use Rattle.fib_rov.specs.Lines.{vrps_in}
use Rattle.fib_rov.specs.Rov.{invalid_in, left_of}
use Rattle.fib_words.specs.Commands.{Named, NamedCheckMoves, NamedMoves, NamedSame, NamedSave, NamedSteps, Asked, Run, Check, Make, Steps, Same, Save, Moves, CheckMoves, command_of}
use Rattle.fib_due.specs.declared.outcome.Outcome.TheVariants.{BadLine, PeersFull, TooLarge, Usage}
use Rattle.fib_due.specs.declared.outcome.MrtInput.{MrtInput}
use Rattle.fib_due.specs.declared.outcome.MrtInput.TheVariants.{Dump, Updates}
use Rattle.fib_due.specs.declared.outcome.Which.{Which}
use Rattle.fib_due.specs.declared.outcome.Which.TheVariants as all
use Rattle.fib_due.specs.Stops.{Stop, Refused, LongPath, Untold, told_content, sized, lined, lined_past, listed_vrps, rowed, scripted, records_due, unless_stopped, with_room}
use Rattle.fib_due.specs.Refusals.{Limits, routes_by, stop_at, too_much}
use Rattle.fib_due.specs.RouterRows.{router_text}
use Rattle.fib_io.specs.Pieces.{octets_read}
use Rattle.mrt_read.specs.Cuts.{is_small}
use Rattle.fib_due.specs.Asks.{asks_in, ended_asks_in}
use Rattle.fib_due.specs.Checks.{verdict_of, verdict_text}
use Rattle.fib_due.specs.MovesChecks.{claim_text}
use Rattle.step_script.specs.Script.{Step, script_in}
use Rattle.step_script.specs.Machine.{World}
use Rattle.router_steps.specs.Stepping.{Stepping, world_of}
use Rattle.fib_due.specs.Stepping.{events_at, events_of}

abbrev pub usage : Option Asked → Result Asked Stop
usage None = Err (Refused Usage)
usage (Some asked) = Ok asked

-- the octets of an input
unfoldable pub input_at : (List ℕ → Option (List ℕ)) → Which → List ℕ → Result (List ℕ) Stop
input_at content which name = do
  octets ← told_content (content name)
  sized which octets

-- The asks that an input's octets have, or the first line that is neither empty nor an address. Of an input of more than 2^36 octets only the first 2^36 are read: it is too large, unless a line that they have with its line feed is bad.
unfoldable pub asks_from : List ℕ → Result (List Address) Stop
asks_from octets = if is_small octets then lined all.Asks (asks_in octets) else lined_past all.Asks (ended_asks_in (octets_read octets))

-- the same of an input, if it is known
abbrev pub told_asks : Option (List ℕ) → Result (List Address) Stop
told_asks content = told_content content >>= asks_from

-- the addresses that are asked for, none if no asks are named
unfoldable pub asks_at : (List ℕ → Option (List ℕ)) → Option (List ℕ) → Result (List Address) Stop
asks_at content None = Ok []
asks_at content (Some name) = told_asks (content name)

-- the list of VRPs of this input, or its first line that is neither empty nor a VRP
unfoldable pub vrps_in_input : (List ℕ → Option (List ℕ)) → List ℕ → Result (List Vrp) Stop
vrps_in_input content name = do
  octets ← input_at content all.Vrps name
  listed_vrps (vrps_in octets)

-- the list of VRPs that announcements are judged by, empty if none is named
unfoldable pub vrps_at : (List ℕ → Option (List ℕ)) → Option (List ℕ) → Result (List Vrp) Stop
vrps_at content None = Ok []
vrps_at content (Some name) = vrps_in_input content name

-- ---- what an input of records brings

-- its elementary events, its announcements that are Invalid, each with the first VRP that covers it, how many records it has, how many of them were skipped, and how many messages were treated as withdrawals
pub record Feed : Type 0 where
  pub elems : List Elem
  pub invalid : List (Announced × Vrp)
  pub records : ℕ
  pub skipped : ℕ
  pub treated : ℕ

abbrev pub no_feed : Feed
no_feed = record { elems = []; invalid = []; records = 0; skipped = 0; treated = 0 }

-- what was read before the end or before the record that breaks a rule
abbrev pub read_part : Result Progress Stopped → Progress
read_part (Ok read) = read
read_part (Err stopped) = stopped.read

-- the elementary events of what was read, after earlier ones, with each announcement that is Invalid by a list of VRPs as its withdrawal (RFC 6811, 3)
abbrev pub elems_in : List Vrp → List Elem → Progress → List Elem
elems_in vrps before read = elems_after (after_elems [] before) (left_of vrps read.events)

abbrev pub feed_in : List Vrp → List Elem → Progress → Feed
feed_in vrps before read = record { elems = elems_in vrps before read; invalid = invalid_in vrps read.events; records = read.records; skipped = read.skipped; treated = read.treated }

-- What the octets of an input bring after earlier elementary events. Records are taken one by one: an event that isn't taken comes before a record after it that breaks a rule, and before the end of what is read.
unfoldable pub feed_of : Sizes → List Vrp → MrtInput → List Elem → List ℕ → Result Feed Stop
feed_of z vrps which before octets =
    unless_stopped which (stop_at (too_much which z) before (elems_in vrps before (read_part (input (octets_read octets)))))
    (records_due which octets >>= λ read. Ok (feed_in vrps before read))

-- nothing comes of an input that isn't named
unfoldable pub feed_at : Sizes → (List ℕ → Option (List ℕ)) → List Vrp → MrtInput → List Elem → Option (List ℕ) → Result Feed Stop
feed_at z content vrps which before None = Ok no_feed
feed_at z content vrps which before (Some name) = do
  octets ← told_content (content name)
  feed_of z vrps which before octets

-- what a dump brings, if the tries of its routes have room at its end
unfoldable pub load_at : Sizes → (List ℕ → Option (List ℕ)) → List Vrp → List ℕ → Result Feed Stop
load_at z content vrps name = do
  load ← feed_at z content vrps Dump [] (Some name)
  with_room (shortage z (routes_by load.elems)) load

-- ---- what a run in steps stands on

-- the steps of the script of this name, or the script's refusal
unfoldable pub script_at : (List ℕ → Option (List ℕ)) → List ℕ → Result (List Step) Stop
script_at content name = do
  octets ← input_at content all.Script name
  scripted (script_in octets)

-- the sizes of its tries
abbrev pub steps_sizes : NamedSteps → Sizes
steps_sizes named = record { direct = named.direct; nodes = named.nodes; leaves = named.leaves }

-- The world of the dump's elementary events and of those of the updates, which are all read before the first step; no announcement is judged. The tries of the dump's
-- routes need room before the updates are read.
unfoldable pub world_at : (List ℕ → Option (List ℕ)) → NamedSteps → Result World Stop
world_at content named = do
  load ← load_at (steps_sizes named) content [] named.dump
  events ← events_at content named.updates
  Ok (world_of (steps_sizes named) load.elems events)

-- the world, with these steps to make in it
abbrev pub with_world : List Step → Result World Stop → Result Stepping Stop
with_world script world = world >>= λ w. Ok (record { script = script; world = w })

-- what a run in steps is to make in which world, or the first refusal: of the script, the dump, the updates
unfoldable pub stepping_at : (List ℕ → Option (List ℕ)) → NamedSteps → Result Stepping Stop
stepping_at content named = do
  script ← script_at content named.script
  with_world script (world_at content named)

-- ---- what is reported

-- each address with its answer, which is longest match among the routes, and with how many of its regions of s, s + 6, s + 12, .. bits hold two different answers
abbrev pub answers_to : ℕ → Entries → List Address → List Answer
answers_to s routes asks = map (λ a. record { addr = a; hop = match_in routes a; visits = visits_of s routes a }) asks

-- of both families' tries, the places that nodes need, and those that leaves need
abbrev pub all_nodes : FamilyNeeds → ℕ
all_nodes n = n.v4.nodes + n.v6.nodes

abbrev pub all_leaves : FamilyNeeds → ℕ
all_leaves n = n.v4.leaves + n.v6.leaves

abbrev pub counts : Feed → Feed → Entries → Entries → FamilyNeeds → Report
counts load updates routes kept needs = record {
  records = load.records + updates.records;
  skipped = load.skipped + updates.skipped;
  events = length load.elems + length updates.elems;
  routes = length routes;
  entries = length kept;
  nodes = all_nodes needs;
  leaves = all_leaves needs;
  treated = load.treated + updates.treated;
}

-- the kept table after the last event, with these numbers of hops, the fewest changes at each event if they are asked for, and a snapshot after every n elementary events of the updates; 0 is never
abbrev pub kept_of : Bool → ℕ → List Address → List Elem → List Elem → Entries
kept_of fewest every hops load updates = table_of_run fewest every hops (after_elems [] load) updates

-- its changes as they are written, in steady order or in that of prefixes: those of the load, event 0, and those of each elementary event of the updates
abbrev pub run_changes : Bool → Bool → ℕ → List Address → List Elem → List Elem → List (ℕ × Change)
run_changes fewest steady every hops load updates = told_of_run fewest steady every hops (after_elems [] load) updates

-- the number of each elementary event of the updates that changes a chosen hop, with that of the changes it needs before a snapshot; written if the fewest changes are asked for
abbrev pub run_moves : Bool → ℕ → List Address → List Elem → List Elem → List (ℕ × ℕ)
run_moves false every hops load updates = []
run_moves true every hops load updates = moves_of_run true every hops (after_elems [] load) updates

-- of these routes, and of a kept table, its changes and how many each event needs, with n direct bits: the routes, the announcements that are Invalid, the changes, how many each event needs, each address with its answer, the table, the aggregate of the routes with the kept table as the old one, the certificate that it is least, and the counts
abbrev pub run_of : ℕ → Entries → Entries → List (ℕ × Change) → List (ℕ × ℕ) → List Address → Feed → Feed → Told
run_of s routes kept changes moves asks load updates = record {
  routes = routes;
  invalid = load.invalid ++ updates.invalid;
  changes = changes;
  moves = moves;
  answers = answers_to s routes asks;
  table = kept;
  least = aggregate_in_both routes kept;
  cert = certificate_of routes;
  report = counts load updates routes kept (needs_of s routes);
}

-- what is to be printed: the rows, and the hops that their numbers stand for; and what they come from: the elementary events of the load and of the updates, how many of these each snapshot follows, whether each event makes the fewest changes, whether changes come in steady order, and how large tries are
pub record Printed : Type 0 where
  pub told : Told
  pub hops : List Address
  pub limits : Limits
  pub load : List Elem
  pub updates : List Elem

-- the numbers are those after all elementary events
abbrev pub printed_by : List Address → Limits → Feed → Feed → List Address → Printed
printed_by hops limits load updates asks = record {
  told = run_of limits.sizes.direct (entries_of hops (after_elems [] (load.elems ++ updates.elems))) (kept_of limits.fewest limits.every hops load.elems updates.elems) (run_changes limits.fewest limits.steady limits.every hops load.elems updates.elems) (run_moves limits.fewest limits.every hops load.elems updates.elems) asks load updates;
  hops = hops;
  limits = limits;
  load = load.elems;
  updates = updates.elems;
}

abbrev pub printed : Limits → Feed → Feed → List Address → Printed
printed limits load updates asks = printed_by (hops_after [] (load.elems ++ updates.elems)) limits load updates asks

-- as many events to a snapshot, as few changes, changes in such an order, and tries as large, as are asked for
abbrev pub sizes_of : Named → Sizes
sizes_of named = record { direct = named.direct; nodes = named.nodes; leaves = named.leaves }

abbrev pub limits_of : Named → Limits
limits_of named = record { every = named.every; fewest = named.fewest; steady = named.steady; sizes = sizes_of named }

-- what the dump and the updates that are named bring: the tries of the dump's routes need room before the updates are read
unfoldable pub feeds_at : (List ℕ → Option (List ℕ)) → List Vrp → Named → Result (Feed × Feed) Stop
feeds_at content vrps named = do
  load ← load_at (sizes_of named) content vrps named.dump
  updates ← feed_at (sizes_of named) content vrps Updates load.elems named.updates
  Ok (load, updates)

-- of these, judged by this list of VRPs, with these asks
unfoldable pub told_at : (List ℕ → Option (List ℕ)) → List Vrp → Named → List Address → Result Printed Stop
told_at content vrps named asks = do
  feeds ← feeds_at content vrps named
  Ok (printed (limits_of named) feeds.0 feeds.1 asks)

-- what is to be printed of a run, or the first refusal: of the asks, the list of VRPs, the dump, the updates
unfoldable pub run_at : (List ℕ → Option (List ℕ)) → Named → Result Printed Stop
run_at content named = do
  asks ← asks_at content named.asks
  vrps ← vrps_at content named.vrps
  told_at content vrps named asks

-- the text of a run's rows
abbrev pub printed_text : Printed → List ℕ
printed_text p = run_text p.hops p.told

abbrev pub with_text : Result Printed Stop → Result (List ℕ) Stop
with_text printed = printed >>= λ p. Ok (printed_text p)

-- the rows of its counts alone
abbrev pub with_counts : Result Printed Stop → Result (List ℕ) Stop
with_counts printed = printed >>= λ p. Ok (report_text p.told.report)

-- what a check uses of the printed text of this name, or the text's refusal
unfoldable pub used_at : (List ℕ → Option (List ℕ)) → List ℕ → Result Used Stop
used_at content name = do
  octets ← input_at content all.Printed name
  rowed (printed_in octets)

-- the inputs that are made: n routes and half as many updates, drawn from a seed
abbrev pub made_content : ℕ → ℕ → List ℕ → Option (List ℕ)
made_content routes seed name =
    if bytes_eq (codes "dump") name then Some (dump_octets seed routes)
    else if bytes_eq (codes "updates") name then Some (updates_octets seed routes)
    else None

-- what the main job is asked to do with them
abbrev pub made_named : Named
made_named = record { dump = codes "dump"; updates = Some (codes "updates"); asks = None; vrps = None; every = 1000; fewest = false; steady = false; direct = 16; nodes = 20; leaves = 22 }

-- what it comes to
unfoldable pub made_at : ℕ → ℕ → Result Printed Stop
made_at routes seed = told_at (made_content routes seed) [] made_named []

-- What is to be printed: the rows of a run, the verdict on what a printed text has, the counts alone of a run on inputs that are made, what comparing texts comes to, a prefix that stands twice in one of them, the checkpoint of what was said, what a router must change to forward as routes do, in steady order or in that of prefixes, or the verdict on what it was told to change.
pub data Output : Type 0 where
  Ran : Printed → Output
  Checked : Used → Output
  Made : Printed → Output
  Alike : Compared → Output
  Repeats : Prefix → Output
  Saved : List Event → Output
  Moved : Bool → router.RouterTables → Output
  Claimed : claims.Claimed → Output

abbrev pub ran : Result Printed Stop → Result Output Stop
ran printed = printed >>= λ p. Ok (Ran p)

abbrev pub checked : Result Used Stop → Result Output Stop
checked used = used >>= λ u. Ok (Checked u)

abbrev pub made : Result Printed Stop → Result Output Stop
made printed = printed >>= λ p. Ok (Made p)

-- A run in steps may print any run of its machine, so its inputs alone don't determine its text. They do determine what is
-- refused.
abbrev pub stepped : Result Stepping Stop → Result Output Stop
stepped stepping = stepping >>= λ s. Err Untold

-- ---- texts that are compared

-- What is to be printed of what texts hold. A text that can't be read is refused, and one in which a prefix stands twice has the verdict of a check on it.
abbrev pub of_texts : {X : Type 0} → (X → Output) → Result X same.TextStop → Result Output Stop
of_texts output (Ok x) = Ok (output x)
of_texts output (Err same.Untold) = Err Untold
of_texts output (Err (same.Refused (same.TooLarge n))) = Err (Refused (TooLarge (all.Text n)))
of_texts output (Err (same.Refused (same.BadLine n line why))) = Err (Refused (BadLine (all.Text n) line why))
of_texts output (Err (same.Refused (same.Twice n p))) = Ok (Repeats p)

-- what comparing texts comes to
abbrev pub compared : Result Compared same.TextStop → Result Output Stop
compared texts = of_texts Alike texts

-- the texts of these names, with their rows of this kind
abbrev pub compared_at : (List ℕ → Option (List ℕ)) → NamedSame → Result Output Stop
compared_at content named = compared (same_at content named.rows named.first named.rest)

-- what a router must change whose table is the one text's, to forward as the routes of the other
abbrev pub moved : Bool → Result router.RouterTables same.TextStop → Result Output Stop
moved steady texts = of_texts (Moved steady) texts

abbrev pub moved_at : (List ℕ → Option (List ℕ)) → NamedMoves → Result Output Stop
moved_at content named = moved named.steady (router_at content named.router named.printed)

-- what it was told to change by a third text, and whether no fewer changes would do
abbrev pub claimed : Result claims.Claimed same.TextStop → Result Output Stop
claimed texts = of_texts Claimed texts

abbrev pub claims_at : (List ℕ → Option (List ℕ)) → NamedCheckMoves → Result Output Stop
claims_at content named = claimed (claimed_at content named.router named.printed named.moves)

-- ---- a checkpoint

-- the events of the updates, none if none are named
unfoldable pub later_at : (List ℕ → Option (List ℕ)) → Option (List ℕ) → Result (List Event) Stop
later_at content None = Ok []
later_at content (Some name) = events_of Updates content name

-- all events that the dump says, and then the updates
unfoldable pub said_at : (List ℕ → Option (List ℕ)) → NamedSave → Result (List Event) Stop
said_at content named = do
  load ← events_of Dump content named.dump
  later ← later_at content named.updates
  Ok (load ++ later)

-- unless the path of a candidate is too long
abbrev pub unless_long : List Event → Option (Place × PathAttrs) → Result Output Stop
unless_long said None = Ok (Saved said)
unless_long said (Some c) = Err (LongPath c.0.prefix c.1.path)

-- the checkpoint of these candidates, which are those of what was said, unless too many peers have one or a path is too long
abbrev pub saved_with : List Event → Candidates → Result Output Stop
saved_with said held = if nat_lt most_peers (length (peers_with_candidates held)) then Err (Refused (PeersFull (length (peers_with_candidates held)))) else unless_long said (long_one held)

abbrev pub saved_of : List Event → Result Output Stop
saved_of said = saved_with said (after_events [] said)

unfoldable pub saved_at : (List ℕ → Option (List ℕ)) → NamedSave → Result Output Stop
saved_at content named = said_at content named >>= saved_of

-- ---- of all commands

-- of a run, of a check, of a run on made inputs, of a run in steps, of texts, of a checkpoint, of a router's table, or of what it was told to change
unfoldable pub output_at : (List ℕ → Option (List ℕ)) → Asked → Result Output Stop
output_at content (Run named) = ran (run_at content named)
output_at content (Check name) = checked (used_at content name)
output_at content (Make routes seed) = made (made_at routes seed)
output_at content (Steps named) = stepped (stepping_at content named)
output_at content (Same named) = compared_at content named
output_at content (Save named) = saved_at content named
output_at content (Moves named) = moved_at content named
output_at content (CheckMoves named) = claims_at content named

-- What is to be printed, or the first refusal: of the words, and then of the inputs that they name.
unfoldable pub due : List (List ℕ) → (List ℕ → Option (List ℕ)) → Result Output Stop
due words content = do
  asked ← usage (command_of words)
  output_at content asked

-- what is wrong: with a printed text, between two of them, or with what a router was told to change
pub data Wrong : Type 0 where
  Refuted : No → Wrong
  Differs : TextDifference → Wrong
  MovesRefuted : WrongMoves → Wrong

-- what a check or a comparison finds wrong; all else finds nothing wrong
abbrev pub wrong_in : Output → Option Wrong
wrong_in (Ran p) = None
wrong_in (Checked used) = option_map Refuted (verdict_of used)
wrong_in (Made p) = None
wrong_in (Alike texts) = option_map Differs (answer_of texts)
wrong_in (Repeats p) = Some (Refuted (Twice p))
wrong_in (Saved said) = None
wrong_in (Moved steady t) = None
wrong_in (Claimed c) = option_map MovesRefuted (claim_verdict c.claim)

-- `alike`, or `differ,TEXT,ADDRESS,FIRST,OTHER`: where a text differs from the first, and the address's hops from both
abbrev pub answer_text : Option TextDifference → List ℕ
answer_text None = line (codes "alike" ∷ [])
answer_text (Some d) = line (codes "differ" ∷ decimal d.text ∷ address_text d.addr ∷ hop_text (codes "none") d.first ∷ hop_text (codes "none") d.other ∷ [])

-- the text of the rows
abbrev pub output_text : Output → List ℕ
output_text (Ran p) = printed_text p
output_text (Checked used) = verdict_text used.hops (verdict_of used)
output_text (Made p) = report_text p.told.report
output_text (Alike texts) = answer_text (answer_of texts)
output_text (Repeats p) = verdict_text [] (Some (Twice p))
output_text (Saved said) = saved (after_events [] said)
output_text (Moved steady t) = router_text (moves_for steady t)
output_text (Claimed c) = claim_text c.hops (claim_verdict c.claim)

-- a text, and what is wrong if it says so
pub record Reply : Type 0 where
  pub text : List ℕ
  pub wrong : Option Wrong

abbrev pub reply_of : Output → Reply
reply_of output = record { text = output_text output; wrong = wrong_in output }

abbrev pub with_reply : Result Output Stop → Result Reply Stop
with_reply output = output >>= λ o. Ok (reply_of o)

-- the text that is due, and what is wrong
unfoldable pub reply_at : List (List ℕ) → (List ℕ → Option (List ℕ)) → Result Reply Stop
reply_at words content = with_reply (due words content)
