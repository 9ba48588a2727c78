-- Replies: of a run its text, and of a check the verdict, whose yes proves the table least.
use Rattle.std.proofs.Common.{◌≡◌, ℕ, Bool, true, false, cond, List, [], length, Option, Some, None, Result, Ok, Err, refl, ap, subst}
use Rattle.std.specs.List.{AllByRecursion}
use Rattle.octet_fields.specs.Field.{◌>>=◌}
use Rattle.cert_model.proofs.Rules.{soundness_law}
use Rattle.cert_model.proofs.Verdicts.{verdict_is, verdict_law}
use Rattle.cert_model.specs.Verdict.{RowFits}
use Rattle.printed_text.specs.Texts.{BadLine as BadRow}
use Rattle.printed_text.specs.Used.{Used, printed_in}
use Rattle.fib_words.specs.Commands.{Named, NamedCheckMoves, NamedMoves, NamedSave, Asked, Run, Check, Make, Steps, Same, Save, Moves, CheckMoves, command_of}
use Rattle.fib_due.specs.declared.outcome.Which.TheVariants as which
use Rattle.fib_due.specs.declared.outcome.Outcome.{Outcome}
use Rattle.fib_due.specs.Stops.{Stop, Untold, Refused, LongPath, rowed, FailsDue, IsDueIfTold}
use Rattle.std.specs.Prelude.{OnOk, nat_lt, option_map}
use Rattle.route_model.specs.Events.{Event}
use Rattle.route_model.specs.Choice.{PathAttrs, Place}
use Rattle.mrt_write.specs.Saved.{long_one, most_peers, peers_with_candidates}
use Rattle.fib_same.specs.Texts.{ComparesTo, Difference, least_difference}
use Rattle.fib_same.proofs.Found.{all_found}
use Rattle.fib_same.proofs.Told.{all_alike}
use Rattle.mrt_write.specs.Reads.{after_events}
use Rattle.fib_save.specs.Restores.{Restores}
use Rattle.fib_same.specs.Due.{Compared, same_at, told_difference}
use Rattle.fib_same.specs.Due as same
use Rattle.router_moves.specs.Due.{router_at}
use Rattle.router_moves.specs.Due as router
use Rattle.router_moves.specs.Checked.{claimed_at}
use Rattle.router_moves.specs.Checked as claims
use Rattle.fib_due.specs.declared.outcome.Outcome.TheVariants.{PeersFull}
use Rattle.fib_due.specs.Due.{Alike, Checked, Claimed, Made, Moved, Output, Printed, Ran, Reply, claimed, compared, moved, said_at, saved_at, saved_of, unless_long, stepping_at, ran, checked, due, made_at, input_at, output_at, run_at, usage, used_at, printed_text, with_text, with_reply}
use Rattle.fib_due.specs.Proves.{Compares, IfChecked, IfCompared, IfRan, IfSaved, Decides, PrintsYes, YesProves, IfClaimed, IfMoved, Reroutes, ReroutesSteadily, DecidesMoves}
use Rattle.fib_due.proofs.Due.{fails_by, retyped}
use Rattle.fib_due.proofs.Outputs.{Due, IsSavedOnly, all_of, all_saved, all_steps, all_texts}
use Rattle.fib_due.proofs.Fitting.{read_fits}
use Rattle.fib_due.proofs.Rerouting.{claim_decides, router_reroutes, router_steadily}

-- ---- what a run replies

-- the text of a run, where nothing is wrong
abbrev plain : List ℕ → Reply
plain text = record { text = text; wrong = None }

abbrev fine : {A : Type 0} → A → Result A Stop
fine x = Ok x

same_fine : {A : Type 0} (x y : A) → fine x ≡ fine y → x ≡ y
same_fine x y e = cc

pub ran_replied : (content : List ℕ → Option (List ℕ)) (named : Named) (asked : Asked) (text : List ℕ) (reply : Reply) → asked ≡ Run named → reply ≡ record { text = text; wrong = None } → IsDueIfTold (with_text (run_at content named)) (Ok text) → IsDueIfTold (with_reply (output_at content asked)) (Ok reply)
unfolding output_at
ran_replied content named asked text reply a r i = rw (a, r) (by_run (run_at content named) i)
  where
    by_run : (d : Result Printed Stop) → IsDueIfTold (with_text d) (fine text) → IsDueIfTold (with_reply (ran d)) (fine (plain text))
    by_run (Ok p) i = ap (λ t. fine (plain t)) (same_fine (printed_text p) text i)
    by_run (Err Untold) i = tt
    by_run (Err (Refused o)) i = absurd cc
    by_run (Err (LongPath p n)) i = absurd cc

-- a view of what is printed
abbrev viewed : {A : Type 0} → (Printed → A) → Result Printed Stop → Result A Stop
viewed view d = d >>= λ p. Ok (view p)

-- a refusal of a view is one of whatever keeps the stops of what is viewed
refused_alike : {A B : Type 0} (view : Printed → A) (h : Result Printed Stop → Result B Stop) → ((stop : Stop) → h (Err stop) ≡ Err stop) → (d : Result Printed Stop) (o : Outcome) → FailsDue o (viewed view d) → FailsDue o (h d)
refused_alike {A = A} {B = B} view h s d o f = fails_by (viewed view d) (h d) (is_first d) o f
  where
    is_first : (d : Result Printed Stop) (other : Stop) → IsDueIfTold (viewed view d) (Err other) → IsDueIfTold (h d) (Err other)
    is_first (Ok p) other i = absurd cc
    is_first (Err stop) other i = rw (s stop) (retyped A B stop other i)

-- a refusal of its text is one of what is to be replied
pub ran_refused : (d : Result Printed Stop) (o : Outcome) → FailsDue o (with_text d) → FailsDue o (with_reply (ran d))
ran_refused d o f = refused_alike printed_text (λ d. with_reply (ran d)) (λ stop. refl) d o f

pub ran_stops : (content : List ℕ → Option (List ℕ)) (named : Named) (asked : Asked) (o : Outcome) → asked ≡ Run named → FailsDue o (with_text (run_at content named)) → FailsDue o (with_reply (output_at content asked))
unfolding output_at
ran_stops content named asked o a f = rw a (ran_refused (run_at content named) o f)

-- ---- a checkpoint alone comes of one

long_only : (said : List Event) (c : Option (Place × PathAttrs)) → IsSavedOnly (unless_long said c)
long_only said None = tt
long_only said (Some c) = tt

full_only : (b : Bool) (n : ℕ) (d : Result Output Stop) → IsSavedOnly d → IsSavedOnly (cond b (Err (Refused (PeersFull n))) d)
full_only true n d s = tt
full_only false n d s = s

said_only : (d : Result (List Event) Stop) → IsSavedOnly (d >>= saved_of)
said_only (Ok said) = full_only (nat_lt most_peers (length (peers_with_candidates (after_events [] said)))) (length (peers_with_candidates (after_events [] said))) (unless_long said (long_one (after_events [] said))) (long_only said (long_one (after_events [] said)))
said_only (Err stop) = tt

pub saved_only : (content : List ℕ → Option (List ℕ)) (named : NamedSave) → IsSavedOnly (saved_at content named)
unfolding saved_at
saved_only content named = said_only (said_at content named)

-- ---- what holds of each text that is checked

-- a property of what is used of each text whose rows are of prefixes
abbrev pub OfEachText : (Used → Type 0) → Type 0
OfEachText P = (used : Used) → AllByRecursion RowFits used.cert → P used

text_checked : (P : Used → Type 0) → OfEachText P → (text : List ℕ) (r : Result Used BadRow) → printed_in text ≡ r → IfChecked (checked (rowed r)) P
text_checked P each text (Ok used) e = each used (read_fits text used e)
text_checked P each text (Err bad) e = tt

name_checked : (P : Used → Type 0) → OfEachText P → (content : List ℕ → Option (List ℕ)) (name : List ℕ) → IfChecked (checked (used_at content name)) P
unfolding used_at
name_checked P each content name = by_octets (input_at content which.Printed name)
  where
    by_octets : (r : Result (List ℕ) Stop) → IfChecked (checked (r >>= λ octets. rowed (printed_in octets))) P
    by_octets (Ok octets) = text_checked P each octets (printed_in octets) refl
    by_octets (Err stop) = tt

words_checked : (P : Used → Type 0) → OfEachText P → (content : List ℕ → Option (List ℕ)) (o : Option Asked) → IfChecked (usage o >>= output_at content) P
unfolding output_at
words_checked P each content None = tt
words_checked P each content (Some (Run named)) = all_of (λ d. IfChecked d P) Ran (λ p. tt) (λ stop. tt) (run_at content named)
words_checked P each content (Some (Check name)) = name_checked P each content name
words_checked P each content (Some (Make routes seed)) = all_of (λ d. IfChecked d P) Made (λ p. tt) (λ stop. tt) (made_at routes seed)
words_checked P each content (Some (Steps named)) = all_steps (λ d. IfChecked d P) (λ stop. tt) (stepping_at content named)
words_checked P each content (Some (Same named)) = all_texts (λ d. IfChecked d P) Alike (same_at content named.rows named.first named.rest) (λ x e. tt) (λ p. tt) (λ stop. tt)
words_checked P each content (Some (Moves named)) = all_texts (λ d. IfChecked d P) (Moved named.steady) (router_at content named.router named.printed) (λ x e. tt) (λ p. tt) (λ stop. tt)
words_checked P each content (Some (CheckMoves named)) = all_texts (λ d. IfChecked d P) Claimed (claimed_at content named.router named.printed named.moves) (λ x e. tt) (λ p. tt) (λ stop. tt)
words_checked P each content (Some (Save named)) = all_saved (λ d. IfChecked d P) (λ said. tt) (λ stop. tt) (saved_at content named) (saved_only content named)

each_checked : (P : Used → Type 0) → OfEachText P → (words : List (List ℕ)) (content : List ℕ → Option (List ℕ)) → IfChecked (due words content) P
unfolding due
each_checked P each words content = words_checked P each content (command_of words)

pub decides : (words : List (List ℕ)) (content : List ℕ → Option (List ℕ)) → IfChecked (due words content) Decides
decides = each_checked Decides (λ used fit. verdict_law used.routes used.least used.cert fit)

pub yes_proves : (words : List (List ℕ)) (content : List ℕ → Option (List ℕ)) → IfChecked (due words content) YesProves
yes_proves = each_checked YesProves (λ used fit none. soundness_law used.routes used.least used.cert (verdict_is used.routes used.least used.cert fit none))

-- ---- what holds of all texts that are compared

all_compare : (texts : Compared) → Compares texts
all_compare texts = record { found = all_found texts.first texts.others; alike = λ none. all_alike texts.first texts.others (subst (ComparesTo texts.first texts.others) (by_none (least_difference texts.first texts.others) none) (all_found texts.first texts.others)) }
  where
    by_none : (x : Option Difference) → option_map (told_difference texts) x ≡ None → x ≡ None
    by_none None e = refl
    by_none (Some x) e = absurd cc

words_compare : (content : List ℕ → Option (List ℕ)) (o : Option Asked) → IfCompared (usage o >>= output_at content) Compares
unfolding output_at
words_compare content None = tt
words_compare content (Some (Run named)) = all_of (λ d. IfCompared d Compares) Ran (λ p. tt) (λ stop. tt) (run_at content named)
words_compare content (Some (Check name)) = all_of (λ d. IfCompared d Compares) Checked (λ used. tt) (λ stop. tt) (used_at content name)
words_compare content (Some (Make routes seed)) = all_of (λ d. IfCompared d Compares) Made (λ p. tt) (λ stop. tt) (made_at routes seed)
words_compare content (Some (Steps named)) = all_steps (λ d. IfCompared d Compares) (λ stop. tt) (stepping_at content named)
words_compare content (Some (Same named)) = all_texts (λ d. IfCompared d Compares) Alike (same_at content named.rows named.first named.rest) (λ x e. all_compare x) (λ p. tt) (λ stop. tt)
words_compare content (Some (Moves named)) = all_texts (λ d. IfCompared d Compares) (Moved named.steady) (router_at content named.router named.printed) (λ x e. tt) (λ p. tt) (λ stop. tt)
words_compare content (Some (CheckMoves named)) = all_texts (λ d. IfCompared d Compares) Claimed (claimed_at content named.router named.printed named.moves) (λ x e. tt) (λ p. tt) (λ stop. tt)
words_compare content (Some (Save named)) = all_saved (λ d. IfCompared d Compares) (λ said. tt) (λ stop. tt) (saved_at content named) (saved_only content named)

pub compares : (words : List (List ℕ)) (content : List ℕ → Option (List ℕ)) → IfCompared (due words content) Compares
unfolding due
compares words content = words_compare content (command_of words)

-- what holds of a run that is due holds of texts and of a checkpoint, which are none
pub same_ran : (P : Printed → Type 0) (t : Result Compared same.TextStop) → IfRan (compared t) P
same_ran P t = all_texts (λ d. IfRan d P) Alike t (λ x e. tt) (λ p. tt) (λ stop. tt)

pub moves_ran : (P : Printed → Type 0) (steady : Bool) (t : Result router.RouterTables same.TextStop) → IfRan (moved steady t) P
moves_ran P steady t = all_texts (λ d. IfRan d P) (Moved steady) t (λ x e. tt) (λ p. tt) (λ stop. tt)

pub claim_ran : (P : Printed → Type 0) (t : Result claims.Claimed same.TextStop) → IfRan (claimed t) P
claim_ran P t = all_texts (λ d. IfRan d P) Claimed t (λ x e. tt) (λ p. tt) (λ stop. tt)

pub save_ran : (P : Printed → Type 0) (d : Due) → IsSavedOnly d → IfRan d P
save_ran P d s = all_saved (λ d. IfRan d P) (λ said. tt) (λ stop. tt) d s

-- a checkpoint is no run
pub save_runs_none : {X E : Type 0} (content : List ℕ → Option (List ℕ)) (named : NamedSave) (asked : Asked) (r : Result X E) → asked ≡ Save named → OnOk r (IfRan (output_at content asked) PrintsYes)
unfolding output_at
save_runs_none content named asked (Ok x) a = rw a (save_ran PrintsYes (saved_at content named) (saved_only content named))
save_runs_none content named asked (Err e) a = tt

-- ---- what holds of a router's table and routes, where it is due what the router must change

-- what holds of those that any two texts hold
abbrev pub OfEachRouter : (Bool → router.RouterTables → Type 0) → Type 0
OfEachRouter P = (content : List ℕ → Option (List ℕ)) (router printed : List ℕ) (steady : Bool) → IfMoved (moved steady (router_at content router printed)) P

words_reroute : (P : Bool → router.RouterTables → Type 0) → OfEachRouter P → (content : List ℕ → Option (List ℕ)) (o : Option Asked) → IfMoved (usage o >>= output_at content) P
unfolding output_at
words_reroute P each content None = tt
words_reroute P each content (Some (Run named)) = all_of (λ d. IfMoved d P) Ran (λ p. tt) (λ stop. tt) (run_at content named)
words_reroute P each content (Some (Check name)) = all_of (λ d. IfMoved d P) Checked (λ used. tt) (λ stop. tt) (used_at content name)
words_reroute P each content (Some (Make routes seed)) = all_of (λ d. IfMoved d P) Made (λ p. tt) (λ stop. tt) (made_at routes seed)
words_reroute P each content (Some (Steps named)) = all_steps (λ d. IfMoved d P) (λ stop. tt) (stepping_at content named)
words_reroute P each content (Some (Same named)) = all_texts (λ d. IfMoved d P) Alike (same_at content named.rows named.first named.rest) (λ x e. tt) (λ p. tt) (λ stop. tt)
words_reroute P each content (Some (Save named)) = all_saved (λ d. IfMoved d P) (λ said. tt) (λ stop. tt) (saved_at content named) (saved_only content named)
words_reroute P each content (Some (Moves named)) = each content named.router named.printed named.steady
words_reroute P each content (Some (CheckMoves named)) = all_texts (λ d. IfMoved d P) Claimed (claimed_at content named.router named.printed named.moves) (λ x e. tt) (λ p. tt) (λ stop. tt)

pub reroutes : (words : List (List ℕ)) (content : List ℕ → Option (List ℕ)) → IfMoved (due words content) Reroutes
unfolding due
reroutes words content = words_reroute Reroutes router_reroutes content (command_of words)

pub reroutes_steadily : (words : List (List ℕ)) (content : List ℕ → Option (List ℕ)) → IfMoved (due words content) ReroutesSteadily
unfolding due
reroutes_steadily words content = words_reroute ReroutesSteadily router_steadily content (command_of words)

-- a router's changes are no run
pub moves_run_none : {X E : Type 0} (content : List ℕ → Option (List ℕ)) (named : NamedMoves) (asked : Asked) (r : Result X E) → asked ≡ Moves named → OnOk r (IfRan (output_at content asked) PrintsYes)
unfolding output_at
moves_run_none content named asked (Ok x) a = rw a (moves_ran PrintsYes named.steady (router_at content named.router named.printed))
moves_run_none content named asked (Err e) a = tt

-- and no checkpoint
pub moves_save_none : {X E : Type 0} (content : List ℕ → Option (List ℕ)) (named : NamedMoves) (asked : Asked) (r : Result X E) → asked ≡ Moves named → OnOk r (IfSaved (output_at content asked) Restores)
unfolding output_at
moves_save_none content named asked (Ok x) a = rw a (all_texts (λ d. IfSaved d Restores) (Moved named.steady) (router_at content named.router named.printed) (λ x e. tt) (λ p. tt) (λ stop. tt))
moves_save_none content named asked (Err e) a = tt

-- ---- what holds of what a router was told to change, where a check of it is due

words_claim : (content : List ℕ → Option (List ℕ)) (o : Option Asked) → IfClaimed (usage o >>= output_at content) DecidesMoves
unfolding output_at
words_claim content None = tt
words_claim content (Some (Run named)) = all_of (λ d. IfClaimed d DecidesMoves) Ran (λ p. tt) (λ stop. tt) (run_at content named)
words_claim content (Some (Check name)) = all_of (λ d. IfClaimed d DecidesMoves) Checked (λ used. tt) (λ stop. tt) (used_at content name)
words_claim content (Some (Make routes seed)) = all_of (λ d. IfClaimed d DecidesMoves) Made (λ p. tt) (λ stop. tt) (made_at routes seed)
words_claim content (Some (Steps named)) = all_steps (λ d. IfClaimed d DecidesMoves) (λ stop. tt) (stepping_at content named)
words_claim content (Some (Same named)) = all_texts (λ d. IfClaimed d DecidesMoves) Alike (same_at content named.rows named.first named.rest) (λ x e. tt) (λ p. tt) (λ stop. tt)
words_claim content (Some (Save named)) = all_saved (λ d. IfClaimed d DecidesMoves) (λ said. tt) (λ stop. tt) (saved_at content named) (saved_only content named)
words_claim content (Some (Moves named)) = all_texts (λ d. IfClaimed d DecidesMoves) (Moved named.steady) (router_at content named.router named.printed) (λ x e. tt) (λ p. tt) (λ stop. tt)
words_claim content (Some (CheckMoves named)) = claim_decides content named.router named.printed named.moves

pub judges_moves : (words : List (List ℕ)) (content : List ℕ → Option (List ℕ)) → IfClaimed (due words content) DecidesMoves
unfolding due
judges_moves words content = words_claim content (command_of words)

-- a check of it is no run
pub claim_run_none : {X E : Type 0} (content : List ℕ → Option (List ℕ)) (named : NamedCheckMoves) (asked : Asked) (r : Result X E) → asked ≡ CheckMoves named → OnOk r (IfRan (output_at content asked) PrintsYes)
unfolding output_at
claim_run_none content named asked (Ok x) a = rw a (claim_ran PrintsYes (claimed_at content named.router named.printed named.moves))
claim_run_none content named asked (Err e) a = tt

-- and no checkpoint
pub claim_save_none : {X E : Type 0} (content : List ℕ → Option (List ℕ)) (named : NamedCheckMoves) (asked : Asked) (r : Result X E) → asked ≡ CheckMoves named → OnOk r (IfSaved (output_at content asked) Restores)
unfolding output_at
claim_save_none content named asked (Ok x) a = rw a (all_texts (λ d. IfSaved d Restores) Claimed (claimed_at content named.router named.printed named.moves) (λ x e. tt) (λ p. tt) (λ stop. tt))
claim_save_none content named asked (Err e) a = tt
