-- What holds if the content of an input isn't known.
use Rattle.std.specs.Prelude.{Bool, ℕ, List, Option, Some, None, Result, Ok, Err, ◌⊎◌}
use Rattle.table_model.specs.Address.{Prefix}
use Rattle.printed_text.specs.Rows.{Vrp}
use Rattle.route_model.specs.Events.{Event}
use Rattle.fib_same.specs.Due.{Compared}
use Rattle.std.specs.declared.vec.Vec.{Vec}
use Rattle.table_model.specs.Address.{Address}
use Rattle.printed_text.specs.Used.{Used}
use Rattle.fib_words.specs.Commands.{Asked, Named, NamedSteps, Run, Check, Make, Steps, Same, Save, Moves, CheckMoves}
use Rattle.fib_due.specs.declared.reply.Reply as code_reply
use Rattle.fib_due.specs.declared.outcome.Which.TheVariants.{Asks, Dump, Printed, Script, Text, Updates, Vrps}
use Rattle.fib_due.specs.declared.outcome.Outcome.{Outcome}
use Rattle.fib_due.specs.Stops.{Stop, Untold, GivesDue, IsDueIfTold}
use Rattle.router_moves.specs.Due as router
use Rattle.router_moves.specs.Checked as claims
use Rattle.fib_due.specs.Due.{Output, Alike, Checked, Claimed, Moved, Repeats, asks_at, saved_of, made, made_at, ran, stepped, told_at, with_reply, with_text, with_world, vrps_at, world_at}
use Rattle.fib_due.specs.Ends.{Meets, Writes, text_due}
use Rattle.fib_due.specs.Owned.{StopsAt, StoppedAt}
use Rattle.fib_due.specs.Views.{reply_as}
use Rattle.fib_due.specs.Stepped.{EndsRun, GivesReply, GivesRun, IfStepping}
use Rattle.octet_fields.specs.Field.{◌>>=◌}
use Rattle.step_script.specs.Script.{Step}
use Rattle.router_steps.specs.Stepping.{Stepping}

-- the outcome is the due one, and out has what is due
abbrev pub FitsUntold : Result Output Stop → Option (List ℕ) → Option (List ℕ) → Outcome → Type 0
FitsUntold d old new outcome = Meets d outcome × Writes (text_due d) old new outcome

-- so it is of a run in steps, which besides ends as its machine lets it
abbrev pub FitsStepping : Result Stepping Stop → Option (List ℕ) → Option (List ℕ) → Outcome → Type 0
FitsStepping d old new outcome = FitsUntold (stepped d) old new outcome × IfStepping d (λ s. EndsRun s old new outcome)

-- such asks and such a list of VRPs as a run can have: those that its inputs hold, if that is known; none if none are named
abbrev pub CanHave : (List ℕ → Option (List ℕ)) → Named → List Address → List Vrp → Type 0
CanHave content named asks vrps = IsDueIfTold (asks_at content named.asks) (Ok asks) × IsDueIfTold (vrps_at content named.vrps) (Ok vrps)

-- Whatever the asks and the list of VRPs hold: one of them is refused, or all is as due of some asks and some list that the run can have, with the dump and the updates. Whatever a printed text holds: it is refused, or all is as due of some rows. Whatever a script holds: it is refused, or all is as due of some steps. Whatever texts hold: one is refused, or all is as due of some tables, or of a prefix that stands twice. Whatever inputs of records hold: one is refused, or all is as due of what was said in some. Whatever the texts of a router and of its routes hold: one is refused, or all is as due of some table and some routes, or of a prefix that stands twice. Whatever these and a text of changes hold: one is refused, or all is as due of something that may be claimed, or of a prefix that stands twice.
abbrev pub FitsSome : (List ℕ → Option (List ℕ)) → Option Asked → Option (List ℕ) → Option (List ℕ) → Outcome → Type 0
FitsSome content None old new outcome = Unit {0}
FitsSome content (Some (Run named)) old new outcome = (StopsAt Asks outcome ⊎ StopsAt Vrps outcome) ⊎ ((asks : List Address) × (vrps : List Vrp) × CanHave content named asks vrps × FitsUntold (ran (told_at content vrps named asks)) old new outcome)
FitsSome content (Some (Check name)) old new outcome = StopsAt Printed outcome ⊎ ((used : Used) × FitsUntold (Ok (Checked used)) old new outcome)
FitsSome content (Some (Make routes seed)) old new outcome = FitsUntold (made (made_at routes seed)) old new outcome
FitsSome content (Some (Same named)) old new outcome = ((n : ℕ) × StopsAt (Text n) outcome) ⊎ (((texts : Compared) × FitsUntold (Ok (Alike texts)) old new outcome) ⊎ ((p : Prefix) × FitsUntold (Ok (Repeats p)) old new outcome))
FitsSome content (Some (Moves named)) old new outcome = ((n : ℕ) × StopsAt (Text n) outcome) ⊎ (((t : router.RouterTables) × FitsUntold (Ok (Moved named.steady t)) old new outcome) ⊎ ((p : Prefix) × FitsUntold (Ok (Repeats p)) old new outcome))
FitsSome content (Some (CheckMoves named)) old new outcome = ((n : ℕ) × StopsAt (Text n) outcome) ⊎ (((c : claims.Claimed) × FitsUntold (Ok (Claimed c)) old new outcome) ⊎ ((p : Prefix) × FitsUntold (Ok (Repeats p)) old new outcome))
FitsSome content (Some (Save named)) old new outcome = (StopsAt Dump outcome ⊎ StopsAt Updates outcome) ⊎ ((said : List Event) × FitsUntold (saved_of said) old new outcome)
FitsSome content (Some (Steps named)) old new outcome = StopsAt Script outcome ⊎ ((script : List Step) × FitsStepping (with_world script (world_at content named)) old new outcome)

-- the same of the text of a run's rows
abbrev pub TextOfSome : {X : Type 0} → (List ℕ → Option (List ℕ)) → Named → Result (Vec ℕ X) Outcome → Type 0
TextOfSome content named result = (StoppedAt Asks result ⊎ StoppedAt Vrps result) ⊎ ((asks : List Address) × (vrps : List Vrp) × CanHave content named asks vrps × GivesDue (λ v. v.items) result (with_text (told_at content vrps named asks)))

-- the same of the reply to a printed text
abbrev pub ReplyOfSome : Result code_reply.Reply Outcome → Type 0
ReplyOfSome result = StoppedAt Printed result ⊎ ((used : Used) × GivesDue reply_as result (with_reply (Ok (Checked used))))

-- the same of the text of a run in steps, once its script is read
abbrev pub untold_text : Result Stepping Stop → Result (List ℕ) Stop
untold_text stepping = stepping >>= λ s. Err Untold

abbrev pub GivesText : {X : Type 0} → Result Stepping Stop → Result (Vec ℕ X) Outcome → Type 0
GivesText d result = GivesDue (λ v. v.items) result (untold_text d) × IfStepping d (λ s. GivesRun (λ v. v.items) s result)

abbrev pub StepsOfSome : {X : Type 0} → (List ℕ → Option (List ℕ)) → NamedSteps → Result (Vec ℕ X) Outcome → Type 0
StepsOfSome content named result = StoppedAt Script result ⊎ ((script : List Step) × GivesText (with_world script (world_at content named)) result)

-- the same of a reply to it
abbrev pub GivesStepping : Result Stepping Stop → Result code_reply.Reply Outcome → Type 0
GivesStepping d result = GivesDue reply_as result (with_reply (stepped d)) × IfStepping d (λ s. GivesReply s result)

-- the same of the reply to a router's table and routes
abbrev pub MovedOfSome : Bool → Result code_reply.Reply Outcome → Type 0
MovedOfSome steady result = ((n : ℕ) × StoppedAt (Text n) result) ⊎ (((t : router.RouterTables) × GivesDue reply_as result (with_reply (Ok (Moved steady t)))) ⊎ ((p : Prefix) × GivesDue reply_as result (with_reply (Ok (Repeats p)))))

-- the same of the reply to what a router was told to change
abbrev pub ClaimedOfSome : Result code_reply.Reply Outcome → Type 0
ClaimedOfSome result = ((n : ℕ) × StoppedAt (Text n) result) ⊎ (((c : claims.Claimed) × GivesDue reply_as result (with_reply (Ok (Claimed c)))) ⊎ ((p : Prefix) × GivesDue reply_as result (with_reply (Ok (Repeats p)))))

-- the same of the reply to texts that are compared
abbrev pub ComparedOfSome : Result code_reply.Reply Outcome → Type 0
ComparedOfSome result = ((n : ℕ) × StoppedAt (Text n) result) ⊎ (((texts : Compared) × GivesDue reply_as result (with_reply (Ok (Alike texts)))) ⊎ ((p : Prefix) × GivesDue reply_as result (with_reply (Ok (Repeats p)))))

-- the same of a checkpoint
abbrev pub SavedOfSome : Result code_reply.Reply Outcome → Type 0
SavedOfSome result = (StoppedAt Dump result ⊎ StoppedAt Updates result) ⊎ ((said : List Event) × GivesDue reply_as result (with_reply (saved_of said)))

-- the same of a reply to a command
abbrev pub GivesSome : (List ℕ → Option (List ℕ)) → Option Asked → Result code_reply.Reply Outcome → Type 0
GivesSome content None result = Unit {0}
GivesSome content (Some (Run named)) result = (StoppedAt Asks result ⊎ StoppedAt Vrps result) ⊎ ((asks : List Address) × (vrps : List Vrp) × CanHave content named asks vrps × GivesDue reply_as result (with_reply (ran (told_at content vrps named asks))))
GivesSome content (Some (Check name)) result = ReplyOfSome result
GivesSome content (Some (Make routes seed)) result = GivesDue reply_as result (with_reply (made (made_at routes seed)))
GivesSome content (Some (Same named)) result = ComparedOfSome result
GivesSome content (Some (Moves named)) result = MovedOfSome named.steady result
GivesSome content (Some (CheckMoves named)) result = ClaimedOfSome result
GivesSome content (Some (Save named)) result = SavedOfSome result
GivesSome content (Some (Steps named)) result = StoppedAt Script result ⊎ ((script : List Step) × GivesStepping (with_world script (world_at content named)) result)
