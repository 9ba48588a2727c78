-- What a list of VRPs does to what a run prints.
use Rattle.std.specs.Prelude.{◌≡◌, ℕ, List, [], ◌++◌, Option, Some, None, Ok, IfOk}
use Rattle.route_model.specs.Events.{Event}
use Rattle.route_model.specs.Choice.{after_elems, elems_after}
use Rattle.kept_model.specs.Feed.{entries_of}
use Rattle.printed_text.specs.Rows.{Vrp}
use Rattle.fib_rov.specs.Rov.{invalid_in, left_of}
use Rattle.fib_words.specs.Commands.{Asked, Run, Check, Make, Steps, Same, Save, Moves, CheckMoves}
use Rattle.fib_due.specs.declared.outcome.MrtInput.TheVariants.{Dump}
use Rattle.fib_due.specs.Stepping.{events_of}
use Rattle.fib_due.specs.Due.{Printed, later_at, run_at, vrps_at}

-- What is printed was judged by these VRPs: the announcements that are reported as Invalid are those of what was said, each with the first VRP that covers it, in their order; and the routes are those of what was said with each of them as its withdrawal (RFC 6811, 2 and 3).
pub record IsJudgedBy (vrps : List Vrp) (said : List Event) (p : Printed) : Type 0 where
  pub invalid : p.told.invalid ≡ invalid_in vrps said
  pub routes : p.told.routes ≡ entries_of p.hops (after_elems [] (elems_after [] (left_of vrps said)))

-- so is what is due of a run whose list of VRPs, dump and updates are known; without the option the list is empty
abbrev pub Judges : (List ℕ → Option (List ℕ)) → Option Asked → Type 0
Judges content None = Unit {0}
Judges content (Some (Run named)) = (vrps : List Vrp) (load later : List Event) → vrps_at content named.vrps ≡ Ok vrps → events_of Dump content named.dump ≡ Ok load → later_at content named.updates ≡ Ok later → IfOk (run_at content named) (IsJudgedBy vrps (load ++ later))
Judges content (Some (Check name)) = Unit {0}
Judges content (Some (Make routes seed)) = Unit {0}
Judges content (Some (Steps named)) = Unit {0}
Judges content (Some (Same named)) = Unit {0}
Judges content (Some (Moves named)) = Unit {0}
Judges content (Some (CheckMoves named)) = Unit {0}
Judges content (Some (Save named)) = Unit {0}
