-- What a stepper is, in a state of the machine of steps.
use Rattle.std.specs.Prelude.{◌≡◌, ℕ, suc, ◌<◌, ◌≤◌, List, [], ◌∷◌, nat_lt, cond, Option, Some, None, length}
use Rattle.std.specs.List.{AllByRecursion}
use Rattle.table_model.specs.declared.family.Family.{Family}
use Rattle.table_model.specs.declared.family.Family.TheVariants.{V4, V6}
use Rattle.route_model.specs.Events.{Elem}
use Rattle.kept_model.specs.Feed.{hops_after}
use Rattle.fib_addr.specs.Hops.{most_hops}
use Rattle.fib_engine.specs.Numbers.{brought_as, brought_by}
use Rattle.poptrie_update.specs.Cursors.{OpenLookups}
use Rattle.fib_router.specs.Lives.{live_of}
use Rattle.fib_router.specs.Router.{IsBegunIn, Routing, begun_elem, begun_hop}
use Rattle.fib_router.specs.declared.router.Begun as code_begun
use Rattle.step_script.specs.Script.{Step, opens, goes, prepares, stores, ends, cancels}
use Rattle.step_script.specs.Rows.{StepRow}
use Rattle.step_script.specs.Machine as machine
use Rattle.step_script.specs.Machine.{World, State, Lookup, Takes, Runs, words, IsHopsFull, IsTrieFull, ComesTo, at_first}
use Rattle.step_script.specs.Texts.{HasWritten}
use Rattle.step_script.specs.declared.text.StepText.{StepText}
use Rattle.router_steps.specs.Engine.{IsEngineAt}
use Rattle.router_steps.specs.Paused.{FamilyLive, IsAt}
use Rattle.router_steps.specs.Upcoming.{at_hand, to_come}
use Rattle.router_steps.specs.declared.error.StepError.{StepError}
use Rattle.router_steps.specs.declared.error.StepError.TheVariants as error
use Rattle.router_steps.specs.declared.stepper.Stepper.{Stepper}
use Rattle.router_steps.specs.declared.upcoming.Upcoming.{Upcoming}

-- ---- in a state
-- a family's open lookups, and its live trie with them
abbrev pub cursors_in : Family → Stepper → OpenLookups
cursors_in V4 x = x.v4
cursors_in V6 x = x.v6

abbrev pub family_live : Family → Stepper → FamilyLive
family_live f x = record { live = live_of f x.router.lives; cursors = cursors_in f x }

-- the number of events of which a lookup may have the last one's version: one more than have ended once a store of the next was made
abbrev pub seen_by : ℕ → Option machine.Begun → ℕ
seen_by n None = n
seen_by n (Some b) = cond (nat_lt 0 b.made) (suc n) n

-- no open lookup has a later version
abbrev pub HasSeen : State → Type 0
HasSeen s = (f : Family) (n : ℕ) (k : Lookup) (m : ℕ) → s.lookups f n ≡ Some k → k.version ≡ Some m → m ≤ seen_by s.ended s.begun

-- The event that is begun is the next one of those that are to come, and brings no hop too many. One that changes no chosen hop has no
-- store.
pub record IsBegunEvent (w : World) (n : ℕ) (r : Routing) (u : Upcoming) (b : code_begun.Begun) (m : machine.Begun) : Type 0 where
  pub token : IsBegunIn b r
  pub more : List Elem
  pub next : at_hand u ≡ begun_elem b ∷ more
  pub few : length (hops_after r.held.hops (begun_elem b ∷ [])) ≤ most_hops
  pub brings : brought_as (begun_hop b) ≡ brought_by r.held.hops (begun_elem b)
  pub none : w.changed n ≡ None → m ≡ record { stores = words []; made = 0 }

abbrev pub IsBegunAs : World → ℕ → Routing → Upcoming → Option code_begun.Begun → Option machine.Begun → Type 0
IsBegunAs w n r u None None = r.begun ≡ None
IsBegunAs w n r u (Some b) (Some m) = IsBegunEvent w n r u b m
IsBegunAs w n r u None (Some m) = ⊥
IsBegunAs w n r u (Some b) None = ⊥

-- both families are in the state, and so are the engine, what is to come, and what is begun
pub record IsStepper (w : World) (s : State) (x : Stepper) : Type 0 where
  pub v4 : IsAt w V4 s (family_live V4 x)
  pub v6 : IsAt w V6 s (family_live V6 x)
  pub engine : IsEngineAt w s.ended x.router.held (to_come x.upcoming x.router.held.candidates)
  pub ended : x.ended ≡ s.ended
  pub seen : HasSeen s
  pub begun : IsBegunAs w s.ended x.router x.upcoming x.begun s.begun

-- in some world, and some state of the machine
abbrev pub IsAnywhere : Stepper → Type 0
IsAnywhere x = (w : World) × (s : State) × IsStepper w s x

-- in some world, before the first step
abbrev pub IsAtFirst : Stepper → Type 0
IsAtFirst x = (w : World) × IsStepper w at_first x

-- the step may have this row, after which the stepper is in the state that follows
abbrev pub StepLeads : World → State → Step → StepRow → Stepper → Type 0
StepLeads w s step row x = (t : State) × Takes w s step row t × IsStepper w t x

-- a run of these steps comes to such a state, and the text is that of its rows
abbrev pub Comes : World → List Step → StepText → Stepper → Type 0
Comes w steps text x = (rows : List StepRow) × (t : State) × Runs w at_first steps rows t × IsStepper w t x × HasWritten rows text

-- ---- steps
-- the printed number of a lookup that goes on is below 128
abbrev pub IsPrinted : Step → Type 0
IsPrinted (opens a) = Unit {0}
IsPrinted (goes c) = c < 128
IsPrinted prepares = Unit {0}
IsPrinted stores = Unit {0}
IsPrinted ends = Unit {0}
IsPrinted cancels = Unit {0}

abbrev pub ArePrinted : List Step → Type 0
ArePrinted steps = AllByRecursion IsPrinted steps

-- why a prepare ends the run: the next event brings one different hop too many, or its trie needs more places than there are
abbrev pub IsStop : World → State → StepError → Type 0
IsStop w s (error.HopsFull n) = IsHopsFull w s × (n ≡ suc s.ended)
IsStop w s (error.TrieFull n f t) = IsTrieFull w s f t.arena t.need t.have × (n ≡ suc s.ended)
IsStop w s error.NoMemory = Unit {0}

-- no other step does
abbrev pub StopsBy : World → State → Step → StepError → Type 0
StopsBy w s (opens a) e = ⊥
StopsBy w s (goes c) e = ⊥
StopsBy w s prepares e = IsStop w s e
StopsBy w s stores e = ⊥
StopsBy w s ends e = ⊥
StopsBy w s cancels e = ⊥

-- the steps come to such a prepare, or memory runs out
abbrev pub StepsEndBy : World → List Step → StepError → Type 0
StepsEndBy w steps (error.HopsFull n) = ComesTo w steps (λ s. IsHopsFull w s × (n ≡ suc s.ended))
StepsEndBy w steps (error.TrieFull n f t) = ComesTo w steps (λ s. IsTrieFull w s f t.arena t.need t.have × (n ≡ suc s.ended))
StepsEndBy w steps error.NoMemory = Unit {0}
