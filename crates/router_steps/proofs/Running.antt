-- A run, step after step.
use Rattle.std.proofs.Common.{◌≡◌, ◌<◌, ◌≤◌, ◌+◌, ℕ, zero, suc, List, [], ◌∷◌, ◌++◌, map, take, length, get_or, refl, sym, ap, ◌∙◌, subst, arith}
use Rattle.std.specs.Prelude.{Result, Ok, Err, IfErr, OnOk}
use Rattle.std.specs.Result.{IsErrAnd}
use Rattle.std.specs.List.{AllByRecursion}
use Rattle.std.proofs.lemmas.List.{map-append, take_more}
use Rattle.step_script.specs.Script.{Step, opens, goes, prepares, stores, ends, cancels}
use Rattle.step_script.specs.Rows.{StepRow}
use Rattle.step_script.specs.Machine.{World, State, Takes, Runs, ComesTo, IsHopsFull, IsTrieFull, at_first}
use Rattle.step_script.specs.declared.row.Row.{Row}
use Rattle.step_script.specs.RowViews.{step_row_as}
use Rattle.step_script.specs.declared.step.Step as code_step
use Rattle.step_script.specs.Steps.{step_as}
use Rattle.step_script.specs.Texts.{HasWritten}
use Rattle.step_script.specs.declared.text.StepText.{StepText}
use Rattle.router_steps.specs.declared.error.StepError.{StepError}
use Rattle.router_steps.specs.declared.error.StepError.TheVariants as error
use Rattle.router_steps.specs.declared.stepper.Stepper.{Stepper}
use Rattle.router_steps.specs.Runs.{Comes, IsStepper, IsAnywhere, IsAtFirst, IsPrinted, IsStop, StepLeads, StopsBy, StepsEndBy}

-- ---- how far a run has come
abbrev pub Going : Stepper → List code_step.Step → ℕ → StepText → Stepper → Type 0
Going old script i text x = (w : World) → IsStepper w at_first old → Comes w (map step_as (take i script)) text x

-- no more events ended than there were steps
abbrev pub IsEarly : ℕ → Stepper → Type 0
IsEarly i x = x.ended ≤ i

pub early_first : (w : World) (x : Stepper) → IsStepper w at_first x → IsEarly 0 x
early_first w x h = omega (arith, h.ended)

no_steps : (w : World) (s : State) → Runs w s [] [] s
unfolding Runs
no_steps w s = refl

-- one more step
one_more : (w : World) (s : State) (steps : List Step) (rows : List StepRow) (t : State) (step : Step) (row : StepRow) (u : State) → Runs w s steps rows t → Takes w t step row u → Runs w s (steps ++ step ∷ []) (rows ++ row ∷ []) u
unfolding Runs
one_more w s [] [] t step row u r take = (u, subst (λ (v : State). Takes w v step row u) (sym r) take, refl)
one_more w s [] (x ∷ rows) t step row u r take = absurd r
one_more w s (x ∷ steps) [] t step row u r take = absurd r
one_more w s (x ∷ steps) (y ∷ rows) t step row u r take = (r.0, r.1, one_more w r.0 steps rows t step row u r.2 take)

-- a step at which it ends
comes : (w : World) (front more : List Step) (rows : List StepRow) (s : State) (P : State → Type 0) → Runs w at_first front rows s → P s → ComesTo w (front ++ prepares ∷ more) P
comes w front more rows s P r p = (front, more, rows, s, refl, r, p)

stop_comes : (w : World) (front more : List Step) (rows : List StepRow) (s : State) (e : StepError) → Runs w at_first front rows s → IsStop w s e → StepsEndBy w (front ++ prepares ∷ more) e
stop_comes w front more rows s (error.HopsFull n) r stop = comes w front more rows s (λ (u : State). IsHopsFull w u × (n ≡ suc u.ended)) r stop
stop_comes w front more rows s (error.TrieFull n f t) r stop = comes w front more rows s (λ (u : State). IsTrieFull w u f t.arena t.need t.have × (n ≡ suc u.ended)) r stop
stop_comes w front more rows s error.NoMemory r stop = tt

ends_at : (w : World) (front more : List Step) (rows : List StepRow) (s : State) (step : Step) (e : StepError) → Runs w at_first front rows s → StopsBy w s step e → StepsEndBy w (front ++ step ∷ more) e
ends_at w front more rows s (opens a) e r stop = absurd stop
ends_at w front more rows s (goes c) e r stop = absurd stop
ends_at w front more rows s prepares e r stop = stop_comes w front more rows s e r stop
ends_at w front more rows s stores e r stop = absurd stop
ends_at w front more rows s ends e r stop = absurd stop
ends_at w front more rows s cancels e r stop = absurd stop

-- ---- of a script

pub printed_at : (script : List code_step.Step) (i : ℕ) (x : code_step.Step) → AllByRecursion IsPrinted (map step_as script) → i < length script → x ≡ get_or script i x → IsPrinted (step_as x)
printed_at [] i x all less e = absurd (omega (arith, less))
printed_at (y ∷ script) zero x all less e = subst (λ (z : code_step.Step). IsPrinted (step_as z)) (sym e) all.0
printed_at (y ∷ script) (suc i) x all less e = printed_at script i x all.1 (omega (arith, less)) e

parted : (script : List code_step.Step) (i : ℕ) (x : code_step.Step) → i < length script → x ≡ get_or script i x → (more : List Step) × (map step_as script ≡ map step_as (take i script) ++ step_as x ∷ more)
parted [] i x less e = absurd (omega (arith, less))
parted (y ∷ script) zero x less e = (map step_as script, ap (λ (z : code_step.Step). step_as z ∷ map step_as script) (sym e))
parted (y ∷ script) (suc i) x less e = let p = parted script i x (omega (arith, less)) e in (p.0, ap (λ (L : List Step). step_as y ∷ L) p.1)

pub going_first : (x : Stepper) (script : List code_step.Step) (text : StepText) → HasWritten [] text → Going x script 0 text x
going_first x script text none w h = ([], at_first, no_steps w at_first, h, none)

pub going_on : (old x y : Stepper) (script : List code_step.Step) (i : ℕ) (text more : StepText) (step : code_step.Step) (row : Row) → i < length script → step ≡ get_or script i step → ((rows : List StepRow) → HasWritten rows text → HasWritten (rows ++ step_row_as row ∷ []) more) → ((w : World) (s : State) → IsStepper w s x → StepLeads w s (step_as step) (step_row_as row) y) → Going old script i text x → Going old script (i + 1) more y
going_on old x y script i text more step row less e put takes so_far w h =
    let g = so_far w h in
    let l = takes w g.1 g.3 in
    let steps : map step_as (take (i + 1) script) ≡ map step_as (take i script) ++ step_as step ∷ [] = ap (map step_as) (take_more script i step less ∙ ap (λ (z : code_step.Step). take i script ++ z ∷ []) (sym e)) ∙ map-append step_as (take i script) (step ∷ []) in
    (g.0 ++ step_row_as row ∷ [], l.0, subst (λ (L : List Step). Runs w at_first L (g.0 ++ step_row_as row ∷ []) l.0) (sym steps) (one_more w at_first (map step_as (take i script)) g.0 g.1 (step_as step) (step_row_as row) l.0 g.2 l.1), l.2, put g.0 g.4)

pub went : (old x : Stepper) (script : List code_step.Step) (i : ℕ) (text : StepText) → length script ≤ i → Going old script i text x → (w : World) → IsStepper w at_first old → Comes w (map step_as script) text x
went old x script i text all so_far w h = subst (λ (L : List code_step.Step). Comes w (map step_as L) text x) (whole script i all) (so_far w h)
  where
    whole : (script : List code_step.Step) (i : ℕ) → length script ≤ i → take i script ≡ script
    whole [] zero all = refl
    whole [] (suc i) all = refl
    whole (y ∷ script) zero all = absurd (omega (arith, all))
    whole (y ∷ script) (suc i) all = ap (λ (L : List code_step.Step). y ∷ L) (whole script i (omega (arith, all)))

pub stopped : (old x y : Stepper) (script : List code_step.Step) (i : ℕ) (text : StepText) (step : code_step.Step) (e : StepError) → i < length script → step ≡ get_or script i step → ((w : World) (s : State) → IsStepper w s x → StopsBy w s (step_as step) e × IsStepper w s y) → Going old script i text x → (w : World) → IsStepper w at_first old → StepsEndBy w (map step_as script) e × IsAnywhere y
stopped old x y script i text step e less is stops so_far w h =
    let g = so_far w h in
    let p = parted script i step less is in
    let z = stops w g.1 g.3 in
    (subst (λ (L : List Step). StepsEndBy w L e) (sym p.1) (ends_at w (map step_as (take i script)) p.0 g.0 g.1 (step_as step) e g.2 z.0), (w, g.1, z.1))

-- memory ran out for a row
pub no_memory : (old x y : Stepper) (script : List code_step.Step) (i : ℕ) (text : StepText) (step : Step) (row : StepRow) → ((w : World) (s : State) → IsStepper w s x → StepLeads w s step row y) → Going old script i text x → (w : World) → IsStepper w at_first old → Unit {0} × IsAnywhere y
no_memory old x y script i text step row takes so_far w h =
    let g = so_far w h in
    let l = takes w g.1 g.3 in
    (tt, (w, l.0, l.2))

-- ---- the error that is handed on
pub err_is : {A E : Type 0} (r : Result A E) (x : E) (P : E → Type 0) → IsErrAnd r (λ e. e ≡ x) → P x → IfErr r P
err_is (Ok a) x P h p = tt
err_is (Err e) x P h p = subst P (sym h) p

-- ---- a stepper is somewhere after its run, however it ended
pub somewhere : (script : List Step) (old new : Stepper) (text : StepText) (made : Result Unit StepError) → IsAtFirst old
    → OnOk made ((w : World) → IsStepper w at_first old → Comes w script text new)
    → IfErr made (λ e. (w : World) → IsStepper w at_first old → StepsEndBy w script e × IsAnywhere new)
    → IsAnywhere new
somewhere script old new text (Ok u) s runs stops = let r = runs s.0 s.1 in (s.0, r.1, r.3)
somewhere script old new text (Err e) s runs stops = (stops s.0 s.1).1
