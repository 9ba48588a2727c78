-- What is told of a run.
use Rattle.std.proofs.Common.{◌≡◌, ℕ, true, List, [], ◌++◌, length, map, refl, sym, ap, ◌∙◌}
use Rattle.std.proofs.lemmas.List.{length-map}
use Rattle.std.proofs.lemmas.List.Sums.{fold-append}
use Rattle.table_model.specs.Address.{Address}
use Rattle.table_model.specs.Changes.{Change}
use Rattle.table_model.specs.Entries.{Entries}
use Rattle.table_model.specs.Both.{aggregate_in_both}
use Rattle.cert_model.specs.Rows.{certificate_of}
use Rattle.route_model.specs.Events.{Elem}
use Rattle.route_model.specs.Choice.{Candidates, after_elem, after_elems}
use Rattle.kept_model.specs.Feed.{hops_after, entries_of}
use Rattle.fib_addr.specs.declared.entry.Entry.{Entry}
use Rattle.fib_addr.specs.Views.{entry_as}
use Rattle.fib_engine.specs.Held.{EngineState, if_loaded, engine_routes, routes_told}
use Rattle.fib_report.specs.declared.run.Report.{Report}
use Rattle.fib_report.specs.Views.{Told, invalid_as}
use Rattle.printed_text.specs.Rows.{Announced, Vrp}
use Rattle.route_tries.specs.Sizes.{Sizes, needs_of}
use Rattle.route_tries.specs.declared.needs.FamilyNeeds.{FamilyNeeds}
use Rattle.fib_due.specs.Refusals.{Limits}
use Rattle.fib_report.specs.Rows.{run_text}
use Rattle.fib_run.specs.declared.report.InputCounts.{InputCounts}
use Rattle.fib_run.specs.declared.state.State.{State}
use Rattle.fib_due.specs.Due.{Feed, answers_to, counts, run_changes, kept_of, run_moves, printed, printed_text}
use Rattle.fib_run.specs.Told.{told_changes, told_moves, totals}
use Rattle.fib_run.specs.Standing.{IsFed, IsCounted}

counted : (load updates : Feed) (fed : InputCounts) (R T : Entries) (n m : ℕ) (needs : FamilyNeeds) → IsCounted load fed.load → IsCounted updates fed.updates → n ≡ length R → m ≡ length T → totals fed.load fed.updates n m needs ≡ counts load updates R T needs
counted load updates fed R T n m needs l u len long = rw (l.records, l.skipped, l.treated, l.events, u.records, u.skipped, u.treated, u.events, len, long) refl

-- the announcements that are Invalid, of both inputs
abbrev pub noted_in : InputCounts → List (Announced × Vrp)
noted_in fed = map invalid_as fed.load.invalid.items ++ map invalid_as fed.updates.invalid.items

-- of routes R and a table T, with tries of so many direct bits
abbrev pub told_by : List (Announced × Vrp) → ℕ → Entries → Entries → List (ℕ × Change) → List (ℕ × ℕ) → List Address → Report → Told
told_by invalid direct R T changes moves asks report = record { routes = R; invalid = invalid; changes = changes; moves = moves; answers = answers_to direct R asks; table = T; least = aggregate_in_both R T; cert = certificate_of R; report = report }

pub told_is : (limits : Limits) (load updates : Feed) (fed : InputCounts) (state : State) (asks : List Address) (direct : ℕ) (routes table : Entries) (report : Report) (n m : ℕ) (needs : FamilyNeeds)
    → direct ≡ state.engine.sizes.direct → routes ≡ engine_routes state.engine → table ≡ state.engine.table → report ≡ totals fed.load fed.updates n m needs → needs ≡ needs_of direct routes → n ≡ length routes → m ≡ length table → IsFed limits load updates fed state
    → told_by (noted_in fed) direct routes table (told_changes state) (told_moves state) asks report ≡ (printed limits load updates asks).told
told_is limits load updates fed state asks direct routes table report n m needs d r t told need len long f =
    let elems : List Elem = load.elems ++ updates.elems in
    let hops : List Address = hops_after [] elems in
    let held : Candidates = after_elems [] elems in
    let R : Entries = entries_of hops held in
    let T : Entries = kept_of limits.fewest limits.every hops load.elems updates.elems in
    let s = f.has.stands in
    let candidates : state.engine.candidates ≡ held = s.engine.candidates ∙ sym (fold-append after_elem [] load.elems updates.elems) in
    let noted : noted_in fed ≡ load.invalid ++ updates.invalid = ap (λ rows. rows ++ map invalid_as fed.updates.invalid.items) f.counted.invalid ∙ ap (λ rows. load.invalid ++ rows) f.has.counted.invalid in
    let chosen : routes ≡ R = r ∙ (ap (λ h. entries_of h state.engine.candidates) s.engine.hops ∙ ap (entries_of hops) candidates) in
    let kept : table ≡ T = t ∙ (s.engine.table ∙ (ap (λ b. kept_of b state.engine.every state.engine.hops load.elems updates.elems) s.fewest_is ∙ (ap (λ k. kept_of limits.fewest k state.engine.hops load.elems updates.elems) s.every_is ∙ ap (λ h. kept_of limits.fewest limits.every h load.elems updates.elems) s.engine.hops))) in
    let bits : direct ≡ limits.sizes.direct = d ∙ ap (λ (z : Sizes). z.direct) s.sizes_are in
    let changes : told_changes state ≡ run_changes limits.fewest limits.steady limits.every hops load.elems updates.elems = s.changes ∙ ap (λ h. run_changes limits.fewest limits.steady limits.every h load.elems updates.elems) s.engine.hops in
    let moves : told_moves state ≡ run_moves limits.fewest limits.every hops load.elems updates.elems = s.moves ∙ ap (λ h. run_moves limits.fewest limits.every h load.elems updates.elems) s.engine.hops in
    let needed : needs ≡ needs_of limits.sizes.direct R = need ∙ (ap (λ E. needs_of direct E) chosen ∙ ap (λ z. needs_of z R) bits) in
    let report_is : report ≡ counts load updates R T (needs_of limits.sizes.direct R) = told ∙ (counted load updates fed R T n m needs f.counted f.has.counted (len ∙ ap length chosen) (long ∙ ap length kept) ∙ ap (counts load updates R T) needed) in
    ap (λ E. told_by (noted_in fed) direct E table (told_changes state) (told_moves state) asks report) chosen
    ∙ (ap (λ E. told_by (noted_in fed) direct R E (told_changes state) (told_moves state) asks report) kept
    ∙ (ap (λ z. told_by (noted_in fed) z R T (told_changes state) (told_moves state) asks report) bits
    ∙ (ap (λ c. told_by (noted_in fed) limits.sizes.direct R T c (told_moves state) asks report) changes
    ∙ (ap (λ m. told_by (noted_in fed) limits.sizes.direct R T (run_changes limits.fewest limits.steady limits.every hops load.elems updates.elems) m asks report) moves
    ∙ (ap (told_by (noted_in fed) limits.sizes.direct R T (run_changes limits.fewest limits.steady limits.every hops load.elems updates.elems) (run_moves limits.fewest limits.every hops load.elems updates.elems) asks) report_is
    ∙ ap (λ rows. told_by rows limits.sizes.direct R T (run_changes limits.fewest limits.steady limits.every hops load.elems updates.elems) (run_moves limits.fewest limits.every hops load.elems updates.elems) asks (counts load updates R T (needs_of limits.sizes.direct R))) noted)))))

pub text_is : (limits : Limits) (load updates : Feed) (fed : InputCounts) (state : State) (asks hops : List Address) (run : Told) (text : List ℕ) → IsFed limits load updates fed state → run ≡ (printed limits load updates asks).told → hops ≡ state.engine.hops → text ≡ run_text hops run → text ≡ printed_text (printed limits load updates asks)
text_is limits load updates fed state asks hops run text f r h is =
    is ∙ (ap (λ h. run_text h run) (h ∙ f.has.stands.engine.hops) ∙ ap (run_text (hops_after [] (load.elems ++ updates.elems))) r)

-- the counts alone
pub counts_are : (limits : Limits) (load updates : Feed) (fed : InputCounts) (state : State) (routes table : List Entry) (report : Report) (n m : ℕ) (needs : FamilyNeeds)
    → map entry_as routes ≡ engine_routes state.engine → map entry_as table ≡ state.engine.table → report ≡ totals fed.load fed.updates n m needs → needs ≡ needs_of state.engine.sizes.direct (engine_routes state.engine) → n ≡ length routes → m ≡ length table → IsFed limits load updates fed state
    → report ≡ (printed limits load updates []).told.report
counts_are limits load updates fed state routes table report n m needs r t told need len long f =
    let elems : List Elem = load.elems ++ updates.elems in
    let hops : List Address = hops_after [] elems in
    let held : Candidates = after_elems [] elems in
    let R : Entries = entries_of hops held in
    let T : Entries = kept_of limits.fewest limits.every hops load.elems updates.elems in
    let s = f.has.stands in
    let candidates : state.engine.candidates ≡ held = s.engine.candidates ∙ sym (fold-append after_elem [] load.elems updates.elems) in
    let chosen : engine_routes state.engine ≡ R = ap (λ h. entries_of h state.engine.candidates) s.engine.hops ∙ ap (entries_of hops) candidates in
    let kept : state.engine.table ≡ T = s.engine.table ∙ (ap (λ b. kept_of b state.engine.every state.engine.hops load.elems updates.elems) s.fewest_is ∙ (ap (λ k. kept_of limits.fewest k state.engine.hops load.elems updates.elems) s.every_is ∙ ap (λ h. kept_of limits.fewest limits.every h load.elems updates.elems) s.engine.hops)) in
    let bits : state.engine.sizes.direct ≡ limits.sizes.direct = ap (λ (z : Sizes). z.direct) s.sizes_are in
    let needed : needs ≡ needs_of limits.sizes.direct R = need ∙ (ap (λ E. needs_of state.engine.sizes.direct E) chosen ∙ ap (λ d. needs_of d R) bits) in
    let of_routes : n ≡ length R = len ∙ (sym (length-map routes entry_as) ∙ ap length (r ∙ chosen)) in
    let of_table : m ≡ length T = long ∙ (sym (length-map table entry_as) ∙ ap length (t ∙ kept)) in
    told ∙ (counted load updates fed R T n m needs f.counted f.has.counted of_routes of_table ∙ ap (counts load updates R T) needed)

-- once the load ended, needs are those of the routes
pub needs_told : (e : EngineState) (n : FamilyNeeds) → e.loaded ≡ true → n ≡ needs_of e.sizes.direct (routes_told e) → n ≡ needs_of e.sizes.direct (engine_routes e)
needs_told e n l is = is ∙ ap (λ b. needs_of e.sizes.direct (if_loaded b (engine_routes e))) l
