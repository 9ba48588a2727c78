-- One elementary event after another.
use Rattle.std.proofs.Common.{◌≡◌, Bool, true, false, Option, ℕ, suc, ◌+◌, ◌<◌, ◌≤◌, List, [], ◌∷◌, ◌++◌, Some, None, Ok, Err, length, map, take, drop, refl, sym, ap, ◌∙◌, arith, subst, append_assoc, append-nil, length-append}
use Rattle.std.specs.Prelude.{option_map, get_or, IsErrOf}
use Rattle.std.proofs.Math.Seq.{drop-cons, take-append_seam}
use Rattle.std.proofs.lemmas.List.{take_all, take_more, take-append-drop, map-append}
use Rattle.fib_run.specs.declared.state.FeedError.{FeedError}
use Rattle.fib_run.specs.declared.state.FeedError.TheVariants.{Malformed, HopsFull, TrieFull as FeedFull, NoMemory, Fault, TooLarge}
use Rattle.std.proofs.lemmas.List.{map_push}
use Rattle.std.proofs.lemmas.List.Sums.{fold-append}
use Rattle.table_model.specs.Address.{Address, Prefix}
use Rattle.std.specs.List.Sorted.{IsStrictlySortedBy}
use Rattle.std.specs.Map.{keys_of}
use Rattle.table_model.specs.Order.{prefix_cmp}
use Rattle.table_model.specs.Changes.{Change, Add, additions}
use Rattle.table_model.specs.Entries.{Entries}
use Rattle.route_model.specs.Events.{Elem, Event}
use Rattle.route_model.specs.Choice.{Candidates, after_elem, after_elems, elems_of, elems_after}
use Rattle.route_model.proofs.Elems.{elems_more}
use Rattle.kept_model.specs.Between.{between}
use Rattle.kept_model.proofs.Merged.{first_new}
use Rattle.kept_model.specs.Feed.{hops_after, entries_of, at_event}
use Rattle.kept_model.proofs.Numbers.{hops_more}
use Rattle.kept_model.specs.Kept.{kept_at_load}
use Rattle.kept_model.specs.Told.{steady_if}
use Rattle.moves_model.specs.Reported.{counted_at, first_changes, moves_from, moves_of, told_from, told_of as event_told}
use Rattle.kept_model.specs.Kept.{changed_at}
use Rattle.kept_model.proofs.FeedSums.{snapshot_placed}
use Rattle.fib_addr.specs.Hops.{most_hops}
use Rattle.fib_due.specs.declared.outcome.MrtInput.{MrtInput}
use Rattle.fib_due.specs.declared.outcome.MrtInput.TheVariants.{Dump, Updates}
use Rattle.fib_run.specs.declared.state.State.{State}
use Rattle.fib_run.specs.Told.{changes_as, moves_told, told_changes, told_moves}
use Rattle.fib_report.specs.Views.{moves_as}
use Rattle.fib_engine.specs.Held.{engine_routes}
use Rattle.fib_engine.specs.Stands.{EndsLoad, IsLoading, IsShortFor, IsTooMany, Loads, EngineStands, TakesElem, moves_after, routes_after}
use Rattle.route_tries.specs.Sizes.{shortage, shortage_as}
use Rattle.route_tries.specs.declared.sizes.TrieFull.{TrieFull}
use Rattle.fib_due.specs.Refusals.{Limits, ManyHops, Refusal, Short, routes_by, stop_at, too_much}
use Rattle.fib_run.proofs.Refusing.{dump_fits, is_short, many_hops, stop_behind, stop_in_front, stop_none, stop_one, updates_fit}
use Rattle.fib_engine.specs.declared.error.EngineError.{EngineError}
use Rattle.fib_engine.specs.declared.error.EngineError.TheVariants as engine
use Rattle.fib_due.specs.Due.{run_changes, kept_of, run_moves}
use Rattle.fib_due.proofs.Keeping.{changes_grow, moves_grow, moves_if}
use Rattle.fib_run.specs.Standing.{EndsShort, IsOfLoad, refusal_at, StateStands, IsStopped, StateTakes, StateTakesAll, next_elems}

-- ---- what the engine has is what came before and since

pub stands_hops : (which : MrtInput) (limits : Limits) (before done : List Elem) (state : State) → StateStands which limits before done state → state.engine.hops ≡ hops_after [] (before ++ done)
stands_hops Dump limits before done state s = s.engine.hops
stands_hops Updates limits before done state s = s.engine.hops

pub stands_candidates : (which : MrtInput) (limits : Limits) (before done : List Elem) (state : State) → StateStands which limits before done state → state.engine.candidates ≡ after_elems [] (before ++ done)
stands_candidates Dump limits before done state s = s.engine.candidates
stands_candidates Updates limits before done state s = s.engine.candidates ∙ sym (fold-append after_elem [] before done)

-- the hops and the routes after one elementary event more
elems_push : (before done : List Elem) (elem : Elem) → before ++ (done ++ elem ∷ []) ≡ (before ++ done) ++ elem ∷ []
elems_push before done elem = sym (append_assoc before done (elem ∷ []))

pub after_push : (held : Candidates) (done : List Elem) (elem : Elem) → after_elems held (done ++ elem ∷ []) ≡ after_elem (after_elems held done) elem
after_push held done elem = fold-append after_elem held done (elem ∷ [])

hops_next : (which : MrtInput) (limits : Limits) (before done : List Elem) (elem : Elem) (state : State) → StateStands which limits before done state → hops_after [] ((before ++ done) ++ elem ∷ []) ≡ hops_after state.engine.hops (elem ∷ [])
hops_next which limits before done elem state s = hops_more [] (before ++ done) (elem ∷ []) ∙ ap (λ hs. hops_after hs (elem ∷ [])) (sym (stands_hops which limits before done state s))

routes_next : (which : MrtInput) (limits : Limits) (before done : List Elem) (elem : Elem) (state : State) → StateStands which limits before done state → routes_by ((before ++ done) ++ elem ∷ []) ≡ routes_after elem state.engine
routes_next which limits before done elem state s =
    ap (λ hs. entries_of hs (after_elems [] ((before ++ done) ++ elem ∷ []))) (hops_next which limits before done elem state s)
    ∙ ap (entries_of (hops_after state.engine.hops (elem ∷ []))) (after_push [] (before ++ done) elem ∙ ap (λ held. after_elem held elem) (sym (stands_candidates which limits before done state s)))

-- ---- what isn't taken

stop_here : (which : MrtInput) (limits : Limits) (before done : List Elem) (elem : Elem) (state : State) (event : ℕ) (r : Refusal) → event ≡ length (done ++ elem ∷ []) → StateStands which limits before done state → too_much which limits.sizes ((before ++ done) ++ elem ∷ []) ≡ Some r → IsStopped which limits before (done ++ elem ∷ []) event r
stop_here which limits before done elem state event r counted s much =
    let f = too_much which limits.sizes in
    let n : length done + 1 ≡ event = omega (arith, counted, length-append done (elem ∷ [])) in
    stop_behind f before done (elem ∷ []) s.fits ∙ (ap (option_map (λ t. (length done + t.0, t.1))) (stop_one f (before ++ done) elem r much) ∙ ap (λ k. Some (k, r)) n)

full_here : (which : MrtInput) (limits : Limits) (before done : List Elem) (elem : Elem) (state : State) (event : ℕ) → event ≡ length (done ++ elem ∷ []) → StateStands which limits before done state → IsTooMany elem state.engine → IsStopped which limits before (done ++ elem ∷ []) event ManyHops
full_here which limits before done elem state event counted s over =
    stop_here which limits before done elem state event ManyHops counted s (many_hops which limits.sizes ((before ++ done) ++ elem ∷ []) (rw (hops_next which limits before done elem state s) over))

few_after : (hops : List Address) (elem : Elem) → (most_hops < length (hops_after hops (elem ∷ [])) → ⊥) → length (hops_after hops (elem ∷ [])) ≤ most_hops
few_after hops elem n = omega (arith, n)

few_next : (which : MrtInput) (limits : Limits) (before done : List Elem) (elem : Elem) (state : State) → StateStands which limits before done state → (IsTooMany elem state.engine → ⊥) → length (hops_after [] ((before ++ done) ++ elem ∷ [])) ≤ most_hops
few_next which limits before done elem state s n = rw (hops_next which limits before done elem state s) (few_after state.engine.hops elem n)

short_here : (which : MrtInput) (limits : Limits) (before done : List Elem) (elem : Elem) (state : State) (event : ℕ) (full : TrieFull) → event ≡ length (done ++ elem ∷ []) → which ≡ Updates → StateStands which limits before done state → (IsTooMany elem state.engine → ⊥) → IsShortFor state.engine (routes_after elem state.engine) full
    → IsStopped which limits before (done ++ elem ∷ []) event (Short (shortage_as full))
short_here which limits before done elem state event full counted w s n short =
    let lacks : shortage limits.sizes (routes_by ((before ++ done) ++ elem ∷ [])) ≡ Some (shortage_as full) = rw (routes_next which limits before done elem state s, ← s.sizes_are) short in
    let much = is_short limits.sizes ((before ++ done) ++ elem ∷ []) (shortage_as full) (few_next which limits before done elem state s n) lacks in
    stop_here which limits before done elem state event (Short (shortage_as full)) counted s (subst (λ x. too_much x limits.sizes ((before ++ done) ++ elem ∷ []) ≡ Some (Short (shortage_as full))) (sym w) much)

-- an elementary event of the load that the engine didn't take
pub not_loaded : {X : Type 0} (which : MrtInput) (event : ℕ) (elem : Elem) (old new : State) (error : EngineError) (r : FeedError) → r ≡ refusal_at event error → (IsErrOf {T = X} (Err error) engine.HopsFull → IsTooMany elem old.engine) → ((t : TrieFull) → IsErrOf {T = X} (Err error) (engine.TrieFull t) → ⊥)
    → StateTakes {T = Unit {0}} which event (elem ∷ []) old (Err r) new
not_loaded which event elem old new engine.HopsFull r e full never = rw e (λ limits before done counted s. full_here which limits before done elem old event counted s (full refl))
not_loaded which event elem old new (engine.TrieFull t) r e full never = absurd (never t refl)
not_loaded which event elem old new engine.NoMemory r e full never = rw e tt

-- one of the updates
pub not_taken : {X : Type 0} (which : MrtInput) (event : ℕ) (elem : Elem) (old new : State) (error : EngineError) (r : FeedError) → which ≡ Updates → r ≡ refusal_at event error → (IsErrOf {T = X} (Err error) engine.HopsFull → IsTooMany elem old.engine) → (IsTooMany elem old.engine → IsErrOf {T = X} (Err error) engine.HopsFull)
    → ((t : TrieFull) → IsErrOf {T = X} (Err error) (engine.TrieFull t) → IsShortFor old.engine (routes_after elem old.engine) t) → StateTakes {T = Unit {0}} which event (elem ∷ []) old (Err r) new
not_taken which event elem old new engine.HopsFull r w e full over short = rw e (λ limits before done counted s. full_here which limits before done elem old event counted s (full refl))
not_taken which event elem old new (engine.TrieFull t) r w e full over short = rw e (λ limits before done counted s. short_here which limits before done elem old event t counted w s (λ many. let is = over many in cc) (short t refl))
not_taken which event elem old new engine.NoMemory r w e full over short = rw e tt

-- one that it took brings no hop too many
pub took_it : {X : Type 0} (x : X) (elem : Elem) (old : State) → (IsTooMany elem old.engine → IsErrOf {E = EngineError} (Ok x) engine.HopsFull) → IsTooMany elem old.engine → ⊥
took_it x elem old full over = let e = full over in cc

-- ---- the state after one more

fits_push : (which : MrtInput) (limits : Limits) (before done : List Elem) (elem : Elem) (old : State) → StateStands which limits before done old → too_much which limits.sizes ((before ++ done) ++ elem ∷ []) ≡ None → stop_at (too_much which limits.sizes) before (done ++ elem ∷ []) ≡ None
fits_push which limits before done elem old s none =
    let f = too_much which limits.sizes in
    stop_behind f before done (elem ∷ []) s.fits ∙ ap (option_map (λ t. (length done + t.0, t.1))) (stop_none f (before ++ done) elem none)

few_push : (elem : Elem) (old new : State) → (IsTooMany elem old.engine → ⊥) → new.engine.hops ≡ hops_after old.engine.hops (elem ∷ []) → length new.engine.hops ≤ most_hops
few_push elem old new n h = rw h (few_after old.engine.hops elem n)

-- an elementary event of the load
pub loads_one : (event : ℕ) (elem : Elem) (old new : State) → Loads elem old.engine new.engine → ((load : List Elem) → IsLoading load old.engine → IsLoading (load ++ elem ∷ []) new.engine) → (IsTooMany elem old.engine → ⊥) → new.fewest ≡ old.fewest → new.steady ≡ old.steady → told_changes new ≡ told_changes old → told_moves new ≡ told_moves old
    → StateTakes {T = Unit {0}} Dump event (elem ∷ []) old (Ok tt) new
loads_one event elem old new l loading n f y same none = λ limits before done counted s. record {
  engine = subst (λ es. IsLoading es new.engine) (sym (elems_push before done elem)) (loading (before ++ done) s.engine);
  every_is = l.every ∙ s.every_is;
  fewest_is = l.fewest ∙ s.fewest_is;
  counted_is = f ∙ s.counted_is;
  steady_is = y ∙ s.steady_is;
  sizes_are = l.sizes ∙ s.sizes_are;
  few = few_push elem old new n l.hops;
  fits = fits_push Dump limits before done elem old s (dump_fits limits.sizes ((before ++ done) ++ elem ∷ []) (few_next Dump limits before done elem old s n));
  changes = same ∙ s.changes;
  moves = none ∙ s.moves;
}

-- tries of the routes after an elementary event that was taken have room
room_next : (limits : Limits) (before done : List Elem) (elem : Elem) (old new : State) → StateStands Updates limits before done old → TakesElem elem old.engine new.engine → shortage new.engine.sizes (engine_routes new.engine) ≡ None → shortage limits.sizes (routes_by ((before ++ done) ++ elem ∷ [])) ≡ None
room_next limits before done elem old new s t room =
    let routes : engine_routes new.engine ≡ routes_after elem old.engine = ap (λ hs. entries_of hs new.engine.candidates) t.hops ∙ ap (entries_of (hops_after old.engine.hops (elem ∷ []))) t.candidates in
    ap (shortage limits.sizes) (routes_next Updates limits before done elem old s ∙ sym routes) ∙ (ap (λ z. shortage z (engine_routes new.engine)) (sym (t.sizes ∙ s.sizes_are)) ∙ room)

-- a list that was changed in place, all of it, is what its items became
pub all_changed : {A : Type 0} (n : ℕ) (now before : List A) → length now ≡ n → take n (now ++ drop (length now) before) ≡ now
all_changed n now before e = ap (λ k. take k (now ++ drop (length now) before)) (sym e) ∙ take-append_seam now (drop (length now) before)

-- what is told of an elementary event that a state takes
abbrev pub told_of : Elem → State → List Change
told_of elem old = event_told old.engine.fewest old.steady old.engine.every (hops_after old.engine.hops (elem ∷ [])) (old.engine.events + 1) old.engine.candidates old.engine.table elem

-- an elementary event of updates
pub takes_one : (event : ℕ) (elem : Elem) (old new : State) (changes : List Change) → TakesElem elem old.engine new.engine → ((load elems : List Elem) → EngineStands load elems old.engine → EngineStands load (elems ++ elem ∷ []) new.engine) → (IsTooMany elem old.engine → ⊥)
    → shortage new.engine.sizes (engine_routes new.engine) ≡ None → new.fewest ≡ old.fewest → new.steady ≡ old.steady → changes ≡ told_of elem old → told_changes new ≡ told_changes old ++ at_event event changes → told_moves new ≡ told_moves old ++ moves_told old.fewest event new.engine.moves → StateTakes {T = Unit {0}} Updates event (elem ∷ []) old (Ok tt) new
takes_one event elem old new changes t stands n room f y c grown moved = λ limits before done counted s. record {
  engine = stands before done s.engine;
  every_is = t.every ∙ s.every_is;
  fewest_is = t.fewest ∙ s.fewest_is;
  counted_is = f ∙ s.counted_is;
  steady_is = y ∙ s.steady_is;
  sizes_are = t.sizes ∙ s.sizes_are;
  few = few_push elem old new n t.hops;
  fits = fits_push Updates limits before done elem old s (updates_fit limits.sizes ((before ++ done) ++ elem ∷ []) (few_next Updates limits before done elem old s n) (room_next limits before done elem old new s t room));
  changes = all limits before done counted s;
  moves = all_moves limits before done counted s;
} where
  counted_on : (limits : Limits) (before done : List Elem) → event ≡ length (done ++ elem ∷ []) → StateStands Updates limits before done old → event ≡ old.engine.events + 1
  counted_on limits before done counted s = omega (arith, counted, s.engine.events, length-append done (elem ∷ []))

  table_on : (limits : Limits) (before done : List Elem) → StateStands Updates limits before done old → old.engine.table ≡ kept_of limits.fewest limits.every old.engine.hops before done
  table_on limits before done s = s.engine.table ∙ (ap (λ b. kept_of b old.engine.every old.engine.hops before done) s.fewest_is ∙ ap (λ k. kept_of limits.fewest k old.engine.hops before done) s.every_is)

  all : (limits : Limits) (before done : List Elem) → event ≡ length (done ++ elem ∷ []) → StateStands Updates limits before done old → told_changes new ≡ run_changes limits.fewest limits.steady limits.every new.engine.hops before (done ++ elem ∷ [])
  all limits before done counted s =
      let told : Bool → Bool → ℕ → List Change = λ f b k. event_told f b k (hops_after old.engine.hops (elem ∷ [])) (old.engine.events + 1) old.engine.candidates old.engine.table elem in
      let by : changes ≡ told limits.fewest limits.steady limits.every = c ∙ (ap (λ g. told g old.steady old.engine.every) s.fewest_is ∙ (ap (λ b. told limits.fewest b old.engine.every) s.steady_is ∙ ap (told limits.fewest limits.steady) s.every_is)) in
      let first = run_changes limits.fewest limits.steady limits.every old.engine.hops before done in
      grown
      ∙ (ap (λ cs. cs ++ at_event event changes) s.changes
      ∙ (ap (λ cs. first ++ at_event event cs) by
      ∙ (ap (λ m. first ++ at_event m (told limits.fewest limits.steady limits.every)) (counted_on limits before done counted s)
      ∙ (changes_grow limits.fewest limits.every before done elem old.engine.hops old.engine.candidates old.engine.table old.engine.events s.engine.hops s.engine.candidates (table_on limits before done s) s.engine.events limits.steady
      ∙ ap (λ hs. run_changes limits.fewest limits.steady limits.every hs before (done ++ elem ∷ [])) (sym t.hops)))))

  -- the row of the event, if it has one
  row_is : (b : Bool) → b ≡ old.engine.fewest → (at : Option Prefix) (n : ℕ) (cs : List Change) → moves_told b n (option_map (λ p. length cs) at) ≡ moves_if b (counted_at at n cs)
  row_is false e None n cs = refl
  row_is false e (Some p) n cs = refl
  row_is true e None n cs = refl
  row_is true e (Some p) n cs = refl

  all_moves : (limits : Limits) (before done : List Elem) → event ≡ length (done ++ elem ∷ []) → StateStands Updates limits before done old → told_moves new ≡ run_moves limits.fewest limits.every new.engine.hops before (done ++ elem ∷ [])
  all_moves limits before done counted s =
      let now = hops_after old.engine.hops (elem ∷ []) in
      let at = changed_at old.engine.candidates elem in
      let step : Bool → List Change = λ b. first_changes b now old.engine.candidates old.engine.table elem in
      let row : moves_told old.fewest event new.engine.moves ≡ moves_if limits.fewest (moves_of limits.fewest now (old.engine.events + 1) old.engine.candidates old.engine.table elem) =
      ap (moves_told old.fewest event) t.moves
      ∙ (ap (λ b. moves_told b event (moves_after elem old.engine)) s.counted_is
      ∙ (ap (λ b. moves_told limits.fewest event (option_map (λ p. length (step b)) at)) s.fewest_is
      ∙ (row_is limits.fewest (sym s.fewest_is) at event (step limits.fewest) ∙ ap (λ m. moves_if limits.fewest (counted_at at m (step limits.fewest))) (counted_on limits before done counted s))))
      in
      moved
      ∙ (ap (λ ms. ms ++ moves_told old.fewest event new.engine.moves) s.moves
      ∙ (ap (λ ms. run_moves limits.fewest limits.every old.engine.hops before done ++ ms) row
      ∙ (moves_grow limits.fewest limits.every before done elem old.engine.hops old.engine.candidates old.engine.table old.engine.events s.engine.hops s.engine.candidates (table_on limits before done s) s.engine.events
      ∙ ap (λ hs. run_moves limits.fewest limits.every hs before (done ++ elem ∷ [])) (sym t.hops))))

-- ---- the end of the load

last_none : {A : Type 0} (xs ys : List A) → xs ++ ys ≡ [] → ys ≡ []
last_none [] ys e = e
last_none (x ∷ xs) ys e = cc

-- what makes a table of none adds its entries, where these stand in order
between_none : (T : Entries) → IsStrictlySortedBy prefix_cmp (keys_of T) → between [] T ≡ additions T
unfolding between IsStrictlySortedBy
between_none [] s = refl
between_none (e ∷ T) s = first_new e [] T tt s.0 ∙ ap (λ cs. Add e.0 e.1 ∷ cs) (between_none T s.1)

pub load_ended : (limits : Limits) (load : List Elem) (old new : State) → EndsLoad old.engine new.engine → ((load : List Elem) → IsLoading load old.engine → EngineStands load [] new.engine) → new.fewest ≡ old.fewest → new.steady ≡ old.steady
    → (IsStrictlySortedBy prefix_cmp (keys_of new.engine.table) → additions new.added ≡ steady_if new.steady (additions new.engine.table)) → new.changes.items ≡ old.changes.items → new.moves.items ≡ old.moves.items
    → StateStands Dump limits [] load old → StateStands Updates limits load [] new
unfolding stop_at told_from moves_from
load_ended limits load old new e stands f y there same kept s = record {
  engine = stands load s.engine;
  every_is = e.every ∙ s.every_is;
  fewest_is = e.fewest ∙ s.fewest_is;
  counted_is = f ∙ s.counted_is;
  steady_is = steady;
  sizes_are = e.sizes ∙ s.sizes_are;
  few = rw e.hops s.few;
  fits = refl;
  changes = ap (λ cs. at_event 0 cs ++ changes_as new.changes.items) (there sorted ∙ (ap (λ b. steady_if b (additions new.engine.table)) steady ∙ ap (λ L. steady_if limits.steady (additions L)) table))
      ∙ (ap (λ cs. at_event 0 (steady_if limits.steady (additions T)) ++ cs) none ∙ ap (λ cs. at_event 0 (steady_if limits.steady cs) ++ []) (sym (between_none T placed)));
  moves = ap (map moves_as) kept ∙ (s.moves ∙ no_moves limits.fewest);
} where
  no_moves : (b : Bool) → [] ≡ run_moves b limits.every new.engine.hops load []
  no_moves false = refl
  no_moves true = refl

  T : Entries
  T = kept_at_load new.engine.hops (after_elems [] load)

  steady : new.steady ≡ limits.steady
  steady = y ∙ s.steady_is

  table : new.engine.table ≡ T
  table = e.table ∙ (ap (kept_at_load old.engine.hops) s.engine.candidates ∙ ap (λ hs. kept_at_load hs (after_elems [] load)) (sym e.hops))

  placed : IsStrictlySortedBy prefix_cmp (keys_of T)
  placed = (snapshot_placed (entries_of new.engine.hops (after_elems [] load)) []).1

  sorted : IsStrictlySortedBy prefix_cmp (keys_of new.engine.table)
  sorted = subst (λ (L : Entries). IsStrictlySortedBy prefix_cmp (keys_of L)) (sym table) placed

  none : changes_as new.changes.items ≡ []
  none = ap changes_as same ∙ last_none (at_event 0 (additions old.added)) (changes_as old.changes.items) s.changes

-- its end isn't reached
pub load_short : (limits : Limits) (load : List Elem) (old : State) (full : TrieFull) → StateStands Dump limits [] load old → IsShortFor old.engine (engine_routes old.engine) full → shortage limits.sizes (routes_by load) ≡ Some (shortage_as full)
load_short limits load old full s short =
    let routes : engine_routes old.engine ≡ routes_by load = ap (λ hs. entries_of hs old.engine.candidates) s.engine.hops ∙ ap (entries_of (hops_after [] load)) s.engine.candidates in
    ap (shortage limits.sizes) (sym routes) ∙ (ap (λ z. shortage z (engine_routes old.engine)) (sym s.sizes_are) ∙ short)

pub ends_short : {X : Type 0} (limits : Limits) (load : List Elem) (old : State) (error : EngineError) (r : FeedError) → r ≡ refusal_at 0 error → (IsErrOf {T = X} (Err error) engine.HopsFull → ⊥) → ((t : TrieFull) → IsErrOf {T = X} (Err error) (engine.TrieFull t) → IsShortFor old.engine (engine_routes old.engine) t)
    → StateStands Dump limits [] load old → EndsShort limits load r
ends_short limits load old engine.HopsFull r e never short s = absurd (never refl)
ends_short limits load old (engine.TrieFull t) r e never short s = rw e (refl, load_short limits load old t s (short t refl))
ends_short limits load old engine.NoMemory r e never short s = rw e tt

pub of_load : {X : Type 0} (error : EngineError) (r : FeedError) → r ≡ refusal_at 0 error → (IsErrOf {T = X} (Err error) engine.HopsFull → ⊥) → IsOfLoad r
of_load engine.HopsFull r e never = absurd (never refl)
of_load (engine.TrieFull t) r e never = rw e tt
of_load engine.NoMemory r e never = rw e tt

-- ---- events

-- the elementary events of more events
pub next_more : (before done : List Elem) (xs ys : List Event) → (done ++ next_elems before done xs) ++ next_elems before (done ++ next_elems before done xs) ys ≡ done ++ next_elems before done (xs ++ ys)
next_more before done xs ys =
    let held : Candidates = after_elems [] (before ++ done) in
    let same : after_elems [] (before ++ (done ++ next_elems before done xs)) ≡ after_elems held (elems_after held xs) = ap (after_elems []) (sym (append_assoc before done (next_elems before done xs))) ∙ fold-append after_elem [] (before ++ done) (next_elems before done xs) in
    append_assoc done (next_elems before done xs) (next_elems before (done ++ next_elems before done xs) ys)
    ∙ ap (λ zs. done ++ zs) (ap (λ h. elems_after held xs ++ elems_after h ys) same ∙ sym (elems_more held xs ys))

-- those of one event are the ones that the candidates give
pub next_one : (which : MrtInput) (limits : Limits) (before done : List Elem) (event : Event) (state : State) → StateStands which limits before done state → next_elems before done (event ∷ []) ≡ elems_of state.engine.candidates event
unfolding elems_after
next_one which limits before done event state s = append-nil (elems_of (after_elems [] (before ++ done)) event) ∙ ap (λ h. elems_of h event) (sym (stands_candidates which limits before done state s))

pub stop_more : (which : MrtInput) (limits : Limits) (before xs ys : List Elem) (n : ℕ) (r : Refusal) → IsStopped which limits before xs n r → IsStopped which limits before (xs ++ ys) n r
stop_more which limits before xs ys n r stopped = stop_in_front (too_much which limits.sizes) before xs ys (n, r) stopped

-- ---- loops over lists of the code

whole : {A : Type 0} (items : List A) (i : ℕ) (x : A) → i < length items → x ≡ get_or items i x → items ≡ take i items ++ x ∷ drop (suc i) items
whole items i x lt is = sym (take-append-drop i items) ∙ (ap (λ xs. take i items ++ xs) (drop-cons items i x lt) ∙ ap (λ y. take i items ++ y ∷ drop (suc i) items) (sym is))

pub take_next : {A B : Type 0} (view : A → B) (items : List A) (i : ℕ) (x : A) → i < length items → x ≡ get_or items i x → map view (take (i + 1) items) ≡ map view (take i items) ++ view x ∷ []
take_next view items i x lt is = ap (map view) (take_more items i x lt ∙ ap (λ y. take i items ++ y ∷ []) (sym is)) ∙ map_push view (take i items) x

pub one_of_more : {A B : Type 0} (view : A → B) (items : List A) (i : ℕ) (x : A) (done : List B) → i < length items → x ≡ get_or items i x → ((done ++ map view (take i items)) ++ view x ∷ []) ++ map view (drop (suc i) items) ≡ done ++ map view items
one_of_more view items i x done lt is =
    append_assoc (done ++ map view (take i items)) (view x ∷ []) (map view (drop (suc i) items))
    ∙ (append_assoc done (map view (take i items)) (view x ∷ map view (drop (suc i) items))
    ∙ ap (λ ys. done ++ ys) (sym (map-append view (take i items) (x ∷ drop (suc i) items)) ∙ ap (map view) (sym (whole items i x lt is))))

-- what holds of the front of a list holds of it all at the loop's end
pub all_taken : {A B : Type 0} (view : A → B) (items : List A) (i : ℕ) → length items ≤ i → map view (take i items) ≡ map view items
all_taken view items i le = ap (map view) (take_all i items le)

-- ---- refusals

-- the elementary events of an input up to the one that is refused, and those behind it
pub record Apart (which : MrtInput) (limits : Limits) (before : List Elem) (n : ℕ) (elem : Elem) (mid : State) (all : List Elem) : Type 0 where
  pub front : List Elem
  pub rest : List Elem
  pub counted : n ≡ length (front ++ elem ∷ [])
  pub stands : StateStands which limits before front mid
  pub same : (front ++ elem ∷ []) ++ rest ≡ all

pub refused_step : (which : MrtInput) (count n : ℕ) (events : List Event) (elem : Elem) (old mid new after : State) (error : FeedError) → StateTakes {T = Unit {0}} which n (elem ∷ []) mid (Err error) new
    → ((limits : Limits) (before done : List Elem) → count ≡ length done → StateStands which limits before done old → Apart which limits before n elem mid (done ++ next_elems before done events)) → StateTakesAll which count events old (Err error) after
refused_step which count n events elem old mid new after (HopsFull m) taken at = λ limits before done counted s.
    let a = at limits before done counted s in
    subst (λ xs. IsStopped which limits before xs m ManyHops) a.same (stop_more which limits before (a.front ++ elem ∷ []) a.rest m ManyHops (taken limits before a.front a.counted a.stands))
refused_step which count n events elem old mid new after (FeedFull m full) taken at = λ limits before done counted s.
    let a = at limits before done counted s in
    subst (λ xs. IsStopped which limits before xs m (Short (shortage_as full))) a.same (stop_more which limits before (a.front ++ elem ∷ []) a.rest m (Short (shortage_as full)) (taken limits before a.front a.counted a.stands))
refused_step which count n events elem old mid new after (Malformed malformed) taken at = taken
refused_step which count n events elem old mid new after Fault taken at = taken
refused_step which count n events elem old mid new after TooLarge taken at = taken
refused_step which count n events elem old mid new after NoMemory taken at = tt

-- the same of events
pub record ApartEvents (which : MrtInput) (limits : Limits) (before : List Elem) (n : ℕ) (event : Event) (mid : State) (all : List Elem) : Type 0 where
  pub front : List Elem
  pub rest : List Elem
  pub counted : n ≡ length front
  pub stands : StateStands which limits before front mid
  pub same : (front ++ next_elems before front (event ∷ [])) ++ rest ≡ all

pub refused_event : (which : MrtInput) (count n : ℕ) (events : List Event) (event : Event) (old mid new after : State) (error : FeedError) → StateTakesAll which n (event ∷ []) mid (Err error) new
    → ((limits : Limits) (before done : List Elem) → count ≡ length done → StateStands which limits before done old → ApartEvents which limits before n event mid (done ++ next_elems before done events)) → StateTakesAll which count events old (Err error) after
refused_event which count n events event old mid new after (HopsFull m) taken at = λ limits before done counted s.
    let a = at limits before done counted s in
    subst (λ xs. IsStopped which limits before xs m ManyHops) a.same (stop_more which limits before (a.front ++ next_elems before a.front (event ∷ [])) a.rest m ManyHops (taken limits before a.front a.counted a.stands))
refused_event which count n events event old mid new after (FeedFull m full) taken at = λ limits before done counted s.
    let a = at limits before done counted s in
    subst (λ xs. IsStopped which limits before xs m (Short (shortage_as full))) a.same (stop_more which limits before (a.front ++ next_elems before a.front (event ∷ [])) a.rest m (Short (shortage_as full)) (taken limits before a.front a.counted a.stands))
refused_event which count n events event old mid new after (Malformed malformed) taken at = taken
refused_event which count n events event old mid new after Fault taken at = taken
refused_event which count n events event old mid new after TooLarge taken at = taken
refused_event which count n events event old mid new after NoMemory taken at = tt

-- the elementary events of a list are those of its front, and then those of what follows
pub next_whole : {A : Type 0} (view : A → Event) (items : List A) (i : ℕ) (x : A) (before done : List Elem) → i < length items → x ≡ get_or items i x
    → (rest : List Elem) × (((done ++ next_elems before done (map view (take i items))) ++ next_elems before (done ++ next_elems before done (map view (take i items))) (view x ∷ [])) ++ rest ≡ done ++ next_elems before done (map view items))
next_whole view items i x before done lt is =
    let front : List Event = map view (take i items) ++ view x ∷ [] in
    let same : front ++ map view (drop (suc i) items) ≡ map view items =
    append_assoc (map view (take i items)) (view x ∷ []) (map view (drop (suc i) items)) ∙ (sym (map-append view (take i items) (x ∷ drop (suc i) items)) ∙ ap (map view) (sym (whole items i x lt is))) in (
      next_elems before (done ++ next_elems before done front) (map view (drop (suc i) items)),
      ap (λ zs. zs ++ next_elems before (done ++ next_elems before done front) (map view (drop (suc i) items))) (next_more before done (map view (take i items)) (view x ∷ []))
          ∙ (next_more before done front (map view (drop (suc i) items)) ∙ ap (λ es. done ++ next_elems before done es) same),
    )

pub next_none : (before done : List Elem) → done ++ next_elems before done [] ≡ done
unfolding elems_after
next_none before done = append-nil done

pub next_counted : (done : List Elem) (elem : Elem) (n count : ℕ) → count ≡ length done → n ≡ count + 1 → n ≡ length (done ++ elem ∷ [])
next_counted done elem n count c e = omega (arith, c, e, length-append done (elem ∷ []))

-- one elementary event more was taken
pub taken_push : (which : MrtInput) (limits : Limits) (before done front all : List Elem) (elem : Elem) (count : ℕ) (old new : State) → (count ≡ length (done ++ front)) × StateStands which limits before (done ++ front) old → StateTakes {T = Unit {0}} which (count + 1) (elem ∷ []) old (Ok tt) new → all ≡ front ++ elem ∷ []
    → (count + 1 ≡ length (done ++ all)) × StateStands which limits before (done ++ all) new
taken_push which limits before done front all elem count old new so_far takes next =
    let at : count + 1 ≡ length ((done ++ front) ++ elem ∷ []) = next_counted (done ++ front) elem (count + 1) count so_far.0 refl in
    let same : (done ++ front) ++ elem ∷ [] ≡ done ++ all = append_assoc done front (elem ∷ []) ∙ ap (λ es. done ++ es) (sym next) in
    (at ∙ ap length same, subst (λ es. StateStands which limits before es new) same (takes limits before (done ++ front) at so_far.1))

-- an event that is one elementary event was taken, or wasn't
pub event_taken : (which : MrtInput) (event : Event) (elem : Elem) (count : ℕ) (old new : State) → elem ∷ [] ≡ elems_of old.engine.candidates event → StateTakes {T = Unit {0}} which (count + 1) (elem ∷ []) old (Ok tt) new → StateTakesAll which count (event ∷ []) old (Ok (count + 1)) new
event_taken which event elem count old new is takes = λ limits before done counted s.
    let at : count + 1 ≡ length (done ++ elem ∷ []) = next_counted done elem (count + 1) count counted refl in
    let all : done ++ elem ∷ [] ≡ done ++ next_elems before done (event ∷ []) = ap (λ es. done ++ es) (is ∙ sym (next_one which limits before done event old s)) in
    (at ∙ ap length all, subst (λ es. StateStands which limits before es new) all (takes limits before done at s))

pub event_refused : (which : MrtInput) (event : Event) (elem : Elem) (count : ℕ) (old new after : State) (error : FeedError) → elem ∷ [] ≡ elems_of old.engine.candidates event → StateTakes {T = Unit {0}} which (count + 1) (elem ∷ []) old (Err error) new → StateTakesAll which count (event ∷ []) old (Err error) after
event_refused which event elem count old new after error is takes = refused_step which count (count + 1) (event ∷ []) elem old old new after error takes (λ limits before done counted s. record {
  front = done;
  rest = [];
  counted = next_counted done elem (count + 1) count counted refl;
  stands = s;
  same = append-nil (done ++ elem ∷ []) ∙ ap (λ es. done ++ es) (is ∙ sym (next_one which limits before done event old s));
})
