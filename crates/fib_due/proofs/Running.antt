-- What holds of all that a run may print.
use Rattle.std.proofs.Common.{◌≡◌, ℕ, ◌+◌, ◌≤◌, List, [], ◌∷◌, ◌++◌, Option, Some, None, Result, Ok, Err, length, take, drop, refl, sym, ap, ◌∙◌, subst, append_assoc, length-append}
use Rattle.std.proofs.lemmas.List.{length-take-le, take-append-drop}
use Rattle.std.proofs.lemmas.List.Sums.{fold-append}
use Rattle.std.specs.List.{AllByRecursion}
use Rattle.octet_fields.specs.Field.{◌>>=◌}
use Rattle.table_model.specs.Address.{Address}
use Rattle.table_model.specs.Changes.{Change, sum_of}
use Rattle.table_model.specs.Entries.{AlikeInBoth, Entries, match_in, of_family}
use Rattle.route_model.specs.Events.{Elem, Event, Announce, Withdraw, Down, IsEvent}
use Rattle.printed_text.specs.Rows.{Vrp}
use Rattle.fib_rov.specs.Rov.{judged_by_vrps, left_in, left_of, state_of}
use Rattle.fib_rov.specs.declared.state.State.{State}
use Rattle.fib_rov.specs.declared.state.State.TheVariants as rov
use Rattle.route_model.specs.Choice.{AreCandidates, Candidates, IsElem, after_elem, after_elems}
use Rattle.route_model.proofs.Elems.{candidates_stay, elems_of_events}
use Rattle.route_model.proofs.Said.{none_yet}
use Rattle.wire_model.specs.Input.{Progress, Stopped, input}
use Rattle.wire_model.proofs.Told.{read_events}
use Rattle.table_model.proofs.Both.{aggregates_are, aggregates_sorted}
use Rattle.table_model.specs.Width.{width}
use Rattle.table_model.specs.Table.{Alike}
use Rattle.table_model.specs.Both.{LeastInBoth}
use Rattle.kept_model.proofs.Held.{Placed}
use Rattle.kept_model.specs.Feed.{hops_after, entries_of}
use Rattle.kept_model.proofs.Tables.{entries_sorted}
use Rattle.kept_model.specs.Kept.{changed_at, kept_at_load, kept_by}
use Rattle.kept_model.specs.Meanwhile.{AnswerMeanwhile}
use Rattle.moves_model.specs.Moved.{table_by}
use Rattle.moves_model.specs.Reported.{moves_of_run, told_of_run}
use Rattle.moves_model.proofs.Meanwhile.{meanwhile}
use Rattle.moves_model.proofs.Moved.{from_placed}
use Rattle.moves_model.proofs.Reported.{run_sum, table_step}
use Rattle.fib_same.specs.Due.{same_at}
use Rattle.router_moves.specs.Due.{router_at}
use Rattle.router_moves.specs.Checked.{claimed_at}
use Rattle.fib_words.specs.Commands.{Named, Asked, Run, Check, Make, Steps, Same, Save, Moves, CheckMoves, command_of}
use Rattle.fib_due.proofs.Replies.{claim_ran, moves_ran, same_ran, save_ran, saved_only}
use Rattle.printed_text.specs.Used.{Used}
use Rattle.fib_due.specs.declared.outcome.MrtInput.{MrtInput}
use Rattle.fib_due.specs.declared.outcome.MrtInput.TheVariants.{Dump, Updates}
use Rattle.std.specs.Prelude.{Bool, true, false, not, ◌&&◌}
use Rattle.fib_io.specs.Pieces.{octets_read}
use Rattle.poptrie_build.specs.Tries.{visits_of}
use Rattle.fib_report.specs.Views.{Answer}
use Rattle.mrt_read.specs.Cuts.{is_cut, is_small}
use Rattle.fib_due.specs.Stops.{Stop, bad_record, records_due, told_content, unless_stopped, whole_records, with_room}
use Rattle.fib_due.specs.Refusals.{Limits, Refusal, routes_by, stop_at, too_much}
use Rattle.route_tries.specs.Sizes.{Shortage, Sizes, shortage}
use Rattle.router_steps.specs.Stepping.{Stepping}
use Rattle.fib_due.specs.Due.{Feed, Printed, stepped, stepping_at, printed, asks_at, feed_at, feeds_at, limits_of, load_at, made, made_at, sizes_of, feed_of, feed_in, elems_in, read_part, run_changes, kept_of, run_moves, told_at, run_at, used_at, vrps_at, output_at, ran, checked, due, usage, answers_to, saved_at}
use Rattle.fib_due.specs.Proves.{IfRan}
use Rattle.fib_due.specs.Runs.{IfDue, SumsUp, Forwards, Answers, HasLeast, HasAggregate, Certified, InPrefixOrder, IsInOrder, HasHops}
use Rattle.fib_due.specs.Keeps.{Follows, HasTable, HasRow, KeepsTables, MissesNone, MovesFewest, RenewsLeast, routes_before_event, routes_then, RepairsFewest, RepairsWithin, changes_to, entries_besides}
use Rattle.fib_due.proofs.Addressed.{has_hops}
use Rattle.fib_due.proofs.Certifying.{certified_least, least_in_both}
use Rattle.fib_due.proofs.Moving.{has_row, rows_say}
use Rattle.fib_due.proofs.Keeping.{alike_after, fewest_by, in_order, least_after, loaded_placed, none_due, none_past, outside_by, sum_is, table_is}

-- ---- what an input brings is of prefixes and peers that there are

went_on : (which : MrtInput) (o : Option (ℕ × Refusal)) (next : Result Feed Stop) (feed : Feed) → unless_stopped which o next ≡ Ok feed → next ≡ Ok feed
went_on which None next feed e = e
went_on which (Some s) next feed e = absurd cc

abbrev brought : Feed → Result Feed Stop
brought feed = Ok feed

same_feed : (f g : Feed) → brought f ≡ brought g → f ≡ g
same_feed f g e = cc

-- so is what is left of events that are judged
one_left : (vrps : List Vrp) (e : Event) → IsEvent e → IsEvent (judged_by_vrps vrps e).0
one_left vrps (Announce via p path hop origin) is = by_state (state_of vrps p origin)
  where
    by_state : (s : State) → IsEvent (left_in s (Announce via p path hop origin) (Withdraw via p)).0
    by_state (rov.Invalid n) = (is.0, is.1)
    by_state (rov.Valid n) = is
    by_state rov.NotFound = is
one_left vrps (Withdraw via p) is = is
one_left vrps (Down peer) is = is

left_proper : (vrps : List Vrp) (events : List Event) → AllByRecursion IsEvent events → AllByRecursion IsEvent (left_of vrps events)
unfolding left_of
left_proper vrps [] all = tt
left_proper vrps (e ∷ events) all = (one_left vrps e all.0, left_proper vrps events all.1)

feed_proper : (z : Sizes) (vrps : List Vrp) (which : MrtInput) (before : List Elem) (octets : List ℕ) (feed : Feed) → AllByRecursion IsElem before → feed_of z vrps which before octets ≡ Ok feed → AllByRecursion IsElem feed.elems
unfolding feed_of
feed_proper z vrps which before octets feed p e = by_input (is_small octets) (input (octets_read octets)) refl (went_on which (stop_at (too_much which z) before (elems_in vrps before (read_part (input (octets_read octets))))) (records_due which octets >>= λ read. Ok (feed_in vrps before read)) feed e)
  where
    by_input : (ends : Bool) (r : Result Progress Stopped) → input (octets_read octets) ≡ r → (whole_records which ends (is_cut (octets_read octets)) r >>= λ read. Ok (feed_in vrps before read)) ≡ Ok feed → AllByRecursion IsElem feed.elems
    by_input true (Ok read) is e = subst (λ (f : Feed). AllByRecursion IsElem f.elems) (same_feed (feed_in vrps before read) feed e) (elems_of_events (after_elems [] before) (left_of vrps read.events) (candidates_stay [] before none_yet p) (left_proper vrps read.events (read_events (octets_read octets) read is)))
    by_input false (Ok read) is e = absurd cc
    by_input ends (Err stopped) is e = absurd (bad (not ends && is_cut (octets_read octets) stopped.read.records) e) where
      bad : (b : Bool) → (bad_record which b stopped >>= λ read. Ok (feed_in vrps before read)) ≡ Ok feed → ⊥
      bad true e = cc
      bad false e = cc

named_proper : (z : Sizes) (content : List ℕ → Option (List ℕ)) (vrps : List Vrp) (which : MrtInput) (before : List Elem) (name : Option (List ℕ)) (feed : Feed) → AllByRecursion IsElem before → feed_at z content vrps which before name ≡ Ok feed → AllByRecursion IsElem feed.elems
unfolding feed_at
named_proper z content vrps which before None feed p e = let none = same_feed _ feed e in subst (λ (f : Feed). AllByRecursion IsElem f.elems) none tt
named_proper z content vrps which before (Some name) feed p e = by_octets (told_content (content name)) e
  where
    by_octets : (r : Result (List ℕ) Stop) → (r >>= feed_of z vrps which before) ≡ Ok feed → AllByRecursion IsElem feed.elems
    by_octets (Ok octets) e = feed_proper z vrps which before octets feed p e
    by_octets (Err stop) e = absurd cc

load_proper : (z : Sizes) (content : List ℕ → Option (List ℕ)) (vrps : List Vrp) (name : List ℕ) (load : Feed) → load_at z content vrps name ≡ Ok load → AllByRecursion IsElem load.elems
unfolding load_at
load_proper z content vrps name load e = by_feed (feed_at z content vrps Dump [] (Some name)) refl e
  where
    by_room : (o : Option Shortage) (feed : Feed) → with_room o feed ≡ Ok load → feed ≡ load
    by_room None feed e = same_feed feed load e
    by_room (Some s) feed e = absurd cc

    by_feed : (r : Result Feed Stop) → feed_at z content vrps Dump [] (Some name) ≡ r → (r >>= λ feed. with_room (shortage z (routes_by feed.elems)) feed) ≡ Ok load → AllByRecursion IsElem load.elems
    by_feed (Ok feed) is e = let same = by_room (shortage z (routes_by feed.elems)) feed e in subst (λ (f : Feed). AllByRecursion IsElem f.elems) same (named_proper z content vrps Dump [] (Some name) feed tt is)
    by_feed (Err stop) is e = absurd cc

-- ---- whatever is due

-- a property of what is printed of each dump and each list of updates and of asks
abbrev pub OfEach : (Printed → Type 0) → Type 0
OfEach P = (limits : Limits) (load updates : Feed) (asks : List Address) → AllByRecursion IsElem load.elems → AllByRecursion IsElem updates.elems → P (printed limits load updates asks)

abbrev both_of : Feed → Feed → Result (Feed × Feed) Stop
both_of load updates = Ok (load, updates)

told_due : (P : Printed → Type 0) → OfEach P → (content : List ℕ → Option (List ℕ)) (vrps : List Vrp) (named : Named) (asks : List Address) → IfRan (ran (told_at content vrps named asks)) P
unfolding told_at feeds_at
told_due P each content vrps named asks = by_load (load_at (sizes_of named) content vrps named.dump) refl
  where
    by_updates : (load : Feed) → AllByRecursion IsElem load.elems → (u : Result Feed Stop) → feed_at (sizes_of named) content vrps Updates load.elems named.updates ≡ u → IfRan (ran ((u >>= λ updates. both_of load updates) >>= λ feeds. Ok (printed (limits_of named) feeds.0 feeds.1 asks))) P
    by_updates load p (Ok updates) e = each (limits_of named) load updates asks p (named_proper (sizes_of named) content vrps Updates load.elems named.updates updates p e)
    by_updates load p (Err stop) e = tt

    by_load : (l : Result Feed Stop) → load_at (sizes_of named) content vrps named.dump ≡ l → IfRan (ran ((l >>= λ load. feed_at (sizes_of named) content vrps Updates load.elems named.updates >>= λ updates. both_of load updates) >>= λ feeds. Ok (printed (limits_of named) feeds.0 feeds.1 asks))) P
    by_load (Ok load) e = by_updates load (load_proper (sizes_of named) content vrps named.dump load e) (feed_at (sizes_of named) content vrps Updates load.elems named.updates) refl
    by_load (Err stop) e = tt

list_due : (P : Printed → Type 0) → OfEach P → (content : List ℕ → Option (List ℕ)) (named : Named) (asks : List Address) (r : Result (List Vrp) Stop) → IfRan (ran (r >>= λ vrps. told_at content vrps named asks)) P
list_due P each content named asks (Err stop) = tt
list_due P each content named asks (Ok vrps) = told_due P each content vrps named asks

asks_due : (P : Printed → Type 0) → OfEach P → (content : List ℕ → Option (List ℕ)) (named : Named) (r : Result (List Address) Stop) → IfRan (ran (r >>= λ asks. vrps_at content named.vrps >>= λ vrps. told_at content vrps named asks)) P
asks_due P each content named (Err stop) = tt
asks_due P each content named (Ok asks) = list_due P each content named asks (vrps_at content named.vrps)

check_due : (P : Printed → Type 0) (u : Result Used Stop) → IfRan (checked u) P
check_due P (Ok used) = tt
check_due P (Err stop) = tt

made_due : (P : Printed → Type 0) (p : Result Printed Stop) → IfRan (made p) P
made_due P (Ok p) = tt
made_due P (Err stop) = tt

steps_due : (P : Printed → Type 0) (s : Result Stepping Stop) → IfRan (stepped s) P
steps_due P (Ok s) = tt
steps_due P (Err stop) = tt

words_due : (P : Printed → Type 0) → OfEach P → (content : List ℕ → Option (List ℕ)) (o : Option Asked) → IfRan (usage o >>= output_at content) P
unfolding output_at run_at
words_due P each content None = tt
words_due P each content (Some (Run named)) = asks_due P each content named (asks_at content named.asks)
words_due P each content (Some (Check name)) = check_due P (used_at content name)
words_due P each content (Some (Make routes seed)) = made_due P (made_at routes seed)
words_due P each content (Some (Steps named)) = steps_due P (stepping_at content named)
words_due P each content (Some (Same named)) = same_ran P (same_at content named.rows named.first named.rest)
words_due P each content (Some (Moves named)) = moves_ran P named.steady (router_at content named.router named.printed)
words_due P each content (Some (CheckMoves named)) = claim_ran P (claimed_at content named.router named.printed named.moves)
words_due P each content (Some (Save named)) = save_ran P (saved_at content named) (saved_only content named)

each_due : (P : Printed → Type 0) → OfEach P → (words : List (List ℕ)) (content : List ℕ → Option (List ℕ)) → IfRan (due words content) P
unfolding due
each_due P each words content = words_due P each content (command_of words)

-- ---- what is told at the end

abbrev Words : Type 0
Words = List (List ℕ)

abbrev Content : Type 0
Content = List ℕ → Option (List ℕ)

-- the candidates after the load are candidates
held_first : (load : Feed) → AllByRecursion IsElem load.elems → AreCandidates (after_elems [] load.elems)
held_first load p = candidates_stay [] load.elems none_yet p

-- those after both inputs are those after the updates behind the load
held_all : (load updates : Feed) → after_elems [] (load.elems ++ updates.elems) ≡ after_elems (after_elems [] load.elems) updates.elems
held_all load updates = fold-append after_elem [] load.elems updates.elems

pub sums_up : (words : Words) (content : Content) → IfDue (due words content) SumsUp
sums_up = each_due (λ p. SumsUp p.told) (λ limits load updates asks p q. run_sum limits.fewest limits.steady limits.every (hops_after [] (load.elems ++ updates.elems)) (after_elems [] load.elems) updates.elems q)

pub forwards : (words : Words) (content : Content) → IfDue (due words content) Forwards
forwards = each_due (λ p. Forwards p.told) (λ limits load updates asks p q.
    let hops : List Address = hops_after [] (load.elems ++ updates.elems) in
    subst (λ held. AlikeInBoth (kept_of limits.fewest limits.every hops load.elems updates.elems) (entries_of hops held)) (sym (held_all load updates)) (alike_after limits.fewest limits.every hops (after_elems [] load.elems) updates.elems (held_first load p) q))

all_answer : (s : ℕ) (routes : Entries) (asks : List Address) → AllByRecursion (λ (a : Answer). (a.hop ≡ match_in routes a.addr) × (a.visits ≡ visits_of s routes a.addr)) (answers_to s routes asks)
all_answer s routes [] = tt
all_answer s routes (a ∷ asks) = ((refl, refl), all_answer s routes asks)

pub answers : (words : Words) (content : Content) → IfRan (due words content) Answers
answers = each_due Answers (λ limits load updates asks p q. all_answer limits.sizes.direct (entries_of (hops_after [] (load.elems ++ updates.elems)) (after_elems [] (load.elems ++ updates.elems))) asks)

-- the routes, and the kept table
abbrev routes_of_both : Feed → Feed → Entries
routes_of_both load updates = entries_of (hops_after [] (load.elems ++ updates.elems)) (after_elems [] (load.elems ++ updates.elems))

abbrev kept_of_both : Bool → ℕ → Feed → Feed → Entries
kept_of_both fewest every load updates = kept_of fewest every (hops_after [] (load.elems ++ updates.elems)) load.elems updates.elems

pub least : (words : Words) (content : Content) → IfDue (due words content) HasLeast
least = each_due (λ p. HasLeast p.told) (λ limits load updates asks p q. least_in_both (routes_of_both load updates) (kept_of_both limits.fewest limits.every load updates))

pub aggregated : (words : Words) (content : Content) → IfDue (due words content) HasAggregate
aggregated = each_due (λ p. HasAggregate p.told) (λ limits load updates asks p q. aggregates_are (routes_of_both load updates) (kept_of_both limits.fewest limits.every load updates))

routes_in_order : (load updates : Feed) → AllByRecursion IsElem load.elems → AllByRecursion IsElem updates.elems → InPrefixOrder (routes_of_both load updates)
routes_in_order load updates p q =
    entries_sorted (hops_after [] (load.elems ++ updates.elems)) (after_elems [] (load.elems ++ updates.elems)) (subst AreCandidates (sym (held_all load updates)) (candidates_stay (after_elems [] load.elems) updates.elems (held_first load p) q))

pub sorted : (words : Words) (content : Content) → IfDue (due words content) IsInOrder
sorted = each_due (λ p. IsInOrder p.told) (λ limits load updates asks p q.
    let hops : List Address = hops_after [] (load.elems ++ updates.elems) in
    let held : Candidates = after_elems [] load.elems in
    record {
      routes = routes_in_order load updates p q;
      table = (from_placed limits.fewest limits.every hops 1 held (kept_at_load hops held) updates.elems q (loaded_placed hops held)).1;
      least = aggregates_sorted (routes_of_both load updates) (kept_of_both limits.fewest limits.every load updates);
    })

pub certified : (words : Words) (content : Content) → IfDue (due words content) Certified
certified = each_due (λ p. Certified p.told) (λ limits load updates asks p q. certified_least (routes_of_both load updates) (kept_of_both limits.fewest limits.every load updates) (routes_in_order load updates p q))

pub addressed : (words : Words) (content : Content) → IfRan (due words content) HasHops
addressed = each_due HasHops (λ limits load updates asks p q. has_hops limits load updates asks)

-- ---- on the way

front_of : (xs ys : List Elem) → AllByRecursion IsElem (xs ++ ys) → AllByRecursion IsElem xs
front_of [] ys a = tt
front_of (x ∷ xs) ys a = (a.0, front_of xs ys a.1)

one_of : (xs : List Elem) (x : Elem) (ys : List Elem) → AllByRecursion IsElem (xs ++ x ∷ ys) → IsElem x
one_of [] x ys a = a.0
one_of (y ∷ xs) x ys a = one_of xs x ys a.1

-- the table that the changes so far add up to
table_at : (limits : Limits) (load updates : Feed) (asks : List Address) (done rest : List Elem) (T : Entries) → AllByRecursion IsElem updates.elems → updates.elems ≡ done ++ rest → HasTable (printed limits load updates asks) (length done) T
    → T ≡ kept_of limits.fewest limits.every (hops_after [] (load.elems ++ updates.elems)) load.elems done
table_at limits load updates asks done rest T q e h =
    let hops : List Address = hops_after [] (load.elems ++ updates.elems) in
    let held : Candidates = after_elems [] load.elems in
    table_is limits.fewest limits.steady limits.every hops held done rest T (front_of done rest (subst (AllByRecursion IsElem) e q)) (subst (λ es. sum_of (changes_to (length done) (run_changes limits.fewest limits.steady limits.every hops load.elems es)) ≡ Some T) e h)

proper_front : (updates : Feed) (done rest : List Elem) → AllByRecursion IsElem updates.elems → updates.elems ≡ done ++ rest → AllByRecursion IsElem done
proper_front updates done rest q e = front_of done rest (subst (AllByRecursion IsElem) e q)

pub kept : (words : Words) (content : Content) → IfRan (due words content) KeepsTables
kept = each_due KeepsTables (λ limits load updates asks p q.
    let hops : List Address = hops_after [] (load.elems ++ updates.elems) in
    let held : Candidates = after_elems [] load.elems in
    let changes : List Elem → List (ℕ × Change) = λ elems. run_changes limits.fewest limits.steady limits.every hops load.elems elems in
    record {
      in_order = in_order limits.fewest limits.steady limits.every hops held updates.elems;
      none_past = none_past limits.fewest limits.steady limits.every hops held updates.elems;
      tables = λ n le.
          let done = take n updates.elems in
          let rest = drop n updates.elems in
          let all_of : done ++ rest ≡ updates.elems = take-append-drop n updates.elems in
          let T = kept_of limits.fewest limits.every hops load.elems done in (
            T,
            subst (λ elems. sum_of (changes_to n (changes elems)) ≡ Some T) all_of
                (subst (λ m. sum_of (changes_to m (changes (done ++ rest))) ≡ Some T) (length-take-le n updates.elems le)
                (sum_is limits.fewest limits.steady limits.every hops held done rest (proper_front updates done rest q (sym all_of)))),
          );
    })

pub follows : (words : Words) (content : Content) → IfRan (due words content) Follows
follows = each_due Follows (λ limits load updates asks p q done rest T e h.
    let hops : List Address = hops_after [] (load.elems ++ updates.elems) in
    let held : Candidates = after_elems [] load.elems in
    subst (λ L. AlikeInBoth L (entries_of hops (after_elems held done))) (sym (table_at limits load updates asks done rest T q e h)) (alike_after limits.fewest limits.every hops held done (held_first load p) (proper_front updates done rest q e)))

pub steadied : (words : Words) (content : Content) → IfRan (due words content) MissesNone
steadied = each_due MissesNone (λ limits load updates asks p q on.
    let hops : List Address = hops_after [] (load.elems ++ updates.elems) in
    let held : Candidates = after_elems [] load.elems in
    let one : Printed = printed limits load updates asks in
    subst (λ b. AnswerMeanwhile (told_of_run limits.fewest b limits.every hops held updates.elems) (routes_before_event one) (routes_then one)) (sym on) (meanwhile limits.fewest limits.every hops held updates.elems (held_first load p) q))

pub renewed : (words : Words) (content : Content) → IfRan (due words content) RenewsLeast
renewed = each_due RenewsLeast (λ limits load updates asks p q done rest T e snapshot h.
    let hops : List Address = hops_after [] (load.elems ++ updates.elems) in
    let held : Candidates = after_elems [] load.elems in
    subst (λ L. LeastInBoth (entries_of hops (after_elems held done)) L) (sym (table_at limits load updates asks done rest T q e h)) (least_after limits.fewest limits.every hops held done snapshot))

-- the table after one event more is what the event makes of the one before, which is in order
module _ (limits : Limits) (load updates : Feed) (asks : List Address) (done rest : List Elem) (elem : Elem) (T U : Entries) (q : AllByRecursion IsElem updates.elems) (e : updates.elems ≡ done ++ elem ∷ rest) (h : HasTable (printed limits load updates asks) (length done) T) where
  before_is : T ≡ kept_of limits.fewest limits.every (hops_after [] (load.elems ++ updates.elems)) load.elems done
  before_is = table_at limits load updates asks done (elem ∷ rest) T q e h

  step_is : HasTable (printed limits load updates asks) (length done + 1) U → U ≡ table_by limits.fewest limits.every (hops_after [] (load.elems ++ updates.elems)) (length done + 1) (after_elems (after_elems [] load.elems) done) T elem
  step_is k =
      let hops : List Address = hops_after [] (load.elems ++ updates.elems) in
      let held : Candidates = after_elems [] load.elems in
      let all_one : updates.elems ≡ (done ++ elem ∷ []) ++ rest = e ∙ sym (append_assoc done (elem ∷ []) rest) in
      let counted : length done + 1 ≡ length (done ++ elem ∷ []) = sym (length-append done (elem ∷ [])) in
      let after : U ≡ kept_of limits.fewest limits.every hops load.elems (done ++ elem ∷ []) = table_at limits load updates asks (done ++ elem ∷ []) rest U q all_one (subst (λ n. sum_of (changes_to n (run_changes limits.fewest limits.steady limits.every hops load.elems updates.elems)) ≡ Some U) counted k) in
      after ∙ (table_step limits.fewest false limits.every hops held (kept_at_load hops held) done elem ∙ ap (λ K. table_by limits.fewest limits.every hops (length done + 1) (after_elems held done) K elem) (sym before_is))

  before_placed : Placed T
  before_placed =
      let hops : List Address = hops_after [] (load.elems ++ updates.elems) in
      let held : Candidates = after_elems [] load.elems in
      subst Placed (sym before_is) (from_placed limits.fewest limits.every hops 1 held (kept_at_load hops held) done (proper_front updates done (elem ∷ rest) q e) (loaded_placed hops held))

  elem_is : IsElem elem
  elem_is = one_of done elem rest (subst (AllByRecursion IsElem) e q)

  -- a repair, where the fewest changes aren't asked for
  repair_is : limits.fewest ≡ false → HasTable (printed limits load updates asks) (length done + 1) U → U ≡ kept_by limits.every (hops_after [] (load.elems ++ updates.elems)) (length done + 1) (after_elems (after_elems [] load.elems) done) T elem
  repair_is off k = step_is k ∙ ap (λ b. table_by b limits.every (hops_after [] (load.elems ++ updates.elems)) (length done + 1) (after_elems (after_elems [] load.elems) done) T elem) off

pub fewest : (words : Words) (content : Content) → IfRan (due words content) RepairsFewest
fewest = each_due RepairsFewest (λ limits load updates asks p q off done rest elem at T U L e changed h k d.
    let hops : List Address = hops_after [] (load.elems ++ updates.elems) in
    let held : Candidates = after_elems [] load.elems in
    let alike : Alike (width at.family) (of_family at.family (entries_of hops (after_elem (after_elems held done) elem))) (of_family at.family L) = subst (λ c. Alike (width at.family) (of_family at.family (entries_of hops c)) (of_family at.family L)) (fold-append after_elem held done (elem ∷ [])) d.alike in
    subst (λ K. length (of_family at.family K) ≤ length (of_family at.family L)) (sym (repair_is limits load updates asks done rest elem T U q e h off k))
    (fewest_by limits.every hops (length done + 1) (after_elems held done) T L elem at (elem_is limits load updates asks done rest elem T U q e h) (before_placed limits load updates asks done rest elem T U q e h) changed d.entries alike d.outside))

pub outside : (words : Words) (content : Content) → IfRan (due words content) RepairsWithin
outside = each_due RepairsWithin (λ limits load updates asks p q off done rest elem T U e none h k.
    let hops : List Address = hops_after [] (load.elems ++ updates.elems) in
    let held : Candidates = after_elems (after_elems [] load.elems) done in
    subst (λ K. entries_besides (changed_at held elem) K ≡ entries_besides (changed_at held elem) T) (sym (repair_is limits load updates asks done rest elem T U q e h off k))
    (outside_by limits.every hops (length done + 1) held T elem (elem_is limits load updates asks done rest elem T U q e h) (before_placed limits load updates asks done rest elem T U q e h) (none_due limits.every (length done) none)))

pub moved : (words : Words) (content : Content) → IfRan (due words content) MovesFewest
moved = each_due MovesFewest (λ limits load updates asks p q.
    let hops : List Address = hops_after [] (load.elems ++ updates.elems) in
    let held : Candidates = after_elems [] load.elems in
    let one : Printed = printed limits load updates asks in record {
      none = λ off. ap (λ b. run_moves b limits.every hops load.elems updates.elems) off;
      rows = λ on. rows_say one limits.steady (ap (λ b. run_changes b limits.steady limits.every hops load.elems updates.elems) on) (held_first load p) q (ap (λ b. run_moves b limits.every hops load.elems updates.elems) on);
      each = λ on done rest elem at e c.
          subst (HasRow (length done + 1)) (sym (ap (λ b. run_moves b limits.every hops load.elems updates.elems) on))
          (subst (λ elems. HasRow (length done + 1) (moves_of_run true limits.every hops held elems)) (sym e) (has_row limits.every hops held done rest elem at c));
    })
