-- What is due of a run is judged by its list of VRPs.
use Rattle.std.proofs.Common.{◌≡◌, ◌∙◌, ℕ, List, [], ◌++◌, Option, Some, None, Result, Ok, Err, refl, sym, ap, subst}
use Rattle.std.specs.Prelude.{IfOk}
use Rattle.octet_fields.specs.Field.{◌>>=◌}
use Rattle.table_model.specs.Address.{Address}
use Rattle.route_model.specs.Events.{Elem, Event}
use Rattle.route_model.specs.Choice.{after_elems, elems_after}
use Rattle.route_model.proofs.Elems.{elems_more}
use Rattle.kept_model.specs.Feed.{entries_of, hops_after}
use Rattle.printed_text.specs.Rows.{Vrp}
use Rattle.wire_model.specs.Input.{Progress, input}
use Rattle.fib_io.specs.Pieces.{octets_read}
use Rattle.route_tries.specs.Sizes.{Shortage, Sizes, shortage}
use Rattle.fib_rov.specs.Rov.{invalid_in, left_of}
use Rattle.fib_rov.proofs.JudgedLists.{invalid_more, left_more}
use Rattle.fib_words.specs.Commands.{Asked, Named, Run, Check, Make, Steps, Same, Save, Moves, CheckMoves}
use Rattle.fib_due.specs.declared.outcome.MrtInput.{MrtInput}
use Rattle.fib_due.specs.declared.outcome.MrtInput.TheVariants.{Dump, Updates}
use Rattle.fib_due.specs.Refusals.{Limits, Refusal, routes_by, stop_at, too_much}
use Rattle.fib_due.specs.Stops.{Stop, records_due, told_content, unless_stopped, with_room}
use Rattle.fib_due.specs.Stepping.{events_of}
use Rattle.fib_due.specs.Due.{Feed, asks_at, elems_in, feed_at, feed_in, feed_of, feeds_at, later_at, limits_of, load_at, no_feed, printed, read_part, run_at, sizes_of, told_at, vrps_at}
use Rattle.fib_due.specs.Judged.{IsJudgedBy, Judges}

abbrev Content : Type 0
Content = List ℕ → Option (List ℕ)

-- what an input brings is what was said in it, judged
pub record IsJudged (vrps : List Vrp) (before : List Elem) (said : List Event) (feed : Feed) : Type 0 where
  pub elems : feed.elems ≡ elems_after (after_elems [] before) (left_of vrps said)
  pub invalid : feed.invalid ≡ invalid_in vrps said

abbrev brought : Feed → Result Feed Stop
brought feed = Ok feed

same_feed : (f g : Feed) → brought f ≡ brought g → f ≡ g
same_feed f g e = cc

abbrev told : List Event → Result (List Event) Stop
told events = Ok events

same_said : (a b : List Event) → told a ≡ told b → a ≡ b
same_said a b e = cc

went_on : (which : MrtInput) (o : Option (ℕ × Refusal)) (next : Result Feed Stop) (feed : Feed) → unless_stopped which o next ≡ Ok feed → next ≡ Ok feed
went_on which None next feed e = e
went_on which (Some s) next feed e = absurd cc

feed_judged : (z : Sizes) (vrps : List Vrp) (which : MrtInput) (before : List Elem) (octets : List ℕ) (said : List Event) (feed : Feed) → (records_due which octets >>= λ read. told read.events) ≡ Ok said → feed_of z vrps which before octets ≡ Ok feed → IsJudged vrps before said feed
unfolding feed_of
feed_judged z vrps which before octets said feed s e = by_records (records_due which octets) s (went_on which (stop_at (too_much which z) before (elems_in vrps before (read_part (input (octets_read octets))))) (records_due which octets >>= λ read. Ok (feed_in vrps before read)) feed e)
  where
    by_records : (r : Result Progress Stop) → (r >>= λ read. told read.events) ≡ Ok said → (r >>= λ read. Ok (feed_in vrps before read)) ≡ Ok feed → IsJudged vrps before said feed
    by_records (Ok read) s e =
        let same : feed_in vrps before read ≡ feed = same_feed (feed_in vrps before read) feed e in
        let are : read.events ≡ said = same_said read.events said s in
        subst (IsJudged vrps before said) same (subst (λ es. IsJudged vrps before es (feed_in vrps before read)) are (record { elems = refl; invalid = refl }))
    by_records (Err stop) s e = absurd cc

named_judged : (z : Sizes) (content : Content) (vrps : List Vrp) (which : MrtInput) (before : List Elem) (name : List ℕ) (said : List Event) (feed : Feed) → events_of which content name ≡ Ok said → feed_at z content vrps which before (Some name) ≡ Ok feed → IsJudged vrps before said feed
unfolding feed_at events_of
named_judged z content vrps which before name said feed s e = by_octets (told_content (content name)) s e
  where
    by_octets : (r : Result (List ℕ) Stop) → (r >>= λ octets. records_due which octets >>= λ read. told read.events) ≡ Ok said → (r >>= feed_of z vrps which before) ≡ Ok feed → IsJudged vrps before said feed
    by_octets (Ok octets) s e = feed_judged z vrps which before octets said feed s e
    by_octets (Err stop) s e = absurd cc

load_judged : (z : Sizes) (content : Content) (vrps : List Vrp) (name : List ℕ) (said : List Event) (load : Feed) → events_of Dump content name ≡ Ok said → load_at z content vrps name ≡ Ok load → IsJudged vrps [] said load
unfolding load_at
load_judged z content vrps name said load s e = by_feed (feed_at z content vrps Dump [] (Some name)) refl e
  where
    by_room : (o : Option Shortage) (feed : Feed) → with_room o feed ≡ Ok load → feed ≡ load
    by_room None feed e = same_feed feed load e
    by_room (Some s) feed e = absurd cc

    by_feed : (r : Result Feed Stop) → feed_at z content vrps Dump [] (Some name) ≡ r → (r >>= λ feed. with_room (shortage z (routes_by feed.elems)) feed) ≡ Ok load → IsJudged vrps [] said load
    by_feed (Ok feed) is e = subst (IsJudged vrps [] said) (by_room (shortage z (routes_by feed.elems)) feed e) (named_judged z content vrps Dump [] name said feed s is)
    by_feed (Err stop) is e = absurd cc

later_judged : (z : Sizes) (content : Content) (vrps : List Vrp) (before : List Elem) (name : Option (List ℕ)) (said : List Event) (feed : Feed) → later_at content name ≡ Ok said → feed_at z content vrps Updates before name ≡ Ok feed → IsJudged vrps before said feed
unfolding later_at feed_at left_of invalid_in elems_after
later_judged z content vrps before None said feed s e = subst (IsJudged vrps before said) (same_feed no_feed feed e) (subst (λ es. IsJudged vrps before es no_feed) (same_said [] said s) (record { elems = refl; invalid = refl }))
later_judged z content vrps before (Some name) said feed s e = named_judged z content vrps Updates before name said feed s e

-- ---- both

both_judged : (limits : Limits) (vrps : List Vrp) (load later : List Event) (first next : Feed) (asks : List Address) → IsJudged vrps [] load first → IsJudged vrps first.elems later next → IsJudgedBy vrps (load ++ later) (printed limits first next asks)
both_judged limits vrps load later first next asks a b =
    let one : List Elem = elems_after [] (left_of vrps load) in
    let both : elems_after [] (left_of vrps (load ++ later)) ≡ one ++ elems_after (after_elems [] one) (left_of vrps later) = ap (elems_after []) (left_more vrps load later) ∙ elems_more [] (left_of vrps load) (left_of vrps later) in
    let second : next.elems ≡ elems_after (after_elems [] one) (left_of vrps later) = b.elems ∙ ap (λ es. elems_after (after_elems [] es) (left_of vrps later)) a.elems in
    let all : first.elems ++ next.elems ≡ elems_after [] (left_of vrps (load ++ later)) = ap (λ es. es ++ next.elems) a.elems ∙ (ap (λ es. one ++ es) second ∙ sym both) in
    record {
      invalid = ap (λ rows. rows ++ next.invalid) a.invalid ∙ (ap (λ rows. invalid_in vrps load ++ rows) b.invalid ∙ sym (invalid_more vrps load later));
      routes = ap (λ es. entries_of (hops_after [] (first.elems ++ next.elems)) (after_elems [] es)) all;
    }

abbrev both_of : Feed → Feed → Result (Feed × Feed) Stop
both_of load updates = Ok (load, updates)

told_judged : (content : Content) (vrps : List Vrp) (named : Named) (asks : List Address) (load later : List Event) → events_of Dump content named.dump ≡ Ok load → later_at content named.updates ≡ Ok later → IfOk (told_at content vrps named asks) (IsJudgedBy vrps (load ++ later))
unfolding told_at feeds_at
told_judged content vrps named asks load later l u = by_load (load_at (sizes_of named) content vrps named.dump) refl
  where
    by_updates : (first : Feed) → IsJudged vrps [] load first → (r : Result Feed Stop) → feed_at (sizes_of named) content vrps Updates first.elems named.updates ≡ r → IfOk ((r >>= λ updates. both_of first updates) >>= λ feeds. Ok (printed (limits_of named) feeds.0 feeds.1 asks)) (IsJudgedBy vrps (load ++ later))
    by_updates first j (Ok next) e = both_judged (limits_of named) vrps load later first next asks j (later_judged (sizes_of named) content vrps first.elems named.updates later next u e)
    by_updates first j (Err stop) e = tt

    by_load : (r : Result Feed Stop) → load_at (sizes_of named) content vrps named.dump ≡ r → IfOk ((r >>= λ first. feed_at (sizes_of named) content vrps Updates first.elems named.updates >>= λ updates. both_of first updates) >>= λ feeds. Ok (printed (limits_of named) feeds.0 feeds.1 asks)) (IsJudgedBy vrps (load ++ later))
    by_load (Ok first) e = by_updates first (load_judged (sizes_of named) content vrps named.dump load first l e) (feed_at (sizes_of named) content vrps Updates first.elems named.updates) refl
    by_load (Err stop) e = tt

abbrev listed_as : List Vrp → Result (List Vrp) Stop
listed_as vrps = Ok vrps

same_list : (a b : List Vrp) → listed_as a ≡ listed_as b → a ≡ b
same_list a b e = cc

run_judged : (content : Content) (named : Named) (vrps : List Vrp) (load later : List Event) → vrps_at content named.vrps ≡ Ok vrps → events_of Dump content named.dump ≡ Ok load → later_at content named.updates ≡ Ok later → IfOk (run_at content named) (IsJudgedBy vrps (load ++ later))
unfolding run_at
run_judged content named vrps load later v l u = by_asks (asks_at content named.asks)
  where
    by_list : (asks : List Address) (r : Result (List Vrp) Stop) → r ≡ Ok vrps → IfOk (r >>= λ list. told_at content list named asks) (IsJudgedBy vrps (load ++ later))
    by_list asks (Ok list) e = subst (λ list. IfOk (told_at content list named asks) (IsJudgedBy vrps (load ++ later))) (sym (same_list list vrps e)) (told_judged content vrps named asks load later l u)
    by_list asks (Err stop) e = tt

    by_asks : (r : Result (List Address) Stop) → IfOk (r >>= λ asks. vrps_at content named.vrps >>= λ list. told_at content list named asks) (IsJudgedBy vrps (load ++ later))
    by_asks (Ok asks) = by_list asks (vrps_at content named.vrps) v
    by_asks (Err stop) = tt

pub judges : (content : Content) (asked : Option Asked) → Judges content asked
judges content None = tt
judges content (Some (Run named)) = λ vrps load later v l u. run_judged content named vrps load later v l u
judges content (Some (Check name)) = tt
judges content (Some (Make routes seed)) = tt
judges content (Some (Steps named)) = tt
judges content (Some (Same named)) = tt
judges content (Some (Moves named)) = tt
judges content (Some (CheckMoves named)) = tt
judges content (Some (Save named)) = tt
