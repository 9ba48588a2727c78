-- Where the inputs begin, and where the load ends.
use Rattle.std.proofs.Common.{◌≡◌, ℕ, false, List, [], ◌++◌, map, Some, None, Ok, refl, sym, ap, ◌∙◌, append-nil, arith}
use Rattle.table_model.specs.Changes.{additions}
use Rattle.printed_text.specs.Rows.{Vrp}
use Rattle.fib_words.specs.Commands.{Named}
use Rattle.fib_due.specs.declared.outcome.MrtInput.TheVariants.{Dump, Updates}
use Rattle.fib_run.specs.declared.state.State.{State}
use Rattle.fib_due.specs.Stops.{IsDueIfTold, FailsDue}
use Rattle.route_tries.specs.Sizes.{shortage}
use Rattle.fib_due.specs.Refusals.{Limits, routes_by, stop_at}
use Rattle.fib_due.specs.Due.{Feed, feed_at, feeds_at, limits_of, load_at}
use Rattle.fib_due.specs.Ends.{ReadsBy}
use Rattle.fib_engine.specs.Held.{EngineState, engine_routes}
use Rattle.fib_run.specs.declared.report.InputCounts.{InputCounts}
use Rattle.fib_run.specs.Told.{changes_as}
use Rattle.fib_report.specs.Views.{moves_as}
use Rattle.fib_run.specs.Standing.{EndsShort, StateStands, StateHas, IsFed, IsOfLoad, feed_outcome}
use Rattle.fib_due.specs.Owned.{StopsAt}
use Rattle.fib_due.specs.declared.outcome.Which.TheVariants as which
use Rattle.fib_run.specs.declared.state.FeedError.{FeedError}
use Rattle.fib_run.specs.declared.state.FeedError.TheVariants as feed
use Rattle.kept_model.specs.Feed.{at_event, entries_of, hops_after}
use Rattle.table_model.specs.Entries.{Entries}
use Rattle.fib_due.proofs.Due.{Content, due_feed, load_lacks, load_short}

pub stands_new : (limits : Limits) (state : State) → state.engine ≡ record { every = limits.every; fewest = limits.fewest; sizes = limits.sizes; candidates = []; hops = []; table = []; loaded = false; events = 0; moves = None } → state.fewest ≡ limits.fewest → state.steady ≡ limits.steady → state.added ≡ [] → state.changes.items ≡ [] → state.moves.items ≡ [] → StateStands Dump limits [] [] state
unfolding stop_at
stands_new limits state e f t a n m = record {
  engine = rw e (record { candidates = refl; hops = refl; proper = tt; table = refl; loaded = refl; events = refl; moves = refl });
  every_is = ap (λ (h : EngineState). h.every) e;
  fewest_is = ap (λ (h : EngineState). h.fewest) e;
  counted_is = f;
  steady_is = t;
  sizes_are = ap (λ (h : EngineState). h.sizes) e;
  few = rw e (omega arith);
  fits = refl;
  changes = ap (λ (es : Entries). at_event 0 (additions es) ++ changes_as state.changes.items) a ∙ ap changes_as n;
  moves = ap (map moves_as) m;
}

pub fed_all : (limits : Limits) (load updates : Feed) (fed : InputCounts) (before state : State) → StateHas Dump limits [] load fed.load before → StateHas Updates limits load.elems updates fed.updates state → IsFed limits load updates fed state
fed_all limits load updates fed before state h u = record { counted = h.counted; has = u }

pub dump_stops : (error : FeedError) → StopsAt which.Dump (feed_outcome Dump error)
dump_stops (feed.Malformed malformed) = (refl, tt)
dump_stops (feed.HopsFull n) = refl
dump_stops (feed.TrieFull n full) = refl
dump_stops feed.NoMemory = tt
dump_stops feed.Fault = tt
dump_stops feed.TooLarge = refl

pub end_reads : (cause : Type 0) (before now : List ℕ → ℕ) (error : FeedError) → IsOfLoad error → now ≡ before → ReadsBy cause before now (feed_outcome Dump error)
end_reads cause before now (feed.Malformed malformed) of same = absurd of
end_reads cause before now (feed.HopsFull n) of same = absurd of
end_reads cause before now (feed.TrieFull n full) of same = same
end_reads cause before now feed.NoMemory of same = same
end_reads cause before now feed.Fault of same = absurd of
end_reads cause before now feed.TooLarge of same = absurd of

pub end_fails : (content : Content) (vrps : List Vrp) (named : Named) (load : Feed) (error : FeedError) → IsDueIfTold (due_feed content vrps named) (Ok load) → EndsShort (limits_of named) load.elems error → FailsDue (feed_outcome Dump error) (feeds_at content vrps named)
end_fails content vrps named load (feed.TrieFull n full) i e = load_lacks content vrps named load full i e.1
end_fails content vrps named load feed.NoMemory i e = tt
end_fails content vrps named load (feed.Malformed malformed) i e = absurd e
end_fails content vrps named load (feed.HopsFull n) i e = absurd e
end_fails content vrps named load feed.Fault i e = absurd e
end_fails content vrps named load feed.TooLarge i e = absurd e

pub load_ends : (limits : Limits) (content : Content) (vrps : List Vrp) (name : List ℕ) (load : Feed) (error : FeedError) → IsDueIfTold (feed_at limits.sizes content vrps Dump [] (Some name)) (Ok load) → EndsShort limits load.elems error → FailsDue (feed_outcome Dump error) (load_at limits.sizes content vrps name)
load_ends limits content vrps name load (feed.TrieFull n full) i e = load_short limits.sizes content vrps name load full i e.1
load_ends limits content vrps name load feed.NoMemory i e = tt
load_ends limits content vrps name load (feed.Malformed malformed) i e = absurd e
load_ends limits content vrps name load (feed.HopsFull n) i e = absurd e
load_ends limits content vrps name load feed.Fault i e = absurd e
load_ends limits content vrps name load feed.TooLarge i e = absurd e

-- a state after the load's end has room
pub load_has_room : (limits : Limits) (load : Feed) (state : State) → StateStands Updates limits load.elems [] state → shortage limits.sizes (routes_by load.elems) ≡ None
load_has_room limits load state s =
    let routes : engine_routes state.engine ≡ routes_by load.elems = ap (λ hs. entries_of hs state.engine.candidates) (s.engine.hops ∙ ap (hops_after []) (append-nil load.elems)) ∙ ap (entries_of (hops_after [] load.elems)) s.engine.candidates in
    ap (shortage limits.sizes) (sym routes) ∙ (ap (λ z. shortage z (engine_routes state.engine)) (sym s.sizes_are) ∙ s.engine.fits)
