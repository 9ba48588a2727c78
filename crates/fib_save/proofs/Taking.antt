-- Candidates that take the events of an input, piece by piece.
use Rattle.std.proofs.Common.{◌≡◌, ℕ, ◌+◌, ◌<◌, ◌≤◌, List, [], ◌∷◌, ◌++◌, length, map, drop, get_or, Option, None, refl, sym, ap, ◌∙◌}
use Rattle.std.proofs.lemmas.List.{drop_more, map-append}
use Rattle.std.proofs.lemmas.List.Sums.{fold-append}
use Rattle.std.proofs.Math.ListN.{drop_of_length-le}
use Rattle.route_model.specs.Events.{Event}
use Rattle.route_model.specs.Choice.{Candidates, after_elem, after_elems, elems_of, elems_after}
use Rattle.route_model.proofs.Elems.{elems_more}
use Rattle.fib_prefix.specs.Views.{elem_as, event_as}
use Rattle.fib_prefix.specs.declared.event.Elem as code_elem
use Rattle.fib_prefix.specs.declared.event.Event as code_event
use Rattle.mrt_read.specs.Standing as reading
use Rattle.mrt_read.specs.declared.reader.Reader.{Reader}
use Rattle.wire_model.specs.Input.{start}
use Rattle.mrt_read.specs.InputReading.{EndsWhole, TakesNext}
use Rattle.mrt_read.proofs.Gathering.{Gathering, gathering_next, gathering_start, next_ends}
use Rattle.mrt_write.specs.Reads.{after_events}
use Rattle.fib_save.specs.Brings.{TakesInput}

-- ---- events one after another

pub one_event_more : (held : Candidates) (event : Event) (events : List Event) → after_events held (event ∷ events) ≡ after_events (after_elems held (elems_of held event)) events
unfolding elems_after
one_event_more held event events = fold-append after_elem held (elems_of held event) (elems_after (after_elems held (elems_of held event)) events)

pub no_event : (held : Candidates) → after_events held [] ≡ held
unfolding elems_after
no_event held = refl

pub events_more : (held : Candidates) (xs ys : List Event) → after_events held (xs ++ ys) ≡ after_events (after_events held xs) ys
events_more held xs ys = ap (after_elems held) (elems_more held xs ys) ∙ fold-append after_elem held (elems_after held xs) (elems_after (after_events held xs) ys)

-- ---- walks over lists

next_elem : (elems : List code_elem.Elem) (i : ℕ) (e : code_elem.Elem) → i < length elems → e ≡ get_or elems i e → map elem_as (drop i elems) ≡ elem_as e ∷ map elem_as (drop (i + 1) elems)
next_elem elems i e some at = ap (map elem_as) (drop_more elems i e some ∙ ap (λ y. y ∷ drop (i + 1) elems) (sym at))

pub elem_taken : (old now new : Candidates) (elems : List code_elem.Elem) (i : ℕ) (e : code_elem.Elem) → i < length elems → e ≡ get_or elems i e → new ≡ after_elem now (elem_as e) → after_elems now (map elem_as (drop i elems)) ≡ after_elems old (map elem_as elems) → after_elems new (map elem_as (drop (i + 1) elems)) ≡ after_elems old (map elem_as elems)
elem_taken old now new elems i e some at is h = ap (λ c. after_elems c (map elem_as (drop (i + 1) elems))) is ∙ (sym (ap (after_elems now) (next_elem elems i e some at)) ∙ h)

pub elems_taken : (old now : Candidates) (elems : List code_elem.Elem) (i : ℕ) → length elems ≤ i → after_elems now (map elem_as (drop i elems)) ≡ after_elems old (map elem_as elems) → now ≡ after_elems old (map elem_as elems)
elems_taken old now elems i h e = sym (ap (λ xs. after_elems now (map elem_as xs)) (drop_of_length-le elems h)) ∙ e

next_event : (events : List code_event.Event) (i : ℕ) (e : code_event.Event) → i < length events → e ≡ get_or events i e → map event_as (drop i events) ≡ event_as e ∷ map event_as (drop (i + 1) events)
next_event events i e some at = ap (map event_as) (drop_more events i e some ∙ ap (λ y. y ∷ drop (i + 1) events) (sym at))

pub event_taken : (old now new : Candidates) (events : List code_event.Event) (i : ℕ) (e : code_event.Event) → i < length events → e ≡ get_or events i e → new ≡ after_elems now (elems_of now (event_as e)) → after_events now (map event_as (drop i events)) ≡ after_events old (map event_as events) → after_events new (map event_as (drop (i + 1) events)) ≡ after_events old (map event_as events)
event_taken old now new events i e some at is h =
    ap (λ c. after_events c (map event_as (drop (i + 1) events))) is
    ∙ (sym (one_event_more now (event_as e) (map event_as (drop (i + 1) events))) ∙ (sym (ap (after_events now) (next_event events i e some at)) ∙ h))

pub events_taken : (old now : Candidates) (events : List code_event.Event) (i : ℕ) → length events ≤ i → after_events now (map event_as (drop i events)) ≡ after_events old (map event_as events) → now ≡ after_events old (map event_as events)
events_taken old now events i h e = sym (no_event now) ∙ (sym (ap (λ xs. after_events now (map event_as xs)) (drop_of_length-le events h)) ∙ e)

-- ---- an input, piece by piece

-- So many octets of the input were fed, and the candidates took the events of its records so far.
pub record Taking (content : Option (List ℕ)) (before : Candidates) (reader : Reader) (at : ℕ) (now : Candidates) : Type 0 where
  pub events : List code_event.Event
  pub gathered : Gathering content reader at events
  pub are : now ≡ after_events before (map event_as events)

pub taking_start : (content : Option (List ℕ)) (before : Candidates) (reader : Reader) → reading.reader_left reader ≡ [] → reading.reader_refusal reader ≡ None → reading.ReaderStands [] start reader → Taking content before reader 0 before
taking_start content before reader empty none s = record { events = []; gathered = gathering_start content reader empty none s; are = sym (no_event before) }

pub taking_next : (content : Option (List ℕ)) (before mid now : Candidates) (old new : Reader) (at to : ℕ) (more : List code_event.Event) → TakesNext content at old (map event_as more) to new → now ≡ after_events mid (map event_as more) → Taking content before old at mid → Taking content before new to now
taking_next content before mid now old new at to more t is s = record {
  events = s.events ++ more;
  gathered = gathering_next content old new at to s.events more t s.gathered;
  are = is ∙ (ap (λ c. after_events c (map event_as more)) s.are ∙ (sym (events_more before (map event_as s.events) (map event_as more)) ∙ ap (after_events before) (sym (map-append event_as s.events more))));
}

pub takes_all : (content : Option (List ℕ)) (before now : Candidates) (old new : Reader) (at to : ℕ) → EndsWhole content at old to new → Taking content before old at now → TakesInput content before now
takes_all content before now old new at to ends s = record { events = map event_as s.events; has = next_ends content old new at to s.events ends s.gathered; are = s.are }
