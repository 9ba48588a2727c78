-- Lists of events that are judged.
use Rattle.std.proofs.Common.{◌≡◌, ◌∙◌, ◌+◌, ◌<◌, ◌≤◌, ℕ, List, [], ◌∷◌, ◌++◌, length, map, take, drop, get_or, ap, sym, refl, arith, append_assoc, append-nil}
use Rattle.std.specs.Prelude.{slice_set}
use Rattle.std.proofs.lemmas.List.{drop_all, drop_more, drop-set-lt, length-map, map-append, take_all, take_more_set}
use Rattle.fib_prefix.specs.Views.{event_as}
use Rattle.fib_prefix.specs.declared.event.Event as code
use Rattle.std.proofs.lemmas.Grind.{flat_map-append}
use Rattle.route_model.specs.Events.{Event}
use Rattle.printed_text.specs.Rows.{Announced, Vrp}
use Rattle.fib_report.specs.Views.{invalid_as}
use Rattle.fib_report.specs.declared.run.Invalid as code_invalid
use Rattle.fib_rov.specs.Rov.{invalid_in, invalid_of, judged_by_vrps, left_of}

-- what is left of events and of more is what is left of each
pub left_more : (vrps : List Vrp) (events more : List Event) → left_of vrps (events ++ more) ≡ left_of vrps events ++ left_of vrps more
unfolding left_of
left_more vrps events more = map-append (λ (e : Event). (judged_by_vrps vrps e).0) events more

-- none is lost
pub left_many : (vrps : List Vrp) (events : List Event) → length (left_of vrps events) ≡ length events
unfolding left_of
left_many vrps events = length-map events (λ (e : Event). (judged_by_vrps vrps e).0)

pub invalid_more : (vrps : List Vrp) (events more : List Event) → invalid_in vrps (events ++ more) ≡ invalid_in vrps events ++ invalid_in vrps more
unfolding invalid_in
invalid_more vrps events more = flat_map-append (invalid_of vrps) events more

-- ---- one event after another, in its place

left_next : (vrps : List Vrp) (e : Event) (events : List Event) → left_of vrps (e ∷ events) ≡ (judged_by_vrps vrps e).0 ∷ left_of vrps events
unfolding left_of
left_next vrps e events = refl

invalid_next : (vrps : List Vrp) (e : Event) (events : List Event) → invalid_in vrps (e ∷ events) ≡ invalid_of vrps e ++ invalid_in vrps events
unfolding invalid_in
invalid_next vrps e events = refl

module _ (vrps : List Vrp) (items : List code.Event) (i : ℕ) (d y : code.Event) (lt : i < length items) where
  abbrev put : List code.Event
  put = slice_set items i y

  abbrev one : Event
  one = event_as (get_or items i d)

  abbrev later : List Event
  later = map event_as (drop (i + 1) items)

  front : map event_as (drop i items) ≡ one ∷ later
  front = ap (map event_as) (drop_more items i d lt)

  behind : map event_as (drop (i + 1) put) ≡ later
  behind = ap (map event_as) (drop-set-lt (i + 1) items i y (omega arith))

  before : map event_as (take (i + 1) put) ≡ map event_as (take i items) ++ event_as y ∷ []
  before = ap (map event_as) (take_more_set items i y lt) ∙ map-append event_as (take i items) (y ∷ [])

  pub left_step : (goal : List Event) → event_as y ≡ (judged_by_vrps vrps one).0 → map event_as (take i items) ++ left_of vrps (map event_as (drop i items)) ≡ goal → map event_as (take (i + 1) put) ++ left_of vrps (map event_as (drop (i + 1) put)) ≡ goal
  left_step goal is e =
      ap (λ es. map event_as (take (i + 1) put) ++ left_of vrps es) behind
      ∙ (ap (λ es. es ++ left_of vrps later) before
      ∙ (append_assoc (map event_as (take i items)) (event_as y ∷ []) (left_of vrps later)
      ∙ (ap (λ x. map event_as (take i items) ++ (x ∷ left_of vrps later)) is
      ∙ (ap (λ es. map event_as (take i items) ++ es) (sym (left_next vrps one later)) ∙ (ap (λ es. map event_as (take i items) ++ left_of vrps es) (sym front) ∙ e)))))

  pub noted_step : (rows more : List (Announced × Vrp)) (goal : List (Announced × Vrp)) → more ≡ rows ++ invalid_of vrps one → rows ++ invalid_in vrps (map event_as (drop i items)) ≡ goal → more ++ invalid_in vrps (map event_as (drop (i + 1) put)) ≡ goal
  noted_step rows more goal is e =
      ap (λ es. more ++ invalid_in vrps es) behind
      ∙ (ap (λ rs. rs ++ invalid_in vrps later) is
      ∙ (append_assoc rows (invalid_of vrps one) (invalid_in vrps later)
      ∙ (ap (λ rs. rows ++ rs) (sym (invalid_next vrps one later)) ∙ (ap (λ es. rows ++ invalid_in vrps es) (sym front) ∙ e))))

-- all are judged
pub left_all : (vrps : List Vrp) (items : List code.Event) (i : ℕ) (goal : List Event) → length items ≤ i → map event_as (take i items) ++ left_of vrps (map event_as (drop i items)) ≡ goal → map event_as items ≡ goal
unfolding left_of
left_all vrps items i goal le e =
    ap (map event_as) (sym (take_all i items le)) ∙ (sym (ap (λ es. map event_as (take i items) ++ left_of vrps (map event_as es)) (drop_all i items le) ∙ append-nil (map event_as (take i items))) ∙ e)

pub noted_all : (vrps : List Vrp) (items : List code.Event) (i : ℕ) (rows goal : List (Announced × Vrp)) → length items ≤ i → rows ++ invalid_in vrps (map event_as (drop i items)) ≡ goal → rows ≡ goal
unfolding invalid_in
noted_all vrps items i rows goal le e = sym (ap (λ es. rows ++ invalid_in vrps (map event_as es)) (drop_all i items le) ∙ append-nil rows) ∙ e

-- the row of an event is added, or none
pub row_added : (items : List code_invalid.Invalid) (row : code_invalid.Invalid) → map invalid_as (items ++ row ∷ []) ≡ map invalid_as items ++ invalid_as row ∷ []
row_added items row = map-append invalid_as items (row ∷ [])

pub none_added : (rows : List (Announced × Vrp)) → rows ≡ rows ++ []
none_added rows = sym (append-nil rows)
