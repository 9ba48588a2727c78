-- What is to come, event by event.
use Rattle.std.proofs.Common.{◌≡◌, ◌<◌, ◌≤◌, ℕ, zero, suc, List, [], ◌∷◌, ◌++◌, drop, get_or, length, map, refl, sym, ap, ◌∙◌, arith}
use Rattle.route_model.specs.Events.{Elem}
use Rattle.route_model.specs.Choice.{Candidates, after_elems, elems_after, elems_of}
use Rattle.fib_prefix.specs.Views.{elem_as, event_as}
use Rattle.fib_prefix.specs.declared.event.Elem as code_elem
use Rattle.fib_prefix.specs.declared.event.Event as code_event

none_over : (items : List code_elem.Elem) (over : ℕ) → length items ≤ over → drop over items ≡ []
none_over [] zero le = refl
none_over [] (suc n) le = refl
none_over (x ∷ items) zero le = absurd (omega (arith, le))
none_over (x ∷ items) (suc n) le = none_over items n (omega (arith, le))

pub no_events : (events : List code_event.Event) → length events ≡ 0 → events ≡ []
no_events [] e = refl
no_events (x ∷ events) e = absurd (omega (arith, e))

abbrev Come : List code_elem.Elem → ℕ → List code_event.Event → Candidates → List Elem
Come items over events held = map elem_as (drop over items) ++ elems_after (after_elems held (map elem_as (drop over items))) (map event_as events)

-- the event at hand is over, and there is none
pub none_comes : (items : List code_elem.Elem) (over : ℕ) (events : List code_event.Event) (held : Candidates) → length items ≤ over → events ≡ [] → Come items over events held ≡ []
unfolding elems_after
none_comes items over events held le none =
    ap (λ (es : List code_elem.Elem). map elem_as es ++ elems_after (after_elems held (map elem_as es)) (map event_as events)) (none_over items over le)
    ∙ ap (λ (vs : List code_event.Event). elems_after held (map event_as vs)) none

-- it is over, and there is one more
pub next_comes : (items new : List code_elem.Elem) (over : ℕ) (events more : List code_event.Event) (event : code_event.Event) (held : Candidates) → length items ≤ over → events ≡ event ∷ more → map elem_as new ≡ elems_of held (event_as event) → Come new 0 more held ≡ Come items over events held
unfolding elems_after
next_comes items new over events more event held le is elems =
    ap (λ (es : List Elem). es ++ elems_after (after_elems held es) (map event_as more)) elems
    ∙ (ap (λ (vs : List code_event.Event). elems_after held (map event_as vs)) (sym is)
    ∙ sym (ap (λ (es : List code_elem.Elem). map elem_as es ++ elems_after (after_elems held (map elem_as es)) (map event_as events)) (none_over items over le)))

-- the next one of those at hand
pub at_place : (items : List code_elem.Elem) (over : ℕ) (x : code_elem.Elem) → over < length items → x ≡ get_or items over x → map elem_as (drop over items) ≡ elem_as x ∷ map elem_as (drop (suc over) items)
at_place [] over x less e = absurd (omega (arith, less))
at_place (y ∷ items) zero x less e = ap (λ (z : code_elem.Elem). elem_as z ∷ map elem_as items) (sym e)
at_place (y ∷ items) (suc n) x less e = at_place items n x (omega (arith, less)) e

-- one of those at hand is over
pub passed : (items : List code_elem.Elem) (over : ℕ) (e : Elem) (more : List Elem) → map elem_as (drop over items) ≡ e ∷ more → (over < length items) × (map elem_as (drop (suc over) items) ≡ more)
passed [] zero e more is = absurd (cc)
passed [] (suc n) e more is = absurd (cc)
passed (y ∷ items) zero e more is = (omega arith, cc)
passed (y ∷ items) (suc n) e more is = let p = passed items n e more is in (omega (arith, p.0), p.1)
