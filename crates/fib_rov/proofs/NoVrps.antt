-- Without VRPs every event stays as it is.
use Rattle.std.proofs.lemmas.Bool.{eqb-true}
use Rattle.std.proofs.Common.{arith, ◌≡◌, List, [], ◌∷◌, ◌++◌, None, true, length, map, refl, sym, ap, ◌∙◌, append-nil}
use Rattle.std.specs.Prelude.{Option, ℕ, suc, ◌==◌}
use Rattle.route_model.specs.Events.{Event, Announce, Withdraw, Down}
use Rattle.printed_text.specs.Rows.{Announced, Vrp}
use Rattle.fib_rov.specs.declared.vrp.Vrp as code
use Rattle.fib_rov.specs.Views.{vrp_as}
use Rattle.fib_rov.specs.Rov.{invalid_in, invalid_of, judged_by_vrps, left_of}

pub judged_by_none : (e : Event) → judged_by_vrps [] e ≡ (e, None)
judged_by_none (Announce via p path hop origin) = refl
judged_by_none (Withdraw via p) = refl
judged_by_none (Down peer) = refl

pub left_by_none : (events : List Event) → left_of [] events ≡ events
unfolding left_of
left_by_none [] = refl
left_by_none (e ∷ events) = ap (λ (j : Event × Option ℕ). j.0 ∷ left_of [] events) (judged_by_none e) ∙ ap (λ es. e ∷ es) (left_by_none events)

none_invalid : (e : Event) → invalid_of [] e ≡ []
none_invalid (Announce via p path hop origin) = refl
none_invalid (Withdraw via p) = refl
none_invalid (Down peer) = refl

pub none_by_none : (events : List Event) → invalid_in [] events ≡ []
unfolding invalid_in
none_by_none [] = refl
none_by_none (e ∷ events) = ap (λ rows. rows ++ invalid_in [] events) (none_invalid e) ∙ none_by_none events

-- an empty list of VRPs leaves events as they are, and adds nothing to those that are Invalid
pub left_as_they_are : (vrps : List Vrp) (events : List Event) → vrps ≡ [] → events ≡ left_of vrps events
left_as_they_are vrps events e = sym (ap (λ v. left_of v events) e ∙ left_by_none events)

pub nothing_added : (vrps : List Vrp) (events : List Event) (rows : List (Announced × Vrp)) → vrps ≡ [] → rows ≡ rows ++ invalid_in vrps events
nothing_added vrps events rows e = sym (ap (λ x. rows ++ x) (ap (λ v. invalid_in v events) e ∙ none_by_none events) ∙ append-nil rows)

-- a list without members is the empty one
pub none_in : (items : List code.Vrp) (vrps : List Vrp) → (length items == 0) ≡ true → map vrp_as items ≡ vrps → vrps ≡ []
none_in [] vrps e v = sym v
none_in (x ∷ items) vrps e v = absurd (not_empty e)
  where
    not_empty : (suc (length items) == 0) ≡ true → ⊥
    not_empty f = let z : suc (length items) ≡ 0 = eqb-true (suc (length items)) 0 f in omega arith
