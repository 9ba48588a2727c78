-- An elementary event changes no other prefix's route.
use Rattle.std.proofs.Common.{◌≡◌, [], ◌∷◌, Bool, true, false, refl, sym, ap, ◌∙◌}
use Rattle.std.specs.Prelude.{◌&&◌, ◌||◌, if◌then◌else◌, map}
use Rattle.std.specs.List.{AllByRecursion, list_any}
use Rattle.std.specs.List.Sorted.{IsStrictlySortedBy}
use Rattle.std.specs.Map.{lookup, keys_of}
use Rattle.table_model.specs.Address.{Prefix, IsPrefix, same_prefix}
use Rattle.table_model.proofs.SamePrefix.{same_prefix_is, same_prefix_itself}
use Rattle.route_model.specs.Events.{Elem, Put, Cut, elem_prefix, same_via}
use Rattle.route_model.specs.Choice.{Place, PathAttrs, Candidates, AreCandidates, IsHeld, IsPlace, IsElem, same_place, place_cmp, after_elem, is_about, offered, is_chosen, chosen_in, routes_of, chosen_for}
use Rattle.route_model.proofs.Keyed.{found_later, found_fails, all_filter}
use Rattle.route_model.proofs.Places.{place_key}
use Rattle.route_model.proofs.Choices.{held_first, one_is_chosen, chosen_is_held, chosen_wins, chosen_for-chosen, chosen_for-none, chosen_for-best}
use Rattle.route_model.proofs.Said.{candidates_after, attrs_after}

-- a prefix that some candidate has is a held candidate's
some_held : (p : Prefix) (held : Candidates) → IsStrictlySortedBy place_cmp (keys_of held) → list_any (λ c. same_prefix p c.0.prefix) held ≡ true → (c : Place × PathAttrs) × IsHeld held c × (c.0.prefix ≡ p)
unfolding IsStrictlySortedBy
some_held p [] s h = absurd cc
some_held p (e ∷ held) s h = by_test (same_prefix p e.0.prefix) refl h (some_held p held s.1)
  where
    by_test : (b : Bool) → same_prefix p e.0.prefix ≡ b → (b || list_any (λ c. same_prefix p c.0.prefix) held) ≡ true
        → (list_any (λ c. same_prefix p c.0.prefix) held ≡ true → (c : Place × PathAttrs) × IsHeld held c × (c.0.prefix ≡ p)) → (c : Place × PathAttrs) × IsHeld (e ∷ held) c × (c.0.prefix ≡ p)
    by_test true t x ih = (e, held_first e held, sym (same_prefix_is p e.0.prefix t))
    by_test false t x ih = let r = ih x in (r.0, found_later place_key r.0.0 r.0.1 e held s r.1, r.2)

-- both offer the same at each place of a prefix
abbrev AgreeAt : Prefix → Candidates → Candidates → Type 0
AgreeAt p held more = (at : Place) → at.prefix ≡ p → lookup (same_place at) more ≡ lookup (same_place at) held

-- then both choose the same for it
agree : (p : Prefix) (held more : Candidates) → AreCandidates held → AreCandidates more → AgreeAt p held more → chosen_for more p ≡ chosen_for held p
agree p held more a b g = by_test (list_any (λ c. same_prefix p c.0.prefix) held) refl
  where
    nowhere : list_any (λ c. same_prefix p c.0.prefix) held ≡ false → (c : Place × PathAttrs) → IsHeld more c → (t : Bool) → same_prefix p c.0.prefix ≡ t → t ≡ false
    nowhere n c h true t =
        let x : IsHeld held c = sym (g c.0 (sym (same_prefix_is p c.0.prefix t))) ∙ h in
        sym t ∙ found_fails place_key (λ c. same_prefix p c.0.prefix) c.0 c.1 held n x
    nowhere n c h false t = refl

    by_test : (n : Bool) → list_any (λ c. same_prefix p c.0.prefix) held ≡ n → chosen_for more p ≡ chosen_for held p
    by_test true n =
        let c = some_held p held a.1 n in
        let d = one_is_chosen held c.0 a c.1 in
        let i : d.0.0.prefix ≡ p = d.2 ∙ c.2 in
        let h : IsHeld held d.0 = chosen_is_held held d.0 a d.1 in
        let k : IsHeld more d.0 = g d.0.0 i ∙ h in
        let x = chosen_for-chosen held d.0 a d.1 in
        let y = chosen_for-best more d.0 b k (λ e m t.
        let j : e.0.prefix ≡ d.0.0.prefix = same_prefix_is e.0.prefix d.0.0.prefix t in
        chosen_wins held d.0 e a d.1 (sym (g e.0 (j ∙ i)) ∙ m) (sym j)) in
        ap (chosen_for more) (sym i) ∙ (y ∙ (sym x ∙ ap (chosen_for held) i))
    by_test false n =
        chosen_for-none more p b (λ c h. nowhere n c h (same_prefix p c.0.prefix) refl)
        ∙ sym (chosen_for-none held p a (λ c h. found_fails place_key (λ c. same_prefix p c.0.prefix) c.0 c.1 held n h))

-- a place of another prefix
apart : (at : Place) (p q : Prefix) → same_prefix p q ≡ false → at.prefix ≡ q → same_prefix at.prefix p ≡ false
apart at p q n i = by_test (same_prefix at.prefix p) refl
  where
    by_test : (t : Bool) → same_prefix at.prefix p ≡ t → t ≡ false
    by_test true t =
        let j : p ≡ q = sym (same_prefix_is at.prefix p t) ∙ i in
        let k : same_prefix p q ≡ true = ap (same_prefix p) (sym j) ∙ same_prefix_itself p in absurd cc
    by_test false t = refl

not_about : (at : Place) (elem : Elem) (q : Prefix) → same_prefix (elem_prefix elem) q ≡ false → at.prefix ≡ q → is_about at elem ≡ false
not_about at (Put via prefix path hop) q n i = ap (λ b. b && same_via at.via via) (apart at prefix q n i)
not_about at (Cut via prefix) q n i = ap (λ b. b && same_via at.via via) (apart at prefix q n i)

-- an elementary event changes the route of its prefix alone
pub chosen_elsewhere : (held : Candidates) (elem : Elem) (q : Prefix) → AreCandidates held → IsElem elem → same_prefix (elem_prefix elem) q ≡ false → chosen_for (after_elem held elem) q ≡ chosen_for held q
chosen_elsewhere held elem q a e n =
    agree q held (after_elem held elem) a (candidates_after held elem a e) (λ at i.
    attrs_after at held elem a e ∙ ap (λ b. if b then offered elem else lookup (same_place at) held) (not_about at elem q n i))

-- ---- the prefixes of the routes

all_routes : (cs : Candidates) → AllByRecursion IsPlace (keys_of cs) → AllByRecursion IsPrefix (keys_of (map (λ c. (c.0.prefix, c.1.hop)) cs))
all_routes [] a = tt
all_routes (c ∷ cs) a = (a.0.0, all_routes cs a.1)

pub routes_at_prefixes : (held : Candidates) → AreCandidates held → AllByRecursion IsPrefix (keys_of (routes_of held))
routes_at_prefixes held a = all_routes (chosen_in held) (all_filter (is_chosen held) IsPlace held a.0)
