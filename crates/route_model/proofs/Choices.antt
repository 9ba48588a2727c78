-- Which candidate is chosen, and what the routes are.
use Rattle.std.proofs.Common.{◌≡◌, ◌≤◌, ◌<◌, [], ◌∷◌, Bool, true, false, cond, Option, Some, None, refl, sym, ap, ◌∙◌, arith}
use Rattle.std.specs.Prelude.{not, ◌&&◌, ◌||◌, map, is_some}
use Rattle.std.specs.List.{AllByRecursion, list_any}
use Rattle.std.specs.List.Sorted.{IsStrictlySortedBy}
use Rattle.std.specs.Map.{lookup, keys_of}
use Rattle.std.specs.Option.{option_and_then}
use Rattle.std.specs.Ordering.{nat_cmp, ordering_then, ordering_reverse, is_lt, is_gt}
use Rattle.std.specs.Cmp.{IsTotalOrder}
use Rattle.std.specs.declared.cmp.Ordering.{Ordering}
use Rattle.std.specs.declared.cmp.Ordering.TheVariants.{Less, Equal, Greater}
use Rattle.std.proofs.lemmas.Bool.{or_parts, not-true}
use Rattle.std.proofs.lemmas.Cmp.{nat_cmp_total, on_total, then_total, tied_itself, upto, ranked}
use Rattle.table_model.specs.Address.{Address, Prefix, same_prefix}
use Rattle.table_model.specs.Order.{prefix_cmp}
use Rattle.table_model.proofs.SamePrefix.{same_prefix_is, same_prefix_itself}
use Rattle.table_model.proofs.Ordered.{equal_are_same}
use Rattle.route_model.specs.Events.{via_cmp}
use Rattle.route_model.specs.Choice.{Place, PathAttrs, Candidates, AreCandidates, IsHeld, IsPlace, same_place, place_cmp, choice_cmp, beats, is_chosen, chosen_in, IsChosen, routes_of, chosen_for}
use Rattle.route_model.proofs.Keyed.{found_meets, found_later, found_fails, none_passes, lookup-filter, sorted_filter, all_filter}
use Rattle.route_model.proofs.Places.{place_key, via_total, via_exact, both_equal}

choice_total : IsTotalOrder choice_cmp
choice_total = then_total (on_total (λ (c : Place × PathAttrs). c.1.path) nat_cmp_total) (on_total (λ (c : Place × PathAttrs). c.0.via) via_total)

flipped : (o : Ordering) → is_gt (ordering_reverse o) ≡ is_lt o
flipped Less = refl
flipped Equal = refl
flipped Greater = refl

-- one beats another where the other comes after it
pub beats_flipped : (c d : Place × PathAttrs) → is_gt (choice_cmp d c) ≡ beats c d
beats_flipped c d = ap is_gt (choice_total.antisymm d c) ∙ flipped (choice_cmp c d)

-- what neither beats the second, nor the second the third, doesn't beat the third
pub not_beaten : (c d e : Place × PathAttrs) → beats d c ≡ false → beats e d ≡ false → beats e c ≡ false
not_beaten c d e h g = sym (beats_flipped e c) ∙ upto choice_total c d e (beats_flipped d c ∙ h) (beats_flipped e d ∙ g)

pub not_itself : (c : Place × PathAttrs) → beats c c ≡ false
not_itself c = ap is_lt (tied_itself choice_total c)

pub not_back : (c d : Place × PathAttrs) → beats d c ≡ true → beats c d ≡ false
not_back c d h = by_order (choice_cmp d c) refl h
  where
    by_order : (o : Ordering) → choice_cmp d c ≡ o → is_lt o ≡ true → beats c d ≡ false
    by_order Less e t = ap is_lt (choice_total.antisymm c d ∙ ap ordering_reverse e)
    by_order Equal e t = cc
    by_order Greater e t = cc

-- ---- there is a best one

abbrev rivals : Prefix → Place × PathAttrs → Place × PathAttrs → Bool
rivals p c d = same_prefix d.0.prefix p && beats d c

record IsBest (held : Candidates) (p : Prefix) (c : Place × PathAttrs) : Type 0 where
  is_held : IsHeld held c
  prefix : same_prefix c.0.prefix p ≡ true
  alone : list_any (rivals p c) held ≡ false

none_of : (p : Prefix) → (c d : Place × PathAttrs) (held : Candidates) → beats d c ≡ false → list_any (rivals p d) held ≡ false → list_any (rivals p c) held ≡ false
none_of p c d [] h a = refl
none_of p c d (e ∷ held) h a =
    let x = or_parts (rivals p d e) (list_any (rivals p d) held) a in
    ap (λ b. b || list_any (rivals p c) held) (by_test (same_prefix e.0.prefix p) x.0) ∙ none_of p c d held h x.1
  where
    by_test : (b : Bool) → (b && beats e d) ≡ false → (b && beats e c) ≡ false
    by_test true g = not_beaten c d e h g
    by_test false g = refl

best_of : (p : Prefix) (held : Candidates) → IsStrictlySortedBy place_cmp (keys_of held) → list_any (λ c. same_prefix c.0.prefix p) held ≡ true → (c : Place × PathAttrs) × IsBest held p c
unfolding IsStrictlySortedBy
best_of p [] s h = absurd cc
best_of p (e ∷ held) s h = by_test (same_prefix e.0.prefix p) refl (list_any (λ c. same_prefix c.0.prefix p) held) refl h (best_of p held s.1)
  where
    here : IsHeld (e ∷ held) e
    here = ap (λ b. cond b (Some e.1) (lookup (same_place e.0) held)) (place_key.itself e.0)

    none_there : (held : Candidates) → list_any (λ c. same_prefix c.0.prefix p) held ≡ false → list_any (rivals p e) held ≡ false
    none_there [] n = refl
    none_there (f ∷ held) n =
        let x = or_parts (same_prefix f.0.prefix p) (list_any (λ c. same_prefix c.0.prefix p) held) n in
        ap (λ b. (b && beats f e) || list_any (rivals p e) held) x.0 ∙ none_there held x.1

    alone_first : (b : Bool) → list_any (rivals p e) held ≡ false → ((b && beats e e) || list_any (rivals p e) held) ≡ false
    alone_first true n = ap (λ x. x || list_any (rivals p e) held) (not_itself e) ∙ n
    alone_first false n = n

    compare : (d : Place × PathAttrs) → IsBest held p d → (t : Bool) → same_prefix e.0.prefix p ≡ t → (b : Bool) → beats e d ≡ b → (c : Place × PathAttrs) × IsBest (e ∷ held) p c
    compare d best true t true u =
        (e, record { is_held = here; prefix = t; alone = alone_first (same_prefix e.0.prefix p) (none_of p e d held (not_back d e u) best.alone) })
    compare d best true t false u =
        (d, record { is_held = found_later place_key d.0 d.1 e held s best.is_held; prefix = best.prefix; alone = ap (λ x. (same_prefix e.0.prefix p && x) || list_any (rivals p d) held) u ∙ (ap (λ x. (x && false) || list_any (rivals p d) held) t ∙ best.alone) })
    compare d best false t b u =
        (d, record { is_held = found_later place_key d.0 d.1 e held s best.is_held; prefix = best.prefix; alone = ap (λ x. (x && beats e d) || list_any (rivals p d) held) t ∙ best.alone })

    by_test : (t : Bool) → same_prefix e.0.prefix p ≡ t → (n : Bool) → list_any (λ c. same_prefix c.0.prefix p) held ≡ n → (t || n) ≡ true
        → (list_any (λ c. same_prefix c.0.prefix p) held ≡ true → (c : Place × PathAttrs) × IsBest held p c) → (c : Place × PathAttrs) × IsBest (e ∷ held) p c
    by_test t g true n x ih = let r = ih n in compare r.0 r.1 t g (beats e r.0) refl
    by_test true g false n x ih =
        (e, record { is_held = here; prefix = g; alone = alone_first (same_prefix e.0.prefix p) (none_there held n) })
    by_test false g false n x ih = absurd cc

-- ---- the chosen ones

pub chosen_from : (held : Candidates) (c : Place × PathAttrs) → AreCandidates held → IsHeld held c → is_chosen held c ≡ true → IsChosen held c
chosen_from held c a h t =
    lookup-filter place_key (is_chosen held) c.0 held a.1 ∙ (ap (option_and_then (λ v. cond (is_chosen held (c.0, v)) (Some v) None)) h ∙ ap (λ b. cond b (Some c.1) None) t)

pub chosen_parts : (held : Candidates) (c : Place × PathAttrs) → AreCandidates held → IsChosen held c → IsHeld held c × (is_chosen held c ≡ true)
chosen_parts held c a h = by_found (lookup (same_place c.0) held) refl (sym (lookup-filter place_key (is_chosen held) c.0 held a.1) ∙ h)
  where
    by_test : (v : PathAttrs) → (b : Bool) → is_chosen held (c.0, v) ≡ b → lookup (same_place c.0) held ≡ Some v → cond b (Some v) None ≡ Some c.1 → IsHeld held c × (is_chosen held c ≡ true)
    by_test v true t f e = let i : v ≡ c.1 = cc in (f ∙ ap Some i, ap (λ y. is_chosen held (c.0, y)) (sym i) ∙ t)
    by_test v false t f e = absurd cc

    by_found : (o : Option PathAttrs) → lookup (same_place c.0) held ≡ o → option_and_then (λ v. cond (is_chosen held (c.0, v)) (Some v) None) o ≡ Some c.1 → IsHeld held c × (is_chosen held c ≡ true)
    by_found None f e = absurd cc
    by_found (Some v) f e = by_test v (is_chosen held (c.0, v)) refl f e

pub chosen_is_held : (held : Candidates) (c : Place × PathAttrs) → AreCandidates held → IsChosen held c → IsHeld held c
chosen_is_held held c a h = (chosen_parts held c a h).0

-- no candidate of its prefix beats it
pub chosen_wins : (held : Candidates) (c d : Place × PathAttrs) → AreCandidates held → IsChosen held c → IsHeld held d → c.0.prefix ≡ d.0.prefix → beats d c ≡ false
chosen_wins held c d a h g e =
    let x : list_any (λ f. same_prefix f.0.prefix c.0.prefix && beats f c) held ≡ false = not-true _ (chosen_parts held c a h).1 in
    let y : (same_prefix d.0.prefix c.0.prefix && beats d c) ≡ false = found_fails place_key (λ f. same_prefix f.0.prefix c.0.prefix && beats f c) d.0 d.1 held x g in
    let z : same_prefix d.0.prefix c.0.prefix ≡ true = ap (λ p. same_prefix d.0.prefix p) e ∙ same_prefix_itself d.0.prefix in
    ap (λ b. b && beats d c) (sym z) ∙ y

-- where any is held for a prefix, one is chosen
pub one_is_chosen : (held : Candidates) (c : Place × PathAttrs) → AreCandidates held → IsHeld held c → (d : Place × PathAttrs) × IsChosen held d × (d.0.prefix ≡ c.0.prefix)
one_is_chosen held c a h =
    let p = c.0.prefix in
    let found : list_any (λ d. same_prefix d.0.prefix p) held ≡ true = by_test (list_any (λ d. same_prefix d.0.prefix p) held) refl in
    let r = best_of p held a.1 found in
    let e : r.0.0.prefix ≡ p = same_prefix_is r.0.0.prefix p r.1.prefix in
    (r.0, chosen_from held r.0 a r.1.is_held (ap not (ap (λ q. list_any (rivals q r.0) held) e ∙ r.1.alone)), e)
  where
    by_test : (b : Bool) → list_any (λ d. same_prefix d.0.prefix c.0.prefix) held ≡ b → b ≡ true
    by_test true n = refl
    by_test false n =
        let x : same_prefix c.0.prefix c.0.prefix ≡ false = found_fails place_key (λ d. same_prefix d.0.prefix c.0.prefix) c.0 c.1 held n h in
        let y : same_prefix c.0.prefix c.0.prefix ≡ true = same_prefix_itself c.0.prefix in absurd cc

pub one_alone : (held : Candidates) (c d : Place × PathAttrs) → AreCandidates held → IsChosen held c → IsChosen held d → c.0.prefix ≡ d.0.prefix → c ≡ d
one_alone held c d a h g e = by_order (choice_cmp c d) refl
  where
    x : beats d c ≡ false
    x = chosen_wins held c d a h (chosen_is_held held d a g) e

    y : beats c d ≡ false
    y = chosen_wins held d c a g (chosen_is_held held c a h) (sym e)

    same_value : (v w : PathAttrs) → Some v ≡ Some w → v ≡ w
    same_value v w i = cc

    by_order : (o : Ordering) → choice_cmp c d ≡ o → c ≡ d
    by_order Less u = let z : beats c d ≡ true = ap is_lt u in let w : beats c d ≡ false = y in absurd cc
    by_order Greater u = let z : beats d c ≡ true = sym (beats_flipped d c) ∙ ap is_gt u in let w : beats d c ≡ false = x in absurd cc
    by_order Equal u =
        let b = both_equal (nat_cmp c.1.path d.1.path) (via_cmp c.0.via d.0.via) u in
        let hc = found_meets place_key IsPlace c.0 c.1 held a.0 (chosen_is_held held c a h) in
        let hd = found_meets place_key IsPlace d.0 d.1 held a.0 (chosen_is_held held d a g) in
        let i : c.0.via ≡ d.0.via = via_exact c.0.via d.0.via hc.1 hd.1 b.1 in
        let j : c.0 ≡ d.0 = ap (λ z. let r : Place = record { prefix = z; via = c.0.via } in r) e ∙ ap (λ z. let r : Place = record { prefix = d.0.prefix; via = z } in r) i in
        let k : Some c.1 ≡ Some d.1 = sym h ∙ (ap (λ z. lookup (same_place z) (chosen_in held)) j ∙ g) in
        let l : c.1 ≡ d.1 = same_value c.1 d.1 k in
        ap (λ (z : Place). (z, c.1)) j ∙ ap (λ (z : PathAttrs). (d.0, z)) l

pub least_path : (held : Candidates) (c d : Place × PathAttrs) → AreCandidates held → IsChosen held c → IsHeld held d → c.0.prefix ≡ d.0.prefix → c.1.path ≤ d.1.path
least_path held c d a h g e = by_order (nat_cmp d.1.path c.1.path) refl (chosen_wins held c d a h g e)
  where
    by_order : (o : Ordering) → nat_cmp d.1.path c.1.path ≡ o → is_lt (ordering_then o (via_cmp d.0.via c.0.via)) ≡ false → c.1.path ≤ d.1.path
    by_order Less u w = absurd cc
    by_order Equal u w = let x : d.1.path ≡ c.1.path = ranked d.1.path c.1.path Equal (sym u) in omega (arith, x)
    by_order Greater u w = let x : c.1.path < d.1.path = ranked d.1.path c.1.path Greater (sym u) in omega (arith, x)

pub least_via : (held : Candidates) (c d : Place × PathAttrs) → AreCandidates held → IsChosen held c → IsHeld held d → c.0.prefix ≡ d.0.prefix → c.1.path ≡ d.1.path → via_cmp d.0.via c.0.via ≡ Less → ⊥
least_via held c d a h g e f l =
    let x : beats d c ≡ false = chosen_wins held c d a h g e in
    let y : nat_cmp d.1.path c.1.path ≡ Equal = ap (nat_cmp d.1.path) f ∙ tied_itself nat_cmp_total d.1.path in
    let z : beats d c ≡ true = ap (λ o. is_lt (ordering_then o (via_cmp d.0.via c.0.via))) y ∙ ap is_lt l in absurd cc

-- ---- the routes

abbrev OnePerPrefix : Candidates → Type 0
OnePerPrefix cs = (c d : Place × PathAttrs) → IsHeld cs c → IsHeld cs d → c.0.prefix ≡ d.0.prefix → c ≡ d

one_later : (e : Place × PathAttrs) (cs : Candidates) → IsStrictlySortedBy place_cmp (keys_of (e ∷ cs)) → OnePerPrefix (e ∷ cs) → OnePerPrefix cs
one_later e cs s o c d h g i = o c d (found_later place_key c.0 c.1 e cs s h) (found_later place_key d.0 d.1 e cs s g) i

pub held_first : (e : Place × PathAttrs) (cs : Candidates) → IsHeld (e ∷ cs) e
held_first e cs = ap (λ b. cond b (Some e.1) (lookup (same_place e.0) cs)) (place_key.itself e.0)

route_found : (cs : Candidates) (c : Place × PathAttrs) → IsStrictlySortedBy place_cmp (keys_of cs) → OnePerPrefix cs → IsHeld cs c → lookup (same_prefix c.0.prefix) (map (λ d. (d.0.prefix, d.1.hop)) cs) ≡ Some c.1.hop
unfolding IsStrictlySortedBy
route_found [] c s o h = absurd cc
route_found (e ∷ cs) c s o h = by_prefix (same_prefix c.0.prefix e.0.prefix) refl (route_found cs c s.1 (one_later e cs s o))
  where
    rest : Option Address
    rest = lookup (same_prefix c.0.prefix) (map (λ d. (d.0.prefix, d.1.hop)) cs)

    by_place : (b : Bool) → same_place c.0 e.0 ≡ b → same_prefix c.0.prefix e.0.prefix ≡ false → lookup (same_place c.0) (e ∷ cs) ≡ Some c.1 → IsHeld cs c
    by_place true t f g =
        let i : e.0 ≡ c.0 = sym (place_key.same c.0 e.0 t) in
        let j : same_prefix c.0.prefix e.0.prefix ≡ true = ap (λ z. same_prefix c.0.prefix z.prefix) i ∙ same_prefix_itself c.0.prefix in absurd cc
    by_place false t f g = sym (ap (λ b. cond b (Some e.1) (lookup (same_place c.0) cs)) t) ∙ g

    by_prefix : (b : Bool) → same_prefix c.0.prefix e.0.prefix ≡ b → (IsHeld cs c → rest ≡ Some c.1.hop) → cond b (Some e.1.hop) rest ≡ Some c.1.hop
    by_prefix true t ih =
        let i : e ≡ c = o e c (held_first e cs) h (sym (same_prefix_is c.0.prefix e.0.prefix t)) in
        ap (λ z. Some z.1.hop) i
    by_prefix false t ih = ih (by_place (same_place c.0 e.0) refl t h)

no_route : (cs : Candidates) (p : Prefix) → IsStrictlySortedBy place_cmp (keys_of cs) → ((c : Place × PathAttrs) → IsHeld cs c → same_prefix p c.0.prefix ≡ false) → lookup (same_prefix p) (map (λ d. (d.0.prefix, d.1.hop)) cs) ≡ None
unfolding IsStrictlySortedBy
no_route [] p s h = refl
no_route (e ∷ cs) p s h =
    ap (λ b. cond b (Some e.1.hop) (lookup (same_prefix p) (map (λ d. (d.0.prefix, d.1.hop)) cs))) (h e (held_first e cs))
    ∙ no_route cs p s.1 (λ c g. h c (found_later place_key c.0 c.1 e cs s g))

above : (e : Place × PathAttrs) (cs : Candidates) → IsStrictlySortedBy place_cmp (keys_of cs) → IsPlace e.0 → AllByRecursion IsPlace (keys_of cs) → AllByRecursion (λ q. place_cmp e.0 q ≡ Less) (keys_of cs) → ((c : Place × PathAttrs) → IsHeld cs c → e.0.prefix ≡ c.0.prefix → ⊥)
    → AllByRecursion (λ r. prefix_cmp e.0.prefix r ≡ Less) (keys_of (map (λ d. (d.0.prefix, d.1.hop)) cs))
unfolding IsStrictlySortedBy
above e [] s x a l n = tt
above e (c ∷ cs) s x a l n = (strict (prefix_cmp e.0.prefix c.0.prefix) refl l.0, above e cs s.1 x a.1 l.1 (λ d h. n d (found_later place_key d.0 d.1 c cs s h)))
  where
    strict : (o : Ordering) → prefix_cmp e.0.prefix c.0.prefix ≡ o → ordering_then o (via_cmp e.0.via c.0.via) ≡ Less → o ≡ Less
    strict Less u v = refl
    strict Equal u v = absurd (n c (held_first c cs) (equal_are_same e.0.prefix c.0.prefix x.0 a.0.0 u))
    strict Greater u v = cc

routes_sorted_from : (cs : Candidates) → IsStrictlySortedBy place_cmp (keys_of cs) → AllByRecursion IsPlace (keys_of cs) → OnePerPrefix cs → IsStrictlySortedBy prefix_cmp (keys_of (map (λ d. (d.0.prefix, d.1.hop)) cs))
unfolding IsStrictlySortedBy
routes_sorted_from [] s a o = tt
routes_sorted_from (e ∷ cs) s a o = (above e cs s.1 a.0 a.1 s.0 alone, routes_sorted_from cs s.1 a.1 (one_later e cs s o))
  where
    alone : (c : Place × PathAttrs) → IsHeld cs c → e.0.prefix ≡ c.0.prefix → ⊥
    alone c h i =
        let j : e ≡ c = o e c (held_first e cs) (found_later place_key c.0 c.1 e cs s h) i in
        let k : place_cmp e.0 c.0 ≡ Less = found_meets place_key (λ q. place_cmp e.0 q ≡ Less) c.0 c.1 cs s.0 h in
        let l : place_cmp e.0 c.0 ≡ Equal = ap (λ z. place_cmp e.0 z.0) (sym j) ∙ tied_itself place_key.total e.0 in absurd cc

chosen_sorted : (held : Candidates) → AreCandidates held → IsStrictlySortedBy place_cmp (keys_of (chosen_in held))
chosen_sorted held a = sorted_filter place_cmp (is_chosen held) held a.1

one_per_prefix : (held : Candidates) → AreCandidates held → OnePerPrefix (chosen_in held)
one_per_prefix held a c d h g e = one_alone held c d a h g e

-- the routes are in the order of their prefixes
pub routes_sorted : (held : Candidates) → AreCandidates held → IsStrictlySortedBy prefix_cmp (keys_of (routes_of held))
routes_sorted held a = routes_sorted_from (chosen_in held) (chosen_sorted held a) (all_filter (is_chosen held) IsPlace held a.0) (one_per_prefix held a)

-- the route of a prefix is its chosen candidate's
pub chosen_for-chosen : (held : Candidates) (c : Place × PathAttrs) → AreCandidates held → IsChosen held c → chosen_for held c.0.prefix ≡ Some c.1.hop
chosen_for-chosen held c a h = route_found (chosen_in held) c (chosen_sorted held a) (one_per_prefix held a) h

-- and there is none where it has no candidate
pub chosen_for-none : (held : Candidates) (p : Prefix) → AreCandidates held → ((c : Place × PathAttrs) → IsHeld held c → same_prefix p c.0.prefix ≡ false) → chosen_for held p ≡ None
chosen_for-none held p a h = no_route (chosen_in held) p (chosen_sorted held a) (λ c g. h c (chosen_is_held held c a g))

-- a candidate that none of its prefix beats is its prefix's route
pub chosen_for-best : (held : Candidates) (c : Place × PathAttrs) → AreCandidates held → IsHeld held c → ((d : Place × PathAttrs) → IsHeld held d → same_prefix d.0.prefix c.0.prefix ≡ true → beats d c ≡ false) → chosen_for held c.0.prefix ≡ Some c.1.hop
chosen_for-best held c a h w =
    let alone : list_any (λ d. same_prefix d.0.prefix c.0.prefix && beats d c) held ≡ false = none_passes place_key (λ d. same_prefix d.0.prefix c.0.prefix && beats d c) held a.1 (λ q v g. by_test (q, v) g (same_prefix q.prefix c.0.prefix) refl) in
    chosen_for-chosen held c a (chosen_from held c a h (ap not alone))
  where
    by_test : (d : Place × PathAttrs) → IsHeld held d → (b : Bool) → same_prefix d.0.prefix c.0.prefix ≡ b → (b && beats d c) ≡ false
    by_test d g true t = w d g t
    by_test d g false t = refl

-- the routes hold exactly the prefixes with a candidate
pub routes_hold : (held : Candidates) (p : Prefix) → AreCandidates held → is_some (chosen_for held p) ≡ list_any (λ c. same_prefix p c.0.prefix) held
routes_hold held p a = by_test (list_any (λ c. same_prefix p c.0.prefix) held) refl
  where
    unheld : chosen_for held p ≡ None → (c : Place × PathAttrs) → IsHeld held c → (b : Bool) → same_prefix p c.0.prefix ≡ b → b ≡ false
    unheld e c h true t =
        let r = one_is_chosen held c a h in
        let i : r.0.0.prefix ≡ p = r.2 ∙ sym (same_prefix_is p c.0.prefix t) in
        let x : Some r.0.1.hop ≡ None = sym (chosen_for-chosen held r.0 a r.1) ∙ (ap (chosen_for held) i ∙ e) in absurd cc
    unheld e c h false t = refl

    by_chosen : (o : Option Address) → chosen_for held p ≡ o → list_any (λ c. same_prefix p c.0.prefix) held ≡ true → is_some o ≡ true
    by_chosen (Some hop) e t = refl
    by_chosen None e t = let x : list_any (λ c. same_prefix p c.0.prefix) held ≡ false = none_passes place_key (λ c. same_prefix p c.0.prefix) held a.1 (λ q v h. unheld e (q, v) h (same_prefix p q.prefix) refl) in absurd cc

    by_test : (b : Bool) → list_any (λ c. same_prefix p c.0.prefix) held ≡ b → is_some (chosen_for held p) ≡ b
    by_test true t = by_chosen (chosen_for held p) refl t
    by_test false t = ap is_some (chosen_for-none held p a (λ c h. found_fails place_key (λ c. same_prefix p c.0.prefix) c.0 c.1 held t h))
