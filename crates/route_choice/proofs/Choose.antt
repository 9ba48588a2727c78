-- The chosen hop before and after an elementary event.
use Rattle.std.proofs.Common.{subst, ◌≡◌, Bool, true, false, cond, Option, Some, None, refl, sym, ap, ◌∙◌}
use Rattle.std.specs.Prelude.{option_map, if◌then◌else◌, ◌&&◌, ◌||◌, ◌==◌, nat_lt}
use Rattle.std.specs.Map.{lookup}
use Rattle.std.specs.Ordering.{nat_cmp, ordering_then, is_lt}
use Rattle.table_model.specs.Address.{Address, Prefix, same_prefix}
use Rattle.table_model.proofs.SamePrefix.{same_prefix_is, same_prefix_itself}
use Rattle.fib_addr.specs.Views.{addr_as, prefix_as}
use Rattle.fib_prefix.specs.Views.{via_as, elem_as}
use Rattle.fib_addr.specs.declared.prefix.Prefix as code
use Rattle.fib_prefix.specs.declared.event.Via.{Via}
use Rattle.fib_prefix.specs.declared.event.Elem.{Elem}
use Rattle.fib_prefix.specs.declared.event.Elem.TheVariants as elem
use Rattle.route_model.specs.Events as events
use Rattle.route_model.specs.Events.{same_via}
use Rattle.route_model.specs.Choice as model
use Rattle.route_model.specs.Choice.{Place, Candidates, AreCandidates, IsHeld, same_place, after_elem, beats, chosen_for, offered}
use Rattle.route_model.proofs.Places.{place_key, via_key}
use Rattle.route_model.proofs.Choices.{chosen_for-best, chosen_for-none, not_itself, not_back, not_beaten}
use Rattle.route_model.proofs.Said.{candidates_after, attrs_after}
use Rattle.adj_rib_in.specs.declared.keys.PathKey.{PathKey}
use Rattle.adj_rib_in.specs.declared.keys.PathAttrs.{PathAttrs}
use Rattle.adj_rib_in.specs.declared.keys.Candidate.{Candidate}
use Rattle.route_choice.specs.declared.choice.Choice.{Choice}
use Rattle.fib_prefix.specs.Order.{code_via_cmp}
use Rattle.adj_rib_in.specs.Paths.{Paths, held_in, attrs_at}
use Rattle.route_choice.specs.Paths.{key_in, attrs_in}
use Rattle.route_choice.specs.Walks.{better_of}
use Rattle.route_model.specs.Events.{elem_prefix}
use Rattle.route_choice.specs.Held.{IsChoice}
use Rattle.adj_rib_in.proofs.Orders.{place_as, via_is}
use Rattle.adj_rib_in.specs.Bests.{attrs_as}
use Rattle.adj_rib_in.proofs.Views.{are_candidates, at_key}
use Rattle.route_choice.proofs.Views.{about_is, offered_is, is_elem}
use Rattle.adj_rib_in.specs.Bests.{IsBestOf, IsBestHeld, out_as, candidate_as}
use Rattle.adj_rib_in.proofs.Holds.{place_at, same_value, is_own, is_better}

-- the better of what comes from a path source and what by the others
abbrev model_better : Place → Option model.PathAttrs → Option (Place × model.PathAttrs) → Option Address
model_better at None None = None
model_better at None (Some c) = Some c.1.hop
model_better at (Some o) None = Some o.hop
model_better at (Some o) (Some c) = if beats (at, o) c then Some o.hop else Some c.1.hop

joined : (held : Candidates) (p : Prefix) (q : events.Via) (own : Option model.PathAttrs) (others : Option (Place × model.PathAttrs)) → AreCandidates held → lookup (same_place (place_at p q)) held ≡ own → IsBestOf held p (same_via q) others → chosen_for held p ≡ model_better (place_at p q) own others
joined held p q None None a l b = chosen_for-none held p a (λ d h. by_test d h (same_prefix p d.0.prefix) refl)
  where
    by_test : (d : Place × model.PathAttrs) → IsHeld held d → (t : Bool) → same_prefix p d.0.prefix ≡ t → t ≡ false
    by_test d h true e = let x = is_own held p q d h e (b d h e) in let y : None ≡ Some d.1 = sym l ∙ x.0 in absurd cc
    by_test d h false e = refl
joined held p q None (Some c) a l b =
    ap (chosen_for held) (sym b.1) ∙ chosen_for-best held c a b.0 (λ d h e. by_test d h (ap (same_prefix p) (same_prefix_is d.0.prefix c.0.prefix e ∙ b.1) ∙ same_prefix_itself p) (same_via q d.0.via) refl)
  where
    by_test : (d : Place × model.PathAttrs) → IsHeld held d → same_prefix p d.0.prefix ≡ true → (t : Bool) → same_via q d.0.via ≡ t → beats d c ≡ false
    by_test d h e true t = let x = is_own held p q d h e t in let y : None ≡ Some d.1 = sym l ∙ x.0 in absurd cc
    by_test d h e false t = b.3 d h e t
joined held p q (Some o) None a l b =
    chosen_for-best held (place_at p q, o) a l (λ d h e. own d h (ap (same_prefix p) (same_prefix_is d.0.prefix p e) ∙ same_prefix_itself p))
  where
    own : (d : Place × model.PathAttrs) → IsHeld held d → same_prefix p d.0.prefix ≡ true → beats d (place_at p q, o) ≡ false
    own d h e =
        let x = is_own held p q d h e (b d h e) in
        let y : d.1 ≡ o = same_value d.1 o (sym x.0 ∙ l) in
        ap (λ (z : Place). beats (z, d.1) (place_at p q, o)) (sym x.1) ∙ (ap (λ (z : model.PathAttrs). beats (place_at p q, z) (place_at p q, o)) y ∙ not_itself (place_at p q, o))
joined held p q (Some o) (Some c) a l b = by_beats (beats (place_at p q, o) c) refl
  where
    mine : Place × model.PathAttrs
    mine = (place_at p q, o)

    same_mine : (d : Place × model.PathAttrs) → IsHeld held d → same_prefix p d.0.prefix ≡ true → same_via q d.0.via ≡ true → (e : Place × model.PathAttrs) → beats d e ≡ beats (place_at p q, o) e
    same_mine d h e t f =
        let x = is_own held p q d h e t in
        let y : d.1 ≡ o = same_value d.1 o (sym x.0 ∙ l) in
        ap (λ (z : Place). beats (z, d.1) f) (sym x.1) ∙ ap (λ (z : model.PathAttrs). beats (place_at p q, z) f) y

    over_mine : beats (place_at p q, o) c ≡ true → (d : Place × model.PathAttrs) → IsHeld held d → same_prefix p d.0.prefix ≡ true → (t : Bool) → same_via q d.0.via ≡ t → beats d (place_at p q, o) ≡ false
    over_mine w d h e true t = same_mine d h e t (place_at p q, o) ∙ not_itself (place_at p q, o)
    over_mine w d h e false t = not_beaten (place_at p q, o) c d (not_back c (place_at p q, o) w) (b.3 d h e t)

    over_other : beats (place_at p q, o) c ≡ false → (d : Place × model.PathAttrs) → IsHeld held d → same_prefix p d.0.prefix ≡ true → (t : Bool) → same_via q d.0.via ≡ t → beats d c ≡ false
    over_other w d h e true t = same_mine d h e t c ∙ w
    over_other w d h e false t = b.3 d h e t

    by_beats : (w : Bool) → beats (place_at p q, o) c ≡ w → chosen_for held p ≡ (if w then Some o.hop else Some c.1.hop)
    by_beats true w = chosen_for-best held (place_at p q, o) a l (λ d h e. over_mine w d h (ap (same_prefix p) (same_prefix_is d.0.prefix p e) ∙ same_prefix_itself p) (same_via q d.0.via) refl)
    by_beats false w =
        ap (chosen_for held) (sym b.1) ∙ chosen_for-best held c a b.0 (λ d h e. over_other w d h (ap (same_prefix p) (same_prefix_is d.0.prefix c.0.prefix e ∙ b.1) ∙ same_prefix_itself p) (same_via q d.0.via) refl)

-- ---- the code's comparison

better_as : (p : Prefix) (q : Via) (own : Option PathAttrs) (others : Option Candidate) → option_map addr_as (better_of q own others) ≡ model_better (place_at p (via_as q)) (option_map attrs_as own) (option_map (candidate_as p) others)
better_as p q None None = refl
better_as p q None (Some c) = refl
better_as p q (Some o) None = refl
better_as p q (Some o) (Some c) =
    mapped (nat_lt o.path c.attrs.path || (o.path == c.attrs.path && is_lt (code_via_cmp q c.via)))
    ∙ ap (λ (b : Bool). if b then Some (addr_as o.hop) else Some (addr_as c.attrs.hop)) (is_better o.path c.attrs.path (code_via_cmp q c.via) ∙ ap (λ x. is_lt (ordering_then (nat_cmp o.path c.attrs.path) x)) (via_is q c.via))
  where
    mapped : (b : Bool) → option_map addr_as (if b then Some o.hop else Some c.attrs.hop) ≡ (if b then Some (addr_as o.hop) else Some (addr_as c.attrs.hop))
    mapped true = refl
    mapped false = refl

-- ---- the others stay the best of the others

best_after : (held : Candidates) (at : Place) (e : events.Elem) (c : Option (Place × model.PathAttrs)) → ((d : Place × model.PathAttrs) → same_via at.via d.0.via ≡ false → lookup (same_place d.0) (after_elem held e) ≡ lookup (same_place d.0) held) → IsBestOf held at.prefix (same_via at.via) c → IsBestOf (after_elem held e) at.prefix (same_via at.via) c
best_after held at e None keeps b = λ d h g. by_test d h g (same_via at.via d.0.via) refl
  where
    by_test : (d : Place × model.PathAttrs) → IsHeld (after_elem held e) d → same_prefix at.prefix d.0.prefix ≡ true → (t : Bool) → same_via at.via d.0.via ≡ t → t ≡ true
    by_test d h g true t = refl
    by_test d h g false t = sym t ∙ b d (sym (keeps d t) ∙ h) g
best_after held at e (Some c) keeps b = (keeps c b.2 ∙ b.0, b.1, b.2, λ d h g t. b.3 d (sym (keeps d t) ∙ h) g t)

prefix_in : (e : Elem) → elem_prefix (elem_as e) ≡ (place_as (key_in e)).prefix
prefix_in (elem.Put q p path hop) = refl
prefix_in (elem.Cut q p) = refl

-- what is offered at a place after the event
at_after : (paths : Paths) (e : Elem) (at : Place) → lookup (same_place at) (after_elem (held_in paths) (elem_as e)) ≡ (if same_place at (place_as (key_in e)) then option_map attrs_as (attrs_in e) else lookup (same_place at) (held_in paths))
at_after paths e at =
    attrs_after at (held_in paths) (elem_as e) (are_candidates paths) (is_elem e)
    ∙ (ap (λ b. cond b (offered (elem_as e)) (lookup (same_place at) (held_in paths))) (about_is at e) ∙ ap (λ o. cond (same_place at (place_as (key_in e))) o (lookup (same_place at) (held_in paths))) (offered_is e))

own_after : (paths : Paths) (e : Elem) → lookup (same_place (place_as (key_in e))) (after_elem (held_in paths) (elem_as e)) ≡ option_map attrs_as (attrs_in e)
own_after paths e = at_after paths e (place_as (key_in e)) ∙ ap (λ b. cond b (option_map attrs_as (attrs_in e)) (lookup (same_place (place_as (key_in e))) (held_in paths))) (place_key.itself (place_as (key_in e)))

others_stay : (paths : Paths) (e : Elem) (d : Place × model.PathAttrs) → same_via (via_as (key_in e).via) d.0.via ≡ false → lookup (same_place d.0) (after_elem (held_in paths) (elem_as e)) ≡ lookup (same_place d.0) (held_in paths)
others_stay paths e d n = at_after paths e d.0 ∙ ap (λ b. cond b (option_map attrs_as (attrs_in e)) (lookup (same_place d.0) (held_in paths))) (by_test (same_place d.0 (place_as (key_in e))) refl)
  where
    by_test : (b : Bool) → same_place d.0 (place_as (key_in e)) ≡ b → b ≡ false
    by_test true t =
        let x : d.0 ≡ place_as (key_in e) = place_key.same d.0 (place_as (key_in e)) t in
        let y : same_via (via_as (key_in e).via) d.0.via ≡ true = ap (λ (z : Place). same_via (via_as (key_in e).via) z.via) x ∙ via_key.itself (via_as (key_in e).via) in absurd cc
    by_test false t = refl

-- where the best route of the others is known
choice_best : (paths : Paths) (e : Elem) (others : Option Candidate) (choice : Choice) → IsBestHeld paths (Some (key_in e).via) (key_in e).prefix others → choice.prefix ≡ (key_in e).prefix → choice.before ≡ better_of (key_in e).via (attrs_at paths (key_in e)) others → choice.after ≡ better_of (key_in e).via (attrs_in e) others → IsChoice (held_in paths) (elem_as e) choice
choice_best paths e others choice best cp cb ca =
    let at = key_in e in
    let p = prefix_as at.prefix in
    let q = via_as at.via in
    let later = best_after (held_in paths) (place_as at) (elem_as e) (option_map (candidate_as p) others) (others_stay paths e) best in
    let before = joined (held_in paths) p q (option_map attrs_as (attrs_at paths at)) (option_map (candidate_as p) others) (are_candidates paths) (at_key at paths) best in
    let after = joined (after_elem (held_in paths) (elem_as e)) p q (option_map attrs_as (attrs_in e)) (option_map (candidate_as p) others) (candidates_after (held_in paths) (elem_as e) (are_candidates paths) (is_elem e)) (own_after paths e) later in
    record {
      prefix = ap prefix_as cp ∙ sym (prefix_in e);
      before = ap (option_map addr_as) cb ∙ (better_as p at.via (attrs_at paths at) others ∙ (sym before ∙ ap (chosen_for (held_in paths)) (sym (prefix_in e))));
      after = ap (option_map addr_as) ca ∙ (better_as p at.via (attrs_in e) others ∙ (sym after ∙ ap (chosen_for (after_elem (held_in paths) (elem_as e))) (sym (prefix_in e))));
    }

-- with the path key, the path source and the prefix as the code reads them
pub choice_from : (paths : Paths) (e : Elem) (at : PathKey) (q : Via) (p : code.Prefix) (others : Option Candidate) (own new : Option PathAttrs) (choice : Choice) → at ≡ key_in e → q ≡ at.via → p ≡ at.prefix → IsBestHeld paths (Some q) p others
    → choice.prefix ≡ p → own ≡ attrs_at paths at → choice.before ≡ better_of q own others → new ≡ attrs_in e → choice.after ≡ better_of q new others → IsChoice (held_in paths) (elem_as e) choice
choice_from paths e at q p others own new choice a b d best cp o cb n ca =
    let qe : q ≡ (key_in e).via = b ∙ ap (λ (t : PathKey). t.via) a in
    let pe : p ≡ (key_in e).prefix = d ∙ ap (λ (t : PathKey). t.prefix) a in
    choice_best paths e others choice (subst (λ r. IsBestHeld paths (Some r) (key_in e).prefix others) qe (subst (λ r. IsBestHeld paths (Some q) r others) pe best)) (cp ∙ pe)
    (cb ∙ (ap (λ x. better_of x own others) qe ∙ ap (λ x. better_of (key_in e).via x others) (o ∙ ap (attrs_at paths) a))) (ca ∙ (ap (λ x. better_of x new others) qe ∙ ap (λ x. better_of (key_in e).via x others) n))

-- the chosen hop of a prefix is the best route's
pub chosen_best : (paths : Paths) (p : code.Prefix) (best : Option Candidate) → IsBestHeld paths None p best → option_map (λ (c : Candidate). addr_as c.attrs.hop) best ≡ chosen_for (held_in paths) (prefix_as p)
chosen_best paths p best x = by_best best x
  where
    by_best : (o : Option Candidate) → IsBestOf (held_in paths) (prefix_as p) (out_as None) (option_map (candidate_as (prefix_as p)) o) → option_map (λ (c : Candidate). addr_as c.attrs.hop) o ≡ chosen_for (held_in paths) (prefix_as p)
    by_best None b = sym (chosen_for-none (held_in paths) (prefix_as p) (are_candidates paths) (λ d h. by_test d h (b d h) (same_prefix (prefix_as p) d.0.prefix) refl))
      where
        by_test : (d : Place × model.PathAttrs) → IsHeld (held_in paths) d → (same_prefix (prefix_as p) d.0.prefix ≡ true → false ≡ true) → (t : Bool) → same_prefix (prefix_as p) d.0.prefix ≡ t → t ≡ false
        by_test d h n true t = let x : false ≡ true = n t in absurd cc
        by_test d h n false t = refl
    by_best (Some c) b = sym (chosen_for-best (held_in paths) (candidate_as (prefix_as p) c) (are_candidates paths) b.0 (λ d h e. b.3 d h (ap (same_prefix (prefix_as p)) (same_prefix_is d.0.prefix (prefix_as p) e) ∙ same_prefix_itself (prefix_as p)) refl))
