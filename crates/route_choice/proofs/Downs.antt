-- The cuts of a peer that is lost.
use Rattle.std.proofs.Math.Seq.{drop-cons}
use Rattle.std.proofs.Common.{ℕ, suc, ◌+◌, ◌<◌, length, get_or, drop, arith, ◌++◌, subst, ◌≡◌, List, [], ◌∷◌, Bool, true, false, cond, Option, Some, None, refl, sym, ap, ◌∙◌}
use Rattle.std.specs.Prelude.{map, filter, option_map, ◌||◌, ◌&&◌, is_some}
use Rattle.std.specs.List.{AllByRecursion, list_any}
use Rattle.std.specs.BTreeMap.{is_at}
use Rattle.std.proofs.lemmas.Cmp.{tied_itself}
use Rattle.fib_prefix.specs.declared.event.Elem.{Elem}
use Rattle.adj_rib_in.specs.Flat.{ShareNoKey, is_among, is_offered_by}
use Rattle.adj_rib_in.proofs.Flats.{or_else}
use Rattle.adj_rib_in.proofs.Parts.{attrs_both, no_other}
use Rattle.route_choice.specs.Paths.{key_in}
use Rattle.route_choice.proofs.Best.{same_attrs}
use Rattle.std.specs.List.Sorted.{IsStrictlySortedBy}
use Rattle.std.specs.Map.{lookup, keys_of}
use Rattle.std.specs.Option.{option_and_then}
use Rattle.std.specs.Ordering.{nat_cmp, ordering_then, is_eq}
use Rattle.std.specs.declared.cmp.Ordering.TheVariants.{Less, Equal}
use Rattle.fib_prefix.specs.Views.{peer_as, via_as, elem_as}
use Rattle.fib_addr.specs.Order.{code_cmp}
use Rattle.fib_prefix.specs.declared.event.Peer.{Peer}
use Rattle.fib_addr.proofs.Ordering.{cmp_is}
use Rattle.route_model.specs.Events.{same_peer, via_cmp}
use Rattle.route_model.specs.Choice as model
use Rattle.route_model.specs.Choice.{Place, Candidates, IsPlace, same_place, place_cmp, cut_of}
use Rattle.route_model.proofs.Keyed.{same_entries, lookup-filter, sorted_filter, all_filter}
use Rattle.route_model.proofs.Places.{place_key}
use Rattle.adj_rib_in.specs.declared.keys.PathKey.{PathKey}
use Rattle.adj_rib_in.specs.declared.keys.PathAttrs.{PathAttrs}
use Rattle.adj_rib_in.specs.Orders.{key_cmp}
use Rattle.fib_prefix.specs.Order.{code_peer_cmp}
use Rattle.adj_rib_in.specs.Paths.{Paths, held_in, flat, attrs_at}
use Rattle.route_choice.specs.Walks.{paths_of, key_cut, cut_or, cuts_in}
use Rattle.adj_rib_in.proofs.Orders.{place_as, is_equal, peer_is, peer_same, key_same, key_total, peer_total, is_place}
use Rattle.adj_rib_in.specs.Bests.{attrs_as}
use Rattle.adj_rib_in.proofs.Views.{are_candidates, lookup-held, at_key, held_key, flips}

-- the candidates of path keys, one after another
live_or : PathKey → Option PathAttrs → Candidates → Candidates
live_or s None held = held
live_or s (Some attrs) held = (place_as s, attrs_as attrs) ∷ held

live : Paths → Candidates
live [] = []
live (e ∷ paths) = live_or e.0 e.1 (live paths)

cuts_are : (paths : Paths) → map elem_as (cuts_in paths) ≡ map cut_of (live paths)
unfolding cuts_in live live_or
cuts_are [] = refl
cuts_are (e ∷ paths) = by_attrs e.1 (cuts_are paths)
  where
    by_attrs : (o : Option PathAttrs) → map elem_as (cuts_in paths) ≡ map cut_of (live paths) → map elem_as (cut_or e.0 o (cuts_in paths)) ≡ map cut_of (live_or e.0 o (live paths))
    by_attrs None ih = ih
    by_attrs (Some attrs) ih = ap (λ xs. cut_of (place_as e.0, attrs_as attrs) ∷ xs) ih

-- ---- in the order of prefixes, then of path identifiers

less_place : (q : Peer) (s t : PathKey) → is_eq (code_peer_cmp q s.via.peer) ≡ true → is_eq (code_peer_cmp q t.via.peer) ≡ true → key_cmp s t ≡ Less → place_cmp (place_as s) (place_as t) ≡ Less
less_place q s t x y l =
    let e : code_peer_cmp s.via.peer t.via.peer ≡ Equal = sym (peer_total.congr q s.via.peer t.via.peer (is_equal _ x)) ∙ is_equal _ y in
    let ids = nat_cmp s.via.id t.via.id in
    let f : ordering_then (code_cmp s.prefix t.prefix) ids ≡ Less = ap (λ o. ordering_then o (ordering_then (code_cmp s.prefix t.prefix) ids)) (sym e) ∙ l in
    let g : via_cmp (via_as s.via) (via_as t.via) ≡ ids = ap (λ o. ordering_then o ids) (sym (peer_is s.via.peer t.via.peer) ∙ e) in
    ap (λ o. ordering_then o (via_cmp (via_as s.via) (via_as t.via))) (sym (cmp_is s.prefix t.prefix)) ∙ (ap (ordering_then (code_cmp s.prefix t.prefix)) g ∙ f)

live_all : (P : Place → Type 0) (paths : Paths) → AllByRecursion (λ s. P (place_as s)) (keys_of paths) → AllByRecursion P (keys_of (live paths))
unfolding live live_or
live_all P [] a = tt
live_all P (e ∷ paths) a = by_attrs e.1 (live_all P paths a.1)
  where
    by_attrs : (o : Option PathAttrs) → AllByRecursion P (keys_of (live paths)) → AllByRecursion P (keys_of (live_or e.0 o (live paths)))
    by_attrs None ih = ih
    by_attrs (Some attrs) ih = (a.0, ih)

-- of path keys of one peer
abbrev AllOf : Peer → Paths → Type 0
AllOf q paths = AllByRecursion (λ s. is_eq (code_peer_cmp q s.via.peer) ≡ true) (keys_of paths)

later : (q : Peer) (s : PathKey) (paths : Paths) → is_eq (code_peer_cmp q s.via.peer) ≡ true → AllOf q paths → AllByRecursion (λ t. key_cmp s t ≡ Less) (keys_of paths) → AllByRecursion (λ t. place_cmp (place_as s) (place_as t) ≡ Less) (keys_of paths)
later q s [] x a l = tt
later q s (e ∷ paths) x a l = (less_place q s e.0 x a.0 l.0, later q s paths x a.1 l.1)

live_sorted : (q : Peer) (paths : Paths) → IsStrictlySortedBy key_cmp (keys_of paths) → AllOf q paths → IsStrictlySortedBy place_cmp (keys_of (live paths))
unfolding IsStrictlySortedBy live live_or
live_sorted q [] s a = tt
live_sorted q (e ∷ paths) s a = by_attrs e.1 (live_sorted q paths s.1 a.1)
  where
    by_attrs : (o : Option PathAttrs) → IsStrictlySortedBy place_cmp (keys_of (live paths)) → IsStrictlySortedBy place_cmp (keys_of (live_or e.0 o (live paths)))
    by_attrs None ih = ih
    by_attrs (Some attrs) ih = (live_all (λ r. place_cmp (place_as e.0) r ≡ Less) paths (later q e.0 paths a.0 a.1 s.0), ih)

-- ---- the same look-ups

none_later : (at : Place) (s : PathKey) (paths : Paths) → same_place at (place_as s) ≡ true → AllByRecursion (λ t. key_cmp s t ≡ Less) (keys_of paths) → lookup (λ t. same_place at (place_as t)) paths ≡ None
none_later at s [] e a = refl
none_later at s (f ∷ paths) e a = ap (λ b. cond b (Some f.1) (lookup (λ t. same_place at (place_as t)) paths)) (by_test (same_place at (place_as f.0)) refl) ∙ none_later at s paths e a.1
  where
    by_test : (b : Bool) → same_place at (place_as f.0) ≡ b → b ≡ false
    by_test true t =
        let i : place_as s ≡ place_as f.0 = sym (place_key.same at (place_as s) e) ∙ place_key.same at (place_as f.0) t in
        let j : is_eq (key_cmp s f.0) ≡ true = key_same s f.0 ∙ (ap (same_place (place_as s)) (sym i) ∙ place_key.itself (place_as s)) in
        let k : is_eq (key_cmp s f.0) ≡ false = ap is_eq a.0 in absurd cc
    by_test false t = refl

abbrev of_peer : Peer → Place → Option model.PathAttrs → Option model.PathAttrs
of_peer q at o = cond (same_peer (peer_as q) at.via.peer) o None

nothing : (b : Bool) → ◌≡◌ {A = Option model.PathAttrs} (cond b None None) None
nothing true = refl
nothing false = refl

live_lookup : (q : Peer) (at : Place) (paths : Paths) → IsStrictlySortedBy key_cmp (keys_of paths) → lookup (same_place at) (live (paths_of q paths)) ≡ of_peer q at (option_map attrs_as (flat (lookup (λ t. same_place at (place_as t)) paths)))
unfolding IsStrictlySortedBy live live_or
live_lookup q at [] s = sym (nothing (same_peer (peer_as q) at.via.peer))
live_lookup q at (e ∷ paths) s = by_tests (is_eq (code_peer_cmp q e.0.via.peer)) refl (same_place at (place_as e.0)) refl e.1 (live_lookup q at paths s.1)
  where
    rest : Option (Option PathAttrs)
    rest = lookup (λ t. same_place at (place_as t)) paths

    own : (d : Bool) → is_eq (code_peer_cmp q e.0.via.peer) ≡ d → same_place at (place_as e.0) ≡ true → same_peer (peer_as q) at.via.peer ≡ d
    own d t u = ap (λ (r : Place). same_peer (peer_as q) r.via.peer) (place_key.same at (place_as e.0) u) ∙ (sym (peer_same q e.0.via.peer) ∙ t)

    no_rest : same_place at (place_as e.0) ≡ true → of_peer q at (option_map attrs_as (flat rest)) ≡ None
    no_rest u = ap (λ o. of_peer q at (option_map attrs_as (flat o))) (none_later at e.0 paths u s.0) ∙ nothing (same_peer (peer_as q) at.via.peer)

    by_tests : (d : Bool) → is_eq (code_peer_cmp q e.0.via.peer) ≡ d → (b : Bool) → same_place at (place_as e.0) ≡ b → (o : Option PathAttrs) → lookup (same_place at) (live (paths_of q paths)) ≡ of_peer q at (option_map attrs_as (flat rest))
        → lookup (same_place at) (live (cond d ((e.0, o) ∷ paths_of q paths) (paths_of q paths))) ≡ of_peer q at (option_map attrs_as (flat (cond b (Some o) rest)))
    by_tests true t true u (Some attrs) ih =
        ap (λ b. cond b (Some (attrs_as attrs)) (lookup (same_place at) (live (paths_of q paths)))) u ∙ sym (ap (λ b. cond b (Some (attrs_as attrs)) None) (own true t u))
    by_tests true t true u None ih = ih ∙ (no_rest u ∙ sym (nothing (same_peer (peer_as q) at.via.peer)))
    by_tests true t false u (Some attrs) ih = ap (λ b. cond b (Some (attrs_as attrs)) (lookup (same_place at) (live (paths_of q paths)))) u ∙ ih
    by_tests true t false u None ih = ih
    by_tests false t true u o ih = ih ∙ (no_rest u ∙ sym (ap (λ b. cond b (option_map attrs_as o) None) (own false t u)))
    by_tests false t false u o ih = ih

kept_keys : {X : Type 0} (p : PathKey → Bool) (Q : PathKey → Type 0) (es : List (PathKey × X)) → AllByRecursion Q (keys_of es) → AllByRecursion Q (keys_of (filter (λ e. p e.0) es))
kept_keys p Q [] a = tt
kept_keys {X = X} p Q (e ∷ es) a = by_test (p e.0) (kept_keys p Q es a.1)
  where
    by_test : (b : Bool) → AllByRecursion Q (keys_of (filter (λ (e : PathKey × X). p e.0) es)) → AllByRecursion Q (keys_of (cond b (e ∷ filter (λ (e : PathKey × X). p e.0) es) (filter (λ (e : PathKey × X). p e.0) es)))
    by_test true ih = (a.0, ih)
    by_test false ih = ih

kept_sorted : {X : Type 0} (p : PathKey → Bool) (es : List (PathKey × X)) → IsStrictlySortedBy key_cmp (keys_of es) → IsStrictlySortedBy key_cmp (keys_of (filter (λ e. p e.0) es))
unfolding IsStrictlySortedBy
kept_sorted p [] s = tt
kept_sorted {X = X} p (e ∷ es) s = by_test (p e.0) (kept_sorted p es s.1)
  where
    by_test : (b : Bool) → IsStrictlySortedBy key_cmp (keys_of (filter (λ (e : PathKey × X). p e.0) es)) → IsStrictlySortedBy key_cmp (keys_of (cond b (e ∷ filter (λ (e : PathKey × X). p e.0) es) (filter (λ (e : PathKey × X). p e.0) es)))
    by_test true ih = (kept_keys p (λ t. key_cmp e.0 t ≡ Less) es s.0, ih)
    by_test false ih = ih

all_of : (q : Peer) (paths : Paths) → AllOf q (paths_of q paths)
all_of q [] = tt
all_of q (e ∷ paths) = by_test (is_eq (code_peer_cmp q e.0.via.peer)) refl (all_of q paths)
  where
    by_test : (b : Bool) → is_eq (code_peer_cmp q e.0.via.peer) ≡ b → AllOf q (paths_of q paths) → AllOf q (cond b (e ∷ paths_of q paths) (paths_of q paths))
    by_test true t ih = (t, ih)
    by_test false t ih = ih

all_places : (paths : Paths) → AllByRecursion (λ s. IsPlace (place_as s)) (keys_of paths)
all_places [] = tt
all_places (e ∷ paths) = (is_place e.0, all_places paths)

-- a peer's candidates
peer_live : (q : Peer) (paths : Paths) → IsStrictlySortedBy key_cmp (keys_of paths) → live (paths_of q paths) ≡ filter (λ c. same_peer (peer_as q) c.0.via.peer) (held_in paths)
peer_live q paths s =
    same_entries place_key (live (paths_of q paths)) (filter (λ c. same_peer (peer_as q) c.0.via.peer) (held_in paths))
    (live_sorted q (paths_of q paths) (kept_sorted (λ t. is_eq (code_peer_cmp q t.via.peer)) paths s) (all_of q paths))
    (sorted_filter place_cmp (λ c. same_peer (peer_as q) c.0.via.peer) (held_in paths) (are_candidates paths).1)
    (live_all IsPlace (paths_of q paths) (all_places (paths_of q paths)))
    (all_filter (λ c. same_peer (peer_as q) c.0.via.peer) IsPlace (held_in paths) (are_candidates paths).0)
    (λ at. live_lookup q at paths s ∙ (ap (of_peer q at) (sym (lookup-held at paths)) ∙ (by_found at (lookup (same_place at) (held_in paths)) ∙ sym (lookup-filter place_key (λ c. same_peer (peer_as q) c.0.via.peer) at (held_in paths) (are_candidates paths).1))))
  where
    by_found : (at : Place) (o : Option model.PathAttrs) → of_peer q at o ≡ option_and_then (λ v. cond (same_peer (peer_as q) at.via.peer) (Some v) None) o
    by_found at None = nothing (same_peer (peer_as q) at.via.peer)
    by_found at (Some v) = refl

-- the cuts of a peer that is lost
pub down_is : (q : Peer) (paths : Paths) → IsStrictlySortedBy key_cmp (keys_of paths) → map elem_as (cuts_in (paths_of q paths)) ≡ map cut_of (filter (λ c. same_peer (peer_as q) c.0.via.peer) (held_in paths))
down_is q paths s = cuts_are (paths_of q paths) ∙ ap (map cut_of) (peer_live q paths s)

-- ---- the path keys of base and maps together

-- these path keys with what is offered there
with_offers : Paths → List PathKey → Paths
with_offers all [] = []
with_offers all (k ∷ ks) = (k, attrs_at all k) ∷ with_offers all ks

with_keys : (all : Paths) (ks : List PathKey) → keys_of (with_offers all ks) ≡ ks
unfolding with_offers
with_keys all [] = refl
with_keys all (k ∷ ks) = ap (λ xs. k ∷ xs) (with_keys all ks)

at_given_key : (all : Paths) (ks : List PathKey) (s : PathKey) → lookup (is_at (key_cmp s)) (with_offers all ks) ≡ cond (is_among ks s) (Some (attrs_at all s)) None
unfolding with_offers
at_given_key all [] s = refl
at_given_key all (k ∷ ks) s = by_test (is_eq (key_cmp s k)) refl (at_given_key all ks s)
  where
    by_test : (b : Bool) → is_eq (key_cmp s k) ≡ b → lookup (is_at (key_cmp s)) (with_offers all ks) ≡ cond (is_among ks s) (Some (attrs_at all s)) None → cond b (Some (attrs_at all k)) (lookup (is_at (key_cmp s)) (with_offers all ks)) ≡ cond (b || is_among ks s) (Some (attrs_at all s)) None
    by_test true e ih = ap Some (same_attrs all s k (is_equal _ e))
    by_test false e ih = ih

-- what holds of each path key that is among these holds of these
each : (P : PathKey → Type 0) (ks : List PathKey) → ((s : PathKey) → is_among ks s ≡ true → P s) → AllByRecursion P ks
each P [] h = tt
each P (k ∷ ks) h = (h k (ap (λ b. b || is_among ks k) (ap is_eq (tied_itself key_total k))), each P ks (λ s e. h s (right (is_eq (key_cmp s k)) (is_among ks s) e)))
  where
    right : (a b : Bool) → b ≡ true → (a || b) ≡ true
    right true b e = refl
    right false b e = e

and_parts : (a b : Bool) → (a && b) ≡ true → (a ≡ true) × (b ≡ true)
and_parts true b e = (refl, e)
and_parts false b e = absurd cc

cuts_of_keys : (q : Peer) (all : Paths) (ks : List PathKey) → AllByRecursion (λ s. is_offered_by q all s ≡ true) ks → cuts_in (paths_of q (with_offers all ks)) ≡ map key_cut ks
unfolding cuts_in with_offers
cuts_of_keys q all [] a = refl
cuts_of_keys q all (k ∷ ks) a =
    let x = and_parts _ _ a.0 in
    ap (λ b. cuts_in (cond b ((k, attrs_at all k) ∷ paths_of q (with_offers all ks)) (paths_of q (with_offers all ks)))) x.0 ∙ (by_attrs (attrs_at all k) x.1 ∙ ap (λ xs. key_cut k ∷ xs) (cuts_of_keys q all ks a.1))
  where
    by_attrs : (o : Option PathAttrs) → is_some o ≡ true → cut_or k o (cuts_in (paths_of q (with_offers all ks))) ≡ key_cut k ∷ cuts_in (paths_of q (with_offers all ks))
    by_attrs None e = absurd cc
    by_attrs (Some o) e = refl

-- path keys that offer the same at a peer's path keys hold the same candidates of the peer
same_of_peer : (q : Peer) (xs ys : Paths) → ((s : PathKey) → is_eq (code_peer_cmp q s.via.peer) ≡ true → attrs_at xs s ≡ attrs_at ys s) → filter (λ c. same_peer (peer_as q) c.0.via.peer) (held_in xs) ≡ filter (λ c. same_peer (peer_as q) c.0.via.peer) (held_in ys)
same_of_peer q xs ys h =
    same_entries place_key (filter own (held_in xs)) (filter own (held_in ys))
    (sorted_filter place_cmp own (held_in xs) (are_candidates xs).1) (sorted_filter place_cmp own (held_in ys) (are_candidates ys).1)
    (all_filter own IsPlace (held_in xs) (are_candidates xs).0) (all_filter own IsPlace (held_in ys) (are_candidates ys).0)
    (λ at. lookup-filter place_key own at (held_in xs) (are_candidates xs).1 ∙ (by_own at (same_peer (peer_as q) at.via.peer) refl ∙ sym (lookup-filter place_key own at (held_in ys) (are_candidates ys).1)))
  where
    own : Place × model.PathAttrs → Bool
    own c = same_peer (peer_as q) c.0.via.peer

    at_key_of : (at : Place) (s : PathKey) → place_as s ≡ at → same_peer (peer_as q) at.via.peer ≡ true → lookup (same_place at) (held_in xs) ≡ lookup (same_place at) (held_in ys)
    at_key_of at s e t =
        let p : is_eq (code_peer_cmp q s.via.peer) ≡ true = peer_same q s.via.peer ∙ (ap (λ (r : Place). same_peer (peer_as q) r.via.peer) e ∙ t) in
        ap (λ r. lookup (same_place r) (held_in xs)) (sym e) ∙ (at_key s xs ∙ (ap (option_map attrs_as) (h s p) ∙ (sym (at_key s ys) ∙ ap (λ r. lookup (same_place r) (held_in ys)) e)))

    by_found : (at : Place) → same_peer (peer_as q) at.via.peer ≡ true → (x y : Option model.PathAttrs) → lookup (same_place at) (held_in xs) ≡ x → lookup (same_place at) (held_in ys) ≡ y → lookup (same_place at) (held_in xs) ≡ lookup (same_place at) (held_in ys)
    by_found at t (Some x) y f g = let s = held_key at x xs f in at_key_of at s.0 s.1 t
    by_found at t None (Some y) f g = let s = held_key at y ys g in at_key_of at s.0 s.1 t
    by_found at t None None f g = f ∙ sym g

    never : (o : Option model.PathAttrs) → option_and_then (λ v. cond false (Some v) None) o ≡ None
    never None = refl
    never (Some v) = refl

    by_own : (at : Place) (t : Bool) → same_peer (peer_as q) at.via.peer ≡ t → option_and_then (λ v. cond t (Some v) None) (lookup (same_place at) (held_in xs)) ≡ option_and_then (λ v. cond t (Some v) None) (lookup (same_place at) (held_in ys))
    by_own at true t = ap (option_and_then (λ v. cond true (Some v) None)) (by_found at t (lookup (same_place at) (held_in xs)) (lookup (same_place at) (held_in ys)) refl refl)
    by_own at false t = never (lookup (same_place at) (held_in xs)) ∙ sym (never (lookup (same_place at) (held_in ys)))

-- a cut at each of the peer's path keys where something is offered
pub lost_is : (q : Peer) (all : Paths) (ks : List PathKey) → IsStrictlySortedBy key_cmp ks → ((s : PathKey) → is_among ks s ≡ is_offered_by q all s) → map elem_as (map key_cut ks) ≡ map cut_of (filter (λ c. same_peer (peer_as q) c.0.via.peer) (held_in all))
lost_is q all ks sorted h =
    ap (map elem_as) (sym (cuts_of_keys q all ks (each (λ s. is_offered_by q all s ≡ true) ks (λ s e. sym (h s) ∙ e))))
    ∙ (down_is q (with_offers all ks) (subst (IsStrictlySortedBy key_cmp) (sym (with_keys all ks)) sorted)
    ∙ ap (map cut_of) (same_of_peer q (with_offers all ks) all same))
  where
    none_else : (o : Option PathAttrs) → is_some o ≡ false → None ≡ o
    none_else None e = refl
    none_else (Some o) e = absurd cc

    same : (s : PathKey) → is_eq (code_peer_cmp q s.via.peer) ≡ true → attrs_at (with_offers all ks) s ≡ attrs_at all s
    same s p = ap flat (at_given_key all ks s) ∙ by_test (is_among ks s) refl
      where
        by_test : (b : Bool) → is_among ks s ≡ b → flat (cond b (Some (attrs_at all s)) None) ≡ attrs_at all s
        by_test true e = refl
        by_test false e = none_else (attrs_at all s) (sym (ap (λ x. x && is_some (attrs_at all s)) p) ∙ (sym (h s) ∙ e))

-- ---- the cuts of the maps' part

pub cut_paths : (q : Peer) (paths : Paths) (s : PathKey) → IsStrictlySortedBy key_cmp (keys_of paths) → list_any (λ e. is_eq (key_cmp (key_in e) s)) (cuts_in (paths_of q paths)) ≡ is_offered_by q paths s
unfolding IsStrictlySortedBy cuts_in
cut_paths q [] s o = sym (nothing_there (is_eq (code_peer_cmp q s.via.peer)))
  where
    nothing_there : (a : Bool) → (a && false) ≡ false
    nothing_there true = refl
    nothing_there false = refl
cut_paths q (e ∷ paths) s o = by_own (is_eq (code_peer_cmp q e.0.via.peer)) refl e.1 (is_eq (key_cmp s e.0)) refl (cut_paths q paths s o.1)
  where
    rest : List Elem
    rest = cuts_in (paths_of q paths)

    hits : List Elem → Bool
    hits cuts = list_any (λ e. is_eq (key_cmp (key_in e) s)) cuts

    -- no later path key is this one
    no_later : is_eq (key_cmp s e.0) ≡ true → lookup (is_at (key_cmp s)) paths ≡ None
    no_later t = later_none paths o.0
      where
        later_none : (xs : Paths) → AllByRecursion (λ k. key_cmp e.0 k ≡ Less) (keys_of xs) → lookup (is_at (key_cmp s)) xs ≡ None
        later_none [] a = refl
        later_none (x ∷ xs) a = ap (λ b. cond b (Some x.1) (lookup (is_at (key_cmp s)) xs)) (ap is_eq (key_total.congr s e.0 x.0 (is_equal _ t)) ∙ ap is_eq a.0) ∙ later_none xs a.1

    own_peer : is_eq (key_cmp s e.0) ≡ true → is_eq (code_peer_cmp q s.via.peer) ≡ is_eq (code_peer_cmp q e.0.via.peer)
    own_peer t = peer_same q s.via.peer ∙ (ap (λ (r : Place). same_peer (peer_as q) r.via.peer) (place_key.same (place_as s) (place_as e.0) (sym (key_same s e.0) ∙ t)) ∙ sym (peer_same q e.0.via.peer))

    rest_none : is_eq (key_cmp s e.0) ≡ true → hits rest ≡ is_offered_by q paths s → hits rest ≡ false
    rest_none t ih = ih ∙ (ap (λ x. is_eq (code_peer_cmp q s.via.peer) && is_some (flat x)) (no_later t) ∙ nothing_there (is_eq (code_peer_cmp q s.via.peer)))
      where
        nothing_there : (a : Bool) → (a && false) ≡ false
        nothing_there true = refl
        nothing_there false = refl

    turned : is_eq (key_cmp e.0 s) ≡ is_eq (key_cmp s e.0)
    turned = flips key_total e.0 s

    by_own : (d : Bool) → is_eq (code_peer_cmp q e.0.via.peer) ≡ d → (x : Option PathAttrs) → (b : Bool) → is_eq (key_cmp s e.0) ≡ b → hits rest ≡ is_offered_by q paths s
        → hits (cuts_in (cond d ((e.0, x) ∷ paths_of q paths) (paths_of q paths))) ≡ (is_eq (code_peer_cmp q s.via.peer) && is_some (flat (cond b (Some x) (lookup (is_at (key_cmp s)) paths))))
    by_own true d (Some x) true t ih = ap (λ a. a || hits rest) (turned ∙ t) ∙ sym (ap (λ a. a && true) (own_peer t ∙ d))
    by_own true d (Some x) false t ih = ap (λ a. a || hits rest) (turned ∙ t) ∙ ih
    by_own true d None true t ih = rest_none t ih ∙ sym (ap (λ a. a && false) (own_peer t ∙ d))
    by_own true d None false t ih = ih
    by_own false d (Some x) true t ih = rest_none t ih ∙ sym (ap (λ a. a && true) (own_peer t ∙ d))
    by_own false d None true t ih = rest_none t ih ∙ sym (ap (λ a. a && false) (own_peer t ∙ d))
    by_own false d x false t ih = ih

-- what is offered in either part is offered in both
pub offered_both : (q : Peer) (xs ys : Paths) (s : PathKey) → ShareNoKey xs ys → is_offered_by q (xs ++ ys) s ≡ (is_offered_by q xs s || is_offered_by q ys s)
offered_both q xs ys s a = ap (λ o. is_eq (code_peer_cmp q s.via.peer) && is_some o) (attrs_both s xs ys) ∙ by_base (lookup (is_at (key_cmp s)) xs) refl
  where
    both_false : (p b : Bool) → (p && b) ≡ ((p && false) || (p && b))
    both_false true b = refl
    both_false false b = refl

    first : (p b : Bool) → (p && b) ≡ ((p && b) || (p && false))
    first true true = refl
    first true false = refl
    first false b = refl

    by_base : (v : Option (Option PathAttrs)) → lookup (is_at (key_cmp s)) xs ≡ v → (is_eq (code_peer_cmp q s.via.peer) && is_some (flat (or_else v (lookup (is_at (key_cmp s)) ys)))) ≡ ((is_eq (code_peer_cmp q s.via.peer) && is_some (flat v)) || is_offered_by q ys s)
    by_base None e = both_false (is_eq (code_peer_cmp q s.via.peer)) (is_some (attrs_at ys s))
    by_base (Some v) e =
        let n : attrs_at ys s ≡ None = no_other xs ys s v a e in
        first (is_eq (code_peer_cmp q s.via.peer)) (is_some v) ∙ ap (λ o. (is_eq (code_peer_cmp q s.via.peer) && is_some v) || (is_eq (code_peer_cmp q s.via.peer) && is_some o)) (sym n)

-- from no path keys over the base's to the maps'
pub all_paths : (q : Peer) (base over : Paths) (none some all : List PathKey) (cuts : List Elem) → ShareNoKey base over → none ≡ [] → ((s : PathKey) → is_among some s ≡ (is_among none s || is_offered_by q base s)) → cuts ≡ cuts_in (paths_of q over) → IsStrictlySortedBy key_cmp (keys_of over)
    → ((s : PathKey) → is_among all s ≡ (is_among some s || list_any (λ e. is_eq (key_cmp (key_in e) s)) cuts)) → (s : PathKey) → is_among all s ≡ is_offered_by q (base ++ over) s
all_paths q base over none some all cuts a n f c o g s =
    g s ∙ (ap (λ b. b || list_any (λ e. is_eq (key_cmp (key_in e) s)) cuts) (f s ∙ ap (λ ks. is_among ks s || is_offered_by q base s) n)
    ∙ (ap (λ xs. is_offered_by q base s || list_any (λ e. is_eq (key_cmp (key_in e) s)) xs) c ∙ (ap (λ b. is_offered_by q base s || b) (cut_paths q over s o) ∙ sym (offered_both q base over s a))))

-- ---- the walk over cuts

pub cut_added : (old now new : List PathKey) (cuts rest it : List Elem) (e : Elem) (t : PathKey) → it ≡ e ∷ rest → t ≡ key_in e → ((s : PathKey) → is_among new s ≡ cond (is_eq (key_cmp t s)) true (is_among now s))
    → ((s : PathKey) → (is_among now s || list_any (λ e. is_eq (key_cmp (key_in e) s)) it) ≡ (is_among old s || list_any (λ e. is_eq (key_cmp (key_in e) s)) cuts)) → (s : PathKey) → (is_among new s || list_any (λ e. is_eq (key_cmp (key_in e) s)) rest) ≡ (is_among old s || list_any (λ e. is_eq (key_cmp (key_in e) s)) cuts)
cut_added old now new cuts rest it e t i h g told s =
    ap (λ b. b || hits rest) (g s ∙ ap (λ k. cond (is_eq (key_cmp k s)) true (is_among now s)) h) ∙ (by_test (is_eq (key_cmp (key_in e) s)) (is_among now s) (hits rest) ∙ (ap (λ xs. is_among now s || hits xs) (sym i) ∙ told s))
  where
    hits : List Elem → Bool
    hits xs = list_any (λ e. is_eq (key_cmp (key_in e) s)) xs

    by_test : (a b c : Bool) → (cond a true b || c) ≡ (b || (a || c))
    by_test true true c = refl
    by_test true false c = refl
    by_test false b c = refl

pub next_cut : (xs cuts : List Elem) (i : ℕ) (e : Elem) → xs ≡ cuts → i < length xs → e ≡ get_or xs i e → drop i cuts ≡ e ∷ drop (i + 1) cuts
next_cut xs cuts i e d l is = let k : suc i ≡ i + 1 = omega arith in subst (λ ys. drop i ys ≡ e ∷ drop (i + 1) ys) d (subst (λ n. drop i xs ≡ e ∷ drop n xs) k (drop-cons xs i e l ∙ ap (λ x. x ∷ drop (suc i) xs) (sym is)))
