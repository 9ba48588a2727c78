-- The candidates of all prefixes that rows and ranks have are all candidates.
use Rattle.std.proofs.Common.{◌≡◌, List, [], ◌∷◌, ◌++◌, Bool, true, false, cond, Option, Some, None, refl, sym, ap, ◌∙◌}
use Rattle.std.specs.Prelude.{option_map, map, filter, ◌&&◌, ◌||◌}
use Rattle.std.specs.List.{AllByRecursion, list_any}
use Rattle.std.specs.List.Sorted.{IsStrictlySortedBy}
use Rattle.std.specs.Map.{lookup, keys_of}
use Rattle.std.specs.Option.{option_and_then, option_or}
use Rattle.std.specs.Ordering.{ordering_then}
use Rattle.std.specs.BTreeMap.{is_at}
use Rattle.std.specs.declared.cmp.Ordering.TheVariants.{Less}
use Rattle.std.proofs.lemmas.Cmp.{tied_itself}
use Rattle.table_model.specs.Address.{Prefix, same_prefix}
use Rattle.table_model.specs.Order.{prefix_cmp}
use Rattle.table_model.proofs.SamePrefix.{same_prefix_is, same_prefix_itself}
use Rattle.fib_addr.specs.Views.{prefix_as}
use Rattle.fib_addr.specs.Order.{code_cmp}
use Rattle.fib_addr.specs.declared.prefix.Prefix as code
use Rattle.fib_addr.proofs.Ordering.{cmp_is}
use Rattle.fib_prefix.specs.Views.{IsOfOctets, cand_as, via_as}
use Rattle.fib_prefix.specs.Order.{code_via_cmp}
use Rattle.fib_prefix.specs.declared.event.Via.{Via}
use Rattle.fib_prefix.specs.declared.event.Cand.{Cand}
use Rattle.fib_prefix.proofs.Cands.{of_octets}
use Rattle.route_model.specs.Events as events
use Rattle.route_model.specs.Events.{same_via, via_cmp}
use Rattle.route_model.specs.Choice as model
use Rattle.route_model.specs.Choice.{Place, Candidates, IsPlace, same_place, place_cmp}
use Rattle.route_model.proofs.Keyed.{same_entries, all_filter, sorted_filter, lookup-filter}
use Rattle.route_model.proofs.Places.{place_key, prefix_key, via_key}
use Rattle.adj_rib_in.specs.declared.keys.PathKey.{PathKey}
use Rattle.adj_rib_in.specs.declared.keys.Rank.{Rank}
use Rattle.adj_rib_in.specs.declared.keys.PathAttrs.{PathAttrs}
use Rattle.adj_rib_in.specs.declared.flat.Flat.{Flat}
use Rattle.adj_rib_in.specs.Orders.{key_cmp}
use Rattle.adj_rib_in.specs.Bests.{attrs_as}
use Rattle.adj_rib_in.specs.Paths.{Paths, held_in, flat, attrs_at}
use Rattle.adj_rib_in.specs.Flat.{ShareNoKey, paths_over}
use Rattle.adj_rib_in.specs.Ways.{Ways, way_attrs, key_by, AddsWays}
use Rattle.adj_rib_in.proofs.Orders.{place_as, is_place, via_is, via_same, prefix_same as prefix_test}
use Rattle.adj_rib_in.proofs.Views.{are_candidates, at_key, held_key, lookup_by_test}
use Rattle.adj_rib_in.proofs.Parts.{attrs_over, attrs_under}
use Rattle.route_choice.specs.Walks.{by_ways, held_at, held_for, HasRanks, HasRows}
use Rattle.route_choice.specs.Paths.{IsIndexed}
use Rattle.route_choice.proofs.AllRoutes.{Covers, covered}
use Rattle.route_choice.proofs.Rooms.{any_by_test}

-- ---- what comes from path sources for a prefix

module _ (p : code.Prefix) where
  abbrev P : Prefix
  P = prefix_as p

  all_ways : (ways : Ways) → AllByRecursion IsPlace (keys_of (by_ways p ways))
  all_ways [] = tt
  all_ways (e ∷ ways) = (is_place (key_by e.0 p), all_ways ways)

  below : (v : Via) (ways : Ways) → AllByRecursion (λ u. code_via_cmp v u ≡ Less) (keys_of ways) → AllByRecursion (λ q. place_cmp (place_as (key_by v p)) q ≡ Less) (keys_of (by_ways p ways))
  below v [] a = tt
  below v (e ∷ ways) a = (ap (λ o. ordering_then o (via_cmp (via_as v) (via_as e.0))) (tied_itself prefix_key.total P) ∙ (sym (via_is v e.0) ∙ a.0), below v ways a.1)

  ways_sorted : (ways : Ways) → IsStrictlySortedBy code_via_cmp (keys_of ways) → IsStrictlySortedBy place_cmp (keys_of (by_ways p ways))
  unfolding IsStrictlySortedBy
  ways_sorted [] s = tt
  ways_sorted (e ∷ ways) s = (below e.0 ways s.0, ways_sorted ways s.1)

  -- at a place of the prefix, and elsewhere
  at_via : (v : events.Via) (ways : Ways) → lookup (same_place (record { prefix = P; via = v })) (by_ways p ways) ≡ option_map attrs_as (lookup (λ u. same_via v (via_as u)) ways)
  at_via v [] = refl
  at_via v (e ∷ ways) = ap (λ b. cond (b && same_via v (via_as e.0)) (Some (attrs_as e.1)) (lookup (same_place (record { prefix = P; via = v })) (by_ways p ways))) (same_prefix_itself P) ∙ by_test (same_via v (via_as e.0)) (at_via v ways)
    where
      by_test : (b : Bool) → lookup (same_place (record { prefix = P; via = v })) (by_ways p ways) ≡ option_map attrs_as (lookup (λ u. same_via v (via_as u)) ways)
          → cond b (Some (attrs_as e.1)) (lookup (same_place (record { prefix = P; via = v })) (by_ways p ways)) ≡ option_map attrs_as (cond b (Some e.1) (lookup (λ u. same_via v (via_as u)) ways))
      by_test true ih = refl
      by_test false ih = ih

  off_prefix : (q : Place) (ways : Ways) → same_prefix q.prefix P ≡ false → lookup (same_place q) (by_ways p ways) ≡ None
  off_prefix q [] e = refl
  off_prefix q (w ∷ ways) e = ap (λ b. cond (b && same_via q.via (via_as w.0)) (Some (attrs_as w.1)) (lookup (same_place q) (by_ways p ways))) e ∙ off_prefix q ways e

passing : {K X : Type 0} (test : K → Bool) (v : X) (es : List (K × X)) → lookup test es ≡ Some v → (k : K) × (test k ≡ true)
passing test v [] h = absurd cc
passing {K = K} {X = X} test v (e ∷ es) h = by_test (test e.0) refl h (passing test v es)
  where
    by_test : (b : Bool) → test e.0 ≡ b → cond b (Some e.1) (lookup test es) ≡ Some v → (lookup test es ≡ Some v → (k : K) × (test k ≡ true)) → (k : K) × (test k ≡ true)
    by_test true t g ih = (e.0, t)
    by_test false t g ih = ih g

-- what is offered at the path keys of a prefix, in the order of path sources, is its candidates
pub ways_are : (paths : Paths) (p : code.Prefix) (ways : Ways) → IsStrictlySortedBy code_via_cmp (keys_of ways) → ((v : Via) → way_attrs ways v ≡ attrs_at paths (key_by v p)) → by_ways p ways ≡ held_at paths p
ways_are paths p ways s offers =
    same_entries place_key (by_ways p ways) (held_at paths p) (ways_sorted p ways s) (sorted_filter place_cmp test held (are_candidates paths).1) (all_ways p ways) (all_filter test IsPlace held (are_candidates paths).0)
    (λ q. by_prefix q (same_prefix q.prefix P) refl ∙ sym (lookup-filter place_key test q held (are_candidates paths).1))
  where
    P : Prefix
    P = prefix_as p

    held : Candidates
    held = held_in paths

    test : Place × model.PathAttrs → Bool
    test c = same_prefix c.0.prefix P

    none : (o : Option model.PathAttrs) → None ≡ option_and_then (λ v. cond false (Some v) None) o
    none None = refl
    none (Some v) = refl

    all : (o : Option model.PathAttrs) → o ≡ option_and_then (λ v. cond true (Some v) None) o
    all None = refl
    all (Some v) = refl

    here : (v : events.Via) → Place
    here v = record { prefix = P; via = v }

    -- by a path source that the code has
    at_way : (w : Via) → option_map attrs_as (lookup (λ u. same_via (via_as w) (via_as u)) ways) ≡ lookup (same_place (here (via_as w))) held
    at_way w = ap (option_map attrs_as) (lookup_by_test (λ u. same_via (via_as w) (via_as u)) (is_at (code_via_cmp w)) ways (λ u. sym (via_same w u)) ∙ offers w) ∙ sym (at_key (key_by w p) paths)

    by_found : (v : events.Via) (x : Option PathAttrs) → lookup (λ u. same_via v (via_as u)) ways ≡ x → (y : Option model.PathAttrs) → lookup (same_place (here v)) held ≡ y → option_map attrs_as (lookup (λ u. same_via v (via_as u)) ways) ≡ lookup (same_place (here v)) held
    by_found v (Some o) f y g =
        let r = passing (λ u. same_via v (via_as u)) o ways f in
        let e : via_as r.0 ≡ v = sym (via_key.same v (via_as r.0) r.1) in
        ap (λ u. option_map attrs_as (lookup (λ k. same_via u (via_as k)) ways)) (sym e) ∙ (at_way r.0 ∙ ap (λ u. lookup (same_place (here u)) held) e)
    by_found v None f (Some o) g =
        let r = held_key (here v) o paths g in
        let e : via_as r.0.via ≡ v = ap (λ (q : Place). q.via) r.1 in
        ap (λ u. option_map attrs_as (lookup (λ k. same_via u (via_as k)) ways)) (sym e) ∙ (at_way r.0.via ∙ ap (λ u. lookup (same_place (here u)) held) e)
    by_found v None f None g = ap (option_map attrs_as) f ∙ sym g

    by_prefix : (q : Place) (b : Bool) → same_prefix q.prefix P ≡ b → lookup (same_place q) (by_ways p ways) ≡ option_and_then (λ v. cond (same_prefix q.prefix P) (Some v) None) (lookup (same_place q) held)
    by_prefix q false e = off_prefix p q ways e ∙ (none (lookup (same_place q) held) ∙ ap (λ b. option_and_then (λ v. cond b (Some v) None) (lookup (same_place q) held)) (sym e))
    by_prefix q true e =
        let f : q ≡ here q.via = ap (λ x. let k : Place = record { prefix = x; via = q.via } in k) (same_prefix_is q.prefix P e) in
        ap (λ k. lookup (same_place k) (by_ways p ways)) f
        ∙ (at_via p q.via ways
        ∙ (by_found q.via (lookup (λ u. same_via q.via (via_as u)) ways) refl (lookup (same_place (here q.via)) held) refl
        ∙ (ap (λ k. lookup (same_place k) held) (sym f)
        ∙ (all (lookup (same_place q) held) ∙ ap (λ b. option_and_then (λ v. cond b (Some v) None) (lookup (same_place q) held)) (sym e)))))

-- ---- from the path sources that were gathered

-- nothing, then what the base offers, then what the maps offer
pub both_gathered : (base over : Paths) (p : code.Prefix) (none mid now : Ways) → none ≡ [] → ShareNoKey base over → AddsWays base p none mid → AddsWays over p mid now → (v : Via) → way_attrs now v ≡ attrs_at (base ++ over) (key_by v p)
both_gathered base over p none mid now e apart first then v = then v ∙ (ap (option_or (attrs_at over s)) (first v ∙ ap (λ ws. option_or (attrs_at base s) (way_attrs ws v)) e) ∙ by_over (attrs_at over s) refl)
  where
    s : PathKey
    s = key_by v p

    or_none : (o : Option PathAttrs) → option_or o None ≡ o
    or_none None = refl
    or_none (Some o) = refl

    by_base : attrs_at over s ≡ None → (x : Option (Option PathAttrs)) → lookup (is_at (key_cmp s)) base ≡ x → attrs_at base s ≡ attrs_at (base ++ over) s
    by_base f None g = ap flat g ∙ sym (attrs_over s base over g ∙ f)
    by_base f (Some v) g = ap flat g ∙ sym (attrs_under s base over v g)

    by_over : (o : Option PathAttrs) → attrs_at over s ≡ o → option_or o (option_or (attrs_at base s) None) ≡ attrs_at (base ++ over) s
    by_over (Some o) f = sym (attrs_over s base over (apart s o f) ∙ f)
    by_over None f = or_none (attrs_at base s) ∙ by_base f (lookup (is_at (key_cmp s)) base) refl

-- ---- those of one prefix after another

module _ (paths : Paths) where
  abbrev pub held : Candidates
  held = held_in paths

  pub held_more : (p : code.Prefix) (ps : List code.Prefix) → held_for paths (p ∷ ps) ≡ held_at paths p ++ held_for paths ps
  unfolding held_for
  held_more p ps = refl

  pub held_none : held_for paths [] ≡ []
  unfolding held_for
  held_none = refl

  abbrev among : Prefix → List code.Prefix → Bool
  among at ps = list_any (λ q. same_prefix at (prefix_as q)) ps

  all_of : (T : Place → Type 0) (p : code.Prefix) (cs : Candidates) → ((q : Place) → same_prefix q.prefix (prefix_as p) ≡ true → T q) → AllByRecursion T (keys_of (filter (λ c. same_prefix c.0.prefix (prefix_as p)) cs))
  all_of T p [] h = tt
  all_of T p (c ∷ cs) h = by_test (same_prefix c.0.prefix (prefix_as p)) refl (all_of T p cs h)
    where
      by_test : (b : Bool) → same_prefix c.0.prefix (prefix_as p) ≡ b → AllByRecursion T (keys_of (filter (λ c. same_prefix c.0.prefix (prefix_as p)) cs)) → AllByRecursion T (keys_of (cond b (c ∷ filter (λ c. same_prefix c.0.prefix (prefix_as p)) cs) (filter (λ c. same_prefix c.0.prefix (prefix_as p)) cs)))
      by_test true e ih = (h c.0 e, ih)
      by_test false e ih = ih

  all_both : (T : Place → Type 0) (cs ds : Candidates) → AllByRecursion T (keys_of cs) → AllByRecursion T (keys_of ds) → AllByRecursion T (keys_of (cs ++ ds))
  all_both T [] ds a b = b
  all_both T (c ∷ cs) ds a b = (a.0, all_both T cs ds a.1 b)

  all_for : (T : Place → Type 0) (ps : List code.Prefix) → AllByRecursion (λ p. (q : Place) → same_prefix q.prefix (prefix_as p) ≡ true → T q) ps → AllByRecursion T (keys_of (held_for paths ps))
  unfolding held_for
  all_for T [] a = tt
  all_for T (p ∷ ps) a = all_both T (held_at paths p) (held_for paths ps) (all_of T p held a.0) (all_for T ps a.1)

  places_for : (ps : List code.Prefix) → AllByRecursion IsPlace (keys_of (held_for paths ps))
  unfolding held_for
  places_for [] = tt
  places_for (p ∷ ps) = all_both IsPlace (held_at paths p) (held_for paths ps) (all_filter (λ c. same_prefix c.0.prefix (prefix_as p)) IsPlace held (are_candidates paths).0) (places_for ps)

  sorted_both : (cs ds : Candidates) → IsStrictlySortedBy place_cmp (keys_of cs) → IsStrictlySortedBy place_cmp (keys_of ds) → AllByRecursion (λ x. AllByRecursion (λ y. place_cmp x y ≡ Less) (keys_of ds)) (keys_of cs) → IsStrictlySortedBy place_cmp (keys_of (cs ++ ds))
  unfolding IsStrictlySortedBy
  sorted_both [] ds s t a = t
  sorted_both (c ∷ cs) ds s t a = (all_both (λ y. place_cmp c.0 y ≡ Less) cs ds s.0 a.0, sorted_both cs ds s.1 t a.1)

  later : (p : code.Prefix) (ps : List code.Prefix) → AllByRecursion (λ q. code_cmp p q ≡ Less) ps → (x : Place) → same_prefix x.prefix (prefix_as p) ≡ true → AllByRecursion (λ q. (y : Place) → same_prefix y.prefix (prefix_as q) ≡ true → place_cmp x y ≡ Less) ps
  later p [] a x e = tt
  later p (q ∷ ps) a x e = (
    (λ y f.
        ap (λ k. ordering_then (prefix_cmp k y.prefix) (via_cmp x.via y.via)) (same_prefix_is x.prefix (prefix_as p) e)
        ∙ (ap (λ k. ordering_then (prefix_cmp (prefix_as p) k) (via_cmp x.via y.via)) (same_prefix_is y.prefix (prefix_as q) f)
        ∙ ap (λ o. ordering_then o (via_cmp x.via y.via)) (sym (cmp_is p q) ∙ a.0))),
    later p ps a.1 x e,
  )

  sorted_for : (ps : List code.Prefix) → IsStrictlySortedBy code_cmp ps → IsStrictlySortedBy place_cmp (keys_of (held_for paths ps))
  unfolding IsStrictlySortedBy held_for
  sorted_for [] s = tt
  sorted_for (p ∷ ps) s = sorted_both (held_at paths p) (held_for paths ps) (sorted_filter place_cmp (λ c. same_prefix c.0.prefix (prefix_as p)) held (are_candidates paths).1) (sorted_for ps s.1)
      (all_of (λ x. AllByRecursion (λ y. place_cmp x y ≡ Less) (keys_of (held_for paths ps))) p held (λ x e. all_for (λ y. place_cmp x y ≡ Less) ps (later p ps s.0 x e)))

  lookup_both : (q : Place) (cs ds : Candidates) → lookup (same_place q) (cs ++ ds) ≡ option_or (lookup (same_place q) cs) (lookup (same_place q) ds)
  lookup_both q [] ds = refl
  lookup_both q (c ∷ cs) ds = by_test (same_place q c.0) (lookup_both q cs ds)
    where
      by_test : (b : Bool) → lookup (same_place q) (cs ++ ds) ≡ option_or (lookup (same_place q) cs) (lookup (same_place q) ds) → cond b (Some c.1) (lookup (same_place q) (cs ++ ds)) ≡ option_or (cond b (Some c.1) (lookup (same_place q) cs)) (lookup (same_place q) ds)
      by_test true ih = refl
      by_test false ih = ih

  at_place : (q : Place) (ps : List code.Prefix) → lookup (same_place q) (held_for paths ps) ≡ cond (among q.prefix ps) (lookup (same_place q) held) None
  unfolding held_for
  at_place q [] = refl
  at_place q (p ∷ ps) =
      lookup_both q (held_at paths p) (held_for paths ps)
      ∙ (ap (λ o. option_or o (lookup (same_place q) (held_for paths ps))) (lookup-filter place_key (λ c. same_prefix c.0.prefix (prefix_as p)) q held (are_candidates paths).1)
      ∙ (ap (option_or (option_and_then (λ v. cond (same_prefix q.prefix (prefix_as p)) (Some v) None) (lookup (same_place q) held))) (at_place q ps)
      ∙ by_test (same_prefix q.prefix (prefix_as p)) (among q.prefix ps) (lookup (same_place q) held)))
    where
      by_test : (a b : Bool) (o : Option model.PathAttrs) → option_or (option_and_then (λ v. cond a (Some v) None) o) (cond b o None) ≡ cond (a || b) o None
      by_test true b (Some v) = refl
      by_test true true None = refl
      by_test true false None = refl
      by_test false b (Some v) = refl
      by_test false b None = refl

  pub held_all : (ps : List code.Prefix) → IsStrictlySortedBy code_cmp ps → Covers paths ps → held_for paths ps ≡ held
  held_all ps s covers = same_entries place_key (held_for paths ps) held (sorted_for ps s) (are_candidates paths).1 (places_for ps) (are_candidates paths).0 (λ q. at_place q ps ∙ by_held q (lookup (same_place q) held) refl)
    where
      none : (b : Bool) (o : Option model.PathAttrs) → o ≡ None → cond b o None ≡ None
      none true o e = e
      none false o e = refl

      by_attrs : (q : Place) (v : model.PathAttrs) (r : PathKey) → place_as r ≡ q → (o : Option PathAttrs) → attrs_at paths r ≡ o → option_map attrs_as o ≡ Some v → among q.prefix ps ≡ true
      by_attrs q v r e None f g = absurd cc
      by_attrs q v r e (Some o) f g = ap (λ (k : Place). among k.prefix ps) (sym e) ∙ (any_by_test (λ k. same_prefix (prefix_as r.prefix) (prefix_as k)) (is_at (code_cmp r.prefix)) ps (λ k. sym (prefix_test r.prefix k)) ∙ covers r o f)

      by_held : (q : Place) (o : Option model.PathAttrs) → lookup (same_place q) held ≡ o → cond (among q.prefix ps) (lookup (same_place q) held) None ≡ lookup (same_place q) held
      by_held q None e = none (among q.prefix ps) (lookup (same_place q) held) e ∙ sym e
      by_held q (Some v) e =
          let r = held_key q v paths e in
          let x : option_map attrs_as (attrs_at paths r.0) ≡ Some v = sym (at_key r.0 paths) ∙ (ap (λ k. lookup (same_place k) held) r.1 ∙ e) in
          ap (λ b. cond b (lookup (same_place q) held) None) (by_attrs q v r.0 r.1 (attrs_at paths r.0) refl x)

-- ---- those of a prefix, by what was gathered for it

gathered_are : (base over : Paths) (p : code.Prefix) (none mid now : Ways) → ShareNoKey base over → none ≡ [] → AddsWays base p none mid → AddsWays over p mid now → IsStrictlySortedBy code_via_cmp (keys_of now) → by_ways p now ≡ held_at (base ++ over) p
gathered_are base over p none mid now apart e first then s = ways_are (base ++ over) p now s (both_gathered base over p none mid now e apart first then)

-- those of the base alone, and with those of the maps
pub list_are : (base over : Paths) (p : code.Prefix) (ways list : Ways) → ShareNoKey base over → AddsWays base p [] ways → AddsWays over p ways ways → IsStrictlySortedBy code_via_cmp (keys_of ways) → list ≡ ways → by_ways p list ≡ held_at (base ++ over) p
list_are base over p ways list apart first then s e = ap (by_ways p) e ∙ gathered_are base over p [] ways ways apart refl first then s

pub map_are : (base over : Paths) (p : code.Prefix) (ways list mid now : Ways) → ShareNoKey base over → AddsWays base p [] ways → list ≡ ways → ((v : Via) → way_attrs mid v ≡ way_attrs list v) → AddsWays over p mid now → IsStrictlySortedBy code_via_cmp (keys_of now) → by_ways p now ≡ held_at (base ++ over) p
map_are base over p ways list mid now apart first e same then s = gathered_are base over p [] mid now apart refl (λ v. same v ∙ (ap (λ ws. way_attrs ws v) e ∙ first v)) then s

pub all_octets : (cs : List Cand) → AllByRecursion IsOfOctets (map cand_as cs)
all_octets [] = tt
all_octets (c ∷ cs) = (of_octets c, all_octets cs)

pub by_all_prefixes : (b : Flat) (over : Paths) (ranks : List Rank) (ps read : List code.Prefix) → IsIndexed over ranks → HasRows b.rows.items ps → HasRanks ranks ps → IsStrictlySortedBy code_cmp ps → read ≡ ps → held_for (paths_over b over) read ≡ held_in (paths_over b over)
by_all_prefixes b over ranks ps read i rows has s e = ap (held_for (paths_over b over)) e ∙ held_all (paths_over b over) ps s (covered b over ranks ps i rows has)
