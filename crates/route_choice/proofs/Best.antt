-- The best candidate of a prefix, and the choice that an elementary event makes.
use Rattle.std.proofs.Common.{◌≡◌, ℕ, List, [], ◌∷◌, Bool, true, false, cond, Option, Some, None, refl, sym, ap, ◌∙◌, arith}
use Rattle.std.specs.Prelude.{option_map, if◌then◌else◌, filter, ◌||◌, ◌==◌}
use Rattle.std.specs.List.{AllByRecursion, list_any}
use Rattle.std.specs.List.Sorted.{IsStrictlySortedBy}
use Rattle.std.specs.Map.{lookup}
use Rattle.std.specs.Ordering.{nat_cmp, ordering_then, is_eq, is_gt}
use Rattle.std.specs.BTreeMap.{is_at}
use Rattle.std.specs.declared.cmp.Ordering.{Ordering}
use Rattle.std.specs.declared.cmp.Ordering.TheVariants.{Less, Equal, Greater}
use Rattle.std.proofs.lemmas.Cmp.{tied_itself, tied_back, ranked}
use Rattle.table_model.specs.Address.{same_prefix}
use Rattle.table_model.proofs.SamePrefix.{same_prefix_is}
use Rattle.fib_addr.specs.Views.{prefix_as}
use Rattle.fib_prefix.specs.Views.{via_as}
use Rattle.fib_addr.specs.Order.{code_cmp}
use Rattle.fib_addr.specs.declared.prefix.Prefix as code
use Rattle.fib_prefix.specs.declared.event.Via.{Via}
use Rattle.route_model.specs.Events.{via_cmp}
use Rattle.route_model.specs.Choice as model
use Rattle.route_model.specs.Choice.{Place, IsHeld, same_place, beats}
use Rattle.route_model.proofs.Places.{via_key}
use Rattle.route_model.proofs.Choices.{beats_flipped}
use Rattle.adj_rib_in.specs.declared.keys.PathKey.{PathKey}
use Rattle.adj_rib_in.specs.declared.keys.Rank.{Rank}
use Rattle.adj_rib_in.specs.declared.keys.PathAttrs.{PathAttrs}
use Rattle.adj_rib_in.specs.declared.keys.Candidate.{Candidate}
use Rattle.adj_rib_in.specs.Orders.{key_cmp, rank_cmp}
use Rattle.fib_prefix.specs.Order.{code_via_cmp}
use Rattle.adj_rib_in.specs.Paths.{Paths, held_in, flat, attrs_at, rank_at, key_of}
use Rattle.route_choice.specs.Paths.{IsIndexed}
use Rattle.route_choice.specs.Walks.{ranks_of, attrs_with_path, attrs_ranked, or_next, first_in}
use Rattle.adj_rib_in.proofs.Orders.{place_as, via_is, via_same, prefix_same, prefix_total, key_total, rank_total, via_total, key_tied}
use Rattle.adj_rib_in.proofs.Views.{at_key, lookup_by_test}
use Rattle.adj_rib_in.specs.Bests.{IsBestOf, is_excluded, out_as, candidate_as, attrs_as}
use Rattle.adj_rib_in.proofs.Holds.{code_of, is_out_as}
use Rattle.adj_rib_in.proofs.Orders.{is_equal}

-- ---- what the walk over ranks finds

record IsFirst (paths : Paths) (but : Option Via) (Q : Rank → Type 0) (ranks : List Rank) (c : Candidate) : Type 0 where
  rank : Rank
  meets : Q rank
  live : attrs_ranked paths rank ≡ Some c.attrs
  via : rank.via ≡ c.via
  kept : is_excluded but rank.via ≡ false
  least : AllByRecursion (λ t. (attrs : PathAttrs) → attrs_ranked paths t ≡ Some attrs → is_excluded but t.via ≡ false → is_gt (rank_cmp rank t) ≡ false) ranks

all_map : {K : Type 0} (P Q : K → Type 0) (ks : List K) → ((k : K) → P k → Q k) → AllByRecursion P ks → AllByRecursion Q ks
all_map P Q [] f a = tt
all_map P Q (k ∷ ks) f a = (f k a.0, all_map P Q ks f a.1)

candidate_is : (c d : Candidate) → Some c ≡ Some d → c ≡ d
candidate_is c d e = cc

candidate_via : (q : Via) (attrs : PathAttrs) (c : Candidate) → Some (record { via = q; attrs = attrs }) ≡ Some c → q ≡ c.via
candidate_via q attrs c e = ap (λ (d : Candidate). d.via) (candidate_is (record { via = q; attrs = attrs }) c e)

candidate_attrs : (q : Via) (attrs : PathAttrs) (c : Candidate) → Some (record { via = q; attrs = attrs }) ≡ Some c → attrs ≡ c.attrs
candidate_attrs q attrs c e = ap (λ (d : Candidate). d.attrs) (candidate_is (record { via = q; attrs = attrs }) c e)

all_both : {K : Type 0} (P Q : K → Type 0) (ks : List K) → AllByRecursion P ks → AllByRecursion Q ks → AllByRecursion (λ k. P k × Q k) ks
all_both P Q [] a b = tt
all_both P Q (k ∷ ks) a b = ((a.0, b.0), all_both P Q ks a.1 b.1)

first_is : (paths : Paths) (but : Option Via) (Q : Rank → Type 0) (ranks : List Rank) (c : Candidate) → IsStrictlySortedBy rank_cmp ranks → AllByRecursion Q ranks → first_in paths but ranks ≡ Some c → IsFirst paths but Q ranks c
unfolding IsStrictlySortedBy first_in
first_is paths but Q [] c s a h = absurd cc
first_is paths but Q (r ∷ ranks) c s a h = by_out (is_excluded but r.via) refl (attrs_ranked paths r) refl h (first_is paths but Q ranks c s.1 a.1)
  where
    later : IsFirst paths but Q ranks c → ((attrs : PathAttrs) → attrs_ranked paths r ≡ Some attrs → is_excluded but r.via ≡ false → ⊥) → IsFirst paths but Q (r ∷ ranks) c
    later f none = record { rank = f.rank; meets = f.meets; live = f.live; via = f.via; kept = f.kept; least = ((λ attrs g o. absurd (none attrs g o)), f.least) }

    by_out : (b : Bool) → is_excluded but r.via ≡ b → (o : Option PathAttrs) → attrs_ranked paths r ≡ o → (if b then first_in paths but ranks else or_next r.via o (first_in paths but ranks)) ≡ Some c
        → (first_in paths but ranks ≡ Some c → IsFirst paths but Q ranks c) → IsFirst paths but Q (r ∷ ranks) c
    by_out true t o g e ih = later (ih e) (λ attrs x y. let z : true ≡ false = sym t ∙ y in absurd cc)
    by_out false t None g e ih = later (ih e) (λ attrs x y. let z : None ≡ Some attrs = sym g ∙ x in absurd cc)
    by_out false t (Some attrs) g e ih =
        let x : r.via ≡ c.via = candidate_via r.via attrs c e in
        let y : attrs ≡ c.attrs = candidate_attrs r.via attrs c e in
        record {
          rank = r;
          meets = a.0;
          live = g ∙ ap Some y;
          via = x;
          kept = t;
          least = ((λ attrs x y. ap is_gt (tied_itself rank_total r)), all_map (λ t. rank_cmp r t ≡ Less) (λ t. (attrs : PathAttrs) → attrs_ranked paths t ≡ Some attrs → is_excluded but t.via ≡ false → is_gt (rank_cmp r t) ≡ false) ranks (λ t l attrs x y. ap is_gt l) s.0);
        }

none_is : (paths : Paths) (but : Option Via) (ranks : List Rank) → first_in paths but ranks ≡ None → AllByRecursion (λ t. (attrs : PathAttrs) → attrs_ranked paths t ≡ Some attrs → is_excluded but t.via ≡ true) ranks
unfolding first_in
none_is paths but [] h = tt
none_is paths but (r ∷ ranks) h = by_out (is_excluded but r.via) refl (attrs_ranked paths r) refl h (none_is paths but ranks)
  where
    by_out : (b : Bool) → is_excluded but r.via ≡ b → (o : Option PathAttrs) → attrs_ranked paths r ≡ o → (if b then first_in paths but ranks else or_next r.via o (first_in paths but ranks)) ≡ None
        → (first_in paths but ranks ≡ None → AllByRecursion (λ t. (attrs : PathAttrs) → attrs_ranked paths t ≡ Some attrs → is_excluded but t.via ≡ true) ranks)
        → AllByRecursion (λ t. (attrs : PathAttrs) → attrs_ranked paths t ≡ Some attrs → is_excluded but t.via ≡ true) (r ∷ ranks)
    by_out true t o g e ih = ((λ attrs x. t), ih e)
    by_out false t None g e ih = ((λ attrs x. let z : None ≡ Some attrs = sym g ∙ x in absurd cc), ih e)
    by_out false t (Some attrs) g e ih = absurd cc

-- ---- each candidate of a prefix is among its ranks

pub any_element : {K : Type 0} (test : K → Bool) (T : K → Type 0) (ks : List K) → list_any test ks ≡ true → AllByRecursion T ks → (k : K) × (test k ≡ true) × T k
any_element test T [] h a = absurd cc
any_element {K = K} test T (k ∷ ks) h a = by_test (test k) refl h (λ g. any_element test T ks g a.1)
  where
    by_test : (b : Bool) → test k ≡ b → (b || list_any test ks) ≡ true → (list_any test ks ≡ true → (x : K) × (test x ≡ true) × T x) → (x : K) × (test x ≡ true) × T x
    by_test true t g ih = (k, t, a.0)
    by_test false t g ih = ih g

filtered : {K : Type 0} (p : K → Bool) (ks : List K) → AllByRecursion (λ k. p k ≡ true) (filter p ks)
filtered p [] = tt
filtered p (k ∷ ks) = by_test (p k) refl (filtered p ks)
  where
    by_test : (b : Bool) → p k ≡ b → AllByRecursion (λ k. p k ≡ true) (filter p ks) → AllByRecursion (λ k. p k ≡ true) (cond b (k ∷ filter p ks) (filter p ks))
    by_test true t ih = (t, ih)
    by_test false t ih = ih

filtered_all : {K : Type 0} (p : K → Bool) (Q : K → Type 0) (ks : List K) → AllByRecursion Q ks → AllByRecursion Q (filter p ks)
filtered_all p Q [] a = tt
filtered_all p Q (k ∷ ks) a = by_test (p k) (filtered_all p Q ks a.1)
  where
    by_test : (b : Bool) → AllByRecursion Q (filter p ks) → AllByRecursion Q (cond b (k ∷ filter p ks) (filter p ks))
    by_test true ih = (a.0, ih)
    by_test false ih = ih

filtered_sorted : {K : Type 0} (R : K → K → Ordering) (p : K → Bool) (ks : List K) → IsStrictlySortedBy R ks → IsStrictlySortedBy R (filter p ks)
unfolding IsStrictlySortedBy
filtered_sorted R p [] s = tt
filtered_sorted R p (k ∷ ks) s = by_test (p k) (filtered_sorted R p ks s.1)
  where
    by_test : (b : Bool) → IsStrictlySortedBy R (filter p ks) → IsStrictlySortedBy R (cond b (k ∷ filter p ks) (filter p ks))
    by_test true ih = (filtered_all p (λ r. R k r ≡ Less) ks s.0, ih)
    by_test false ih = ih

-- what passes a test and lies in a list lies in the part that passes another that it passes
pub any_filtered : {K : Type 0} (test p : K → Bool) (ks : List K) → ((k : K) → test k ≡ true → p k ≡ true) → list_any test ks ≡ true → list_any test (filter p ks) ≡ true
any_filtered test p [] f h = h
any_filtered test p (k ∷ ks) f h = by_test (test k) refl (p k) refl h (any_filtered test p ks f)
  where
    by_test : (b : Bool) → test k ≡ b → (d : Bool) → p k ≡ d → (b || list_any test ks) ≡ true → (list_any test ks ≡ true → list_any test (filter p ks) ≡ true) → list_any test (cond d (k ∷ filter p ks) (filter p ks)) ≡ true
    by_test true t true u g ih = ap (λ x. x || list_any test (filter p ks)) t
    by_test true t false u g ih = let z : p k ≡ true = f k t in absurd cc
    by_test false t true u g ih = ap (λ x. x || list_any test (filter p ks)) t ∙ ih g
    by_test false t false u g ih = ih g

eq_parts : (a b : Ordering) → is_eq (ordering_then a b) ≡ true → (a ≡ Equal) × (is_eq b ≡ true)
eq_parts Less b e = cc
eq_parts Equal b e = (refl, e)
eq_parts Greater b e = cc

path_equal : (x y : ℕ) → nat_cmp x y ≡ Equal → x ≡ y
path_equal x y e = ranked x y Equal (sym e)

-- what a rank that equals another's has to do with it
pub record SameRank (r t : Rank) : Type 0 where
  pub prefix : code_cmp r.prefix t.prefix ≡ Equal
  pub path : r.path ≡ t.path
  pub via : code_via_cmp r.via t.via ≡ Equal

pub same_rank : (r t : Rank) → is_eq (rank_cmp r t) ≡ true → SameRank r t
same_rank r t e =
    let x = eq_parts (code_cmp r.prefix t.prefix) (ordering_then (nat_cmp r.path t.path) (code_via_cmp r.via t.via)) e in
    let y = eq_parts (nat_cmp r.path t.path) (code_via_cmp r.via t.via) x.1 in
    record { prefix = x.0; path = path_equal r.path t.path y.0; via = is_equal (code_via_cmp r.via t.via) y.1 }

-- path keys that the order doesn't tell apart offer the same
pub same_attrs : (paths : Paths) (s t : PathKey) → key_cmp s t ≡ Equal → attrs_at paths t ≡ attrs_at paths s
same_attrs paths s t e = ap flat (lookup_by_test (is_at (key_cmp t)) (is_at (key_cmp s)) paths (λ k. ap is_eq (sym (key_total.congr s t k e))))

pub with_own_path : (n : ℕ) (attrs : PathAttrs) → attrs.path ≡ n → attrs_with_path n (Some attrs) ≡ Some attrs
with_own_path n attrs e = ap (λ (b : Bool). if b then Some attrs else None) (let x : (attrs.path == n) ≡ true = grind (arith, e) in x)

pub with_path_parts : (n : ℕ) (o : Option PathAttrs) (attrs : PathAttrs) → attrs_with_path n o ≡ Some attrs → (o ≡ Some attrs) × (attrs.path ≡ n)
with_path_parts n None attrs e = absurd cc
with_path_parts n (Some x) attrs e = by_test (x.path == n) refl e
  where
    by_test : (b : Bool) → (x.path == n) ≡ b → (if b then Some x else None) ≡ Some attrs → (Some x ≡ Some attrs) × (attrs.path ≡ n)
    by_test true t f = let p : x ≡ attrs = same_value x attrs f in let q : x.path ≡ n = same_number x.path n t in (f, sym (ap (λ (y : PathAttrs). y.path) p) ∙ q)
      where
        same_value : (v w : PathAttrs) → Some v ≡ Some w → v ≡ w
        same_value v w i = cc

        same_number : (a b : ℕ) → (a == b) ≡ true → a ≡ b
        same_number a b i = grind arith
    by_test false t f = absurd cc

record Ranked (paths : Paths) (T : Rank → Type 0) (d : Place × model.PathAttrs) : Type 0 where
  rank : Rank
  meets : T rank
  attrs : PathAttrs
  live : attrs_ranked paths rank ≡ Some attrs
  path : rank.path ≡ d.1.path
  via : via_as rank.via ≡ d.0.via

rank_of : (paths : Paths) (ranks : List Rank) (p : code.Prefix) (T : Rank → Type 0) (d : Place × model.PathAttrs) → IsIndexed paths ranks → AllByRecursion T (ranks_of p ranks) → IsHeld (held_in paths) d → same_prefix (prefix_as p) d.0.prefix ≡ true → Ranked paths T d
rank_of paths ranks p T d i a h e =
    let c = code_of paths d h in
    let s = c.key in
    let own : Rank = rank_at s c.attrs.path in
    let at_p : code_cmp p s.prefix ≡ Equal = is_equal (code_cmp p s.prefix) (prefix_same p s.prefix ∙ (ap (λ (q : Place). same_prefix (prefix_as p) q.prefix) c.place ∙ e)) in
    let there : list_any (is_at (rank_cmp own)) (ranks_of p ranks) ≡ true =
    any_filtered (is_at (rank_cmp own)) (λ r. is_eq (code_cmp p r.prefix)) ranks (λ k t. ap is_eq (prefix_total.congr p s.prefix k.prefix at_p ∙ (same_rank own k t).prefix)) (i s c.attrs c.here) in
    let r = any_element (is_at (rank_cmp own)) T (ranks_of p ranks) there a in
    let f = same_rank own r.0 r.1 in
    let key : key_cmp s (key_of r.0) ≡ Equal = key_tied s (key_of r.0) f.prefix f.via in
    let via : code_via_cmp r.0.via s.via ≡ Equal = tied_back via_total s.via r.0.via f.via in
    record {
      rank = r.0;
      meets = r.2;
      attrs = c.attrs;
      live = ap (attrs_with_path r.0.path) (same_attrs paths s (key_of r.0) key ∙ c.here) ∙ with_own_path r.0.path c.attrs f.path;
      path = sym f.path ∙ ap (λ (o : model.PathAttrs). o.path) c.is;
      via = via_key.same (via_as r.0.via) (via_as s.via) (sym (via_same r.0.via s.via) ∙ ap is_eq via) ∙ ap (λ (q : Place). q.via) c.place;
    }

-- ---- the best candidate of a prefix, of the path sources that aren't out

pub best_is : (paths : Paths) (ranks : List Rank) (p : code.Prefix) (but : Option Via) → IsIndexed paths ranks → IsStrictlySortedBy rank_cmp ranks → (o : Option Candidate) → first_in paths but (ranks_of p ranks) ≡ o → IsBestOf (held_in paths) (prefix_as p) (out_as but) (option_map (candidate_as (prefix_as p)) o)
best_is paths ranks p but i s None f = λ d h e.
    let a = none_is paths but (ranks_of p ranks) f in
    let r = rank_of paths ranks p (λ t. (attrs : PathAttrs) → attrs_ranked paths t ≡ Some attrs → is_excluded but t.via ≡ true) d i a h e in
    sym (ap (out_as but) r.via) ∙ (sym (is_out_as but r.rank.via) ∙ r.meets r.attrs r.live)
best_is paths ranks p but i s (Some c) f = (held, refl, sym (is_out_as but c.via) ∙ (ap (is_excluded but) (sym b.via) ∙ b.kept), best)
  where
    b : IsFirst paths but (λ r. is_eq (code_cmp p r.prefix) ≡ true) (ranks_of p ranks) c
    b = first_is paths but (λ r. is_eq (code_cmp p r.prefix) ≡ true) (ranks_of p ranks) c (filtered_sorted rank_cmp (λ r. is_eq (code_cmp p r.prefix)) ranks s) (filtered (λ r. is_eq (code_cmp p r.prefix)) ranks) f

    x : (attrs_at paths (key_of b.rank) ≡ Some c.attrs) × (c.attrs.path ≡ b.rank.path)
    x = with_path_parts b.rank.path (attrs_at paths (key_of b.rank)) c.attrs b.live

    prefix : prefix_as b.rank.prefix ≡ prefix_as p
    prefix = sym (same_prefix_is (prefix_as p) (prefix_as b.rank.prefix) (sym (prefix_same p b.rank.prefix) ∙ b.meets))

    place : place_as (key_of b.rank) ≡ (candidate_as (prefix_as p) c).0
    place = ap (λ y. let r : Place = record { prefix = y; via = via_as b.rank.via } in r) prefix ∙ ap (λ y. let r : Place = record { prefix = prefix_as p; via = via_as y } in r) b.via

    held : IsHeld (held_in paths) (candidate_as (prefix_as p) c)
    held = ap (λ y. lookup (same_place y) (held_in paths)) (sym place) ∙ (at_key (key_of b.rank) paths ∙ ap (option_map attrs_as) x.0)

    best : (d : Place × model.PathAttrs) → IsHeld (held_in paths) d → same_prefix (prefix_as p) d.0.prefix ≡ true → out_as but d.0.via ≡ false → beats d (candidate_as (prefix_as p) c) ≡ false
    best d h e n =
        let both_meet = all_both (λ t. is_eq (code_cmp p t.prefix) ≡ true) (λ t. (attrs : PathAttrs) → attrs_ranked paths t ≡ Some attrs → is_excluded but t.via ≡ false → is_gt (rank_cmp b.rank t) ≡ false) (ranks_of p ranks) (filtered (λ r. is_eq (code_cmp p r.prefix)) ranks) b.least in
        let r = rank_of paths ranks p (λ t. (is_eq (code_cmp p t.prefix) ≡ true) × ((attrs : PathAttrs) → attrs_ranked paths t ≡ Some attrs → is_excluded but t.via ≡ false → is_gt (rank_cmp b.rank t) ≡ false)) d i both_meet h e in
        let kept : is_excluded but r.rank.via ≡ false = is_out_as but r.rank.via ∙ (ap (out_as but) r.via ∙ n) in
        let up : is_gt (rank_cmp b.rank r.rank) ≡ false = r.meets.1 r.attrs r.live kept in
        let same : code_cmp b.rank.prefix r.rank.prefix ≡ Equal = sym (prefix_total.congr p b.rank.prefix r.rank.prefix (is_equal _ b.meets)) ∙ is_equal _ r.meets.0 in
        let up2 : is_gt (ordering_then (nat_cmp b.rank.path r.rank.path) (code_via_cmp b.rank.via r.rank.via)) ≡ false = ap (λ o. is_gt (ordering_then o (ordering_then (nat_cmp b.rank.path r.rank.path) (code_via_cmp b.rank.via r.rank.via)))) (sym same) ∙ up in
        let vias : code_via_cmp b.rank.via r.rank.via ≡ via_cmp (via_as c.via) d.0.via = via_is b.rank.via r.rank.via ∙ (ap (λ y. via_cmp (via_as y) (via_as r.rank.via)) b.via ∙ ap (via_cmp (via_as c.via)) r.via) in
        let path_ties : nat_cmp b.rank.path r.rank.path ≡ nat_cmp c.attrs.path d.1.path = ap (λ n. nat_cmp n r.rank.path) (sym x.1) ∙ ap (nat_cmp c.attrs.path) r.path in
        sym (beats_flipped d (candidate_as (prefix_as p) c)) ∙ (sym (ap (λ o. is_gt (ordering_then o (via_cmp (via_as c.via) d.0.via))) path_ties) ∙ (sym (ap (λ o. is_gt (ordering_then (nat_cmp b.rank.path r.rank.path) o)) vias) ∙ up2))
