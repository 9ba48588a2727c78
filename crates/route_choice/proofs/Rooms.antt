-- Path keys and ranks that come and go.
use Rattle.std.proofs.Common.{◌≡◌, ℕ, List, [], ◌∷◌, Bool, true, false, cond, not, Option, Some, None, refl, sym, ap, subst, ◌∙◌}
use Rattle.std.specs.Prelude.{◌||◌, is_some, IsSome}
use Rattle.std.specs.Option.{option_copied}
use Rattle.std.specs.List.{list_any}
use Rattle.std.specs.Map.{lookup}
use Rattle.std.specs.Ordering.{nat_cmp, ordering_then, is_eq}
use Rattle.std.specs.BTreeMap.{is_at}
use Rattle.std.specs.declared.cmp.Ordering.TheVariants.{Equal}
use Rattle.std.proofs.lemmas.Cmp.{nat_cmp_total, tied_itself}
use Rattle.table_model.specs.Address.{Address, Prefix, same_prefix}
use Rattle.fib_addr.specs.Views.{addr_as, prefix_as}
use Rattle.fib_prefix.specs.Views.{via_as, elem_as}
use Rattle.fib_addr.specs.Order.{code_cmp}
use Rattle.fib_addr.specs.declared.addr.Addr.{Addr}
use Rattle.fib_addr.specs.declared.prefix.Prefix as code
use Rattle.fib_prefix.specs.declared.event.Via.{Via}
use Rattle.fib_prefix.specs.declared.event.Elem.{Elem}
use Rattle.fib_prefix.specs.declared.event.Elem.TheVariants as elem
use Rattle.route_model.specs.Events as model
use Rattle.route_model.specs.Events.{same_via}
use Rattle.route_model.proofs.Places.{via_key, prefix_key}
use Rattle.adj_rib_in.specs.declared.keys.PathKey.{PathKey}
use Rattle.adj_rib_in.specs.declared.keys.Rank.{Rank}
use Rattle.adj_rib_in.specs.declared.keys.PathAttrs.{PathAttrs}
use Rattle.adj_rib_in.specs.Orders.{key_cmp, rank_cmp}
use Rattle.fib_prefix.specs.Order.{code_via_cmp}
use Rattle.adj_rib_in.specs.Paths.{Paths, flat, attrs_at, rank_at, key_of}
use Rattle.route_choice.specs.Paths.{has_rank, has_key, IsIndexed, OfferHasRoom, key_in, attrs_in}
use Rattle.route_choice.specs.Walks.{attrs_with_path, attrs_ranked}
use Rattle.adj_rib_in.proofs.Orders.{via_same, prefix_same, rank_total, key_tied, tied_prefix, tied_via}
use Rattle.route_choice.proofs.Best.{same_attrs, SameRank, same_rank, with_own_path}
use Rattle.adj_rib_in.proofs.Orders.{is_equal}
use denote.Ref.{Bor}

-- the rank of what a path key offers has that offer
pub own_rank : (paths : Paths) (r : Rank) (s : PathKey) (attrs : PathAttrs) → is_eq (rank_cmp r (rank_at s attrs.path)) ≡ true → attrs_at paths s ≡ Some attrs → attrs_ranked paths r ≡ Some attrs
own_rank paths r s attrs e h =
    let f : SameRank r (rank_at s attrs.path) = same_rank r (rank_at s attrs.path) e in
    let key : key_cmp (key_of r) s ≡ Equal = key_tied (key_of r) s f.prefix f.via in
    ap (attrs_with_path r.path) (sym (same_attrs paths (key_of r) s key) ∙ h) ∙ with_own_path r.path attrs (sym f.path)

pub pruned_rank : (paths : Paths) (old new : List Rank) (r : Rank) (o : Option PathAttrs) → o ≡ attrs_ranked paths r → (b : Bool) → is_some o ≡ not b → b ≡ true → ((q : Rank) → has_rank new q ≡ cond (is_eq (rank_cmp r q)) false (has_rank old q)) → IsIndexed paths old → IsIndexed paths new
pruned_rank paths old new r o e b t u h i = λ s attrs f. h (rank_at s attrs.path) ∙ by_test s attrs f (is_eq (rank_cmp r (rank_at s attrs.path))) refl
  where
    by_test : (s : PathKey) (attrs : PathAttrs) → attrs_at paths s ≡ Some attrs → (d : Bool) → is_eq (rank_cmp r (rank_at s attrs.path)) ≡ d → cond d false (has_rank old (rank_at s attrs.path)) ≡ true
    by_test s attrs f true g =
        let x : o ≡ Some attrs = e ∙ own_rank paths r s attrs g f in
        let y : is_some o ≡ false = t ∙ ap not u in
        let z : is_some o ≡ true = ap is_some x in absurd cc
    by_test s attrs f false g = i s attrs f

-- a path key where nothing is offered may go
pub pruned_key : (old new : Paths) (t : PathKey) (o : Option PathAttrs) → o ≡ attrs_at old t → (b : Bool) → is_some o ≡ not b → b ≡ true → ((q : PathKey) → lookup (is_at (key_cmp q)) new ≡ cond (is_eq (key_cmp t q)) None (lookup (is_at (key_cmp q)) old)) → (s : PathKey) → attrs_at new s ≡ attrs_at old s
pruned_key old new t o e b n u h s = ap flat (h s) ∙ by_test (is_eq (key_cmp t s)) refl
  where
    is_nothing : (x : Option PathAttrs) → is_some x ≡ false → x ≡ None
    is_nothing None w = refl
    is_nothing (Some x) w = absurd cc

    by_test : (d : Bool) → is_eq (key_cmp t s) ≡ d → flat (cond d None (lookup (is_at (key_cmp s)) old)) ≡ attrs_at old s
    by_test true g = sym (same_attrs old t s (is_equal (key_cmp t s) g) ∙ (sym e ∙ is_nothing o (n ∙ ap not u)))
    by_test false g = refl

-- and may come
pub new_key : (old new : Paths) (t : PathKey) → lookup (is_at (key_cmp t)) old ≡ None → ((q : PathKey) → lookup (is_at (key_cmp q)) new ≡ cond (is_eq (key_cmp t q)) (Some None) (lookup (is_at (key_cmp q)) old)) → (s : PathKey) → attrs_at new s ≡ attrs_at old s
new_key old new t e h s = ap flat (h s) ∙ by_test (is_eq (key_cmp t s)) refl
  where
    by_test : (d : Bool) → is_eq (key_cmp t s) ≡ d → flat (cond d (Some None) (lookup (is_at (key_cmp s)) old)) ≡ attrs_at old s
    by_test true g = sym (same_attrs old t s (is_equal (key_cmp t s) g) ∙ ap flat e)
    by_test false g = refl

-- more ranks serve as well
pub more_ranks : (paths : Paths) (old new : List Rank) (r : Rank) → ((q : Rank) → has_rank new q ≡ cond (is_eq (rank_cmp r q)) true (has_rank old q)) → IsIndexed paths old → IsIndexed paths new
more_ranks paths old new r h i = λ s attrs f. h (rank_at s attrs.path) ∙ by_test s attrs f (is_eq (rank_cmp r (rank_at s attrs.path)))
  where
    by_test : (s : PathKey) (attrs : PathAttrs) → attrs_at paths s ≡ Some attrs → (d : Bool) → cond d true (has_rank old (rank_at s attrs.path)) ≡ true
    by_test s attrs f true = refl
    by_test s attrs f false = i s attrs f

-- as do the same offers
pub same_offers : (old new : Paths) (ranks : List Rank) → ((s : PathKey) → attrs_at new s ≡ attrs_at old s) → IsIndexed old ranks → IsIndexed new ranks
same_offers old new ranks h i = λ s attrs f. i s attrs (sym (h s) ∙ f)

copied_none : {X : Type 0} (o : Option (Bor X)) (v : Option X) (b : Bool) → option_copied o ≡ v → is_some o ≡ not b → b ≡ true → v ≡ None
copied_none None v b e t u = sym e
copied_none (Some x) v b e t u = let y : true ≡ not b = t in absurd cc

pub absent : {X : Type 0} (o : Option (Bor X)) (v : Option X) (b : Bool) → option_copied o ≡ v → is_some o ≡ not b → b ≡ true → v ≡ None
absent o v b e t u = copied_none o v b e t u

pub present : {X : Type 0} (o : Option (Bor X)) (v : Option X) (b : Bool) → option_copied o ≡ v → is_some o ≡ not b → b ≡ false → is_some v ≡ true
present None v b e t u = let y : false ≡ not b = t in absurd cc
present (Some x) v b e t u = ap is_some (sym e)

-- ---- room for an elementary event

pub room_key : (paths : Paths) (ranks : List Rank) (e : Elem) → OfferHasRoom paths ranks (Some e) → (attrs : PathAttrs) → attrs_in e ≡ Some attrs → has_key paths (key_in e) ≡ true
room_key paths ranks (elem.Put q p path hop) r attrs h = r.0
room_key paths ranks (elem.Cut q p) r attrs h = absurd cc

room_rank : (paths : Paths) (ranks : List Rank) (e : Elem) → OfferHasRoom paths ranks (Some e) → (attrs : PathAttrs) → attrs_in e ≡ Some attrs → has_rank ranks (rank_at (key_in e) attrs.path) ≡ true
room_rank paths ranks (elem.Put q p path hop) r attrs h = ap (λ n. has_rank ranks (record { prefix = p; path = n; via = q })) (sym (ap (λ (o : PathAttrs). o.path) (same_value (record { path = path; hop = hop }) attrs h))) ∙ r.1
  where
    same_value : (v w : PathAttrs) → Some v ≡ Some w → v ≡ w
    same_value v w i = cc
room_rank paths ranks (elem.Cut q p) r attrs h = absurd cc

pub any_by_test : {K : Type 0} (f g : K → Bool) (ks : List K) → ((k : K) → f k ≡ g k) → list_any f ks ≡ list_any g ks
any_by_test f g [] h = refl
any_by_test f g (k ∷ ks) h = ap (λ b. b || list_any f ks) (h k) ∙ ap (λ b. g k || b) (any_by_test f g ks h)

-- puts that clauses don't tell apart have the same path key and rank
pub same_put : (q r : Via) (p o : code.Prefix) (path way : ℕ) (hop next : Addr) → elem_as (elem.Put q p path hop) ≡ elem_as (elem.Put r o way next)
    → (key_cmp (record { via = q; prefix = p }) (record { via = r; prefix = o }) ≡ Equal) × (rank_cmp (record { prefix = p; path = path; via = q }) (record { prefix = o; path = way; via = r }) ≡ Equal)
same_put q r p o path way hop next e =
    let x : via_as q ≡ via_as r = put_via (via_as q) (via_as r) (prefix_as p) (prefix_as o) path way (addr_as hop) (addr_as next) e in
    let y : prefix_as p ≡ prefix_as o = put_prefix (via_as q) (via_as r) (prefix_as p) (prefix_as o) path way (addr_as hop) (addr_as next) e in
    let z : path ≡ way = put_path (via_as q) (via_as r) (prefix_as p) (prefix_as o) path way (addr_as hop) (addr_as next) e in
    let ways : code_via_cmp q r ≡ Equal = is_equal (code_via_cmp q r) (via_same q r ∙ (ap (same_via (via_as q)) (sym x) ∙ via_key.itself (via_as q))) in
    let prefixes : code_cmp p o ≡ Equal = is_equal (code_cmp p o) (prefix_same p o ∙ (ap (same_prefix (prefix_as p)) (sym y) ∙ prefix_key.itself (prefix_as p))) in
    let path_ties : nat_cmp path way ≡ Equal = ap (nat_cmp path) (sym z) ∙ tied_itself nat_cmp_total path in (
      key_tied (record { via = q; prefix = p }) (record { via = r; prefix = o }) prefixes ways,
      ap (λ w. ordering_then w (ordering_then (nat_cmp path way) (code_via_cmp q r))) prefixes ∙ (ap (λ w. ordering_then w (code_via_cmp q r)) path_ties ∙ ways),
    )
  where
    put_via : (q r : model.Via) (p o : Prefix) (m n : ℕ) (a b : Address) → model.Put q p m a ≡ model.Put r o n b → q ≡ r
    put_via q r p o m n a b i = cc

    put_prefix : (q r : model.Via) (p o : Prefix) (m n : ℕ) (a b : Address) → model.Put q p m a ≡ model.Put r o n b → p ≡ o
    put_prefix q r p o m n a b i = cc

    put_path : (q r : model.Via) (p o : Prefix) (m n : ℕ) (a b : Address) → model.Put q p m a ≡ model.Put r o n b → m ≡ n
    put_path q r p o m n a b i = cc

-- ---- after it was carried out

-- an offer of one path ranks the same at path keys that the order doesn't tell apart
pub same_ranks : (s t : PathKey) (path : ℕ) → key_cmp s t ≡ Equal → rank_cmp (rank_at s path) (rank_at t path) ≡ Equal
same_ranks s t path e =
    ap (λ w. ordering_then w (ordering_then (nat_cmp path path) (code_via_cmp s.via t.via))) (tied_prefix s t e) ∙ (ap (λ w. ordering_then w (code_via_cmp s.via t.via)) (tied_itself nat_cmp_total path) ∙ tied_via s t e)

-- what is offered elsewhere keeps its rank, and what is offered here has one
pub indexed_here : (old new : Paths) (ranks : List Rank) (here : PathKey) (o : Option PathAttrs) → ((attrs : PathAttrs) → o ≡ Some attrs → has_rank ranks (rank_at here attrs.path) ≡ true) → ((s : PathKey) → attrs_at new s ≡ cond (is_eq (key_cmp here s)) o (attrs_at old s)) → IsIndexed old ranks → IsIndexed new ranks
indexed_here old new ranks here o r h i = λ s attrs f. by_test s attrs (is_eq (key_cmp here s)) refl (sym (h s) ∙ f)
  where
    by_test : (s : PathKey) (attrs : PathAttrs) (d : Bool) → is_eq (key_cmp here s) ≡ d → cond d o (attrs_at old s) ≡ Some attrs → has_rank ranks (rank_at s attrs.path) ≡ true
    by_test s attrs false g f = i s attrs f
    by_test s attrs true g f =
        let k : Rank = rank_at here attrs.path in
        let l : Rank = rank_at s attrs.path in
        sym (any_by_test (is_at (rank_cmp k)) (is_at (rank_cmp l)) ranks (λ u. ap is_eq (rank_total.congr k l u (same_ranks here s attrs.path (is_equal (key_cmp here s) g))))) ∙ r attrs f

pub indexed_after : (old new : Paths) (ranks : List Rank) (e : Elem) → OfferHasRoom old ranks (Some e) → ((s : PathKey) → attrs_at new s ≡ cond (is_eq (key_cmp (key_in e) s)) (attrs_in e) (attrs_at old s)) → IsIndexed old ranks → IsIndexed new ranks
indexed_after old new ranks e r h i = indexed_here old new ranks (key_in e) (attrs_in e) (room_rank old ranks e r) h i

-- an offer whose rank was put
pub indexed_put : (old new : Paths) (before ranks : List Rank) (here : PathKey) (attrs : PathAttrs) (path : ℕ) (r : Rank) → path ≡ attrs.path → r ≡ rank_at here path → ((q : Rank) → has_rank ranks q ≡ cond (is_eq (rank_cmp r q)) true (has_rank before q)) → ((s : PathKey) → attrs_at new s ≡ cond (is_eq (key_cmp here s)) (Some attrs) (attrs_at old s)) → IsIndexed old before → IsIndexed new ranks
indexed_put old new before ranks here attrs path r p e put h i = indexed_here old new ranks here (Some attrs) own h (more_ranks old before ranks r put i)
  where
    same_value : (v w : PathAttrs) → Some v ≡ Some w → v ≡ w
    same_value v w f = cc

    own : (o : PathAttrs) → Some attrs ≡ Some o → has_rank ranks (rank_at here o.path) ≡ true
    own o f =
        let same : r ≡ rank_at here o.path = e ∙ ap (rank_at here) (p ∙ ap (λ (v : PathAttrs). v.path) (same_value attrs o f)) in
        ap (has_rank ranks) (sym same) ∙ (put r ∙ ap (λ w. cond (is_eq w) true (has_rank before r)) (tied_itself rank_total r))

-- nothing is offered there any longer
pub indexed_cut : (old new : Paths) (ranks : List Rank) (here : PathKey) → ((s : PathKey) → attrs_at new s ≡ cond (is_eq (key_cmp here s)) None (attrs_at old s)) → IsIndexed old ranks → IsIndexed new ranks
indexed_cut old new ranks here h i = indexed_here old new ranks here None (λ attrs e. absurd cc) h i

-- ---- an offer set

pub set_at : (old new : Paths) (t : PathKey) (attrs : Option PathAttrs) → ((q : PathKey) → lookup (is_at (key_cmp q)) new ≡ cond (is_eq (key_cmp t q)) (Some attrs) (lookup (is_at (key_cmp q)) old)) → (s : PathKey) → attrs_at new s ≡ cond (is_eq (key_cmp t s)) attrs (attrs_at old s)
set_at old new t attrs h s = ap flat (h s) ∙ by_test (is_eq (key_cmp t s))
  where
    by_test : (d : Bool) → flat (cond d (Some attrs) (lookup (is_at (key_cmp s)) old)) ≡ cond d attrs (attrs_at old s)
    by_test true = refl
    by_test false = refl

pub cut_at : (old new : Paths) (t : PathKey) (attrs : Option PathAttrs) (b : Bool) → is_some attrs ≡ not b → b ≡ true → ((q : PathKey) → lookup (is_at (key_cmp q)) new ≡ cond (is_eq (key_cmp t q)) None (lookup (is_at (key_cmp q)) old)) → (s : PathKey) → attrs_at new s ≡ cond (is_eq (key_cmp t s)) attrs (attrs_at old s)
cut_at old new t (Some attrs) b e u h s = let x : true ≡ not b = e in absurd cc
cut_at old new t None b e u h s = ap flat (h s) ∙ by_test (is_eq (key_cmp t s))
  where
    by_test : (d : Bool) → flat (cond d None (lookup (is_at (key_cmp s)) old)) ≡ cond d None (attrs_at old s)
    by_test true = refl
    by_test false = refl

pub set_in : (old new : Paths) (e : Elem) (s : PathKey) (attrs : Option PathAttrs) → s ≡ key_in e → attrs ≡ attrs_in e → ((t : PathKey) → attrs_at new t ≡ cond (is_eq (key_cmp s t)) attrs (attrs_at old t)) → (t : PathKey) → attrs_at new t ≡ cond (is_eq (key_cmp (key_in e) t)) (attrs_in e) (attrs_at old t)
set_in old new e s attrs a b h t = h t ∙ (ap (λ x. cond (is_eq (key_cmp x t)) attrs (attrs_at old t)) a ∙ ap (λ x. cond (is_eq (key_cmp (key_in e) t)) x (attrs_at old t)) b)

pub has_its_key : (paths : Paths) (ranks : List Rank) (e : Elem) (s : PathKey) (o : Option PathAttrs) → s ≡ key_in e → o ≡ attrs_in e → OfferHasRoom paths ranks (Some e) → (attrs : PathAttrs) → o ≡ Some attrs → IsSome (lookup (is_at (key_cmp s)) paths)
has_its_key paths ranks e s o a b r attrs h = subst (λ t. IsSome (lookup (is_at (key_cmp t)) paths)) (sym a) (room_key paths ranks e r attrs (sym b ∙ h))
