-- The routes of all prefixes that rows and ranks have are all routes.
use Rattle.std.proofs.Common.{append_assoc, ◌+◌, ◌≡◌, ◌<◌, ◌≤◌, ℕ, zero, suc, length, List, [], ◌∷◌, ◌++◌, Bool, true, false, cond, Option, Some, None, refl, sym, ap, subst, ◌∙◌, arith, append-nil}
use Rattle.std.specs.Prelude.{option_map, map, ◌||◌, slice_get}
use Rattle.std.specs.List.{AllByRecursion, list_any}
use Rattle.std.specs.List.Sorted.{IsStrictlySortedBy}
use Rattle.std.specs.Map.{lookup, keys_of}
use Rattle.std.specs.Ordering.{is_eq}
use Rattle.std.specs.BTreeMap.{is_at}
use Rattle.std.specs.declared.cmp.Ordering.TheVariants.{Less, Equal}
use Rattle.table_model.specs.Address.{Address, Prefix, IsPrefix, same_prefix}
use Rattle.table_model.specs.Order.{prefix_cmp}
use Rattle.table_model.proofs.SamePrefix.{same_prefix_is, same_prefix_itself}
use Rattle.fib_addr.specs.Views.{addr_as, prefix_as, route_as}
use Rattle.fib_addr.specs.Order.{code_cmp}
use Rattle.fib_addr.specs.declared.addr.Addr.{Addr}
use Rattle.fib_addr.specs.declared.prefix.Prefix as code
use Rattle.fib_addr.proofs.Ordering.{cmp_is}
use Rattle.route_model.specs.Choice as model
use Rattle.route_model.specs.Choice.{Place, Candidates, IsPlace, IsHeld, chosen_for, chosen_in, routes_of, is_chosen}
use Rattle.route_model.proofs.Keyed.{same_entries, all_filter}
use Rattle.route_model.proofs.Places.{prefix_key}
use Rattle.route_model.proofs.Choices.{routes_sorted, chosen_for-none}
use Rattle.adj_rib_in.specs.declared.keys.PathKey.{PathKey}
use Rattle.adj_rib_in.specs.declared.keys.Rank.{Rank}
use Rattle.adj_rib_in.specs.declared.keys.PathAttrs.{PathAttrs}
use Rattle.adj_rib_in.specs.declared.keys.Candidate.{Candidate}
use Rattle.adj_rib_in.specs.declared.rows.Row.{Row}
use Rattle.adj_rib_in.specs.declared.flat.Flat.{Flat}
use Rattle.adj_rib_in.specs.Orders.{key_cmp, rank_cmp}
use Rattle.adj_rib_in.specs.Paths.{Paths, held_in, attrs_at, rank_at}
use Rattle.adj_rib_in.specs.Flat.{IsFlat, IsRowPlace, flat_paths, paths_over}
use Rattle.adj_rib_in.specs.Bests.{IsBestHeld}
use Rattle.adj_rib_in.proofs.Orders.{prefix_same, is_prefix, is_equal, prefix_total}
use Rattle.adj_rib_in.proofs.Views.{are_candidates}
use Rattle.adj_rib_in.proofs.Holds.{code_of, HasCode}
use Rattle.adj_rib_in.proofs.Parts.{attrs_over}
use Rattle.adj_rib_in.proofs.Flats.{key_slot, key_parts, same_parts}
use Rattle.route_choice.specs.Paths.{IsIndexed}
use Rattle.route_choice.specs.Walks.{route_or, routes_at, has_prefix, HasRows, HasRanks, row_prefixes}
use Rattle.route_choice.proofs.Best.{same_rank, any_element}
use Rattle.route_choice.proofs.Choose.{chosen_best}
use Rattle.route_choice.proofs.Rooms.{any_by_test}

abbrev pub Routes : Type 0
Routes = List (Prefix × Address)

-- ---- routes one after another

pub routes_more : (paths : Paths) (ps qs : List code.Prefix) → routes_at paths (ps ++ qs) ≡ routes_at paths ps ++ routes_at paths qs
unfolding routes_at
routes_more paths [] qs = refl
routes_more paths (p ∷ ps) qs = by_hop (chosen_for (held_in paths) (prefix_as p)) (routes_more paths ps qs)
  where
    by_hop : (o : Option Address) → routes_at paths (ps ++ qs) ≡ routes_at paths ps ++ routes_at paths qs → route_or (prefix_as p) o (routes_at paths (ps ++ qs)) ≡ route_or (prefix_as p) o (routes_at paths ps) ++ routes_at paths qs
    by_hop None ih = ih
    by_hop (Some h) ih = ap (λ xs. (prefix_as p, h) ∷ xs) ih

-- the route of one prefix
pub one_route : (paths : Paths) (p : code.Prefix) (o : Option Address) → o ≡ chosen_for (held_in paths) (prefix_as p) → routes_at paths (p ∷ []) ≡ route_or (prefix_as p) o []
unfolding routes_at
one_route paths p o e = ap (λ x. route_or (prefix_as p) x []) (sym e)

map_more : (xs : List (code.Prefix × Addr)) (x : code.Prefix × Addr) → map route_as (xs ++ x ∷ []) ≡ map route_as xs ++ route_as x ∷ []
map_more [] x = refl
map_more (y ∷ ys) x = ap (λ zs. route_as y ∷ zs) (map_more ys x)

pub route_pushed : (paths : Paths) (p : code.Prefix) (best : Option Candidate) (c : Candidate) (hop : Addr) (old new : List (code.Prefix × Addr)) → IsBestHeld paths None p best → best ≡ Some c → hop ≡ c.attrs.hop → new ≡ old ++ (p, hop) ∷ [] → map route_as new ≡ map route_as old ++ routes_at paths (p ∷ [])
route_pushed paths p best c hop old new b e h n =
    let x : Some (addr_as c.attrs.hop) ≡ chosen_for (held_in paths) (prefix_as p) = chosen_best paths p (Some c) (subst (IsBestHeld paths None p) e b) in
    ap (map route_as) n ∙ (map_more old (p, hop) ∙ (ap (λ a. map route_as old ++ (prefix_as p, addr_as a) ∷ []) h ∙ ap (λ xs. map route_as old ++ xs) (sym (one_route paths p (Some (addr_as c.attrs.hop)) x))))

pub no_route : (paths : Paths) (p : code.Prefix) (best : Option Candidate) (old : List (code.Prefix × Addr)) → IsBestHeld paths None p best → best ≡ None → map route_as old ≡ map route_as old ++ routes_at paths (p ∷ [])
no_route paths p best old b e =
    let x : None ≡ chosen_for (held_in paths) (prefix_as p) = chosen_best paths p None (subst (IsBestHeld paths None p) e b) in
    sym (ap (λ xs. map route_as old ++ xs) (one_route paths p None x) ∙ append-nil (map route_as old))

-- ---- all of them

abbrev among : Prefix → List code.Prefix → Bool
among at ps = list_any (λ q. same_prefix at (prefix_as q)) ps

at_prefix : (paths : Paths) (at : Prefix) (ps : List code.Prefix) → lookup (same_prefix at) (routes_at paths ps) ≡ cond (among at ps) (chosen_for (held_in paths) at) None
unfolding routes_at
at_prefix paths at [] = refl
at_prefix paths at (p ∷ ps) = by_test (same_prefix at (prefix_as p)) refl (chosen_for (held_in paths) (prefix_as p)) refl (at_prefix paths at ps)
  where
    rest : Routes
    rest = routes_at paths ps

    or_none : (b : Bool) (o : Option Address) → o ≡ None → cond b o None ≡ None
    or_none true o e = e
    or_none false o e = refl

    by_test : (t : Bool) → same_prefix at (prefix_as p) ≡ t → (o : Option Address) → chosen_for (held_in paths) (prefix_as p) ≡ o → lookup (same_prefix at) rest ≡ cond (among at ps) (chosen_for (held_in paths) at) None
        → lookup (same_prefix at) (route_or (prefix_as p) o rest) ≡ cond (t || among at ps) (chosen_for (held_in paths) at) None
    by_test true t (Some h) e ih = ap (λ b. cond b (Some h) (lookup (same_prefix at) rest)) t ∙ (sym e ∙ ap (chosen_for (held_in paths)) (sym (same_prefix_is at (prefix_as p) t)))
    by_test true t None e ih =
        let x : chosen_for (held_in paths) at ≡ None = ap (chosen_for (held_in paths)) (same_prefix_is at (prefix_as p) t) ∙ e in
        ih ∙ (or_none (among at ps) (chosen_for (held_in paths) at) x ∙ sym x)
    by_test false t (Some h) e ih = ap (λ b. cond b (Some h) (lookup (same_prefix at) rest)) t ∙ ih
    by_test false t None e ih = ih

all_below : (paths : Paths) (P : Prefix → Type 0) (ps : List code.Prefix) → AllByRecursion (λ q. P (prefix_as q)) ps → AllByRecursion P (keys_of (routes_at paths ps))
unfolding routes_at
all_below paths P [] a = tt
all_below paths P (p ∷ ps) a = by_hop (chosen_for (held_in paths) (prefix_as p)) (all_below paths P ps a.1)
  where
    by_hop : (o : Option Address) → AllByRecursion P (keys_of (routes_at paths ps)) → AllByRecursion P (keys_of (route_or (prefix_as p) o (routes_at paths ps)))
    by_hop None ih = ih
    by_hop (Some h) ih = (a.0, ih)

less_as : (p : code.Prefix) (ps : List code.Prefix) → AllByRecursion (λ q. code_cmp p q ≡ Less) ps → AllByRecursion (λ q. prefix_cmp (prefix_as p) (prefix_as q) ≡ Less) ps
less_as p [] a = tt
less_as p (q ∷ ps) a = (sym (cmp_is p q) ∙ a.0, less_as p ps a.1)

in_order : (paths : Paths) (ps : List code.Prefix) → IsStrictlySortedBy code_cmp ps → IsStrictlySortedBy prefix_cmp (keys_of (routes_at paths ps))
unfolding IsStrictlySortedBy routes_at
in_order paths [] s = tt
in_order paths (p ∷ ps) s = by_hop (chosen_for (held_in paths) (prefix_as p)) (in_order paths ps s.1)
  where
    by_hop : (o : Option Address) → IsStrictlySortedBy prefix_cmp (keys_of (routes_at paths ps)) → IsStrictlySortedBy prefix_cmp (keys_of (route_or (prefix_as p) o (routes_at paths ps)))
    by_hop None ih = ih
    by_hop (Some h) ih = (all_below paths (λ k. prefix_cmp (prefix_as p) k ≡ Less) ps (less_as p ps s.0), ih)

all_prefixes : (ps : List code.Prefix) → AllByRecursion (λ q. IsPrefix (prefix_as q)) ps
all_prefixes [] = tt
all_prefixes (p ∷ ps) = (is_prefix p, all_prefixes ps)

prefixes_of : (cs : Candidates) → AllByRecursion IsPlace (keys_of cs) → AllByRecursion IsPrefix (keys_of (map (λ c. (c.0.prefix, c.1.hop)) cs))
prefixes_of [] a = tt
prefixes_of (c ∷ cs) a = (a.0.0, prefixes_of cs a.1)

-- each prefix with a candidate is among these
abbrev pub Covers : Paths → List code.Prefix → Type 0
Covers paths ps = (s : PathKey) (o : PathAttrs) → attrs_at paths s ≡ Some o → has_prefix ps s.prefix ≡ true

among_is : (s : code.Prefix) (ps : List code.Prefix) → has_prefix ps s ≡ among (prefix_as s) ps
among_is s ps = any_by_test (is_at (code_cmp s)) (λ q. same_prefix (prefix_as s) (prefix_as q)) ps (λ q. prefix_same s q)

pub routes_are : (paths : Paths) (ps : List code.Prefix) → IsStrictlySortedBy code_cmp ps → Covers paths ps → routes_at paths ps ≡ routes_of (held_in paths)
routes_are paths ps s covers =
    same_entries prefix_key (routes_at paths ps) (routes_of held) (in_order paths ps s) (routes_sorted held (are_candidates paths)) (all_below paths IsPrefix ps (all_prefixes ps)) (prefixes_of (chosen_in held) (all_filter (is_chosen held) IsPlace held (are_candidates paths).0))
    (λ at. at_prefix paths at ps ∙ by_any at (among at ps) refl)
  where
    held : Candidates
    held = held_in paths

    there : (at : Prefix) (d : Place × model.PathAttrs) → IsHeld held d → same_prefix at d.0.prefix ≡ true → among at ps ≡ true
    there at d h m =
        let c : HasCode paths d = code_of paths d h in
        ap (λ q. among q ps) (same_prefix_is at d.0.prefix m ∙ ap (λ (q : Place). q.prefix) (sym c.place)) ∙ (sym (among_is c.key.prefix ps) ∙ covers c.key c.attrs c.here)

    by_any : (at : Prefix) (b : Bool) → among at ps ≡ b → cond b (chosen_for held at) None ≡ chosen_for held at
    by_any at true t = refl
    by_any at false t = sym (chosen_for-none held at (are_candidates paths) (λ d h. by_test d h (same_prefix at d.0.prefix) refl))
      where
        by_test : (d : Place × model.PathAttrs) → IsHeld held d → (m : Bool) → same_prefix at d.0.prefix ≡ m → m ≡ false
        by_test d h true m = let x : among at ps ≡ true = there at d h m in absurd cc
        by_test d h false m = refl

-- ---- the prefixes of rows and ranks are all

alike : (ps : List code.Prefix) (p q : code.Prefix) → code_cmp p q ≡ Equal → has_prefix ps p ≡ has_prefix ps q
alike ps p q e = any_by_test (is_at (code_cmp p)) (is_at (code_cmp q)) ps (λ k. ap is_eq (prefix_total.congr p q k e))

pub covered : (b : Flat) (over : Paths) (ranks : List Rank) (ps : List code.Prefix) → IsIndexed over ranks → HasRows b.rows.items ps → HasRanks ranks ps → Covers (paths_over b over) ps
covered b over ranks ps i rows has s o e = by_slot (lookup (is_at (key_cmp s)) (flat_paths b)) refl
  where
    by_slot : (x : Option (Option PathAttrs)) → lookup (is_at (key_cmp s)) (flat_paths b) ≡ x → has_prefix ps s.prefix ≡ true
    by_slot (Some x) f =
        let y = key_slot b.rows.items b.peers.keys b.hops.keys s b.rows.slots x f in
        let p = key_parts b.rows.items b.peers.keys y.1 y.2 y.4 in
        let k : code_cmp s.prefix p.row.prefix ≡ Equal = ap (λ (t : PathKey). code_cmp s.prefix t.prefix) p.is ∙ (same_parts s y.2 y.5).prefix in
        alike ps s.prefix p.row.prefix k ∙ rows y.1.row p.row p.row_there
    by_slot None f =
        let own : Rank = rank_at s o.path in
        let there = i s o (sym (attrs_over s (flat_paths b) over f) ∙ e) in
        let r = any_element (is_at (rank_cmp own)) (λ r. has_prefix ps r.prefix ≡ true) ranks there has in
        alike ps s.prefix r.0.prefix (same_rank own r.0 r.1).prefix ∙ r.2

-- ---- rows alone

rows_there : (rows : List Row) (i : ℕ) (row : Row) → slice_get rows i ≡ Some row → has_prefix (row_prefixes rows) row.prefix ≡ true
rows_there [] i row e = absurd cc
rows_there (r ∷ rows) zero row e = ap (λ b. b || has_prefix (row_prefixes rows) row.prefix) (ap (λ (k : Row). is_eq (code_cmp row.prefix k.prefix)) (same_row r row e) ∙ ap is_eq (tied row.prefix))
  where
    same_row : (v w : Row) → Some v ≡ Some w → v ≡ w
    same_row v w h = cc

    tied : (p : code.Prefix) → code_cmp p p ≡ Equal
    tied p = is_equal _ (prefix_same p p ∙ same_prefix_itself (prefix_as p))
rows_there (r ∷ rows) (suc i) row e = right (is_eq (code_cmp row.prefix r.prefix)) (rows_there rows i row e)
  where
    right : (a : Bool) → has_prefix (row_prefixes rows) row.prefix ≡ true → (a || has_prefix (row_prefixes rows) row.prefix) ≡ true
    right true h = refl
    right false h = h

pub all_rows : (rows : List Row) → HasRows rows (row_prefixes rows)
all_rows rows i row e = rows_there rows i row e

pub rows_sorted : (rows : List Row) → ((i j : ℕ) (r t : Row) → i < j → slice_get rows i ≡ Some r → slice_get rows j ≡ Some t → code_cmp r.prefix t.prefix ≡ Less) → IsStrictlySortedBy code_cmp (row_prefixes rows)
unfolding IsStrictlySortedBy
rows_sorted [] h = tt
rows_sorted (r ∷ rows) h = (behind rows (λ j t g. h 0 (suc j) r t (omega arith) refl g), rows_sorted rows (λ i j s t l f g. h (suc i) (suc j) s t (omega (arith, l)) f g))
  where
    behind : (ts : List Row) → ((j : ℕ) (t : Row) → slice_get ts j ≡ Some t → code_cmp r.prefix t.prefix ≡ Less) → AllByRecursion (λ p. code_cmp r.prefix p ≡ Less) (row_prefixes ts)
    behind [] k = tt
    behind (t ∷ ts) k = (k 0 t refl, behind ts (λ j u g. k (suc j) u g))

-- the prefixes of the rows below one
pub first_rows : ℕ → List Row → List code.Prefix
first_rows zero rows = []
first_rows (suc n) [] = []
first_rows (suc n) (r ∷ rows) = r.prefix ∷ first_rows n rows

pub no_rows : (rows : List Row) → first_rows 0 rows ≡ []
unfolding first_rows
no_rows rows = refl

abbrev pub prefix_or : Option Row → Option code.Prefix
prefix_or row = option_map (λ (r : Row). r.prefix) row

pub one_row_more : (rows : List Row) (n : ℕ) (p : code.Prefix) (o : Option Row) → slice_get rows n ≡ o → Some p ≡ prefix_or o → first_rows (n + 1) rows ≡ first_rows n rows ++ p ∷ []
unfolding first_rows
one_row_more rows n p o e h = subst (λ m. first_rows m rows ≡ first_rows n rows ++ p ∷ []) (suc_is n) (by_row rows n e)
  where
    suc_is : (n : ℕ) → suc n ≡ n + 1
    suc_is n = omega arith

    by_row : (rows : List Row) (n : ℕ) → slice_get rows n ≡ o → first_rows (suc n) rows ≡ first_rows n rows ++ p ∷ []
    by_row [] n f = let x : Some p ≡ None = h ∙ ap prefix_or (sym f) in absurd cc
    by_row (r ∷ rows) zero f = let x : Some p ≡ Some r.prefix = h ∙ ap prefix_or (sym f) in ap (λ q. q ∷ []) (sym (same_prefixes p r.prefix x))
      where
        same_prefixes : (v w : code.Prefix) → Some v ≡ Some w → v ≡ w
        same_prefixes v w i = cc
    by_row (r ∷ rows) (suc n) f = ap (λ xs. r.prefix ∷ xs) (by_row rows n f)

pub past_rows : (rows : List Row) (n : ℕ) → length rows ≤ n → first_rows n rows ≡ row_prefixes rows
unfolding first_rows
past_rows [] zero l = refl
past_rows [] (suc n) l = refl
past_rows (r ∷ rows) zero l = absurd (omega (arith, l))
past_rows (r ∷ rows) (suc n) l = ap (λ xs. r.prefix ∷ xs) (past_rows rows n (omega (arith, l)))

-- ---- walks over prefixes and rows

pub prefix_told : (paths : Paths) (old new whole : Routes) (p : code.Prefix) (it rest : List code.Prefix) → it ≡ p ∷ rest → new ≡ old ++ routes_at paths (p ∷ []) → old ++ routes_at paths it ≡ whole → new ++ routes_at paths rest ≡ whole
prefix_told paths old new whole p it rest i n h =
    ap (λ xs. xs ++ routes_at paths rest) n
    ∙ (append_assoc old (routes_at paths (p ∷ [])) (routes_at paths rest) ∙ (ap (λ xs. old ++ xs) (sym (routes_more paths (p ∷ []) rest)) ∙ (ap (λ ps. old ++ routes_at paths ps) (sym i) ∙ h)))

pub all_told : (paths : Paths) (old whole : Routes) (it : List code.Prefix) → it ≡ [] → old ++ routes_at paths it ≡ whole → old ≡ whole
unfolding routes_at
all_told paths old whole it i h = sym (append-nil old) ∙ (ap (λ ps. old ++ routes_at paths ps) (sym i) ∙ h)

-- a row that isn't there
pub no_row_here : (rows : List Row) (n : ℕ) → None ≡ prefix_or (slice_get rows n) → n < length rows → ⊥
no_row_here [] n e l = omega (arith, l)
no_row_here (r ∷ rows) zero e l = absurd cc
no_row_here (r ∷ rows) (suc n) e l = no_row_here rows n e (omega (arith, l))

-- the row of a number is that of its prefix
pub is_row : (rows : List Row) (n : ℕ) (p : code.Prefix) → Some p ≡ prefix_or (slice_get rows n) → IsRowPlace rows p n
is_row rows n p e = by_slot (slice_get rows n) refl e
  where
    by_slot : (o : Option Row) → slice_get rows n ≡ o → Some p ≡ prefix_or o → IsRowPlace rows p n
    by_slot None r f = cc
    by_slot (Some row) r f =
        let same : p ≡ row.prefix = cc in
        (row, r, prefix_same p row.prefix ∙ (ap (λ (q : code.Prefix). same_prefix (prefix_as p) (prefix_as q)) (sym same) ∙ same_prefix_itself (prefix_as p)))

pub row_route : (paths : Paths) (rows : List Row) (n : ℕ) (old new : Routes) (p : code.Prefix) → Some p ≡ prefix_or (slice_get rows n) → new ≡ old ++ routes_at paths (p ∷ []) → old ≡ routes_at paths (first_rows n rows) → new ≡ routes_at paths (first_rows (n + 1) rows)
row_route paths rows n old new p e h told =
    h ∙ (ap (λ xs. xs ++ routes_at paths (p ∷ [])) told ∙ (sym (routes_more paths (first_rows n rows) (p ∷ [])) ∙ ap (routes_at paths) (sym (one_row_more rows n p (slice_get rows n) refl e))))

pub rows_start : (paths : Paths) (rows : List Row) (routes : List (code.Prefix × Addr)) → routes ≡ [] → map route_as routes ≡ routes_at paths (first_rows 0 rows)
unfolding routes_at first_rows
rows_start paths rows routes e = ap (map route_as) e

pub rows_end : (paths : Paths) (rows : List Row) (n : ℕ) (routes : Routes) → length rows ≤ n → routes ≡ routes_at paths (first_rows n rows) → routes ≡ routes_at paths (row_prefixes rows)
rows_end paths rows n routes l h = h ∙ ap (routes_at paths) (past_rows rows n l)

-- ---- both ways to all routes

pub by_rows : (b : Flat) (over : Paths) (ranks : List Rank) (routes : Routes) → IsFlat b → IsIndexed over ranks → ranks ≡ [] → routes ≡ routes_at (paths_over b over) (row_prefixes b.rows.items) → routes ≡ routes_of (held_in (paths_over b over))
by_rows b over ranks routes f i e h = h ∙ routes_are (paths_over b over) (row_prefixes b.rows.items) (rows_sorted b.rows.items f.ordered) (covered b over ranks (row_prefixes b.rows.items) i (all_rows b.rows.items) (subst (λ rs. HasRanks rs (row_prefixes b.rows.items)) (sym e) tt))

pub by_prefixes : (b : Flat) (over : Paths) (ranks : List Rank) (ps read : List code.Prefix) (routes : Routes) → IsIndexed over ranks → HasRows b.rows.items ps → HasRanks ranks ps → IsStrictlySortedBy code_cmp ps → read ≡ ps → routes ≡ routes_at (paths_over b over) read → routes ≡ routes_of (held_in (paths_over b over))
by_prefixes b over ranks ps read routes i rows has s e h = h ∙ (ap (routes_at (paths_over b over)) e ∙ routes_are (paths_over b over) ps s (covered b over ranks ps i rows has))

pub no_elements : {X : Type 0} (xs : List X) → length xs ≡ 0 → xs ≡ []
no_elements [] e = refl
no_elements (x ∷ xs) e = absurd (omega (arith, e))
