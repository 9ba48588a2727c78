-- Steps of the walks over ranks and path keys.
use Rattle.std.proofs.Common.{◌≡◌, List, [], ◌∷◌, ◌++◌, Bool, true, false, cond, not, Option, Some, None, nat_eq, refl, sym, ap, subst, ◌∙◌, append_assoc, append-nil}
use Rattle.std.specs.Prelude.{if◌then◌else◌, filter, ◌&&◌, is_some}
use Rattle.std.specs.List.{AllByRecursion}
use Rattle.std.specs.List.Sorted.{IsStrictlySortedBy}
use Rattle.std.specs.Map.{keys_of}
use Rattle.std.specs.Ordering.{nat_cmp, ordering_then, is_eq, is_le, is_gt}
use Rattle.std.specs.declared.cmp.Ordering.{Ordering}
use Rattle.std.specs.declared.cmp.Ordering.TheVariants.{Less, Equal, Greater}
use Rattle.std.proofs.lemmas.Bool.{not-true, not-false}
use Rattle.std.proofs.lemmas.Cmp.{alike_right}
use Rattle.table_model.specs.contracts.family.Family.{the_type}
use Rattle.fib_prefix.specs.contracts.event.ViaPartialEq.TheImpl as via_same
use Rattle.fib_addr.specs.contracts.prefix.PrefixPartialEq.TheImpl as prefix_same
use Rattle.std.specs.Option.{option_eq}
use Rattle.fib_addr.specs.Order.{code_cmp}
use Rattle.fib_addr.specs.declared.prefix.Prefix as code
use Rattle.fib_prefix.specs.declared.event.Peer.{Peer}
use Rattle.fib_prefix.specs.declared.event.Via.{Via}
use Rattle.fib_prefix.specs.declared.event.Elem.{Elem}
use Rattle.fib_prefix.specs.declared.event.Elem.TheVariants.{Cut}
use Rattle.adj_rib_in.specs.declared.keys.PathKey.{PathKey}
use Rattle.adj_rib_in.specs.declared.keys.Rank.{Rank}
use Rattle.adj_rib_in.specs.declared.keys.PathAttrs.{PathAttrs}
use Rattle.adj_rib_in.specs.Orders.{key_cmp, rank_cmp}
use Rattle.fib_prefix.specs.Order.{code_peer_cmp, code_via_cmp}
use Rattle.adj_rib_in.specs.Paths.{Paths}
use Rattle.route_choice.specs.Walks.{ranks_of, paths_of, attrs_ranked, or_next, first_in, cuts_in}
use Rattle.adj_rib_in.specs.Bests.{is_excluded}
use Rattle.adj_rib_in.proofs.Orders.{prefix_total, peer_total}
use denote.Enum.Bare.{sameb}
use Rattle.adj_rib_in.proofs.Equals.{via_eq, prefix_eq, peer_eq}
use Rattle.adj_rib_in.proofs.Orders.{is_equal}

-- ---- the code's tests of equality say what its orders do

-- and so do its tests of what there may be
module _ (but : Option Via) (p q : Via) (b : Bool) (test : b ≡ not (option_eq (via_same.ghosts).eq but (Some p))) (own : p ≡ q) where
  ne_out : (o : Option Via) → not (option_eq (via_same.ghosts).eq o (Some p)) ≡ not (is_excluded o q)
  ne_out None = refl
  ne_out (Some r) = ap not (via_eq r p ∙ ap (λ x. is_eq (code_via_cmp r x)) own)

  pub stays_in : b ≡ true → is_excluded but q ≡ false
  stays_in t = not-true _ (sym (test ∙ ne_out but) ∙ t)

  pub left_out : b ≡ false → is_excluded but q ≡ true
  left_out t = not-false _ (sym (test ∙ ne_out but) ∙ t)

-- whether this is the prefix that came last
abbrev pub last_is : Option code.Prefix → code.Prefix → Bool
last_is None p = false
last_is (Some last) p = is_eq (code_cmp last p)

module _ (last : Option code.Prefix) (p q : code.Prefix) (b : Bool) (test : b ≡ not (option_eq (prefix_same.ghosts).eq last (Some p))) (own : p ≡ q) where
  ne_last : (o : Option code.Prefix) → not (option_eq (prefix_same.ghosts).eq o (Some p)) ≡ not (last_is o q)
  ne_last None = refl
  ne_last (Some r) = ap not (prefix_eq r p ∙ ap (λ x. is_eq (code_cmp r x)) own)

  pub comes_new : b ≡ true → last_is last q ≡ false
  comes_new t = not-true _ (sym (test ∙ ne_last last) ∙ t)

  pub comes_again : b ≡ false → last_is last q ≡ true
  comes_again t = not-false _ (sym (test ∙ ne_last last) ∙ t)

-- ---- parts of lists

pub filter_congr : {K : Type 0} (p q : K → Bool) (ks : List K) → ((k : K) → p k ≡ q k) → filter p ks ≡ filter q ks
filter_congr p q [] h = refl
filter_congr {K = K} p q (k ∷ ks) h = ap (λ b. cond b (k ∷ filter p ks) (filter p ks)) (h k) ∙ ap (λ (xs : List K). cond (q k) (k ∷ xs) xs) (filter_congr p q ks h)

filter_part : {K : Type 0} (p q : K → Bool) (ks : List K) → ((k : K) → p k ≡ true → q k ≡ true) → filter p (filter q ks) ≡ filter p ks
filter_part p q [] h = refl
filter_part {K = K} p q (k ∷ ks) h = by_test (q k) refl (p k) refl (filter_part p q ks h)
  where
    by_test : (d : Bool) → q k ≡ d → (b : Bool) → p k ≡ b → filter p (filter q ks) ≡ filter p ks → filter p (cond d (k ∷ filter q ks) (filter q ks)) ≡ cond b (k ∷ filter p ks) (filter p ks)
    by_test true t true u ih = ap (λ b. cond b (k ∷ filter p (filter q ks)) (filter p (filter q ks))) u ∙ ap (λ xs. k ∷ xs) ih
    by_test true t false u ih = ap (λ b. cond b (k ∷ filter p (filter q ks)) (filter p (filter q ks))) u ∙ ih
    by_test false t true u ih = let x : q k ≡ true = h k u in absurd cc
    by_test false t false u ih = ih

filter_none : {K : Type 0} (p : K → Bool) (ks : List K) → AllByRecursion (λ k. p k ≡ false) ks → filter p ks ≡ []
filter_none p [] a = refl
filter_none p (k ∷ ks) a = ap (λ b. cond b (k ∷ filter p ks) (filter p ks)) a.0 ∙ filter_none p ks a.1

all_filtered : {K : Type 0} (p : K → Bool) (Q : K → Type 0) (ks : List K) → ((k : K) → p k ≡ true → Q k) → AllByRecursion Q (filter p ks)
all_filtered p Q [] h = tt
all_filtered p Q (k ∷ ks) h = by_test (p k) refl (all_filtered p Q ks h)
  where
    by_test : (b : Bool) → p k ≡ b → AllByRecursion Q (filter p ks) → AllByRecursion Q (cond b (k ∷ filter p ks) (filter p ks))
    by_test true t ih = (h k t, ih)
    by_test false t ih = ih

pub all_kept : {K : Type 0} (p : K → Bool) (Q : K → Type 0) (ks : List K) → AllByRecursion Q ks → AllByRecursion Q (filter p ks)
all_kept p Q [] a = tt
all_kept p Q (k ∷ ks) a = by_test (p k) (all_kept p Q ks a.1)
  where
    by_test : (b : Bool) → AllByRecursion Q (filter p ks) → AllByRecursion Q (cond b (k ∷ filter p ks) (filter p ks))
    by_test true ih = (a.0, ih)
    by_test false ih = ih

pub sorted_kept : {K : Type 0} (R : K → K → Ordering) (p : K → Bool) (ks : List K) → IsStrictlySortedBy R ks → IsStrictlySortedBy R (filter p ks)
unfolding IsStrictlySortedBy
sorted_kept R p [] s = tt
sorted_kept R p (k ∷ ks) s = by_test (p k) (sorted_kept R p ks s.1)
  where
    by_test : (b : Bool) → IsStrictlySortedBy R (filter p ks) → IsStrictlySortedBy R (cond b (k ∷ filter p ks) (filter p ks))
    by_test true ih = (all_kept p (λ r. R k r ≡ Less) ks s.0, ih)
    by_test false ih = ih

-- ---- the walk over a prefix's ranks

-- at the first rank that isn't below the least of the prefix
not_above : (a b : Ordering) → is_gt (ordering_then a b) ≡ false → is_gt a ≡ false
not_above Less b e = refl
not_above Equal b e = refl
not_above Greater b e = e

from_least : (a : Bool) → (a && not false) ≡ a
from_least true = refl
from_least false = refl

le_is : (o : Ordering) → is_le o ≡ true → is_gt o ≡ false
le_is Less e = refl
le_is Equal e = refl
le_is Greater e = cc

is_le_from : (o : Ordering) → is_gt o ≡ false → is_le o ≡ true
is_le_from Less e = refl
is_le_from Equal e = refl
is_le_from Greater e = cc

abbrev pub ranks_from : Rank → List Rank → List Rank
ranks_from least ranks = filter (λ r. is_le (rank_cmp least r) && not false) ranks

pub from_above : (p : code.Prefix) (least : Rank) (ranks : List Rank) → least.prefix ≡ p → AllByRecursion (λ r. is_gt (code_cmp p r.prefix) ≡ false) (ranks_from least ranks)
from_above p least ranks e = all_filtered (λ r. is_le (rank_cmp least r) && not false) (λ r. is_gt (code_cmp p r.prefix) ≡ false) ranks (λ r t. ap (λ q. is_gt (code_cmp q r.prefix)) (sym e) ∙ not_above (code_cmp least.prefix r.prefix) (ordering_then (nat_cmp least.path r.path) (code_via_cmp least.via r.via)) (le_is (rank_cmp least r) (sym (from_least (is_le (rank_cmp least r))) ∙ t)))

pub from_same : (p : code.Prefix) (least : Rank) (ranks : List Rank) → ((r : Rank) → code_cmp p r.prefix ≡ Equal → is_gt (rank_cmp least r) ≡ false) → ranks_of p (ranks_from least ranks) ≡ ranks_of p ranks
from_same p least ranks h = filter_part (λ r. is_eq (code_cmp p r.prefix)) (λ r. is_le (rank_cmp least r) && not false) ranks (λ r t. from_least (is_le (rank_cmp least r)) ∙ is_le_from (rank_cmp least r) (h r (is_equal (code_cmp p r.prefix) t)))

-- past the prefix nothing is left
pub past_it : (p : code.Prefix) (r : Rank) (rest : List Rank) → IsStrictlySortedBy rank_cmp (r ∷ rest) → is_gt (code_cmp p r.prefix) ≡ false → is_eq (code_cmp p r.prefix) ≡ false → ranks_of p (r ∷ rest) ≡ []
unfolding IsStrictlySortedBy
past_it p r rest s g n = by_order (code_cmp p r.prefix) refl g n
  where
    later : code_cmp p r.prefix ≡ Less → (rs : List Rank) → AllByRecursion (λ t. rank_cmp r t ≡ Less) rs → AllByRecursion (λ t. is_eq (code_cmp p t.prefix) ≡ false) rs
    later e [] a = tt
    later e (t ∷ rs) a = (by_next (code_cmp r.prefix t.prefix) refl a.0, later e rs a.1)
      where
        by_next : (o : Ordering) → code_cmp r.prefix t.prefix ≡ o → ordering_then o (ordering_then (nat_cmp r.path t.path) (code_via_cmp r.via t.via)) ≡ Less → is_eq (code_cmp p t.prefix) ≡ false
        by_next Less u l = ap is_eq (prefix_total.trans p r.prefix t.prefix e u)
        by_next Equal u l = ap is_eq (sym (alike_right prefix_total r.prefix t.prefix p u) ∙ e)
        by_next Greater u l = absurd cc

    by_order : (o : Ordering) → code_cmp p r.prefix ≡ o → is_gt o ≡ false → is_eq o ≡ false → ranks_of p (r ∷ rest) ≡ []
    by_order Less e g n = filter_none (λ t. is_eq (code_cmp p t.prefix)) (r ∷ rest) (ap is_eq e, later e rest s.0)
    by_order Equal e g n = absurd cc
    by_order Greater e g n = absurd cc

-- at a rank of the prefix
pub at_rank : (paths : Paths) (but : Option Via) (p : code.Prefix) (r : Rank) (rest : List Rank) → is_eq (code_cmp p r.prefix) ≡ true → first_in paths but (ranks_of p (r ∷ rest)) ≡ (if is_excluded but r.via then first_in paths but (ranks_of p rest) else or_next r.via (attrs_ranked paths r) (first_in paths but (ranks_of p rest)))
unfolding first_in
at_rank paths but p r rest e = ap (λ b. first_in paths but (cond b (r ∷ ranks_of p rest) (ranks_of p rest))) e

pub nothing_in : (paths : Paths) (but : Option Via) → first_in paths but [] ≡ None
unfolding first_in
nothing_in paths but = refl

pub record AtRanks (paths : Paths) (but : Option Via) (p : code.Prefix) (ranks rest : List Rank) : Type 0 where
  pub ordered : IsStrictlySortedBy rank_cmp ranks
  pub sorted : IsStrictlySortedBy rank_cmp rest
  pub above : AllByRecursion (λ r. is_gt (code_cmp p r.prefix) ≡ false) rest
  pub found : first_in paths but (ranks_of p ranks) ≡ first_in paths but (ranks_of p rest)

pub walk_start : (paths : Paths) (but : Option Via) (p : code.Prefix) (least : Rank) (ranks items rest : List Rank) → IsStrictlySortedBy rank_cmp ranks → items ≡ ranks_from least ranks → rest ≡ items → least.prefix ≡ p → ((r : Rank) → code_cmp p r.prefix ≡ Equal → is_gt (rank_cmp least r) ≡ false) → AtRanks paths but p ranks rest
walk_start paths but p least ranks items rest s e f g h =
    let x : ranks_from least ranks ≡ rest = sym (f ∙ e) in
    record {
      ordered = s;
      sorted = subst (λ rs. IsStrictlySortedBy rank_cmp rs) x (sorted_kept rank_cmp (λ r. is_le (rank_cmp least r) && not false) ranks s);
      above = subst (λ rs. AllByRecursion (λ r. is_gt (code_cmp p r.prefix) ≡ false) rs) x (from_above p least ranks g);
      found = ap (first_in paths but) (sym (from_same p least ranks h)) ∙ ap (λ rs. first_in paths but (ranks_of p rs)) x;
    }

module _ (paths : Paths) (but : Option Via) (p : code.Prefix) (ranks it : List Rank) (r : Rank) (rest : List Rank) (at : AtRanks paths but p ranks it) (step : it ≡ r ∷ rest) (f : code.Prefix) (own : f ≡ r.prefix) (ne : Bool)
    (test : ne ≡ not ((prefix_same.ghosts).eq p f)) where
  here : AtRanks paths but p ranks (r ∷ rest)
  here = subst (λ rs. AtRanks paths but p ranks rs) step at

  differs : ne ≡ not (is_eq (code_cmp p r.prefix))
  differs = test ∙ (ap not (prefix_eq p f) ∙ ap (λ x. not (is_eq (code_cmp p x))) own)

  pub walk_past : ne ≡ true → None ≡ first_in paths but (ranks_of p ranks)
  walk_past t = sym (here.found ∙ (ap (first_in paths but) (past_it p r rest here.sorted here.above.0 (not-true _ (sym differs ∙ t))) ∙ nothing_in paths but))

  is_same : ne ≡ false → is_eq (code_cmp p r.prefix) ≡ true
  is_same t = not-false _ (sym differs ∙ t)

  pub walk_found : ne ≡ false → (out : Bool) → out ≡ is_excluded but r.via → out ≡ false → (o : Option PathAttrs) → o ≡ attrs_ranked paths r → (attrs : PathAttrs) → o ≡ Some attrs → Some (record { via = r.via; attrs = attrs }) ≡ first_in paths but (ranks_of p ranks)
  walk_found t out a b o c attrs d =
      sym (here.found ∙ (at_rank paths but p r rest (is_same t) ∙ (ap (λ x. if x then first_in paths but (ranks_of p rest) else or_next r.via (attrs_ranked paths r) (first_in paths but (ranks_of p rest))) (sym a ∙ b) ∙ ap (λ x. or_next r.via x (first_in paths but (ranks_of p rest))) (sym c ∙ d))))

  walk_on : first_in paths but (ranks_of p (r ∷ rest)) ≡ first_in paths but (ranks_of p rest) → AtRanks paths but p ranks rest
  unfolding IsStrictlySortedBy
  walk_on e = record { ordered = here.ordered; sorted = here.sorted.1; above = here.above.1; found = here.found ∙ e }

  pub walk_out : ne ≡ false → (out : Bool) → out ≡ is_excluded but r.via → out ≡ true → AtRanks paths but p ranks rest
  walk_out t out a b = walk_on (at_rank paths but p r rest (is_same t) ∙ ap (λ x. if x then first_in paths but (ranks_of p rest) else or_next r.via (attrs_ranked paths r) (first_in paths but (ranks_of p rest))) (sym a ∙ b))

  pub walk_none : ne ≡ false → (out : Bool) → out ≡ is_excluded but r.via → out ≡ false → (o : Option PathAttrs) → o ≡ attrs_ranked paths r → o ≡ None → AtRanks paths but p ranks rest
  walk_none t out a b o c d =
      walk_on (at_rank paths but p r rest (is_same t) ∙ (ap (λ x. if x then first_in paths but (ranks_of p rest) else or_next r.via (attrs_ranked paths r) (first_in paths but (ranks_of p rest))) (sym a ∙ b) ∙ ap (λ x. or_next r.via x (first_in paths but (ranks_of p rest))) (sym c ∙ d)))

pub walk_end : (paths : Paths) (but : Option Via) (p : code.Prefix) (ranks it : List Rank) → AtRanks paths but p ranks it → it ≡ [] → None ≡ first_in paths but (ranks_of p ranks)
walk_end paths but p ranks it at e = sym (at.found ∙ (ap (λ rs. first_in paths but (ranks_of p rs)) e ∙ nothing_in paths but))

-- ---- the walk over a peer's path keys

-- at the first path key that isn't below the least of the peer
abbrev paths_from : PathKey → Paths → Paths
paths_from least paths = filter (λ e. is_le (key_cmp least e.0) && not false) paths

-- path keys that aren't below a peer's
abbrev FromPeer : Peer → Paths → Type 0
FromPeer q paths = AllByRecursion (λ (e : PathKey × Option PathAttrs). is_gt (code_peer_cmp q e.0.via.peer) ≡ false) paths

keys_kept : (p : PathKey → Bool) (Q : PathKey → Type 0) (paths : Paths) → AllByRecursion Q (keys_of paths) → AllByRecursion Q (keys_of (filter (λ e. p e.0) paths))
keys_kept p Q [] a = tt
keys_kept p Q (e ∷ paths) a = by_test (p e.0) (keys_kept p Q paths a.1)
  where
    by_test : (b : Bool) → AllByRecursion Q (keys_of (filter (λ (e : PathKey × Option PathAttrs). p e.0) paths)) → AllByRecursion Q (keys_of (cond b (e ∷ filter (λ (e : PathKey × Option PathAttrs). p e.0) paths) (filter (λ (e : PathKey × Option PathAttrs). p e.0) paths)))
    by_test true ih = (a.0, ih)
    by_test false ih = ih

paths_sorted : (p : PathKey → Bool) (paths : Paths) → IsStrictlySortedBy key_cmp (keys_of paths) → IsStrictlySortedBy key_cmp (keys_of (filter (λ e. p e.0) paths))
unfolding IsStrictlySortedBy
paths_sorted p [] s = tt
paths_sorted p (e ∷ paths) s = by_test (p e.0) (paths_sorted p paths s.1)
  where
    by_test : (b : Bool) → IsStrictlySortedBy key_cmp (keys_of (filter (λ (e : PathKey × Option PathAttrs). p e.0) paths)) → IsStrictlySortedBy key_cmp (keys_of (cond b (e ∷ filter (λ (e : PathKey × Option PathAttrs). p e.0) paths) (filter (λ (e : PathKey × Option PathAttrs). p e.0) paths)))
    by_test true ih = (keys_kept p (λ t. key_cmp e.0 t ≡ Less) paths s.0, ih)
    by_test false ih = ih

-- past the peer nothing is left
past_peer : (q : Peer) (e : PathKey × Option PathAttrs) (rest : Paths) → IsStrictlySortedBy key_cmp (keys_of (e ∷ rest)) → is_gt (code_peer_cmp q e.0.via.peer) ≡ false → is_eq (code_peer_cmp q e.0.via.peer) ≡ false → paths_of q (e ∷ rest) ≡ []
unfolding IsStrictlySortedBy
past_peer q e rest s g n = by_order (code_peer_cmp q e.0.via.peer) refl g n
  where
    later : code_peer_cmp q e.0.via.peer ≡ Less → (es : Paths) → AllByRecursion (λ t. key_cmp e.0 t ≡ Less) (keys_of es) → AllByRecursion (λ (d : PathKey × Option PathAttrs). is_eq (code_peer_cmp q d.0.via.peer) ≡ false) es
    later l [] a = tt
    later l (d ∷ es) a = (by_next (code_peer_cmp e.0.via.peer d.0.via.peer) refl a.0, later l es a.1)
      where
        by_next : (o : Ordering) → code_peer_cmp e.0.via.peer d.0.via.peer ≡ o → ordering_then o (ordering_then (code_cmp e.0.prefix d.0.prefix) (nat_cmp e.0.via.id d.0.via.id)) ≡ Less → is_eq (code_peer_cmp q d.0.via.peer) ≡ false
        by_next Less u x = ap is_eq (peer_total.trans q e.0.via.peer d.0.via.peer l u)
        by_next Equal u x = ap is_eq (sym (alike_right peer_total e.0.via.peer d.0.via.peer q u) ∙ l)
        by_next Greater u x = absurd cc

    by_order : (o : Ordering) → code_peer_cmp q e.0.via.peer ≡ o → is_gt o ≡ false → is_eq o ≡ false → paths_of q (e ∷ rest) ≡ []
    by_order Less l g n = filter_none (λ d. is_eq (code_peer_cmp q d.0.via.peer)) (e ∷ rest) (ap is_eq l, later l rest s.0)
    by_order Equal l g n = absurd cc
    by_order Greater l g n = absurd cc

pub record AtPaths (q : Peer) (paths : Paths) (cuts : List Elem) (rest : Paths) : Type 0 where
  pub ordered : IsStrictlySortedBy key_cmp (keys_of paths)
  pub sorted : IsStrictlySortedBy key_cmp (keys_of rest)
  pub above : FromPeer q rest
  pub cut : cuts ++ cuts_in (paths_of q rest) ≡ cuts_in (paths_of q paths)

pub paths_start : (q : Peer) (least : PathKey) (paths items rest : Paths) (cuts : List Elem) → cuts ≡ [] → IsStrictlySortedBy key_cmp (keys_of paths) → items ≡ paths_from least paths → rest ≡ items → least.via.peer ≡ q → ((s : PathKey) → code_peer_cmp q s.via.peer ≡ Equal → is_gt (key_cmp least s) ≡ false) → AtPaths q paths cuts rest
paths_start q least paths items rest cuts n s e f g h =
    let x : paths_from least paths ≡ rest = sym (f ∙ e) in
    record {
      ordered = s;
      sorted = subst (λ es. IsStrictlySortedBy key_cmp (keys_of es)) x (paths_sorted (λ t. is_le (key_cmp least t) && not false) paths s);
      above =
          subst (FromPeer q) x (all_filtered (λ (d : PathKey × Option PathAttrs). is_le (key_cmp least d.0) && not false) (λ d. is_gt (code_peer_cmp q d.0.via.peer) ≡ false) paths (λ d t.
          ap (λ p. is_gt (code_peer_cmp p d.0.via.peer)) (sym g) ∙ not_above (code_peer_cmp least.via.peer d.0.via.peer) (ordering_then (code_cmp least.prefix d.0.prefix) (nat_cmp least.via.id d.0.via.id)) (le_is (key_cmp least d.0) (sym (from_least (is_le (key_cmp least d.0))) ∙ t))));
      cut =
          ap (λ xs. xs ++ cuts_in (paths_of q rest)) n
          ∙ (ap (λ es. cuts_in (paths_of q es)) (sym x)
          ∙ ap cuts_in (filter_part (λ d. is_eq (code_peer_cmp q d.0.via.peer)) (λ (d : PathKey × Option PathAttrs). is_le (key_cmp least d.0) && not false) paths (λ d t. from_least (is_le (key_cmp least d.0)) ∙ is_le_from (key_cmp least d.0) (h d.0 (is_equal (code_peer_cmp q d.0.via.peer) t)))));
    }

module _ (q : Peer) (paths it : Paths) (cuts : List Elem) (s : PathKey) (o : Option PathAttrs) (rest : Paths) (at : AtPaths q paths cuts it) (step : it ≡ (s, o) ∷ rest) (f : Peer) (own : f ≡ s.via.peer) (ne : Bool)
    (test : ne ≡ not ((sameb the_type q.addr.family f.addr.family && nat_eq q.addr.bits f.addr.bits) && nat_eq q.asn f.asn)) where
  key_here : AtPaths q paths cuts ((s, o) ∷ rest)
  key_here = subst (λ es. AtPaths q paths cuts es) step at

  peer_differs : ne ≡ not (is_eq (code_peer_cmp q s.via.peer))
  peer_differs = test ∙ (ap not (peer_eq q f) ∙ ap (λ x. not (is_eq (code_peer_cmp q x))) own)

  -- at a path key of another peer all is cut
  pub cut_all : ne ≡ true → cuts ≡ cuts_in (paths_of q paths)
  unfolding cuts_in
  cut_all t =
      sym (append-nil cuts)
      ∙ (ap (λ es. cuts ++ cuts_in es) (sym (past_peer q (s, o) rest key_here.sorted key_here.above.0 (not-true _ (sym peer_differs ∙ t)))) ∙ key_here.cut)

  more_paths : ne ≡ false → paths_of q ((s, o) ∷ rest) ≡ (s, o) ∷ paths_of q rest
  more_paths t = ap (λ b. cond b ((s, o) ∷ paths_of q rest) (paths_of q rest)) (not-false _ (sym peer_differs ∙ t))

  pub cut_more : ne ≡ false → (b : Bool) → b ≡ is_some o → b ≡ true → (more : List Elem) (v : Via) (p : code.Prefix) → v ≡ s.via → p ≡ s.prefix → more ≡ cuts ++ (Cut v p ∷ []) → AtPaths q paths more rest
  unfolding IsStrictlySortedBy cuts_in
  cut_more t b u w more v p a d m = record { ordered = key_here.ordered; sorted = key_here.sorted.1; above = key_here.above.1; cut = by_attrs o (sym u ∙ w) (ap (λ es. cuts ++ cuts_in es) (sym (more_paths t)) ∙ key_here.cut) }
    where
      by_attrs : (o : Option PathAttrs) → is_some o ≡ true → cuts ++ cuts_in ((s, o) ∷ paths_of q rest) ≡ cuts_in (paths_of q paths) → more ++ cuts_in (paths_of q rest) ≡ cuts_in (paths_of q paths)
      by_attrs (Some attrs) x h =
          ap (λ xs. xs ++ cuts_in (paths_of q rest)) (m ∙ (ap (λ y. cuts ++ (Cut y p ∷ [])) a ∙ ap (λ y. cuts ++ (Cut s.via y ∷ [])) d)) ∙ (append_assoc cuts (Cut s.via s.prefix ∷ []) (cuts_in (paths_of q rest)) ∙ h)
      by_attrs None x h = absurd cc

  pub no_cut : ne ≡ false → (b : Bool) → b ≡ is_some o → b ≡ false → AtPaths q paths cuts rest
  unfolding IsStrictlySortedBy cuts_in
  no_cut t b u w = record { ordered = key_here.ordered; sorted = key_here.sorted.1; above = key_here.above.1; cut = by_attrs o (sym u ∙ w) (ap (λ es. cuts ++ cuts_in es) (sym (more_paths t)) ∙ key_here.cut) }
    where
      by_attrs : (o : Option PathAttrs) → is_some o ≡ false → cuts ++ cuts_in ((s, o) ∷ paths_of q rest) ≡ cuts_in (paths_of q paths) → cuts ++ cuts_in (paths_of q rest) ≡ cuts_in (paths_of q paths)
      by_attrs (Some attrs) x h = absurd cc
      by_attrs None x h = h

-- after the last path key, too
pub cut_last : (q : Peer) (paths it : Paths) (cuts : List Elem) → AtPaths q paths cuts it → it ≡ [] → cuts ≡ cuts_in (paths_of q paths)
unfolding cuts_in
cut_last q paths it cuts at e = sym (append-nil cuts) ∙ (ap (λ es. cuts ++ cuts_in (paths_of q es)) (sym e) ∙ at.cut)
