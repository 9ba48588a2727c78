-- The walk over a prefix's ranks finds what is offered for it, by path source.
use Rattle.std.proofs.Common.{◌≡◌, List, [], ◌∷◌, Bool, true, false, cond, not, Option, Some, None, refl, sym, ap, subst, ◌∙◌, inl, inr}
use Rattle.std.specs.Prelude.{◌⊎◌, ◌||◌, if◌then◌else◌}
use Rattle.std.specs.List.{AllByRecursion, list_any}
use Rattle.std.specs.List.Sorted.{IsStrictlySortedBy}
use Rattle.std.specs.Option.{option_or}
use Rattle.std.specs.Ordering.{is_eq, is_gt}
use Rattle.std.specs.BTreeMap.{is_at}
use Rattle.std.specs.declared.cmp.Ordering.TheVariants.{Equal}
use Rattle.std.proofs.lemmas.Bool.{not-true, not-false}
use Rattle.std.proofs.lemmas.Cmp.{tied_back}
use Rattle.fib_addr.specs.contracts.prefix.PrefixPartialEq.TheImpl as prefix_test
use Rattle.fib_addr.specs.Order.{code_cmp}
use Rattle.fib_addr.specs.declared.prefix.Prefix as code
use Rattle.fib_prefix.specs.Order.{code_via_cmp}
use Rattle.fib_prefix.specs.declared.event.Via.{Via}
use Rattle.adj_rib_in.specs.declared.keys.Rank.{Rank}
use Rattle.adj_rib_in.specs.declared.keys.PathAttrs.{PathAttrs}
use Rattle.adj_rib_in.specs.Orders.{rank_cmp}
use Rattle.adj_rib_in.specs.Paths.{Paths, attrs_at, rank_at, key_of}
use Rattle.adj_rib_in.specs.Ways.{Ways, way_attrs, key_by, AddsWays, way_put}
use Rattle.adj_rib_in.proofs.Equals.{prefix_eq}
use Rattle.adj_rib_in.proofs.Orders.{is_equal, prefix_total, rank_total, key_tied}
use Rattle.route_choice.specs.Paths.{has_rank, IsIndexed}
use Rattle.route_choice.specs.Walks.{ranks_of, attrs_ranked}
use Rattle.route_choice.proofs.Best.{any_filtered, same_rank, same_attrs, with_path_parts}
use Rattle.route_choice.proofs.Finds.{ranks_from, from_above, from_same, sorted_kept, past_it}
use Rattle.route_choice.proofs.Rooms.{own_rank}

-- the rank of what is offered by a path source is among these
abbrev Waits : Paths → code.Prefix → Via → List Rank → Type 0
Waits paths p v ranks = (o : PathAttrs) → attrs_at paths (key_by v p) ≡ Some o → has_rank ranks (rank_at (key_by v p) o.path) ≡ true

-- past the ranks before these, each path source has what is offered by it, or waits for it
pub record AtWays (paths : Paths) (p : code.Prefix) (old : Ways) (rest : List Rank) (now : Ways) : Type 0 where
  pub sorted : IsStrictlySortedBy rank_cmp rest
  pub above : AllByRecursion (λ r. is_gt (code_cmp p r.prefix) ≡ false) rest
  pub ways : (v : Via) → (way_attrs now v ≡ option_or (attrs_at paths (key_by v p)) (way_attrs old v)) ⊎ ((way_attrs now v ≡ way_attrs old v) × Waits paths p v rest)

-- a rank of the prefix is among its ranks
its_rank : (paths : Paths) (p : code.Prefix) (v : Via) (ranks : List Rank) (o : PathAttrs) → has_rank ranks (rank_at (key_by v p) o.path) ≡ true → has_rank (ranks_of p ranks) (rank_at (key_by v p) o.path) ≡ true
its_rank paths p v ranks o h = any_filtered (is_at (rank_cmp (rank_at (key_by v p) o.path))) (λ r. is_eq (code_cmp p r.prefix)) ranks (λ k t. ap is_eq (same_rank (rank_at (key_by v p) o.path) k t).prefix) h

-- and one of its ranks among all
among_all : (q : Rank) (p : code.Prefix) (ranks : List Rank) → has_rank (ranks_of p ranks) q ≡ true → has_rank ranks q ≡ true
among_all q p [] h = h
among_all q p (r ∷ ranks) h = by_tests (is_eq (code_cmp p r.prefix)) (is_eq (rank_cmp q r)) refl h (among_all q p ranks)
  where
    by_tests : (b e : Bool) → is_eq (rank_cmp q r) ≡ e → list_any (is_at (rank_cmp q)) (cond b (r ∷ ranks_of p ranks) (ranks_of p ranks)) ≡ true → (has_rank (ranks_of p ranks) q ≡ true → has_rank ranks q ≡ true) → (is_eq (rank_cmp q r) || has_rank ranks q) ≡ true
    by_tests b true x g ih = ap (λ y. y || has_rank ranks q) x
    by_tests true false x g ih = ap (λ y. y || has_rank ranks q) x ∙ ih (sym (ap (λ y. y || has_rank (ranks_of p ranks) q) x) ∙ g)
    by_tests false false x g ih = ap (λ y. y || has_rank ranks q) x ∙ ih g

pub ways_start : (paths : Paths) (p : code.Prefix) (old : Ways) (least : Rank) (ranks items rest : List Rank) → IsIndexed paths ranks → IsStrictlySortedBy rank_cmp ranks → items ≡ ranks_from least ranks → rest ≡ items → least.prefix ≡ p → ((r : Rank) → code_cmp p r.prefix ≡ Equal → is_gt (rank_cmp least r) ≡ false) → AtWays paths p old rest old
ways_start paths p old least ranks items rest indexed s e f g h =
    let x : ranks_from least ranks ≡ rest = sym (f ∙ e) in
    record {
      sorted = subst (λ rs. IsStrictlySortedBy rank_cmp rs) x (sorted_kept rank_cmp _ ranks s);
      above = subst (λ rs. AllByRecursion (λ r. is_gt (code_cmp p r.prefix) ≡ false) rs) x (from_above p least ranks g);
      ways = λ v. inr (refl, λ o k. subst (λ rs. has_rank rs (rank_at (key_by v p) o.path) ≡ true) x (among_all (rank_at (key_by v p) o.path) p (ranks_from least ranks) (ap (λ rs. has_rank rs (rank_at (key_by v p) o.path)) (from_same p least ranks h) ∙ its_rank paths p v ranks o (indexed (key_by v p) o k))));
    }

-- where no rank is left
nothing_waits : (paths : Paths) (p : code.Prefix) (old now : Ways) (rest : List Rank) → ranks_of p rest ≡ [] → AtWays paths p old rest now → AddsWays paths p old now
nothing_waits paths p old now rest e at v = elim (at.ways v) [
  | inl h ↦ h
  | inr h ↦ h.0 ∙ sym (ap (λ x. option_or x (way_attrs old v)) (none h.1 (attrs_at paths (key_by v p)) refl))
]
  where
    none : Waits paths p v rest → (o : Option PathAttrs) → attrs_at paths (key_by v p) ≡ o → o ≡ None
    none w None k = refl
    none w (Some o) k = let x : false ≡ true = sym (ap (λ rs. has_rank rs (rank_at (key_by v p) o.path)) e) ∙ its_rank paths p v rest o (w o k) in absurd cc

pub ways_end : (paths : Paths) (p : code.Prefix) (old now : Ways) (it : List Rank) → AtWays paths p old it now → it ≡ [] → AddsWays paths p old now
ways_end paths p old now it at e = nothing_waits paths p old now it (ap (ranks_of p) e) at

module _ (paths : Paths) (p : code.Prefix) (old now : Ways) (it : List Rank) (r : Rank) (rest : List Rank) (at : AtWays paths p old it now) (step : it ≡ r ∷ rest) (f : code.Prefix) (own : f ≡ r.prefix) (ne : Bool)
    (test : ne ≡ not ((prefix_test.ghosts).eq p f)) where
  here : AtWays paths p old (r ∷ rest) now
  here = subst (λ rs. AtWays paths p old rs now) step at

  differs : ne ≡ not (is_eq (code_cmp p r.prefix))
  differs = test ∙ (ap not (prefix_eq p f) ∙ ap (λ x. not (is_eq (code_cmp p x))) own)

  pub ways_past : ne ≡ true → AddsWays paths p old now
  ways_past t = nothing_waits paths p old now (r ∷ rest) (past_it p r rest here.sorted here.above.0 (not-true _ (sym differs ∙ t))) here

  is_same : ne ≡ false → code_cmp p r.prefix ≡ Equal
  is_same t = is_equal _ (not-false _ (sym differs ∙ t))

  pub ways_more : ne ≡ false → (more : Ways) → ((v : Via) → way_attrs more v ≡ way_put (Some r.via) (attrs_ranked paths r) v (way_attrs now v)) → AtWays paths p old rest more
  unfolding IsStrictlySortedBy
  ways_more t more add = record { sorted = here.sorted.1; above = here.above.1; ways = λ v. by_attrs v (attrs_ranked paths r) refl (add v) }
    where
      Next : Via → Type 0
      Next v = (way_attrs more v ≡ option_or (attrs_at paths (key_by v p)) (way_attrs old v)) ⊎ ((way_attrs more v ≡ way_attrs old v) × Waits paths p v rest)

      -- a rank that offers nothing from this path source
      kept : (v : Via) → way_attrs more v ≡ way_attrs now v → ((o : PathAttrs) → attrs_ranked paths r ≡ Some o → is_eq (code_via_cmp r.via v) ≡ true → ⊥) → Next v
      kept v same none = elim (here.ways v) [
        | inl h ↦ inl (same ∙ h)
        | inr h ↦ inr (same ∙ h.0, λ o k. by_first o k (is_eq (rank_cmp (rank_at (key_by v p) o.path) r)) refl (h.1 o k))
      ]
        where
          by_first : (o : PathAttrs) → attrs_at paths (key_by v p) ≡ Some o → (b : Bool) → is_eq (rank_cmp (rank_at (key_by v p) o.path) r) ≡ b → (is_eq (rank_cmp (rank_at (key_by v p) o.path) r) || has_rank rest (rank_at (key_by v p) o.path)) ≡ true → has_rank rest (rank_at (key_by v p) o.path) ≡ true
          by_first o k true e g =
              let own : Rank = rank_at (key_by v p) o.path in
              let back : is_eq (rank_cmp r own) ≡ true = ap is_eq (tied_back rank_total own r (is_equal _ e)) in
              absurd (none o (own_rank paths r (key_by v p) o back k) (ap is_eq (same_rank r own back).via))
          by_first o k false e g = sym (ap (λ x. x || has_rank rest (rank_at (key_by v p) o.path)) e) ∙ g

      -- what the rank offers is offered at the path key of its path source
      offered : (v : Via) (o : PathAttrs) → attrs_ranked paths r ≡ Some o → is_eq (code_via_cmp r.via v) ≡ true → attrs_at paths (key_by v p) ≡ Some o
      offered v o e x = same_attrs paths (key_of r) (key_by v p) (key_tied (key_of r) (key_by v p) (tied_back prefix_total p r.prefix (is_same t)) (is_equal _ x)) ∙ (with_path_parts r.path (attrs_at paths (key_of r)) o e).0

      by_test : (v : Via) (o : PathAttrs) → attrs_ranked paths r ≡ Some o → (b : Bool) → is_eq (code_via_cmp r.via v) ≡ b → way_attrs more v ≡ (if b then Some o else way_attrs now v) → Next v
      by_test v o e true x m = inl (m ∙ sym (ap (λ y. option_or y (way_attrs old v)) (offered v o e x)))
      by_test v o e false x m = kept v m (λ y a b. let z : false ≡ true = sym x ∙ b in absurd cc)

      by_attrs : (v : Via) (o : Option PathAttrs) → attrs_ranked paths r ≡ o → way_attrs more v ≡ way_put (Some r.via) o v (way_attrs now v) → Next v
      by_attrs v None e m = kept v m (λ y a b. let z : None ≡ Some y = sym e ∙ a in absurd cc)
      by_attrs v (Some o) e m = by_test v o e (is_eq (code_via_cmp r.via v)) refl m
