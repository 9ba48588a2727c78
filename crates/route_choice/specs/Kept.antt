-- What is kept: the offers, and room for the plan.
use Rattle.std.specs.Prelude.{◌≡◌, ◌||◌, List, Bool, true, false, Option, Some, None, is_some}
use Rattle.std.specs.Ordering.{is_eq}
use Rattle.fib_prefix.specs.declared.event.Elem.{Elem}
use Rattle.fib_prefix.specs.declared.event.Elem.TheVariants as elem
use Rattle.adj_rib_in.specs.declared.keys.PathKey.{PathKey}
use Rattle.adj_rib_in.specs.declared.keys.Rank.{Rank}
use Rattle.adj_rib_in.specs.Orders.{key_cmp, rank_cmp}
use Rattle.adj_rib_in.specs.Paths.{Paths, attrs_at}
use Rattle.route_choice.specs.Paths.{has_key, has_rank, IsIndexed, OfferHasRoom}
use Rattle.route_choice.specs.Walks.{attrs_ranked}

-- whether the path key, or the rank, is held for a plan
abbrev pub holds_key : Option Elem → PathKey → Bool
holds_key (Some (elem.Put v p path hop)) s = is_eq (key_cmp (record { via = v; prefix = p }) s)
holds_key (Some (elem.Cut v p)) s = false
holds_key None s = false

abbrev pub holds_rank : Option Elem → Rank → Bool
holds_rank (Some (elem.Put v p path hop)) r = is_eq (rank_cmp (record { prefix = p; path = path; via = v }) r)
holds_rank (Some (elem.Cut v p)) r = false
holds_rank None r = false

-- each path key offers something, or is held
abbrev pub EachKeyServes : Paths → (PathKey → Bool) → Type 0
EachKeyServes paths held = (s : PathKey) → has_key paths s ≡ true → (is_some (attrs_at paths s) || held s) ≡ true

-- each rank is that of an offer, or is held
abbrev pub EachRankServes : Paths → List Rank → (Rank → Bool) → Type 0
EachRankServes paths ranks held = (r : Rank) → has_rank ranks r ≡ true → (is_some (attrs_ranked paths r) || held r) ≡ true

-- Each offer has its rank, and the plan its room; no path key and no rank is there but for an offer, for the plan, or for an earlier plan, whose room wasn't given back yet.
pub record PathsAreKept (paths : Paths) (ranks : List Rank) (earlier plan : Option Elem) : Type 0 where
  pub indexed : IsIndexed paths ranks
  pub room : OfferHasRoom paths ranks plan
  pub paths_serve : EachKeyServes paths (λ s. holds_key earlier s || holds_key plan s)
  pub ranks_serve : EachRankServes paths ranks (λ r. holds_rank earlier r || holds_rank plan r)

-- what is kept for a plan stays so
abbrev pub StaysKept : Paths → List Rank → Paths → List Rank → Type 0
StaysKept paths ranks after left = (plan : Option Elem) → PathsAreKept paths ranks None plan → PathsAreKept after left None plan

-- what is kept for an earlier plan is kept beside this one, if there is one
abbrev pub KeepsBeside : Paths → List Rank → Paths → List Rank → Option Elem → Type 0
KeepsBeside paths ranks after left plan = (earlier : Option Elem) → PathsAreKept paths ranks None earlier → PathsAreKept after left earlier plan
