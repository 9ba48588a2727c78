-- Path keys and ranks as they lie, and the room for a plan.
use Rattle.std.specs.Prelude.{◌≡◌, ⊤, List, Bool, true, Option, Some, None, is_some}
use Rattle.std.specs.List.{list_any}
use Rattle.std.specs.Map.{lookup}
use Rattle.std.specs.BTreeMap.{is_at}
use Rattle.fib_prefix.specs.declared.event.Elem.{Elem}
use Rattle.fib_prefix.specs.declared.event.Elem.TheVariants as elem
use Rattle.adj_rib_in.specs.declared.keys.PathKey.{PathKey}
use Rattle.adj_rib_in.specs.declared.keys.Rank.{Rank}
use Rattle.adj_rib_in.specs.declared.keys.PathAttrs.{PathAttrs}
use Rattle.adj_rib_in.specs.Orders.{key_cmp, rank_cmp}
use Rattle.adj_rib_in.specs.Paths.{Paths, attrs_at, rank_at}

abbrev pub has_rank : List Rank → Rank → Bool
has_rank ranks r = list_any (is_at (rank_cmp r)) ranks

-- whether the path key is there, though nothing may be offered at it
abbrev pub has_key : Paths → PathKey → Bool
has_key paths s = is_some (lookup (is_at (key_cmp s)) paths)

-- each offer has its rank
abbrev pub IsIndexed : Paths → List Rank → Type 0
IsIndexed paths ranks = (s : PathKey) (attrs : PathAttrs) → attrs_at paths s ≡ Some attrs → has_rank ranks (rank_at s attrs.path) ≡ true

-- the path key that an elementary event is about, and what it offers there
abbrev pub key_in : Elem → PathKey
key_in (elem.Put v p path hop) = record { via = v; prefix = p }
key_in (elem.Cut v p) = record { via = v; prefix = p }

abbrev pub attrs_in : Elem → Option PathAttrs
attrs_in (elem.Put v p path hop) = Some (record { path = path; hop = hop })
attrs_in (elem.Cut v p) = None

-- there is room for what it offers
abbrev pub OfferHasRoom : Paths → List Rank → Option Elem → Type 0
OfferHasRoom paths ranks None = ⊤
OfferHasRoom paths ranks (Some (elem.Put v p path hop)) = (has_key paths (record { via = v; prefix = p }) ≡ true) × (has_rank ranks (record { prefix = p; path = path; via = v }) ≡ true)
OfferHasRoom paths ranks (Some (elem.Cut v p)) = ⊤
