-- What path keys stand for, and the ranks of what is offered there.
use Rattle.std.specs.Prelude.{ℕ, List, [], ◌∷◌, Option, Some, None}
use Rattle.std.specs.Map.{lookup}
use Rattle.std.specs.BTreeMap.{is_at}
use Rattle.fib_addr.specs.Views.{addr_as, prefix_as}
use Rattle.fib_prefix.specs.Views.{via_as}
use Rattle.route_model.specs.Events as model
use Rattle.route_model.specs.Choice.{Candidates, after_elem}
use Rattle.adj_rib_in.specs.declared.keys.PathKey.{PathKey}
use Rattle.adj_rib_in.specs.declared.keys.Rank.{Rank}
use Rattle.adj_rib_in.specs.declared.keys.PathAttrs.{PathAttrs}
use Rattle.adj_rib_in.specs.Orders.{key_cmp}

-- the path keys, with what is offered at each
abbrev pub Paths : Type 0
Paths = List (PathKey × Option PathAttrs)

-- what a path key says of its place: what is offered there, or nothing
abbrev pub key_says : PathKey → Option PathAttrs → model.Elem
key_says s (Some attrs) = model.Put (via_as s.via) (prefix_as s.prefix) attrs.path (addr_as attrs.hop)
key_says s None = model.Cut (via_as s.via) (prefix_as s.prefix)

-- the candidates: what all path keys say
unfoldable pub held_in : Paths → Candidates
held_in [] = []
held_in (e ∷ paths) = after_elem (held_in paths) (key_says e.0 e.1)

-- what is offered at a path key
abbrev pub flat : Option (Option PathAttrs) → Option PathAttrs
flat None = None
flat (Some attrs) = attrs

abbrev pub attrs_at : Paths → PathKey → Option PathAttrs
attrs_at paths s = flat (lookup (is_at (key_cmp s)) paths)

-- the rank of what is offered at a path key with this path, and the path key of a rank
abbrev pub rank_at : PathKey → ℕ → Rank
rank_at s path = record { prefix = s.prefix; path = path; via = s.via }

abbrev pub key_of : Rank → PathKey
key_of r = record { via = r.via; prefix = r.prefix }
