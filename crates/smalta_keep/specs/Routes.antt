-- Routes that are put back.
use Rattle.std.specs.Prelude.{◌≡◌, ℕ, Option, Some, None, option_map}
use Rattle.std.specs.Map.{remove_entry}
use Rattle.table_model.specs.Address.{Prefix, same_prefix}
use Rattle.table_model.specs.Entries.{Entries, with_entry}
use Rattle.fib_addr.specs.Views.{prefix_as}
use Rattle.orig_tree.specs.Views.{Labels}
use Rattle.smalta_keep.specs.declared.routes.Former.{Former}

-- the routes with what p had
abbrev pub put_back_in : Prefix → Option ℕ → Entries → Entries
put_back_in p None R = remove_entry (same_prefix p) R
put_back_in p (Some h) R = with_entry R (p, h)

-- what the former route says of the routes
abbrev pub former_in : Former → Entries → Entries
former_in f R = put_back_in (prefix_as f.prefix) (option_map (λ h. h.0) f.hop) R

-- the prefix of the former route, if there is one
abbrev pub former_place : Option Former → Option Prefix
former_place f = option_map (λ r. prefix_as r.prefix) f

-- put back, the former route gives the old routes, and the tree can put it back
pub record IsFormer (f : Former) (old new : Labels) : Type 0 where
  pub family : f.prefix.family ≡ new.family
  pub routes : former_in f new.routes ≡ old.routes
  pub before : new.before ≡ old.routes

-- the tree can put the former route back, if there is one
abbrev pub HasFormer : Labels → Option Former → Type 0
HasFormer kept None = Unit {0}
HasFormer kept (Some f) = (f.prefix.family ≡ kept.family) × (kept.before ≡ former_in f kept.routes)

-- the routes with the former one, if there is one, put back
abbrev pub undone_in : Option Former → Entries → Entries
undone_in None R = R
undone_in (Some f) R = former_in f R
