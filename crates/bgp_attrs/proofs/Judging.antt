-- An AS_PATH that isn't of its form.
use Rattle.std.proofs.Common.{◌≡◌, ℕ, List, Option, Some, None, Result, Ok, Err, false, refl}
use Rattle.std.specs.Prelude.{is_some, option_map}
use Rattle.octet_fields.specs.Field.{◌>>=◌}
use Rattle.octet_fields.specs.Gives.{Gives}
use Rattle.wire_model.specs.declared.place.Place.{Place}
use Rattle.wire_model.specs.declared.place.Place.TheVariants.{Rib, Update}
use Rattle.wire_model.specs.declared.rule.Rule.{Rule}
use Rattle.wire_model.specs.Path.{as_size, path_of}
use Rattle.wire_model.specs.Attribute.{judged, is_wide, keep_first, with_as_path}
use Rattle.bgp_attrs.specs.declared.path.Path as code_path
use Rattle.bgp_attrs.specs.declared.list.Found as code
use Rattle.bgp_attrs.specs.Views.{path_as, judged_path, found_as}

-- what the rule that it breaks comes to, where no path stood before
pub path_fault : (place : Place) (found : code.Found) (value : List ℕ) (read : Result code_path.Path Rule) (rule : Rule) → is_some found.path ≡ false
    → Gives path_as read (path_of (as_size (is_wide place)) value) → judged place read ≡ Err rule → with_as_path place (found_as found) value ≡ Err rule
unfolding with_as_path
path_fault place found value (Ok path) rule none g e = absurd cc
path_fault (Rib family) found value (Err other) rule none g e = by_path found.path none
  where
    by_path : (before : Option (Option code_path.Path)) → is_some before ≡ false → (keep_first (option_map judged_path before) (judged (Rib family) (path_of 4 value)) >>= λ path. Ok (record (found_as found) { path = path })) ≡ Err rule
    by_path (Some path) n = absurd cc
    by_path None n = let same : other ≡ rule = cc in rw (g, same) refl
path_fault (Update wide ids) found value (Err other) rule none g e = absurd cc
