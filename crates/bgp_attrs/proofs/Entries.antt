-- What the list of a RIB entry gives.
use Rattle.std.proofs.Common.{◌≡◌, Bool, false, Option, Some, None, refl}
use Rattle.std.specs.Prelude.{option_map, unwrap_or}
use Rattle.std.specs.Option.{option_and_then}
use Rattle.table_model.specs.declared.family.Family.{Family}
use Rattle.table_model.specs.Address.{Address}
use Rattle.wire_model.specs.Path.{no_path}
use Rattle.wire_model.specs.Attribute.{Found, listed_from}
use Rattle.bgp_attrs.specs.declared.path.Path as code_path
use Rattle.bgp_attrs.specs.declared.hop_octets.HopOctets as code_hop
use Rattle.bgp_attrs.specs.Views.{path_as, hop_as, rib_reach}

-- the next hop of MP_REACH_NLRI, where it may be missing
reach_given : (reach : Option code_hop.HopOctets) (none r : code_hop.HopOctets) → hop_as none ≡ None → r ≡ unwrap_or reach none → hop_as r ≡ option_and_then hop_as reach
reach_given None none r n e = rw e n
reach_given (Some h) none r n e = rw e refl

-- the path, where it may be missing
path_given : (path : Option code_path.Path) (empty p : code_path.Path) → path_as empty ≡ no_path → p ≡ unwrap_or path empty → path_as p ≡ unwrap_or (option_map path_as path) no_path
path_given None empty p n e = rw e n
path_given (Some q) empty p n e = rw e refl

-- no list of a RIB entry is bad
listed_by : (path : Option code_path.Path) (empty p : code_path.Path) (hop : Option Address) (found : Found) → path_as empty ≡ no_path → p ≡ unwrap_or path empty
    → found.path ≡ option_map (λ (q : code_path.Path). Some (path_as q)) path → found.hop ≡ option_map Some hop
    → record { path = path_as p; hop = hop; reach = found.reach; unreach = found.unreach; bad = false } ≡ listed_from found
listed_by None empty p None found n e fp fh = rw (fp, fh, path_given None empty p n e) refl
listed_by None empty p (Some hop) found n e fp fh = rw (fp, fh, path_given None empty p n e) refl
listed_by (Some q) empty p None found n e fp fh = rw (fp, fh, path_given (Some q) empty p n e) refl
listed_by (Some q) empty p (Some hop) found n e fp fh = rw (fp, fh, path_given (Some q) empty p n e) refl

pub listed_in_rib : (family : Family) (path : Option code_path.Path) (empty p : code_path.Path) (hop : Option Address) (reach : Option code_hop.HopOctets) (none r : code_hop.HopOctets) (has : Bool)
    → path_as empty ≡ no_path → p ≡ unwrap_or path empty → hop_as none ≡ None → r ≡ unwrap_or reach none
    → record { path = path_as p; hop = hop; reach = rib_reach family (hop_as r); unreach = None; bad = false }
    ≡ listed_from (record { path = option_map (λ (q : code_path.Path). Some (path_as q)) path; hop = option_map Some hop; has_reach = has; reach = rib_reach family (option_and_then hop_as reach); has_unreach = false; unreach = None })
listed_in_rib family path empty p hop reach none r has n e m f =
    rw (reach_given reach none r m f) (listed_by path empty p hop (record { path = option_map (λ (q : code_path.Path). Some (path_as q)) path; hop = option_map Some hop; has_reach = has; reach = rib_reach family (option_and_then hop_as reach); has_unreach = false; unreach = None }) n e refl refl)
