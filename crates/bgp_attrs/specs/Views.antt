-- What a clause sees of attribute lists: their values, without where they lie in memory.
use Rattle.std.specs.Prelude.{ℕ, Bool, false, List, [], length, Option, Some, None, is_some, option_map, Result, Ok, Err, ◌==◌, if◌then◌else◌}
use Rattle.std.specs.Option.{option_and_then}
use Rattle.std.specs.Result.{result_unwrap_or}
use Rattle.table_model.specs.declared.family.Family.{Family}
use Rattle.table_model.specs.declared.family.Family.TheVariants.{V4}
use Rattle.table_model.specs.Address.{Address}
use Rattle.table_model.specs.Bits.{bits_of}
use Rattle.fib_addr.specs.Views.{addr_as}
use Rattle.wire_model.specs.declared.rule.Rule.{Rule}
use Rattle.wire_model.specs.declared.rule.Rule.TheVariants.{AttributeValue}
use Rattle.wire_model.specs.Wire.{Nlri, nlris}
use Rattle.wire_model.specs.Path.{Path}
use Rattle.wire_model.specs.Attribute.{ReachAttr, Unreached, Found, Listed, hop_of}
use Rattle.bgp_attrs.specs.declared.path.Path as code_path
use Rattle.bgp_attrs.specs.declared.multiprotocol.Reach.{Reach}
use Rattle.bgp_attrs.specs.declared.multiprotocol.Unreach.{Unreach}
use Rattle.bgp_attrs.specs.declared.list.Attrs.{Attrs}
use Rattle.bgp_attrs.specs.declared.list.Found as code
use Rattle.bgp_attrs.specs.declared.hop_octets.HopOctets as code_hop
use Rattle.bgp_attrs.specs.declared.rib.Found as code_rib
use Rattle.bgp_attrs.specs.declared.rib.RibAttrs.{RibAttrs}

-- the entries of NLRI in the octets
abbrev pub nlri_in : Bool → Family → List ℕ → List Nlri
nlri_in ids family octets = result_unwrap_or (nlris AttributeValue ids family octets) []

-- an IPv4 address by its bits
abbrev pub ipv4_as : ℕ → Address
ipv4_as bits = record { family = V4; bits = bits_of 32 bits }

-- a next hop, or none if NEXT_HOP isn't of its form
abbrev pub judged_as : Option ℕ → Option Address
judged_as hop = option_map ipv4_as hop

abbrev pub path_as : code_path.Path → Path
path_as p = record { length = p.length; origin = p.origin }

-- a path, or none if AS_PATH isn't of its form
abbrev pub judged_path : Option code_path.Path → Option Path
judged_path path = option_map path_as path

abbrev pub reached : Reach → ReachAttr
reached r = record { family = r.family; hop = addr_as r.hop; nlri = nlri_in r.ids r.family r.nlri.now }

abbrev pub unreached : Unreach → Unreached
unreached u = record { family = u.family; nlri = nlri_in u.ids u.family u.nlri.now }

abbrev pub found_as : code.Found → Found
found_as f = record { path = option_map judged_path f.path; hop = option_map judged_as f.hop; has_reach = f.has_reach; reach = option_map reached f.reach; has_unreach = f.has_unreach; unreach = option_map unreached f.unreach }

abbrev pub listed_as : Attrs → Listed
listed_as a = record { path = record { length = a.path; origin = a.origin }; hop = option_map addr_as a.hop; reach = option_map reached a.reach; unreach = option_map unreached a.unreach; bad = a.bad }

-- the next hop in these octets, or none if there are none
abbrev pub hop_as : code_hop.HopOctets → Option Address
hop_as h = if length h.octets.now == 0 then None else Some (hop_of h.octets.now)

-- a next hop that was read; one that can't be read is none
abbrev pub hop_read : Result (Address × List ℕ) Rule → Option Address
hop_read (Ok hop) = Some hop.0
hop_read (Err rule) = None

-- what MP_REACH_NLRI of a RIB entry gives by its next hop: no routes
abbrev pub rib_reach : Family → Option Address → Option ReachAttr
rib_reach family hop = option_map (λ (a : Address). record { family = family; hop = a; nlri = [] }) hop

-- what stood in the list of a RIB entry so far, in a record of this family
abbrev pub rib_found_as : Family → code_rib.Found → Found
rib_found_as family f = record { path = option_map (λ (p : code_path.Path). Some (path_as p)) f.path; hop = option_map Some (hop_as f.hop); has_reach = is_some f.reach; reach = rib_reach family (option_and_then hop_as f.reach); has_unreach = false; unreach = None }

-- what the list of a RIB entry gives, in a record of this family
abbrev pub rib_listed_as : Family → RibAttrs → Listed
rib_listed_as family a = record { path = record { length = a.path; origin = a.origin }; hop = hop_as a.hop; reach = rib_reach family (hop_as a.reach); unreach = None; bad = false }
