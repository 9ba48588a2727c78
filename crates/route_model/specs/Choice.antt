-- The routes of all peers, which are the candidates, and the one of them that is chosen for each prefix.
--
-- The steps of BGP-4's decision process (RFC 4271, 9.1.1 and 9.1.2.2), and which of them are taken:
-- * degree of preference: not taken; it is a router's own policy, or LOCAL_PREF, which has a meaning within one AS alone, and a collector's peers are of many
-- * a) the shortest AS_PATH: taken
-- * b) the lowest ORIGIN, c) the lowest MULTI_EXIT_DISC: not taken; each peer sends them as its own policy set them, and c compares routes of one neighboring AS alone
-- * d) EBGP before IBGP, e) the lowest interior cost: not taken; a collector's records don't carry them
-- * f) the lowest BGP Identifier: not taken; a dump's peer table has it, and the messages of a session don't
-- * g) the lowest peer address: taken, IPv4 before IPv6, and of peers of one address the lowest AS; of one peer's routes the lowest path identifier (RFC 7911, 3, leaves it open)
use Rattle.std.specs.Prelude.{◌≡◌, ℕ, List, [], ◌∷◌, ◌++◌, Bool, not, ◌&&◌, map, filter, fold, Option, Some, None, if◌then◌else◌}
use Rattle.std.specs.List.{list_any, AllByRecursion}
use Rattle.std.specs.List.Sorted.{IsStrictlySortedBy}
use Rattle.std.specs.Map.{lookup, keys_of, remove_entry}
use Rattle.std.specs.BTreeMap.{insert_entry}
use Rattle.std.specs.Ordering.{nat_cmp, ordering_then, is_lt}
use Rattle.std.specs.declared.cmp.Ordering.{Ordering}
use Rattle.table_model.specs.Address.{Address, Prefix, IsPrefix, same_prefix}
use Rattle.table_model.specs.Order.{prefix_cmp}
use Rattle.route_model.specs.Events.{same_peer, Via, IsVia, same_via, via_cmp, Event, Announce, Withdraw, Down, Elem, Put, Cut}

-- where a candidate stands: its prefix and its path source
pub record Place : Type 0 where
  pub prefix : Prefix
  pub via : Via

-- a place that there is: its prefix is one, and its peer has an address
abbrev pub IsPlace : Place → Type 0
IsPlace p = IsPrefix p.prefix × IsVia p.via

abbrev pub same_place : Place → Place → Bool
same_place p q = same_prefix p.prefix q.prefix && same_via p.via q.via

-- by prefix, then by peer and path identifier
abbrev pub place_cmp : Place → Place → Ordering
place_cmp p q = ordering_then (prefix_cmp p.prefix q.prefix) (via_cmp p.via q.via)

-- what a peer's route for a prefix offers: the length of its path and its next hop
pub record PathAttrs : Type 0 where
  pub path : ℕ
  pub hop : Address

-- the candidates: at each place, in the order of places, what is offered there
abbrev pub Candidates : Type 0
Candidates = List (Place × PathAttrs)

-- what candidates always are: at places that there are, in strict order of places
abbrev pub AreCandidates : Candidates → Type 0
AreCandidates held = AllByRecursion IsPlace (keys_of held) × IsStrictlySortedBy place_cmp (keys_of held)

-- the candidate is held
abbrev pub IsHeld : Candidates → Place × PathAttrs → Type 0
IsHeld held c = lookup (same_place c.0) held ≡ Some c.1

-- A Put is the candidate of its prefix and path source from now on; after a Cut there is none.
abbrev pub after_elem : Candidates → Elem → Candidates
after_elem held (Put via prefix path hop) = insert_entry place_cmp held (record { prefix = prefix; via = via }) (record { path = path; hop = hop })
after_elem held (Cut via prefix) = remove_entry (same_place (record { prefix = prefix; via = via })) held

-- the candidates after elementary events
abbrev pub after_elems : Candidates → List Elem → Candidates
after_elems held elems = fold after_elem held elems

-- ---- events as elementary events

abbrev pub cut_of : Place × PathAttrs → Elem
cut_of c = Cut c.0.via c.0.prefix

-- An Announce is one Put, which drops its origin, a Withdraw one Cut, and a Down one Cut for each candidate of the peer, in the order of prefixes, then of path identifiers.
abbrev pub elems_of : Candidates → Event → List Elem
elems_of held (Announce via prefix path hop origin) = Put via prefix path hop ∷ []
elems_of held (Withdraw via prefix) = Cut via prefix ∷ []
elems_of held (Down peer) = map cut_of (filter (λ c. same_peer peer c.0.via.peer) held)

-- the elementary events of events, each after those before it
unfoldable pub elems_after : Candidates → List Event → List Elem
elems_after held [] = []
elems_after held (event ∷ events) = elems_of held event ++ elems_after (after_elems held (elems_of held event)) events

-- ---- choice

-- by preference: by the length of the path, then by the peer and the path identifier
abbrev pub choice_cmp : Place × PathAttrs → Place × PathAttrs → Ordering
choice_cmp c d = ordering_then (nat_cmp c.1.path d.1.path) (via_cmp c.0.via d.0.via)

-- whether the first of two candidates is preferred: a shorter path, or, if the paths are equally long, a lesser peer, and of one peer the lesser path identifier
abbrev pub beats : Place × PathAttrs → Place × PathAttrs → Bool
beats c d = is_lt (choice_cmp c d)

-- whether no candidate of its prefix beats it
abbrev pub is_chosen : Candidates → Place × PathAttrs → Bool
is_chosen held c = not (list_any (λ d. same_prefix d.0.prefix c.0.prefix && beats d c) held)

-- the chosen candidates, one for each prefix that has any, in the order of prefixes
abbrev pub chosen_in : Candidates → Candidates
chosen_in held = filter (is_chosen held) held

-- the candidate is chosen
abbrev pub IsChosen : Candidates → Place × PathAttrs → Type 0
IsChosen held c = IsHeld (chosen_in held) c

-- the routes: each prefix that has a candidate, with the next hop of its chosen one
abbrev pub routes_of : Candidates → List (Prefix × Address)
routes_of held = map (λ c. (c.0.prefix, c.1.hop)) (chosen_in held)

-- the next hop that is chosen for a prefix, if it has a candidate
abbrev pub chosen_for : Candidates → Prefix → Option Address
chosen_for held p = lookup (same_prefix p) (routes_of held)

-- ---- the candidates, determined by what was last said

-- the elementary event is about a place that there is
abbrev pub IsElem : Elem → Type 0
IsElem (Put via prefix path hop) = IsPlace (record { prefix = prefix; via = via })
IsElem (Cut via prefix) = IsPlace (record { prefix = prefix; via = via })

-- whether the elementary event is about this place
abbrev pub is_about : Place → Elem → Bool
is_about at (Put via prefix path hop) = same_place at (record { prefix = prefix; via = via })
is_about at (Cut via prefix) = same_place at (record { prefix = prefix; via = via })

-- what it offers there
abbrev pub offered : Elem → Option PathAttrs
offered (Put via prefix path hop) = Some (record { path = path; hop = hop })
offered (Cut via prefix) = None

-- what the last of the elementary events about a place offers
abbrev pub last_attrs : Place → List Elem → Option PathAttrs
last_attrs at elems = fold (λ attrs elem. if is_about at elem then offered elem else attrs) None elems
