-- What clauses see of candidates.
use Rattle.std.specs.Prelude.{◌≡◌, ℕ, Option, Some, option_map}
use Rattle.fib_addr.specs.Views.{addr_as, prefix_as}
use Rattle.fib_addr.specs.declared.addr.Addr.{Addr}
use Rattle.fib_addr.specs.declared.prefix.Prefix as code
use Rattle.fib_prefix.specs.Views.{elem_as}
use Rattle.fib_prefix.specs.declared.event.Via.{Via}
use Rattle.fib_prefix.specs.declared.event.Elem.TheVariants.{Put}
use Rattle.route_model.specs.Events.{Elem, elem_prefix}
use Rattle.route_model.specs.Choice.{Candidates, after_elem, chosen_for}
use Rattle.route_choice.specs.declared.choice.Choice.{Choice}
use Rattle.route_choice.specs.declared.choice.Pick.{Pick}

-- the candidates, and the elementary event that was planned last, if nothing changed since
pub record HeldCandidates : Type 0 where
  pub candidates : Candidates
  pub room : Option Elem

-- the elementary event that puts a route
abbrev pub put_as : Via → code.Prefix → ℕ → Addr → Elem
put_as via prefix path hop = elem_as (Put via prefix path hop)

-- the chosen hop of the prefix that an elementary event is about, before the event and after it
pub record IsChoice (held : Candidates) (elem : Elem) (choice : Choice) : Type 0 where
  pub prefix : prefix_as choice.prefix ≡ elem_prefix elem
  pub before : option_map addr_as choice.before ≡ chosen_for held (elem_prefix elem)
  pub after : option_map addr_as choice.after ≡ chosen_for (after_elem held elem) (elem_prefix elem)

-- the elementary event of a pick, and the choice that it gave
abbrev pub pick_elem : Pick → Elem
pick_elem pick = elem_as pick.elem

abbrev pub pick_choice : Pick → Choice
pick_choice pick = pick.choice

-- it was planned, and nothing changed since
pub record IsPlanned (held : HeldCandidates) (pick : Pick) : Type 0 where
  pub room : held.room ≡ Some (pick_elem pick)
  pub choice : IsChoice held.candidates (pick_elem pick) (pick_choice pick)
