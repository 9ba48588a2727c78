-- Lookups beside a router's events.
use Rattle.std.specs.Prelude.{◌≡◌, None}
use Rattle.table_model.specs.declared.family.Family.{Family}
use Rattle.table_model.specs.declared.family.Family.TheVariants.{V4, V6}
use Rattle.poptrie_update.specs.Lives.{Living}
use Rattle.poptrie_update.specs.Reads.{IsShowing}
use Rattle.poptrie_update.specs.Cursors.{Dues, FitsAll, OpenLookups}
use Rattle.fib_router.specs.Router.{Routing}
use Rattle.router_example.specs.declared.lookups.Lookups.{Lookups}
use Rattle.router_example.specs.declared.session.Session.{Session}

-- a live trie of the family
pub record IsTrieOf (f : Family) (l : Living) : Type 0 where
  pub family : l.selected.family ≡ f
  pub showing : IsShowing l

-- each open lookup goes on as it is due, in places that nothing writes or gives back before it ends
abbrev pub GoOn : Living → OpenLookups → Type 0
GoOn l cs = (due : Dues) × FitsAll l cs due

-- so do those of both families in a router's live tries
pub record GoOnBeside (r : Routing) (t : Lookups) : Type 0 where
  pub trie4 : IsTrieOf V4 r.lives.v4
  pub trie6 : IsTrieOf V6 r.lives.v6
  pub on4 : GoOn r.lives.v4 t.v4
  pub on6 : GoOn r.lives.v6 t.v6

-- those of a family
abbrev pub lookups_of : Family → Lookups → OpenLookups
lookups_of V4 t = t.v4
lookups_of V6 t = t.v6

-- no event is begun, and as many were taken as are counted
pub record IsBetweenEvents (s : Session) : Type 0 where
  pub rest : s.router.begun ≡ None
  pub counted : s.router.held.events ≡ s.taken
  pub beside : GoOnBeside s.router s.lookups
