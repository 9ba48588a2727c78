-- What a lookup answers beside the event that is begun.
use Rattle.std.proofs.Common.{◌≡◌, Bool, true, false, cond, Option, None, refl, sym, ap, ◌∙◌, subst}
use Rattle.table_model.specs.declared.family.Family.{Family}
use Rattle.table_model.specs.declared.family.Family.TheVariants.{V4, V6}
use Rattle.table_model.specs.Entries.{Entries, match_in}
use Rattle.route_model.specs.Events.{Elem}
use Rattle.fib_addr.specs.declared.addr.Addr.{Addr}
use Rattle.fib_addr.specs.Views.{addr_as}
use Rattle.poptrie_build.specs.Tries.{visits_of}
use Rattle.poptrie_build.specs.declared.lookup.Found.{Found}
use Rattle.poptrie_set.specs.First.{slot_of}
use Rattle.poptrie_update.specs.Lives.{Living, Shows}
use Rattle.poptrie_update.specs.Reads.{covers_by, published_entries}
use Rattle.fib_engine.specs.Held.{EngineState, engine_routes}
use Rattle.fib_engine.specs.Staged.{routes_once}
use Rattle.fib_router.specs.Lives.{AreLives, IsLiveOf, live_of}
use Rattle.fib_router.specs.declared.lives.Lives as code_lives

-- the live trie of a family
own : (held : EngineState) (o : Option Elem) (t : code_lives.Lives) (f : Family) → AreLives held o t → IsLiveOf f held o (live_of f t)
own held o t V4 l = l.0
own held o t V6 l = l.1

pub family_of : (held : EngineState) (o : Option Elem) (t : code_lives.Lives) (f : Family) → AreLives held o t → (live_of f t).selected.family ≡ f
family_of held o t f l = (own held o t f l).family

module _ (held : EngineState) (o : Option Elem) (t : code_lives.Lives) (a : Addr) (live : Living) (found : Found) (is : live ≡ live_of a.family t) (lives : AreLives held o t) where
  abbrev L : Entries
  L = engine_routes held

  abbrev M : Entries
  M = routes_once o held

  shown : Shows live L M
  shown = subst (λ (l : Living). Shows l L M) (sym is) (own held o t a.family lives).shows

  same : published_entries live L M a ≡ published_entries (live_of a.family t) L M a
  same = ap (λ (l : Living). published_entries l L M a) is

  pub hop_of : ((E F : Entries) → Shows live E F → found.hop.0 ≡ match_in (published_entries live E F a) (addr_as a)) → found.hop.0 ≡ match_in (published_entries (live_of a.family t) L M a) (addr_as a)
  hop_of h = h L M shown ∙ ap (λ (E : Entries). match_in E (addr_as a)) same

  pub visits_by : ((E F : Entries) → Shows live E F → found.visits ≡ visits_of live.selected.direct_bits (published_entries live E F a) (addr_as a)) → found.visits ≡ visits_of held.sizes.direct (published_entries (live_of a.family t) L M a) (addr_as a)
  visits_by v =
      v L M shown
      ∙ (ap (λ (E : Entries). visits_of live.selected.direct_bits E (addr_as a)) same
      ∙ ap (λ n. visits_of n (published_entries (live_of a.family t) L M a) (addr_as a)) (ap (λ (l : Living). l.selected.direct_bits) is ∙ (own held o t a.family lives).direct))

  either : (c : Bool) (E : Entries) → cond c E E ≡ E
  either true E = refl
  either false E = refl

  pub rest_of : ((E F : Entries) → Shows live E F → found.hop.0 ≡ match_in (published_entries live E F a) (addr_as a)) → o ≡ None → found.hop.0 ≡ match_in L (addr_as a)
  rest_of h none =
      hop_of h
      ∙ ap (λ (E : Entries). match_in E (addr_as a)) (ap (λ (p : Option Elem). published_entries (live_of a.family t) L (routes_once p held) a) none ∙ either (covers_by (live_of a.family t).state (live_of a.family t).selected (slot_of (live_of a.family t).selected.direct_bits a)) L)
