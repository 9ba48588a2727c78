-- What a planned event is to the live tries, and what is said of one that isn't begun.
use Rattle.std.proofs.Common.{◌≡◌, Bool, false, cond, Option, Some, None, Result, Err, refl, sym, ap, ◌∙◌, subst}
use Rattle.table_model.specs.Address.{Prefix, same_family}
use Rattle.table_model.specs.declared.family.Family.{Family}
use Rattle.table_model.specs.Entries.{Entries}
use Rattle.route_model.specs.Events.{Elem}
use Rattle.kept_model.specs.Kept.{changed_at}
use Rattle.fib_addr.specs.declared.entry.Hop as code_hop
use Rattle.fib_addr.specs.declared.prefix.Prefix as code_prefix
use Rattle.fib_addr.specs.Answers.{all_answers}
use Rattle.poptrie_set.specs.declared.trie_set.Oldest.{Oldest}
use Rattle.poptrie_update.specs.Lives.{Living}
use Rattle.route_tries.specs.Parts.{AreAlikeOutside}
use Rattle.route_tries.specs.Sizes.{shortage}
use Rattle.route_tries.specs.declared.sizes.TrieFull as code_full
use Rattle.fib_engine.specs.Held.{EngineState, engine_routes}
use Rattle.fib_engine.specs.Staged.{IsTurn, Staging, planned_route, routes_once, routes_planned}
use Rattle.fib_engine.specs.Stands.{routes_after}
use Rattle.fib_engine.specs.Tables.{Route, route_in}
use Rattle.fib_engine.specs.declared.error.EngineError.{EngineError}
use Rattle.fib_engine.specs.declared.error.EngineError.TheVariants as engine
use Rattle.fib_engine.specs.declared.staged.Planned.{Planned}
use Rattle.fib_engine.proofs.Staging.{turned_elsewhere}
use Rattle.fib_router.specs.Errors.{IsHeldUp, as_not_begun}
use Rattle.fib_router.specs.Lives.{live_of}
use Rattle.fib_router.specs.Router.{IsPinnedFor, Routing}
use Rattle.fib_router.specs.declared.error.NotBegun.{NotBegun}
use Rattle.fib_router.specs.declared.error.NotBegun.TheVariants as error
use Rattle.fib_router.proofs.Through.{answers_known}

-- ---- once it is planned
module _ (old : EngineState) (q : Staging) (e : Elem) (same : q.held ≡ old) (is : q.planned ≡ Some e) where
  now : routes_planned q ≡ routes_after e old
  now = ap (λ (o : Option Elem). routes_once o q.held) is ∙ ap (routes_after e) same

  pub within_now : (p : Prefix) → AreAlikeOutside p (engine_routes old) (routes_after e old) → AreAlikeOutside p (engine_routes q.held) (routes_planned q)
  within_now p o =
      subst (λ (R : Entries). AreAlikeOutside p (engine_routes q.held) R) (sym now) (subst (λ (h : EngineState). AreAlikeOutside p (engine_routes h) (routes_after e old)) (sym same) o)

  pub fits_planned : shortage old.sizes (routes_after e old) ≡ None → shortage q.held.sizes (routes_planned q) ≡ None
  fits_planned f = ap (shortage q.held.sizes) now ∙ (ap (λ (h : EngineState). shortage h.sizes (routes_after e old)) same ∙ f)

  -- a family of which it changes no route
  pub still_now : (p : Planned) → IsTurn e old p → (f : Family) → route_in f (planned_route p) ≡ None → all_answers f (engine_routes q.held) ≡ all_answers f (routes_planned q)
  still_now p turn f none =
      ap (λ (h : EngineState). all_answers f (engine_routes h)) same ∙ (answers_known f (engine_routes old) (routes_after e old) (turned_elsewhere e old p turn f none) ∙ ap (all_answers f) (sym now))

-- a route of another family
pub routed_elsewhere : (route : Route) (r : code_prefix.Prefix × code_hop.Hop) (f : Family) → route ≡ Some r → same_family r.0.family f ≡ false → route_in f route ≡ None
routed_elsewhere route r f is apart = ap (route_in f) is ∙ ap (λ (b : Bool). let o : Route = cond b (Some r) None in o) apart

pub routed_nowhere : (route : Route) (f : Family) → route ≡ None → route_in f route ≡ None
routed_nowhere route f is = ap (route_in f) is

-- ---- what is said
pub hops_said : (e : EngineError) → (as_not_begun e ≡ error.HopsFull → e ≡ engine.HopsFull) × (e ≡ engine.HopsFull → as_not_begun e ≡ error.HopsFull)
hops_said engine.HopsFull = ((λ i. refl), (λ i. refl))
hops_said (engine.TrieFull t) = ((λ i. absurd (cc)), (λ i. absurd (cc)))
hops_said engine.NoMemory = ((λ i. absurd (cc)), (λ i. absurd (cc)))

pub full_said : (e : EngineError) (t : code_full.TrieFull) → as_not_begun e ≡ error.TrieFull t → e ≡ engine.TrieFull t
full_said engine.HopsFull t i = absurd (cc)
full_said (engine.TrieFull s) t i = let same : s ≡ t = cc in ap engine.TrieFull same
full_said engine.NoMemory t i = absurd (cc)

pub not_pinned : (who : Oldest) (x : Elem) (r : Routing) (e : EngineError) → IsPinnedFor who x r (as_not_begun e)
not_pinned who x r engine.HopsFull = tt
not_pinned who x r (engine.TrieFull t) = tt
not_pinned who x r engine.NoMemory = tt

-- of a trie that isn't made ready neither is said
pub hindered_not_hops : (who : Oldest) (e : NotBegun) (l : Living) (L M : Entries) → IsHeldUp who e l L M → e ≡ error.HopsFull → ⊥
hindered_not_hops who e l L M h is = subst (λ (x : NotBegun). IsHeldUp who x l L M) is h

pub hindered_not_full : (who : Oldest) (e : NotBegun) (l : Living) (L M : Entries) (t : code_full.TrieFull) → IsHeldUp who e l L M → e ≡ error.TrieFull t → ⊥
hindered_not_full who e l L M t h is = subst (λ (x : NotBegun). IsHeldUp who x l L M) is h

pub err_same : {A E : Type 0} {x y : E} → (let r : Result A E = Err x in r) ≡ Err y → x ≡ y
err_same e = cc

-- where its trie is hindered
pub pinned_by : (who : Oldest) (e : Elem) (r : Routing) (why : NotBegun) (p : Prefix) → changed_at r.held.candidates e ≡ Some p → IsHeldUp who why (live_of p.family r.lives) (engine_routes r.held) (routes_after e r.held) → IsPinnedFor who e r why
pinned_by who e r error.HopsFull p is h = tt
pinned_by who e r (error.TrieFull t) p is h = tt
pinned_by who e r (error.Pinned need cursor arena largest) p is h = (p, is, h)
pinned_by who e r error.NoMemory p is h = tt

-- what is said of it is told of the routes before the event and after it
pub hindered_now : (who : Oldest) (why : NotBegun) (l : Living) (old : EngineState) (q : Staging) (e : Elem) → q.held ≡ old → q.planned ≡ Some e → IsHeldUp who why l (engine_routes q.held) (routes_planned q) → IsHeldUp who why l (engine_routes old) (routes_after e old)
hindered_now who why l old q e same is h =
    subst (λ (g : EngineState). IsHeldUp who why l (engine_routes g) (routes_after e g)) same (subst (λ (o : Option Elem). IsHeldUp who why l (engine_routes q.held) (routes_once o q.held)) is h)
