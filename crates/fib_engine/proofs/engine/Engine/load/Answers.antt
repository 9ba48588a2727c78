use Rattle.std.proofs.Common.{◌≡◌, ◌∷◌, List, [], ◌≤◌, false, length, sym, subst, ap, ◌∙◌}
use Rattle.table_model.specs.Address.{Address}
use Rattle.route_model.specs.Choice.{after_elem}
use Rattle.table_model.specs.Entries.{Entries}
use Rattle.kept_model.specs.Feed.{entries_of, hops_after}
use Rattle.fib_addr.specs.Hops.{most_hops}
use Rattle.fib_prefix.specs.Views.{elem_as}
use Rattle.route_tries.specs.Sizes.{sizes_as}
use Rattle.fib_engine.specs.Held.{AreKeptNeeds, EngineState, if_loaded}
use Rattle.fib_engine.specs.Tables.{table_of}
use Rattle.fib_engine.proofs.Taking.{sound_load, loading_more, is_elem, not_over}
use Rattle.fib_engine.proofs.engine.Engine.load.Goals as goal

pub invariant_of-self-2 : goal.invariant_of-self-2
invariant_of-self-2 c =
    let t = c.self.inside in
    let unloaded : t.parts.is_loaded ≡ false = ap (λ (e : EngineState). e.loaded) c.self.view_is ∙ c.requires in
    let elem = elem_as c.args.elem.now in
    let hops : c.number_hop.new.hops.list ≡ hops_after t.parts.hops.list (elem ∷ []) = c.number_hop.ensures ∙ ap (λ (hs : List Address). hops_after hs (elem ∷ [])) c.room.ensures.list in (
      sound_load t.parts.candidates.candidates c.load.new.self.candidates t.parts.hops.list c.number_hop.new.hops.list elem t.parts.is_loaded t.parts.tables unloaded c.self.invariant.0 (is_elem c.args.elem.now) c.in_ok-load.ensures.candidates hops
          (subst (λ (hs : List Address). length hs ≤ most_hops) (sym hops) (not_over (length (hops_after t.parts.hops.list (elem ∷ []))) c.in_ok-own.ensures.full.1)),
      subst (λ (E : Entries). AreKeptNeeds (sizes_as t.parts.limits.sizes) E t.parts.needs) (ap (λ l. if_loaded l (entries_of t.parts.hops.list t.parts.candidates.candidates)) unloaded ∙ sym (ap (λ l. if_loaded l (entries_of c.number_hop.new.hops.list c.load.new.self.candidates)) unloaded)) c.self.invariant.1,
    )

pub returns-clause-loading : goal.returns-clause-loading
returns-clause-loading c = λ load s.
    let t = c.self.inside in
    let elem = elem_as c.args.elem.now in
    let new : EngineState = record { every = t.parts.limits.every; fewest = t.parts.limits.fewest; sizes = sizes_as t.parts.limits.sizes; candidates = c.load.new.self.candidates; hops = c.number_hop.new.hops.list; table = table_of t.parts.tables; loaded = t.parts.is_loaded; events = t.parts.events; moves = t.parts.moves } in
    loading_more load elem c.args.self.now new (is_elem c.args.elem.now) (c.in_ok-load.ensures.candidates ∙ ap (λ (e : EngineState). after_elem e.candidates elem) c.self.view_is)
    (c.number_hop.ensures ∙ (ap (λ (hs : List Address). hops_after hs (elem ∷ [])) c.room.ensures.list ∙ ap (λ (e : EngineState). hops_after e.hops (elem ∷ [])) c.self.view_is))
    (ap (λ (e : EngineState). e.table) c.self.view_is) (ap (λ (e : EngineState). e.loaded) c.self.view_is) (ap (λ (e : EngineState). e.events) c.self.view_is) (ap (λ (e : EngineState). e.moves) c.self.view_is) s
