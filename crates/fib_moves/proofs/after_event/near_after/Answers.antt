use Rattle.std.proofs.Common.{◌≡◌, List, map, sym, subst}
use Rattle.std.proofs.lemmas.Result.{IfOk-weaker}
use Rattle.table_model.specs.Width.{width}
use Rattle.table_model.specs.Entries.{of_family}
use Rattle.kept_model.specs.Between.{between}
use Rattle.fib_addr.specs.Views.{prefix_as}
use Rattle.fib_delta.specs.Views.{change_as}
use Rattle.moves_model.specs.Rows.{near_in}
use Rattle.fib_moves.specs.Turns.{AreTurned}
use Rattle.fib_moves.proofs.Turns.{near_told, turn_short}
use Rattle.fib_moves.proofs.Ways.{way_turn}
use Rattle.fib_moves.proofs.Whole.{tree_family, near_is_shortest}
use Rattle.moves_model.specs.Shortest.{AreShortest}
use Rattle.table_model.specs.Changes.{Change as ModelChange}
use Rattle.fib_moves.proofs.Prefix.{before_beside, prefix_place, prefix_gives}
use Rattle.fib_moves.proofs.after_event.near_after.Goals as goal

pub climb-requires-clause-place : goal.climb-requires-clause-place
climb-requires-clause-place c =
    let r = c.region in
    prefix_place c.args.tree.now c.args.prefix.now c.walk-way.result r.result c.walk-way.ensures r.ensures.bits r.ensures.answers r.ensures.entries

pub climb-requires-clause-right : goal.climb-requires-clause-right
climb-requires-clause-right c =
    let r = c.region in
    prefix_gives c.args.tree.now c.args.prefix.now c.walk-way.result r.result c.walk-way.ensures r.ensures.bits r.ensures.answers r.ensures.entries c.requires.before

pub list_event-requires-clause-place : goal.list_event-requires-clause-place
list_event-requires-clause-place c =
    let r = c.region in
    prefix_place c.args.tree.now c.args.prefix.now c.walk-way.result r.result c.walk-way.ensures r.ensures.bits r.ensures.answers r.ensures.entries

pub list_event-requires-clause-right : goal.list_event-requires-clause-right
list_event-requires-clause-right c =
    let r = c.region in
    prefix_gives c.args.tree.now c.args.prefix.now c.walk-way.result r.result c.walk-way.ensures r.ensures.bits r.ensures.answers r.ensures.entries c.requires.before

pub list_event-requires-clause-within : goal.list_event-requires-clause-within
list_event-requires-clause-within c =
    let k = c.args.tree.now in
    let T = of_family k.family k.entries in
    turn_short (width k.family) T c.args.prefix.now c.walk-way.result.turn (way_turn k.family (of_family k.family k.routes) T (prefix_as c.args.prefix.now).bits c.walk-way.result c.walk-way.ensures)

pub returns : goal.returns
returns c =
    let k = c.args.tree.now in
    let T = of_family k.family k.entries in
    let w = c.walk-way in
    let r = c.region in
    let p = c.args.prefix.now in
    let order = c.family-family.ensures.order in
    let beside = before_beside (width k.family) (prefix_as p).bits (of_family k.family k.routes) T c.requires.before in
    let all = tree_family k c.root-root.result.entries c.root-root.ensures.entries in
    record {
      changes = IfOk-weaker c.list_event.result (λ v. AreTurned r.result p w.result.turn (map change_as v.items)) (λ v. map change_as v.items ≡ between k.entries (near_in k.family k.routes k.entries))
          (λ v x. near_told k p w.result.turn r.result (map change_as v.items) c.requires.family order.1 all beside
          r.ensures.bits r.ensures.answers r.ensures.entries (way_turn k.family (of_family k.family k.routes) T (prefix_as p).bits w.result w.ensures) w.ensures.old w.ensures.inherited x)
          c.list_event.ensures;
      shortest = IfOk-weaker c.list_event.result (λ v. AreTurned r.result p w.result.turn (map change_as v.items)) (λ v. AreShortest k.family k.routes k.entries (map change_as v.items))
          (λ v x. subst (λ (cs : List ModelChange). AreShortest k.family k.routes k.entries cs) (sym (near_told k p w.result.turn r.result (map change_as v.items) c.requires.family order.1 all beside
          r.ensures.bits r.ensures.answers r.ensures.entries (way_turn k.family (of_family k.family k.routes) T (prefix_as p).bits w.result w.ensures) w.ensures.old w.ensures.inherited x)) (near_is_shortest k order.1 order.0 all))
          c.list_event.ensures;
    }
