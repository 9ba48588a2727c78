use Rattle.std.proofs.Common.{◌≡◌, ◌+◌, List, drop, map, sym, ◌∙◌, subst, Option}
use Rattle.std.specs.Prelude.{IsSome}
use Rattle.table_model.specs.Entries.{Entries}
use Rattle.table_model.specs.Changes.{after_changes}
use Rattle.kept_model.specs.Between.{place_of}
use Rattle.fib_delta.specs.declared.change.Change as code
use Rattle.fib_delta.specs.Views.{change_as}
use Rattle.smalta_keep.specs.Rooms.{HasNode}
use Rattle.smalta_keep.proofs.Making.{opened, one_at, kept_one, first_fits}
use Rattle.smalta_keep.proofs.entries.apply_all.Goals as goal

pub apply-requires-clause-family : goal.apply-requires-clause-family
apply-requires-clause-family c = one_at (λ d. (place_of d).family ≡ c.args.tree.now.family) c.args.changes.now c.loop-change.change-index c.change-item.result c.loop-change-test.true c.change-item.is c.requires.family ∙ sym c.loop-change.invariant.keeps.family

pub apply-requires-clause-room : goal.apply-requires-clause-room
apply-requires-clause-room c = kept_one c.args.tree.now.nodes c.loop-change.tree.nodes (change_as c.change-item.result) c.loop-change.invariant.keeps.nodes (one_at (HasNode c.args.tree.now.nodes) c.args.changes.now c.loop-change.change-index c.change-item.result c.loop-change-test.true c.change-item.is c.requires.room)

pub apply-requires-clause-fits : goal.apply-requires-clause-fits
apply-requires-clause-fits c =
    let rest = map change_as (drop (c.loop-change.change-index + 1) c.args.changes.now) in
    first_fits (change_as c.change-item.result) rest c.loop-change.tree.entries
    (subst (λ (cs : List code.Change). IsSome (after_changes (map change_as cs) c.loop-change.tree.entries)) (opened c.args.changes.now c.loop-change.change-index c.change-item.result c.loop-change-test.true c.change-item.is)
    (subst (λ (o : Option Entries). IsSome o) (sym c.loop-change.invariant.entries) c.requires.fit))
