use Rattle.std.proofs.Common.{◌≡◌, sym, ◌∙◌}
use Rattle.kept_model.specs.Between.{place_of}
use Rattle.smalta_keep.proofs.Making.{one_at, keeps_more, room_more}
use Rattle.smalta_keep.proofs.entries.make_room.Goals as goal

pub make_room_for-requires : goal.make_room_for-requires
make_room_for-requires c = one_at (λ d. (place_of d).family ≡ c.args.tree.now.family) c.args.changes.now c.loop-change.change-index c.change-item.result c.loop-change-test.true c.change-item.is c.requires ∙ sym c.loop-change.invariant.keeps.family

pub loop-change-preserved : goal.loop-change-preserved
loop-change-preserved c = record {
  keeps = keeps_more _ _ _ c.loop-change.invariant.keeps c.make_room_for.ensures.keeps;
  entries = c.make_room_for.ensures.entries ∙ c.loop-change.invariant.entries;
  room = room_more _ _ c.args.changes.now c.loop-change.change-index c.change-item.result c.loop-change-test.true c.change-item.is c.make_room_for.ensures.keeps.nodes c.loop-change.invariant.room c.in_ok-make_room_for.ensures.room;
}
