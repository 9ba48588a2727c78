use Rattle.std.proofs.Common.{ap, ◌∙◌, ◌+◌}
use Rattle.std.specs.Prelude.{◌&&◌, nat_lt}
use Rattle.std.proofs.Math.Dec.{leb}
use Rattle.std.proofs.lemmas.Bool.{leb-true, le-leb, lt-leb}
use Rattle.mrt_write.proofs.Rooms.{room_is, room_left}
use Rattle.mrt_write.proofs.growing.has_room.Goals as goal

pub returns-clause-fits : goal.returns-clause-fits
returns-clause-fits c = λ peers ids p e1 e2 e3 e4.
    ap (λ b. (b && nat_lt c.args.count 65535) && leb (7 + c.from.result + c.args.octets + c.args.more) 16777216) c.eq-same.ensures
    ∙ room_is c.args.prefix.now c.args.count c.args.octets c.args.cand.now c.args.more c.from.result _ (c.from.ensures ∙ c.div_ceil.ensures) (λ h. le-leb _ _ h) (λ h. lt-leb _ _ h) peers ids p e1 e2 e3 e4

pub returns-clause-room : goal.returns-clause-room
returns-clause-room c = room_left c.eq-same.result c.args.count c.args.octets c.args.more c.from.result _ (λ e. leb-true _ _ e)
