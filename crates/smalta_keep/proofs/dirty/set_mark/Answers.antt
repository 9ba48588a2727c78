use Rattle.std.proofs.Common.{Some, refl}
use Rattle.fib_addr.specs.Views.{prefix_as}
use Rattle.fib_delta.proofs.Held.{is_prefix}
use Rattle.smalta_keep.proofs.Knowing.{touched_one, more_touched}
use Rattle.smalta_keep.proofs.dirty.set_mark.Goals as goal

pub returns-clause-marked : goal.returns-clause-marked
returns-clause-marked c = touched_one (prefix_as c.args.prefix.now) 1 c.args.dirty.now c.set_entry.new.self c.requires (is_prefix c.args.prefix.now) c.family-family.ensures.order.1 c.set_entry.ensures.family c.in_ok-set_entry.ensures.entries refl

pub returns-clause-more : goal.returns-clause-more
returns-clause-more c =
    more_touched (prefix_as c.args.prefix.now) (Some c.args.dirty.now) (Some c.set_entry.new.self)
    (touched_one (prefix_as c.args.prefix.now) 1 c.args.dirty.now c.set_entry.new.self c.requires (is_prefix c.args.prefix.now) c.family-family.ensures.order.1 c.set_entry.ensures.family c.in_ok-set_entry.ensures.entries refl)
