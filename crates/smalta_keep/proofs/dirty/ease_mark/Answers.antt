use Rattle.fib_addr.specs.Views.{prefix_as}
use Rattle.fib_delta.proofs.Held.{is_prefix}
use Rattle.smalta_keep.proofs.Knowing.{eased_one}
use Rattle.smalta_keep.proofs.dirty.ease_mark.Goals as goal

pub returns : goal.returns
returns c = eased_one (prefix_as c.args.prefix.now) 0 c.args.dirty.now c.set_entry.new.self c.requires (is_prefix c.args.prefix.now) c.family-family.ensures.order.1 c.set_entry.ensures.family c.in_ok-set_entry.ensures.entries
