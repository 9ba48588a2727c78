use Rattle.buddy_arena.proofs.Kept.{kept_greatest}
use Rattle.buddy_arena.proofs.fresh.largest_kept.Goals as goal

pub returns : goal.returns
returns c = kept_greatest c.args.order c.args.places.now c.requires.kept c.requires.few c.greatest_below.result c.greatest_below.ensures
