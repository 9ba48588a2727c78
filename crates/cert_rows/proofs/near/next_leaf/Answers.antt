use Rattle.cert_rows.proofs.Above.{above_short}
use Rattle.cert_rows.proofs.near.next_leaf.Goals as goal

pub half-upper-requires : goal.half-upper-requires
half-upper-requires c = above_short c.args.prefix.now c.region_above.result c.region_above.ensures
