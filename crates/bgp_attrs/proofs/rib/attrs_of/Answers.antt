use Rattle.std.specs.Prelude.{is_some}
use Rattle.bgp_attrs.proofs.Entries.{listed_in_rib}
use Rattle.bgp_attrs.proofs.rib.attrs_of.Goals as goal

pub returns : goal.returns
returns c = listed_in_rib c.args.family c.args.found.now.path _ _ _ c.args.found.now.reach _ _ (is_some c.args.found.now.reach) c.empty.ensures c.unwrap_or-path.ensures c.none.ensures c.unwrap_or.ensures
