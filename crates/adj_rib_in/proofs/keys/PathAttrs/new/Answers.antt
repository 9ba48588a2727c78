use Rattle.adj_rib_in.proofs.Packs.{attrs_packed}
use Rattle.adj_rib_in.proofs.keys.PathAttrs.new.Goals as goal

pub returns : goal.returns
returns c = attrs_packed c.args.path c.args.hop.now _
