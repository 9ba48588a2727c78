use Rattle.adj_rib_in.proofs.Packs.{key_packed}
use Rattle.adj_rib_in.proofs.keys.PathKey.new.Goals as goal

pub returns : goal.returns
returns c = key_packed c.args.via.now c.args.prefix.now _ _ _ _
