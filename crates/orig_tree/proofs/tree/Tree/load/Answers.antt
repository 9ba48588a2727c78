use Rattle.orig_tree.proofs.Loading.{all_prefixes}
use Rattle.orig_tree.proofs.tree.Tree.load.Goals as goal

pub load_from-requires : goal.load_from-requires
load_from-requires c = all_prefixes c.args.routes.now
