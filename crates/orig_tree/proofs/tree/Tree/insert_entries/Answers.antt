use Rattle.orig_tree.proofs.Loading.{all_prefixes}
use Rattle.orig_tree.proofs.tree.Tree.insert_entries.Goals as goal

pub insert_entries_from-requires-clause-prefixes : goal.insert_entries_from-requires-clause-prefixes
insert_entries_from-requires-clause-prefixes c = all_prefixes c.args.entries.now
