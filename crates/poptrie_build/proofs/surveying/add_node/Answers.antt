use Rattle.poptrie_build.proofs.More_surveyed.{surveyed_node}
use Rattle.poptrie_build.proofs.surveying.add_node.Goals as goal

pub returns-clause-node : goal.returns-clause-node
returns-clause-node c = λ g hops. surveyed_node g hops c.args.slot c.args.survey.now.vectors.vector c.args.survey.now.vectors.leafvec c.args.survey.now.leaves c.args.survey.now.vectors.last c.requires
