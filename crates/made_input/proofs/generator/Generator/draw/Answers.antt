use Rattle.made_input.proofs.Drawing.{stepped, drawn}
use Rattle.made_input.proofs.generator.Generator.draw.Goals as goal

pub returns-clause-value : goal.returns-clause-value
returns-clause-value c = drawn c.args.self.now.state _ (stepped c.args.self.now.state)

pub returns-clause-state : goal.returns-clause-state
returns-clause-state c = stepped c.args.self.now.state
