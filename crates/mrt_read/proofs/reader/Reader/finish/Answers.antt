use Rattle.std.proofs.Common.{ap, option_map}
use Rattle.mrt_read.specs.Records.{fault_of}
use Rattle.mrt_read.proofs.Standing.{ends_as, tells, tells_refused}
use Rattle.mrt_read.proofs.reader.Reader.finish.Goals as goal

pub returns-in-Some-clause-tells : goal.returns-in-Some-clause-tells
returns-in-Some-clause-tells c = tells_refused c.args.self.now _ (ap (option_map fault_of) c.in-Some.is)

pub returns-clause-gives : goal.returns-clause-gives
returns-clause-gives c = ends_as c.args.self.now c.finish.result (ap (option_map fault_of) c.in_default.is) (c.args.self.now.going c.in_default.is).0 (c.args.self.now.going c.in_default.is).1 c.finish.ensures.gives

pub returns-clause-tells : goal.returns-clause-tells
returns-clause-tells c = tells c.args.self.now c.finish.result (ap (option_map fault_of) c.in_default.is) (c.args.self.now.going c.in_default.is).0 (c.args.self.now.going c.in_default.is).1 c.requires c.finish.ensures.gives
