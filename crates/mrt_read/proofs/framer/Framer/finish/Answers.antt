use Rattle.std.proofs.Common.{ap, option_map, arith}
use Rattle.std.proofs.lemmas.List.{drop_all, length-drop}
use Rattle.mrt_read.specs.Records.{fault_of}
use Rattle.mrt_read.proofs.FramerStanding.{ends_refused, ends_in_fault, ends_whole, front_fault}
use Rattle.mrt_read.proofs.framer.Framer.finish.Goals as goal

pub returns-in-Some-clause-tells : goal.returns-in-Some-clause-tells
returns-in-Some-clause-tells c = λ fed taken s. ends_refused fed taken c.args.self.now _ (ap (option_map fault_of) c.in-Some.is) s

pub returns-in-Err-clause-tells : goal.returns-in-Err-clause-tells
returns-in-Err-clause-tells c =
    let none = ap (option_map fault_of) c.in_default.is in
    let front = front_fault c.args.self.now.kept.items c.deref.result.now c.args.self.now.at c.in-Err.rule c.deref.ensures.value c.in-Err.ensures.value in
    λ fed taken s. ends_in_fault fed taken c.args.self.now c.in-Err.rule none (omega (arith, length-drop c.args.self.now.at c.args.self.now.kept.items)) front s

pub returns-in_default-read_header-clause-tells : goal.returns-in_default-read_header-clause-tells
returns-in_default-read_header-clause-tells c =
    let none = ap (option_map fault_of) c.in_default.is in
    λ fed taken s. ends_whole fed taken c.args.self.now none (drop_all c.args.self.now.at c.args.self.now.kept.items (omega arith)) s
