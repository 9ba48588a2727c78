use Rattle.std.proofs.Common.{Some, refl}
use Rattle.fib_report.specs.Sections.{text_in}
use Rattle.fib_report.proofs.Loops.{IfOk-passed}
use Rattle.fib_report.proofs.run_text.RunText.finish.Goals as goal

pub returns : goal.returns
returns c = IfOk-passed (λ v. Some v.items) (Some (text_in c.args.self)) (text_in c.args.self) c.into_inner.result c.map_err.result _ c.map_err.ensures.cases c.map_err.ensures.variant c.into_inner.ensures.ok refl
