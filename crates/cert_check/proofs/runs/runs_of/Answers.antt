use Rattle.std.proofs.Common.{[], ℕ, subst, List, ◌∙◌}
use Rattle.table_model.specs.Width.{width}
use Rattle.std.specs.Prelude.{map}
use Rattle.fib_addr.specs.Views.{entry_as}
use Rattle.cert_check.specs.declared.runs.Run.{Run}
use Rattle.cert_check.specs.Runs.{parts_table, Swept}
use Rattle.cert_check.proofs.Sweeps.{tells}
use Rattle.cert_check.proofs.runs.runs_of.Goals as goal

pub returns : goal.returns
returns c =
    let s : Swept (width c.args.family) (parts_table (width c.args.family) c.in_ok-parts.parts.items) 0 0 [] c.sweep.new.runs.items =
    subst (λ (old : List Run). Swept (width c.args.family) (parts_table (width c.args.family) c.in_ok-parts.parts.items) 0 0 old c.sweep.new.runs.items) (c.reserve.ensures.items ∙ c.new-runs.ensures.items)
    (subst (λ (d : ℕ). Swept d (parts_table d c.in_ok-parts.parts.items) 0 0 c.reserve.new.self.items c.sweep.new.runs.items) c.width.ensures c.in_ok-sweep.ensures) in
    tells c.args.family (map entry_as c.args.entries.now) c.in_ok-parts.parts.items c.sweep.new.runs.items c.in_ok-parts.ensures s
