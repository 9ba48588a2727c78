use Rattle.std.proofs.Common.{◌≡◌, suc, length, ap, ◌∙◌}
use Rattle.std.specs.Prelude.{slice_get}
use Rattle.adj_rib_in.specs.Flat.{off_or}
use Rattle.adj_rib_in.proofs.flat.Flat.run_of.Goals as goal

pub returns : goal.returns
returns c =
    let n : c.slot_count-end.result ≡ length c.args.self.now.rows.slots = c.slot_count-end.ensures in
    (c.off_at.ensures ∙ ap (λ e. off_or e (slice_get c.args.self.now.rows.items c.args.row)) n, c.off_behind.ensures ∙ ap (λ e. off_or e (slice_get c.args.self.now.rows.items (suc c.args.row))) n)
