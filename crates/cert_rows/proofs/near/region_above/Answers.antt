use Rattle.std.proofs.Common.{◌-◌, ap, sym, ◌∙◌}
use Rattle.table_model.specs.Address.{first_bits}
use Rattle.fib_addr.specs.Text.{first_address}
use Rattle.fib_addr.specs.Views.{prefix_as}
use Rattle.cert_rows.proofs.Above.{length_is}
use Rattle.cert_rows.proofs.near.region_above.Goals as goal

pub returns : goal.returns
returns c =
    let p = c.args.prefix.now in
    c.new.ensures ∙ (ap (first_bits c.saturating_sub.result) c.first_addr.ensures ∙ ap (λ n. first_bits n (first_address (prefix_as p))) (c.saturating_sub.ensures ∙ ap (λ n. n - 1) (sym (length_is p))))
