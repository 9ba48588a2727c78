-- Rows after rows.
use Rattle.std.specs.Prelude.{◌≡◌, List, ◌++◌}
use Rattle.std.proofs.Common.{ap, ◌∙◌, append_assoc}
use Rattle.cert_model.specs.Rows.{CertRow}

-- rows, and then more
pub more_rows : (a b c rows more : List CertRow) → b ≡ a ++ rows → c ≡ b ++ more → c ≡ a ++ (rows ++ more)
more_rows a b c rows more first next = next ∙ (ap (λ xs. xs ++ more) first ∙ append_assoc a rows more)
