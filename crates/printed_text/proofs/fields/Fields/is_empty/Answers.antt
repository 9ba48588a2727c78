use Rattle.std.proofs.Common.{[], subst}
use Rattle.std.specs.Prelude.{◌≡◌, ◌↔◌, IsTrue}
use Rattle.printed_text.proofs.Cutting.{none_left}
use Rattle.printed_text.proofs.fields.Fields.is_empty.Goals as goal

pub returns : goal.returns
returns c = subst (λ fields. IsTrue c.is_none.result ↔ (fields ≡ [])) c.self.view_is (none_left c.self.inside.mark c.self.inside.left c.is_none.result c.is_none.ensures)
