-- Candidates after what stands in their room was carried out.
use Rattle.std.proofs.Common.{◌≡◌, Option, Some, subst}
use Rattle.std.specs.Prelude.{IfSome}
use Rattle.route_model.specs.Choice.{Candidates, after_elem}
use Rattle.route_model.specs.Events.{Elem}

pub carried : (room : Option Elem) (elem : Elem) (old new : Candidates) → room ≡ Some elem → IfSome room (λ e. new ≡ after_elem old e) → new ≡ after_elem old elem
carried room elem old new is made = subst (λ (r : Option Elem). IfSome r (λ (e : Elem). new ≡ after_elem old e)) is made
