use Rattle.std.proofs.Common.{subst, sym, ◌∙◌}
use Rattle.std.specs.Prelude.{ℕ, Option, MatchOption}
use Rattle.adj_rib_in.specs.Flat.{HasNoKey, IsSlotOf}
use Rattle.adj_rib_in.proofs.Parts.{attrs_over, attrs_under}
use Rattle.route_choice.proofs.both.offered_by.Goals as goal

pub returns-in-Some : goal.returns-in-Some
returns-in-Some c = sym (attrs_under c.args.key.now _ c.args.paths.now.entries c.attrs_at.result c.attrs_at.ensures)

pub returns-in-None : goal.returns-in-None
returns-in-None c = c.attrs_at-in-None.ensures ∙ sym (attrs_over c.args.key.now _ c.args.paths.now.entries (subst (λ (o : Option ℕ). MatchOption o (HasNoKey c.args.flat.now c.args.key.now) (IsSlotOf c.args.flat.now c.args.key.now)) c.in-None.is c.requires.place))
