use Rattle.std.proofs.Common.{ℕ, ◌+◌, ◌∷◌, Bool, ap, sym, ◌∙◌, take}
use Rattle.std.specs.Prelude.{◌==◌}
use Rattle.std.specs.List.{slice_split}
use Rattle.std.proofs.lemmas.List.{take_rest}
use Rattle.printed_text.specs.Fields.{fields_left}
use Rattle.printed_text.proofs.Cutting.{at_first, none_between}
use Rattle.printed_text.proofs.fields.Fields.next.Goals as goal

pub returns-in-Some : goal.returns-in-Some
returns-in-Some c =
    let text = c.in_ok-text.text.now in
    let mark = c.self.inside.mark in
    let is_mark : ℕ → Bool = λ b. b == mark in
    sym (c.self.view_is)
    ∙ (ap (fields_left mark) c.in_ok-text.was
    ∙ (at_first is_mark text c.in-Some.place c.in-Some.ensures
    ∙ ap (λ rest. take c.in-Some.place text ∷ slice_split is_mark rest) (sym (take_rest text (c.in-Some.place + 1)))))

pub returns-in-None : goal.returns-in-None
returns-in-None c =
    let mark = c.self.inside.mark in
    sym (c.self.view_is) ∙ (ap (fields_left mark) c.in_ok-text.was ∙ none_between (λ b. b == mark) c.in_ok-text.text.now c.in-None.ensures)
