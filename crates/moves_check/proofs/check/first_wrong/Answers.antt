use Rattle.std.proofs.Common.{◌≡◌, [], None, map, sym, ap, ◌∙◌, subst}
use Rattle.std.specs.Prelude.{option_map}
use Rattle.std.specs.Option.{option_or}
use Rattle.std.proofs.lemmas.Result.{IfOk-weaker}
use Rattle.table_model.specs.Entries.{Entries, in_order}
use Rattle.kept_model.specs.Between.{AreEntries}
use Rattle.cert_model.specs.Verdict.{twice}
use Rattle.cert_check.specs.Runs.{RunsTell}
use Rattle.cert_model.specs.Views.{row_as}
use Rattle.fib_addr.specs.Views.{entry_as}
use Rattle.fib_delta.specs.Views.{change_as}
use Rattle.moves_model.specs.Verdict.{Twice, Apply, first_refused, changed_by_all, answers_differ, wrong_moves_row, too_many}
use Rattle.moves_check.specs.Views.{no_moves_as}
use Rattle.moves_check.proofs.Wholes.{all_then, tells_from, first_once, prefixes_fit}
use Rattle.moves_check.proofs.check.first_wrong.Goals as goal

pub returns : goal.returns
returns c =
    let f = c.args.family in
    let T = map entry_as c.args.old.now in
    let R = map entry_as c.args.routes.now in
    let cs = map change_as c.args.changes.now in
    let rows = map row_as c.args.rows.now in
    let ab : option_or (option_map Twice (twice T)) (option_map Twice (twice R)) ≡ None = sym c.in_ok-no.ensures ∙ ap (option_map no_moves_as) c.in_default.is in
    let made_of = c.in_ok-no-2.ensures.made c.in_default-2.is in
    let cn : option_map Apply (first_refused cs (in_order T) 1) ≡ None = ap (λ (t : Entries). option_map Apply (first_refused cs t 1)) (sym c.in_ok-table.ensures) ∙ (sym c.in_ok-no-2.ensures.refused ∙ ap (option_map no_moves_as) c.in_default-2.is) in
    let N = map entry_as c.deref.result.now in
    let en : N ≡ changed_by_all cs (in_order T) = ap (map entry_as) c.deref.ensures.value ∙ (c.in_ok-changed.ensures.entries ∙ (made_of ∙ ap (changed_by_all cs) c.in_ok-table.ensures)) in
    let r2 = subst (λ rs. RunsTell f R rs) (sym c.deref-2.ensures.value) c.in_ok-runs.ensures in
    let h3 = subst (λ rs. RunsTell f N rs) (sym c.deref-3.ensures.value) c.in_ok-has.ensures in
    let dn : answers_differ R (changed_by_all cs (in_order T)) f ≡ None = ap (λ (L : Entries). answers_differ R L f) (sym en) ∙ (sym (c.answers_differ.ensures R N r2 h3) ∙ ap (option_map no_moves_as) c.in_default-answers_differ.is) in
    let ent : AreEntries T = (prefixes_fit c.args.old.now, first_once (λ x. Twice x) T (option_map Twice (twice R)) ab) in
    IfOk-weaker c.wrong_in.result _ _ (λ no w.
    all_then (option_map Twice (twice T)) (option_map Twice (twice R)) (option_map Apply (first_refused cs (in_order T) 1)) (answers_differ R (changed_by_all cs (in_order T)) f) (option_or (wrong_moves_row R T f rows [] 1) (too_many R T f cs)) (option_map no_moves_as no) ab cn dn
    (w R T (tells_from _ R T (subst (λ rs. RunsTell f R rs) (sym c.deref-5.ensures.value) c.in_ok-runs.ensures) (ap (map entry_as) c.deref-4.ensures.value ∙ (c.in_ok-kept.ensures.entries ∙ c.in_ok-table.ensures)) ent))) c.wrong_in.ensures
