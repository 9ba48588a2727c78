use Rattle.std.proofs.Common.{◌+◌, ◌≡◌, ◌∷◌, [], ◌++◌, map, subst, sym, ap, ◌∙◌}
use Rattle.std.proofs.lemmas.List.{map-append}
use Rattle.step_script.specs.Script.{Step}
use Rattle.std.specs.Prelude.{List}
use Rattle.step_script.specs.Steps.{step_as}
use Rattle.step_script.proofs.Lines.{Left, empty_line, taken_line, bad_line, no_line}
use Rattle.step_script.proofs.script.read_script.Goals as goal

pub loop-line-preserved-in-Continue-1 : goal.loop-line-preserved-in-Continue-1
loop-line-preserved-in-Continue-1 c =
    let more : map step_as c.push.new.self.items ≡ map step_as c.loop-line.steps.items ++ step_as c.in-Ok.step ∷ [] = ap (map step_as) c.in_ok-push-in-Ok.ensures.items ∙ map-append step_as c.loop-line.steps.items (c.in-Ok.step ∷ []) in
    subst (λ (steps : List Step). Left steps (c.loop-line.line_number + 1) c.next.new.self c.args.text.now) (sym more) (taken_line _ _ _ c.in-Some.line.now _ _ _ c.in-Some.ensures.steps c.if-not-is_empty.ensures c.in-Ok.ensures c.loop-line.invariant)

pub returns-in-Err : goal.returns-in-Err
returns-in-Err c = bad_line _ _ _ c.in-Some.line.now _ _ _ c.in-Some.ensures.steps c.if-not-is_empty.ensures c.in-Err.ensures c.loop-line.invariant

pub loop-line-preserved : goal.loop-line-preserved
loop-line-preserved c = empty_line _ _ c.in-Some.line.now _ _ _ c.in-Some.ensures.steps c.if-not-is_empty.ensures c.loop-line.invariant

pub returns : goal.returns
returns c = no_line _ _ _ _ c.in-None.ensures.steps.0 c.loop-line.invariant
