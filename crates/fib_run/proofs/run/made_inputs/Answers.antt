use Rattle.std.proofs.Common.{ℕ, List, [], Option, ap, ◌∙◌}
use Rattle.std.specs.Prelude.{codes, unwrap_or}
use Rattle.fib_run.proofs.Making.{Content, made_held}
use Rattle.fib_run.proofs.run.made_inputs.Goals as goal

pub returns : goal.returns
returns c =
    let held = made_held _ _ _ _ _ c.in_ok-names.ensures.items c.in_ok-push.ensures.items c.in_ok-push-2.ensures.items c.in_ok-from_str.ensures.ok c.in_ok-from_str-2.ensures.ok in (
      ap (λ (f : Content). unwrap_or (f (codes "dump")) []) c.new.ensures ∙ (ap (λ (o : Option (List ℕ)). unwrap_or o []) held.0 ∙ c.in_ok-dump.ensures.dump),
      ap (λ (f : Content). unwrap_or (f (codes "updates")) []) c.new.ensures ∙ (ap (λ (o : Option (List ℕ)). unwrap_or o []) held.1 ∙ c.in_ok-dump.ensures.updates),
    )
