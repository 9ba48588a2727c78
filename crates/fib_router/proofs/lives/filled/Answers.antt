use Rattle.std.proofs.Common.{[], ap, sym, ◌∙◌}
use Rattle.table_model.specs.declared.family.Family.{Family}
use Rattle.fib_addr.specs.Answers.{all_answers}
use Rattle.fib_router.proofs.Room.{not_too_much}
use Rattle.fib_router.proofs.lives.filled.Goals as goal

pub returns : goal.returns
returns c =
    let fam = c.in_ok-live.ensures.family ∙ c.family.ensures.family in
    let shape = c.fill.ensures.shape in
    record {
      few = c.args.sizes.now.few_direct;
      past = c.fill.ensures.past [] [] c.in_ok-live.ensures.past;
      family = shape.0 ∙ fam;
      direct = shape.1 ∙ c.in_ok-live.ensures.direct;
      nodes = shape.2 ∙ c.in_ok-live.ensures.orders.0;
      leaves = shape.3 ∙ c.in_ok-live.ensures.orders.1;
      time = c.fill.ensures.quiet.1 ∙ c.in_ok-live.ensures.quiet.1;
      quiet = c.fill.ensures.quiet.0;
      shows = λ M e. c.in-Ok.ensures.built M (c.whole.ensures.answers ∙ (e ∙ ap (λ (f : Family). all_answers f M) (sym fam)));
    }

pub unreachable-requires : goal.unreachable-requires
unreachable-requires c =
    let fam = c.in_ok-live.ensures.family ∙ c.family.ensures.family in
    let R = c.args.tree.now.routes in
    not_too_much _ _ _ _ c.in_ok-live.live.selected R _ fam c.in_ok-live.ensures.direct c.in_ok-live.ensures.orders.0 c.in_ok-live.ensures.orders.1 c.requires.room (c.in-Err.ensures.full R (c.whole.ensures.answers ∙ ap (λ (f : Family). all_answers f R) (sym fam)))
