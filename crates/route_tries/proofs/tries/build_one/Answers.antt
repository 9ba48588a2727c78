use Rattle.std.proofs.Common.{ap, sym, ◌∙◌}
use Rattle.table_model.specs.declared.family.Family.{Family}
use Rattle.fib_addr.specs.Answers.{all_answers}
use Rattle.route_tries.proofs.tries.build_one.Goals as goal

pub returns-in-Ok-clause-filled : goal.returns-in-Ok-clause-filled
returns-in-Ok-clause-filled c =
    let of = c.in_ok-trie.ensures.family ∙ c.family.ensures.family in
    let R = c.args.tree.now.routes in
    record {
      family = c.fill.ensures.kept.0 ∙ of;
      direct = c.fill.ensures.kept.1 ∙ c.in_ok-trie.ensures.direct;
      stands = c.in-Ok.ensures.built R (c.whole.ensures.answers ∙ ap (λ (f : Family). all_answers f R) (sym of));
    }
