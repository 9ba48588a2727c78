use Rattle.std.proofs.Common.{◌∙◌, ap}
use Rattle.std.specs.Prelude.{option_map}
use Rattle.fib_words.specs.Commands.{asked_as}
use Rattle.fib_words.specs.declared.CommandWords.TheVariants.{Make}
use Rattle.fib_words.proofs.Words.{no_routes_word, no_routes, no_seed_word, no_seed, all_made}
use Rattle.fib_words.proofs.make_words.Goals as goal

pub returns-in_err-get_str-clause-same : goal.returns-in_err-get_str-clause-same
returns-in_err-get_str-clause-same c =
    ap (option_map (λ made. asked_as (Make made))) c.from_residual.ensures ∙ no_routes_word _ c.in_err-get_str.ensures

pub returns-in_err-routes-clause-same : goal.returns-in_err-routes-clause-same
returns-in_err-routes-clause-same c =
    ap (option_map (λ made. asked_as (Make made))) c.from_residual-in_err-routes.ensures ∙ no_routes _ _ c.in_ok-get_str.ensures c.in_err-routes.ensures.same

pub returns-in_err-get_str-2-clause-same : goal.returns-in_err-get_str-2-clause-same
returns-in_err-get_str-2-clause-same c =
    ap (option_map (λ made. asked_as (Make made))) c.from_residual-in_err-get_str-2.ensures
    ∙ no_seed_word _ _ _ c.in_ok-get_str.ensures c.in_ok-routes.ensures.same c.in_err-get_str-2.ensures

pub returns-in_err-seed-clause-same : goal.returns-in_err-seed-clause-same
returns-in_err-seed-clause-same c =
    ap (option_map (λ made. asked_as (Make made))) c.from_residual-in_err-seed.ensures
    ∙ no_seed _ _ _ _ c.in_ok-get_str.ensures c.in_ok-routes.ensures.same c.in_ok-get_str-2.ensures c.in_err-seed.ensures

pub returns-clause-same : goal.returns-clause-same
returns-clause-same c = all_made _ _ _ _ _ c.in_ok-get_str.ensures c.in_ok-routes.ensures.same c.in_ok-get_str-2.ensures c.in_ok-seed.ensures
