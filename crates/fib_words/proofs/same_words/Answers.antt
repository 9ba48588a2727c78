use Rattle.std.proofs.Common.{◌∙◌, Some, ap}
use Rattle.std.specs.Prelude.{map}
use Rattle.fib_words.proofs.Words.{all_same, no_first, no_kind, no_rest}
use Rattle.fib_words.proofs.same_words.Goals as goal

pub returns-in_default : goal.returns-in_default
returns-in_default c = no_first _ c.in_default.ensures

pub returns-in_default-get_strs : goal.returns-in_default-get_strs
returns-in_default-get_strs c = no_rest _ _ c.in-Some.ensures c.in_default-get_strs.ensures

pub returns-in_default-kind_of : goal.returns-in_default-kind_of
returns-in_default-kind_of c = no_kind _ _ _ _ c.in-Some.ensures c.in-Some-get_strs.ensures c.get_str-2.ensures c.in_default-kind_of.ensures

pub returns : goal.returns
returns c =
    ap (λ names. Some (record { first = c.in-Some.first.now; rest = map (λ name. name.now) names; rows = c.in-Some-kind_of.rows })) c.in_ok-rest.ensures.items
    ∙ all_same _ _ _ _ _ c.in-Some.ensures c.in-Some-get_strs.ensures c.get_str-2.ensures c.in-Some-kind_of.ensures
