use Rattle.std.proofs.Common.{sym, ◌∙◌, arith}
use Rattle.fib_addr.specs.Views.{prefix_as}
use Rattle.fib_addr.proofs.Prefixes.{is_prefix}
use Rattle.poptrie_build.proofs.OneRoute.{all_of_entry, none_of_entry, hop_of_none, two_of_entry}
use Rattle.lookup_tests.proofs.common.OneRouteAnswers.uniform.Goals as goal

pub returns-then-is_within-clause-one : goal.returns-then-is_within-clause-one
returns-then-is_within-clause-one c = all_of_entry (prefix_as c.args.prefix.now) (prefix_as c.args.self.now.prefix) c.args.self.now.hop.0 (sym c.is_within.ensures ∙ c.if-is_within.true)

pub returns-then-not-is_within-clause-one : goal.returns-then-not-is_within-clause-one
returns-then-not-is_within-clause-one c = none_of_entry (prefix_as c.args.prefix.now) (prefix_as c.args.self.now.prefix) c.args.self.now.hop.0 (sym c.is_within.ensures ∙ c.if-is_within.false) (sym c.is_within-2.ensures ∙ c.if-not-is_within.true)

pub returns-then-self-eq0-clause-one : goal.returns-then-self-eq0-clause-one
returns-then-self-eq0-clause-one c = hop_of_none (prefix_as c.args.prefix.now) (prefix_as c.args.self.now.prefix) c.args.self.now.hop.0 c.if-self-eq0.true

pub returns-clause-differ : goal.returns-clause-differ
returns-clause-differ c = two_of_entry (prefix_as c.args.prefix.now) (prefix_as c.args.self.now.prefix) c.args.self.now.hop.0 (is_prefix c.args.self.now.prefix) (sym c.is_within-2.ensures ∙ c.if-not-is_within.false) (sym c.is_within.ensures ∙ c.if-is_within.false) (λ e. omega (arith, c.if-self-eq0.false, e))
