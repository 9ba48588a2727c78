use Rattle.std.proofs.Common.{ℕ, ◌+◌, cond, ap, ◌∙◌, Some}
use Rattle.std.proofs.lemmas.Result.{IfOk-weaker}
use Rattle.orig_tree.specs.Spots.{spot_answers}
use Rattle.fib_moves.specs.Needs.{IsBoxed, IsJoined}
use Rattle.fib_moves.proofs.Parts.{joined_some}
use Rattle.fib_moves.proofs.needs.put_together.Goals as goal
use Rattle.fib_moves.specs.Views.{allowed_as}

pub may_inherit-requires : goal.may_inherit-requires
may_inherit-requires c =
    let r = c.args.low.now in
    c.hops_of.ensures r.bits (spot_answers r) r.entries c.requires.low

pub may_inherit-requires-2 : goal.may_inherit-requires-2
may_inherit-requires-2 c =
    let r = c.args.high.now in
    c.hops_of-2.ensures r.bits (spot_answers r) r.entries c.requires.high

pub returns : goal.returns
returns c =
    let low = c.args.low.now in
    let high = c.args.high.now in
    IfOk-weaker c.boxed.result (IsBoxed c.in_ok-joined.joined.hops c.in_ok-k-2.k c.args.under_low c.args.under_high) (λ b. IsJoined low high (Some b))
    (λ b w. joined_some low high b (allowed_as c.in_ok-first.first) (allowed_as c.in_ok-second.second) (allowed_as c.in_ok-joined.joined.hops) c.in_ok-k-2.k c.in_ok-low_k.low_k c.in_ok-high_k.high_k c.in_ok-joined.joined.apart c.args.under_low c.args.under_high
    c.in_ok-first.ensures c.in_ok-second.ensures c.in_ok-joined.ensures.hops c.in_ok-joined.ensures.apart c.in_ok-low_k.ensures c.in_ok-high_k.ensures
    (c.in_ok-k-2.ensures ∙ ap (λ (n : ℕ). cond c.in_ok-joined.joined.apart (n + 1) n) c.in_ok-k.ensures) c.requires.low c.requires.high c.requires.some (ap allowed_as w.0) w.1 w.2 w.3)
    c.boxed.ensures
