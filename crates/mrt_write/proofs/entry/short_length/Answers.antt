use Rattle.std.proofs.Common.{◌<◌, arith}
use Rattle.fib_addr.specs.Views.{addr_as}
use Rattle.fib_prefix.specs.Views.{cand_as}
use Rattle.mrt_write.proofs.Lengths.{length_none, length_some, length_v4, length_v6}
use Rattle.mrt_write.proofs.entry.short_length.Goals.{in-V4, in-V6}
use Rattle.mrt_write.proofs.entry.short_length.Goals as goal

pub returns-then-cand-eq0 : goal.returns-then-cand-eq0
returns-then-cand-eq0 c =
    let none = length_none (cand_as c.args.cand.now) c.if-cand-eq0.true in
    elim c.match-cand.branch [
      | in-V4 w ↦ omega (arith, w.hop-is, none, length_v4 (addr_as c.args.cand.now.hop) w.in-V4.is)
      | in-V6 w ↦ omega (arith, w.hop-is, none, length_v6 (addr_as c.args.cand.now.hop) w.in-V6.is)
    ]

pub returns : goal.returns
returns c =
    let some : 0 < c.args.cand.now.path = omega (arith, c.if-cand-eq0.false) in
    let long = length_some (cand_as c.args.cand.now) some c.requires in
    elim c.match-cand.branch [
      | in-V4 w ↦ omega (arith, w.hop-is, long, length_v4 (addr_as c.args.cand.now.hop) w.in-V4.is)
      | in-V6 w ↦ omega (arith, w.hop-is, long, length_v6 (addr_as c.args.cand.now.hop) w.in-V6.is)
    ]
