use Rattle.std.proofs.Common.{◌+◌, arith, ◌∙◌, rules, length}
use Rattle.std.proofs.lemmas.Grind.{common_steps}
use Rattle.std.proofs.lemmas.Result.{err_from_is_err_and}
use Rattle.fib_io.specs.Pieces.{ComeNext, IsEnd}
use Rattle.fib_io.proofs.Coming.{longer_by, read_all, read_more, told_before}
use Rattle.fib_io.proofs.Passing.{pass_ends, pass_goes_on, pass_refused, pass_stops}
use Rattle.fib_io.proofs.pieces.read_through.Goals as goal

pub returns-then-n-eq0-clause-whole : goal.returns-then-n-eq0-clause-whole
returns-then-n-eq0-clause-whole g c = read_all _ c.loop-octets.octets.items c.len-at.result (search rules) (told_before _ _ c.args.name.now (λ o. IsEnd o c.len-at.result) c.loop-octets.invariant.same (c.in_ok-n.ensures.end c.if-n-eq0.true)) c.loop-octets.invariant.on

pub loop-octets-preserved : goal.loop-octets-preserved
loop-octets-preserved g c = record {
  some = c.in_ok-n.ensures.some;
  most = grind (arith, common_steps);
  on = read_more _ c.loop-octets.octets.items c.extend_from_slice.new.self.items c.read_piece.new.room c.len-at.result c.in_ok-n.n (search rules) c.in_ok-n.ensures.most c.in_ok-extend_from_slice.ensures.items (told_before _ _ c.args.name.now (λ o. ComeNext o c.len-at.result c.read_piece.new.room c.in_ok-n.n) c.loop-octets.invariant.same c.in_ok-n.ensures.comes) c.loop-octets.invariant.on;
  same = c.in_ok-n.ensures.same ∙ c.loop-octets.invariant.same;
  kept = c.in_ok-n.ensures.cause ∙ c.loop-octets.invariant.kept;
  made = pass_goes_on _ _ _ c.args.name.now (length c.loop-octets.octets.items) c.len-at.result (length c.extend_from_slice.new.self.items) c.in_ok-n.n (search rules)
      (longer_by c.loop-octets.octets.items c.extend_from_slice.new.self.items c.read_piece.new.room c.in_ok-n.n c.in_ok-n.ensures.most c.in_ok-extend_from_slice.ensures.items)
      (grind (arith, common_steps)) c.loop-octets.invariant.made c.in_ok-n.ensures.made;
}

pub returns-in_err-n-clause-made : goal.returns-in_err-n-clause-made
returns-in_err-n-clause-made g c =
    let p = err_from_is_err_and c.from_residual.result c.from_residual.ensures.1 in
    rw (p.1, p.2) (pass_refused _ _ _ c.args.name.now (length c.loop-octets.octets.items) c.len-at.result c.in_err-n.field-0.0 (search rules) c.loop-octets.invariant.most c.loop-octets.invariant.made c.in_err-n.ensures.made)

pub returns-then-n-eq0-clause-made : goal.returns-then-n-eq0-clause-made
returns-then-n-eq0-clause-made g c = pass_ends _ _ _ c.args.name.now (length c.loop-octets.octets.items) c.len-at.result c.in_ok-n.n (search rules) c.loop-octets.invariant.most c.if-n-eq0.true c.loop-octets.invariant.made c.in_ok-n.ensures.made

pub returns-in_err-extend_from_slice-clause-made : goal.returns-in_err-extend_from_slice-clause-made
returns-in_err-extend_from_slice-clause-made g c =
    let p = err_from_is_err_and c.from_residual-in_err-extend_from_slice.result c.from_residual-in_err-extend_from_slice.ensures.1 in
    rw (p.1, p.2) (pass_stops _ _ c.args.name.now (c.len-at.result + c.in_ok-n.n) (grind (arith, common_steps))
    (pass_goes_on _ _ _ c.args.name.now (length c.loop-octets.octets.items) c.len-at.result (c.len-at.result + c.in_ok-n.n) c.in_ok-n.n (search rules) (search rules) (grind (arith, common_steps)) c.loop-octets.invariant.made c.in_ok-n.ensures.made))
