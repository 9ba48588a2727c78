use Rattle.cert_check.proofs.Deals.{taken, own_stays, half_stays_low, half_stays_high, half_grows_low, half_grows_high}
use Rattle.cert_check.proofs.runs.Halves.put.Goals as goal

pub returns-in_ok-push-clause-own : goal.returns-in_ok-push-clause-own
returns-in_ok-push-clause-own c = own_stays _ _ _ _ _ (taken _ _ _ _ c.if-part-eq0.false c.if-bit_at.ensures)

pub returns-in_ok-push-clause-low : goal.returns-in_ok-push-clause-low
returns-in_ok-push-clause-low c = half_stays_low c.args.left c.args.self.now.low.items _ _ _ (taken _ _ _ _ c.if-part-eq0.false c.if-bit_at.ensures)

pub returns-in_ok-push-clause-high : goal.returns-in_ok-push-clause-high
returns-in_ok-push-clause-high c =
    half_grows_high c.args.left c.args.self.now.high.items c.push.new.self.items _ c.args.part.now.bits _ c.args.part.now.hop c.in_ok-push.ensures.items (taken _ _ _ _ c.if-part-eq0.false c.if-bit_at.ensures)

pub returns-in_ok-push-2-clause-own : goal.returns-in_ok-push-2-clause-own
returns-in_ok-push-2-clause-own c = own_stays _ _ _ _ _ (taken _ _ _ _ c.if-part-eq0.false c.if-bit_at.ensures)

pub returns-in_ok-push-2-clause-low : goal.returns-in_ok-push-2-clause-low
returns-in_ok-push-2-clause-low c =
    half_grows_low c.args.left c.args.self.now.low.items c.push-else-bit_at.new.self.items _ c.args.part.now.bits _ c.args.part.now.hop c.in_ok-push-2.ensures.items
    (taken _ _ _ _ c.if-part-eq0.false c.if-bit_at.ensures)

pub returns-in_ok-push-2-clause-high : goal.returns-in_ok-push-2-clause-high
returns-in_ok-push-2-clause-high c = half_stays_high c.args.left c.args.self.now.high.items _ _ _ (taken _ _ _ _ c.if-part-eq0.false c.if-bit_at.ensures)
