use Rattle.std.proofs.Common.{sym, ◌∙◌}
use Rattle.mrt_records.proofs.record.push_behind.Goals as goal

pub returns-in-Some : goal.returns-in-Some
returns-in-Some c = rw (sym (c.rib_of.ensures c.args.body.now) ∙ c.in-Some.is) c.push_rib_behind.ensures

pub returns-in-None : goal.returns-in-None
returns-in-None c = rw (sym (c.rib_of.ensures c.args.body.now) ∙ c.in-None.is) c.push_session_record.ensures
