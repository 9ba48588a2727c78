use Rattle.octet_fields.proofs.Numbers.{number_read}
use Rattle.octet_fields.proofs.u16_at.Goals as goal

pub returns-clause-value : goal.returns-clause-value
returns-clause-value g c = number_read c.args.fault 2 c.args.bytes.now _ _ _ c.in_ok-front.ensures.value c.read_u16.ensures
