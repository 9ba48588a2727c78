use Rattle.std.proofs.Common.{refl, ap, ◌+◌, option_map}
use Rattle.mrt_read.specs.Records.{fault_of}
use Rattle.mrt_records.specs.Views.{peers_in}
use Rattle.mrt_read.proofs.Standing.{refuses_again, refuses_rule, source, takes_events, went_on, went_wrong}
use Rattle.mrt_read.proofs.reader.Reader.read_events.Goals as goal

pub returns-in-Some-clause-after : goal.returns-in-Some-clause-after
returns-in-Some-clause-after c = refuses_again c.args.self.now _ (ap (option_map fault_of) c.in-Some.is)

pub returns-in-Ok-Some-clause-after : goal.returns-in-Ok-Some-clause-after
returns-in-Ok-Some-clause-after c =
    let none = ap (option_map fault_of) c.in_default.is in
    let r = went_on _ _ _ c.in-Ok-Some.field-0 c.in-Ok-Some.told c.in-Ok-Some.field-0-is c.in-Ok-Some.ensures.goes in
    takes_events c.args.self.now _ c.in-Ok-Some.told _ none none r refl (ap (λ n. c.args.self.now.skipped + n) c.skips.ensures) (ap (λ n. c.args.self.now.treated + n) c.treats.ensures)

pub returns-in-Err-Rule-clause-after : goal.returns-in-Err-Rule-clause-after
returns-in-Err-Rule-clause-after c =
    let w = went_wrong (source c.args.self.now) (record { framer = c.read_next.new.framer; table = c.read_next.new.table }) c.in-Err-Rule.field-0 c.in-Err-Rule.rule c.in-Err-Rule.field-0-is c.in-Err-Rule.ensures.goes in
    refuses_rule c.args.self.now _ _ (ap (option_map fault_of) c.in_default.is) refl w.0 refl refl refl refl (ap peers_in w.1)
