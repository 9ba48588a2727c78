use Rattle.std.proofs.Common.{refl, sym, ap, ◌∙◌, option_map, arith}
use Rattle.mrt_read.specs.Records.{fault_of}
use Rattle.mrt_read.proofs.FramerStanding.{takes_record, takes_nothing, refuses_again, refuses_length, front_is, front_fault, front_few, record_length, next_is, next_fault, next_kept, next_none, is_the_length, is_another}
use Rattle.mrt_read.proofs.framer.Framer.next.Goals as goal

pub returns-in-Some : goal.returns-in-Some
returns-in-Some c =
    let kept = ap (option_map fault_of) c.in-Some.is in
    ((refl, λ _. tt, refuses_again c.args.self.now _ kept), record { gives = sym (next_kept c.args.self.now _ kept); after = tt })

pub returns-in-Ok : goal.returns-in-Ok
returns-in-Ok c =
    let none = ap (option_map fault_of) c.in_default.is in
    let front = front_is c.args.self.now.kept.items c.deref.result.now c.deref-in-Ok.result.now c.args.self.now.at c.in-Ok.header.length c.in-Ok.header.kind c.in-Ok.header.sub c.deref.ensures.value c.deref-in-Ok.ensures.value c.in-Ok.ensures.value in
    ((refl, λ _. tt, takes_record c.args.self.now _ _ none none front (record_length c.args.self.now.kept.items c.deref-in-Ok.result.now c.args.self.now.at c.in-Ok.header.length c.deref-in-Ok.ensures.value (omega arith)) (omega arith) (omega arith) refl), record { gives = sym (next_is c.args.self.now _ none front); after = tt })

pub returns-in-Err : goal.returns-in-Err
returns-in-Err c =
    let none = ap (option_map fault_of) c.in_default.is in
    let over = front_fault c.args.self.now.kept.items c.deref.result.now c.args.self.now.at c.in-Err.rule c.deref.ensures.value c.in-Err.ensures.value in
    let long = is_the_length c.in-Err.rule (sym c.is_too_long.ensures ∙ c.if-is_too_long.true) in
    let over = rw long at over in
    rw long ((refl, λ _. tt, refuses_length c.args.self.now _ none refl over refl refl), record { gives = sym (next_fault c.args.self.now none over); after = tt })

pub returns-in-Err-2 : goal.returns-in-Err-2
returns-in-Err-2 c =
    let none = ap (option_map fault_of) c.in_default.is in
    let front = front_fault c.args.self.now.kept.items c.deref.result.now c.args.self.now.at c.in-Err.rule c.deref.ensures.value c.in-Err.ensures.value in
    let other = is_another c.in-Err.rule (sym c.is_too_long.ensures ∙ c.if-is_too_long.false) in
    let few = front_few c.args.self.now.kept.items c.deref.result.now c.args.self.now.at c.deref.ensures.value (c.in-Err.ensures.few other) in
    ((refl, λ _. tt, takes_nothing c.args.self.now _ c.in-Err.rule c.let_go.ensures none front c.in-Err.ensures.rules other few), record { gives = sym (next_none c.args.self.now c.in-Err.rule none front c.in-Err.ensures.rules other); after = tt })
