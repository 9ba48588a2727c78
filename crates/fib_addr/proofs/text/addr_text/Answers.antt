use Rattle.std.proofs.Common.{◌≡◌, ◌≤◌, arith, length}
use Rattle.fib_addr.proofs.Backs.{all_behind}
use Rattle.fib_addr.proofs.text.addr_text.Goals as goal

pub returns-clause-text : goal.returns-clause-text
returns-clause-text c =
    let p = c.put_addr-start in
    let now : length p.new.out ≡ 43 = omega arith in
    let old : length c.args.buffer.now ≤ 43 = omega arith in
    all_behind p.result 43 p.new.out c.args.buffer.now _ now old p.ensures.text
