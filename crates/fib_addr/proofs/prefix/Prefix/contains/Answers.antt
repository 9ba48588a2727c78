use Rattle.std.proofs.Common.{sym, rules}
use Rattle.table_model.specs.contracts.family.Family.{the_type}
use Rattle.fib_addr.proofs.Parts.{contains_is}
use Rattle.fib_addr.proofs.prefix.Prefix.contains.Goals as goal
use denote.Enum.Bare.{same_true}

pub returns-then-eq : goal.returns-then-eq
returns-then-eq c =
    let p = c.args.self.now in
    let a = c.args.addr.now in
    contains_is p.family a.family p.len p.bits a.bits c.width.result _ _ (same_true the_type (search rules) _ _ (sym c.if-eq.ensures)) c.width.ensures p.fits p.below a.below c.upper.ensures c.upper-then-eq.ensures
