use Rattle.buddy_arena.proofs.Powers.{up_least, up_zero}
use Rattle.buddy_arena.proofs.pool_laws.up_law.Goals as goal

pub returns : goal.returns
returns c = record { none = up_zero; least = λ n h. let u = up_least n h in (u.place, u.is, u.above, u.least) }
