use Rattle.std.proofs.Common.{◌≡◌, take, drop}
use Rattle.buddy_arena.proofs.Released.{Releases}
use Rattle.buddy_arena.proofs.giving.release.Given as goal

abbrev pub invariant-loop-given : goal.invariant-loop-given
invariant-loop-given g l = Releases (take l.retired l.fn.aside.items) l.since l.fn.arena l.arena l.given × (l.aside.items ≡ drop l.given l.fn.aside.items)
