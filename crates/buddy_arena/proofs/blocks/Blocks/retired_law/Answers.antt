use Rattle.std.proofs.Common.{subst, take}
use Rattle.buddy_arena.specs.Blocks.{Held, AreRetiredBy}
use Rattle.buddy_arena.proofs.Queue.{retired_by}
use Rattle.buddy_arena.proofs.blocks.Blocks.retired_law.Goals as goal

pub returns : goal.returns
returns c = subst (λ (h : Held). AreRetiredBy h.time h.retired) c.self.view_is (retired_by c.self.inside.time (take c.self.inside.retired c.self.inside.aside.items) c.self.invariant.0.past)
