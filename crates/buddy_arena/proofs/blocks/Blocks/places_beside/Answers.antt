use Rattle.std.proofs.Common.{◌++◌, subst}
use Rattle.buddy_arena.specs.Blocks.{Held, Counts, blocks_of}
use Rattle.buddy_arena.proofs.Beside.{counted_beside}
use Rattle.buddy_arena.proofs.blocks.Blocks.places_beside.Goals as goal

pub returns : goal.returns
returns c = subst (λ (h : Held). Counts c.saturating_add.result (h.taken ++ blocks_of h.retired)) c.self.view_is (counted_beside c.self.inside.taken.items c.self.inside.aside.items c.self.inside.retired c.self.inside.taken_places c.self.inside.replaced_places c.self.inside.retired_places c.saturating_add.result c.saturating_add.ensures c.self.invariant.1)
