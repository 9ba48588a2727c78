use Rattle.std.proofs.Common.{rules, ◌≡◌, ◌∙◌, ◌+◌, ℕ, suc, length, ap, sym, subst, arith}
use Rattle.buddy_arena.specs.Blocks.{ended, IsQueue}
use Rattle.buddy_arena.proofs.Queue.{queue_ended, seen_ended, seen}
use Rattle.buddy_arena.proofs.Beside.{counted_ended}
use Rattle.buddy_arena.proofs.blocks.Blocks.end.Goals as goal

pub invariant_of-self : goal.invariant_of-self
invariant_of-self c =
    let n : c.len-self-inside.result ≡ length c.self.inside.aside.items = search rules in
    let next : suc c.self.inside.time ≡ c.self.inside.time + 1 = omega arith in (
      subst (λ (t : ℕ). IsQueue c.self.inside.aside.items c.len-self-inside.result t) next (queue_ended c.self.inside.aside.items c.self.inside.retired c.len-self-inside.result c.self.inside.time n c.self.invariant.0),
      counted_ended c.clear.new.self.items c.self.inside.taken.items c.self.inside.aside.items c.self.inside.retired c.len-self-inside.result c.self.inside.taken_places c.self.inside.replaced_places c.self.inside.retired_places c.saturating_add-self-inside.result c.clear.ensures.items n c.saturating_add-self-inside.ensures c.self.invariant.1,
    )

pub returns : goal.returns
returns c =
    let n : c.len-self-inside.result ≡ length c.self.inside.aside.items = search rules in
    let next : suc c.self.inside.time ≡ c.self.inside.time + 1 = omega arith in
    ap (λ (t : ℕ). seen c.clear.new.self.items c.self.inside.aside.items c.len-self-inside.result t) (sym next)
    ∙ (seen_ended c.clear.new.self.items c.self.inside.taken.items c.self.inside.aside.items c.self.inside.retired c.len-self-inside.result c.self.inside.time c.clear.ensures.items n c.self.invariant.0 ∙ ap ended c.self.view_is)
