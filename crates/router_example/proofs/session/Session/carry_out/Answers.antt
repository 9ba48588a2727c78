use Rattle.std.proofs.Common.{◌+◌, ℕ, sym, ap, ◌∙◌}
use Rattle.fib_engine.specs.Held.{EngineState}
use Rattle.router_example.proofs.Keeping.{ended, stored}
use Rattle.router_example.proofs.session.Session.carry_out.Goals as goal

pub loop-preserved : goal.loop-preserved
loop-preserved c = record {
  token = c.store.ensures.begun;
  held = c.store.ensures.held ∙ c.loop.invariant.held;
  taken = c.loop.invariant.taken;
  beside = stored c.loop.self.router c.store.new.self c.loop.self.lookups c.store.result c.store.ensures.own c.store.ensures.other c.loop.invariant.beside;
}

pub returns : goal.returns
returns c =
    let beside = stored c.loop.self.router c.store.new.self c.loop.self.lookups c.store.result c.store.ensures.own c.store.ensures.other c.loop.invariant.beside in
    let counted = ap (λ (h : EngineState). h.events) (c.store.ensures.held ∙ c.loop.invariant.held) ∙ c.requires.counted ∙ sym c.loop.invariant.taken in
    record {
      rest = c.in-Ok.ensures.rest;
      counted = c.in-Ok.ensures.takes.events ∙ ap (λ (n : ℕ). n + 1) counted;
      beside = ended c.store.new.self c.end.new.self c.loop.self.lookups c.in-Ok.ensures.own c.in-Ok.ensures.other beside;
    }
