use Rattle.std.proofs.Common.{◌∙◌}
use Rattle.fib_router.proofs.Finishing.{finishes_own, stores_more}
use Rattle.fib_router.proofs.router.Router.finish.Goals as goal

pub loop-preserved : goal.loop-preserved
loop-preserved c = record {
  token = c.store.ensures.begun;
  elem = c.store.ensures.elem ∙ c.loop.invariant.elem;
  held = c.store.ensures.held ∙ c.loop.invariant.held;
  lives = stores_more c.args.self.now.lives c.loop.self.lives c.store.new.self.lives c.store.result c.loop.invariant.lives c.store.ensures.own c.store.ensures.other c.store.ensures.cells;
}

pub returns-clause-own : goal.returns-clause-own
returns-clause-own c =
    finishes_own c.args.self.now.lives c.store.new.self.lives c.end.new.self.lives
    (stores_more c.args.self.now.lives c.loop.self.lives c.store.new.self.lives c.store.result c.loop.invariant.lives c.store.ensures.own c.store.ensures.other c.store.ensures.cells)
    c.in-Ok.ensures.own c.in-Ok.ensures.cells
