use Rattle.fib_engine.specs.Held.{engine_routes}
use Rattle.fib_engine.proofs.Taking.{filled_of}
use Rattle.fib_engine.proofs.engine.Engine.finish_load_packed.Goals as goal

pub end_load-requires-clause-tables : goal.end_load-requires-clause-tables
end_load-requires-clause-tables c = filled_of (engine_routes c.args.self.now) _ _ c.in_ok-tables.ensures.tables c.in_ok-tables-2.ensures.routes c.in_ok-tables-2.ensures.v4 c.in_ok-tables-2.ensures.v6
