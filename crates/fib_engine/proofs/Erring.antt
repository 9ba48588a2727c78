-- Errors that are handed on.
use Rattle.std.proofs.Common.{◌≡◌, Result, Err}
use Rattle.route_tries.specs.declared.sizes.TrieFull as code_full
use Rattle.fib_engine.specs.declared.error.EngineError.{EngineError}
use Rattle.fib_engine.specs.declared.error.EngineError.TheVariants.{TrieFull}

pub err_is : {T : Type 0} {x y : EngineError} → (let r : Result T EngineError = Err x in r) ≡ Err y → x ≡ y
err_is e = cc

pub is_full : {x y : code_full.TrieFull} → TrieFull x ≡ TrieFull y → x ≡ y
is_full e = cc
