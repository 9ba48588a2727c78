-- Which calls are to fail.
use Rattle.std.specs.Prelude.{◌≡◌, ℕ, ◌+◌, ◌-◌, ◌^◌, ◌==◌, min, Bool, List}
use Rattle.std.specs.List.{list_any}
use Rattle.fib_io.specs.declared.plan.Plan.{Plan}

-- the number of the next call, from 1 up to the last value of a u64
abbrev pub next_call : Plan → ℕ
next_call plan = min (plan.calls + 1) (2 ^ 64 - 1)

-- the next call is to fail
abbrev pub fails_next : Plan → Bool
fails_next plan = list_any (λ number. number == next_call plan) plan.failing.items

-- no call was made, and the calls of these numbers are to fail
pub record IsNewPlan (plan : Plan) (failing : List ℕ) : Type 0 where
  pub unused : plan.calls ≡ 0
  pub numbers : plan.failing.items ≡ failing

-- one more call was made, and the same numbers are to fail
pub record IsNextCall (before now : Plan) : Type 0 where
  pub counted : now.calls ≡ next_call before
  pub numbers : now.failing ≡ before.failing
