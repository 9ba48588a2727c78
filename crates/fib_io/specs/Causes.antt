-- Counts of faults, before and after a call.
use Rattle.std.specs.Prelude.{◌≡◌, ℕ, ◌+◌, ◌-◌, ◌^◌, ◌≤◌, min, List, Result, Ok, Err, OnErr, OnOk}
use Rattle.fib_io.specs.declared.InFault.{InFault}
use Rattle.fib_io.specs.declared.InFault.TheVariants.{Failed, NoMemory}

-- the count rose, or stands at the last value of a u64
abbrev pub Rose : ℕ → ℕ → Type 0
Rose before now = min (before + 1) (2 ^ 64 - 1) ≤ now

-- the count didn't fall, rose if the call failed, and stayed if it didn't
pub record HasCause {T E : Type 0} (before now : ℕ) (result : Result T E) : Type 0 where
  pub later : before ≤ now
  pub failed : OnErr result (Rose before now)
  pub kept : OnOk result (now ≡ before)

-- no count fell, and that of this name rose
pub record RoseFor (before now : List ℕ → ℕ) (name : List ℕ) : Type 0 where
  pub later : (other : List ℕ) → before other ≤ now other
  pub rose : Rose (before name) (now name)

-- the count of the name that was read rose if the read failed, and no other answer changes a count: neither octets nor running out of memory
abbrev pub HasReadCause : {T : Type 0} → (List ℕ → ℕ) → (List ℕ → ℕ) → List ℕ → Result T InFault → Type 0
HasReadCause before now name (Ok x) = now ≡ before
HasReadCause before now name (Err Failed) = RoseFor before now name
HasReadCause before now name (Err NoMemory) = now ≡ before
