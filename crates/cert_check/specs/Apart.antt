-- Where runs first answer differently.
use Rattle.std.specs.Prelude.{◌≡◌, ◌≢◌, ℕ, ◌<◌, List, cond, Option, Some, None, nat_lt}
use Rattle.table_model.specs.Bits.{bits_of}
use Rattle.table_model.specs.Width.{width}
use Rattle.table_model.specs.declared.family.Family.{Family}
use Rattle.cert_model.specs.Verdict.{No, NotSame}
use Rattle.cert_check.specs.declared.runs.Run.{Run}
use Rattle.cert_check.specs.declared.alike.Apart.{Apart}
use Rattle.cert_check.specs.Runs.{run_hop_at, Below}

-- where runs answer differently first that are the same, end with the hop h, and go on with x and with y
abbrev pub next_apart : Run → Run → ℕ → Apart
next_apart x y h =
    cond (nat_lt x.start y.start) (record { start = x.start; first = x.hop; second = h })
    (cond (nat_lt y.start x.start) (record { start = y.start; first = h; second = y.hop }) (record { start = x.start; first = x.hop; second = y.hop }))

-- the least number that gets different hops, with both; none if there is none
abbrev pub IsFirstApart : List Run → List Run → Option Apart → Type 0
IsFirstApart a b None = (n : ℕ) → run_hop_at a n ≡ run_hop_at b n
IsFirstApart a b (Some x) =
    (run_hop_at a x.start ≡ x.first) × (run_hop_at b x.start ≡ x.second) × (x.first ≢ x.second) × ((n : ℕ) → n < x.start → run_hop_at a n ≡ run_hop_at b n) × ((m : ℕ) → Below m a → Below m b → x.start < m)

-- the same as what is wrong with a family's tables
abbrev pub no_of : Family → Option Apart → Option No
no_of f None = None
no_of f (Some x) = Some (NotSame (record { family = f; bits = bits_of (width f) x.start }) x.first x.second)
