-- What runs and the entries of a region stand for.
use Rattle.std.specs.Prelude.{◌≡◌, ◌≢◌, ℕ, ◌+◌, ◌<◌, ◌≤◌, ◌^◌, List, [], ◌∷◌, ◌++◌, cond, fold, map, take, drop, nat_le, nat_eq}
use Rattle.std.specs.List.{AllByRecursion}
use Rattle.table_model.specs.Bits.{bits_of}
use Rattle.table_model.specs.Width.{width}
use Rattle.table_model.specs.declared.family.Family.{Family}
use Rattle.table_model.specs.declared.family.Family.TheVariants.{V4, V6}
use Rattle.table_model.specs.Table.{Table, lpm}
use Rattle.table_model.specs.Table.{Entry as ModelEntry}
use Rattle.table_model.specs.Entries.{Entries, of_family}
use Rattle.cert_check.specs.declared.runs.Run.{Run}
use Rattle.cert_check.specs.declared.runs.Part.{Part}
use Rattle.cert_check.specs.declared.table_runs.TableRuns.{TableRuns}

-- an entry within a region whose addresses have d more bits
abbrev pub part_as : ℕ → Part → ModelEntry
part_as d e = record { prefix = take e.len (bits_of d e.bits); hop = e.hop }

abbrev pub parts_table : ℕ → List Part → Table
parts_table d parts = map (λ e. part_as d e) parts

-- the hop of the last run that begins at the number or before it; 0 if none does
abbrev pub run_hop_at : List Run → ℕ → ℕ
run_hop_at runs n = fold (λ h r. cond (nat_le r.start n) r.hop h) 0 runs

-- the hop of the last run
abbrev pub last_hop : List Run → ℕ
last_hop runs = fold (λ h r. r.hop) 0 runs

-- each run begins after those before it, and has another hop than the one before it; the first has another hop than h
abbrev pub AreRuns : ℕ → List Run → Type 0
AreRuns h [] = Unit {0}
AreRuns h (r ∷ runs) = (h ≢ r.hop) × AllByRecursion (λ s. r.start < s.start) runs × AreRuns r.hop runs

-- all runs begin before the number
abbrev pub Below : ℕ → List Run → Type 0
Below n runs = AllByRecursion (λ r. r.start < n) runs

-- a run is put at the end if the hop isn't the last one's
abbrev pub Noted : ℕ → ℕ → List Run → List Run → Type 0
Noted start hop old new = new ≡ cond (nat_eq (last_hop old) hop) old (old ++ record { start = start; hop = hop } ∷ [])

-- the runs of the region of 2 ^ d addresses from start on, whose entries are L and which inherits h, are put at the end
abbrev pub Swept : ℕ → Table → ℕ → ℕ → List Run → List Run → Type 0
Swept d L h start old new =
    Below start old → AreRuns 0 old →
    Below (start + 2 ^ d) new × AreRuns 0 new × ((n : ℕ) → n < start → run_hop_at new n ≡ run_hop_at old n) × ((x : ℕ) → x < 2 ^ d → run_hop_at new (start + x) ≡ lpm L (bits_of d x) h)

-- the runs are those of all addresses of the family
abbrev pub RunsTell : Family → Entries → List Run → Type 0
RunsTell f L runs = Below (2 ^ width f) runs × AreRuns 0 runs × ((n : ℕ) → n < 2 ^ width f → run_hop_at runs n ≡ lpm (of_family f L) (bits_of (width f) n) 0)

-- the first n runs begin at the number or before it, the others after it
abbrev pub CountsBegun : ℕ → List Run → ℕ → Type 0
CountsBegun n runs i = AllByRecursion (λ r. r.start ≤ n) (take i runs) × AllByRecursion (λ r. n < r.start) (drop i runs)

-- the runs are those of the table, in both families
abbrev pub TellsBoth : Entries → TableRuns → Type 0
TellsBoth L runs = RunsTell V4 L runs.v4.items × RunsTell V6 L runs.v6.items

-- both families' runs are runs, of addresses alone
abbrev pub AreOfBoth : TableRuns → Type 0
AreOfBoth runs = (AreRuns 0 runs.v4.items × Below (2 ^ 32) runs.v4.items) × (AreRuns 0 runs.v6.items × Below (2 ^ 128) runs.v6.items)
