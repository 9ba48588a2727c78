-- The nearest table to an old one that answers as the routes do, for addresses of w bits: R are the routes, T is the old table.
use Rattle.std.specs.Prelude.{◌≡◌, ℕ, ◌+◌, ◌≤◌, List, [], Bool, length, cond}
use Rattle.table_model.specs.Table.{Table, lpm, IsTable, Alike}
use Rattle.table_model.specs.Sets.{answers}
use Rattle.moves_model.specs.Dist.{distance}
use Rattle.moves_model.specs.Sets.{is_allowed, near_set, near_k, near_of}

-- U answers as R, and no table that does differs from T at fewer prefixes, whatever its prefixes and its hops
abbrev pub Nearest : ℕ → Table → Table → Table → Type 0
Nearest w R T U = Alike w R U × ((V : Table) → IsTable w V → Alike w R V → distance T U ≤ distance T V)

-- ---- by the sets of the regions

-- at how many prefixes a table that answers as R must differ from T at least: the whole space inherits no hop, number 0
abbrev pub near_bound : ℕ → Table → Table → ℕ
near_bound w R T = cond (is_allowed 0 (near_set w (answers R []) T)) (near_k w (answers R []) T) (near_k w (answers R []) T + 1)

-- the table that differs at just as many
abbrev pub nearest : ℕ → Table → Table → Table
nearest w R T = near_of w (answers R []) T 0

-- ---- regions that need no change

-- if the region of d more bits inherits h, the table gives it the answers f
abbrev pub AnswersAs : ℕ → (List Bool → ℕ) → Table → ℕ → Type 0
AnswersAs d f T h = (a : List Bool) → length a ≡ d → lpm T a h ≡ f a
