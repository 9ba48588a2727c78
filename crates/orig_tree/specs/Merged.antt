-- Entries that are set one after the other, in one walk.
use Rattle.std.specs.Prelude.{◌≡◌, ℕ, ◌<◌, List, [], ◌∷◌, ◌++◌, Bool, false, Some, fold}
use Rattle.std.specs.List.{filter}
use Rattle.table_model.specs.Address.{Prefix, same_family}
use Rattle.table_model.specs.declared.family.Family.{Family}
use Rattle.table_model.specs.Halves.{is_within}
use Rattle.table_model.specs.Table.{Table, lpm}
use Rattle.table_model.specs.Entries.{Entries, of_table, with_entry}
use Rattle.table_model.specs.Regions.{lift}
use Rattle.orig_tree.specs.Edits.{put}
use Rattle.orig_tree.specs.Walk.{rows_of}
use Rattle.orig_tree.specs.Views.{InPlace}
use Rattle.orig_tree.specs.Arena.{Owner, cell_at, half_place, walks_at, IsTree, HasSpares, KeepsOthers, whole, IsArena}
use Rattle.orig_tree.specs.Bests.{AreBest, IsGrown, KeepsBest}
use Rattle.orig_tree.specs.declared.node.Node.{Node}
use Rattle.orig_tree.specs.declared.node.Label.{Label}
use Rattle.orig_tree.specs.declared.node.Label.TheVariants.{Route, Entry}
use Rattle.orig_tree.specs.declared.best.Best.{Best}

-- the other label
abbrev pub beside : Label → Label
beside Route = Entry
beside Entry = Route

-- the table with these entries set, each in its turn
abbrev pub with_rows : Table → Table → Table
with_rows [] R = R
with_rows (e ∷ T) R = with_rows T (put e.prefix e.hop R)

-- those of the entries that are of the family
abbrev pub own_of : Family → Entries → Entries
own_of f E = filter (λ e. same_family f e.0.family) E

-- whether there is a first entry, and its prefix is within p
abbrev pub starts_within : Prefix → Entries → Bool
starts_within p [] = false
starts_within p (e ∷ E) = is_within e.0 p

-- The array after a label of the entries T was set from place i on, their prefixes as seen from there. If it is the entries' label,
-- the nodes keep what stands for their regions, h being inherited from the routes: for those it is computed when all are set.
pub record IsMerged (d : ℕ) (label : Label) (T : Table) (old new : List Node) (free : ℕ) (name : ℕ → Owner) (i : ℕ) (p : List Bool) (h : ℕ) (kept kept' : ℕ → Best) : Type 0 where
  pub name' : ℕ → Owner
  pub spares : ℕ
  pub tree : IsTree d new name' i p
  pub held : HasSpares new free name' spares
  pub keeps : KeepsOthers p old new name name'
  pub rows : rows_of label (walks_at d new i) ≡ with_rows T (rows_of label (walks_at d old i))
  pub other : rows_of (beside label) (walks_at d new i) ≡ rows_of (beside label) (walks_at d old i)
  pub grown : label ≡ Entry → AreBest d old kept (λ a. lpm (walks_at d old i).routes a h) i → IsGrown d new name i p (λ a. lpm (walks_at d old i).routes a h) kept kept'

-- the array after a half of place i became a node, if it was none: it is at place j
pub record IsHalfMade (d : ℕ) (b : Bool) (old new : List Node) (free : ℕ) (name : ℕ → Owner) (i : ℕ) (p : List Bool) (h : ℕ) (kept kept' : ℕ → Best) (j : ℕ) : Type 0 where
  pub merged : (label : Label) → IsMerged d label [] old new free name i p h kept kept'
  pub half : half_place (cell_at new i) b ≡ Some j

-- the first n entries were set from place i on, which stands for the prefix p with `levels` levels below it; the rest is left
pub record Merges (label : Label) (h levels : ℕ) (p : Prefix) (old new : List Node) (free free' : ℕ) (kept kept' : ℕ → Best) (i : ℕ) (entries rest : Entries) : Type 0 where
  pub taken : Table
  pub front : entries ≡ of_table p.family (lift p.bits taken) ++ rest
  pub merged : (d : ℕ) (name : ℕ → Owner) (n : ℕ) (r : List Bool) → levels < d → IsTree d old name i r → HasSpares old free name n → IsMerged d label taken old new free' name i r h kept kept'

-- ---- the whole tree

-- The array after a label of those of the first n entries that are of the family was set, each in its turn; the rest is left. If
-- it is the entries' label, the nodes keep what stands for their regions.
pub record Lays (f : Family) (label : Label) (old new : List Node) (free : ℕ) (kept kept' : ℕ → Best) (entries rest : Entries) : Type 0 where
  pub arena : IsArena f new free
  pub order : InPlace (of_table f (rows_of label (whole f new)))
  pub other : rows_of (beside label) (whole f new) ≡ rows_of (beside label) (whole f old)
  pub best : label ≡ Entry → KeepsBest f old kept → KeepsBest f new kept'
  pub rows : fold with_entry (of_table f (rows_of label (whole f new))) (own_of f rest) ≡ fold with_entry (of_table f (rows_of label (whole f old))) (own_of f entries)
