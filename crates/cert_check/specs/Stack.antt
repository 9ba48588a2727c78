-- How far the rows of a certificate are read.
use Rattle.std.specs.Prelude.{◌≡◌, ℕ, ◌+◌, ◌≤◌, List, [], ◌∷◌, true, false, Option, Some, None, fold, nat_eq}
use Rattle.std.specs.List.{AllByRecursion}
use Rattle.table_model.specs.Width.{width}
use Rattle.table_model.specs.Address.{Prefix, same_prefix}
use Rattle.table_model.specs.declared.family.Family.{Family}
use Rattle.table_model.specs.declared.family.Family.TheVariants.{V4, V6}
use Rattle.table_model.specs.Entries.{Entries, of_family}
use Rattle.table_model.specs.Least.{bound}
use Rattle.cert_model.specs.Rows.{CertRow, join_row, bound_row, whole_prefix}
use Rattle.cert_model.specs.Right.{IsRight, leaf_item, join_item, joint_k}
use Rattle.cert_model.specs.Right.{Item as ModelItem}
use Rattle.cert_model.specs.Verdict.{No, Shape, LeafWrong, JoinWrong, all_get, are_halves, wrong_row}
use Rattle.fib_addr.specs.Views.{prefix_as}
use Rattle.cert_check.specs.declared.rows.Item.{Item}

abbrev pub item_as : Item → ModelItem
item_as i = record { prefix = prefix_as i.prefix; hops = i.hops.items; k = i.k }

-- the stack, its top first
abbrev pub stack_as : List Item → List ModelItem
stack_as items = fold (λ st i. item_as i ∷ st) [] items

-- the families whose bounds are still to come
abbrev pub due_as : Option Family → List Family
due_as None = []
due_as (Some V4) = V4 ∷ V6 ∷ []
due_as (Some V6) = V6 ∷ []

-- no region's k is more than the leaves that it has, so the sum of all k with one more each is at most the rows read
abbrev pub leaf_weight : List ModelItem → ℕ
leaf_weight [] = 0
leaf_weight (i ∷ st) = i.k + 1 + leaf_weight st

-- each region on the stack has its right set and k
abbrev pub AllRight : Entries → List ModelItem → Type 0
AllRight R st = AllByRecursion (λ i. IsRight R i.prefix i.hops i.k) st

-- the bounds of the families that are done are right
abbrev pub BoundsTold : Entries → Option Family → ℕ → ℕ → Type 0
BoundsTold R (Some V4) v4 v6 = Unit {0}
BoundsTold R (Some V6) v4 v6 = bound 32 (of_family V4 R) ≡ v4
BoundsTold R None v4 v6 = (bound 32 (of_family V4 R) ≡ v4) × (bound 128 (of_family V6 R) ≡ v6)

-- the row was read, and nothing or this is wrong with it
abbrev pub RowRead : Entries → CertRow → ℕ → Option Family → List ModelItem → Option Family → List ModelItem → Option No → Type 0
RowRead R row n due st due' st' None =
    ((rows : List CertRow) → wrong_row R (row ∷ rows) (due_as due) st n ≡ wrong_row R rows (due_as due') st' (n + 1)) × (leaf_weight st' ≤ leaf_weight st + 1) × (AllRight R st → AllRight R st')
RowRead R row n due st due' st' (Some x) = (rows : List CertRow) → wrong_row R (row ∷ rows) (due_as due) st n ≡ Some x

-- a leaf row was read: all addresses get the hop and the leaf was put on top, or some don't
abbrev pub LeafRead : Entries → Prefix → ℕ → ℕ → List ModelItem → List ModelItem → Option No → Type 0
LeafRead R p h n st st' None = (all_get R p h ≡ true) × (st' ≡ leaf_item p h ∷ st)
LeafRead R p h n st st' (Some x) = (all_get R p h ≡ false) × (x ≡ LeafWrong n)

-- halves were put together: the number is due and the region was put on top, or it isn't
abbrev pub JoinDone : Prefix → ℕ → ℕ → ModelItem → ModelItem → List ModelItem → List ModelItem → Option No → Type 0
JoinDone p k n low high st st' None = (nat_eq k (joint_k low high) ≡ true) × (st' ≡ join_item p low high ∷ st)
JoinDone p k n low high st st' (Some x) = (nat_eq k (joint_k low high) ≡ false) × (x ≡ JoinWrong n k (joint_k low high))

-- a join row was read: its halves were on top, and were put together, or what is wrong
abbrev pub JoinRead : Prefix → ℕ → ℕ → List ModelItem → List ModelItem → Option No → Type 0
JoinRead p k n st st' None =
    (low : ModelItem) × (high : ModelItem) × (more : List ModelItem) × (st ≡ high ∷ low ∷ more) × (are_halves p low high ≡ true) × (nat_eq k (joint_k low high) ≡ true) × (st' ≡ join_item p low high ∷ more)
JoinRead p k n st st' (Some x) = (R : Entries) (f : Family) (due : List Family) (rows : List CertRow) → wrong_row R (join_row p k ∷ rows) (f ∷ due) st n ≡ Some x

-- the whole region of the family was alone on the stack and was taken, or a bound may not stand here
abbrev pub WholeTaken : Family → List ModelItem → List ModelItem → Option ModelItem → Type 0
WholeTaken f st st' (Some i) = (st ≡ i ∷ []) × (same_prefix i.prefix (whole_prefix f) ≡ true) × (st' ≡ [])
WholeTaken f st st' None = (R : Entries) (m n : ℕ) (due : List Family) (rows : List CertRow) → wrong_row R (bound_row f m ∷ rows) (f ∷ due) st n ≡ Some (Shape n)

-- the family whose bound comes after this one's
abbrev pub next_due : Family → Option Family
next_due V4 = Some V6
next_due V6 = None

-- the bound of a family
abbrev pub bound_due : Family → Entries → ℕ
bound_due f R = bound (width f) (of_family f R)

-- the top was taken from the stack, if there is one
abbrev pub Popped : List ModelItem → List ModelItem → Option ModelItem → Type 0
Popped st st' None = (st ≡ []) × (st' ≡ [])
Popped st st' (Some i) = st ≡ i ∷ st'
