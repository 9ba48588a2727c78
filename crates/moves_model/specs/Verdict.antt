-- What a checker of a list of changes answers: the first thing that is wrong, if anything is. R are the routes and T is the old
-- table, all of one family.
use Rattle.std.specs.Prelude.{ℕ, ◌+◌, List, [], ◌∷◌, Bool, true, false, ◌&&◌, cond, Option, Some, None, length, nat_eq, nat_lt, option_map, is_some}
use Rattle.std.specs.Option.{option_or, unwrap_or}
use Rattle.table_model.specs.Address.{Address, Prefix, same_family, same_prefix}
use Rattle.table_model.specs.Width.{width}
use Rattle.table_model.specs.Halves.{half_at}
use Rattle.table_model.specs.declared.family.Family.{Family}
use Rattle.table_model.specs.Entries.{Entries, in_order, of_family}
use Rattle.table_model.specs.Changes.{Change, after_change}
use Rattle.table_model.specs.Sets.{answers}
use Rattle.cert_model.specs.Rows.{CertRow, leaf_row, join_row, bound_row, whole_prefix}
use Rattle.cert_model.specs.Verdict.{twice, least_differing, all_get}
use Rattle.moves_model.specs.Nearest.{near_bound}
use Rattle.moves_model.specs.Demands.{Demand, leaf_demand, join_demand, change_bound, none_below}

-- What is wrong. `Twice`: the prefix stands twice in the old table or in the routes. `Apply`: the change, counted from 1, isn't
-- possible. `NotSame`: the address gets the first hop from the routes and the second after the changes. `Shape`, `LeafWrong` and
-- `JoinWrong`: the row, counted from 1, isn't right. `NotShortest`: there are as many changes as the first number says, and
-- the second number would do.
pub data NoMoves : Type 0 where
  Twice : Prefix → NoMoves
  Apply : ℕ → NoMoves
  NotSame : Address → ℕ → ℕ → NoMoves
  Shape : ℕ → NoMoves
  LeafWrong : ℕ → NoMoves
  JoinWrong : ℕ → ℕ → ℕ → NoMoves
  NotShortest : ℕ → ℕ → NoMoves

-- the table after the change, or as it is if that isn't possible
abbrev pub changed_by : Change → Entries → Entries
changed_by c T = unwrap_or (after_change c T) T

abbrev pub changed_by_all : List Change → Entries → Entries
changed_by_all [] T = T
changed_by_all (c ∷ cs) T = changed_by_all cs (changed_by c T)

-- the first change that isn't possible, counted from n
abbrev pub first_refused : List Change → Entries → ℕ → Option ℕ
first_refused [] T n = None
first_refused (c ∷ cs) T n = cond (is_some (after_change c T)) (first_refused cs (changed_by c T) (n + 1)) (Some n)

-- the least address with different answers
abbrev pub answers_differ_at : Entries → Entries → Family → Option (List Bool) → Option NoMoves
answers_differ_at R N f None = None
answers_differ_at R N f (Some a) = Some (NotSame (record { family = f; bits = a }) (answers (of_family f R) [] a) (answers (of_family f N) [] a))

abbrev pub answers_differ : Entries → Entries → Family → Option NoMoves
answers_differ R N f = answers_differ_at R N f (least_differing (width f) (answers (of_family f R) []) (answers (of_family f N) []))

-- whether these are the halves of the prefix's region
abbrev pub have_halves : Prefix → Demand → Demand → Bool
have_halves p low high = same_prefix low.prefix (half_at false p) && same_prefix high.prefix (half_at true p)

-- no row may come after the bound
abbrev pub no_row_more : List CertRow → ℕ → Option NoMoves
no_row_more [] n = None
no_row_more (row ∷ rows) n = Some (Shape n)

-- the first row that is wrong; the rows are counted from n, and st is the stack
unfoldable pub wrong_moves_row : Entries → Entries → Family → List CertRow → List Demand → ℕ → Option NoMoves
wrong_moves_row R T f [] st n = Some (Shape n)
wrong_moves_row R T f (leaf_row p h ∷ rows) st n = cond (all_get R p h && none_below T p) (wrong_moves_row R T f rows (leaf_demand T p h ∷ st) (n + 1)) (Some (LeafWrong n))
wrong_moves_row R T f (join_row p k ∷ rows) (high ∷ low ∷ st) n =
    cond (have_halves p low high) (cond (nat_eq k (join_demand T p low high).k) (wrong_moves_row R T f rows (join_demand T p low high ∷ st) (n + 1)) (Some (JoinWrong n k (join_demand T p low high).k))) (Some (Shape n))
wrong_moves_row R T f (join_row p k ∷ rows) (i ∷ []) n = Some (Shape n)
wrong_moves_row R T f (join_row p k ∷ rows) [] n = Some (Shape n)
wrong_moves_row R T f (bound_row g m ∷ rows) (i ∷ []) n =
    cond (same_family g f && same_prefix i.prefix (whole_prefix f)) (cond (nat_eq m (change_bound i.hops i.k)) (no_row_more rows (n + 1)) (Some (JoinWrong n m (change_bound i.hops i.k)))) (Some (Shape n))
wrong_moves_row R T f (bound_row g m ∷ rows) (i ∷ j ∷ st) n = Some (Shape n)
wrong_moves_row R T f (bound_row g m ∷ rows) [] n = Some (Shape n)

-- more changes than the bound
abbrev pub too_many : Entries → Entries → Family → List Change → Option NoMoves
too_many R T f cs = cond (nat_lt (near_bound (width f) (of_family f R) (of_family f T)) (length cs)) (Some (NotShortest (length cs) (near_bound (width f) (of_family f R) (of_family f T)))) None

-- The first of these, in this order: a prefix that stands twice in the old table, then in the routes; a change that isn't
-- possible; an address that gets another hop than from the routes; a row that is wrong; too many changes.
abbrev pub moves_verdict : Family → Entries → Entries → List Change → List CertRow → Option NoMoves
moves_verdict f T R cs rows =
    option_or (option_map Twice (twice T))
    (option_or (option_map Twice (twice R)) (option_or (option_map Apply (first_refused cs (in_order T) 1)) (option_or (answers_differ R (changed_by_all cs (in_order T)) f) (option_or (wrong_moves_row R T f rows [] 1) (too_many R T f cs)))))
