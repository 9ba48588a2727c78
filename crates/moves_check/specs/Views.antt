-- What a clause sees of answers, and of what is to be checked.
use Rattle.moves_model.specs.Verdict as model
use Rattle.std.specs.Prelude.{◌≡◌, List}
use Rattle.std.specs.List.{AllByRecursion}
use Rattle.std.specs.Map.{keys_of}
use Rattle.table_model.specs.declared.family.Family.{Family}
use Rattle.table_model.specs.Entries.{Entries}
use Rattle.table_model.specs.Changes.{Change}
use Rattle.kept_model.specs.Between.{place_of}
use Rattle.cert_model.specs.Rows.{CertRow, leaf_row, join_row, bound_row}
use Rattle.fib_addr.specs.Views.{addr_as, prefix_as}
use Rattle.moves_check.specs.declared.refusal.MovesError.{MovesError}
use Rattle.moves_check.specs.declared.refusal.MovesError.TheVariants as moves_error
use Rattle.moves_check.specs.declared.refusal.NoMoves as code
use Rattle.moves_check.specs.declared.refusal.NoMoves.TheVariants as no

abbrev pub no_moves_as : code.NoMoves → model.NoMoves
no_moves_as (no.Twice p) = model.Twice (prefix_as p)
no_moves_as (no.Apply n) = model.Apply n
no_moves_as (no.NotSame a want has) = model.NotSame (addr_as a) want.0 has.0
no_moves_as (no.Shape n) = model.Shape n
no_moves_as (no.LeafWrong n) = model.LeafWrong n
no_moves_as (no.JoinWrong n said due) = model.JoinWrong n said due
no_moves_as (no.NotShortest n least) = model.NotShortest n least

-- P of what is wrong, if that is the error and not that memory ran out
abbrev pub IfNoMoves : MovesError → (code.NoMoves → Type 0) → Type 0
IfNoMoves (moves_error.NoMoves x) P = P x
IfNoMoves moves_error.NoMemory P = Unit {0}

-- ---- all of one family

abbrev pub AreEntriesOf : Family → Entries → Type 0
AreEntriesOf f L = AllByRecursion (λ p. p.family ≡ f) (keys_of L)

abbrev pub AreChangesOf : Family → List Change → Type 0
AreChangesOf f cs = AllByRecursion (λ c. (place_of c).family ≡ f) cs

-- a row's prefix is of the family; a bound says of which family it is, and that is judged
abbrev pub IsFamilyRow : Family → CertRow → Type 0
IsFamilyRow f (leaf_row p h) = p.family ≡ f
IsFamilyRow f (join_row p k) = p.family ≡ f
IsFamilyRow f (bound_row g m) = Unit {0}

abbrev pub AreRowsOf : Family → List CertRow → Type 0
AreRowsOf f rows = AllByRecursion (IsFamilyRow f) rows
