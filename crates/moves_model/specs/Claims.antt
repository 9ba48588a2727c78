-- Changes that are claimed to be the fewest, and the verdict on them, over both families.
use Rattle.std.specs.Prelude.{List, ◌++◌, Option, option_map}
use Rattle.std.specs.List.{AllByRecursion, filter}
use Rattle.std.specs.Map.{keys_of}
use Rattle.std.specs.Option.{option_or}
use Rattle.table_model.specs.Address.{IsPrefix, same_family}
use Rattle.table_model.specs.declared.family.Family.{Family}
use Rattle.table_model.specs.declared.family.Family.TheVariants.{V4, V6}
use Rattle.table_model.specs.Entries.{Entries, in_order}
use Rattle.table_model.specs.Changes.{Change}
use Rattle.kept_model.specs.Between.{place_of}
use Rattle.cert_model.specs.Rows.{CertRow, leaf_row, join_row, bound_row}
use Rattle.cert_model.specs.Verdict.{RowFits}
use Rattle.moves_model.specs.Shortest.{AreProvedShortest}
use Rattle.moves_model.specs.Verdict.{NoMoves, moves_verdict}
use Rattle.moves_model.specs.Both.{AreShortestInBoth, own_entries}

-- What is claimed: these changes make the router's table answer as the routes do, no fewer would, and the rows prove it. All is of both
-- families.
pub record Claim : Type 0 where
  pub table : Entries
  pub routes : Entries
  pub changes : List Change
  pub rows : List CertRow

-- its prefixes are such
pub record IsClaim (c : Claim) : Type 0 where
  pub table : AllByRecursion IsPrefix (keys_of c.table)
  pub routes : AllByRecursion IsPrefix (keys_of c.routes)
  pub changes : AllByRecursion (λ change. IsPrefix (place_of change)) c.changes
  pub rows : AllByRecursion RowFits c.rows

-- the changes at prefixes of the family, as they stand
abbrev pub own_changes : Family → List Change → List Change
own_changes f cs = filter (λ c. same_family f (place_of c).family) cs

-- the family that a row is of: that of its prefix, or the one that a bound names
abbrev pub family_of_row : CertRow → Family
family_of_row (leaf_row p h) = p.family
family_of_row (join_row p k) = p.family
family_of_row (bound_row f n) = f

-- the rows that are of the family, as they stand
abbrev pub own_rows : Family → List CertRow → List CertRow
own_rows f rows = filter (λ row. same_family f (family_of_row row)) rows

-- ---- the verdict

-- what is wrong, and in which family
pub record WrongMoves : Type 0 where
  pub family : Family
  pub no : NoMoves

-- the first thing that is wrong with what is claimed of a family
abbrev pub wrong_claim : Family → Claim → Option WrongMoves
wrong_claim f c = option_map (λ x. record { family = f; no = x }) (moves_verdict f (own_entries f c.table) (own_entries f c.routes) (own_changes f c.changes) (own_rows f c.rows))

-- the first thing that is wrong, in IPv4 or else in IPv6
abbrev pub claim_verdict : Claim → Option WrongMoves
claim_verdict c = option_or (wrong_claim V4 c) (wrong_claim V6 c)

-- ---- a claim that is proved

-- the family's rows prove its changes shortest
abbrev pub IsProvedIn : Family → Claim → Type 0
IsProvedIn f c = AreProvedShortest f (own_entries f c.routes) (own_entries f c.table) (own_changes f c.changes) (own_rows f c.rows)

-- They do in each family, and IPv4's changes followed by IPv6's are shortest over both.
pub record IsProved (c : Claim) : Type 0 where
  pub v4 : IsProvedIn V4 c
  pub v6 : IsProvedIn V6 c
  pub both : AreShortestInBoth (in_order c.routes) (in_order c.table) (own_changes V4 c.changes ++ own_changes V6 c.changes)
