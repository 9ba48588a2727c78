-- The order that the code gives families.
use Rattle.std.specs.declared.cmp.Ordering.{Ordering}
use Rattle.table_model.specs.declared.family.Family.{Family}
use Rattle.table_model.specs.contracts.family.FamilyOrd.TheImpl as family_ord

-- what `cmp` answers; by the order law it is the order of families
abbrev pub code_family_cmp : Family → Family → Ordering
code_family_cmp = (family_ord.ghosts).cmp
