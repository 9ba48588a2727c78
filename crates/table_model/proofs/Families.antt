-- The order that the code gives families is the model's.
use Rattle.std.proofs.Common.{◌≡◌, refl}
use Rattle.table_model.specs.Order.{family_cmp}
use Rattle.table_model.specs.Derived.{code_family_cmp}
use Rattle.table_model.specs.declared.family.Family.{Family}
use Rattle.table_model.specs.declared.family.Family.TheVariants.{V4, V6}

pub family_order : (f g : Family) → code_family_cmp f g ≡ family_cmp f g
family_order V4 V4 = refl
family_order V4 V6 = refl
family_order V6 V4 = refl
family_order V6 V6 = refl
