-- The region above one.
use Rattle.std.proofs.Common.{◌≡◌, ◌-◌, ◌<◌, ◌≤◌, length, take, ap, sym, subst, ◌∙◌, arith}
use Rattle.std.proofs.lemmas.List.{length-take}
use Rattle.table_model.specs.Width.{width}
use Rattle.table_model.specs.Address.{Prefix as ModelPrefix}
use Rattle.table_model.specs.declared.family.Family.{Family}
use Rattle.table_model.specs.declared.family.Family.TheVariants.{V4, V6}
use Rattle.fib_addr.specs.declared.prefix.Prefix.{Prefix}
use Rattle.fib_addr.specs.Text.{first_address}
use Rattle.fib_addr.specs.Views.{prefix_as}
use Rattle.fib_addr.proofs.Parts.{length_prefix}
use Rattle.cert_model.specs.Verdict.{RowFits}
use Rattle.cert_model.specs.Views.{row_as}
use Rattle.cert_model.specs.declared.row.Row.{Row}
use Rattle.cert_model.specs.declared.row.Row.TheVariants as row
use Rattle.cert_rows.specs.Follow.{region_above}

pub length_is : (p : Prefix) → length (prefix_as p).bits ≡ p.len
length_is p = length_prefix (width p.family) p.len p.bits p.fits

some_bits : (f : Family) → 0 < width f
some_bits V4 = omega arith
some_bits V6 = omega arith

-- the region above another has a half
pub above_short : (p q : Prefix) → prefix_as q ≡ region_above (prefix_as p) → q.len < width q.family
above_short p q is =
    let f : q.family ≡ p.family = ap (λ (x : ModelPrefix). x.family) is in
    let n : q.len ≡ length (take (length (prefix_as p).bits - 1) (first_address (prefix_as p)).bits) = sym (length_is q) ∙ ap (λ (x : ModelPrefix). length x.bits) is in
    let w : p.len ≤ width p.family = p.fits in
    let lt : q.len < width p.family = omega (arith, n, w, length_is p, some_bits p.family, length-take (length (prefix_as p).bits - 1) (first_address (prefix_as p)).bits) in
    subst (λ g. q.len < width g) (sym f) lt

-- the prefix of a row is one
pub row_fits : (r : Row) → RowFits (row_as r)
row_fits (row.Leaf p h) = let w : p.len ≤ width p.family = p.fits in omega (arith, length_is p, w)
row_fits (row.Join p k) = let w : p.len ≤ width p.family = p.fits in omega (arith, length_is p, w)
row_fits (row.Bound f n) = tt
