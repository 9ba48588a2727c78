-- MAXLEN, by the length that a prefix keeps.
use Rattle.std.proofs.Common.{◌≡◌, ℕ, ◌<◌, ◌≤◌, true, false, sym, ap, ◌∙◌}
use Rattle.std.specs.Prelude.{◌&&◌, nat_le}
use Rattle.std.proofs.lemmas.Bool.{le-leb, lt-leb}
use Rattle.table_model.specs.Width.{width}
use Rattle.fib_addr.specs.Views.{prefix_as}
use Rattle.fib_addr.specs.declared.prefix.Prefix as code
use Rattle.fib_addr.proofs.Parts.{length_prefix}
use Rattle.fib_rov.specs.Lines.{is_maxlen}

maxlen_is : (p : code.Prefix) (n : ℕ) → (nat_le p.len n && nat_le n (width p.family)) ≡ is_maxlen (prefix_as p) n
maxlen_is p n = ap (λ l. nat_le l n && nat_le n (width p.family)) (sym (length_prefix (width p.family) p.len p.bits p.fits))

pub too_short : (p : code.Prefix) (n : ℕ) → n < p.len → nat_le p.len n ≡ is_maxlen (prefix_as p) n
too_short p n h =
    let e : nat_le p.len n ≡ false = lt-leb p.len n h in
    e ∙ (sym (ap (λ b. b && nat_le n (width p.family)) e) ∙ maxlen_is p n)

pub long_enough : (p : code.Prefix) (n : ℕ) → p.len ≤ n → nat_le n (width p.family) ≡ is_maxlen (prefix_as p) n
long_enough p n h =
    let e : nat_le p.len n ≡ true = le-leb p.len n h in
    sym (ap (λ b. b && nat_le n (width p.family)) e) ∙ maxlen_is p n
