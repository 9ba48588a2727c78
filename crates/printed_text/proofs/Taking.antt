-- Hops, rows and lines that are taken.
use Rattle.std.proofs.Common.{◌≡◌, ◌≤◌, List, [], ◌∷◌, ◌++◌, Some, None, Result, Ok, Err, length, refl, sym, ap, subst, arith, length-append}
use Rattle.std.specs.Prelude.{◌↔◌, unwrap_or, IfOk, OnOk, IsErrOf}
use Rattle.std.proofs.lemmas.Bool.{cond-false}
use Rattle.table_model.specs.Address.{Address}
use Rattle.fib_addr.specs.Hops.{number_of, with_hop, most_hops}
use Rattle.fib_addr.specs.declared.entry.Hop.{Hop}
use Rattle.fib_addr.specs.declared.hops.HopError.{HopError}
use Rattle.fib_addr.specs.declared.hops.HopError.TheVariants as hop_error
use Rattle.fib_addr.proofs.HopLemmas.{new_is_not}
use Rattle.printed_text.specs.Used.{hop_number}
use Rattle.printed_text.specs.Steps.{Numbers}

pub hop_numbered : (old new : List Address) (a : Address) (r : Result Hop HopError)
    → IfOk r (λ hop. number_of new a ≡ Some hop.0) → OnOk r (new ≡ with_hop old a) → OnOk r (length new ≤ 65534) → IsErrOf r hop_error.HopsFull ↔ ((length old ≡ 65534) × (number_of old a ≡ None))
    → Numbers r (with_hop old a) (λ hop. (new ≡ with_hop old a) × (hop.0 ≡ hop_number new (Some a)))
hop_numbered old new a (Ok hop) number hops few full = ((hops, sym (ap (λ o. unwrap_or o 0) number)), subst (λ (xs : List Address). length xs ≤ most_hops) hops few)
hop_numbered old new a (Err hop_error.HopsFull) number hops few full =
    let h = full.0 refl in
    omega (arith, h.0, ap length (cond-false _ old (old ++ a ∷ []) (new_is_not old a (sym h.1))), length-append old (a ∷ []))
hop_numbered old new a (Err hop_error.NoMemory) number hops few full = tt
