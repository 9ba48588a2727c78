-- One write after another.
use Rattle.std.proofs.Common.{◌≡◌, ℕ, ◌+◌, List, ◌++◌, take, drop, Option, Some, None, sym, ap, ◌∙◌, subst, append_assoc, take-add}
use Rattle.fib_io.specs.Octets.{AddsFront}

-- a front of the piece, and then a front of what is left of it, are a longer front of it
pub adds_more : (old between new : Option (List ℕ)) (piece rest : List ℕ) (at n : ℕ) → AddsFront old between piece at → rest ≡ drop at piece → AddsFront between new rest n → AddsFront old new piece (at + n)
adds_more None between new piece rest at n front is_rest next = tt
adds_more (Some octets) between new piece rest at n front is_rest next =
    let at_between = subst (λ (told : Option (List ℕ)). AddsFront told new rest n) front next in
    let last = subst (λ (left : List ℕ). AddsFront (Some (octets ++ take at piece)) new left n) is_rest at_between in
    last ∙ ap Some (append_assoc octets (take at piece) (take n (drop at piece)) ∙ ap (λ more. octets ++ more) (sym (take-add at n piece)))
