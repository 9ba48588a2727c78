-- The same hops allowed.
use Rattle.std.proofs.Common.{◌≡◌, ℕ, List, [], ◌∷◌, true, false, refl, ◌∙◌}
use Rattle.table_model.proofs.Sets.{filled, in_first, same_smallest, same_joint}
use Rattle.fib_addr.specs.HopSets.{SameHops}
use Rattle.moves_model.specs.Sets.{Allowed, any, these, is_allowed, allowed_by_both, gap, least_allowed}
use Rattle.moves_model.proofs.Allowed.{has_hop}
use Rattle.fib_moves.specs.Views.{SameAllowed}

pub same_allowed : (S Q : Allowed) (h : ℕ) → SameAllowed S Q → is_allowed h S ≡ is_allowed h Q
same_allowed any any h e = refl
same_allowed any (these Q) h e = absurd e
same_allowed (these S) any h e = absurd e
same_allowed (these S) (these Q) h e = e h

pub same_itself : (S : Allowed) → SameAllowed S S
same_itself any = tt
same_itself (these S) = λ h. refl

pub same_then : (S Q R : Allowed) → SameAllowed S Q → SameAllowed Q R → SameAllowed S R
same_then any any any e f = tt
same_then any any (these R) e f = f
same_then any (these Q) R e f = absurd e
same_then (these S) any R e f = absurd e
same_then (these S) (these Q) any e f = f
same_then (these S) (these Q) (these R) e f = λ h. e h ∙ f h

not_empty : (S Q : List ℕ) → SameHops S Q → filled Q ≡ true → filled S ≡ true
not_empty S [] e f = cc
not_empty [] (g ∷ Q) e f = let x : false ≡ true = e g ∙ in_first g g Q refl in cc
not_empty (g ∷ S) (h ∷ Q) e f = refl

pub same_least : (S Q : Allowed) → SameAllowed S Q → has_hop Q ≡ true → least_allowed S ≡ least_allowed Q
same_least any any e f = refl
same_least any (these Q) e f = absurd e
same_least (these S) any e f = absurd e
same_least (these S) (these Q) e f = same_smallest S Q (not_empty S Q e f) f e

pub same_both : (S Q U V : Allowed) → SameAllowed S U → SameAllowed Q V → SameAllowed (allowed_by_both S Q) (allowed_by_both U V) × (gap S Q ≡ gap U V)
same_both any Q any V e f = (f, refl)
same_both any Q (these U) V e f = absurd e
same_both (these S) Q any V e f = absurd e
same_both (these S) any (these U) any e f = (e, refl)
same_both (these S) any (these U) (these V) e f = absurd f
same_both (these S) (these Q) (these U) any e f = absurd f
same_both (these S) (these Q) (these U) (these V) e f = same_joint S Q U V e f
