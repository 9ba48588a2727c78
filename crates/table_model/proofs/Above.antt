-- What a prefix inherits, cut at the first bit.
use Rattle.std.proofs.Common.{◌≡◌, ℕ, List, [], ◌∷◌, Bool, true, false, not, ◌&&◌, refl, ap, ◌∙◌}
use Rattle.std.proofs.lemmas.Bool.{cond-false}
use Rattle.table_model.specs.Bits.{begins}
use Rattle.table_model.specs.Table.{Table, longest, hop_or, root, inherit, half}
use Rattle.table_model.proofs.Cut.{GoesOn, longest_half, hop_pushed}
use Rattle.table_model.specs.Regions.{strictly_containing}

strictly_on : (b : Bool) (a : List Bool) → GoesOn b (λ p. begins p (b ∷ a) && not (begins (b ∷ a) p)) (λ p. begins p a && not (begins a p))
strictly_on true a = record { at_nil = refl; at_same = λ p. refl; at_other = λ p. refl }
strictly_on false a = record { at_nil = refl; at_same = λ p. refl; at_other = λ p. refl }

-- what p inherits, below the default h
pub above_cut : (b : Bool) (p : List Bool) (L : Table) (h : ℕ) → hop_or h (longest (strictly_containing (b ∷ p) L)) ≡ hop_or (inherit (root L) h) (longest (strictly_containing p (half b L)))
above_cut b p L h = ap (hop_or h) (longest_half b _ _ (strictly_on b p) L) ∙ hop_pushed b (longest (strictly_containing p (half b L))) (root L) h

pub none_above : (L : Table) → strictly_containing [] L ≡ []
none_above [] = refl
none_above (e ∷ L) = cond-false _ _ _ (no_more e.prefix) ∙ none_above L
  where
    no_more : (p : List Bool) → (begins p [] && false) ≡ false
    no_more [] = refl
    no_more (true ∷ p) = refl
    no_more (false ∷ p) = refl
