-- Texts that are kept of next hops.
use Rattle.std.specs.Prelude.{◌≡◌, ℕ, List, [], ◌∷◌}
use Rattle.table_model.specs.Address.{Address, IsAddress}
use Rattle.fib_addr.specs.Text.{address_text}

-- the texts are those of the first hops, which are addresses
abbrev pub AreTextsOf : List Address → List (List ℕ) → Type 0
AreTextsOf hops [] = Unit {0}
AreTextsOf [] (text ∷ texts) = ⊥
AreTextsOf (hop ∷ hops) (text ∷ texts) = (text ≡ address_text hop) × IsAddress hop × AreTextsOf hops texts
