-- Paths that meet, and the bits of numbers that are paths.
use Rattle.std.proofs.Common.{◌≡◌, ℕ, zero, suc, ◌-◌, ◌≤◌, List, [], ◌∷◌, ◌++◌, Bool, true, false, length, take, drop, refl, ap, ◌∙◌, arith}
use Rattle.table_model.specs.Bits.{bits_of, begins}
use Rattle.route_tries.specs.Parts.{meet}

-- what begins with a path that doesn't meet p doesn't begin with p
pub apart : (q p a : List Bool) → meet q p ≡ false → begins p (q ++ a) ≡ false
apart [] p a e = cc
apart (true ∷ q) [] a e = cc
apart (false ∷ q) [] a e = cc
apart (true ∷ q) (true ∷ p) a e = apart q p a e
apart (false ∷ q) (false ∷ p) a e = apart q p a e
apart (true ∷ q) (false ∷ p) a e = refl
apart (false ∷ q) (true ∷ p) a e = refl

-- what begins with a path that meets p begins with p where what follows begins with what is left of p
pub within : (q p a : List Bool) → meet q p ≡ true → begins p (q ++ a) ≡ begins (drop (length q) p) a
within [] p a e = refl
within (true ∷ q) [] a e = refl
within (false ∷ q) [] a e = refl
within (true ∷ q) (true ∷ p) a e = within q p a e
within (false ∷ q) (false ∷ p) a e = within q p a e
within (true ∷ q) (false ∷ p) a e = cc
within (false ∷ q) (true ∷ p) a e = cc

-- each path meets the empty one
pub meet_none : (q : List Bool) → meet q [] ≡ true
meet_none [] = refl
meet_none (true ∷ q) = refl
meet_none (false ∷ q) = refl

-- what follows the front of a path begins with the path where the rest begins with what is left of it
pub begins_front : (n : ℕ) (p a : List Bool) → begins p (take n p ++ a) ≡ begins (drop n p) a
begins_front zero p a = refl
begins_front (suc n) [] a = refl
begins_front (suc n) (true ∷ p) a = begins_front n p a
begins_front (suc n) (false ∷ p) a = begins_front n p a

-- a path that meets one as long or longer is its front
pub met_is : (q p : List Bool) → length q ≤ length p → meet q p ≡ true → q ≡ take (length q) p
met_is [] p l e = refl
met_is (true ∷ q) [] l e = absurd (omega arith)
met_is (false ∷ q) [] l e = absurd (omega arith)
met_is (true ∷ q) (true ∷ p) l e = ap (λ x. true ∷ x) (met_is q p (omega arith) e)
met_is (false ∷ q) (false ∷ p) l e = ap (λ x. false ∷ x) (met_is q p (omega arith) e)
met_is (true ∷ q) (false ∷ p) l e = cc
met_is (false ∷ q) (true ∷ p) l e = cc

-- ---- paths of numbers
pub bits_drop : (a n q : ℕ) → drop a (bits_of n q) ≡ bits_of (n - a) q
unfolding bits_of
bits_drop zero n q = ap (λ m. bits_of m q) (let e : n ≡ n - 0 = omega arith in e)
bits_drop (suc a) zero q = ap (λ m. bits_of m q) (let e : 0 ≡ 0 - suc a = omega arith in e)
bits_drop (suc a) (suc n) q = bits_drop a n q ∙ ap (λ m. bits_of m q) (let e : n - a ≡ suc n - suc a = omega arith in e)
