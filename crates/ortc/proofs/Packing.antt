-- Entries that are packed.
use Rattle.std.proofs.Common.{◌≡◌, ℕ, zero, suc, ◌+◌, ◌*◌, ◌/◌, ◌%◌, ◌^◌, ◌<◌, ◌≤◌, List, [], ◌∷◌, ◌++◌, take, map, length, ap, sym, ◌∙◌, arith}
use Rattle.std.proofs.lemmas.Nat.{div-add-mod'}
use Rattle.std.specs.Prelude.{get_or}
use Rattle.std.specs.List.{AllByRecursion}
use Rattle.std.specs.Map.{keys_of}
use Rattle.table_model.specs.Address.{IsPrefix}
use Rattle.table_model.specs.Width.{width}
use Rattle.fib_addr.proofs.Parts.{length_prefix}
use Rattle.ortc.specs.Packed.{packed_entry_as}
use Rattle.ortc.specs.declared.packed.PackedEntry.{PackedEntry}

-- a number is made of its halves
pub halves_join : (b h l : ℕ) → h ≡ b / 2 ^ 64 → l ≡ b % 2 ^ 64 → h * 2 ^ 64 + l ≡ b
halves_join b h l up low = ap (λ n. n * 2 ^ 64 + l) up ∙ (ap (λ n. b / 2 ^ 64 * 2 ^ 64 + n) low ∙ div-add-mod' b (2 ^ 64))

-- prefixes of packed entries are prefixes
pub packed_prefixes : (es : List PackedEntry) → AllByRecursion IsPrefix (keys_of (map packed_entry_as es))
packed_prefixes [] = tt
packed_prefixes (e ∷ es) = (omega (arith, length_prefix (width e.family) e.len (e.high * 2 ^ 64 + e.low) e.fits, e.fits), packed_prefixes es)

-- one item more
pub take_next : {A B : Type 0} (view : A → B) (xs : List A) (i : ℕ) (x : A) → i < length xs → x ≡ get_or xs i x → map view (take (i + 1) xs) ≡ map view (take i xs) ++ view x ∷ []
take_next view [] i x h e = absurd (omega arith)
take_next view (y ∷ xs) zero x h e = ap (λ a. view a ∷ []) (sym e)
take_next view (y ∷ xs) (suc i) x h e = let g : suc i + 1 ≡ suc (i + 1) = omega arith in ap (λ j. map view (take j (y ∷ xs))) g ∙ ap (λ ys. view y ∷ ys) (take_next view xs i x (omega arith) e)
