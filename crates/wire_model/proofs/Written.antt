-- Parts that were put one behind the other are what they are to be.
use Rattle.std.proofs.Common.{◌≡◌, ℕ, zero, suc, ◌+◌, List, ◌∷◌, ◌++◌, replicate, sym, ap, ◌∙◌, append_assoc, append-nil, add-one}
use Rattle.std.specs.Prelude.{flat_map, Result, Ok, Err, is_ok, OnOk, if◌then◌else◌}
use Rattle.wire_model.specs.Octets.{number_octets, as_path_octets}

-- what the last part leaves, if there was memory for it
pub last_put : {X E : Type 0} (r : Result X E) (new old part whole : List ℕ) → new ≡ (if is_ok r then old ++ part else old) → old ++ part ≡ whole → OnOk r (new ≡ whole)
last_put (Ok x) new old part whole e h = e ∙ h
last_put (Err d) new old part whole e h = tt

-- what another call put, if there was memory for it
pub after_put : {X E : Type 0} (r : Result X E) (new old part whole : List ℕ) → OnOk r (new ≡ old ++ part) → old ++ part ≡ whole → OnOk r (new ≡ whole)
after_put (Ok x) new old part whole e h = e ∙ h
after_put (Err d) new old part whole e h = tt

-- ---- a sequence

abbrev pub as_numbers : ℕ → ℕ → List ℕ
as_numbers asn n = flat_map (number_octets 4) (replicate n asn)

-- one AS number more, at the end
numbers_behind : (asn n : ℕ) → number_octets 4 asn ++ as_numbers asn n ≡ as_numbers asn n ++ number_octets 4 asn
numbers_behind asn zero = append-nil (number_octets 4 asn)
numbers_behind asn (suc n) = ap (λ (xs : List ℕ). number_octets 4 asn ++ xs) (numbers_behind asn n) ∙ sym (append_assoc (number_octets 4 asn) (as_numbers asn n) (number_octets 4 asn))

pub number_put : (before after new : List ℕ) (count asn n : ℕ) → after ≡ before ++ 2 ∷ count ∷ as_numbers asn n → new ≡ after ++ number_octets 4 asn → new ≡ before ++ 2 ∷ count ∷ as_numbers asn (n + 1)
number_put before after new count asn n e h =
    let more : as_numbers asn n ++ number_octets 4 asn ≡ as_numbers asn (n + 1) = sym (numbers_behind asn n) ∙ ap (as_numbers asn) (sym (add-one n)) in
    h ∙ (ap (λ (xs : List ℕ). xs ++ number_octets 4 asn) e ∙ (append_assoc before (2 ∷ count ∷ as_numbers asn n) (number_octets 4 asn) ∙ ap (λ (xs : List ℕ). before ++ 2 ∷ count ∷ xs) more))

pub sequence_is : (before : List ℕ) (asn count n : ℕ) → n ≡ count → before ++ 2 ∷ count ∷ as_numbers asn n ≡ before ++ as_path_octets asn count
unfolding as_path_octets
sequence_is before asn count n e = ap (λ (k : ℕ). before ++ 2 ∷ count ∷ as_numbers asn k) e
