-- Texts that are put at the end of a buffer.
use Rattle.std.proofs.Common.{◌≡◌, ℕ, ◌-◌, ◌≤◌, List, ◌++◌, length, take, drop, sym, ap, ◌∙◌, append-nil}
use Rattle.std.proofs.Math.ListN.{drop_of_length-le}
use Rattle.std.proofs.lemmas.List.{take_rest}

-- what is behind a place of a buffer of n octets, where nothing was behind its end
pub all_behind : (start n : ℕ) (now old text : List ℕ) → length now ≡ n → length old ≤ n → drop start now ≡ text ++ drop n old → take (n - start) (drop start now) ≡ text
all_behind start n now old text long all put =
    ap (λ k. take (k - start) (drop start now)) (sym long) ∙ (take_rest now start
    ∙ (put ∙ (ap (λ xs. text ++ xs) (drop_of_length-le old all) ∙ append-nil text)))
