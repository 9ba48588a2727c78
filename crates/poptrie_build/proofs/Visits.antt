-- The visits of an address in a uniform region.
use Rattle.std.proofs.Common.{◌≡◌, ℕ, zero, suc, ◌+◌, ◌-◌, List, Bool, Some, length, take, drop, refl, sym, ap, ◌∙◌, arith, length-append}
use Rattle.std.proofs.lemmas.List.{take-append-drop, length-drop}
use Rattle.fib_addr.specs.Answers.{part, one_answer}
use Rattle.fib_addr.proofs.OneAnswer.{one_answer_part}
use Rattle.poptrie_build.specs.Strides.{mixed, visits}

-- no node is on the way through a uniform region
pub visits_none : (k d : ℕ) (f : List Bool → ℕ) (h : ℕ) (a : List Bool) → length a ≡ d → one_answer d f ≡ Some h → visits k d f a ≡ 0
unfolding visits
visits_none zero d f h a l e = refl
visits_none (suc k) d f h a l e =
    let s : length (take 6 a) + length (drop 6 a) ≡ d = sym (length-append (take 6 a) (drop 6 a)) ∙ (ap length (take-append-drop 6 a) ∙ l) in
    let m : length (drop 6 a) ≡ d - 6 = length-drop 6 a ∙ ap (λ n. n - 6) l in
    ap (λ x. mixed x + visits k (d - 6) (part (take 6 a) f) (drop 6 a)) e
    ∙ (let z = visits_none k (d - 6) (part (take 6 a) f) h (drop 6 a) m (one_answer_part d (d - 6) f h (take 6 a) (omega arith) e) in omega arith)
