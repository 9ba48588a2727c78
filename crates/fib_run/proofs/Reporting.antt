-- One row more.
use Rattle.std.proofs.Common.{◌≡◌, ℕ, ◌+◌, ◌<◌, List, [], ◌∷◌, ◌++◌, take, map, length, refl, sym, ap, ◌∙◌}
use Rattle.std.specs.Prelude.{get_or}
use Rattle.std.proofs.lemmas.List.{map_push}
use Rattle.table_model.specs.Address.{Address}
use Rattle.table_model.specs.Entries.{Entries, match_in}
use Rattle.fib_addr.specs.declared.addr.Addr.{Addr}
use Rattle.fib_addr.specs.Views.{addr_as}
use Rattle.poptrie_build.specs.Tries.{visits_of}
use Rattle.fib_report.specs.declared.run.Answer as code_answer
use Rattle.fib_report.specs.Views.{Answer, answer_as}
use Rattle.fib_due.specs.Due.{answers_to}
use Rattle.fib_run.proofs.Steps.{take_next}

abbrev answer_of : Address → ℕ → ℕ → Answer
answer_of a hop visits = record { addr = a; hop = hop; visits = visits }

-- the answer of an address, which is its longest match, and its visits
looked_up : (s : ℕ) (routes : Entries) (x : code_answer.Answer) (a : Address) → addr_as x.addr ≡ a → x.hop.0 ≡ match_in routes a → x.visits ≡ visits_of s routes a → answer_as x ≡ answer_of a (match_in routes a) (visits_of s routes a)
looked_up s routes x a e h v = ap (λ b. answer_of b x.hop.0 x.visits) e ∙ (ap (λ n. answer_of a n x.visits) h ∙ ap (λ n. answer_of a (match_in routes a) n) v)

pub one_answer : (s : ℕ) (routes : Entries) (asks : List Addr) (i : ℕ) (a : Addr) (x : code_answer.Answer) (answers more : List code_answer.Answer) → i < length asks → a ≡ get_or asks i a → x.addr ≡ a → x.hop.0 ≡ match_in routes (addr_as a) → x.visits ≡ visits_of s routes (addr_as a)
    → map answer_as answers ≡ answers_to s routes (map addr_as (take i asks)) → more ≡ answers ++ x ∷ [] → map answer_as more ≡ answers_to s routes (map addr_as (take (i + 1) asks))
one_answer s routes asks i a x answers more lt is e h v so_far grown =
    let last : Answer = answer_of (addr_as a) (match_in routes (addr_as a)) (visits_of s routes (addr_as a)) in
    ap (map answer_as) grown ∙ (map_push answer_as answers x
    ∙ (ap (λ xs. xs ++ answer_as x ∷ []) so_far ∙ (ap (λ y. answers_to s routes (map addr_as (take i asks)) ++ y ∷ []) (looked_up s routes x (addr_as a) (ap addr_as e) h v)
    ∙ sym (ap (answers_to s routes) (take_next addr_as asks i a lt is) ∙ all_push (map addr_as (take i asks)) last refl))))
  where
    all_push : (xs : List Address) (last : Answer) → last ≡ answer_of (addr_as a) (match_in routes (addr_as a)) (visits_of s routes (addr_as a)) → answers_to s routes (xs ++ addr_as a ∷ []) ≡ answers_to s routes xs ++ last ∷ []
    all_push [] last e = ap (λ y. y ∷ []) (sym e)
    all_push (y ∷ xs) last e = ap (λ cs. answer_of y (match_in routes y) (visits_of s routes y) ∷ cs) (all_push xs last e)
