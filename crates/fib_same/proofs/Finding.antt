-- One text more that is compared with the first.
use Rattle.std.proofs.Common.{◌≡◌, ℕ, zero, suc, List, [], ◌∷◌, ◌++◌, Option, Some, None, refl, sym, ap, subst, ◌∙◌, inl, inr, length}
use Rattle.std.specs.Prelude.{option_map, IfSome}
use Rattle.std.specs.List.{slice_get}
use Rattle.table_model.specs.Address.{Address}
use Rattle.table_model.specs.Entries.{Entries, match_in}
use Rattle.cert_model.specs.Verdict.{NotSame, not_same}
use Rattle.fib_addr.specs.Views.{addr_as}
use Rattle.fib_same.specs.Texts.{Difference, difference_at, differing, least_difference, lesser}
use Rattle.fib_same.proofs.Found.{found_more, not_same_is, says_at}
use Rattle.cert_check.specs.Views.{differ_as}
use Rattle.cert_check.specs.declared.alike.Differ.{Differ}
use Rattle.fib_same.specs.declared.compare.Found.{Found}
use Rattle.fib_same.specs.Views.{AnswersOf, Finds, IsOneOf, IsSmall, text_difference_as, found_at}

same_no : (a b : Address) (x y u v : ℕ) → NotSame a x y ≡ NotSame b u v → (a ≡ b) × (x ≡ u) × (y ≡ v)
same_no a b x y u v e = (cc, cc, cc)

-- what a checker found is where the text differs, and its answers are those of both
found_is : (first t : Entries) (place : ℕ) (d : Option Differ) (a : Option Address) → option_map differ_as d ≡ option_map (says_at first t) a
    → (option_map text_difference_as (found_at place d) ≡ option_map (λ b. record { text = place; addr = b }) a) × IfSome d (λ x. (match_in first (addr_as x.addr) ≡ x.first.0) × (match_in t (addr_as x.addr) ≡ x.second.0))
found_is first t place None None e = (refl, tt)
found_is first t place None (Some a) e = absurd cc
found_is first t place (Some d) None e = absurd cc
found_is first t place (Some d) (Some a) e =
    let is : differ_as d ≡ says_at first t a = cc in
    let p = same_no (addr_as d.addr) a d.first.0 d.second.0 (match_in first a) (match_in t a) is in (
      ap (λ (b : Address). let x : Difference = record { text = place; addr = b } in Some x) p.0,
      (ap (match_in first) p.0 ∙ sym p.1, ap (match_in t) p.0 ∙ sym p.2),
    )

at_end : (done : List Entries) (t : Entries) → slice_get (done ++ t ∷ []) (length done) ≡ Some t
at_end [] t = refl
at_end (u ∷ done) t = at_end done t

stays : {A : Type 0} (f : Entries → A) (done : List Entries) (t : Entries) (n : ℕ) (x : A) → option_map f (slice_get done n) ≡ Some x → option_map f (slice_get (done ++ t ∷ []) n) ≡ Some x
stays f [] t n x e = absurd cc
stays f (u ∷ done) t zero x e = e
stays f (u ∷ done) t (suc n) x e = stays f done t n x e

answers_stay : (first : Entries) (done : List Entries) (t : Entries) (best : Option Found) → IfSome best (AnswersOf first done) → IfSome best (AnswersOf first (done ++ t ∷ []))
answers_stay first done t None a = tt
answers_stay first done t (Some f) a = (a.0, stays (λ u. match_in u (addr_as f.differ.addr)) done t f.place f.differ.second.0 a.1)

answers_come : (first : Entries) (done : List Entries) (t : Entries) (place : ℕ) (d : Option Differ) → place ≡ length done → IfSome d (λ x. (match_in first (addr_as x.addr) ≡ x.first.0) × (match_in t (addr_as x.addr) ≡ x.second.0))
    → IfSome (found_at place d) (AnswersOf first (done ++ t ∷ []))
answers_come first done t place None e a = tt
answers_come first done t place (Some d) e a =
    (a.0, ap (λ (n : ℕ). option_map (λ u. match_in u (addr_as d.addr)) (slice_get (done ++ t ∷ []) n)) e ∙ (ap (option_map (λ u. match_in u (addr_as d.addr))) (at_end done t) ∙ ap Some a.1))

pub finds_more : (first : Entries) (done : List Entries) (t : Entries) (best result : Option Found) (place : ℕ) (d : Option Differ) → place ≡ length done → Finds first done best
    → option_map differ_as d ≡ not_same first t → option_map text_difference_as result ≡ lesser (option_map text_difference_as best) (option_map text_difference_as (found_at place d)) → IsOneOf result best (found_at place d)
    → Finds first (done ++ t ∷ []) result
finds_more first done t best result place d e finds is least one =
    let f = found_is first t place d (differing first t) (is ∙ not_same_is first t) in (
      least
          ∙ (ap (λ o. lesser o (option_map text_difference_as (found_at place d))) finds.0
          ∙ (ap (lesser (least_difference first done)) (f.0 ∙ ap (λ (n : ℕ). difference_at first n t) e) ∙ sym (found_more first done t))),
      by_one one,
    )
  where
    by_one : IsOneOf result best (found_at place d) → IfSome result (AnswersOf first (done ++ t ∷ []))
    by_one (inl old) = subst (λ o. IfSome o (AnswersOf first (done ++ t ∷ []))) (sym old) (answers_stay first done t best finds.1)
    by_one (inr new) = subst (λ o. IfSome o (AnswersOf first (done ++ t ∷ []))) (sym new) (answers_come first done t place d e (found_is first t place d (differing first t) (is ∙ not_same_is first t)).1)

pub small_more : (best next result : Option Found) → IsSmall next → IsOneOf result best next → IsSmall best → IsSmall result
small_more best next result s (inl old) b = subst IsSmall (sym old) b
small_more best next result s (inr new) b = subst IsSmall (sym new) s
