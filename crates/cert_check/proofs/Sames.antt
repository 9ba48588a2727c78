-- What an answer of `same` says.
use Rattle.std.proofs.Common.{◌≡◌, ℕ, Option, Some, None, refl, sym, ap, ◌∙◌, subst, ◌↔◌}
use Rattle.std.specs.Prelude.{option_map}
use Rattle.std.specs.Option.{IfSome, option_or}
use Rattle.table_model.specs.Address.{Address}
use Rattle.table_model.specs.declared.family.Family.TheVariants.{V4, V6}
use Rattle.table_model.specs.Entries.{Entries, match_in, AlikeInBoth}
use Rattle.cert_model.specs.Verdict.{NotSame, IsLeastDiffering, not_same, not_same_in}
use Rattle.cert_model.proofs.Differing.{same_law, says}
use Rattle.fib_addr.specs.Views.{addr_as}
use Rattle.cert_check.specs.declared.alike.Differ.{Differ}
use Rattle.cert_check.specs.Views.{differ_as}

abbrev Answers : Entries → Entries → Option Differ → Type 0
Answers R T d =
    ((d ≡ None) ↔ AlikeInBoth R T) × IfSome d (λ x. IsLeastDiffering R T (addr_as x.addr))
    × IfSome d (λ x. (x.first.0 ≡ match_in R (addr_as x.addr)) × (x.second.0 ≡ match_in T (addr_as x.addr)))

not_none : {X : Type 0} (x : X) → Some x ≡ None → ⊥
not_none x e = cc

parts : (a b : Address) (x y u v : ℕ) → NotSame a x y ≡ NotSame b u v → (a ≡ b) × (x ≡ u) × (y ≡ v)
parts a b x y u v e = (cc, cc, cc)

pub answers : (R T : Entries) (d : Option Differ) → option_map differ_as d ≡ not_same R T → Answers R T d
answers R T None e = ((λ n. (same_law R T).0 (sym e), λ a. refl), tt, tt)
answers R T (Some x) e =
    let s = says R T (differ_as x) (sym e) in
    let p = parts (addr_as x.addr) s.0 x.first.0 x.second.0 (match_in R s.0) (match_in T s.0) s.1 in (
      (λ n. absurd (not_none x n), λ a. absurd (not_none (differ_as x) (e ∙ (same_law R T).1 a))),
      subst (λ (y : Address). IsLeastDiffering R T y) (sym p.0) s.2,
      (p.1 ∙ ap (match_in R) (sym p.0), p.2 ∙ ap (match_in T) (sym p.0)),
    )

pub by_v4 : (R T : Entries) (d : Option Differ) (x : Differ) → d ≡ Some x → option_map differ_as d ≡ not_same_in R T V4 → option_map differ_as (Some x) ≡ not_same R T
by_v4 R T d x e f = ap (λ o. option_or o (not_same_in R T V6)) (ap (option_map differ_as) (sym e) ∙ f)

pub by_v6 : (R T : Entries) (d e : Option Differ) → d ≡ None → option_map differ_as d ≡ not_same_in R T V4 → option_map differ_as e ≡ not_same_in R T V6 → option_map differ_as e ≡ not_same R T
by_v6 R T d e n f g = g ∙ ap (λ o. option_or o (not_same_in R T V6)) (sym (ap (option_map differ_as) n) ∙ f)
