-- Candidates that were taken one by one.
use Rattle.std.specs.Prelude.{◌≡◌, List, [], ◌++◌, map}
use Rattle.std.proofs.Common.{ap, sym, ◌∙◌, append_assoc, append-nil}
use Rattle.fib_prefix.specs.Views.{cand_as}
use Rattle.fib_prefix.specs.declared.event.Cand.{Cand}
use Rattle.route_model.specs.Choice.{Candidates}

-- who takes candidates took these, in their order
pub record TakesCands {S : Type 0} (takes : S → List Cand → S → Type 0) (before : S) (held : Candidates) (now : S) : Type 0 where
  pub cands : List Cand
  pub are : map cand_as cands ≡ held
  pub took : takes before cands now

-- ---- a list takes them after those that it has

pub no_cands : (a : List Cand) → a ≡ a ++ []
no_cands a = sym (append-nil a)

pub more_cands : (a b c cands more : List Cand) → b ≡ a ++ cands → c ≡ b ++ more → c ≡ a ++ (cands ++ more)
more_cands a b c cands more first next = next ∙ (ap (λ cs. cs ++ more) first ∙ append_assoc a cands more)
