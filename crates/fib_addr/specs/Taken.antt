-- Entries after entries.
use Rattle.std.specs.Prelude.{◌≡◌, ◌++◌, []}
use Rattle.std.proofs.Common.{ap, sym, ◌∙◌, append_assoc}
use Rattle.std.proofs.lemmas.List.{append-nil}
use Rattle.table_model.specs.Entries.{Entries}

-- no entries
pub taken_none : (a : Entries) → a ≡ a ++ []
taken_none a = sym (append-nil a)

-- entries, and then more
pub taken_more : (a b c entries more : Entries) → b ≡ a ++ entries → c ≡ b ++ more → c ≡ a ++ (entries ++ more)
taken_more a b c entries more first next = next ∙ (ap (λ es. es ++ more) first ∙ append_assoc a entries more)
