-- Where an entry is refused, so are all.
use Rattle.std.proofs.Common.{◌≡◌, ℕ, ◌-◌, ◌<◌, List, Result}
use Rattle.octet_fields.specs.Field.{one_more, times}
use Rattle.octet_fields.proofs.Steps.{more_fault}
use Rattle.wire_model.specs.declared.rule.Rule.{Rule}
use Rattle.bgp_attrs.specs.Gives.{Refuses}
use Rattle.bgp_attrs.specs.declared.refusal.Refusal.{Refusal}
use Rattle.bgp_attrs.specs.declared.refusal.Refusal.TheVariants.{NoMemory, Rule as Broken}

pub refused_more : {A : Type 0} (item : List ℕ → Result (A × List ℕ) Rule) (count i : ℕ) (front : List A) (rest : List ℕ) (refusal : Refusal) (total : Result (List A × List ℕ) Rule)
    → i < count → Refuses refusal (item rest) → times (one_more item) (count - i) front rest ≡ total → Refuses refusal total
refused_more item count i front rest NoMemory total lt h so_far = tt
refused_more item count i front rest (Broken rule) total lt h so_far = more_fault item count i front rest rule total lt h so_far
