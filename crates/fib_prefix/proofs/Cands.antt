-- What candidates are.
use Rattle.table_model.specs.Width.{width}
use Rattle.table_model.proofs.BitLaws.{length-bits_of}
use Rattle.fib_prefix.specs.declared.event.Cand.{Cand}
use Rattle.fib_prefix.specs.Views.{IsOfOctets, cand_as}

pub of_octets : (c : Cand) → IsOfOctets (cand_as c)
of_octets c = record { asn = c.asn; id = c.id; hop = length-bits_of (width c.hop.family) c.hop.bits }
