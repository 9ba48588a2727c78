use Rattle.std.proofs.Common.{ap, nat_eq}
use Rattle.std.proofs.lemmas.Nat.Bits.{shr_and_one}
use Rattle.orig_tree.proofs.path.bit_of.Goals as goal

pub returns : goal.returns
returns c = ap (λ x. nat_eq x 1) (shr_and_one c.args.word c.args.place)
