use Rattle.std.proofs.Common.{◌≡◌, ◌∷◌, ◌++◌, [], ap, ◌∙◌, append_assoc, arith}
use Rattle.wire_model.proofs.Written.{number_put, sequence_is}
use Rattle.wire_model.proofs.put.put_sequence.Goals as goal

pub loop-init : goal.loop-init
loop-init c = record {
  put = c.in_ok-push-2.ensures.items ∙ (ap (λ xs. xs ++ c.args.count ∷ []) c.in_ok-push.ensures.items ∙ append_assoc c.args.out.now.items (2 ∷ []) (c.args.count ∷ []));
  few = omega arith;
}

pub loop-preserved : goal.loop-preserved
loop-preserved c = record {
  put = number_put c.args.out.now.items c.loop.out.items c.put_u32.new.out.items c.args.count c.args.asn c.loop.counter c.loop.invariant.put c.in_ok-put_u32.ensures;
  few = omega arith;
}

pub returns : goal.returns
returns c =
    let all : c.loop.counter ≡ c.args.count = omega arith in
    c.loop.invariant.put ∙ sequence_is c.args.out.now.items c.args.asn c.args.count c.loop.counter all
