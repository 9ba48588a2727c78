use Rattle.std.proofs.Common.{◌≡◌, ◌/◌, ◌%◌, ◌++◌, ap, sym, ◌∙◌, append-nil, arith}
use Rattle.std.proofs.lemmas.Bool.{ne_eqb}
use Rattle.wire_model.specs.Octets.{as_path_octets}
use Rattle.wire_model.proofs.Written.{after_put}
use Rattle.mrt_write.proofs.Written.{sequences, sequence_put, path_whole, path_rest}
use Rattle.mrt_write.proofs.attribute.put_path.Goals as goal

pub loop-init : goal.loop-init
loop-init c = record { put = sym (append-nil c.args.out.now.items); few = omega arith }

pub loop-preserved : goal.loop-preserved
loop-preserved c = record {
  put = sequence_put c.args.out.now.items c.loop.out.items c.put_sequence.new.out.items c.args.asn c.loop.counter c.loop.invariant.put c.in_ok-put_sequence.ensures;
  few = omega arith;
}

pub returns-then-rest-eq0 : goal.returns-then-rest-eq0
returns-then-rest-eq0 c =
    let all : c.loop.counter ≡ c.args.path / 255 = omega (arith, c.loop.invariant.few) in
    c.loop.invariant.put ∙ (ap (λ n. c.args.out.now.items ++ sequences c.args.asn n) all ∙ path_whole c.args.out.now.items c.args.asn c.args.path c.if-rest-eq0.true)

pub returns : goal.returns
returns c =
    let all : c.loop.counter ≡ c.args.path / 255 = omega (arith, c.loop.invariant.few) in
    let put = c.loop.invariant.put ∙ ap (λ n. c.args.out.now.items ++ sequences c.args.asn n) all in
    after_put c.put_sequence-2.result c.put_sequence-2.new.out.items c.loop.out.items (as_path_octets c.args.asn (c.args.path % 255)) _ c.put_sequence-2.ensures
    (ap (λ xs. xs ++ as_path_octets c.args.asn (c.args.path % 255)) put ∙ path_rest c.args.out.now.items c.args.asn c.args.path (ne_eqb (c.args.path % 255) 0 c.if-rest-eq0.false))
