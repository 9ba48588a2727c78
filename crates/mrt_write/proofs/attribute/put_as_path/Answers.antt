use Rattle.std.proofs.Common.{◌≡◌, ◌++◌, length, ap, ◌∙◌, arith}
use Rattle.mrt_write.specs.Entries.{path_octets}
use Rattle.mrt_write.proofs.Paths.{length-path}
use Rattle.mrt_write.specs.Views.{as_path_of}
use Rattle.wire_model.proofs.Written.{after_put}
use Rattle.mrt_write.proofs.Written.{path_none, path_some}
use Rattle.mrt_write.proofs.attribute.put_as_path.Goals as goal

pub returns-then-path-eq0 : goal.returns-then-path-eq0
returns-then-path-eq0 c = path_none c.args.out.now.items c.args.asn c.args.path c.if-path-eq0.true

pub put_value-requires : goal.put_value-requires
put_value-requires c =
    let value : c.deref.result.now ≡ path_octets c.args.asn c.args.path = c.deref.ensures.value ∙ (c.in_ok-put_path.ensures ∙ ap (λ xs. xs ++ path_octets c.args.asn c.args.path) c.clear.ensures.items) in
    omega (arith, ap length value, length-path c.args.asn c.args.path c.requires)

pub returns : goal.returns
returns c =
    let value : c.deref.result.now ≡ path_octets c.args.asn c.args.path = c.deref.ensures.value ∙ (c.in_ok-put_path.ensures ∙ ap (λ xs. xs ++ path_octets c.args.asn c.args.path) c.clear.ensures.items) in
    after_put c.put_value.result c.put_value.new.out.items c.args.out.now.items (as_path_of c.deref.result.now) _ c.put_value.ensures
    (path_some c.args.out.now.items c.deref.result.now c.args.asn c.args.path c.if-path-eq0.false value)
