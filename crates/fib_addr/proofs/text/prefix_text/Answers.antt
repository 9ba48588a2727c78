use Rattle.std.proofs.Common.{◌≡◌, ◌≤◌, ◌++◌, ap, ◌∙◌, sym, append_assoc, arith, codes, decimal, drop, length}
use Rattle.table_model.specs.Width.{width}
use Rattle.fib_addr.specs.Text.{address_text, first_address}
use Rattle.fib_addr.specs.Views.{prefix_as}
use Rattle.fib_addr.proofs.Backs.{all_behind}
use Rattle.fib_addr.proofs.Parts.{length_prefix}
use Rattle.fib_addr.proofs.text.prefix_text.Goals as goal

pub returns-clause-text : goal.returns-clause-text
returns-clause-text c =
    let p = c.put_addr-start in
    let prefix = c.args.prefix.now in
    let first = address_text (first_address (prefix_as prefix)) in
    let len = decimal prefix.len in
    let behind = drop 43 c.args.buffer.now in
    let now : length p.new.out ≡ 43 = omega arith in
    let old : length c.args.buffer.now ≤ 43 = omega arith in
    let put = p.ensures.text ∙ (ap (λ a. address_text a ++ drop c.put-slash.result c.put-slash.new.out) c.first_addr.ensures
    ∙ (ap (λ xs. first ++ xs) (c.put-slash.ensures.text ∙ ap (λ xs. codes "/" ++ xs) c.put_octet-len.ensures.text)
    ∙ (sym (append_assoc first (codes "/") (len ++ behind)) ∙ sym (append_assoc (first ++ codes "/") len behind)))) in
    all_behind p.result 43 p.new.out c.args.buffer.now ((first ++ codes "/") ++ len) now old put
    ∙ ap (λ n. address_text (first_address (prefix_as prefix)) ++ codes "/" ++ decimal n) (sym (length_prefix (width prefix.family) prefix.len prefix.bits prefix.fits))
