use Rattle.std.proofs.Common.{◌≡◌, [], refl, sym, ap, ◌∙◌, arith}
use Rattle.table_model.specs.Address.{Prefix}
use Rattle.table_model.specs.Width.{width}
use Rattle.table_model.specs.Table.{root, cut}
use Rattle.table_model.specs.Entries.{of_family}
use Rattle.table_model.specs.Regions.{above}
use Rattle.table_model.proofs.Both.{family_is}
use Rattle.cert_model.specs.Rows.{whole_prefix}
use Rattle.fib_addr.specs.Views.{prefix_as}
use Rattle.orig_tree.proofs.Telling.{whole_len}
use Rattle.moves_model.specs.Way.{turn_by}
use Rattle.moves_model.proofs.Entries.{above_nil}
use Rattle.fib_moves.proofs.Whole.{whole_place, tree_family}
use Rattle.fib_moves.proofs.way.start.Goals as goal

pub returns-clause-way : goal.returns-clause-way
returns-clause-way c =
    let k = c.args.tree.now in
    let p = c.whole-whole.result in
    let T = of_family k.family k.entries in
    let e : prefix_as p ≡ whole_prefix k.family = c.whole-whole.ensures ∙ ap whole_prefix c.family.ensures.family in
    let r = c.region-region in
    record {
      place = whole_place k p r.result e r.ensures.bits r.ensures.answers r.ensures.entries c.family.ensures.order.1 c.family.ensures.order.0 (tree_family k c.root.result.entries c.root.ensures.entries) _ c.root.result refl refl c.root.ensures.entries;
      at = e;
      bits = r.ensures.bits;
      routes = sym (family_is k.family c.root.result.routes) ∙ ap (of_family k.family) c.root.ensures.routes;
      entries = r.ensures.entries ∙ ap (λ (q : Prefix). cut q.bits T) e;
      comes = sym (above_nil T 0);
      old = c.entry-old.ensures ∙ ap root r.ensures.entries;
      inherited = sym (ap (λ (q : Prefix). above q.bits T 0) e ∙ above_nil T 0);
      family = ap (λ (q : Prefix). q.family) e;
      turn = λ s d n. let z : d ≡ width k.family = omega (arith, n, whole_len k.family p e) in ap (λ (q : Prefix). turn_by [] q.bits s d T) e ∙ ap (λ x. turn_by [] [] s x T) z;
    }
