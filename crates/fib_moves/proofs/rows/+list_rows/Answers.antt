use Rattle.std.proofs.Common.{refl, ap, map, arith, true, false}
use Rattle.table_model.specs.Address.{Prefix}
use Rattle.table_model.specs.Width.{width}
use Rattle.fib_addr.specs.Views.{prefix_as}
use Rattle.orig_tree.proofs.Telling.{half_longer}
use Rattle.cert_model.specs.Views.{row_as}
use Rattle.fib_moves.proofs.Passing.{knows_down, table_down}
use Rattle.fib_moves.proofs.Proving.{listed_leaf, listed_join}
use Rattle.fib_moves.proofs.rows.+list_rows.Goals as goal

pub returns-in-Some : goal.returns-in-Some
returns-in-Some t c =
    listed_leaf (prefix_as c.args.prefix.now) c.args.region.now c.in-Some.hop (map row_as c.args.out.now.items) (map row_as c.push_row.new.out.items) c.in-Some.ensures.bare c.in-Some.ensures.one c.in_ok-push_row.ensures

pub list_rows-requires : goal.list_rows-requires
list_rows-requires t c =
    let s = c.args.region.now in
    let h = c.half.result in
    let e = c.half.ensures in
    (omega (arith, e.bits), (omega (arith, c.requires.bits, e.bits, half_longer c.args.prefix.now c.half-2.result false c.half-2.ensures, ap (λ (x : Prefix). width x.family) c.half-2.ensures), (table_down s h false e.bits e.entries c.requires.table, knows_down s h false c.args.needs.now _ c.half_of-low.result.now e.bits e.routes e.entries e.hop c.requires.knows refl c.half_of-low.ensures)))

pub list_rows-requires-2 : goal.list_rows-requires-2
list_rows-requires-2 t c =
    let s = c.args.region.now in
    let h = c.half-3.result in
    let e = c.half-3.ensures in
    (omega (arith, e.bits), (omega (arith, c.requires.bits, e.bits, half_longer c.args.prefix.now c.half-4.result true c.half-4.ensures, ap (λ (x : Prefix). width x.family) c.half-4.ensures), (table_down s h true e.bits e.entries c.requires.table, knows_down s h true c.args.needs.now _ c.half_of-high.result.now e.bits e.routes e.entries e.hop c.requires.knows refl c.half_of-high.ensures)))

pub returns : goal.returns
returns t c =
    let l = c.half.ensures in
    let h = c.half-3.ensures in
    listed_join c.args.prefix.now c.half-2.result c.half-4.result c.args.region.now c.half.result c.half-3.result c.in_ok-k.k (map row_as c.args.out.now.items) (map row_as c.list_rows.new.out.items) (map row_as c.list_rows-2.new.out.items) (map row_as c.push_row-2.new.out.items)
    c.in_default.ensures.bits c.in_default.ensures.more c.in_ok-k.ensures l.bits l.routes l.entries l.hop h.bits h.routes h.entries h.hop c.half-2.ensures c.half-4.ensures c.in_ok-list_rows.ensures c.in_ok-list_rows-2.ensures c.in_ok-push_row-2.ensures
