use Rattle.std.proofs.Common.{refl, sym, ap, ◌∙◌, arith, true, false}
use Rattle.table_model.specs.Address.{Prefix}
use Rattle.table_model.specs.Width.{width}
use Rattle.fib_addr.specs.Views.{prefix_as}
use Rattle.orig_tree.specs.Spots.{spot_answers}
use Rattle.orig_tree.specs.Walk.{behind}
use Rattle.orig_tree.proofs.Telling.{half_longer}
use Rattle.fib_moves.proofs.Parts.{place_half}
use Rattle.fib_moves.proofs.Passing.{own_due, pass_end, pass_join}
use Rattle.fib_moves.proofs.Settled.{settled_gives, halves_give, half_gives}
use Rattle.fib_moves.proofs.Finding.{hops_down}
use Rattle.fib_moves.proofs.event_down.+list_differing.Goals as goal

pub list_half-list_settled-requires-clause-right : goal.list_half-list_settled-requires-clause-right
list_half-list_settled-requires-clause-right t c =
    let p = c.args.place.now in
    let r = p.region in
    settled_gives r.bits (spot_answers r) (behind p.node).routes r.entries c.args.inherited.had c.is_settled.result c.requires.right c.is_settled.ensures c.if-is_settled.true

pub list_half-list_differing-requires : goal.list_half-list_differing-requires
list_half-list_differing-requires t c =
    (omega arith, (c.requires.bits, (c.requires.place, (halves_give c.args.place.now c.args.inherited.had c.requires.right, c.requires.found (sym c.is_settled.ensures ∙ c.if-is_settled.false)))))

pub list_differing-due_hop-gets-requires : goal.list_differing-due_hop-gets-requires
list_differing-due_hop-gets-requires t c =
    let p = c.args.place.now in
    c.hops_of-own.ensures p.region.bits (spot_answers p.region) (behind p.node).routes p.region.entries c.requires.found

pub list_differing-is_end-requires-clause-found : goal.list_differing-is_end-requires-clause-found
list_differing-is_end-requires-clause-found t c =
    let p = c.args.place.now in
    c.hops_of-own.ensures p.region.bits (spot_answers p.region) (behind p.node).routes p.region.entries c.requires.found

pub list_differing-returns-then-is_end : goal.list_differing-returns-then-is_end
list_differing-returns-then-is_end t c =
    let s = c.args.place.now.region in
    pass_end s (prefix_as c.args.prefix) c.args.inherited.gets c.entry-had.result c.due_hop-gets.result c.if_differing-old.result.0 c.if_differing-old.result.1 c.args.out.now
    (record { had = c.push_entry.new.out; gets = c.push_entry-2.new.out }) (c.is_end.ensures.end c.if-is_end.true) c.entry-had.ensures (own_due s c.args.inherited.gets c.entry-had.result c.due_hop-gets.result c.entry-had.ensures c.due_hop-gets.ensures)
    c.if_differing-old.ensures c.in_ok-push_entry.ensures c.in_ok-push_entry-2.ensures

pub list_differing-list_half-requires : goal.list_differing-list_half-requires
list_differing-list_half-requires t c =
    let p = c.args.place.now in
    let q = c.half.result in
    let e = c.half.ensures in (
      omega (arith, e.bits),
      (
        omega (arith, c.requires.bits, e.bits, half_longer c.args.prefix c.half-2.result false c.half-2.ensures, ap (λ (x : Prefix). width x.family) c.half-2.ensures),
        (
          place_half p q false c.requires.place e.bits e.entries e.node,
          (
            half_gives p q false c.args.inherited.had c.below.result c.entry-had.result c.requires.right e.bits e.routes e.entries e.hop e.node_routes c.below.ensures c.entry-had.ensures,
            hops_down p q false e.bits e.routes e.entries e.hop e.node_routes c.args.found.now _ c.half_of-low.result.now c.requires.found refl c.half_of-low.ensures,
          ),
        ),
      ),
    )

pub list_differing-list_half-requires-2 : goal.list_differing-list_half-requires-2
list_differing-list_half-requires-2 t c =
    let p = c.args.place.now in
    let q = c.half-3.result in
    let e = c.half-3.ensures in (
      omega (arith, e.bits),
      (
        omega (arith, c.requires.bits, e.bits, half_longer c.args.prefix c.half-4.result true c.half-4.ensures, ap (λ (x : Prefix). width x.family) c.half-4.ensures),
        (
          place_half p q true c.requires.place e.bits e.entries e.node,
          (
            half_gives p q true c.args.inherited.had c.below.result c.entry-had.result c.requires.right e.bits e.routes e.entries e.hop e.node_routes c.below.ensures c.entry-had.ensures,
            hops_down p q true e.bits e.routes e.entries e.hop e.node_routes c.args.found.now _ c.half_of-high.result.now c.requires.found refl c.half_of-high.ensures,
          ),
        ),
      ),
    )

pub list_differing-returns : goal.list_differing-returns
list_differing-returns t c =
    let s = c.args.place.now.region in
    let l = c.half.ensures in
    let h = c.half-3.ensures in
    pass_join (prefix_as c.args.prefix) c.half-2.result c.half-4.result s c.half.result.region c.half-3.result.region c.args.inherited.gets c.below-2.result c.entry-had.result c.due_hop-gets.result c.if_differing-old.result.0 c.if_differing-old.result.1
    c.args.out.now (record { had = c.push_entry.new.out; gets = c.push_entry-2.new.out }) c.list_half.new.out c.list_half-2.new.out
    c.entry-had.ensures (own_due s c.args.inherited.gets c.entry-had.result c.due_hop-gets.result c.entry-had.ensures c.due_hop-gets.ensures) c.below-2.ensures c.if_differing-old.ensures c.in_ok-push_entry.ensures c.in_ok-push_entry-2.ensures
    l.bits l.routes l.entries l.hop h.bits h.routes h.entries h.hop c.half-2.ensures c.half-4.ensures c.in_ok-list_half.ensures c.in_ok-list_half-2.ensures
