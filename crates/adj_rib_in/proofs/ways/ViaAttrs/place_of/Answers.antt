use Rattle.std.proofs.Common.{rules, ◌≡◌, ◌-◌, length, subst, arith}
use Rattle.std.specs.Vec.{vec_len}
use Rattle.adj_rib_in.specs.Ways.{IsWayAt, BelongsAt}
use Rattle.adj_rib_in.proofs.WayLists.{goes_behind, is_way, after_more, goes_first}
use Rattle.adj_rib_in.proofs.ways.ViaAttrs.place_of.Goals as goal

pub loop-at-init : goal.loop-at-init
loop-at-init c =
    let n : c.len-at.result ≡ length c.self.inside.list.items = search rules in
    record { within = omega (arith, n); after = λ k d l m. absurd (omega (arith, l, m, n)) }

pub index-requires : goal.index-requires
index-requires c =
    let n : vec_len c.self.inside.list ≡ length c.self.inside.list.items = search rules in
    omega (arith, n, c.loop-at-test.true, c.loop-at.invariant.within)

pub returns-in-Less : goal.returns-in-Less
returns-in-Less c = subst (λ ws. BelongsAt ws c.args.via.now c.loop-at.at) c.self.view_is (goes_behind c.self.inside.list.items c.args.via.now c.loop-at.at c.index.result.now c.cmp.result c.self.invariant c.loop-at-test.true c.loop-at.invariant.within c.index.ensures c.cmp.ensures c.in-Less.is c.loop-at.invariant.after)

pub returns-in-Equal : goal.returns-in-Equal
returns-in-Equal c = subst (λ ws. IsWayAt ws c.args.via.now (c.loop-at.at - 1)) c.self.view_is (is_way c.self.inside.list.items c.args.via.now c.loop-at.at c.index.result.now c.cmp.result c.loop-at-test.true c.loop-at.invariant.within c.index.ensures c.cmp.ensures c.in-Equal.is)

pub loop-at-preserved : goal.loop-at-preserved
loop-at-preserved c = record {
  within = omega (arith, c.loop-at.invariant.within);
  after = after_more c.self.inside.list.items c.args.via.now c.loop-at.at c.index.result.now c.cmp.result c.loop-at-test.true c.loop-at.invariant.within c.index.ensures c.cmp.ensures c.in-Greater.is c.loop-at.invariant.after;
}

pub returns : goal.returns
returns c = subst (λ ws. BelongsAt ws c.args.via.now 0) c.self.view_is (goes_first c.self.inside.list.items c.args.via.now c.loop-at.at (omega (arith, c.loop-at-test.false)) c.loop-at.invariant.after)
