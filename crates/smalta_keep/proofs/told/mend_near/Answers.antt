use Rattle.std.proofs.Common.{◌≡◌, List, [], cond, map, sym, ap, subst, ◌∙◌}
use Rattle.table_model.specs.Changes.{Change}
use Rattle.kept_model.specs.Between.{between}
use Rattle.moves_model.specs.Rows.{near_in}
use Rattle.fib_addr.specs.Views.{prefix_as}
use Rattle.fib_addr.specs.declared.prefix.Prefix as code_prefix
use Rattle.fib_delta.specs.declared.change.Change as code
use Rattle.fib_delta.specs.Views.{change_as}
use Rattle.smalta_keep.specs.Back.{taken_back}
use Rattle.smalta_keep.specs.Reach.{AreWithin}
use Rattle.smalta_keep.specs.Rooms.{AreOf}
use Rattle.smalta_keep.proofs.Near.{near_placed, near_of_family, all_back, beside_changes}
use Rattle.smalta_keep.proofs.Tables.{if_of}
use Rattle.smalta_keep.proofs.told.mend_near.Goals as goal

pub taken_back_if-requires : goal.taken_back_if-requires
taken_back_if-requires c =
    let k = c.args.tree.now in
    let of = near_of_family k c.root-root.result.entries c.root-root.ensures.entries in
    subst (λ (cs : List code.Change). AreOf k.family (map change_as cs)) (sym c.deref.ensures.value) (subst (λ (cs : List Change). AreOf k.family cs) (sym c.in_ok-there.ensures.changes) of.0)

pub reach_of-requires : goal.reach_of-requires
reach_of-requires c =
    let k = c.args.tree.now in
    let of = near_of_family k c.root-root.result.entries c.root-root.ensures.entries in
    let mine : AreOf k.family (map change_as c.deref-2.result.now) = subst (λ (cs : List code.Change). AreOf k.family (map change_as cs)) (sym c.deref-2.ensures.value) (subst (λ (cs : List Change). AreOf k.family cs) (sym c.in_ok-there.ensures.changes) of.0) in
    subst (λ f. AreOf f (map change_as c.deref-2.result.now)) (sym c.requires.family) mine

pub returns : goal.returns
returns c =
    let k = c.args.tree.now in
    let f = k.family in
    let T = k.entries in
    let N = near_in f k.routes T in
    let t = c.family-family.ensures.order.1 in
    let n = near_placed f k.routes T in
    let of = near_of_family k c.root-root.result.entries c.root-root.ensures.entries in
    let there : map change_as c.in_ok-there.there.items ≡ between T N = c.in_ok-there.ensures.changes in
    let back : map change_as c.in_ok-back.back.items ≡ cond c.args.back (between N T) [] =
    c.in_ok-back.ensures ∙ ap (λ (cs : List Change). cond c.args.back cs []) (ap (map (taken_back T)) (ap (map change_as) c.deref.ensures.value ∙ there) ∙ all_back T N t n)
    in
    let reach = c.reach_of.result in
    record {
      old_order = t;
      order = n;
      there = there;
      back = back;
      of_there = subst (λ (cs : List Change). AreOf f cs) (sym there) of.0;
      of_back = subst (λ (cs : List Change). AreOf f cs) (sym back) (if_of f c.args.back (between N T) of.1);
      of_reach = λ p e. let s : reach ≡ p = cc in subst (λ (x : code_prefix.Prefix). x.family ≡ f) s (c.reach_of.ensures.family ∙ c.requires.family);
      beside = beside_changes (prefix_as reach) f T N t n (subst (λ (cs : List Change). AreWithin (prefix_as reach) cs) (ap (map change_as) c.deref-2.ensures.value ∙ there) c.reach_of.ensures.within);
    }
