use Rattle.std.proofs.Common.{◌≡◌, [], ◌++◌, ◌<◌, ◌/◌, length, ap, ◌∙◌, arith}
use Rattle.std.specs.Prelude.{map, flat_map}
use Rattle.std.specs.List.{range_with_len}
use Rattle.made_input.specs.Views.{drawn_route_as}
use Rattle.made_input.proofs.Records.{piece_put}
use Rattle.made_input.proofs.Following.{four_more, no_step, update_of, update_is, update_state_is}
use Rattle.made_input.proofs.updates.make_updates.Goals as goal

pub loop-init : goal.loop-init
loop-init c = record {
  put = λ seed routes state. c.in_ok-out.ensures.items;
  state = no_step c.args.from.now.state;
}

pub loop-preserved : goal.loop-preserved
loop-preserved c =
    let n = length c.args.routes.now in
    let some : 0 < length c.args.routes.now = omega arith in
    record {
      put = λ seed routes state. piece_put (update_of seed n) [] c.loop.out.items c.put_update.new.out.items c.loop.counter (c.loop.invariant.put seed routes state)
          (c.in_ok-put_update.ensures.put ∙ ap (λ xs. c.loop.out.items ++ xs) (update_is seed n c.loop.counter c.loop.from.state (map drawn_route_as c.args.routes.now) routes (update_state_is seed n c.args.from.now.state c.loop.from.state c.loop.counter state c.loop.invariant.state) some));
      state = four_more c.args.from.now.state c.loop.from.state c.put_update.new.from.state c.loop.counter c.loop.invariant.state c.in_ok-put_update.ensures.state;
    }

pub returns : goal.returns
returns c =
    let n = length c.args.routes.now in
    let all : c.loop.counter ≡ length c.args.routes.now / 2 = omega arith in
    λ seed routes state. c.loop.invariant.put seed routes state ∙ ap (λ k. flat_map (update_of seed n) (range_with_len 0 k)) all
