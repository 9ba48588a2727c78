use Rattle.std.proofs.Common.{◌≡◌, ◌++◌, ◌*◌, length, ap, sym, ◌∙◌, append-nil, arith}
use Rattle.std.specs.Prelude.{map, flat_map}
use Rattle.std.specs.List.{range_with_len}
use Rattle.made_input.specs.Draws.{state_after}
use Rattle.made_input.specs.Drawn.{entry_route}
use Rattle.wire_model.specs.Octets.{record_octets}
use Rattle.made_input.specs.Files.{peer_table_body}
use Rattle.made_input.proofs.MadeReading.{length-table, rib_record}
use Rattle.made_input.specs.Views.{drawn_route_as, entry_record}
use Rattle.made_input.proofs.Records.{alone, piece_put}
use Rattle.made_input.proofs.Following.{five_more, routes_more, no_step}
use Rattle.made_input.proofs.dump.make_dump.Goals as goal

pub put_record-requires : goal.put_record-requires
put_record-requires c =
    let body = c.deref.ensures.value ∙ alone c.new-scratch.result.body.items c.put_peers.new.out.items peer_table_body c.new-scratch.ensures c.in_ok-put_peers.ensures in
    omega (arith, ap length body, length-table)

pub loop-number-init : goal.loop-number-init
loop-number-init c =
    let body = c.deref.ensures.value ∙ alone c.new-scratch.result.body.items c.put_peers.new.out.items peer_table_body c.new-scratch.ensures c.in_ok-put_peers.ensures in
    record {
      put = alone c.in_ok-out.out.items c.put_record.new.out.items (record_octets 13 1 c.deref.result.now) c.in_ok-out.ensures.items c.in_ok-put_record.ensures ∙ (ap (record_octets 13 1) body ∙ sym (append-nil (record_octets 13 1 peer_table_body)));
      drawn = ap (map drawn_route_as) c.in_ok-routes.ensures.items;
      state = no_step c.args.from.now.state;
    }

pub loop-number-preserved : goal.loop-number-preserved
loop-number-preserved c = record {
  put = piece_put (rib_record c.args.from.now.state) (record_octets 13 1 peer_table_body) c.loop-number.out.items c.put_entry.new.out.items c.loop-number.number c.loop-number.invariant.put (c.in_ok-route.ensures.put ∙ ap (λ s. c.loop-number.out.items ++ entry_record c.loop-number.number s) c.loop-number.invariant.state);
  drawn = routes_more c.args.from.now.state c.loop-number.from.state c.loop-number.number c.loop-number.routes.items c.push.new.self.items c.in_ok-route.route c.loop-number.invariant.drawn c.loop-number.invariant.state c.in_ok-push.ensures.items c.in_ok-route.ensures.route;
  state = five_more c.args.from.now.state c.loop-number.from.state c.put_entry.new.from.state c.loop-number.number c.loop-number.invariant.state c.in_ok-route.ensures.state;
}

pub returns : goal.returns
returns c =
    let all : c.loop-number.number ≡ c.args.count = omega arith in
    record {
      dump = c.loop-number.invariant.put ∙ ap (λ n. record_octets 13 1 peer_table_body ++ flat_map (rib_record c.args.from.now.state) (range_with_len 0 n)) all;
      routes = c.loop-number.invariant.drawn ∙ ap (λ n. map (entry_route c.args.from.now.state) (range_with_len 0 n)) all;
      state = c.loop-number.invariant.state ∙ ap (λ n. state_after c.args.from.now.state (5 * n)) all;
    }
