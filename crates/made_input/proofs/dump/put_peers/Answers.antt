use Rattle.std.proofs.Common.{◌≡◌, ◌++◌, ap, sym, ◌∙◌, append-nil, arith}
use Rattle.std.specs.Prelude.{flat_map}
use Rattle.std.specs.List.{range_with_len}
use Rattle.wire_model.specs.Octets.{number_octets}
use Rattle.made_input.specs.Files.{peer_entry}
use Rattle.made_input.proofs.Records.{piece_put, table_put}
use Rattle.made_input.proofs.dump.put_peers.Goals as goal

pub loop-peer-init : goal.loop-peer-init
loop-peer-init c = sym (append-nil c.put_u16-2.new.out.items)

pub loop-peer-preserved : goal.loop-peer-preserved
loop-peer-preserved c = piece_put peer_entry c.put_u16-2.new.out.items c.loop-peer.out.items c.put_peer.new.out.items c.loop-peer.peer c.loop-peer.invariant c.in_ok-put_peer.ensures

pub returns : goal.returns
returns c =
    let all : c.loop-peer.peer ≡ 8 = omega arith in
    c.loop-peer.invariant ∙ (ap (λ n. c.put_u16-2.new.out.items ++ flat_map peer_entry (range_with_len 0 n)) all
    ∙ table_put c.args.out.now.items c.put_u32.new.out.items c.put_u16.new.out.items c.put_u16-2.new.out.items c.in_ok-put_u32.ensures c.in_ok-put_u16.ensures (c.in_ok-put_u16-2.ensures ∙ ap (λ n. c.put_u16.new.out.items ++ number_octets 2 n) c.from.ensures))
