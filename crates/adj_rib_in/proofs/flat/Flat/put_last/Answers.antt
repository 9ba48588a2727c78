use Rattle.std.proofs.Common.{Some, sym, subst, refl}
use Rattle.adj_rib_in.specs.declared.keys.PathAttrs.{PathAttrs}
use Rattle.adj_rib_in.specs.declared.keys.PathKey.{PathKey}
use Rattle.adj_rib_in.specs.Flat.{IsLastRow}
use Rattle.adj_rib_in.proofs.Flats.{no_key_there, puts_from, grows_more}
use Rattle.adj_rib_in.proofs.Parts.{nothing}
use Rattle.adj_rib_in.proofs.flat.Flat.put_last.Goals as goal

pub push_route-requires-clause-key : goal.push_route-requires-clause-key
push_route-requires-clause-key c =
    let m = c.number_peer.new.self in
    let p = c.requires.row.0 in
    let q : PathKey = record { via = c.args.via.now; prefix = p } in
    let row : IsLastRow m.rows.items p c.args.row = subst (λ rows. IsLastRow rows p c.args.row) (sym c.number_peer.ensures.rows) c.requires.row.1 in (
      q,
      record {
        row = row;
        peer = c.in_ok-peer.ensures.peer;
        id_is = refl;
        new = no_key_there m q c.args.row c.in_ok-peer.peer c.slot_of.result c.number_peer.ensures.flat row.0 c.in_ok-peer.ensures.peer c.slot_of.ensures (nothing c.slot_of.result c.is_some.result c.is_some.ensures c.if-is_some.false);
      },
    )

pub returns-clause-yes : goal.returns-clause-yes
returns-clause-yes c = λ e p last.
    let m = c.number_peer.new.self in
    let q : PathKey = record { via = c.args.via.now; prefix = p } in
    let row : IsLastRow m.rows.items p c.args.row = subst (λ rows. IsLastRow rows p c.args.row) (sym c.number_peer.ensures.rows) last in
    let o : PathAttrs = record { path = c.args.path; hop = c.args.hop.now } in
    puts_from _ _ _ q (Some o) (Some o) c.number_peer.ensures.paths refl (c.in_ok-push_route.ensures.ok q (record {
      row = row;
      peer = c.in_ok-peer.ensures.peer;
      id_is = refl;
      new = no_key_there m q c.args.row c.in_ok-peer.peer c.slot_of.result c.number_peer.ensures.flat row.0 c.in_ok-peer.ensures.peer c.slot_of.ensures (nothing c.slot_of.result c.is_some.result c.is_some.ensures c.if-is_some.false);
    }))

pub returns-clause-grows : goal.returns-clause-grows
returns-clause-grows c = grows_more c.args.self.now c.number_peer.new.self _ c.number_peer.ensures.grows c.push_route.ensures.grows

pub returns-in_err-push_route-clause-grows : goal.returns-in_err-push_route-clause-grows
returns-in_err-push_route-clause-grows c = grows_more c.args.self.now c.number_peer.new.self _ c.number_peer.ensures.grows c.push_route.ensures.grows
