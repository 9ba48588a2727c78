use Rattle.std.proofs.Common.{sym, subst, ◌≡◌, None, refl}
use Rattle.std.specs.Map.{lookup}
use Rattle.std.specs.BTreeMap.{is_at}
use Rattle.adj_rib_in.specs.Orders.{key_cmp}
use Rattle.adj_rib_in.specs.Flat.{IsFlat, IsLastRow, IsPeerNumber}
use Rattle.adj_rib_in.proofs.Flats.{next_slot, appended, grows_more}
use Rattle.adj_rib_in.proofs.flat.Flat.push_route.Goals as goal

pub push_slot-requires-clause-next : goal.push_slot-requires-clause-next
push_slot-requires-clause-next c =
    let q = c.requires.key.0 in
    let s = c.requires.key.1 in
    let m = c.number_hop_of.new.self in
    let f : IsFlat m = c.number_hop_of.ensures.flat c.requires.flat in
    next_slot m q c.args.row c.args.peer c.in_ok-hop.hop c.args.path c.args.id c.end_of-link.result c.args.hop.now f
    (subst (λ rows. IsLastRow rows q.prefix c.args.row) (sym c.number_hop_of.ensures.rows) s.row)
    (subst (λ keys. IsPeerNumber keys q.via.peer c.args.peer) (sym c.number_hop_of.ensures.peers) s.peer)
    c.in_ok-hop.ensures.hop (subst (λ xs. lookup (is_at (key_cmp q)) xs ≡ None) (sym (c.number_hop_of.ensures.paths c.requires.flat)) s.new) s.id_is c.end_of-link.ensures

pub returns-clause-ok : goal.returns-clause-ok
returns-clause-ok c = λ q s.
    let m = c.number_hop_of.new.self in
    let row : IsLastRow m.rows.items q.prefix c.args.row = subst (λ rows. IsLastRow rows q.prefix c.args.row) (sym c.number_hop_of.ensures.rows) s.row in
    appended c.args.self.now m q c.args.row c.args.peer c.in_ok-hop.hop c.args.path c.args.id c.end_of-link.result c.args.hop.now (record { path = c.args.path; hop = c.args.hop.now }) (c.number_hop_of.ensures.paths c.requires.flat) row.0
    (subst (λ keys. IsPeerNumber keys q.via.peer c.args.peer) (sym c.number_hop_of.ensures.peers) s.peer)
    c.in_ok-hop.ensures.hop refl refl s.id_is s.new _ c.in_ok-push_slot.ensures.ok

pub returns-clause-grows : goal.returns-clause-grows
returns-clause-grows c = grows_more c.args.self.now c.number_hop_of.new.self _ c.number_hop_of.ensures.grows c.push_slot.ensures.grows

pub returns-in_err-push_slot-clause-grows : goal.returns-in_err-push_slot-clause-grows
returns-in_err-push_slot-clause-grows c = grows_more c.args.self.now c.number_hop_of.new.self _ c.number_hop_of.ensures.grows c.push_slot.ensures.grows
