use Rattle.std.proofs.Common.{ap, sym, subst, ◌∙◌, ◌≡◌, suc, ◌+◌, length, [], ◌∷◌, rules}
use Rattle.std.specs.Prelude.{slice_set}
use Rattle.adj_rib_in.specs.Flat.{AreFlat, paths_on}
use Rattle.adj_rib_in.proofs.Flats.{slot_pushed, paths_more}
use Rattle.adj_rib_in.proofs.flat.Flat.push_slot.Goals as goal

pub returns-clause-ok : goal.returns-clause-ok
returns-clause-ok c =
    let o = c.args.self.now in
    ap (λ rows. paths_on rows o.peers.keys o.hops.keys c.push_slot.new.self.slots) c.push_slot.ensures.items
    ∙ (ap (paths_on o.rows.items o.peers.keys o.hops.keys) c.in_ok-push_slot.ensures.ok ∙ paths_more o.rows.items o.peers.keys o.hops.keys o.rows.slots (c.args.slot ∷ []))

pub returns-clause-flat : goal.returns-clause-flat
returns-clause-flat c =
    let o = c.args.self.now in
    let end : c.slot_count.result + 1 ≡ suc (length o.rows.slots) = search rules in
    let ends = slice_set o.ends.items c.args.slot.peer (c.slot_count.result + 1) in
    subst (λ rows. AreFlat rows c.push_slot.new.self.slots o.peers.keys o.hops.keys ends) (sym c.push_slot.ensures.items) (subst (λ slots. AreFlat o.rows.items slots o.peers.keys o.hops.keys ends) (sym c.in_ok-push_slot.ensures.ok) (slot_pushed o c.args.slot (c.slot_count.result + 1) c.requires.flat c.requires.next end))
