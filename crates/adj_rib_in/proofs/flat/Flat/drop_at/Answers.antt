use Rattle.std.proofs.Common.{ap, sym, subst, ◌∙◌, ◌≡◌}
use Rattle.std.specs.Prelude.{slice_set, slice_index_or, option_map}
use Rattle.std.proofs.lemmas.Option.{get_or_from_slice_get, same_Some}
use Rattle.adj_rib_in.specs.declared.slot.PathSlot.{PathSlot}
use Rattle.adj_rib_in.specs.declared.slot.RunSlot.{RunSlot}
use Rattle.adj_rib_in.specs.Slots.{rowless}
use Rattle.adj_rib_in.specs.Flat.{AreFlat, Thins, emptied, no_slot, flat_paths, paths_on}
use Rattle.adj_rib_in.proofs.Flats.{slot_dropped, dropped_thins}
use Rattle.adj_rib_in.proofs.flat.Flat.drop_at.Goals as goal

pub returns-in-Some-clause-flat : goal.returns-in-Some-clause-flat
returns-in-Some-clause-flat c =
    let o = c.args.self.now in
    let x = c.requires.last in
    let e : slice_index_or o.rows.slots c.args.at no_slot ≡ x.slot = get_or_from_slice_get o.rows.slots c.args.at x.slot no_slot x.there in
    let k : rowless x.slot ≡ c.in-Some.slot = sym (same_Some c.in-Some.slot (rowless x.slot) (c.in-Some.ensures ∙ ap (option_map rowless) x.there)) in
    let slots = c.empty.ensures.slots ∙ ap (λ (w : PathSlot). slice_set o.rows.slots c.args.at (emptied w)) e in
    let ends = slice_set o.ends.items c.args.peer c.in-Some.slot.link in
    subst (λ rows. AreFlat rows c.empty.new.self.slots o.peers.keys o.hops.keys ends) (sym c.empty.ensures.items)
    (subst (λ slots. AreFlat o.rows.items slots o.peers.keys o.hops.keys ends) (sym slots)
    (subst (λ (w : RunSlot). AreFlat o.rows.items (slice_set o.rows.slots c.args.at (emptied x.slot)) o.peers.keys o.hops.keys (slice_set o.ends.items c.args.peer w.link)) k (slot_dropped o c.args.peer c.args.at c.requires.flat x)))

pub returns-in-Some-clause-paths : goal.returns-in-Some-clause-paths
returns-in-Some-clause-paths c =
    let o = c.args.self.now in
    let x = c.requires.last in
    let e : slice_index_or o.rows.slots c.args.at no_slot ≡ x.slot = get_or_from_slice_get o.rows.slots c.args.at x.slot no_slot x.there in
    let slots = c.empty.ensures.slots ∙ ap (λ (w : PathSlot). slice_set o.rows.slots c.args.at (emptied w)) e in
    subst (λ rows. Thins (flat_paths o) (paths_on rows o.peers.keys o.hops.keys c.empty.new.self.slots)) (sym c.empty.ensures.items)
    (subst (λ slots. Thins (flat_paths o) (paths_on o.rows.items o.peers.keys o.hops.keys slots)) (sym slots) (dropped_thins o c.args.peer c.args.at c.requires.flat x))
