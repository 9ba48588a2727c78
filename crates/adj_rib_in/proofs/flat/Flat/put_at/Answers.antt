use Rattle.std.proofs.Common.{ap, sym, subst, ◌∙◌}
use Rattle.std.specs.Prelude.{slice_set}
use Rattle.std.proofs.lemmas.Option.{get_or_from_slice_get}
use Rattle.adj_rib_in.specs.declared.slot.PathSlot.{PathSlot}
use Rattle.adj_rib_in.specs.Flat.{Puts, flat_paths, attrs_by, no_slot, with_attrs}
use Rattle.adj_rib_in.proofs.Flats.{slot_set, set_puts, same_flat, same_paths}
use Rattle.adj_rib_in.proofs.flat.Flat.put_at.Goals as goal

pub returns-clause-flat : goal.returns-clause-flat
returns-clause-flat c =
    let b = c.args.self.now in
    let x = c.requires.slot in
    let e = ap (λ (s : PathSlot). slice_set b.rows.slots c.args.at (with_attrs c.args.path c.args.hop s)) (get_or_from_slice_get b.rows.slots c.args.at x.slot no_slot x.there) in
    same_flat b c.set.new.self _ c.set.ensures.rows (c.set.ensures.slots ∙ e) c.set.ensures.peers c.set.ensures.hops c.set.ensures.ends (slot_set b c.args.key.now c.args.at c.args.path c.args.hop c.requires.flat x c.requires.hop)

pub returns-clause-puts : goal.returns-clause-puts
returns-clause-puts c =
    let b = c.args.self.now in
    let x = c.requires.slot in
    let e = ap (λ (s : PathSlot). slice_set b.rows.slots c.args.at (with_attrs c.args.path c.args.hop s)) (get_or_from_slice_get b.rows.slots c.args.at x.slot no_slot x.there) in
    subst (λ xs. Puts (flat_paths b) xs c.args.key.now (attrs_by b.hops.keys c.args.path c.args.hop)) (sym (same_paths b c.set.new.self _ c.set.ensures.rows (c.set.ensures.slots ∙ e) c.set.ensures.peers c.set.ensures.hops)) (set_puts b c.args.key.now c.args.at c.args.path c.args.hop c.requires.flat x c.requires.hop)
