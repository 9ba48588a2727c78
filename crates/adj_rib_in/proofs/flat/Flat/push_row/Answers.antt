use Rattle.std.proofs.Common.{ap, sym, subst, ◌∙◌, rules}
use Rattle.adj_rib_in.specs.declared.rows.Row.{Row}
use Rattle.adj_rib_in.specs.Flat.{AreFlat, IsLastRow, paths_on}
use Rattle.adj_rib_in.proofs.Flats.{row_pushed, row_new, row_paths}
use Rattle.adj_rib_in.proofs.flat.Flat.push_row.Goals as goal

pub returns-clause-row : goal.returns-clause-row
returns-clause-row c = subst (λ rows. IsLastRow rows c.args.prefix.now c.len-row.result) (sym c.in_ok-push.ensures.ok) (row_new c.args.self.now.rows.items c.args.prefix.now c.new.result (ap (λ (r : Row). r.prefix) c.new.ensures) c.len-row.result (search rules))

pub push-requires-clause-off : goal.push-requires-clause-off
push-requires-clause-off c = ap (λ (r : Row). r.off) c.new.ensures ∙ c.slot_count-off.ensures

pub returns-clause-flat : goal.returns-clause-flat
returns-clause-flat c =
    let o = c.args.self.now in
    subst (λ slots. AreFlat c.push.new.self.items slots o.peers.keys o.hops.keys o.ends.items) (sym c.push.ensures.slots) (subst (λ rows. AreFlat rows o.rows.slots o.peers.keys o.hops.keys o.ends.items) (sym c.in_ok-push.ensures.ok) (row_pushed o.rows.items o.rows.slots o.peers.keys o.hops.keys o.ends.items c.args.prefix.now c.new.result c.requires.flat c.requires.behind (ap (λ (r : Row). r.prefix) c.new.ensures) (ap (λ (r : Row). r.off) c.new.ensures ∙ c.slot_count-off.ensures)))

pub returns-clause-paths : goal.returns-clause-paths
returns-clause-paths c =
    let o = c.args.self.now in
    ap (paths_on c.push.new.self.items o.peers.keys o.hops.keys) c.push.ensures.slots ∙ row_paths o.rows.items _ o.rows.slots o.peers.keys o.hops.keys o.ends.items c.new.result c.requires.flat c.in_ok-push.ensures.ok
