use Rattle.std.proofs.Common.{subst, sym, ◌≡◌, ◌-◌, length, rules}
use Rattle.adj_rib_in.specs.Flat.{IsLastRow}
use Rattle.adj_rib_in.proofs.flat.Flat.open_row.Goals as goal

pub returns : goal.returns
returns c = let n : c.in_ok-row.row ≡ length c.args.self.now.rows.items - 1 = search rules in subst (IsLastRow c.args.self.now.rows.items c.args.prefix.now) (sym n) c.requires
