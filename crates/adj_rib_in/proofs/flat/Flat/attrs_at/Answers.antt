use Rattle.adj_rib_in.proofs.Flats.{attrs_read, bare_kept}
use Rattle.adj_rib_in.proofs.flat.Flat.attrs_at.Goals as goal

pub returns-in-Some : goal.returns-in-Some
returns-in-Some c = attrs_read c.args.self.now c.args.key.now c.args.at c.requires.flat c.requires.slot c.in-Some.slot c.in-Some.ensures c.attrs_by.result c.attrs_by.ensures

pub returns-in-None : goal.returns-in-None
returns-in-None c = absurd (bare_kept c.args.self.now c.args.key.now c.args.at c.requires.slot c.in-None.ensures)
