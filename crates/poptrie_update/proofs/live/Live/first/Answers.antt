use Rattle.std.proofs.Common.{sym, subst}
use Rattle.table_model.specs.Entries.{Entries}
use Rattle.poptrie_update.specs.Lives.{Living, Shows}
use Rattle.poptrie_update.specs.Reads.{Starts, published_entries}
use Rattle.poptrie_update.proofs.Pair.{by_published, starts_in_set}
use Rattle.poptrie_update.proofs.live.Live.first.Goals as goal

pub returns : goal.returns
returns c = λ L M sh.
    let l : Living = record { selected = c.self.inside.selected; other = c.self.inside.other; state = c.self.inside.state; number = c.self.inside.number } in
    subst (λ (x : Living). Starts c.in_set.result x (published_entries x L M c.args.addr.now) c.args.addr.now) c.self.view_is
    (by_published (λ (E : Entries). Starts c.in_set.result l E c.args.addr.now) l.state l.selected l.other c.args.addr.now (λ E F h. starts_in_set c.first.result c.in_set.result l _ c.args.addr.now c.in_set.ensures (c.first.ensures E F h)) L M (subst (λ (x : Living). Shows x L M) (sym c.self.view_is) sh))
