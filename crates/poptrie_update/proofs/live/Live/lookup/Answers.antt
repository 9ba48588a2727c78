use Rattle.std.proofs.Common.{◌≡◌, sym, subst}
use Rattle.fib_addr.specs.Views.{addr_as}
use Rattle.table_model.specs.Entries.{Entries, match_in}
use Rattle.poptrie_build.specs.Tries.{visits_of}
use Rattle.poptrie_update.specs.Lives.{Living, Shows}
use Rattle.poptrie_update.specs.Reads.{published_entries}
use Rattle.poptrie_update.proofs.Pair.{by_published}
use Rattle.poptrie_update.proofs.live.Live.lookup.Goals as goal

pub returns-clause-hop : goal.returns-clause-hop
returns-clause-hop g c = λ L M sh.
    let l : Living = record { selected = c.self.inside.selected; other = c.self.inside.other; state = c.self.inside.state; number = c.self.inside.number } in
    subst (λ (x : Living). c.lookup.result.hop.0 ≡ match_in (published_entries x L M c.args.addr.now) (addr_as c.args.addr.now)) c.self.view_is
    (by_published (λ (E : Entries). c.lookup.result.hop.0 ≡ match_in E (addr_as c.args.addr.now)) l.state l.selected l.other c.args.addr.now c.lookup.ensures.hop L M (subst (λ (x : Living). Shows x L M) (sym c.self.view_is) sh))

pub returns-clause-visits : goal.returns-clause-visits
returns-clause-visits g c = λ L M sh.
    let l : Living = record { selected = c.self.inside.selected; other = c.self.inside.other; state = c.self.inside.state; number = c.self.inside.number } in
    subst (λ (x : Living). c.lookup.result.visits ≡ visits_of x.selected.direct_bits (published_entries x L M c.args.addr.now) (addr_as c.args.addr.now)) c.self.view_is
    (by_published (λ (E : Entries). c.lookup.result.visits ≡ visits_of l.selected.direct_bits E (addr_as c.args.addr.now)) l.state l.selected l.other c.args.addr.now c.lookup.ensures.visits L M (subst (λ (x : Living). Shows x L M) (sym c.self.view_is) sh))
