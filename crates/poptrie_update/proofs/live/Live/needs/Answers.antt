use Rattle.poptrie_build.specs.declared.counts.Needs.{Needs}
use Rattle.table_model.specs.Entries.{Entries}
use Rattle.poptrie_set.specs.Lives.{Seen, ShowsIn, AreNeedsOf}
use Rattle.poptrie_update.specs.Lives.{ShowsBy, present_by, Living, Shows}
use Rattle.poptrie_update.specs.declared.live.Other.{Other}
use Rattle.poptrie_update.specs.declared.live.Other.TheVariants as other
use Rattle.std.proofs.Common.{subst}
use Rattle.poptrie_update.proofs.live.Live.needs.Goals as goal

by : (state : Other) (n : Needs) (s o : Seen) (L M : Entries) → ((E F : Entries) → ShowsIn s E F → AreNeedsOf n s E) → ShowsBy state s o L M → AreNeedsOf n s (present_by state L M)
by other.Free n s o L M f sh = f L M sh
by (other.Retired end) n s o L M f sh = f L M sh
by other.Built n s o L M f sh = f L L sh.0
by other.Replaced n s o L M f sh = f M M sh

pub returns : goal.returns
returns c = subst (λ (l : Living). (L M : Entries) → Shows l L M → AreNeedsOf c.needs.result l.selected (present_by l.state L M)) c.self.view_is (λ L M sh. by c.self.inside.state c.needs.result c.self.inside.selected c.self.inside.other L M c.needs.ensures sh)
