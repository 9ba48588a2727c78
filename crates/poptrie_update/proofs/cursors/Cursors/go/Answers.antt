use Rattle.std.proofs.Common.{rules, ◌≡◌, Some, subst}
use Rattle.poptrie_update.specs.Cursors.{lookup_of}
use Rattle.poptrie_update.specs.Reads.{published_entries}
use Rattle.poptrie_update.specs.Stages.{IsStageRead, Moves}
use Rattle.poptrie_update.specs.declared.cursors.Lookup.{Lookup}
use Rattle.poptrie_update.specs.declared.cursors.Stage.{Stage}
use Rattle.poptrie_update.proofs.Opened.{each_fits}
use Rattle.poptrie_update.proofs.Going.{can_go, past_first, first_goes, further_goes}
use Rattle.poptrie_update.proofs.cursors.Cursors.go.Goals as goal

pub read-at-requires-clause-family : goal.read-at-requires-clause-family
read-at-requires-clause-family c =
    let is : lookup_of c.args.self.now c.args.number ≡ Some c.in-Some-Some.lookup = search rules in
    (c.requires.fits.1.going c.args.number c.in-Some-Some.lookup is).family

pub read-at-requires-clause-can : goal.read-at-requires-clause-can
read-at-requires-clause-can c =
    let is : lookup_of c.args.self.now c.args.number ≡ Some c.in-Some-Some.lookup = search rules in
    let due = c.requires.fits.0 in
    let fits = c.requires.fits.1 in
    can_go c.args.live.now c.in-Some-Some.lookup (due c.args.number) (fits.going c.args.number c.in-Some-Some.lookup is, each_fits c.args.live.now c.args.self.now due fits c.args.number c.in-Some-Some.lookup is)

pub returns-clause-is_open : goal.returns-clause-is_open
returns-clause-is_open c =
    let is : lookup_of c.args.self.now c.args.number ≡ Some c.in-Some-Some.lookup = search rules in
    (c.in-Some-Some.lookup, is)

pub returns-clause-first : goal.returns-clause-first
returns-clause-first c = λ k e w L M due sh f.
    let is : lookup_of c.args.self.now c.args.number ≡ Some c.in-Some-Some.lookup = search rules in
    let q : c.in-Some-Some.lookup ≡ k = cc in
    let m = subst (λ (x : Lookup). Moves c.go_on.result c.read-at.result x c.args.number c.args.self.now c.go_on.new.self) q c.go_on.ensures in
    let r = subst (λ (x : Lookup). IsStageRead c.read-at.result c.args.live.now x.addr x.stage) q c.read-at.ensures in
    let first = subst (λ (t : Stage). IsStageRead c.read-at.result c.args.live.now k.addr t) w r in
    first_goes c.args.live.now c.args.number k c.args.self.now c.go_on.new.self due e f c.read-at.result c.go_on.result (published_entries c.args.live.now L M k.addr) m (first L M sh)

pub returns-clause-further : goal.returns-clause-further
returns-clause-further c = λ k e w due f.
    let is : lookup_of c.args.self.now c.args.number ≡ Some c.in-Some-Some.lookup = search rules in
    let q : c.in-Some-Some.lookup ≡ k = cc in
    let m = subst (λ (x : Lookup). Moves c.go_on.result c.read-at.result x c.args.number c.args.self.now c.go_on.new.self) q c.go_on.ensures in
    let r = subst (λ (x : Lookup). IsStageRead c.read-at.result c.args.live.now x.addr x.stage) q c.read-at.ensures in
    let p = past_first k.stage w in
    let next = subst (λ (t : Stage). IsStageRead c.read-at.result c.args.live.now k.addr t) p.3 r in
    further_goes c.args.live.now c.args.number k c.args.self.now c.go_on.new.self due e f p.0 p.1 p.2 c.read-at.result c.go_on.result p.3 m next
