use Rattle.std.proofs.Common.{Err, refl, sym, ap, ◌∙◌, subst, arith}
use Rattle.table_model.specs.declared.family.Family.{Family}
use Rattle.fib_prefix.specs.Views.{elem_as}
use Rattle.poptrie_update.specs.Cursors.{IsFirst}
use Rattle.fib_router.specs.Router.{IsPinnedFor, IsRestingFor}
use Rattle.route_tries.specs.Sizes.{shortage_as}
use Rattle.step_script.specs.Rows.{prepared}
use Rattle.step_script.specs.Script.{prepares}
use Rattle.router_steps.specs.Runs.{cursors_in}
use Rattle.router_steps.proofs.Assembled.{as_begun, leads_as, resting_of}
use Rattle.router_steps.proofs.Beginning.{Refuses, Tries, begun_now, few_cursor, few_of, full_as, pinned_told, refused_as, too_large, too_many}
use Rattle.router_steps.proofs.stepper.Stepper.begin.Goals as goal

pub begin-requires-clause-rest : goal.begin-requires-clause-rest
begin-requires-clause-rest c = let a = c.requires.somewhere in resting_of a.0 a.1 c.args.self.now c.requires.quiet a.2

pub returns-in-Ok-clause-takes : goal.returns-in-Ok-clause-takes
returns-in-Ok-clause-takes c = λ w s h.
    let x = c.args.self.now in
    let e = elem_as c.args.elem.now in
    let next = c.requires.next in
    let first = subst (λ (f : Family). IsFirst c.oldest-oldest.result (cursors_in f x)) c.family_of-family.ensures c.oldest-oldest.ensures in
    let tries : Tries c.oldest-oldest.result e x.router c.begin.new.self = record { held = c.begin.ensures.held; readies = c.begin.ensures.readies; other = c.begin.ensures.other } in
    let few = few_of _ _ (λ over. let z = sym c.in-Ok.is ∙ c.begin.ensures.full.1 over in absurd (cc)) in
    leads_as w s prepares prepared prepared _ _ refl (as_begun x c.begin.new.self x.upcoming x.ended _ _ c.keep.ensures)
    (begun_now w s x c.requires.quiet h e next.0 next.1 few c.oldest-oldest.result first c.begin.new.self tries c.in-Ok.begun
    (record { begun = c.in-Ok.ensures.begun; elem = c.in-Ok.ensures.elem; brings = c.in-Ok.ensures.brings; few = few; fits = c.in-Ok.ensures.fits; ready = c.in-Ok.ensures.ready }))

pub returns-in-Err-HopsFull-clause-stops : goal.returns-in-Err-HopsFull-clause-stops
returns-in-Err-HopsFull-clause-stops c = λ w s h.
    let x = c.args.self.now in
    let e = elem_as c.args.elem.now in
    let next = c.requires.next in
    let first = subst (λ (f : Family). IsFirst c.oldest-oldest.result (cursors_in f x)) c.family_of-family.ensures c.oldest-oldest.ensures in
    let tries : Tries c.oldest-oldest.result e x.router c.begin.new.self = record { held = c.begin.ensures.held; readies = c.begin.ensures.readies; other = c.begin.ensures.other } in
    let refuses : Refuses x.router c.begin.new.self = record { rest = c.in-Err-HopsFull.ensures.rest; kept = c.in-Err-HopsFull.ensures.kept; quiet = c.in-Err-HopsFull.ensures.quiet } in
    ((too_many w s x c.requires.quiet h e next.0 next.1 (c.begin.ensures.full.0 (c.in-Err-HopsFull.is ∙ ap Err c.in-Err-HopsFull.field-0-is)), omega (arith, h.ended)), refused_as w s x c.requires.quiet h e next.0 next.1 c.oldest-oldest.result first c.begin.new.self tries refuses)

pub returns-in-Err-NoMemory-clause-stops : goal.returns-in-Err-NoMemory-clause-stops
returns-in-Err-NoMemory-clause-stops c = λ w s h.
    let x = c.args.self.now in
    let e = elem_as c.args.elem.now in
    let next = c.requires.next in
    let first = subst (λ (f : Family). IsFirst c.oldest-oldest.result (cursors_in f x)) c.family_of-family.ensures c.oldest-oldest.ensures in
    let tries : Tries c.oldest-oldest.result e x.router c.begin.new.self = record { held = c.begin.ensures.held; readies = c.begin.ensures.readies; other = c.begin.ensures.other } in
    let refuses : Refuses x.router c.begin.new.self = record { rest = c.in-Err-NoMemory.ensures.rest; kept = c.in-Err-NoMemory.ensures.kept; quiet = c.in-Err-NoMemory.ensures.quiet } in
    (tt, refused_as w s x c.requires.quiet h e next.0 next.1 c.oldest-oldest.result first c.begin.new.self tries refuses)

pub printed-requires : goal.printed-requires
printed-requires c = let a = c.requires.somewhere in
    let x = c.args.self.now in
    let e = elem_as c.args.elem.now in
    let next = c.requires.next in
    let first = subst (λ (f : Family). IsFirst c.oldest-oldest.result (cursors_in f x)) c.family_of-family.ensures c.oldest-oldest.ensures in
    let tries : Tries c.oldest-oldest.result e x.router c.begin.new.self = record { held = c.begin.ensures.held; readies = c.begin.ensures.readies; other = c.begin.ensures.other } in
    few_cursor a.0 a.1 x e c.oldest-oldest.result _ c.in-Err-Pinned.cursor _ _ a.2 first (subst (IsPinnedFor c.oldest-oldest.result e x.router) c.in-Err-Pinned.field-0-is c.in-Err-Pinned.ensures.pinned)

pub returns-in-Err-Pinned-clause-takes : goal.returns-in-Err-Pinned-clause-takes
returns-in-Err-Pinned-clause-takes c = λ w s h.
    let x = c.args.self.now in
    let e = elem_as c.args.elem.now in
    let next = c.requires.next in
    let first = subst (λ (f : Family). IsFirst c.oldest-oldest.result (cursors_in f x)) c.family_of-family.ensures c.oldest-oldest.ensures in
    let tries : Tries c.oldest-oldest.result e x.router c.begin.new.self = record { held = c.begin.ensures.held; readies = c.begin.ensures.readies; other = c.begin.ensures.other } in
    let refuses : Refuses x.router c.begin.new.self = record { rest = c.in-Err-Pinned.ensures.rest; kept = c.in-Err-Pinned.ensures.kept; quiet = c.in-Err-Pinned.ensures.quiet } in
    let few = few_of _ _ (λ over. let z = sym (ap Err c.in-Err-Pinned.field-0-is) ∙ (sym c.in-Err-Pinned.is ∙ c.begin.ensures.full.1 over) in absurd (cc)) in
    pinned_told w s x c.requires.quiet h e next.0 next.1 few c.oldest-oldest.result first c.begin.new.self tries c.crowded_law.ensures.nodes c.crowded_law.ensures.leaves _ c.in-Err-Pinned.cursor _ c.printed.result _ c.family_of-family.result c.printed.ensures c.family_of-family.ensures (subst (IsPinnedFor c.oldest-oldest.result e x.router) c.in-Err-Pinned.field-0-is c.in-Err-Pinned.ensures.pinned) (subst (IsRestingFor e x.router) c.in-Err-Pinned.field-0-is c.in-Err-Pinned.ensures.resting) refuses

pub returns-in-Err-TrieFull-clause-stops : goal.returns-in-Err-TrieFull-clause-stops
returns-in-Err-TrieFull-clause-stops c = λ w s h.
    let x = c.args.self.now in
    let e = elem_as c.args.elem.now in
    let next = c.requires.next in
    let first = subst (λ (f : Family). IsFirst c.oldest-oldest.result (cursors_in f x)) c.family_of-family.ensures c.oldest-oldest.ensures in
    let tries : Tries c.oldest-oldest.result e x.router c.begin.new.self = record { held = c.begin.ensures.held; readies = c.begin.ensures.readies; other = c.begin.ensures.other } in
    let refuses : Refuses x.router c.begin.new.self = record { rest = c.in-Err-TrieFull.ensures.rest; kept = c.in-Err-TrieFull.ensures.kept; quiet = c.in-Err-TrieFull.ensures.quiet } in
    let few = few_of _ _ (λ over. let z = sym (ap Err c.in-Err-TrieFull.field-0-is) ∙ (sym c.in-Err-TrieFull.is ∙ c.begin.ensures.full.1 over) in absurd (cc)) in
    let short = c.begin.ensures.short c.in-Err-TrieFull.full (c.in-Err-TrieFull.is ∙ ap Err c.in-Err-TrieFull.field-0-is) in
    ((full_as w s _ _ _ _ _ _ _ _ c.trie_full-family.ensures.family c.trie_full-family.ensures.arena c.trie_full-family.ensures.places.0 c.trie_full-family.ensures.places.1 (too_large w s x c.requires.quiet h e next.0 next.1 few (shortage_as c.in-Err-TrieFull.full) short), omega (arith, h.ended)), refused_as w s x c.requires.quiet h e next.0 next.1 c.oldest-oldest.result first c.begin.new.self tries refuses)
