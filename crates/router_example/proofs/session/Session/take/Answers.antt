use Rattle.std.proofs.Common.{ap, ◌∙◌, subst}
use Rattle.table_model.specs.declared.family.Family.{Family}
use Rattle.poptrie_update.specs.Cursors.{IsFirst}
use Rattle.fib_engine.specs.Held.{EngineState}
use Rattle.fib_prefix.specs.Views.{elem_as}
use Rattle.router_example.specs.Beside.{lookups_of}
use Rattle.router_example.proofs.Keeping.{begun_beside, refused_beside}
use Rattle.router_example.proofs.session.Session.take.Goals as goal

pub returns-in_err-begun : goal.returns-in_err-begun
returns-in_err-begun c =
    let first = subst (λ (f : Family). IsFirst c.oldest-oldest.result (lookups_of f c.begin.new.self)) c.family_of.ensures c.oldest-oldest.ensures in
    record {
      rest = c.in_err-begun.ensures.rest;
      counted = ap (λ (h : EngineState). h.events) c.begin-2.ensures.held ∙ c.requires.counted;
      beside = refused_beside c.oldest-oldest.result (elem_as c.args.elem.now) c.args.self.now.router c.begin-2.new.self c.begin.new.self first c.begin-2.ensures.readies c.begin-2.ensures.other c.begin.ensures c.in_err-begun.ensures.kept;
    }

pub carry_out-changes-requires-clause-beside : goal.carry_out-changes-requires-clause-beside
carry_out-changes-requires-clause-beside c =
    let first = subst (λ (f : Family). IsFirst c.oldest-oldest.result (lookups_of f c.begin.new.self)) c.family_of.ensures c.oldest-oldest.ensures in
    begun_beside c.oldest-oldest.result (elem_as c.args.elem.now) c.args.self.now.router c.begin-2.new.self c.begin.new.self first c.begin-2.ensures.readies c.begin-2.ensures.other c.begin.ensures c.in_ok-begun.ensures.ready
