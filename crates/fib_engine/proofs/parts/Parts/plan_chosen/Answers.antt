use Rattle.std.proofs.Common.{Bool, Err, sym, ap, subst, ◌≡◌, ◌∙◌}
use Rattle.std.proofs.lemmas.Result.{err_from_is_err_and}
use Rattle.route_tries.specs.Sizes.{first_short, sizes_as}
use Rattle.fib_engine.specs.declared.error.EngineError.TheVariants.{TrieFull}
use Rattle.fib_engine.specs.Tables.{AreTold}
use Rattle.fib_engine.proofs.Erring.{err_is}
use Rattle.fib_engine.proofs.Taking.{are_alike, kept_placed}
use Rattle.fib_engine.proofs.Staging.{chosen_needs, chosen_put}
use Rattle.fib_engine.proofs.parts.Parts.plan_chosen.Goals as goal

pub plan_fitting-requires-clause-order : goal.plan_fitting-requires-clause-order
plan_fitting-requires-clause-order c =
    let t = c.args.self.now in
    kept_placed t.candidates.candidates t.hops.list t.tables c.requires.sound

pub plan_fitting-requires-clause-alike : goal.plan_fitting-requires-clause-alike
plan_fitting-requires-clause-alike c =
    let t = c.args.self.now in
    are_alike t.candidates.candidates t.hops.list _ t.tables c.requires.sound

pub plan_fitting-requires-clause-needs : goal.plan_fitting-requires-clause-needs
plan_fitting-requires-clause-needs c = c.requires.kept.needs ∙ sym (chosen_needs c.args.elem.now c.args.chosen.now c.args.self.now c.requires)

pub plan_fitting-requires-clause-fits : goal.plan_fitting-requires-clause-fits
plan_fitting-requires-clause-fits c = ap (first_short (sizes_as c.args.self.now.limits.sizes)) (chosen_needs c.args.elem.now c.args.chosen.now c.args.self.now c.requires) ∙ c.requires.kept.fit

pub returns-in_err-fitting-clause-short : goal.returns-in_err-fitting-clause-short
returns-in_err-fitting-clause-short c = λ full e.
    let t = c.args.self.now in
    let p = err_from_is_err_and c.from_residual.result c.from_residual.ensures.1 in
    let is : c.in_err-fitting.field-0.0 ≡ TrieFull full = sym p.2 ∙ err_is (sym p.1 ∙ e) in
    ap (first_short (sizes_as t.limits.sizes)) (sym (chosen_put c.args.elem.now c.args.chosen.now t c.requires)) ∙ c.in_err-fitting.ensures.short full (ap Err is)

pub returns-clause-waiting : goal.returns-clause-waiting
returns-clause-waiting c =
    let t = c.args.self.now in
    let r = c.requires in
    record {
      loaded = r.loaded;
      before = t.tables;
      sound = r.sound;
      kept = r.kept;
      tables = c.plan_fitting.ensures.tables;
      put = c.in_ok-fitting.ensures.put;
      told = subst (λ (b : Bool). AreTold c.plan_fitting.new.tables t.limits.fewest c.args.chosen.now.route b c.in_ok-fitting.fitting.plan.v4 c.in_ok-fitting.fitting.plan.v6) c.is_due-due.ensures c.in_ok-fitting.ensures.told;
      planned = c.in_ok-fitting.ensures.planned;
      undone = c.in_ok-fitting.ensures.undone;
      changes = c.in_ok-fitting.ensures.changes;
      first = c.in_ok-fitting.ensures.first;
      in_room = r.in_room;
      choice = r.choice;
      chooses = r.chooses;
      route = r.route;
      own = r.own;
      few = r.few;
      room = r.room;
      counted = r.counted;
      needs = c.in_ok-fitting.ensures.needs;
      fits = c.in_ok-fitting.ensures.fits;
    }
