use Rattle.std.proofs.Common.{[], ◌∷◌, ◌++◌, ap, ◌∙◌}
use Rattle.cert_model.specs.Views.{row_as}
use Rattle.cert_rows.specs.declared.held.CertRows.TheInside.{Inside}
use Rattle.cert_rows.proofs.Rows.{pushed_near, pushed_whole}
use Rattle.cert_rows.proofs.held.CertRows.push.Goals.{in-Some+in_ok-push-in-Some, in-None+in_ok-reserve-in-None+in_ok-push-in-None}
use Rattle.cert_rows.proofs.held.CertRows.push.Goals as goal

pub invariant_of-self-2 : goal.invariant_of-self-2
invariant_of-self-2 c = elim c.match-of.branch [
  | in-Some+in_ok-push-in-Some w ↦
      (pushed_near c.self.inside.near.items c.self.inside.whole.items c.self.inside.last c.row_prefix-self-inside.result c.args.row.now w.in-Some.near c.match-of.self-inside.near.items c.match-of.self-inside.whole.items c.self.invariant
      w.in-Some.ensures c.row_prefix-self-inside.ensures (ap (λ (i : Inside). i.near.items) w.self-inside-is ∙ w.in_ok-push-in-Some.ensures.items) (ap (λ (i : Inside). i.whole.items) w.self-inside-is)).0
  | in-None+in_ok-reserve-in-None+in_ok-push-in-None w ↦
      (pushed_whole c.self.inside.near.items w.reserve.new.self.items c.self.inside.whole.items c.self.inside.last c.row_prefix-self-inside.result c.args.row.now w.of-in-None.result c.match-of.self-inside.near.items c.match-of.self-inside.whole.items c.self.invariant
      w.of-in-None.ensures c.row_prefix-self-inside.ensures w.reserve.ensures.items (ap (λ (i : Inside). i.near.items) w.self-inside-is ∙ w.push_reserved.ensures.items)
      (ap (λ (i : Inside). i.whole.items) w.self-inside-is ∙ w.in_ok-push-in-None.ensures.items)).0
]

pub returns : goal.returns
returns c = elim c.match-of.branch [
  | in-Some+in_ok-push-in-Some w ↦
      (pushed_near c.self.inside.near.items c.self.inside.whole.items c.self.inside.last c.row_prefix-self-inside.result c.args.row.now w.in-Some.near c.match-of.self-inside.near.items c.match-of.self-inside.whole.items c.self.invariant
      w.in-Some.ensures c.row_prefix-self-inside.ensures (ap (λ (i : Inside). i.near.items) w.self-inside-is ∙ w.in_ok-push-in-Some.ensures.items) (ap (λ (i : Inside). i.whole.items) w.self-inside-is)).1
      ∙ ap (λ rows. rows ++ row_as c.args.row.now ∷ []) c.self.view_is
  | in-None+in_ok-reserve-in-None+in_ok-push-in-None w ↦
      (pushed_whole c.self.inside.near.items w.reserve.new.self.items c.self.inside.whole.items c.self.inside.last c.row_prefix-self-inside.result c.args.row.now w.of-in-None.result c.match-of.self-inside.near.items c.match-of.self-inside.whole.items c.self.invariant
      w.of-in-None.ensures c.row_prefix-self-inside.ensures w.reserve.ensures.items (ap (λ (i : Inside). i.near.items) w.self-inside-is ∙ w.push_reserved.ensures.items)
      (ap (λ (i : Inside). i.whole.items) w.self-inside-is ∙ w.in_ok-push-in-None.ensures.items)).1
      ∙ ap (λ rows. rows ++ row_as c.args.row.now ∷ []) c.self.view_is
]
