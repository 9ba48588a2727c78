use Rattle.std.proofs.Common.{◌≡◌, ◌+◌, List, ℕ, Option, None, Some, sym, ap, ◌∙◌, arith, map, drop, length}
use Rattle.cert_model.specs.Rows.{CertRow}
use Rattle.cert_model.specs.Views.{row_as}
use Rattle.moves_model.specs.Verdict.{Shape, wrong_moves_row}
use Rattle.moves_check.specs.Stack.{demands_as, wrong_in_rest}
use Rattle.moves_check.specs.Views.{IsFamilyRow}
use Rattle.moves_check.proofs.Stacks.{rows_after, rows_next, rows_short, went_on, stopped, no_bound, row_at, taken_next}
use Rattle.moves_check.proofs.rows.read_rows.Goals as goal

pub returns-then-is_some-clause-read : goal.returns-then-is_some-clause-read
returns-then-is_some-clause-read c = λ R T t.
    let old = c.loop-i.reading in
    sym (c.loop-i.invariant.0 R T t ∙ rows_after R T c.args.against.now.family c.args.rows.now c.loop-i.i old.bound (demands_as old.stack.items) (c.loop-i.i + 1) c.is_some.result c.loop-i-test.true c.is_some.ensures c.if-is_some.true)

pub read_row-requires-clause-family : goal.read_row-requires-clause-family
read_row-requires-clause-family c = row_at (IsFamilyRow c.args.against.now.family) c.args.rows.now c.loop-i.i c.index-rows-i.result c.index-rows-i.result c.loop-i-test.true c.index-rows-i.is c.requires.family

pub returns-in-Some-clause-read : goal.returns-in-Some-clause-read
returns-in-Some-clause-read c = λ R T t.
    let i = c.loop-i.i in
    let f = c.args.against.now.family in
    let rows = c.args.rows.now in
    let old = c.loop-i.reading in
    let new = c.read_row.new.reading in
    let none : old.bound ≡ None = no_bound old.bound c.is_some.result c.is_some.ensures c.if-is_some.false in
    sym (c.loop-i.invariant.0 R T t
    ∙ (ap (λ (b : Option ℕ). wrong_in_rest R T f b (map row_as (drop i rows)) (demands_as old.stack.items) (i + 1)) none
    ∙ (ap (λ (xs : List CertRow). wrong_moves_row R T f xs (demands_as old.stack.items) (i + 1)) (rows_next rows i c.index-rows-i.result c.index-rows-i.result c.loop-i-test.true c.index-rows-i.is)
    ∙ stopped R T f _ (i + 1) (demands_as old.stack.items) (demands_as new.stack.items) new.bound c.in_ok-no.field-0 c.in-Some.no c.in-Some.is (c.in_ok-no.ensures.read R T t) (map row_as (drop (i + 1) rows)))))

pub loop-i-preserved : goal.loop-i-preserved
loop-i-preserved c =
    let i = c.loop-i.i in
    let f = c.args.against.now.family in
    let rows = c.args.rows.now in
    let old = c.loop-i.reading in
    let new = c.read_row.new.reading in
    let none : old.bound ≡ None = no_bound old.bound c.is_some.result c.is_some.ensures c.if-is_some.false in (
      λ R T t.
          c.loop-i.invariant.0 R T t
          ∙ (ap (λ (b : Option ℕ). wrong_in_rest R T f b (map row_as (drop i rows)) (demands_as old.stack.items) (i + 1)) none
          ∙ (ap (λ (xs : List CertRow). wrong_moves_row R T f xs (demands_as old.stack.items) (i + 1)) (rows_next rows i c.index-rows-i.result c.index-rows-i.result c.loop-i-test.true c.index-rows-i.is)
          ∙ went_on R T f _ (i + 1) (demands_as old.stack.items) (demands_as new.stack.items) new.bound c.in_ok-no.field-0 c.in_default.is (c.in_ok-no.ensures.read R T t) (map row_as (drop (i + 1) rows)))),
      λ s. taken_next rows i c.index-rows-i.result c.index-rows-i.result new.bound c.loop-i-test.true c.index-rows-i.is c.in_ok-no.ensures.of s,
    )

pub returns-in-None-clause-read : goal.returns-in-None-clause-read
returns-in-None-clause-read c = λ R T t.
    let old = c.loop-i.reading in
    let i = c.loop-i.i in
    let e : i + 1 ≡ length c.args.rows.now + 1 = omega (arith, c.loop-i.auto.i-end, c.loop-i-test.false) in
    sym (c.loop-i.invariant.0 R T t ∙ (rows_short R T c.args.against.now.family c.args.rows.now i old.bound (demands_as old.stack.items) (i + 1) c.loop-i-test.false c.in-None.is ∙ ap (λ (n : ℕ). Some (Shape n)) e))
