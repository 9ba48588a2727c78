use Rattle.std.proofs.Common.{◌+◌, sym, ap, subst, ◌∙◌, arith, length, List}
use Rattle.cert_model.specs.Rows.{CertRow}
use Rattle.cert_model.specs.Verdict.{wrong_row}
use Rattle.cert_model.specs.Views.{row_as}
use Rattle.cert_check.specs.Stack.{stack_as, due_as, BoundsTold}
use Rattle.cert_check.proofs.Stacks.{went_on, stopped, rows_over, rows_short}
use Rattle.cert_check.proofs.rows.read_rows.Goals as goal

pub loop-row-preserved : goal.loop-row-preserved
loop-row-preserved c =
    let n = c.loop-row.number in
    let old = c.loop-row.reading in
    let new = c.read_row.new.reading in (
      c.in_ok-no.ensures.marks,
      omega (arith, c.in_ok-no.ensures.weight c.in_default-2.is, c.loop-row.invariant.1),
      omega (arith, ap length c.in-Some.ensures, c.loop-row.invariant.2),
      λ R t.
          let so_far = c.loop-row.invariant.3 R t in
          let r = went_on R (row_as c.in-Some.row) (n + 1) old.due new.due (stack_as old.stack.items) (stack_as new.stack.items) c.in_ok-no.field-0 c.in_default-2.is (c.in_ok-no.ensures.read R t) in (
            so_far.0 ∙ (ap (λ (xs : List CertRow). wrong_row R xs (due_as old.due) (stack_as old.stack.items) (n + 1)) c.in-Some.ensures ∙ r.0 c.next.new.self),
            r.2 so_far.1,
            c.in_ok-no.ensures.told c.in_default-2.is R so_far.1 so_far.2,
          ),
    )

pub returns-in-Some-2-clause-read : goal.returns-in-Some-2-clause-read
returns-in-Some-2-clause-read c = λ R t.
    let n = c.loop-row.number in
    let old = c.loop-row.reading in
    let new = c.read_row.new.reading in
    sym ((c.loop-row.invariant.3 R t).0 ∙ (ap (λ (xs : List CertRow). wrong_row R xs (due_as old.due) (stack_as old.stack.items) (n + 1)) c.in-Some.ensures
    ∙ stopped R (row_as c.in-Some.row) (n + 1) old.due new.due (stack_as old.stack.items) (stack_as new.stack.items) c.in_ok-no.field-0 c.in-Some-2.no c.in-Some-2.is (c.in_ok-no.ensures.read R t) c.next.new.self))

pub returns-in-None-clause-read : goal.returns-in-None-clause-read
returns-in-None-clause-read c = λ R t.
    let old = c.loop-row.reading in
    sym ((c.loop-row.invariant.3 R t).0 ∙ (ap (λ (xs : List CertRow). wrong_row R xs (due_as old.due) (stack_as old.stack.items) (c.loop-row.number + 1)) c.in_default.ensures.0 ∙ rows_over R old.due (stack_as old.stack.items) (c.loop-row.number + 1) c.in-None.is))

pub returns-in-None-clause-told : goal.returns-in-None-clause-told
returns-in-None-clause-told c = λ e R t.
    let old = c.loop-row.reading in
    subst (λ d. BoundsTold R d old.v4 old.v6) c.in-None.is (c.loop-row.invariant.3 R t).2

pub returns-in-Some-due-clause-read : goal.returns-in-Some-due-clause-read
returns-in-Some-due-clause-read c = λ R t.
    let old = c.loop-row.reading in
    sym ((c.loop-row.invariant.3 R t).0 ∙ (ap (λ (xs : List CertRow). wrong_row R xs (due_as old.due) (stack_as old.stack.items) (c.loop-row.number + 1)) c.in_default.ensures.0
    ∙ rows_short R old.due c.in-Some-due.field-0 (stack_as old.stack.items) (c.loop-row.number + 1) c.in-Some-due.is))
