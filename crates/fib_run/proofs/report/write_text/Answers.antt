use Rattle.fib_run.proofs.report.write_text.Goals as goal

pub returns-clause-text : goal.returns-clause-text
returns-clause-text c = λ limits load updates f. c.write_final.ensures.text limits load updates c.args.state f c.settle.ensures

pub returns-clause-yes : goal.returns-clause-yes
returns-clause-yes c = λ limits load updates f. c.write_final.ensures.yes limits load updates c.args.state f c.settle.ensures
