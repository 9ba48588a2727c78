use Rattle.fib_run.proofs.report.answers.Goals as goal

pub returns : goal.returns
returns c =
    let s = c.args.final_fib.now in
    c.look_up_all.ensures s.sizes.direct s.routes c.in_ok-tries.ensures
