use Rattle.fib_words.proofs.Words.{last_under, two_under}
use Rattle.fib_words.proofs.fib_command.Goals as goal

pub returns : goal.returns
returns c =
    let checked = two_under _ _ c.in_ok-command-2.command _ _ _ _ _ c.bare_command.ensures c.in_ok-run.ensures c.in_ok-check.ensures c.in_ok-command.ensures c.in_ok-command-2.ensures in
    let stepped = two_under _ _ c.in_ok-command-4.command _ _ _ _ _ checked c.in_ok-make.ensures c.in_ok-steps.ensures c.in_ok-command-3.ensures c.in_ok-command-4.ensures in
    let saved = two_under _ _ c.in_ok-command-6.command _ _ _ _ _ stepped c.in_ok-same.ensures c.in_ok-save.ensures c.in_ok-command-5.ensures c.in_ok-command-6.ensures in
    last_under c.with_command-7.result _ _ _ _ saved c.in_ok-moves.ensures c.with_command-7.ensures
