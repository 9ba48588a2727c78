-- What a clause sees of this crate's values.
use Rattle.std.specs.Prelude.{option_map, ℕ, ◌+◌, ◌++◌, [], ◌∷◌}
use Rattle.cert_check.specs.Views.{no_as}
use Rattle.fib_same.specs.Views.{difference_as}
use Rattle.router_moves.specs.Judged.{wrong_moves_as}
use Rattle.fib_due.specs.declared.reply.Reply as code_reply
use Rattle.fib_due.specs.declared.reply.Wrong as code_wrong
use Rattle.fib_due.specs.declared.reply.Wrong.TheVariants as wrong
use Rattle.fib_due.specs.Due.{Reply, Wrong, Refuted, Differs, MovesRefuted}

-- a text, and what is wrong if it says so
abbrev pub wrong_as : code_wrong.Wrong → Wrong
wrong_as (wrong.No x) = Refuted (no_as x)
wrong_as (wrong.Differ d) = Differs (difference_as d)
wrong_as (wrong.MovesNo w) = MovesRefuted (wrong_moves_as w)

abbrev pub reply_as : code_reply.Reply → Reply
reply_as reply = record { text = reply.text.items; wrong = option_map wrong_as reply.wrong }
