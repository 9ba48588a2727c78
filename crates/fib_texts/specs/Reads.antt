-- What is read of a printed text, and what is replied to it.
use Rattle.std.specs.Prelude.{◌≡◌, Result, Ok, Err}
use Rattle.fib_io.specs.declared.pieces.ReadError.{ReadError}
use Rattle.fib_io.specs.declared.pieces.ReadError.TheVariants as read
use Rattle.printed_text.specs.Texts.{BadLine}
use Rattle.printed_text.specs.Used.{Used}
use Rattle.printed_text.specs.Printed.{bad_as, printed_as}
use Rattle.printed_text.specs.declared.error.BadRow as code_bad
use Rattle.printed_text.specs.declared.printed.Printed as code_text
use Rattle.fib_due.specs.declared.outcome.Outcome.{Outcome}
use Rattle.fib_due.specs.declared.outcome.Outcome.TheVariants.{BadLine as IsBadLine, NoMemory, ReadFault, TooLarge}
use Rattle.fib_due.specs.declared.outcome.Which.TheVariants.{Printed}
use Rattle.fib_due.specs.declared.reply.Reply as code_reply
use Rattle.fib_due.specs.Due.{Checked, reply_of}
use Rattle.fib_due.specs.Views.{reply_as}

-- a text that was read to its end
abbrev pub ReadText : Type 0
ReadText = Result code_text.Printed code_bad.BadRow

-- what a check uses of it, or its first bad line
abbrev pub text_as : ReadText → Result Used BadLine
text_as (Ok p) = Ok (printed_as p)
text_as (Err bad) = Err (bad_as bad)

-- What is replied to it: the verdict on it, or the outcome of its refusal. Memory may run out while a row is made.
abbrev pub IsReply : Result ReadText ReadError → Result code_reply.Reply Outcome → Type 0
IsReply (Ok (Ok p)) (Ok reply) = reply_as reply ≡ reply_of (Checked (printed_as p))
IsReply (Ok (Ok p)) (Err o) = o ≡ NoMemory
IsReply (Ok (Err bad)) (Ok reply) = ⊥
IsReply (Ok (Err bad)) (Err o) = o ≡ IsBadLine Printed bad.line bad.why
IsReply (Err read.Fault) (Ok reply) = ⊥
IsReply (Err read.Fault) (Err o) = o ≡ ReadFault
IsReply (Err read.TooLarge) (Ok reply) = ⊥
IsReply (Err read.TooLarge) (Err o) = o ≡ TooLarge Printed
IsReply (Err read.NoMemory) (Ok reply) = ⊥
IsReply (Err read.NoMemory) (Err o) = o ≡ NoMemory
