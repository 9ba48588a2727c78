-- The reply to what was found in texts: where some differ, what a router must change, or whether what it was told to change is that.
use Rattle.std.specs.Prelude.{◌≡◌, Option, None, option_map, Result, Ok, Err}
use Rattle.fib_addr.specs.Views.{prefix_as}
use Rattle.fib_same.specs.Due.{TextDifference}
use Rattle.fib_same.specs.Views.{difference_as}
use Rattle.fib_same.specs.declared.compare.Difference.{Difference}
use Rattle.fib_same.specs.declared.error.SameError.{SameError}
use Rattle.fib_same.specs.declared.error.SameError.TheVariants as same_error
use Rattle.router_moves.specs.Due as router
use Rattle.router_moves.specs.Checked as claims
use Rattle.router_moves.specs.Judged.{verdict_as}
use Rattle.router_moves.specs.Views.{shortest_as}
use Rattle.router_moves.specs.declared.answer.RouterMoves.{RouterMoves}
use Rattle.router_moves.specs.declared.verdict.MovesVerdict.{MovesVerdict}
use Rattle.fib_due.specs.MovesChecks.{claim_text}
use Rattle.fib_due.specs.RouterRows.{router_text}
use Rattle.fib_due.specs.declared.outcome.Outcome.{Outcome}
use Rattle.fib_due.specs.declared.outcome.Outcome.TheVariants.{BadLine, NoMemory, ReadFault, TooLarge}
use Rattle.fib_due.specs.declared.outcome.Which.TheVariants.{Text}
use Rattle.fib_due.specs.declared.reply.Reply as code_reply
use Rattle.fib_due.specs.Due.{Differs, MovesRefuted, Repeats, Reply, answer_text, reply_of}
use Rattle.fib_due.specs.Views.{reply_as}

-- the reply to what comparing texts comes to
abbrev pub answer_reply : Option TextDifference → Reply
answer_reply answer = record { text = answer_text answer; wrong = option_map Differs answer }

-- What is replied if texts aren't read: the verdict on a text in which a prefix stands twice, or the outcome of a refusal. Memory may run out while a row is made.
abbrev pub RepliesRefusal : SameError → Result code_reply.Reply Outcome → Type 0
RepliesRefusal (same_error.Twice n p) (Ok reply) = reply_as reply ≡ reply_of (Repeats (prefix_as p))
RepliesRefusal (same_error.Twice n p) (Err o) = o ≡ NoMemory
RepliesRefusal (same_error.BadLine n line why) (Ok reply) = ⊥
RepliesRefusal (same_error.BadLine n line why) (Err o) = o ≡ BadLine (Text n) line why
RepliesRefusal (same_error.TooLarge n) (Ok reply) = ⊥
RepliesRefusal (same_error.TooLarge n) (Err o) = o ≡ TooLarge (Text n)
RepliesRefusal same_error.Fault (Ok reply) = ⊥
RepliesRefusal same_error.Fault (Err o) = o ≡ ReadFault
RepliesRefusal same_error.NoMemory (Ok reply) = ⊥
RepliesRefusal same_error.NoMemory (Err o) = o ≡ NoMemory

-- What is replied to what was found in texts: what says it, or why they aren't read. Memory may run out while rows are made.
abbrev pub RepliesTo : {T : Type 0} → (T → Reply) → Result T SameError → Result code_reply.Reply Outcome → Type 0
RepliesTo says (Ok x) (Ok reply) = reply_as reply ≡ says x
RepliesTo says (Ok x) (Err o) = o ≡ NoMemory
RepliesTo says (Err error) result = RepliesRefusal error result

-- what says the answer of a comparison
abbrev pub answer_says : Option Difference → Reply
answer_says answer = answer_reply (option_map difference_as answer)

-- the reply to what a router must change
abbrev pub moves_reply : router.ShortestMoves → Reply
moves_reply m = record { text = router_text m; wrong = None }

abbrev pub moves_say : RouterMoves → Reply
moves_say m = moves_reply (shortest_as m)

-- the reply to the check of what it was told to change
abbrev pub verdict_reply : claims.Verdict → Reply
verdict_reply v = record { text = claim_text v.hops v.wrong; wrong = option_map MovesRefuted v.wrong }

abbrev pub verdict_says : MovesVerdict → Reply
verdict_says v = verdict_reply (verdict_as v)
