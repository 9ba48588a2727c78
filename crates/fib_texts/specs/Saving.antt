-- The reply to a checkpoint.
use Rattle.std.specs.Prelude.{◌≡◌, ℕ, List, [], Option, None, Ok}
use Rattle.route_model.specs.Events.{Event}
use Rattle.mrt_write.specs.Saved.{saved}
use Rattle.mrt_write.specs.declared.write.WriteError.TheVariants as write
use Rattle.mrt_write.specs.Reads.{after_events}
use Rattle.fib_save.specs.Restores.{Restores}
use Rattle.fib_save.specs.declared.save.SaveError.{SaveError}
use Rattle.fib_save.specs.declared.save.SaveError.TheVariants as save_error
use Rattle.fib_words.specs.Commands.{NamedSave}
use Rattle.fib_due.specs.declared.outcome.Outcome.{Outcome}
use Rattle.fib_due.specs.declared.outcome.Outcome.TheVariants.{NoMemory, PathTooLong, PeersFull}
use Rattle.fib_due.specs.declared.outcome.MrtInput.TheVariants.{Dump, Updates}
use Rattle.fib_due.specs.declared.reply.Reply as code_reply
use Rattle.fib_due.specs.Due.{Saved, said_at, saved_of}
use Rattle.fib_due.specs.Stepping.{refusal_by}
use Rattle.fib_due.specs.Stops.{IsDueIfTold}

-- the outcome if there is no checkpoint
abbrev pub refusal_of_save : SaveError → Outcome
refusal_of_save (save_error.Dump error) = refusal_by Dump error
refusal_of_save (save_error.Updates error) = refusal_by Updates error
refusal_of_save (save_error.Unwritten (write.PeersFull peers)) = PeersFull peers
refusal_of_save (save_error.Unwritten (write.PathTooLong p n)) = PathTooLong p n
refusal_of_save (save_error.Unwritten write.NoMemory) = NoMemory

-- The reply is the checkpoint of what some events bring, which are those of the inputs if the contents of these are known. It restores them, and nothing is wrong with it.
pub record HoldsCheckpoint (content : List ℕ → Option (List ℕ)) (named : NamedSave) (reply : code_reply.Reply) : Type 0 where
  pub said : List Event
  pub due : IsDueIfTold (said_at content named) (Ok said)
  pub text : reply.text.items ≡ saved (after_events [] said)
  pub none : reply.wrong ≡ None
  pub fits : saved_of said ≡ Ok (Saved said)
  pub restores : Restores said
