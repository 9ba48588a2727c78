-- What is due where an input doesn't tell what it holds, and which outcomes the words have.
use Rattle.std.proofs.Common.{◌≡◌, ℕ, List, Option, Some, None, Result, Ok, Err, inl, inr, refl, sym, ap, subst}
use Rattle.std.specs.Prelude.{option_map, IfSome}
use Rattle.fib_io.specs.Octets.{Adds, AddsSome}
use Rattle.cert_check.specs.declared.refusal.No as code
use Rattle.fib_addr.specs.Views.{prefix_as}
use Rattle.fib_addr.specs.declared.prefix.Prefix as code_prefix
use Rattle.fib_same.specs.declared.compare.Difference as code_difference
use Rattle.router_moves.specs.declared.verdict.WrongMoves as code_moves
use Rattle.fib_due.specs.declared.reply.Wrong as code_wrong
use Rattle.fib_due.specs.declared.reply.Wrong.TheVariants as wrong
use Rattle.fib_due.specs.Views.{wrong_as}
use Rattle.fib_words.specs.Commands.{Asked, NamedCheckMoves, NamedMoves, NamedSame, Run, Check, Make, Steps, Same, Save, Moves, CheckMoves}
use Rattle.fib_due.specs.declared.reply.Reply as code_reply
use Rattle.fib_due.specs.declared.outcome.Outcome.{Outcome}
use Rattle.fib_due.specs.declared.outcome.Outcome.TheVariants.{Done, CheckNo, Differ, MovesNo, Usage, ReadFault, WriteFault, NoMemory, TooLarge, Malformed, HopsFull, TrieFull, BadLine, PeersFull, PathTooLong}
use Rattle.fib_due.specs.Stops.{Stop, Untold, Refused, LongPath, IsDueIfTold, FailsDue}
use Rattle.fib_due.specs.Due.{Output, Alike, Checked, Claimed, Moved, Repeats, Wrong, Refuted, Differs, MovesRefuted, due, reply_at, saved_of, Reply, made, made_at, ran, reply_of, stepped, stepping_at, told_at, output_text, with_reply, with_world, world_at, wrong_in}
use Rattle.fib_due.specs.Ends.{EndsBy, IsDue, Meets}
use Rattle.fib_due.specs.Owned.{IsNo, IsOf, IsOfMoves, IsOfTexts, Owns, StopsIn}
use Rattle.router_steps.specs.Stepping.{Stepping}
use Rattle.fib_due.specs.Stepped.{EndsEarly, EndsRun, FitsSteps, GivesReply, GivesSteps, IfStepping}
use Rattle.fib_due.specs.Untold.{FitsUntold, FitsSome, GivesSome}

-- memory may run out whatever the words are
pub memory_some : (content : List ℕ → Option (List ℕ)) (asked : Option Asked) → GivesSome content asked (Err NoMemory)
memory_some content None = tt
memory_some content (Some (Run named)) = inl (inl tt)
memory_some content (Some (Check name)) = inl tt
memory_some content (Some (Make routes seed)) = tt
memory_some content (Some (Steps named)) = inl tt
memory_some content (Some (Same named)) = inl (1, tt)
memory_some content (Some (Moves named)) = inl (1, tt)
memory_some content (Some (CheckMoves named)) = inl (1, tt)
memory_some content (Some (Save named)) = inl (inl tt)

-- ---- what fits what is due

-- nothing ends with anything but Done, a no of either check and a difference
no_end : (w : Option Wrong) (o : Outcome) → (o ≡ Done → ⊥) → ((x : code.No) → o ≡ CheckNo x → ⊥) → ((x : code_difference.Difference) → o ≡ Differ x → ⊥) → ((x : code_moves.WrongMoves) → o ≡ MovesNo x → ⊥) → EndsBy w o → ⊥
no_end None o d n f m e = d e
no_end (Some (Refuted x)) o d n f m e = n e.0 e.1
no_end (Some (Differs t)) o d n f m e = f e.0 e.1
no_end (Some (MovesRefuted t)) o d n f m e = m e.0 e.1

abbrev fine : {A : Type 0} → A → Result A Stop
fine x = Ok x

same_fine : {A : Type 0} (x y : A) → fine x ≡ fine y → x ≡ y
same_fine x y e = cc

replied : (output : Output) (text : List ℕ) (w : Option Wrong) → fine (reply_of output) ≡ fine (record { text = text; wrong = w }) → (output_text output ≡ text) × (wrong_in output ≡ w)
replied output text w e = let same = same_fine (reply_of output) (record { text = text; wrong = w }) e in (ap (λ (r : Reply). r.text) same, ap (λ (r : Reply). r.wrong) same)

abbrev stopped : Outcome → Result Reply Stop
stopped o = Err (Refused o)

refused_same : (p o : Outcome) → stopped p ≡ stopped o → o ≡ p
refused_same p o e = cc

ends_fit : (d : Result Output Stop) (text : List ℕ) (w : Option Wrong) (old new : Option (List ℕ)) (o : Outcome) → IsDueIfTold (with_reply d) (fine (record { text = text; wrong = w })) → EndsBy w o → Adds old new text → FitsUntold d old new o
ends_fit (Err (Refused p)) text w old new o i e a = absurd cc
ends_fit (Err (LongPath p n)) text w old new o i e a = absurd cc
ends_fit (Err Untold) text w old new Done i e a = (tt, tt)
ends_fit (Err Untold) text w old new (CheckNo x) i e a = (tt, tt)
ends_fit (Err Untold) text w old new (Differ x) i e a = (tt, tt)
ends_fit (Err Untold) text w old new (MovesNo x) i e a = (tt, tt)
ends_fit (Ok output) text w old new Done i e a = let p = replied output text w i in (subst (λ v. EndsBy v Done) (sym p.1) e, subst (λ t. Adds old new t) (sym p.0) a)
ends_fit (Ok output) text w old new (CheckNo x) i e a = let p = replied output text w i in (subst (λ v. EndsBy v (CheckNo x)) (sym p.1) e, subst (λ t. Adds old new t) (sym p.0) a)
ends_fit (Ok output) text w old new (Differ x) i e a = let p = replied output text w i in (subst (λ v. EndsBy v (Differ x)) (sym p.1) e, subst (λ t. Adds old new t) (sym p.0) a)
ends_fit (Ok output) text w old new (MovesNo x) i e a = let p = replied output text w i in (subst (λ v. EndsBy v (MovesNo x)) (sym p.1) e, subst (λ t. Adds old new t) (sym p.0) a)
ends_fit d text w old new Usage i e a = absurd (no_end w Usage (λ f. cc) (λ x f. cc) (λ x f. cc) (λ x f. cc) e)
ends_fit d text w old new ReadFault i e a = absurd (no_end w ReadFault (λ f. cc) (λ x f. cc) (λ x f. cc) (λ x f. cc) e)
ends_fit d text w old new WriteFault i e a = absurd (no_end w WriteFault (λ f. cc) (λ x f. cc) (λ x f. cc) (λ x f. cc) e)
ends_fit d text w old new NoMemory i e a = absurd (no_end w NoMemory (λ f. cc) (λ x f. cc) (λ x f. cc) (λ x f. cc) e)
ends_fit d text w old new (TooLarge input) i e a = absurd (no_end w (TooLarge input) (λ f. cc) (λ x f. cc) (λ x f. cc) (λ x f. cc) e)
ends_fit d text w old new (Malformed input number rule) i e a = absurd (no_end w (Malformed input number rule) (λ f. cc) (λ x f. cc) (λ x f. cc) (λ x f. cc) e)
ends_fit d text w old new (HopsFull event) i e a = absurd (no_end w (HopsFull event) (λ f. cc) (λ x f. cc) (λ x f. cc) (λ x f. cc) e)
ends_fit d text w old new (TrieFull event need have arena) i e a = absurd (no_end w (TrieFull event need have arena) (λ f. cc) (λ x f. cc) (λ x f. cc) (λ x f. cc) e)
ends_fit d text w old new (BadLine input line why) i e a = absurd (no_end w (BadLine input line why) (λ f. cc) (λ x f. cc) (λ x f. cc) (λ x f. cc) e)
ends_fit d text w old new (PeersFull peers) i e a = absurd (no_end w (PeersFull peers) (λ f. cc) (λ x f. cc) (λ x f. cc) (λ x f. cc) e)
ends_fit d text w old new (PathTooLong q n) i e a = absurd (no_end w (PathTooLong q n) (λ f. cc) (λ x f. cc) (λ x f. cc) (λ x f. cc) e)

fault_fits : (d : Result Output Stop) (text : List ℕ) (w : Option Wrong) (old new : Option (List ℕ)) → IsDueIfTold (with_reply d) (fine (record { text = text; wrong = w })) → AddsSome old new text → FitsUntold d old new WriteFault
fault_fits (Ok output) text w old new i a = (tt, subst (λ t. AddsSome old new t) (sym (replied output text w i).0) a)
fault_fits (Err Untold) text w old new i a = (tt, tt)
fault_fits (Err (Refused p)) text w old new i a = absurd cc
fault_fits (Err (LongPath p n)) text w old new i a = absurd cc

is_stop : (d : Result Output Stop) (o : Outcome) → IsDueIfTold (with_reply d) (Err (Refused o)) → IsDue d o
is_stop (Ok output) o i = absurd cc
is_stop (Err Untold) o i = tt
is_stop (Err (Refused p)) o i = refused_same p o i
is_stop (Err (LongPath p n)) o i = absurd cc

-- a path that is too long
is_long : (d : Result Output Stop) (q : code_prefix.Prefix) (n : ℕ) → IsDueIfTold (with_reply d) (Err (LongPath (prefix_as q) n)) → IsDue d (PathTooLong q n)
is_long (Ok output) q n i = absurd cc
is_long (Err Untold) q n i = tt
is_long (Err (Refused p)) q n i = absurd cc
is_long (Err (LongPath p m)) q n i =
    let same : prefix_as q ≡ p = cc in
    let long : n ≡ m = cc in
    (q, ap (PathTooLong q) long, same)

stop_fits : (d : Result Output Stop) (o : Outcome) (old new : Option (List ℕ)) → FailsDue o (with_reply d) → new ≡ old → FitsUntold d old new o
stop_fits d Done old new f same = absurd f
stop_fits d (CheckNo x) old new f same = absurd f
stop_fits d (Differ x) old new f same = absurd f
stop_fits d (MovesNo x) old new f same = absurd f
stop_fits d WriteFault old new f same = absurd f
stop_fits d ReadFault old new f same = (tt, same)
stop_fits d NoMemory old new f same = (tt, same)
stop_fits d Usage old new f same = (is_stop d Usage f, same)
stop_fits d (TooLarge input) old new f same = (is_stop d (TooLarge input) f, same)
stop_fits d (Malformed input number rule) old new f same = (is_stop d (Malformed input number rule) f, same)
stop_fits d (HopsFull event) old new f same = (is_stop d (HopsFull event) f, same)
stop_fits d (TrieFull event need have arena) old new f same = (is_stop d (TrieFull event need have arena) f, same)
stop_fits d (BadLine input line why) old new f same = (is_stop d (BadLine input line why) f, same)
stop_fits d (PeersFull peers) old new f same = (is_stop d (PeersFull peers) f, same)
stop_fits d (PathTooLong q n) old new f same = (is_long d q n f, same)

-- a refusal meets what is due
pub stop_meets : (words : List (List ℕ)) (content : List ℕ → Option (List ℕ)) (o : Outcome) → FailsDue o (reply_at words content) → Meets (due words content) o
unfolding reply_at
stop_meets words content o f = (stop_fits (due words content) o None None f refl).0

-- where texts differ
pub ends_differing : (w : code_wrong.Wrong) (d : code_difference.Difference) → w ≡ wrong.Differ d → EndsBy (Some (wrong_as w)) (Differ d)
ends_differing w d e = rw e (d, refl, refl)

-- where what a router was told to change is refuted
pub ends_refuting : (w : code_wrong.Wrong) (x : code_moves.WrongMoves) → w ≡ wrong.MovesNo x → EndsBy (Some (wrong_as w)) (MovesNo x)
ends_refuting w x e = rw e (x, refl, refl)

-- ---- the ends of a run in steps

if_then : (d : Result Stepping Stop) (P Q : Stepping → Type 0) → ((s : Stepping) → P s → Q s) → IfStepping d P → IfStepping d Q
if_then (Ok s) P Q f x = f s x
if_then (Err stop) P Q f x = tt

run_ends : (s : Stepping) (reply : code_reply.Reply) (old new : Option (List ℕ)) (o : Outcome) → GivesReply s (Ok reply) → EndsBy (option_map wrong_as reply.wrong) o → Adds old new reply.text.items → EndsRun s old new o
run_ends s reply old new o g e a =
    let done : EndsBy None o = subst (λ n. EndsBy (option_map wrong_as n) o) g.1 e in
    subst (EndsRun s old new) (sym done) (reply.text.items, g.0, a)

run_fault : (s : Stepping) (reply : code_reply.Reply) (old new : Option (List ℕ)) → GivesReply s (Ok reply) → AddsSome old new reply.text.items → EndsRun s old new WriteFault
run_fault s reply old new g a = (reply.text.items, g.0, a)

run_stops : (s : Stepping) (old new : Option (List ℕ)) (o : Outcome) → EndsEarly s o → EndsRun s old new o
run_stops s old new Done e = absurd e
run_stops s old new (CheckNo x) e = e
run_stops s old new (Differ x) e = e
run_stops s old new (MovesNo x) e = e
run_stops s old new (PeersFull peers) e = e
run_stops s old new (PathTooLong p n) e = e
run_stops s old new WriteFault e = absurd e
run_stops s old new ReadFault e = e
run_stops s old new NoMemory e = e
run_stops s old new Usage e = e
run_stops s old new (TooLarge input) e = e
run_stops s old new (Malformed input number rule) e = e
run_stops s old new (HopsFull event) e = e
run_stops s old new (TrieFull event need have arena) e = e
run_stops s old new (BadLine input line why) e = e

-- ---- the same of what the words ask for

abbrev Content : Type 0
Content = List ℕ → Option (List ℕ)

pub some_ends : (content : Content) (asked : Option Asked) (reply : code_reply.Reply) (old new : Option (List ℕ)) (o : Outcome) → GivesSome content asked (Ok reply) → EndsBy (option_map wrong_as reply.wrong) o → Adds old new reply.text.items → FitsSome content asked old new o
some_ends content None reply old new o g e a = tt
some_ends content (Some (Run named)) reply old new o (inl (inl s)) e a = absurd s
some_ends content (Some (Run named)) reply old new o (inl (inr s)) e a = absurd s
some_ends content (Some (Run named)) reply old new o (inr x) e a = inr (x.0, x.1, x.2, ends_fit (ran (told_at content x.1 named x.0)) reply.text.items (option_map wrong_as reply.wrong) old new o x.3 e a)
some_ends content (Some (Check name)) reply old new o (inl s) e a = absurd s
some_ends content (Some (Check name)) reply old new o (inr x) e a = inr (x.0, ends_fit (Ok (Checked x.0)) reply.text.items (option_map wrong_as reply.wrong) old new o x.1 e a)
some_ends content (Some (Make routes seed)) reply old new o x e a = ends_fit (made (made_at routes seed)) reply.text.items (option_map wrong_as reply.wrong) old new o x e a
some_ends content (Some (Same named)) reply old new o (inl s) e a = absurd s.1
some_ends content (Some (Same named)) reply old new o (inr (inl x)) e a = inr (inl (x.0, ends_fit (Ok (Alike x.0)) reply.text.items (option_map wrong_as reply.wrong) old new o x.1 e a))
some_ends content (Some (Same named)) reply old new o (inr (inr x)) e a = inr (inr (x.0, ends_fit (Ok (Repeats x.0)) reply.text.items (option_map wrong_as reply.wrong) old new o x.1 e a))
some_ends content (Some (Moves named)) reply old new o (inl s) e a = absurd s.1
some_ends content (Some (Moves named)) reply old new o (inr (inl x)) e a = inr (inl (x.0, ends_fit (Ok (Moved named.steady x.0)) reply.text.items (option_map wrong_as reply.wrong) old new o x.1 e a))
some_ends content (Some (Moves named)) reply old new o (inr (inr x)) e a = inr (inr (x.0, ends_fit (Ok (Repeats x.0)) reply.text.items (option_map wrong_as reply.wrong) old new o x.1 e a))
some_ends content (Some (CheckMoves named)) reply old new o (inl s) e a = absurd s.1
some_ends content (Some (CheckMoves named)) reply old new o (inr (inl x)) e a = inr (inl (x.0, ends_fit (Ok (Claimed x.0)) reply.text.items (option_map wrong_as reply.wrong) old new o x.1 e a))
some_ends content (Some (CheckMoves named)) reply old new o (inr (inr x)) e a = inr (inr (x.0, ends_fit (Ok (Repeats x.0)) reply.text.items (option_map wrong_as reply.wrong) old new o x.1 e a))
some_ends content (Some (Save named)) reply old new o (inl (inl s)) e a = absurd s
some_ends content (Some (Save named)) reply old new o (inl (inr s)) e a = absurd s
some_ends content (Some (Save named)) reply old new o (inr x) e a = inr (x.0, ends_fit (saved_of x.0) reply.text.items (option_map wrong_as reply.wrong) old new o x.1 e a)
some_ends content (Some (Steps named)) reply old new o (inl s) e a = absurd s
some_ends content (Some (Steps named)) reply old new o (inr x) e a =
    let d : Result Stepping Stop = with_world x.0 (world_at content named) in
    inr (x.0, (ends_fit (stepped d) reply.text.items (option_map wrong_as reply.wrong) old new o x.1.0 e a, if_then d _ _ (λ s g. run_ends s reply old new o g e a) x.1.1))

pub some_fault : (content : Content) (asked : Option Asked) (reply : code_reply.Reply) (old new : Option (List ℕ)) → GivesSome content asked (Ok reply) → AddsSome old new reply.text.items → FitsSome content asked old new WriteFault
some_fault content None reply old new g a = tt
some_fault content (Some (Run named)) reply old new (inl (inl s)) a = absurd s
some_fault content (Some (Run named)) reply old new (inl (inr s)) a = absurd s
some_fault content (Some (Run named)) reply old new (inr x) a = inr (x.0, x.1, x.2, fault_fits (ran (told_at content x.1 named x.0)) reply.text.items (option_map wrong_as reply.wrong) old new x.3 a)
some_fault content (Some (Check name)) reply old new (inl s) a = absurd s
some_fault content (Some (Check name)) reply old new (inr x) a = inr (x.0, fault_fits (Ok (Checked x.0)) reply.text.items (option_map wrong_as reply.wrong) old new x.1 a)
some_fault content (Some (Make routes seed)) reply old new x a = fault_fits (made (made_at routes seed)) reply.text.items (option_map wrong_as reply.wrong) old new x a
some_fault content (Some (Same named)) reply old new (inl s) a = absurd s.1
some_fault content (Some (Same named)) reply old new (inr (inl x)) a = inr (inl (x.0, fault_fits (Ok (Alike x.0)) reply.text.items (option_map wrong_as reply.wrong) old new x.1 a))
some_fault content (Some (Same named)) reply old new (inr (inr x)) a = inr (inr (x.0, fault_fits (Ok (Repeats x.0)) reply.text.items (option_map wrong_as reply.wrong) old new x.1 a))
some_fault content (Some (Moves named)) reply old new (inl s) a = absurd s.1
some_fault content (Some (Moves named)) reply old new (inr (inl x)) a = inr (inl (x.0, fault_fits (Ok (Moved named.steady x.0)) reply.text.items (option_map wrong_as reply.wrong) old new x.1 a))
some_fault content (Some (Moves named)) reply old new (inr (inr x)) a = inr (inr (x.0, fault_fits (Ok (Repeats x.0)) reply.text.items (option_map wrong_as reply.wrong) old new x.1 a))
some_fault content (Some (CheckMoves named)) reply old new (inl s) a = absurd s.1
some_fault content (Some (CheckMoves named)) reply old new (inr (inl x)) a = inr (inl (x.0, fault_fits (Ok (Claimed x.0)) reply.text.items (option_map wrong_as reply.wrong) old new x.1 a))
some_fault content (Some (CheckMoves named)) reply old new (inr (inr x)) a = inr (inr (x.0, fault_fits (Ok (Repeats x.0)) reply.text.items (option_map wrong_as reply.wrong) old new x.1 a))
some_fault content (Some (Save named)) reply old new (inl (inl s)) a = absurd s
some_fault content (Some (Save named)) reply old new (inl (inr s)) a = absurd s
some_fault content (Some (Save named)) reply old new (inr x) a = inr (x.0, fault_fits (saved_of x.0) reply.text.items (option_map wrong_as reply.wrong) old new x.1 a)
some_fault content (Some (Steps named)) reply old new (inl s) a = absurd s
some_fault content (Some (Steps named)) reply old new (inr x) a =
    let d : Result Stepping Stop = with_world x.0 (world_at content named) in
    inr (x.0, (fault_fits (stepped d) reply.text.items (option_map wrong_as reply.wrong) old new x.1.0 a, if_then d _ _ (λ s g. run_fault s reply old new g a) x.1.1))

pub some_stop : (content : Content) (asked : Option Asked) (o : Outcome) (old new : Option (List ℕ)) → GivesSome content asked (Err o) → new ≡ old → FitsSome content asked old new o
some_stop content None o old new g same = tt
some_stop content (Some (Run named)) o old new (inl s) same = inl s
some_stop content (Some (Run named)) o old new (inr x) same = inr (x.0, x.1, x.2, stop_fits (ran (told_at content x.1 named x.0)) o old new x.3 same)
some_stop content (Some (Check name)) o old new (inl s) same = inl s
some_stop content (Some (Check name)) o old new (inr x) same = inr (x.0, stop_fits (Ok (Checked x.0)) o old new x.1 same)
some_stop content (Some (Make routes seed)) o old new x same = stop_fits (made (made_at routes seed)) o old new x same
some_stop content (Some (Same named)) o old new (inl s) same = inl s
some_stop content (Some (Same named)) o old new (inr (inl x)) same = inr (inl (x.0, stop_fits (Ok (Alike x.0)) o old new x.1 same))
some_stop content (Some (Same named)) o old new (inr (inr x)) same = inr (inr (x.0, stop_fits (Ok (Repeats x.0)) o old new x.1 same))
some_stop content (Some (Moves named)) o old new (inl s) same = inl s
some_stop content (Some (Moves named)) o old new (inr (inl x)) same = inr (inl (x.0, stop_fits (Ok (Moved named.steady x.0)) o old new x.1 same))
some_stop content (Some (Moves named)) o old new (inr (inr x)) same = inr (inr (x.0, stop_fits (Ok (Repeats x.0)) o old new x.1 same))
some_stop content (Some (CheckMoves named)) o old new (inl s) same = inl s
some_stop content (Some (CheckMoves named)) o old new (inr (inl x)) same = inr (inl (x.0, stop_fits (Ok (Claimed x.0)) o old new x.1 same))
some_stop content (Some (CheckMoves named)) o old new (inr (inr x)) same = inr (inr (x.0, stop_fits (Ok (Repeats x.0)) o old new x.1 same))
some_stop content (Some (Save named)) o old new (inl s) same = inl s
some_stop content (Some (Save named)) o old new (inr x) same = inr (x.0, stop_fits (saved_of x.0) o old new x.1 same)
some_stop content (Some (Steps named)) o old new (inl s) same = inl s
some_stop content (Some (Steps named)) o old new (inr x) same =
    let d : Result Stepping Stop = with_world x.0 (world_at content named) in
    inr (x.0, (stop_fits (stepped d) o old new x.1.0 same, if_then d _ _ (λ s g. run_stops s old new o g) x.1.1))

-- ---- a run in steps

pub steps_end : (content : Content) (asked : Option Asked) (reply : code_reply.Reply) (old new : Option (List ℕ)) (o : Outcome) → GivesSteps content asked (Ok reply) → EndsBy (option_map wrong_as reply.wrong) o → Adds old new reply.text.items → FitsSteps content asked old new o
steps_end content None reply old new o g e a = tt
steps_end content (Some (Run named)) reply old new o g e a = tt
steps_end content (Some (Check name)) reply old new o g e a = tt
steps_end content (Some (Make routes seed)) reply old new o g e a = tt
steps_end content (Some (Same named)) reply old new o g e a = tt
steps_end content (Some (Moves named)) reply old new o g e a = tt
steps_end content (Some (CheckMoves named)) reply old new o g e a = tt
steps_end content (Some (Save named)) reply old new o g e a = tt
steps_end content (Some (Steps named)) reply old new o g e a = if_then (stepping_at content named) _ _ (λ s x. run_ends s reply old new o x e a) g

pub steps_fault : (content : Content) (asked : Option Asked) (reply : code_reply.Reply) (old new : Option (List ℕ)) → GivesSteps content asked (Ok reply) → AddsSome old new reply.text.items → FitsSteps content asked old new WriteFault
steps_fault content None reply old new g a = tt
steps_fault content (Some (Run named)) reply old new g a = tt
steps_fault content (Some (Check name)) reply old new g a = tt
steps_fault content (Some (Make routes seed)) reply old new g a = tt
steps_fault content (Some (Same named)) reply old new g a = tt
steps_fault content (Some (Moves named)) reply old new g a = tt
steps_fault content (Some (CheckMoves named)) reply old new g a = tt
steps_fault content (Some (Save named)) reply old new g a = tt
steps_fault content (Some (Steps named)) reply old new g a = if_then (stepping_at content named) _ _ (λ s x. run_fault s reply old new x a) g

pub steps_stop : (content : Content) (asked : Option Asked) (o : Outcome) (old new : Option (List ℕ)) → GivesSteps content asked (Err o) → FitsSteps content asked old new o
steps_stop content None o old new g = tt
steps_stop content (Some (Run named)) o old new g = tt
steps_stop content (Some (Check name)) o old new g = tt
steps_stop content (Some (Make routes seed)) o old new g = tt
steps_stop content (Some (Same named)) o old new g = tt
steps_stop content (Some (Moves named)) o old new g = tt
steps_stop content (Some (CheckMoves named)) o old new g = tt
steps_stop content (Some (Save named)) o old new g = tt
steps_stop content (Some (Steps named)) o old new g = if_then (stepping_at content named) _ _ (λ s x. run_stops s old new o x) g

-- ---- whose outcome it is

-- nothing is wrong
none_owns : (asked : Asked) (w : Option code_wrong.Wrong) (o : Outcome) → w ≡ None → EndsBy (option_map wrong_as w) o → IsOf (Some asked) o
none_owns asked w o none e = let done : EndsBy None o = subst (λ n. EndsBy (option_map wrong_as n) o) none e in subst (IsOf (Some asked)) (sym done) tt

check_owns : (name : List ℕ) (w : Option code_wrong.Wrong) (o : Outcome) → IfSome w IsNo → EndsBy (option_map wrong_as w) o → IsOf (Some (Check name)) o
check_owns name None o fault e = subst (IsOf (Some (Check name))) (sym e) tt
check_owns name (Some (wrong.No x)) o fault e = subst (IsOf (Some (Check name))) (sym e.1) tt
check_owns name (Some (wrong.Differ x)) o fault e = absurd fault
check_owns name (Some (wrong.MovesNo x)) o fault e = absurd fault

same_owns : (named : NamedSame) (w : Option code_wrong.Wrong) (o : Outcome) → IfSome w IsOfTexts → EndsBy (option_map wrong_as w) o → IsOf (Some (Same named)) o
same_owns named None o fault e = subst (IsOf (Some (Same named))) (sym e) tt
same_owns named (Some (wrong.No x)) o fault e = subst (IsOf (Some (Same named))) (sym e.1) tt
same_owns named (Some (wrong.Differ x)) o fault e = subst (IsOf (Some (Same named))) (sym e.1) tt
same_owns named (Some (wrong.MovesNo x)) o fault e = absurd fault

moves_own : (named : NamedMoves) (w : Option code_wrong.Wrong) (o : Outcome) → IfSome w IsNo → EndsBy (option_map wrong_as w) o → IsOf (Some (Moves named)) o
moves_own named None o fault e = subst (IsOf (Some (Moves named))) (sym e) tt
moves_own named (Some (wrong.No x)) o fault e = subst (IsOf (Some (Moves named))) (sym e.1) tt
moves_own named (Some (wrong.Differ x)) o fault e = absurd fault
moves_own named (Some (wrong.MovesNo x)) o fault e = absurd fault

claim_owns : (named : NamedCheckMoves) (w : Option code_wrong.Wrong) (o : Outcome) → IfSome w IsOfMoves → EndsBy (option_map wrong_as w) o → IsOf (Some (CheckMoves named)) o
claim_owns named None o fault e = subst (IsOf (Some (CheckMoves named))) (sym e) tt
claim_owns named (Some (wrong.No x)) o fault e = subst (IsOf (Some (CheckMoves named))) (sym e.1) tt
claim_owns named (Some (wrong.Differ x)) o fault e = absurd fault
claim_owns named (Some (wrong.MovesNo x)) o fault e = subst (IsOf (Some (CheckMoves named))) (sym e.1) tt

pub own_end : (asked : Option Asked) (reply : code_reply.Reply) (o : Outcome) → Owns asked reply → EndsBy (option_map wrong_as reply.wrong) o → IsOf asked o
own_end None reply o own e = absurd own
own_end (Some (Run named)) reply o own e = none_owns (Run named) reply.wrong o own e
own_end (Some (Check name)) reply o own e = check_owns name reply.wrong o own e
own_end (Some (Make routes seed)) reply o own e = none_owns (Make routes seed) reply.wrong o own e
own_end (Some (Steps named)) reply o own e = none_owns (Steps named) reply.wrong o own e
own_end (Some (Same named)) reply o own e = same_owns named reply.wrong o own e
own_end (Some (Moves named)) reply o own e = moves_own named reply.wrong o own e
own_end (Some (CheckMoves named)) reply o own e = claim_owns named reply.wrong o own e
own_end (Some (Save named)) reply o own e = none_owns (Save named) reply.wrong o own e

pub own_fault : (asked : Option Asked) (reply : code_reply.Reply) → Owns asked reply → IsOf asked WriteFault
own_fault None reply own = absurd own
own_fault (Some asked) reply own = tt

pub stops_own : (asked : Asked) (o : Outcome) → StopsIn asked o → IsOf (Some asked) o
stops_own asked ReadFault s = s
stops_own asked NoMemory s = tt
stops_own asked (TooLarge input) s = s
stops_own asked (Malformed input number rule) s = s
stops_own asked (HopsFull event) s = s
stops_own asked (TrieFull event need have arena) s = s
stops_own asked (BadLine input line why) s = s
stops_own asked Done s = tt
stops_own asked (CheckNo x) s = absurd s.2
stops_own asked (Differ x) s = absurd s.2
stops_own asked (MovesNo x) s = absurd s.2
stops_own asked Usage s = absurd s.2
stops_own asked WriteFault s = tt
stops_own asked (PeersFull peers) s = absurd s.2
stops_own asked (PathTooLong p n) s = absurd s.2
