-- A printed text that is read in pieces, and the reply to it.
use Rattle.std.proofs.Common.{◌≡◌, ℕ, ◌+◌, ◌^◌, ◌≤◌, ◌<◌, List, [], ◌++◌, length, take, Option, Some, None, Result, Ok, Err, Bool, true, false, inl, inr, refl, sym, ap, subst, arith, length-append, length-take}
use Rattle.std.specs.Prelude.{IfErr, IfOk, IfSome, IsErrOf, if◌then◌else◌}
use Rattle.std.proofs.lemmas.Bool.{le-leb, lt-leb}
use Rattle.octet_fields.specs.Field.{◌>>=◌}
use Rattle.fib_io.specs.Pieces.{ComeNext, IsEnd, IsLarge, IsReadOf}
use Rattle.fib_io.specs.Reads.{Anywhere, AtEnd, AtFault, Makes, Pass, PastMost, Read, whole_end}
use Rattle.fib_io.specs.declared.pieces.ReadError.{ReadError}
use Rattle.fib_io.specs.declared.pieces.ReadError.TheVariants as unread
use Rattle.fib_io.proofs.Coming.{ReadOn, large_of, read_all, read_first, read_more}
use Rattle.fib_io.proofs.Passing.{pass_stops_at_end}
use Rattle.mrt_read.specs.Cuts.{is_small}
use Rattle.printed_text.specs.Pieces.{TextStands, most_lines}
use Rattle.printed_text.specs.Printed.{bad_as, printed_as}
use Rattle.printed_text.specs.Texts.{BadLine}
use Rattle.printed_text.specs.Used.{Used, printed_in}
use Rattle.printed_text.specs.declared.pieces.TextReader.{TextReader}
use Rattle.fib_due.specs.declared.outcome.Outcome.{Outcome}
use Rattle.fib_due.specs.declared.outcome.Outcome.TheVariants as outcome
use Rattle.fib_due.specs.declared.outcome.Which.TheVariants.{Printed}
use Rattle.fib_due.specs.declared.reply.Reply as code_reply
use Rattle.fib_due.specs.Due.{Checked, Reply, checked, input_at, reply_of, used_at, with_reply}
use Rattle.fib_due.specs.Ends.{ReadsName}
use Rattle.fib_due.specs.InTime.{TextMayGoOn}
use Rattle.fib_due.specs.Owned.{StopsAt}
use Rattle.fib_due.specs.Passes.{Content, ReadsOf, check_inputs}
use Rattle.fib_due.specs.Stops.{FailsDue, GivesDue, IsDueIfTold, Stop, Refused, rowed, sized, told_content}
use Rattle.fib_due.specs.Untold.{ReplyOfSome}
use Rattle.fib_due.specs.Views.{reply_as}
use Rattle.fib_due.proofs.Due.{fails_first, is_then}
use Rattle.fib_due.proofs.Passes.{input_begun, input_fails, input_large, input_read, input_refused, out_of_memory, text_pass}
use Rattle.fib_texts.specs.Reads.{IsReply, ReadText, text_as}

-- ---- piece after piece

-- A reader was fed so many octets, which are those of the input up to here, if it tells them.
pub record IsFed (content : Option (List ℕ)) (reader : TextReader) (at : ℕ) : Type 0 where
  pub fed : List ℕ
  pub octets : at ≡ length fed
  pub on : IfSome content (ReadOn fed)
  pub stands : TextStands fed reader

pub fed_none : (content : Option (List ℕ)) (reader : TextReader) → TextStands [] reader → IsFed content reader 0
fed_none content reader stands = record { fed = []; octets = refl; on = read_first content [] refl; stands = stands }

pub fed_more : (content : Option (List ℕ)) (old new : TextReader) (room : List ℕ) (at n : ℕ) → n ≤ length room → IfSome content (λ c. ComeNext c at room n) → ((fed : List ℕ) → TextStands fed old → TextStands (fed ++ take n room) new) → IsFed content old at → IsFed content new (at + n)
fed_more content old new room at n within next feeds s = record {
  fed = s.fed ++ take n room;
  octets = omega (arith, s.octets, within, length-append s.fed (take n room), length-take n room);
  on = read_more content s.fed (s.fed ++ take n room) room at n s.octets within refl next s.on;
  stands = feeds s.fed s.stands;
}

pub counts_more : (old new : TextReader) (room : List ℕ) (at n : ℕ) → n ≤ length room → most_lines new ≤ most_lines old + length (take n room) → most_lines old ≤ at → most_lines new ≤ at + n
counts_more old new room at n within more counts = omega (arith, more, counts, within, length-take n room)

-- ---- the end

text_is : (content : Option (List ℕ)) (reader : TextReader) (at : ℕ) (text : ReadText) → IfSome content (λ c. IsEnd c at) → ((fed : List ℕ) → TextStands fed reader → printed_in fed ≡ text_as text) → IsFed content reader at → IfSome content (λ c. printed_in c ≡ text_as text)
text_is None reader at text end ends s = tt
text_is (Some c) reader at text end ends s = subst (λ octets. printed_in octets ≡ text_as text) (read_all (Some c) s.fed at s.octets end s.on) (ends s.fed s.stands)

pub text_read : (content : Option (List ℕ)) (reader : TextReader) (at : ℕ) (result : Result ReadText ReadError) → IfSome content (λ c. IsEnd c at) → IfOk result (λ text. (fed : List ℕ) → TextStands fed reader → printed_in fed ≡ text_as text) → IsFed content reader at
    → IfOk result (λ text. IfSome content (λ c. printed_in c ≡ text_as text))
text_read content reader at (Ok text) end ends s = text_is content reader at text end ends s
text_read content reader at (Err error) end ends s = tt

few_octets : (content : Option (List ℕ)) (at : ℕ) → IfSome content (λ c. IsEnd c at) → IfSome content (λ c. length c ≤ 2 ^ 36)
few_octets None at end = tt
few_octets (Some c) at end = end.1

pub text_small : (content : Option (List ℕ)) (at : ℕ) (result : Result ReadText ReadError) → IfSome content (λ c. IsEnd c at) → IfOk result (λ _. IfSome content (λ c. length c ≤ 2 ^ 36))
text_small content at (Ok text) end = few_octets content at end
text_small content at (Err error) end = tt

-- what a read that gave nothing says of the whole text
pub large_text : (content : Option (List ℕ)) (at : ℕ) (error : ReadError) → (IsErrOf {T = ℕ} (Err error) unread.TooLarge → IfSome content (λ c. IsLarge c at)) → IsErrOf {T = ReadText} (Err error) unread.TooLarge → IfSome content (λ c. 2 ^ 36 < length c)
large_text content at unread.TooLarge large e = large_of content at (large refl)
large_text content at unread.Fault large e = absurd cc
large_text content at unread.NoMemory large e = absurd cc

-- at its end a text isn't refused but for memory
abbrev pub EndsSo : Result ReadText ReadError → Type 0
EndsSo result = IfErr result (λ error. error ≡ unread.NoMemory)

pub not_large : (result : Result ReadText ReadError) → EndsSo result → IsErrOf result unread.TooLarge → ⊥
not_large (Ok text) ends large = absurd cc
not_large (Err error) ends large = absurd cc

pub ended_cause : (before now : List ℕ → ℕ) (name : List ℕ) (result : Result ReadText ReadError) → EndsSo result → now ≡ before → IsReadOf before now name result
ended_cause before now name (Ok text) ends same = same
ended_cause before now name (Err error) ends same = rw ends same

pub ended_pass : (before now : Option (List Read)) (name : List ℕ) (result : Result ReadText ReadError) → EndsSo result → Makes before now (Pass AtEnd name) → Makes before now (Pass (whole_end result) name)
ended_pass before now name (Ok text) ends made = made
ended_pass before now name (Err error) ends made = rw ends (pass_stops_at_end before now name made)

-- ---- what is due

itself : (d : Result Used BadLine) → IsDueIfTold (rowed d) (rowed d)
itself (Ok used) = refl
itself (Err bad) = refl

-- octets that are few enough, or not
abbrev sized_by : Bool → List ℕ → Result (List ℕ) Stop
sized_by b octets = if b then Ok octets else Err (Refused (outcome.TooLarge Printed))

told_due : (o : Option (List ℕ)) (d : Result Used BadLine) → IfSome o (λ c. length c ≤ 2 ^ 36) → IfSome o (λ c. printed_in c ≡ d) → IsDueIfTold (told_content o >>= sized Printed >>= λ octets. rowed (printed_in octets)) (rowed d)
unfolding sized
told_due None d small is = tt
told_due (Some c) d small is = by_size (is_small c) (le-leb (length c) (2 ^ 36) small)
  where
    by_size : (b : Bool) → b ≡ true → IsDueIfTold (sized_by b c >>= λ octets. rowed (printed_in octets)) (rowed d)
    by_size true e = subst (λ u. IsDueIfTold (rowed u) (rowed d)) (sym is) (itself d)
    by_size false e = absurd cc

text_due : (content : Content) (name : List ℕ) (d : Result Used BadLine) → IfSome (content name) (λ c. length c ≤ 2 ^ 36) → IfSome (content name) (λ c. printed_in c ≡ d) → IsDueIfTold (used_at content name) (rowed d)
unfolding used_at input_at
text_due content name d small is = told_due (content name) d small is

told_large : (o : Option (List ℕ)) → IfSome o (λ c. 2 ^ 36 < length c) → FailsDue (outcome.TooLarge Printed) (told_content o >>= sized Printed)
unfolding sized
told_large None large = tt
told_large (Some c) large = by_size (is_small c) (lt-leb (length c) (2 ^ 36) large)
  where
    by_size : (b : Bool) → b ≡ false → FailsDue (outcome.TooLarge Printed) (sized_by b c)
    by_size false e = refl
    by_size true e = absurd cc

large_due : (content : Content) (name : List ℕ) → IfSome (content name) (λ c. 2 ^ 36 < length c) → FailsDue (outcome.TooLarge Printed) (used_at content name)
unfolding used_at input_at
large_due content name large = fails_first (outcome.TooLarge Printed) (told_content (content name) >>= sized Printed) (λ octets. rowed (printed_in octets)) (told_large (content name) large)

-- a refusal of the text is one of the reply to it
refused : (content : Content) (name : List ℕ) (o : Outcome) → FailsDue o (used_at content name) → FailsDue o (with_reply (checked (used_at content name)))
refused content name o fails = fails_first o (checked (used_at content name)) (λ output. Ok (reply_of output)) (fails_first o (used_at content name) (λ used. Ok (Checked used)) fails)

abbrev fine : Reply → Result Reply Stop
fine reply = Ok reply

abbrev Replied : Type 0
Replied = Result code_reply.Reply Outcome

pub check_due : (content : Content) (name : List ℕ) (read : Result ReadText ReadError) (result : Replied) → IsReply read result → IfOk read (λ text. IfSome (content name) (λ c. printed_in c ≡ text_as text)) → IfOk read (λ _. IfSome (content name) (λ c. length c ≤ 2 ^ 36))
    → (IsErrOf read unread.TooLarge → IfSome (content name) (λ c. 2 ^ 36 < length c)) → GivesDue reply_as result (with_reply (checked (used_at content name)))
check_due content name (Ok (Ok p)) (Ok reply) is text small large =
    is_then (checked (used_at content name)) (λ output. Ok (reply_of output)) (Checked (printed_as p)) (reply_as reply)
    (is_then (used_at content name) (λ used. Ok (Checked used)) (printed_as p) (Checked (printed_as p)) (text_due content name (Ok (printed_as p)) small text) refl)
    (ap fine (sym is))
check_due content name (Ok (Ok p)) (Err o) is text small large = rw is tt
check_due content name (Ok (Err bad)) (Ok reply) is text small large = absurd is
check_due content name (Ok (Err bad)) (Err o) is text small large = rw is (refused content name (outcome.BadLine Printed bad.line bad.why) (text_due content name (Err (bad_as bad)) small text))
check_due content name (Err unread.Fault) (Ok reply) is text small large = absurd is
check_due content name (Err unread.Fault) (Err o) is text small large = rw is tt
check_due content name (Err unread.TooLarge) (Ok reply) is text small large = absurd is
check_due content name (Err unread.TooLarge) (Err o) is text small large = rw is (refused content name (outcome.TooLarge Printed) (large_due content name (large refl)))
check_due content name (Err unread.NoMemory) (Ok reply) is text small large = absurd is
check_due content name (Err unread.NoMemory) (Err o) is text small large = rw is tt

pub check_some : (read : Result ReadText ReadError) (result : Replied) → IsReply read result → ReplyOfSome result
check_some (Ok (Ok p)) (Ok reply) is = inr (printed_as p, ap fine (sym is))
check_some (Ok (Ok p)) (Err o) is = inl (rw is tt)
check_some (Ok (Err bad)) (Ok reply) is = absurd is
check_some (Ok (Err bad)) (Err o) is = inl (rw is (refl, tt))
check_some (Err unread.Fault) (Ok reply) is = absurd is
check_some (Err unread.Fault) (Err o) is = inl (rw is tt)
check_some (Err unread.TooLarge) (Ok reply) is = absurd is
check_some (Err unread.TooLarge) (Err o) is = inl (rw is refl)
check_some (Err unread.NoMemory) (Ok reply) is = absurd is
check_some (Err unread.NoMemory) (Err o) is = inl (rw is tt)

pub check_stops : (read : Result ReadText ReadError) (result : Replied) → IsReply read result → IfErr result (StopsAt Printed)
check_stops read (Ok reply) is = tt
check_stops (Ok (Ok p)) (Err o) is = rw is tt
check_stops (Ok (Err bad)) (Err o) is = rw is (refl, tt)
check_stops (Err unread.Fault) (Err o) is = rw is tt
check_stops (Err unread.TooLarge) (Err o) is = rw is refl
check_stops (Err unread.NoMemory) (Err o) is = rw is tt

pub check_cause : (before now : List ℕ → ℕ) (name : List ℕ) (read : Result ReadText ReadError) (result : Replied) → IsReply read result → IsReadOf before now name read → ReadsName name before now result
check_cause before now name (Ok (Ok p)) (Ok reply) is cause = cause
check_cause before now name (Ok (Ok p)) (Err o) is cause = rw is cause
check_cause before now name (Ok (Err bad)) (Ok reply) is cause = absurd is
check_cause before now name (Ok (Err bad)) (Err o) is cause = rw is cause
check_cause before now name (Err unread.Fault) (Ok reply) is cause = absurd is
check_cause before now name (Err unread.Fault) (Err o) is cause = rw is cause
check_cause before now name (Err unread.TooLarge) (Ok reply) is cause = absurd is
check_cause before now name (Err unread.TooLarge) (Err o) is cause = rw is cause
check_cause before now name (Err unread.NoMemory) (Ok reply) is cause = absurd is
check_cause before now name (Err unread.NoMemory) (Err o) is cause = rw is cause

-- ---- the reads that are made

pub check_reads : (content : Content) (before now : Option (List Read)) (name : List ℕ) (read : Result ReadText ReadError) (result : Replied) → IsReply read result → Makes before now (Pass (whole_end read) name) → Makes before now (ReadsOf content TextMayGoOn (check_inputs name) result)
check_reads content before now name (Ok (Ok p)) (Ok reply) is made = input_read content TextMayGoOn before now Printed name (text_pass content before now Printed AtEnd name made)
check_reads content before now name (Ok (Ok p)) (Err o) is made = rw is (out_of_memory content TextMayGoOn before now (check_inputs name) (input_read content TextMayGoOn before now Printed name (text_pass content before now Printed AtEnd name made)))
check_reads content before now name (Ok (Err bad)) (Ok reply) is made = absurd is
check_reads content before now name (Ok (Err bad)) (Err o) is made = rw is (input_refused content TextMayGoOn before now Printed AtEnd name (text_pass content before now Printed AtEnd name made))
check_reads content before now name (Err unread.Fault) (Ok reply) is made = absurd is
check_reads content before now name (Err unread.Fault) (Err o) is made = rw is (input_fails content TextMayGoOn before now Printed name (text_pass content before now Printed AtFault name made))
check_reads content before now name (Err unread.TooLarge) (Ok reply) is made = absurd is
check_reads content before now name (Err unread.TooLarge) (Err o) is made = rw is (input_large content TextMayGoOn before now Printed name (text_pass content before now Printed PastMost name made))
check_reads content before now name (Err unread.NoMemory) (Ok reply) is made = absurd is
check_reads content before now name (Err unread.NoMemory) (Err o) is made = rw is (input_begun content TextMayGoOn before now Printed name (text_pass content before now Printed Anywhere name made))
