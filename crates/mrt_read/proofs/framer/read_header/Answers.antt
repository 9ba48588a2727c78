use Rattle.std.proofs.Common.{ap, length, arith}
use Rattle.std.proofs.lemmas.List.{length-drop}
use Rattle.mrt_read.proofs.Headers.{after_header, few_in_body, length_is_there, whole_record}
use Rattle.mrt_read.proofs.framer.read_header.Goals as goal

pub returns-clause-value : goal.returns-clause-value
returns-clause-value c = whole_record c.args.bytes.now _ _ _ _ _ _ _ _ c.if-bytes-lt-HEADER.false c.in_ok-_time.ensures.value c.in_ok-kind.ensures.value c.in_ok-sub.ensures.value c.in_ok-length.ensures.value c.if-length-gt-MOST_LENGTH.false c.if-rest-length.false

pub returns-clause-whole : goal.returns-clause-whole
returns-clause-whole c =
    let tail = ap length (after_header c.args.bytes.now _ _ _ _ _ _ _ _ c.in_ok-_time.ensures.value c.in_ok-kind.ensures.value c.in_ok-sub.ensures.value c.in_ok-length.ensures.value) in
    omega (arith, tail, length-drop 12 c.args.bytes.now)

pub returns-in_err-length-clause-few : goal.returns-in_err-length-clause-few
returns-in_err-length-clause-few c = absurd (length_is_there c.args.bytes.now _ _ _ _ _ _ _ c.if-bytes-lt-HEADER.false c.in_ok-_time.ensures.value c.in_ok-kind.ensures.value c.in_ok-sub.ensures.value c.in_err-length.ensures.value)

pub returns-then-rest-length-clause-few : goal.returns-then-rest-length-clause-few
returns-then-rest-length-clause-few c = λ other. few_in_body c.args.bytes.now _ _ _ _ _ _ _ _ c.if-bytes-lt-HEADER.false c.in_ok-_time.ensures.value c.in_ok-kind.ensures.value c.in_ok-sub.ensures.value c.in_ok-length.ensures.value c.if-length-gt-MOST_LENGTH.false c.if-rest-length.true
