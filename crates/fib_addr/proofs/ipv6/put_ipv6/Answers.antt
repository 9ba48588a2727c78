use Rattle.std.proofs.Common.{ap, ◌∙◌, ◌++◌, ◌+◌, ◌-◌, append_assoc, codes, drop, refl, sym, take}
use Rattle.std.specs.Net.Text.{groups_text}
use Rattle.fib_addr.proofs.GroupBits.{written_whole, written_short}
use Rattle.fib_addr.proofs.ipv6.put_ipv6.Goals as goal

pub returns-then-run-lt-LEAST_RUN-clause-text : goal.returns-then-run-lt-LEAST_RUN-clause-text
returns-then-run-lt-LEAST_RUN-clause-text c =
    c.put_groups.ensures.text
    ∙ ap (λ xs. xs ++ drop c.args.end c.args.out.now) (written_whole _ c.from_bits.result _ _ _ c.from_bits.ensures c.segments-groups.ensures c.longest_zero_run-place.ensures.value c.if-run-lt-LEAST_RUN.true refl)

pub returns-clause-text : goal.returns-clause-text
returns-clause-text c =
    let run = c.longest_zero_run-place.result in
    let groups = c.segments-groups.result in
    let head = groups_text (take run.0 groups) in
    let tail = groups_text (take (8 - (run.0 + run.1)) (drop (run.0 + run.1) groups)) in
    let behind = drop c.args.end c.args.out.now in
    c.put_groups-2.ensures.text
    ∙ (ap (λ xs. head ++ xs) (c.put-after_head.ensures.text ∙ ap (λ xs. codes "::" ++ xs) c.put_groups-after_gap.ensures.text)
    ∙ (sym (append_assoc head (codes "::") (tail ++ behind))
    ∙ (sym (append_assoc (head ++ codes "::") tail behind)
    ∙ ap (λ xs. xs ++ behind) (written_short _ c.from_bits.result _ _ _ c.from_bits.ensures c.segments-groups.ensures c.longest_zero_run-place.ensures.value c.if-run-lt-LEAST_RUN.false refl))))
