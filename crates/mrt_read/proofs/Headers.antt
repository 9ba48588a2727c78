-- A header and the record behind it.
use Rattle.std.proofs.Common.{◌≡◌, ℕ, ◌+◌, ◌≤◌, ◌<◌, refl, arith, length-drop, Bool, true, false, cond, List, length, take, drop, Result, Ok, Err, sym, ap, ◌∙◌}
use Rattle.std.proofs.lemmas.Bool.{le-ltb, ltb-true}
use Rattle.std.proofs.lemmas.List.{drop-drop}
use Rattle.octet_fields.specs.Field.{octets_at, number_at}
use Rattle.wire_model.specs.declared.rule.Rule.{Rule}
use Rattle.wire_model.specs.declared.rule.Rule.TheVariants.{HeaderCut}
use Rattle.wire_model.specs.Record.{record_at}
use Rattle.mrt_read.specs.Records.{most_left}
use Rattle.wire_model.proofs.More.{guard_ok}

-- what a field leaves
leaves : {A : Type 0} (b : Bool) (rule : Rule) (x y : A) (rest after : List ℕ) → cond {A = Result (A × List ℕ) Rule} b (Err rule) (Ok (x, rest)) ≡ Ok (y, after) → after ≡ rest
leaves {A = A} b rule x y rest after e = sym (ap (λ (p : A × List ℕ). p.1) (guard_ok b rule (x, rest) (y, after) e).1)

-- what follows the four fields is what follows 12 octets
pub after_header : (bytes time t k s l : List ℕ) (kind sub len : ℕ) → octets_at {F = Rule} HeaderCut 4 bytes ≡ Ok (time, t) → number_at {F = Rule} HeaderCut 2 t ≡ Ok (kind, k) → number_at {F = Rule} HeaderCut 2 k ≡ Ok (sub, s) → number_at {F = Rule} HeaderCut 4 s ≡ Ok (len, l) → l ≡ drop 12 bytes
after_header bytes time t k s l kind sub len e0 e1 e2 e3 =
    leaves _ _ _ _ _ _ e3
    ∙ (ap (drop 4) (leaves _ _ _ _ _ _ e2)
    ∙ (drop-drop 4 2 k
    ∙ (ap (drop 6) (leaves _ _ _ _ _ _ e1)
    ∙ (drop-drop 6 2 t
    ∙ (ap (drop 8) (leaves _ _ _ _ _ _ e0)
    ∙ drop-drop 8 4 bytes)))))

pub whole_record : (bytes time t k s l : List ℕ) (kind sub len : ℕ) → 12 ≤ length bytes → octets_at {F = Rule} HeaderCut 4 bytes ≡ Ok (time, t) → number_at {F = Rule} HeaderCut 2 t ≡ Ok (kind, k) → number_at {F = Rule} HeaderCut 2 k ≡ Ok (sub, s) → number_at {F = Rule} HeaderCut 4 s ≡ Ok (len, l) → len ≤ 16777216 → len ≤ length l → record_at bytes ≡ Ok (record { kind = kind; subtype = sub; body = take len (drop 12 bytes) }, drop (12 + len) bytes)
unfolding record_at
whole_record bytes time t k s l kind sub len long e0 e1 e2 e3 allowed there =
    let tail = after_header bytes time t k s l kind sub len e0 e1 e2 e3 in
    rw (le-ltb (length bytes) 12 long, e0, e1, e2, e3, le-ltb 16777216 len allowed, le-ltb (length l) len there, tail, drop-drop len 12 bytes)

-- where a field is cut
is_cut : {A : Type 0} (b : Bool) (rule other : Rule) (x : A) → cond {A = Result A Rule} b (Err rule) (Ok x) ≡ Err other → b ≡ true
is_cut true rule other x e = refl
is_cut false rule other x e = absurd cc

-- the Length is there where 12 octets are
pub length_is_there : (bytes time t k s : List ℕ) (kind sub : ℕ) (rule : Rule) → 12 ≤ length bytes → octets_at {F = Rule} HeaderCut 4 bytes ≡ Ok (time, t) → number_at {F = Rule} HeaderCut 2 t ≡ Ok (kind, k) → number_at {F = Rule} HeaderCut 2 k ≡ Ok (sub, s) → number_at {F = Rule} HeaderCut 4 s ≡ Err rule → ⊥
length_is_there bytes time t k s kind sub rule long e0 e1 e2 cut =
    let short : length s < 4 = ltb-true _ _ (is_cut _ _ _ _ cut) in
    omega (arith, short, ap length (leaves _ _ _ _ _ _ e2), length-drop 2 k, ap length (leaves _ _ _ _ _ _ e1), length-drop 2 t, ap length (leaves _ _ _ _ _ _ e0), length-drop 4 bytes)

-- a record that is cut in its body is less than a header and the longest body
pub few_in_body : (bytes time t k s l : List ℕ) (kind sub len : ℕ) → 12 ≤ length bytes → octets_at {F = Rule} HeaderCut 4 bytes ≡ Ok (time, t) → number_at {F = Rule} HeaderCut 2 t ≡ Ok (kind, k) → number_at {F = Rule} HeaderCut 2 k ≡ Ok (sub, s) → number_at {F = Rule} HeaderCut 4 s ≡ Ok (len, l) → len ≤ 16777216 → length l < len → length bytes ≤ most_left
few_in_body bytes time t k s l kind sub len long e0 e1 e2 e3 allowed short =
    omega (arith, ap length (after_header bytes time t k s l kind sub len e0 e1 e2 e3), length-drop 12 bytes)
