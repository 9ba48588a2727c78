-- An input that comes in pieces.
use Rattle.std.proofs.Common.{inl, inr, ◌≡◌, ℕ, zero, suc, ◌+◌, ◌≤◌, ◌<◌, Bool, true, false, cond, ltb, List, [], ◌∷◌, ◌++◌, length, take, drop, Result, Ok, Err, refl, sym, ap, ◌∙◌, append_assoc, arith}
use Rattle.std.specs.Prelude.{◌⊎◌}
use Rattle.std.proofs.lemmas.Bool.{ltb-false, le-ltb}
use Rattle.std.proofs.lemmas.List.{take-append-le, drop-append-le, length-append, length-drop, append-nil}
use Rattle.table_model.specs.Bits.{number}
use Rattle.octet_fields.specs.Field.{◌>>=◌, refuse, octets_at, number_at, steps, until_end}
use Rattle.wire_model.specs.declared.rule.Rule.{Rule}
use Rattle.wire_model.specs.declared.rule.Rule.TheVariants.{HeaderCut, BodyCut, TooLong}
use Rattle.wire_model.specs.Record.{Record, Fault, most_length, at_record, record_at, next_record, records_in}
use Rattle.wire_model.specs.Pieces.{StartsSo, FeedsOn, TakesOn, StaysTooLong, StaysBroken, EndsCut, EndsSo, KeepsFront}

pub bind_ok : {A B F : Type 0} (r : Result A F) (f : A → Result B F) (y : B) → (r >>= f) ≡ Ok y → (x : A) × (r ≡ Ok x) × (f x ≡ Ok y)
bind_ok (Ok x) f y e = (x, refl, e)
bind_ok (Err d) f y e = absurd cc

pub guard_ok : {A F : Type 0} (b : Bool) (d : F) (x y : A) → cond b (Err d) (Ok x) ≡ Ok y → (b ≡ false) × (x ≡ y)
guard_ok true d x y e = absurd cc
guard_ok false d x y e = (refl, cc)

not_refused : (rule : Rule) (b x : Bool) → refuse rule b ≡ Ok x → b ≡ false
not_refused rule true x e = absurd cc
not_refused rule false x e = refl

-- a reader that reads the same where more follows
pub record Steady {A : Type 0} (read : List ℕ → Result (A × List ℕ) Rule) : Type 0 where
  pub more : (bytes more : List ℕ) (x : A) (rest : List ℕ) → read bytes ≡ Ok (x, rest) → read (bytes ++ more) ≡ Ok (x, rest ++ more)
  pub shorter : (bytes : List ℕ) (x : A) (rest : List ℕ) → read bytes ≡ Ok (x, rest) → length rest ≤ length bytes

pub octets_steady : (rule : Rule) (n : ℕ) → Steady (octets_at rule n)
octets_steady rule n = record {
  more = λ bytes more x rest e.
      let g = guard_ok (ltb (length bytes) n) rule (take n bytes, drop n bytes) (x, rest) e in
      let le : n ≤ length bytes = ltb-false _ _ g.0 in
      let long : ltb (length (bytes ++ more)) n ≡ false = le-ltb _ _ (omega (arith, length-append bytes more)) in
      rw (long, take-append-le n bytes more le, drop-append-le n bytes more le) (ap (λ (p : List ℕ × List ℕ). Ok (p.0, p.1 ++ more)) g.1);
  shorter = λ bytes x rest e.
      let g = guard_ok (ltb (length bytes) n) rule (take n bytes, drop n bytes) (x, rest) e in
      omega (arith, length-drop n bytes, ap (λ (p : List ℕ × List ℕ). length p.1) g.1);
}

pub number_steady : (rule : Rule) (n : ℕ) → Steady (number_at rule n)
number_steady rule n = record {
  more = λ bytes more x rest e.
      let g = guard_ok (ltb (length bytes) n) rule (number (take n bytes), drop n bytes) (x, rest) e in
      let le : n ≤ length bytes = ltb-false _ _ g.0 in
      let long : ltb (length (bytes ++ more)) n ≡ false = le-ltb _ _ (omega (arith, length-append bytes more)) in
      rw (long, take-append-le n bytes more le, drop-append-le n bytes more le) (ap (λ (p : ℕ × List ℕ). Ok (p.0, p.1 ++ more)) g.1);
  shorter = λ bytes x rest e.
      let g = guard_ok (ltb (length bytes) n) rule (number (take n bytes), drop n bytes) (x, rest) e in
      omega (arith, length-drop n bytes, ap (λ (p : ℕ × List ℕ). length p.1) g.1);
}

ok_is : {A F : Type 0} (r : Result A F) (x y : A) → r ≡ Ok x → r ≡ Ok y → x ≡ y
ok_is r x y e h = let both : r ≡ Ok x = e in cc

pub steady_value : {A : Type 0} (v : A) → Steady (λ bytes. Ok (v, bytes))
steady_value v = record {
  more = λ bytes more x rest e. let same = ok_is _ (v, bytes) (x, rest) refl e in ap (λ (p : _). Ok (p.0, p.1 ++ more)) same;
  shorter = λ bytes x rest e. let same = ok_is _ (v, bytes) (x, rest) refl e in omega (arith, ap (λ (p : _). length p.1) same);
}

pub steady_then : {A B : Type 0} (read : List ℕ → Result (A × List ℕ) Rule) (next : A → List ℕ → Result (B × List ℕ) Rule) → Steady read → ((a : A) → Steady (next a)) → Steady (λ bytes. read bytes >>= λ x. next x.0 x.1)
steady_then read next p q = record {
  more = λ bytes more x rest e.
      let a = bind_ok (read bytes) (λ y. next y.0 y.1) (x, rest) e in
      rw (p.more bytes more a.0.0 a.0.1 a.1) ((q a.0.0).more a.0.1 more x rest a.2);
  shorter = λ bytes x rest e.
      let a = bind_ok (read bytes) (λ y. next y.0 y.1) (x, rest) e in
      omega (arith, p.shorter bytes a.0.0 a.0.1 a.1, (q a.0.0).shorter a.0.1 x rest a.2);
}

pub steady_if : {A : Type 0} (rule : Rule) (b : Bool) (read : List ℕ → Result (A × List ℕ) Rule) → Steady read → Steady (λ bytes. refuse rule b >>= λ x. read bytes)
steady_if rule false read p = p
steady_if rule true read p = record { more = λ bytes more x rest e. absurd cc; shorter = λ bytes x rest e. absurd cc }

abbrev body_at : ℕ → ℕ → ℕ → List ℕ → Result (Record × List ℕ) Rule
body_at kind sub len bytes = refuse TooLong (ltb most_length len) >>= λ allowed. octets_at BodyCut len bytes >>= λ body. Ok (record { kind = kind; subtype = sub; body = body.0 }, body.1)

abbrev header_at : List ℕ → Result (Record × List ℕ) Rule
header_at bytes = number_at HeaderCut 2 bytes >>= λ kind. number_at HeaderCut 2 kind.1 >>= λ sub. number_at HeaderCut 4 sub.1 >>= λ len. body_at kind.0 sub.0 len.0 len.1

body_steady : (kind sub len : ℕ) → Steady (body_at kind sub len)
body_steady kind sub len =
    steady_if TooLong (ltb most_length len) (λ bytes. octets_at BodyCut len bytes >>= λ body. Ok (record { kind = kind; subtype = sub; body = body.0 }, body.1))
    (steady_then (octets_at BodyCut len) (λ body bytes. Ok (record { kind = kind; subtype = sub; body = body }, bytes)) (octets_steady BodyCut len) (λ body. steady_value (record { kind = kind; subtype = sub; body = body })))

header_steady : Steady header_at
header_steady =
    steady_then (number_at HeaderCut 2) (λ kind bytes. number_at HeaderCut 2 bytes >>= λ sub. number_at HeaderCut 4 sub.1 >>= λ len. body_at kind sub.0 len.0 len.1) (number_steady HeaderCut 2) (λ kind.
    steady_then (number_at HeaderCut 2) (λ sub bytes. number_at HeaderCut 4 bytes >>= λ len. body_at kind sub len.0 len.1) (number_steady HeaderCut 2) (λ sub.
    steady_then (number_at HeaderCut 4) (λ len bytes. body_at kind sub len bytes) (number_steady HeaderCut 4) (λ len. body_steady kind sub len)))

-- a whole record is the same record where more follows
pub record_more : (bytes more : List ℕ) (f : Record) (rest : List ℕ) → record_at bytes ≡ Ok (f, rest) → (record_at (bytes ++ more) ≡ Ok (f, rest ++ more)) × (length rest < length bytes)
unfolding record_at
record_more bytes more f rest e =
    let a = bind_ok (refuse HeaderCut (ltb (length bytes) 12)) (λ x. octets_at HeaderCut 4 bytes >>= λ time. header_at time.1) (f, rest) e in
    let long : ltb (length bytes) 12 ≡ false = not_refused HeaderCut (ltb (length bytes) 12) a.0 a.1 in
    let le : 12 ≤ length bytes = ltb-false _ _ long in
    let longer : ltb (length (bytes ++ more)) 12 ≡ false = le-ltb _ _ (omega (arith, length-append bytes more)) in
    let b = bind_ok (octets_at HeaderCut 4 bytes) (λ time. header_at time.1) (f, rest) a.2 in
    let g = guard_ok (ltb (length bytes) 4) HeaderCut (take 4 bytes, drop 4 bytes) b.0 b.1 in
    let after : length b.0.1 + 4 ≡ length bytes = omega (arith, length-drop 4 bytes, ap (λ (p : List ℕ × List ℕ). length p.1) g.1) in
    (rw (longer, (octets_steady HeaderCut 4).more bytes more b.0.0 b.0.1 b.1) (header_steady.more b.0.1 more f rest b.2), omega (arith, header_steady.shorter b.0.1 f rest b.2))

-- ---- more steps than octets change nothing

pub record Shortens {S F : Type 0} (step : S → List ℕ → Result (S × List ℕ) F) : Type 0 where
  pub by : (s next : S) (bytes after : List ℕ) → step s bytes ≡ Ok (next, after) → length after < length bytes

-- two goings-on that agree at the value
ap_bind : {A B F : Type 0} (r : Result A F) (f g : A → Result B F) → ((x : A) → r ≡ Ok x → f x ≡ g x) → (r >>= f) ≡ (r >>= g)
ap_bind (Ok x) f g h = h x refl
ap_bind (Err e) f g h = refl

pub steps_enough : {S F : Type 0} (step : S → List ℕ → Result (S × List ℕ) F) → Shortens step → (n m : ℕ) (s : S) (bytes : List ℕ) → length bytes ≤ n → length bytes ≤ m → steps step n s bytes ≡ steps step m s bytes
unfolding steps
steps_enough step p n m s [] h k = refl
steps_enough step p zero m s (b ∷ bs) h k = absurd (omega arith)
steps_enough step p n zero s (b ∷ bs) h k = absurd (omega arith)
steps_enough step p (suc n) (suc m) s (b ∷ bs) h k =
    ap_bind (step s (b ∷ bs)) (λ x. steps step n x.0 x.1) (λ x. steps step m x.0 x.1) (λ x e. let h2 = p.by s x.0 (b ∷ bs) x.1 e in steps_enough step p n m x.0 x.1 (omega arith) (omega arith))

pub until_end_next : {S F : Type 0} (step : S → List ℕ → Result (S × List ℕ) F) → Shortens step → (s next : S) (bytes after : List ℕ) → step s bytes ≡ Ok (next, after) → until_end step s bytes ≡ until_end step next after
unfolding steps
until_end_next step p s next [] after e = let h = p.by s next [] after e in absurd (omega arith)
until_end_next step p s next (b ∷ bs) after e =
    let h = p.by s next (b ∷ bs) after e in
    rw e (steps_enough step p (length bs) (length after) next after (omega arith) (omega arith))

pub until_end_fault : {S F : Type 0} (step : S → List ℕ → Result (S × List ℕ) F) (s : S) (bytes : List ℕ) (f : F) → 0 < length bytes → step s bytes ≡ Err f → until_end step s bytes ≡ Err f
unfolding steps
until_end_fault step s [] f h e = absurd (omega arith)
until_end_fault step s (b ∷ bs) f h e = rw e refl

-- ---- records one after another

at_record_ok : {A : Type 0} (n : ℕ) (r : Result A Rule) (x : A) → at_record n r ≡ Ok x → r ≡ Ok x
at_record_ok n (Ok y) x e = let same : y ≡ x = cc in ap (λ (z : _). Ok z) same
at_record_ok n (Err f) x e = absurd cc

next_is : (before : List Record) (octets after : List ℕ) (r : Record) → record_at octets ≡ Ok (r, after) → next_record before octets ≡ Ok (before ++ r ∷ [], after)
unfolding next_record
next_is before octets after r e = rw e refl

next_fault : (before : List Record) (octets : List ℕ) (rule : Rule) → record_at octets ≡ Err rule → next_record before octets ≡ Err (record { number = length before; rule = rule })
unfolding next_record
next_fault before octets rule e = rw e refl

pub records_shorten : Shortens next_record
unfolding next_record
records_shorten = record {
  by = λ before next octets after e.
      let a = bind_ok (at_record (length before) (record_at octets)) (λ x. Ok (before ++ x.0 ∷ [], x.1)) (next, after) e in
      let same = ok_is _ (before ++ a.0.0 ∷ [], a.0.1) (next, after) refl a.2 in
      let shorter = record_more octets [] a.0.0 a.0.1 (at_record_ok (length before) (record_at octets) a.0 a.1) in
      omega (arith, shorter.1, ap (λ (q : List Record × List ℕ). length q.1) same);
}

pub starts_so : StartsSo
unfolding records_in
starts_so = record { whatever = λ more. refl }

pub feeds_on : FeedsOn
feeds_on fed piece left taken t = record { whatever = λ more. ap records_in (append_assoc fed piece more) ∙ (t.whatever (piece ++ more) ∙ ap (until_end next_record taken) (sym (append_assoc left piece more))) }

pub takes_on : TakesOn
takes_on fed left after taken r t e = record {
  whatever = λ more.
      let long = record_more left more r after e in
      t.whatever more ∙ until_end_next next_record records_shorten taken (taken ++ r ∷ []) (left ++ more) (after ++ more) (next_is taken (left ++ more) (after ++ more) r long.0);
}

pub stays_broken : StaysBroken
stays_broken fed piece fault b = record { whatever = λ more. ap records_in (append_assoc fed piece more) ∙ b.whatever (piece ++ more) }

pub ends_cut : EndsCut
ends_cut fed left taken rule t some e =
    ap records_in (sym (append-nil fed)) ∙ (t.whatever [] ∙ (ap (until_end next_record taken) (append-nil left) ∙ until_end_fault next_record taken left (record { number = length taken; rule = rule }) some (next_fault taken left rule e)))

pub ends_so : EndsSo
unfolding steps
ends_so fed taken t = ap records_in (sym (append-nil fed)) ∙ t.whatever []

abbrev kept : List Record → Result (List Record) Fault
kept xs = Ok xs

kept_is : (xs ys : List Record) → kept xs ≡ Ok ys → ys ≡ xs
kept_is xs ys e = cc

-- the records so far are the first of all
steps_front : (n : ℕ) (taken all : List Record) (octets : List ℕ) → steps next_record n taken octets ≡ Ok all → (others : List Record) × (all ≡ taken ++ others)
unfolding steps next_record
steps_front n taken all [] e = ([], kept_is taken all e ∙ sym (append-nil taken))
steps_front zero taken all (o ∷ os) e = ([], kept_is taken all e ∙ sym (append-nil taken))
steps_front (suc n) taken all (o ∷ os) e =
    let a = bind_ok (at_record (length taken) (record_at (o ∷ os)) >>= λ x. Ok (taken ++ x.0 ∷ [], x.1)) (λ x. steps next_record n x.0 x.1) all e in
    let b = bind_ok (at_record (length taken) (record_at (o ∷ os))) (λ x. Ok (taken ++ x.0 ∷ [], x.1)) a.0 a.1 in
    let r = b.0.0 in
    let same : a.0.0 ≡ taken ++ r ∷ [] = ap (λ (x : List Record × List ℕ). x.0) (sym (ok_is _ (taken ++ r ∷ [], b.0.1) a.0 refl b.2)) in
    let rest = steps_front n a.0.0 all a.0.1 a.2 in
    (r ∷ rest.0, rest.1 ∙ (ap (λ xs. xs ++ rest.0) same ∙ append_assoc taken (r ∷ []) rest.0))

pub keeps_front : KeepsFront
keeps_front fed left taken all t e = steps_front (length (left ++ [])) taken all (left ++ []) (sym (t.whatever []) ∙ (ap records_in (append-nil fed) ∙ e))

-- ---- a fault of the header stays

abbrev done : {A : Type 0} (F : Type 0) → A → Result A F
done F x = Ok x

abbrev made : ℕ → ℕ → List ℕ × List ℕ → Result (Record × List ℕ) Rule
made kind sub body = Ok (record { kind = kind; subtype = sub; body = body.0 }, body.1)

bind_err : {A B F : Type 0} (r : Result A F) (f : A → Result B F) (d : F) → (r >>= f) ≡ Err d → (r ≡ Err d) ⊎ ((x : A) × (r ≡ Ok x) × (f x ≡ Err d))
bind_err (Ok x) f d e = inr (x, refl, e)
bind_err (Err c) f d e = inl (let same : c ≡ d = cc in ap (λ (z : _). Err z) same)

guard_err : {A F : Type 0} (b : Bool) (d e : F) (x : A) → cond b (Err d) (Ok x) ≡ Err e → d ≡ e
guard_err true d e x h = cc
guard_err false d e x h = absurd cc

header_other : HeaderCut ≡ TooLong → ⊥
header_other h = cc

body_other : BodyCut ≡ TooLong → ⊥
body_other h = cc

-- a reader that refuses a Length over the limit, whatever follows
record Third {A : Type 0} (read : List ℕ → Result (A × List ℕ) Rule) : Type 0 where
  stays : (bytes more : List ℕ) → read bytes ≡ Err TooLong → read (bytes ++ more) ≡ Err TooLong

third_then : {A B : Type 0} (read : List ℕ → Result (A × List ℕ) Rule) (next : A → List ℕ → Result (B × List ℕ) Rule) → ((bytes : List ℕ) → read bytes ≡ Err TooLong → ⊥) → Steady read → ((a : A) → Third (next a)) → Third (λ bytes. read bytes >>= λ x. next x.0 x.1)
third_then read next other p q = record {
  stays = λ bytes more e.
      elim (bind_err (read bytes) (λ x. next x.0 x.1) TooLong e) [
        | inl h ↦ absurd (other bytes h)
        | inr h ↦ rw (p.more bytes more h.0.0 h.0.1 h.1) ((q h.0.0).stays h.0.1 more h.2)
      ];
}

third_none : {A : Type 0} (read : List ℕ → Result (A × List ℕ) Rule) → ((bytes : List ℕ) → read bytes ≡ Err TooLong → ⊥) → Third read
third_none read other = record { stays = λ bytes more e. absurd (other bytes e) }

octets_other : (rule : Rule) (n : ℕ) → (rule ≡ TooLong → ⊥) → (bytes : List ℕ) → octets_at rule n bytes ≡ Err TooLong → ⊥
octets_other rule n other bytes e = other (guard_err (ltb (length bytes) n) rule TooLong (take n bytes, drop n bytes) e)

number_other : (rule : Rule) (n : ℕ) → (rule ≡ TooLong → ⊥) → (bytes : List ℕ) → number_at rule n bytes ≡ Err TooLong → ⊥
number_other rule n other bytes e = other (guard_err (ltb (length bytes) n) rule TooLong (number (take n bytes), drop n bytes) e)

not_err : {A F : Type 0} (x : A) (e : F) → done F x ≡ Err e → ⊥
not_err x e h = cc

over_third : (kind sub len : ℕ) (b : Bool) → Third (λ bytes. refuse TooLong b >>= λ allowed. octets_at BodyCut len bytes >>= λ body. made kind sub body)
over_third kind sub len true = record { stays = λ bytes more e. refl }
over_third kind sub len false = third_none (λ bytes. octets_at BodyCut len bytes >>= λ body. made kind sub body) (λ bytes e.
    elim (bind_err (octets_at BodyCut len bytes) (λ body. made kind sub body) TooLong e) [ inl h ↦ octets_other BodyCut len body_other bytes h | inr h ↦ absurd (not_err _ TooLong h.2) ])

header_third : Third header_at
header_third =
    third_then (number_at HeaderCut 2) (λ kind bytes. number_at HeaderCut 2 bytes >>= λ sub. number_at HeaderCut 4 sub.1 >>= λ len. body_at kind sub.0 len.0 len.1) (number_other HeaderCut 2 header_other) (number_steady HeaderCut 2) (λ kind.
    third_then (number_at HeaderCut 2) (λ sub bytes. number_at HeaderCut 4 bytes >>= λ len. body_at kind sub len.0 len.1) (number_other HeaderCut 2 header_other) (number_steady HeaderCut 2) (λ sub.
    third_then (number_at HeaderCut 4) (λ len bytes. body_at kind sub len bytes) (number_other HeaderCut 4 header_other) (number_steady HeaderCut 4) (λ len. over_third kind sub len (ltb most_length len))))

pub record_over : (bytes more : List ℕ) → record_at bytes ≡ Err TooLong → (record_at (bytes ++ more) ≡ Err TooLong) × (12 ≤ length bytes)
unfolding record_at
record_over bytes more e =
    elim (bind_err (refuse HeaderCut (ltb (length bytes) 12)) (λ x. octets_at HeaderCut 4 bytes >>= λ time. header_at time.1) TooLong e) [
      | inl h ↦ absurd (header_other (guard_err (ltb (length bytes) 12) HeaderCut TooLong true h))
      | inr a ↦
          let long : ltb (length bytes) 12 ≡ false = not_refused HeaderCut (ltb (length bytes) 12) a.0 a.1 in
          let le : 12 ≤ length bytes = ltb-false _ _ long in
          let longer : ltb (length (bytes ++ more)) 12 ≡ false = le-ltb _ _ (omega (arith, length-append bytes more)) in
          let rest = third_then (octets_at HeaderCut 4) (λ time bytes. header_at bytes) (octets_other HeaderCut 4 header_other) (octets_steady HeaderCut 4) (λ time. header_third) in
          (rw longer (rest.stays bytes more a.2), le)
    ]

pub stays_too_long : StaysTooLong
stays_too_long fed left taken t over = record {
  whatever = λ more.
      let long = record_over left more over in
      t.whatever more ∙ until_end_fault next_record taken (left ++ more) (record { number = length taken; rule = TooLong }) (omega (arith, long.1, length-append left more)) (next_fault taken (left ++ more) TooLong long.0);
}
