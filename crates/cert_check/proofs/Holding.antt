-- Whether all addresses of a prefix get one hop, by the runs.
use Rattle.std.proofs.Common.{◌≡◌, ◌≢◌, ℕ, zero, suc, ◌+◌, ◌-◌, ◌*◌, ◌/◌, ◌%◌, ◌^◌, ◌<◌, ◌≤◌, inl, inr, List, [], ◌∷◌, ◌++◌, Bool, true, false, not, length, take, drop, fold, replicate, get_or, nat_eq, refl, sym, ap, ◌∙◌, arith, subst, ◌↔◌, mod-eq_of_lt, length-append}
use Rattle.std.specs.Prelude.{nat_le}
use Rattle.std.specs.List.{AllByRecursion, AllWithin}
use Rattle.std.specs.List.Sorted.{IsNonDecreasingBy, IsPartitionPoint}
use Rattle.std.proofs.lemmas.Bool.{cases_lt, eqb-false, ne_eqb, not-true, both_ways, cond-true, leb-true, leb-false, le-leb}
use Rattle.std.proofs.lemmas.List.{length-replicate, take-append-drop}
use Rattle.std.proofs.Common.{drop-cons}
use Rattle.std.proofs.lemmas.Nat.{shr_high, shr_below, mul-add-lt, pow-add, pow_pos}
use Rattle.std.proofs.Math.Nat.{le-div_iff_mul-le}
use Rattle.table_model.specs.Bits.{bits_of, value_of}
use Rattle.table_model.specs.Width.{width}
use Rattle.table_model.specs.Address.{IsPrefix}
use Rattle.table_model.proofs.BitLaws.{bits_take, bits_split, bits_low, length-bits_of, value-bits_of}
use Rattle.table_model.specs.Table.{lpm}
use Rattle.table_model.specs.Entries.{Entries, of_family}
use Rattle.table_model.specs.Sets.{answers}
use Rattle.cert_model.specs.Verdict.{all_get}
use Rattle.cert_model.proofs.Regions.{get_bits, get_all}
use Rattle.cert_model.proofs.Reading.{all_get_is, all_get_from}
use Rattle.fib_addr.specs.declared.prefix.Prefix.{Prefix}
use Rattle.fib_addr.specs.Views.{prefix_as}
use Rattle.fib_addr.proofs.Parts.{length_prefix}
use Rattle.cert_check.specs.declared.runs.Run.{Run}
use Rattle.cert_check.specs.Runs.{run_hop_at, last_hop, AreRuns, CountsBegun, RunsTell}
use Rattle.cert_check.proofs.Sweeps.{from_run, from_append, before_all}
use Rattle.cert_check.proofs.Aparts.{split_at, take_one_more, other_hop, at_start, later_starts, all_after, number_bits, number_lt}

-- ---- where a number stands among the runs

all_at : (P : Run → Type 0) (runs : List Run) (j : ℕ) (d : Run) → j < length runs → AllByRecursion P runs → P (get_or runs j d)
all_at P [] j d lt a = absurd (omega arith)
all_at P (r ∷ runs) zero d lt a = a.0
all_at P (r ∷ runs) (suc j) d lt a = all_at P runs j d (omega arith) a.1

pub rising : (h : ℕ) (runs : List Run) → AreRuns h runs → IsNonDecreasingBy (λ (r : Run). r.start) runs
rising h [] a i j d le lt = absurd (omega arith)
rising h (r ∷ runs) a zero zero d le lt = omega arith
rising h (r ∷ runs) a zero (suc j) d le lt = let x : r.start < (get_or runs j d).start = all_at (λ (s : Run). r.start < s.start) runs j d (omega arith) a.1 in omega arith
rising h (r ∷ runs) a (suc i) zero d le lt = absurd (omega arith)
rising h (r ∷ runs) a (suc i) (suc j) d le lt = rising r.hop runs a.2 i j d (omega arith) (omega arith)

taken : (P : Run → Type 0) (runs : List Run) (i : ℕ) → i ≤ length runs → AllWithin P runs 0 i → AllByRecursion P (take i runs)
taken P runs zero le w = tt
taken P [] (suc i) le w = absurd (omega arith)
taken P (r ∷ runs) (suc i) le w = (w 0 r (omega arith) (omega arith), taken P runs i (omega arith) (λ k d lo hi. w (suc k) d (omega arith) (omega arith)))

dropped : (P : Run → Type 0) (runs : List Run) (i : ℕ) → AllWithin P runs i (length runs) → AllByRecursion P (drop i runs)
dropped P [] zero w = tt
dropped P [] (suc i) w = tt
dropped P (r ∷ runs) zero w = (w 0 r (omega arith) (omega arith), dropped P runs zero (λ k d lo hi. w (suc k) d (omega arith) (omega arith)))
dropped P (r ∷ runs) (suc i) w = dropped P runs i (λ k d lo hi. w (suc k) d (omega arith) (omega arith))

all_by : (P Q : Run → Type 0) → ((r : Run) → P r → Q r) → (runs : List Run) → AllByRecursion P runs → AllByRecursion Q runs
all_by P Q f [] a = tt
all_by P Q f (r ∷ runs) a = (f r a.0, all_by P Q f runs a.1)

in_list : (runs : List Run) (j : ℕ) (y z : Run) → j < length runs → get_or runs j y ≡ get_or runs j z
in_list [] j y z lt = absurd (omega arith)
in_list (r ∷ runs) zero y z lt = refl
in_list (r ∷ runs) (suc j) y z lt = in_list runs j y z (omega arith)

pub begun_at : (n : ℕ) (runs : List Run) (i : ℕ) → i ≤ length runs → IsPartitionPoint (λ (r : Run). nat_le r.start n ≡ true) (λ (r : Run). nat_le r.start n ≡ false) runs i → CountsBegun n runs i
begun_at n runs i le w = (
  all_by (λ (r : Run). nat_le r.start n ≡ true) (λ (r : Run). r.start ≤ n) (λ r e. leb-true r.start n e) (take i runs) (taken (λ (r : Run). nat_le r.start n ≡ true) runs i le w.0),
  all_by (λ (r : Run). nat_le r.start n ≡ false) (λ (r : Run). n < r.start) (λ r e. leb-false r.start n e) (drop i runs) (dropped (λ (r : Run). nat_le r.start n ≡ false) runs i w.1),
)

-- the first so many runs begin at the last one's start or before it
pub begun_by : (runs : List Run) (i : ℕ) (last d : Run) → 0 < i → i ≤ length runs → last ≡ get_or runs (i - 1) d → AreRuns 0 runs → AllByRecursion (λ (r : Run). r.start ≤ last.start) (take i runs)
begun_by runs i last d some le is a =
    taken (λ (r : Run). r.start ≤ last.start) runs i le
    (λ k z lo hi. let up : (get_or runs k z).start ≤ (get_or runs (i - 1) z).start = rising 0 runs a k (i - 1) z (omega arith) (omega arith) in
    let same : get_or runs (i - 1) z ≡ get_or runs (i - 1) d = in_list runs (i - 1) z d (omega arith) in
    omega (arith, up, ap (λ (r : Run). r.start) same, ap (λ (r : Run). r.start) is))

-- the others begin where the next one does, or after it
pub after_from : (n : ℕ) (runs : List Run) (i : ℕ) (next d : Run) → i < length runs → next ≡ get_or runs i d → n < next.start → AreRuns 0 runs → AllByRecursion (λ (r : Run). n < r.start) (drop i runs)
after_from n runs i next d lt is more a =
    dropped (λ (r : Run). n < r.start) runs i
    (λ k z lo hi. let up : (get_or runs i z).start ≤ (get_or runs k z).start = rising 0 runs a i k z (omega arith) (omega arith) in
    let same : get_or runs i z ≡ get_or runs i d = in_list runs i z d lt in
    omega (arith, up, more, ap (λ (r : Run). r.start) same, ap (λ (r : Run). r.start) is))

-- no run is left
pub none_after : (n : ℕ) (runs : List Run) (i : ℕ) → i ≡ length runs → AllByRecursion (λ (r : Run). n < r.start) (drop i runs)
none_after n runs i e = dropped (λ (r : Run). n < r.start) runs i (λ k z lo hi. absurd (omega arith))

-- what begins at a number or before it begins at a greater one or before it
pub begun_more : (m n : ℕ) (runs : List Run) → m ≤ n → AllByRecursion (λ (r : Run). r.start ≤ m) runs → AllByRecursion (λ (r : Run). r.start ≤ n) runs
begun_more m n runs le a = all_by (λ (r : Run). r.start ≤ m) (λ (r : Run). r.start ≤ n) (λ r k. omega arith) runs a

-- ---- past the last address

multiple : (y n : ℕ) → 0 < n → y % n ≡ 0 → y ≡ y / n * n
multiple y n some e = omega arith

one_more_times : (q m : ℕ) → (q + 1) * m ≡ q * m + m
one_more_times q m = grind arith

pub past_is : (x b u : ℕ) → b < x → b % 2 ^ u ≡ 0 → (not (nat_eq (x / 2 ^ u) (b / 2 ^ u)) ≡ true) ↔ (b + 2 ^ u ≤ x)
past_is x b u lt z = by_number (2 ^ u) (pow_pos u) (b / 2 ^ u) (x / 2 ^ u) refl refl z
  where
    by_number : (m : ℕ) → 0 < m → (q p : ℕ) → b / m ≡ q → x / m ≡ p → b % m ≡ 0 → (not (nat_eq p q) ≡ true) ↔ (b + m ≤ x)
    by_number m some q p eq ep zero_left =
        let is : b ≡ q * m = multiple b m some zero_left ∙ ap (λ (y : ℕ). y * m) eq in
        let low : q ≤ x / m = (le-div_iff_mul-le some).1 (let n : q * m ≤ x = omega (arith, is) in n) in (
          (λ e. let ne : nat_eq p q ≡ false = not-true (nat_eq p q) e in
              let more : q + 1 ≤ x / m = omega (arith, low, ep, eqb-false p q ne) in
              omega (arith, (le-div_iff_mul-le some).0 more, one_more_times q m, is)),
          (λ le. let more : q + 1 ≤ x / m = (le-div_iff_mul-le some).1 (let n : (q + 1) * m ≤ x = omega (arith, one_more_times q m, is) in n) in
              ap not (ne_eqb p q (λ s. let l : q + 1 ≤ q = omega (arith, more, ep) in absurd (omega arith)))),
        )

-- ---- the answers of a region

-- all numbers of the region from b on get the hop
abbrev AllNumbers : List Run → ℕ → ℕ → ℕ → Type 0
AllNumbers runs b u h = (v : ℕ) → v < 2 ^ u → run_hop_at runs (b + v) ≡ h

pub new_marks : (n : ℕ) (marks : List ℕ) → marks ≡ replicate n 0 → (length marks ≡ n) × ((h : ℕ) → get_or marks h 0 < 1)
new_marks n marks e = (ap length e ∙ length-replicate n 0, λ h. subst (λ xs. get_or xs h 0 < 1) (sym e) (zero_at n h))
  where
    zero_at : (n h : ℕ) → get_or (replicate n 0) h 0 < 1
    zero_at zero zero = omega arith
    zero_at zero (suc h) = omega arith
    zero_at (suc n) zero = omega arith
    zero_at (suc n) (suc h) = zero_at n h

-- the answers of the prefix's addresses are those of the numbers from its own on
region_answers : (p : Prefix) (L : Entries) (runs : List Run) → RunsTell p.family L runs → (a : List Bool) → length a ≡ width p.family - p.len
    → answers (of_family p.family L) (prefix_as p).bits a ≡ run_hop_at runs (p.bits + value_of a)
region_answers p L runs t a l =
    let w = width p.family in
    let u = w - p.len in
    let q = p.bits / 2 ^ u in
    let v = value_of a in
    let fits : p.len ≤ w = p.fits in
    let lt : v < 2 ^ u = number_lt u a l in
    let is : p.bits ≡ q * 2 ^ u = multiple p.bits (2 ^ u) (pow_pos u) p.cleared in
    let whole : p.len + u ≡ w = omega (arith, fits) in
    let n : q * 2 ^ u + v ≡ p.bits + v = ap (λ (y : ℕ). y + v) (sym is) in
    let some : q < 2 ^ p.len = shr_below p.bits p.len u (subst (λ (j : ℕ). p.bits < 2 ^ j) (sym whole) p.below) in
    let power : 2 ^ u * 2 ^ p.len ≡ 2 ^ w = sym (pow-add 2 u p.len) ∙ ap (λ (j : ℕ). 2 ^ j) (let e : u + p.len ≡ w = omega (arith, whole) in e) in
    let below : p.bits + v < 2 ^ w = omega (arith, mul-add-lt q (2 ^ u) v (2 ^ p.len) some lt, power, n) in
    let bits : (prefix_as p).bits ++ a ≡ bits_of w (p.bits + v) =
    ap (λ xs. xs ++ a) (bits_take w p.len p.bits fits)
    ∙ (ap (λ xs. bits_of p.len q ++ xs) (sym (number_bits u a l) ∙ sym (bits_low u q v lt))
    ∙ (ap (λ (y : ℕ). bits_of p.len y ++ bits_of u (q * 2 ^ u + v)) (sym (shr_high q u v lt)) ∙ (sym (bits_split p.len u (q * 2 ^ u + v)) ∙ (ap (λ (j : ℕ). bits_of j (q * 2 ^ u + v)) whole ∙ ap (bits_of w) n))))
    in
    ap (λ xs. lpm (of_family p.family L) xs 0) bits ∙ sym (t.2 (p.bits + v) below)

pub prefix_short : (p : Prefix) → IsPrefix (prefix_as p)
prefix_short p = let e : length (prefix_as p).bits ≡ p.len = length_prefix (width p.family) p.len p.bits p.fits in let f : p.len ≤ width p.family = p.fits in omega (arith, e, f)

numbers_from : (p : Prefix) (L : Entries) (runs : List Run) (h : ℕ) → RunsTell p.family L runs → all_get L (prefix_as p) h ≡ true → AllNumbers runs p.bits (width p.family - p.len) h
numbers_from p L runs h t g v lt =
    let w = width p.family in
    let u = w - p.len in
    let a = bits_of u v in
    let l : length a ≡ u = length-bits_of u v in
    let value : value_of a ≡ v = value-bits_of u v ∙ mod-eq_of_lt lt in
    let fits : p.len ≤ w = p.fits in
    let s : length (prefix_as p).bits ≡ p.len = length_prefix w p.len p.bits p.fits in
    let long : length ((prefix_as p).bits ++ a) ≡ w = length-append (prefix_as p).bits a ∙ omega (arith, s, l, fits) in
    ap (λ (y : ℕ). run_hop_at runs (p.bits + y)) (sym value) ∙ (sym (region_answers p L runs t a l) ∙ get_bits L (prefix_as p) h (all_get_is L (prefix_as p) h (prefix_short p) g) a long)

numbers_to : (p : Prefix) (L : Entries) (runs : List Run) (h : ℕ) → RunsTell p.family L runs → AllNumbers runs p.bits (width p.family - p.len) h → all_get L (prefix_as p) h ≡ true
numbers_to p L runs h t g =
    all_get_from L (prefix_as p) h (prefix_short p) (get_all L (prefix_as p) h (λ a long.
    let s : length (prefix_as p).bits ≡ p.len = length_prefix (width p.family) p.len p.bits p.fits in
    let l : length a ≡ width p.family - p.len = omega (arith, s, length-append (prefix_as p).bits a, long) in
    region_answers p L runs t a l ∙ g (value_of a) (number_lt (width p.family - p.len) a l)))

-- ---- by the runs

past_le : (runs : List Run) (n h : ℕ) → AllByRecursion (λ (r : Run). r.start ≤ n) runs → from_run runs n h ≡ fold (λ g r. r.hop) h runs
past_le [] n h a = refl
past_le (r ∷ runs) n h a = ap (from_run runs n) (cond-true _ _ _ (le-leb r.start n a.0)) ∙ past_le runs n r.hop a.1

in_two : (runs : List Run) (i n : ℕ) → run_hop_at runs n ≡ from_run (drop i runs) n (from_run (take i runs) n 0)
in_two runs i n = ap (λ rs. run_hop_at rs n) (sym (take-append-drop i runs)) ∙ from_append (take i runs) (drop i runs) n 0

more_le : (m n : ℕ) (runs : List Run) → m ≤ n → AllByRecursion (λ (r : Run). r.start ≤ m) runs → AllByRecursion (λ (r : Run). r.start ≤ n) runs
more_le m n [] le a = tt
more_le m n (r ∷ runs) le a = (omega (arith, a.0), more_le m n runs le a.1)

-- before the next run begins, the last run's hop counts
until_next : (runs : List Run) (i b n : ℕ) → CountsBegun b runs i → b ≤ n → AllByRecursion (λ (r : Run). n < r.start) (drop i runs) → run_hop_at runs n ≡ last_hop (take i runs)
until_next runs i b n g le a =
    in_two runs i n ∙ (before_all (drop i runs) n (from_run (take i runs) n 0) a ∙ past_le (take i runs) n 0 (more_le b n (take i runs) le g.0))

all_of_empty : (n i : ℕ) (runs : List Run) → i ≡ length runs → AllByRecursion (λ (r : Run). n < r.start) (drop i runs)
all_of_empty n i runs e = subst (λ (j : ℕ). AllByRecursion (λ (r : Run). n < r.start) (drop j runs)) (sym e) (none runs)
  where
    none : (rs : List Run) → AllByRecursion (λ (r : Run). n < r.start) (drop (length rs) rs)
    none [] = tt
    none (r ∷ rs) = none rs

pub holds_to_end : (runs : List Run) (i b u h : ℕ) → CountsBegun b runs i → i ≡ length runs → last_hop (take i runs) ≡ h → AllNumbers runs b u h
holds_to_end runs i b u h g e l v lt = until_next runs i b (b + v) g (omega arith) (all_of_empty (b + v) i runs e) ∙ l

pub holds_to_next : (runs : List Run) (i b u h : ℕ) (x z : Run) → AreRuns 0 runs → CountsBegun b runs i → i < length runs → x ≡ get_or runs i z → b + 2 ^ u ≤ x.start → last_hop (take i runs) ≡ h → AllNumbers runs b u h
holds_to_next runs i b u h x z r g lt is past l v small =
    let whole : runs ≡ take i runs ++ x ∷ drop (suc i) runs = split_at runs i x z lt is in
    let rest : drop i runs ≡ x ∷ drop (suc i) runs = drop-cons runs i z lt ∙ ap (λ y. y ∷ drop (suc i) runs) (sym is) in
    let n : b + v < x.start = omega (arith, past, small) in
    let later = later_starts 0 (take i runs) (drop (suc i) runs) x (subst (AreRuns 0) whole r) in
    until_next runs i b (b + v) g (omega arith) (subst (AllByRecursion (λ (s : Run). b + v < s.start)) (sym rest) (n, all_after (b + v) x.start (drop (suc i) runs) n later)) ∙ l

pub first_hop_is : (runs : List Run) (i b u h : ℕ) → CountsBegun b runs i → AllNumbers runs b u h → last_hop (take i runs) ≡ h
first_hop_is runs i b u h g a =
    let z : b + 0 ≡ b = omega arith in
    sym (until_next runs i b b g (omega arith) g.1) ∙ (ap (run_hop_at runs) (sym z) ∙ a 0 (pow_pos u))

pub next_is_past : (runs : List Run) (i b u h : ℕ) (x z : Run) → AreRuns 0 runs → CountsBegun b runs i → i < length runs → x ≡ get_or runs i z → b < x.start → AllNumbers runs b u h → b + 2 ^ u ≤ x.start
next_is_past runs i b u h x z r g lt is after a = elim (cases_lt x.start (b + 2 ^ u)) [
  | inr le ↦ le
  | inl less ↦
      let whole : runs ≡ take i runs ++ x ∷ drop (suc i) runs = split_at runs i x z lt is in
      let cut : AreRuns 0 (take i runs ++ x ∷ drop (suc i) runs) = subst (AreRuns 0) whole r in
      let v = x.start - b in
      let e : b + v ≡ x.start = omega arith in
      let hop : run_hop_at runs x.start ≡ x.hop = ap (λ rs. run_hop_at rs x.start) whole ∙ at_start (take i runs) (drop (suc i) runs) x cut in
      let same : h ≡ x.hop = sym (a v (omega arith)) ∙ (ap (run_hop_at runs) e ∙ hop) in
      absurd (other_hop 0 (take i runs) (drop (suc i) runs) x cut (first_hop_is runs i b u h g a ∙ same))
]

next_begins : (runs : List Run) (i b : ℕ) (x z : Run) → CountsBegun b runs i → i < length runs → x ≡ get_or runs i z → b < x.start
next_begins runs i b x z g lt is =
    let rest : drop i runs ≡ x ∷ drop (suc i) runs = drop-cons runs i z lt ∙ ap (λ y. y ∷ drop (suc i) runs) (sym is) in
    (subst (AllByRecursion (λ (s : Run). b < s.start)) rest g.1).0

pub same_tests : (x y : Bool) → (x ≡ true → y ≡ true) → (y ≡ true → x ≡ true) → x ≡ y
same_tests true y f g = sym (f refl)
same_tests false true f g = g refl
same_tests false false f g = refl

-- ---- as it is tested

pub at_end : (p : Prefix) (L : Entries) (runs : List Run) (i h : ℕ) (r : Bool) → RunsTell p.family L runs → CountsBegun p.bits runs i → last_hop (take i runs) ≡ h → i ≡ length runs → r ≡ true → r ≡ all_get L (prefix_as p) h
at_end p L runs i h r t g l e yes' = yes' ∙ sym (numbers_to p L runs h t (holds_to_end runs i p.bits (width p.family - p.len) h g e l))

pub at_next : (p : Prefix) (L : Entries) (runs : List Run) (i h : ℕ) (x z : Run) (r : Bool) → RunsTell p.family L runs → CountsBegun p.bits runs i → last_hop (take i runs) ≡ h → i < length runs → x ≡ get_or runs i z
    → (p.bits < x.start → (r ≡ true) ↔ (p.bits + 2 ^ (width p.family - p.len) ≤ x.start)) → r ≡ all_get L (prefix_as p) h
at_next p L runs i h x z r t g l lt is past =
    let after : p.bits < x.start = next_begins runs i p.bits x z g lt is in
    same_tests r (all_get L (prefix_as p) h) (λ e. numbers_to p L runs h t (holds_to_next runs i p.bits (width p.family - p.len) h x z t.1 g lt is ((past after).0 e) l))
    (λ e. (past after).1 (next_is_past runs i p.bits (width p.family - p.len) h x z t.1 g lt is after (numbers_from p L runs h t e)))

pub at_other : (p : Prefix) (L : Entries) (runs : List Run) (i h : ℕ) (r : Bool) → RunsTell p.family L runs → CountsBegun p.bits runs i → (last_hop (take i runs) ≡ h → ⊥) → r ≡ false → r ≡ all_get L (prefix_as p) h
at_other p L runs i h r t g other f = same_tests r (all_get L (prefix_as p) h) (λ e. absurd (both_ways r f e)) (λ e. absurd (other (first_hop_is runs i p.bits (width p.family - p.len) h g (numbers_from p L runs h t e))))

pub last_hop_at : (runs : List Run) (i : ℕ) (x z : Run) → i ≢ 0 → i ≤ length runs → x ≡ get_or runs (i - 1) z → x.hop ≡ last_hop (take i runs)
last_hop_at runs i x z some le is =
    let e : i - 1 + 1 ≡ i = omega (arith, some) in
    sym (ap (λ (j : ℕ). last_hop (take j runs)) (sym e) ∙ (ap last_hop (take_one_more runs (i - 1) x z (omega (arith, some)) is) ∙ last_of (take (i - 1) runs) 0))
  where
    last_of : (c : List Run) (h : ℕ) → fold (λ (g : ℕ) (r : Run). r.hop) h (c ++ x ∷ []) ≡ x.hop
    last_of [] h = refl
    last_of (w ∷ c) h = last_of c w.hop
