-- Runs are put at the end, region by region.
use Rattle.std.proofs.Common.{◌≡◌, ◌≢◌, ℕ, zero, suc, ◌+◌, ◌-◌, ◌*◌, ◌%◌, ◌^◌, ◌<◌, ◌≤◌, inl, inr, List, [], ◌∷◌, ◌++◌, Bool, true, false, cond, Option, Some, None, length, fold, take, get_or, nat_eq, refl, sym, ap, ◌∙◌, arith, subst}
use Rattle.std.specs.Prelude.{nat_le}
use Rattle.std.specs.Option.{unwrap_or}
use Rattle.std.specs.Int.{bit_at}
use Rattle.std.specs.List.{AllByRecursion}
use Rattle.std.proofs.lemmas.Bool.{eqb-true, cases_lt, cond-true, cond-false, eq-eqb, le-leb, lt-leb}
use Rattle.std.proofs.lemmas.Nat.{pow-add, pow_pos, shr_high}
use Rattle.table_model.specs.Bits.{bits_of}
use Rattle.table_model.specs.Width.{width}
use Rattle.table_model.specs.declared.family.Family.{Family}
use Rattle.table_model.proofs.BitLaws.{bits_low}
use Rattle.table_model.specs.Table.{Table, lpm, root, root_of, half, inherit}
use Rattle.table_model.specs.Entries.{Entries, of_family}
use Rattle.table_model.proofs.Cut.{lpm_cut, lpm_nil}
use Rattle.table_model.proofs.Join.{all_append, all_weaker}
use Rattle.cert_check.specs.declared.runs.Run.{Run}
use Rattle.cert_check.specs.declared.runs.Part.{Part}
use Rattle.cert_check.specs.Runs.{parts_table, run_hop_at, last_hop, AreRuns, Below, Noted, Swept, RunsTell}

-- ---- a run at the end

abbrev pub run : ℕ → ℕ → Run
run start hop = record { start = start; hop = hop }

-- what a number gets from runs, where before them it gets h
abbrev pub from_run : List Run → ℕ → ℕ → ℕ
from_run runs n h = fold (λ g r. cond (nat_le r.start n) r.hop g) h runs

abbrev last_from : List Run → ℕ → ℕ
last_from runs h = fold (λ g r. r.hop) h runs

pub from_append : (xs ys : List Run) (n h : ℕ) → from_run (xs ++ ys) n h ≡ from_run ys n (from_run xs n h)
from_append [] ys n h = refl
from_append (r ∷ xs) ys n h = from_append xs ys n (cond (nat_le r.start n) r.hop h)

-- past all starts the last run's hop counts
pub past_all : (runs : List Run) (m n h : ℕ) → Below m runs → m ≤ n → from_run runs n h ≡ last_from runs h
past_all [] m n h b le = refl
past_all (r ∷ runs) m n h b le = ap (from_run runs n) (cond-true _ _ _ (le-leb r.start n (omega (arith, b.0)))) ∙ past_all runs m n r.hop b.1 le

-- before all starts none does
pub before_all : (runs : List Run) (n h : ℕ) → AllByRecursion (λ (r : Run). n < r.start) runs → from_run runs n h ≡ h
before_all [] n h a = refl
before_all (r ∷ runs) n h a = ap (from_run runs n) (cond-false _ _ _ (lt-leb r.start n a.0)) ∙ before_all runs n h a.1

runs_push : (h start hop : ℕ) (runs : List Run) → AreRuns h runs → Below start runs → last_from runs h ≢ hop → AreRuns h (runs ++ run start hop ∷ [])
runs_push h start hop [] a b n = (n, tt, tt)
runs_push h start hop (r ∷ runs) a b n = (a.0, all_append (λ (s : Run). r.start < s.start) runs (run start hop ∷ []) a.1 (b.0, tt), runs_push r.hop start hop runs a.2 b.1 n)

below_more : (m n : ℕ) (runs : List Run) → m ≤ n → Below m runs → Below n runs
below_more m n runs le b = all_weaker (λ (r : Run). r.start < n) (λ (r : Run). r.start < m) (λ r k. omega arith) runs b

-- a region whose addresses all get one hop
pub swept_one : (d : ℕ) (L : Table) (h start hop : ℕ) (old new : List Run) → ((x : ℕ) → lpm L (bits_of d x) h ≡ hop) → Noted start hop old new → Swept d L h start old new
swept_one d L h start hop old new same noted below runs = by_test (nat_eq (last_hop old) hop) refl noted
  where
    some : 0 < 2 ^ d
    some = pow_pos d

    by_test : (b : Bool) → nat_eq (last_hop old) hop ≡ b → new ≡ cond b old (old ++ run start hop ∷ [])
        → Below (start + 2 ^ d) new × AreRuns 0 new × ((n : ℕ) → n < start → run_hop_at new n ≡ run_hop_at old n) × ((x : ℕ) → x < 2 ^ d → run_hop_at new (start + x) ≡ lpm L (bits_of d x) h)
    by_test true t e = (
      subst (Below (start + 2 ^ d)) (sym e) (below_more start (start + 2 ^ d) old (omega arith) below),
      subst (AreRuns 0) (sym e) runs,
      λ n lt. ap (λ rs. run_hop_at rs n) e,
      λ x lt. ap (λ rs. run_hop_at rs (start + x)) e ∙ (past_all old start (start + x) 0 below (omega arith) ∙ (eqb-true (last_hop old) hop t ∙ sym (same x))),
    )
    by_test false t e =
        let other : last_hop old ≢ hop = λ s. let y : nat_eq (last_hop old) hop ≡ true = ap (nat_eq (last_hop old)) (sym s) ∙ same_number (last_hop old) in cc in (
          subst (Below (start + 2 ^ d)) (sym e) (all_append (λ (r : Run). r.start < start + 2 ^ d) old (run start hop ∷ []) (below_more start (start + 2 ^ d) old (omega arith) below) (omega (arith, some), tt)),
          subst (AreRuns 0) (sym e) (runs_push 0 start hop old runs below other),
          λ n lt. ap (λ rs. run_hop_at rs n) e ∙ (from_append old (run start hop ∷ []) n 0 ∙ cond-false _ _ _ (lt-leb start n lt)),
          λ x lt. ap (λ rs. run_hop_at rs (start + x)) e ∙ (from_append old (run start hop ∷ []) (start + x) 0 ∙ (cond-true _ _ _ (le-leb start (start + x) (omega arith)) ∙ sym (same x))),
        )
      where
        same_number : (m : ℕ) → nat_eq m m ≡ true
        same_number m = eq-eqb m m refl

pub swept_none : (d h start : ℕ) (old new : List Run) → Noted start h old new → Swept d [] h start old new
swept_none d h start old new noted = swept_one d [] h start h old new (λ x. refl) noted

-- ---- both halves

pub double : (d : ℕ) → 2 ^ (d + 1) ≡ 2 ^ d + 2 ^ d
double d = pow-add 2 d 1 ∙ omega arith

bits_first : (d x : ℕ) → x < 2 ^ d → bits_of (d + 1) x ≡ false ∷ bits_of d x
unfolding bits_of
bits_first d x h =
    let e : d + 1 ≡ suc d = omega arith in
    let z : x ≡ 0 * 2 ^ d + x = omega arith in
    let q : bit_at x d ≡ 0 = ap (λ (y : ℕ). bit_at y d) z ∙ ap (λ (y : ℕ). y % 2) (shr_high 0 d x h) in
    ap (λ j. bits_of j x) e ∙ ap (λ (y : ℕ). nat_eq y 1 ∷ bits_of d x) q

bits_second : (d x : ℕ) → x < 2 ^ d → bits_of (d + 1) (2 ^ d + x) ≡ true ∷ bits_of d x
unfolding bits_of
bits_second d x h =
    let e : d + 1 ≡ suc d = omega arith in
    let one : 2 ^ d + x ≡ 1 * 2 ^ d + x = omega arith in
    let q : bit_at (1 * 2 ^ d + x) d ≡ 1 = ap (λ (y : ℕ). y % 2) (shr_high 1 d x h) in
    ap (λ j. bits_of j (2 ^ d + x)) e
    ∙ (ap (λ (y : ℕ). bits_of (suc d) y) one ∙ (ap (λ (y : ℕ). nat_eq y 1 ∷ bits_of d (1 * 2 ^ d + x)) q ∙ ap (λ ys. true ∷ ys) (bits_low d 1 x h)))

pub swept_both : (d start : ℕ) (L : Table) (h : ℕ) (old mid new : List Run) → Swept d (half false L) (inherit (root L) h) start old mid → Swept d (half true L) (inherit (root L) h) (start + 2 ^ d) mid new
    → Swept (d + 1) L h start old new
swept_both d start L h old mid new low high below runs =
    let a = low below runs in
    let b = high a.0 a.1 in
    let size : start + 2 ^ d + 2 ^ d ≡ start + 2 ^ (d + 1) = omega (arith, double d) in
    (subst (λ (m : ℕ). Below m new) size b.0, b.1, (λ n lt. b.2 n (omega arith) ∙ a.2 n lt), by_half a b)
  where
    by_half : (Below (start + 2 ^ d) mid × AreRuns 0 mid × ((n : ℕ) → n < start → run_hop_at mid n ≡ run_hop_at old n) × ((x : ℕ) → x < 2 ^ d → run_hop_at mid (start + x) ≡ lpm (half false L) (bits_of d x) (inherit (root L) h)))
        → (Below (start + 2 ^ d + 2 ^ d) new × AreRuns 0 new × ((n : ℕ) → n < start + 2 ^ d → run_hop_at new n ≡ run_hop_at mid n) × ((x : ℕ) → x < 2 ^ d → run_hop_at new (start + 2 ^ d + x) ≡ lpm (half true L) (bits_of d x) (inherit (root L) h)))
        → (x : ℕ) → x < 2 ^ (d + 1) → run_hop_at new (start + x) ≡ lpm L (bits_of (d + 1) x) h
    by_half a b x lt = elim (cases_lt x (2 ^ d)) [
      | inl t ↦ b.2 (start + x) (omega arith) ∙ (a.3 x t ∙ (sym (lpm_cut L false (bits_of d x) h) ∙ ap (λ p. lpm L p h) (sym (bits_first d x t))))
      | inr t ↦
          let y = x - 2 ^ d in
          let s : y < 2 ^ d = omega (arith, double d) in
          let e : 2 ^ d + y ≡ x = omega arith in
          let f : start + x ≡ start + 2 ^ d + y = omega arith in
          ap (run_hop_at new) f ∙ (b.3 y s ∙ (sym (lpm_cut L true (bits_of d y) h) ∙ (ap (λ p. lpm L p h) (sym (bits_second d y s)) ∙ ap (λ (z : ℕ). lpm L (bits_of (d + 1) z) h) e)))
    ]

-- ---- as the sweep goes

pub swept_empty : (d h start : ℕ) (parts : List Part) (old new : List Run) → length parts ≡ 0 → Noted start h old new → Swept d (parts_table d parts) h start old new
swept_empty d h start [] old new e noted = swept_none d h start old new noted
swept_empty d h start (p ∷ parts) old new e noted = absurd (omega arith)

at_address : (hop h : ℕ) (parts : List Part) → root (parts_table 0 parts) ≡ Some hop → (x : ℕ) → lpm (parts_table 0 parts) (bits_of 0 x) h ≡ hop
unfolding bits_of
at_address hop h parts r x = lpm_nil (parts_table 0 parts) h ∙ ap (λ o. inherit o h) r

pub first_hop : (parts : List Part) (part z : Part) → 0 < length parts → part ≡ get_or parts 0 z → root (parts_table 0 parts) ≡ Some part.hop
unfolding bits_of
first_hop [] part z h e = absurd (omega arith)
first_hop (p ∷ parts) part z h e = by_len p.len ∙ ap (λ (q : Part). Some q.hop) (sym e)
  where
    by_len : (n : ℕ) → root_of (take n []) p.hop (root (parts_table 0 parts)) ≡ Some p.hop
    by_len zero = refl
    by_len (suc n) = refl

pub given_is : (o : Option ℕ) (h : ℕ) → unwrap_or o h ≡ inherit o h
given_is None h = refl
given_is (Some g) h = refl

pub swept_address : (d h start hop : ℕ) (parts : List Part) (old new : List Run) → d ≡ 0 → root (parts_table 0 parts) ≡ Some hop → Noted start hop old new → Swept d (parts_table d parts) h start old new
swept_address d h start hop parts old new e r noted =
    subst (λ (j : ℕ). Swept j (parts_table j parts) h start old new) (sym e) (swept_one 0 (parts_table 0 parts) h start hop old new (at_address hop h parts r) noted)

pub swept_region : (d at start next h hop : ℕ) (parts low high : List Part) (own : Option ℕ) (old mid new : List Run) → d ≢ 0 → at ≡ d - 1 → next ≡ start + 2 ^ at
    → own ≡ root (parts_table (at + 1) parts) → parts_table at low ≡ half false (parts_table (at + 1) parts) → parts_table at high ≡ half true (parts_table (at + 1) parts) → hop ≡ inherit own h
    → Swept at (parts_table at low) hop start old mid → Swept at (parts_table at high) hop next mid new → Swept d (parts_table d parts) h start old new
swept_region d at start next h hop parts low high own old mid new some is step o l u i first second =
    let e : at + 1 ≡ d = omega (arith, some) in
    let g : hop ≡ inherit (root (parts_table (at + 1) parts)) h = i ∙ ap (λ x. inherit x h) o in
    let a : Swept at (half false (parts_table (at + 1) parts)) (inherit (root (parts_table (at + 1) parts)) h) start old mid =
    subst (λ (T : Table). Swept at T (inherit (root (parts_table (at + 1) parts)) h) start old mid) l (subst (λ (k : ℕ). Swept at (parts_table at low) k start old mid) g first) in
    let b : Swept at (half true (parts_table (at + 1) parts)) (inherit (root (parts_table (at + 1) parts)) h) (start + 2 ^ at) mid new =
    subst (λ (T : Table). Swept at T (inherit (root (parts_table (at + 1) parts)) h) (start + 2 ^ at) mid new) u
    (subst (λ (k : ℕ). Swept at (parts_table at high) k (start + 2 ^ at) mid new) g (subst (λ (k : ℕ). Swept at (parts_table at high) hop k mid new) step second)) in
    subst (λ (j : ℕ). Swept j (parts_table j parts) h start old new) e (swept_both at start (parts_table (at + 1) parts) h old mid new a b)

pub tells : (f : Family) (L : Entries) (parts : List Part) (runs : List Run) → parts_table (width f) parts ≡ of_family f L → Swept (width f) (parts_table (width f) parts) 0 0 [] runs → RunsTell f L runs
tells f L parts runs e s =
    let r = s tt tt in
    let all : 0 + 2 ^ width f ≡ 2 ^ width f = omega arith in
    (subst (λ (m : ℕ). Below m runs) all r.0, r.1, (λ n lt. let g : n ≡ 0 + n = omega arith in ap (run_hop_at runs) g ∙ (r.3 n lt ∙ ap (λ T. lpm T (bits_of (width f) n) 0) e)))
