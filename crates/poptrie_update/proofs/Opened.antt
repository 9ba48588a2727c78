-- Lists of open lookups, by number.
use Rattle.std.proofs.Common.{◌≡◌, ℕ, zero, suc, ◌+◌, ◌<◌, ◌≤◌, List, [], ◌∷◌, ◌++◌, Bool, cond, Option, Some, None, get_or, set, length, replicate, refl, sym, ap, ◌∙◌, arith, subst, inl, inr}
use Rattle.std.specs.List.{AllByRecursion}
use Rattle.std.proofs.lemmas.Bool.{cases_eq, eq-eqb, ne_eqb, cases_lt}
use Rattle.std.proofs.lemmas.List.{get_or-set_same, get_or-set_other, get_or_past}
use Rattle.fib_addr.specs.declared.addr.Addr.{Addr}
use Rattle.poptrie_build.specs.Strides.{strides}
use Rattle.poptrie_build.specs.Tries.{rest}
use Rattle.poptrie_set.specs.declared.trie_set.Oldest.{Oldest}
use Rattle.poptrie_set.specs.declared.trie_set.Oldest.TheVariants as oldest
use Rattle.poptrie_update.specs.Lives.{Living, HasShapeOf}
use Rattle.poptrie_update.specs.Fits.{Open, Reads, Fits, IsOldest}
use Rattle.poptrie_update.specs.Cursors.{OpenLookups, Due, Dues, lookup_of, with_due, open_at, open_of, opens_from, opens_of, IsBounded, IsGoing, FitsAll, KeepsReads, KeepsReadsSince, IsFirst}
use Rattle.poptrie_update.specs.declared.cursors.Lookup.{Lookup}
use Rattle.poptrie_update.specs.declared.cursors.Stage.{Stage}
use Rattle.poptrie_update.specs.declared.cursors.Stage.TheVariants as stage

-- ---- what holds of all of them
all_append : (P : Open → Type 0) (xs ys : List Open) → AllByRecursion P xs → AllByRecursion P ys → AllByRecursion P (xs ++ ys)
all_append P [] ys a b = b
all_append P (x ∷ xs) ys a b = (a.0, all_append P xs ys a.1 b)

all_left : (P : Open → Type 0) (xs ys : List Open) → AllByRecursion P (xs ++ ys) → AllByRecursion P xs
all_left P [] ys a = tt
all_left P (x ∷ xs) ys a = (a.0, all_left P xs ys a.1)

all_right : (P : Open → Type 0) (xs ys : List Open) → AllByRecursion P (xs ++ ys) → AllByRecursion P ys
all_right P [] ys a = a
all_right P (x ∷ xs) ys a = all_right P xs ys a.1

abbrev pub EachFrom : (Open → Type 0) → ℕ → ℕ → OpenLookups → Dues → Type 0
EachFrom P n s cs due = (m : ℕ) (k : Lookup) → lookup_of cs m ≡ Some k → AllByRecursion P (open_at s k.addr k.since k.stage (due (n + m)))

at_number : (P : Open → Type 0) (s : ℕ) (k : Lookup) (due : Dues) (i j : ℕ) → i ≡ j → AllByRecursion P (open_at s k.addr k.since k.stage (due i)) → AllByRecursion P (open_at s k.addr k.since k.stage (due j))
at_number P s k due i j e a = subst (λ (n : ℕ). AllByRecursion P (open_at s k.addr k.since k.stage (due n))) e a

pub each_all : (P : Open → Type 0) (s : ℕ) (due : Dues) (cs : OpenLookups) (n : ℕ) → EachFrom P n s cs due → AllByRecursion P (opens_from n s cs due)
each_all P s due [] n h = tt
each_all P s due (None ∷ cs) n h = each_all P s due cs (suc n) (λ m k e. at_number P s k due (n + suc m) (suc n + m) (omega arith) (h (suc m) k e))
each_all P s due (Some c ∷ cs) n h = all_append P _ _ (at_number P s c due (n + 0) n (omega arith) (h 0 c refl)) (each_all P s due cs (suc n) (λ m k e. at_number P s k due (n + suc m) (suc n + m) (omega arith) (h (suc m) k e)))

pub all_each : (P : Open → Type 0) (s : ℕ) (due : Dues) (cs : OpenLookups) (n : ℕ) → AllByRecursion P (opens_from n s cs due) → EachFrom P n s cs due
all_each P s due [] n a m k e = absurd (cc)
all_each P s due (c ∷ cs) n a zero k e = at_number P s k due n (n + 0) (omega arith) (subst (λ (x : Option Lookup). AllByRecursion P (open_of s x (due n))) e (all_left P (open_of s c (due n)) (opens_from (suc n) s cs due) a))
all_each P s due (c ∷ cs) n a (suc m) k e = at_number P s k due (suc n + m) (n + suc m) (omega arith) (all_each P s due cs (suc n) (all_right P (open_of s c (due n)) (opens_from (suc n) s cs due) a) m k e)

-- ---- what fits, lookup by lookup
pub each_fits : (l : Living) (cs : OpenLookups) (due : Dues) → FitsAll l cs due → (m : ℕ) (k : Lookup) → lookup_of cs m ≡ Some k → Fits l (open_at l.selected.direct_bits k.addr k.since k.stage (due m))
each_fits l cs due f m k e = at_number (Reads l) l.selected.direct_bits k due (0 + m) m (omega arith) (all_each (Reads l) l.selected.direct_bits due cs 0 f.reads m k e)

pub fits_each : (l : Living) (cs : OpenLookups) (due : Dues) → ((m : ℕ) (k : Lookup) → lookup_of cs m ≡ Some k → IsGoing l (due m).left k × Fits l (open_at l.selected.direct_bits k.addr k.since k.stage (due m))) → FitsAll l cs due
fits_each l cs due h = record {
  going = λ m k e. (h m k e).0;
  reads = each_all (Reads l) l.selected.direct_bits due cs 0 (λ m k e. at_number (Reads l) l.selected.direct_bits k due m (0 + m) (omega arith) (h m k e).1);
}

-- a lookup with what is due of it
abbrev pub FitsOne : Living → Lookup → Due → Type 0
FitsOne l k d = IsGoing l d.left k × Fits l (open_at l.selected.direct_bits k.addr k.since k.stage d)

-- one lookup changes, and what is due of it
pub fits_set : (l : Living) (cs : OpenLookups) (due after : Dues) (n : ℕ) (x : Option Lookup) → n < length cs → ((m : ℕ) → (m ≡ n → ⊥) → after m ≡ due m) → ((k : Lookup) → x ≡ Some k → FitsOne l k (after n)) → FitsAll l cs due → FitsAll l (set cs n x) after
fits_set l cs due after n x below same here f = fits_each l (set cs n x) after one
  where
    one : (m : ℕ) (k : Lookup) → lookup_of (set cs n x) m ≡ Some k → FitsOne l k (after m)
    one m k e = elim (cases_eq m n) [
      | inl q ↦ subst (λ (j : ℕ). FitsOne l k (after j)) (sym q) (here k (sym (get_or-set_same cs n x None below) ∙ (ap (λ (j : ℕ). get_or (set cs n x) j None) (sym q) ∙ e)))
      | inr q ↦
          let o : lookup_of cs m ≡ Some k = sym (get_or-set_other cs n m x None q) ∙ e in
          subst (λ (d : Due). FitsOne l k d) (sym (same m q)) (f.going m k o, each_fits l cs due f m k o)
    ]

pub with_due_here : (n : ℕ) (d : Due) (due : Dues) → with_due n d due n ≡ d
with_due_here n d due = ap (λ (b : Bool). cond b d (due n)) (eq-eqb n n refl)

pub with_due_other : (n : ℕ) (d : Due) (due : Dues) (m : ℕ) → (m ≡ n → ⊥) → with_due n d due m ≡ due m
with_due_other n d due m h = ap (λ (b : Bool). cond b d (due m)) (ne_eqb m n h)

pub some_below : (cs : OpenLookups) (n : ℕ) (k : Lookup) → lookup_of cs n ≡ Some k → n < length cs
some_below cs n k e = elim (cases_lt n (length cs)) [
  | inl h ↦ h
  | inr h ↦ let p : get_or cs n None ≡ None = get_or_past cs n None h in absurd (cc)
]

-- ---- steps of an update
shape_bounded : (old new : Living) → HasShapeOf old new → (left : ℕ) (t : Stage) → IsBounded old left t → IsBounded new left t
shape_bounded old new h left stage.Word b = tt
shape_bounded old new h left (stage.Node i set t) b = subst (λ (s : ℕ). t + left ≤ strides (rest new.selected.family s)) (sym h.1) (subst (λ f. t + left ≤ strides (rest f old.selected.direct_bits)) (sym h.0) b)

-- a step that keeps the trie's shape and what its open lookups read keeps what is due of all lookups
pub step_fits : (old new : Living) (cs : OpenLookups) (due : Dues) → HasShapeOf old new → old.selected.time ≤ new.selected.time → (Fits old (opens_of old.selected.direct_bits cs due) → Fits new (opens_of old.selected.direct_bits cs due)) → FitsAll old cs due → FitsAll new cs due
step_fits old new cs due h t keeps f = record {
  going = λ n k e.
      let g = f.going n k e in
      record { family = g.family ∙ sym h.0; started = omega (arith, g.started, t); bounded = shape_bounded old new h (due n).left k.stage g.bounded };
  reads = subst (λ (s : ℕ). Fits new (opens_of s cs due)) (sym h.1) (keeps f.reads);
}

-- ---- the oldest
none_from : (s : ℕ) (due : Dues) (cs : OpenLookups) (m : ℕ) → ((n : ℕ) (k : Lookup) → lookup_of cs n ≡ Some k → ⊥) → opens_from m s cs due ≡ []
none_from s due [] m h = refl
none_from s due (None ∷ cs) m h = none_from s due cs (suc m) (λ n k e. h (suc n) k e)
none_from s due (Some c ∷ cs) m h = absurd (h 0 c refl)

since_at : (s since : ℕ) (a : Addr) (start : ℕ) (t : Stage) (d : Due) → since ≤ start → AllByRecursion (λ (o : Open). since ≤ o.reader.since) (open_at s a start t d)
since_at s since a start stage.Word d h = tt
since_at s since a start (stage.Node i set t) d h = (h, tt)

pub first_oldest : (r : Oldest) (cs : OpenLookups) → IsFirst r cs → (s : ℕ) (due : Dues) → IsOldest r (opens_of s cs due)
first_oldest oldest.Nobody cs h s due = none_from s due cs 0 h
first_oldest (oldest.Started cursor since) cs h s due = each_all (λ (o : Open). since ≤ o.reader.since) s due cs 0 (λ m k e. since_at s since k.addr k.since k.stage (due (0 + m)) (h.1 m k e))

pub none_fits : (l : Living) (cs : OpenLookups) (due : Dues) → ((n : ℕ) (k : Lookup) → lookup_of cs n ≡ Some k → ⊥) → FitsAll l cs due
none_fits l cs due h = fits_each l cs due (λ m k e. absurd (h m k e))

-- no lookup is open
pub none_open : (many n : ℕ) (k : Lookup) → lookup_of (replicate many None) n ≡ Some k → ⊥
none_open zero n k e = cc
none_open (suc many) zero k e = cc
none_open (suc many) (suc n) k e = none_open many n k e

-- a lookup is opened
abbrev pub opened : Addr → ℕ → Lookup
opened a t = record { addr = a; since = t; stage = stage.Word }

pub start_fits : (l : Living) (cs : OpenLookups) (due : Dues) (n : ℕ) (a : Addr) (t : ℕ) → n < length cs → a.family ≡ l.selected.family → t ≤ l.selected.time → FitsAll l cs due → FitsAll l (set cs n (Some (opened a t))) due
start_fits l cs due n a t below fam start f = fits_set l cs due due n (Some (opened a t)) below (λ m q. refl) here f
  where
    here : (k : Lookup) → Some (opened a t) ≡ Some k → FitsOne l k (due n)
    here k e = let q : opened a t ≡ k = cc in subst (λ (x : Lookup). FitsOne l x (due n)) q (record { family = fam; started = start; bounded = tt }, tt)

-- ---- the laws
pub kept_fits : (old new : Living) (cs : OpenLookups) (due : Dues) → KeepsReads old new → FitsAll old cs due → FitsAll new cs due
kept_fits old new cs due k f = step_fits old new cs due k.shape k.time (k.reads (opens_of old.selected.direct_bits cs due)) f

pub since_fits : (first : Oldest) (old new : Living) (cs : OpenLookups) (due : Dues) → IsFirst first cs → KeepsReadsSince first old new → FitsAll old cs due → FitsAll new cs due
since_fits first old new cs due h k f = step_fits old new cs due k.shape k.time (k.reads (opens_of old.selected.direct_bits cs due) (first_oldest first cs h old.selected.direct_bits due)) f
