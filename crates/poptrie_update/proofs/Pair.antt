-- The two sets, by what the other one holds.
use Rattle.std.proofs.Common.{◌≡◌, ℕ, suc, ◌-◌, ◌≤◌, List, [], ◌∷◌, Bool, true, false, cond, nat_eq, refl, sym, ap, ◌∙◌, arith, subst}
use Rattle.std.proofs.lemmas.Bool.{ne_eqb, eqb-true}
use Rattle.fib_addr.specs.declared.addr.Addr.{Addr}
use Rattle.table_model.specs.Entries.{Entries}
use Rattle.buddy_arena.specs.Places.{is_out}
use Rattle.poptrie_build.specs.Stands.{blank}
use Rattle.poptrie_build.specs.declared.node.Node.{Node}
use Rattle.poptrie_build.proofs.Carry.{Carries}
use Rattle.poptrie_set.specs.Rooms.{Room, safe}
use Rattle.poptrie_set.specs.Lives.{Seen, ShowsIn}
use Rattle.poptrie_set.specs.First.{StartsIn, published_in, slot_of}
use Rattle.poptrie_set.specs.Fits.{Reader, ReadsIn, FitsIn, IsOldestOf, until}
use Rattle.poptrie_set.specs.declared.trie_set.Oldest.{Oldest}
use Rattle.poptrie_set.specs.declared.trie_set.Oldest.TheVariants as oldest
use Rattle.poptrie_set.specs.declared.reading.At.{At as Read}
use Rattle.poptrie_set.specs.declared.reading.At.TheVariants as read
use Rattle.poptrie_set.proofs.Read_on.{reads_again}
use Rattle.poptrie_set.proofs.Safe.{safe_out}
use Rattle.poptrie_update.specs.Lives.{Living, Holds, ShowsBy, is_selecting, freed}
use Rattle.poptrie_update.specs.Prepares.{IsAtRest}
use Rattle.poptrie_update.specs.Fits.{Open, Reads, ReadsOther, ReadsOut, ByTruth, Fits, IsOldest}
use Rattle.poptrie_update.specs.Reads.{Starts, IsInSet, covers_by}
use Rattle.poptrie_update.specs.Pendings.{IsSelectorOf}
use Rattle.poptrie_update.specs.declared.live.Other.{Other}
use Rattle.poptrie_update.specs.declared.live.Other.TheVariants as other
use Rattle.poptrie_update.specs.declared.live.At.{At}

-- ---- what it shows

-- what is so of what the selected set publishes to an address is so of what is published to it
pub by_published : (P : Entries → Type 0) (state : Other) (s o : Seen) (a : Addr) → ((L M : Entries) → ShowsIn s L M → P (published_in s L M a)) → (L M : Entries) → ShowsBy state s o L M → P (cond (covers_by state s (slot_of s.direct_bits a)) M L)
by_published P other.Free s o a f L M sh = f L M sh
by_published P (other.Retired end) s o a f L M sh = f L M sh
by_published P other.Built s o a f L M sh = subst P (same (covers_by other.Free s (slot_of s.direct_bits a)) L) (f L L sh.0)
  where
    same : (b : Bool) (E : Entries) → cond b E E ≡ E
    same true E = refl
    same false E = refl
by_published P other.Replaced s o a f L M sh = subst P (same (covers_by other.Free s (slot_of s.direct_bits a)) M) (f M M sh)
  where
    same : (b : Bool) (E : Entries) → cond b E E ≡ E
    same true E = refl
    same false E = refl

-- where nothing is pending
retired_over : (state : Other) (s o : Seen) (end : ℕ) → Holds state s o → state ≡ other.Retired end → end ≤ s.time
retired_over other.Free s o end h e = cc
retired_over (other.Retired first) s o end h e = let q : first ≡ end = cc in omega (arith, h, q)
retired_over other.Built s o end h e = cc
retired_over other.Replaced s o end h e = cc

pub at_rest : (state : Other) (s o : Seen) (number : ℕ) → Holds state s o → (s.nodes.taken ≡ []) × (s.leaves.taken ≡ []) → IsAtRest (record { selected = s; other = o; state = state; number = number })
at_rest state s o number h still = record { nodes = still.0; leaves = still.1; ended = λ end e. retired_over state s o end h e }

pub starts_in_set : (r : Read) (a : At) (l : Living) (E : Entries) (d : Addr) → IsInSet r l.number a → StartsIn r l.selected E d → Starts a l E d
starts_in_set (read.Answer g) a l E d is st = subst (λ (x : At). Starts x l E d) (sym is) st
starts_in_set (read.Node i t) a l E d is st = subst (λ (x : At). Starts x l E d) (sym is) (refl, st.0, st.1)

-- some entries, in the selected set
pub some_shown : (state : Other) (s o : Seen) (L M : Entries) → ShowsBy state s o L M → (E : Entries) × (F : Entries) × ShowsIn s E F
some_shown other.Free s o L M sh = (L, M, sh)
some_shown (other.Retired end) s o L M sh = (L, M, sh)
some_shown other.Built s o L M sh = (L, L, sh.0)
some_shown other.Replaced s o L M sh = (M, M, sh)

-- where words are stored, or nothing is pending, the selected set shows all
pub words_shown : (state : Other) (s o : Seen) (L M : Entries) → is_selecting state ≡ false → ShowsBy state s o L M → ShowsIn s L M
words_shown other.Free s o L M e sh = sh
words_shown (other.Retired end) s o L M e sh = sh
words_shown other.Built s o L M e sh = cc
words_shown other.Replaced s o L M e sh = cc

pub shown_words : (state : Other) (s o : Seen) (L M : Entries) → is_selecting state ≡ false → ShowsIn s L M → ShowsBy state s o L M
shown_words other.Free s o L M e sh = sh
shown_words (other.Retired end) s o L M e sh = sh
shown_words other.Built s o L M e sh = cc
shown_words other.Replaced s o L M e sh = cc

-- ---- what is read
pub fits_each : (l m : Living) (os : List Open) → ((o : Open) → Reads l o → Reads m o) → Fits l os → Fits m os
fits_each l m [] h f = tt
fits_each l m (o ∷ os) h f = (h o f.0, fits_each l m os h f.1)

pub by_truth : {P Q P2 Q2 : Type 0} (b : Bool) → (P → P2) → (Q → Q2) → ByTruth b P Q → ByTruth b P2 Q2
by_truth true f g x = f x
by_truth false f g x = g x

pub reads_one : (s t : Seen) → ((os : List Reader) → FitsIn s os → FitsIn t os) → (r : Reader) → ReadsIn s r → ReadsIn t r
reads_one s t h r x = (h (r ∷ []) (x, tt)).0

-- the selected set is another one, and the other set as it was
pub fits_selected : (s t o : Seen) (state : Other) (n : ℕ) → ((os : List Reader) → FitsIn s os → FitsIn t os) → (os : List Open) → Fits (record { selected = s; other = o; state = state; number = n }) os → Fits (record { selected = t; other = o; state = state; number = n }) os
fits_selected s t o state n h os f = fits_each (record { selected = s; other = o; state = state; number = n }) (record { selected = t; other = o; state = state; number = n }) os (λ x r. by_truth (nat_eq x.set n) (reads_one s t h x.reader) (λ y. y) r) f

same_cells : {A : Type 0} (e : A) (cells : List A) (N M : ℕ → Bool) → ((i : ℕ) → N i ≡ true → M i ≡ true) → Carries e cells N cells M
same_cells e cells N M h = record { inside = h; same = λ i o. refl; long = refl }

-- nothing is written, or given back, in a set that was replaced
pub reads_out : (s : Seen) (r : Reader) → ReadsIn s r → ReadsOut s r
reads_out s r x = (
  x.0,
  reads_again r.left s.nodes.space.cells s.nodes.space.cells _ _ s.leaves.space.cells s.leaves.space.cells _ _ r.node r.bits r.answer
      (same_cells blank s.nodes.space.cells (safe s.nodes s.made r.since) (is_out s.nodes.space.free) (λ i z. safe_out s.nodes s.made r.since i z))
      (same_cells 0 s.leaves.space.cells (safe s.leaves s.made r.since) (is_out s.leaves.space.free) (λ i z. safe_out s.leaves s.made r.since i z)) x.1,
)

-- time goes on in it
pub ticked_out : (o q : Seen) (r : Reader) → q.nodes ≡ o.nodes → q.leaves ≡ o.leaves → o.time ≤ q.time → ReadsOut o r → ReadsOut q r
ticked_out o q r en el et x = (
  omega (arith, x.0),
  subst (λ (n : Room Node). Rattle.poptrie_set.specs.Reading.ReadsOn r.left n.space.cells (is_out n.space.free) q.leaves.space.cells (is_out q.leaves.space.free) r.node r.bits r.answer) (sym en)
      (subst (λ (n : Room ℕ). Rattle.poptrie_set.specs.Reading.ReadsOn r.left o.nodes.space.cells (is_out o.nodes.space.free) n.space.cells (is_out n.space.free) r.node r.bits r.answer) (sym el) x.1),
)

pub ticked_other : (state : Other) (o q : Seen) (r : Reader) → is_selecting state ≡ false → q.nodes ≡ o.nodes → q.leaves ≡ o.leaves → o.time ≤ q.time → ReadsOther state o r → ReadsOther state q r
ticked_other other.Free o q r e en el et x = x
ticked_other (other.Retired end) o q r e en el et x = (x.0, ticked_out o q r en el et x.1)
ticked_other other.Built o q r e en el et x = x
ticked_other other.Replaced o q r e en el et x = cc

-- the numbers of the sets are two
two_numbers : (i n : ℕ) → n ≤ 1 → i ≡ n → nat_eq i (1 - n) ≡ false
two_numbers i n few e = ne_eqb i (1 - n) (λ p. omega (arith, e, p))

-- the selector is stored
pub fits_swapped : (s o : Seen) (n m : ℕ) → n ≤ 1 → m ≡ 1 - n → (os : List Open) → Fits (record { selected = s; other = o; state = other.Built; number = n }) os → Fits (record { selected = o; other = s; state = other.Replaced; number = m }) os
fits_swapped s o n m few em os f = fits_each (record { selected = s; other = o; state = other.Built; number = n }) (record { selected = o; other = s; state = other.Replaced; number = m }) os (λ x r. by (nat_eq x.set n) x refl r) f
  where
    by : (b : Bool) (x : Open) → nat_eq x.set n ≡ b → ByTruth b (ReadsIn s x.reader) ⊥ → ByTruth (nat_eq x.set m) (ReadsIn o x.reader) (ReadsOut s x.reader)
    by true x e r = subst (λ (c : Bool). ByTruth c (ReadsIn o x.reader) (ReadsOut s x.reader)) (sym (ap (λ (k : ℕ). nat_eq x.set k) em ∙ two_numbers x.set n few (eqb-true x.set n e))) (reads_out s x.reader r)
    by false x e r = absurd r

-- the end of an update that stored the selector
pub fits_retired : (s t o q : Seen) (n end : ℕ) → ((os : List Reader) → FitsIn s os → FitsIn t os) → q.nodes ≡ o.nodes → q.leaves ≡ o.leaves → q.time ≡ suc o.time → end ≡ suc o.time → (os : List Open) → Fits (record { selected = s; other = o; state = other.Replaced; number = n }) os → Fits (record { selected = t; other = q; state = other.Retired end; number = n }) os
fits_retired s t o q n end h en el et ee os f = fits_each (record { selected = s; other = o; state = other.Replaced; number = n }) (record { selected = t; other = q; state = other.Retired end; number = n }) os (λ x r. by_truth (nat_eq x.set n) (reads_one s t h x.reader) (λ y. (omega (arith, y.0, ee), ticked_out o q x.reader en el (omega (arith, et)) y)) r) f

-- the end of an update that stored words
pub fits_ended : (s t o q : Seen) (state : Other) (n : ℕ) → is_selecting state ≡ false → ((os : List Reader) → FitsIn s os → FitsIn t os) → q.nodes ≡ o.nodes → q.leaves ≡ o.leaves → q.time ≡ suc o.time → (os : List Open) → Fits (record { selected = s; other = o; state = state; number = n }) os → Fits (record { selected = t; other = q; state = state; number = n }) os
fits_ended s t o q state n e h en el et os f = fits_each (record { selected = s; other = o; state = state; number = n }) (record { selected = t; other = q; state = state; number = n }) os (λ x r. by_truth (nat_eq x.set n) (reads_one s t h x.reader) (λ y. ticked_other state o q x.reader e en el (omega (arith, et)) y) r) f

-- no lookup is in a set that is free, or has what is to be selected
pub fits_freed : (s o q : Seen) (n : ℕ) → (os : List Open) → Fits (record { selected = s; other = o; state = other.Built; number = n }) os → Fits (record { selected = s; other = q; state = other.Free; number = n }) os
fits_freed s o q n os f = fits_each (record { selected = s; other = o; state = other.Built; number = n }) (record { selected = s; other = q; state = other.Free; number = n }) os (λ x r. r) f

pub fits_built : (s o q : Seen) (n : ℕ) → (os : List Open) → Fits (record { selected = s; other = o; state = other.Free; number = n }) os → Fits (record { selected = s; other = q; state = other.Built; number = n }) os
fits_built s o q n os f = fits_each (record { selected = s; other = o; state = other.Free; number = n }) (record { selected = s; other = q; state = other.Built; number = n }) os (λ x r. r) f

-- ---- what the token tells of the other set
pub is_built : (b : Bool) (state : Other) → IsSelectorOf b state → b ≡ false → state ≡ other.Built
is_built b other.Free t e = absurd t
is_built b (other.Retired end) t e = absurd t
is_built b other.Built t e = refl
is_built b other.Replaced t e = cc

pub is_replaced : (b : Bool) (state : Other) → IsSelectorOf b state → b ≡ true → state ≡ other.Replaced
is_replaced b other.Free t e = absurd t
is_replaced b (other.Retired end) t e = absurd t
is_replaced b other.Built t e = cc
is_replaced b other.Replaced t e = refl

-- nothing is pending
pub quiet_words : (state : Other) (p : Bool) → cond (is_selecting state) true p ≡ false → (is_selecting state ≡ false) × (p ≡ false)
quiet_words other.Free p e = (refl, e)
quiet_words (other.Retired end) p e = (refl, e)
quiet_words other.Built p e = cc
quiet_words other.Replaced p e = cc

-- ---- what may be given back is
module _ (s t o q : Seen) (n : ℕ) where
  given_one : (cursor since : ℕ) (state : Other) (x : Open) → ((os : List Reader) → IsOldestOf (oldest.Started cursor since) os → FitsIn s os → FitsIn t os) → since ≤ x.reader.since → Reads (record { selected = s; other = o; state = state; number = n }) x → Reads (record { selected = t; other = o; state = state; number = n }) x
  given_one cursor since state x h le r = by_truth (nat_eq x.set n) (λ y. (h (x.reader ∷ []) (le, tt) (y, tt)).0) (λ y. y) r

  freed_one : (cursor since end : ℕ) (x : Open) → ((os : List Reader) → IsOldestOf (oldest.Started cursor since) os → FitsIn s os → FitsIn t os) → end ≤ since → since ≤ x.reader.since → Reads (record { selected = s; other = o; state = other.Retired end; number = n }) x → Reads (record { selected = t; other = q; state = other.Free; number = n }) x
  freed_one cursor since end x h low le r = by_truth (nat_eq x.set n) (λ y. (h (x.reader ∷ []) (le, tt) (y, tt)).0) (λ y. absurd (omega (arith, y.0))) r

  -- the other set stays as it is
  pub fits_given : (who : Oldest) (state : Other) → ((os : List Reader) → IsOldestOf who os → FitsIn s os → FitsIn t os) → (os : List Open) → IsOldest who os → Fits (record { selected = s; other = o; state = state; number = n }) os → Fits (record { selected = t; other = o; state = state; number = n }) os
  fits_given oldest.Nobody state h os e f = subst (λ (xs : List Open). Fits (record { selected = t; other = o; state = state; number = n }) xs) (sym e) tt
  fits_given (oldest.Started cursor since) state h [] a f = tt
  fits_given (oldest.Started cursor since) state h (x ∷ os) a f = (given_one cursor since state x h a.0 f.0, fits_given (oldest.Started cursor since) state h os a.1 f.1)

  -- the other set was retired at an end that was over when the oldest lookup started
  pub fits_other_given : (who : Oldest) (time end : ℕ) → end ≤ until who time → ((os : List Reader) → IsOldestOf who os → FitsIn s os → FitsIn t os) → (os : List Open) → IsOldest who os → Fits (record { selected = s; other = o; state = other.Retired end; number = n }) os → Fits (record { selected = t; other = q; state = other.Free; number = n }) os
  fits_other_given oldest.Nobody time end low h os e f = subst (λ (xs : List Open). Fits (record { selected = t; other = q; state = other.Free; number = n }) xs) (sym e) tt
  fits_other_given (oldest.Started cursor since) time end low h [] a f = tt
  fits_other_given (oldest.Started cursor since) time end low h (x ∷ os) a f = (freed_one cursor since end x h low a.0 f.0, fits_other_given (oldest.Started cursor since) time end low h os a.1 f.1)

-- a set that isn't retired stays as it is
pub freed_same : (since : ℕ) (state : Other) → ((end : ℕ) → state ≡ other.Retired end → ⊥) → state ≡ freed since state
freed_same since other.Free n = refl
freed_same since (other.Retired end) n = absurd (n end refl)
freed_same since other.Built n = refl
freed_same since other.Replaced n = refl

pub fits_empty : (s o q : Seen) (n : ℕ) → (os : List Open) → Fits (record { selected = s; other = o; state = other.Free; number = n }) os → Fits (record { selected = s; other = q; state = other.Free; number = n }) os
fits_empty s o q n os f = fits_each (record { selected = s; other = o; state = other.Free; number = n }) (record { selected = s; other = q; state = other.Free; number = n }) os (λ x r. r) f
