-- A trie that is again as it was, by what its other set holds.
use Rattle.std.proofs.Common.{◌≡◌, ℕ, ◌<◌, ◌≤◌, Bool, false, cond, Result, Ok, Err, refl, sym, ap, ◌∙◌, subst, arith}
use Rattle.std.specs.Prelude.{OnErr, [], nat_le}
use Rattle.std.proofs.lemmas.Bool.{le-leb}
use Rattle.std.proofs.lemmas.Bool.Decides.{nat_tests}
use Rattle.buddy_arena.specs.Blocks.{late}
use Rattle.poptrie_set.specs.Lives.{Seen, ShowsIn, HasSizesOf}
use Rattle.poptrie_set.specs.Prepares.{GaveBack}
use Rattle.poptrie_set.specs.Undone.{IsReadyFrom, IsAsBefore}
use Rattle.poptrie_update.specs.Lives.{Living, Holds, HasNoneRetired, is_selecting, freed}
use Rattle.poptrie_update.specs.Undone.{IsGivenBack, IsReadyBy, IsReadyAfter, IsSameOther, IsAsItWas}
use Rattle.poptrie_update.proofs.Unreached.{pair_of}
use Rattle.poptrie_update.specs.declared.live.Other.{Other}
use Rattle.poptrie_update.specs.declared.live.Other.TheVariants as other

pub err_both_on : {T E A B C : Type 0} (r : Result T E) → OnErr r A → OnErr r B → (A → B → C) → OnErr r C
err_both_on (Ok x) a b f = tt
err_both_on (Err e) a b f = f a b

-- a set that stays as it is
pub same_other : (state : Other) (s o : Seen) → Holds state s o → IsSameOther state o o
same_other other.Free s o h = h
same_other (other.Retired end) s o h = refl
same_other other.Built s o h = refl
same_other other.Replaced s o h = refl

-- words were made ready
pub words_ready : (state : Other) (s t o : Seen) (n : ℕ) → is_selecting state ≡ false → IsReadyFrom s t → IsReadyAfter (pair_of s o state n) (pair_of t o state n)
words_ready other.Free s t o n e r = (refl, (refl, refl, r))
words_ready (other.Retired end) s t o n e r = (refl, (refl, refl, r))
words_ready other.Built s t o n e r = cc
words_ready other.Replaced s t o n e r = cc

-- the selector was
pub selector_ready : (b l : Living) → b.state ≡ other.Free → l.state ≡ other.Built → l.number ≡ b.number → IsAsBefore b.selected l.selected → IsReadyAfter b l
selector_ready b l free built number r = (number, subst (λ (x : Other). IsReadyBy x b l) (sym built) (free, r))

-- ---- and are forgotten
-- the other set of a trie in which words are ready is what it was
words_other : (state : Other) (b : Living) (s t o : Seen) (n : ℕ) → is_selecting state ≡ false → Holds state s o → IsReadyBy state b (pair_of t o state n) → (state ≡ b.state) × IsSameOther b.state b.other o × IsReadyFrom b.selected t
words_other other.Free b s t o n e h r = (sym r.0, subst (λ (x : Other). IsSameOther x b.other o) (sym r.0) h, r.2)
words_other (other.Retired end) b s t o n e h r = (sym r.0, subst (λ (x : Other). IsSameOther x b.other o) (sym r.0) r.1, r.2)
words_other other.Built b s t o n e h r = cc
words_other other.Replaced b s t o n e h r = cc

pub words_back : (state : Other) (b : Living) (s t o : Seen) (n : ℕ) → is_selecting state ≡ false → Holds state s o → (IsReadyFrom b.selected s → IsAsBefore b.selected t) → IsReadyAfter b (pair_of s o state n) → IsAsItWas b (pair_of t o state n)
words_back state b s t o n e h back r =
    let w = words_other state b s s o n e h r.1 in
    record { number = r.0; state = w.0; selected = back w.2; other = w.1 }

pub selector_back : (b : Living) (s o q : Seen) (n : ℕ) → ShowsIn q [] [] → HasNoneRetired q → IsReadyAfter b (pair_of s o other.Built n) → IsAsItWas b (pair_of s q other.Free n)
selector_back b s o q n sh none r = record {
  number = r.0;
  state = sym r.1.0;
  selected = r.1.1;
  other = subst (λ (x : Other). IsSameOther x b.other q) (sym r.1.0) (sh, none);
}

-- ---- what was retired is given back
-- a set that was retired later stays
pub held_same : (since end : ℕ) (state : Other) → state ≡ other.Retired end → since < end → state ≡ freed since state
held_same since end state e high = subst (λ (x : Other). x ≡ freed since x) (sym e) (sym (ap (λ (b : Bool). cond b other.Free (other.Retired end)) (over end since high)))
  where
    over : (a b : ℕ) → b < a → nat_le a b ≡ false
    over a b h = grind (arith, nat_tests)

module _ (since : ℕ) (s o t : Seen) (state : Other) (n : ℕ) where
  pub given_kept : state ≡ freed since state → HasSizesOf s t → t.words ≡ s.words → t.time ≡ s.time → GaveBack since s t.nodes.space t.leaves.space → t.nodes.retired ≡ late since s.nodes.retired → t.leaves.retired ≡ late since s.leaves.retired → IsGivenBack since (pair_of s o state n) (pair_of t o state n)
  given_kept same sizes words time spaces nodes leaves = record { shape = sizes; number = refl; state = same; other = λ e. refl; words = words; time = time; spaces = spaces; nodes = nodes; leaves = leaves }

-- the other set is given back whole
pub given_freed : (since end : ℕ) (s o t q : Seen) (state : Other) (n : ℕ) → state ≡ other.Retired end → end ≤ since → HasSizesOf s t → t.words ≡ s.words → t.time ≡ s.time → GaveBack since s t.nodes.space t.leaves.space → t.nodes.retired ≡ late since s.nodes.retired → t.leaves.retired ≡ late since s.leaves.retired → IsGivenBack since (pair_of s o state n) (pair_of t q other.Free n)
given_freed since end s o t q state n is low sizes words time spaces nodes leaves = record {
  shape = sizes;
  number = refl;
  state = sym (ap (freed since) is ∙ ap (λ (b : Bool). cond b other.Free (other.Retired end)) (le-leb end since low));
  other = λ e. absurd (none (e ∙ is));
  words = words;
  time = time;
  spaces = spaces;
  nodes = nodes;
  leaves = leaves;
}
  where
    none : other.Free ≡ other.Retired end → ⊥
    none e = cc
