-- The open lookup that started first, of those of the numbers so far.
use Rattle.std.proofs.Common.{◌≡◌, ℕ, ◌+◌, ◌<◌, ◌≤◌, Option, None, Some, get_or, length, refl, sym, ap, ◌∙◌, arith, subst, inl, inr}
use Rattle.std.specs.Prelude.{◌⊎◌}
use Rattle.std.proofs.lemmas.Bool.{cases_lt}
use Rattle.std.proofs.lemmas.List.{get_or_default}
use Rattle.poptrie_set.specs.declared.trie_set.Oldest.{Oldest}
use Rattle.poptrie_set.specs.declared.trie_set.Oldest.TheVariants as oldest
use Rattle.poptrie_update.specs.Cursors.{OpenLookups, lookup_of, IsFirst}
use Rattle.poptrie_update.specs.Stages.{IsEarlier}
use Rattle.poptrie_update.specs.declared.cursors.Lookup.{Lookup}
use Rattle.poptrie_update.proofs.Opened.{some_below}

-- what is read at a number
pub read_at : (cs : OpenLookups) (i : ℕ) (x : Option Lookup) → x ≡ get_or cs i x → i < length cs → lookup_of cs i ≡ x
read_at cs i x e l = get_or_default cs i None x l ∙ sym e

-- of the lookups of numbers below i it is the first
pub record Started (cursor since : ℕ) (cs : OpenLookups) (i : ℕ) : Type 0 where
  pub below : cursor < i
  pub is : (k : Lookup) × (lookup_of cs cursor ≡ Some k) × (k.since ≡ since)
  pub all : (n : ℕ) (k : Lookup) → n < i → lookup_of cs n ≡ Some k → since ≤ k.since
  pub least : (n : ℕ) (k : Lookup) → n < i → lookup_of cs n ≡ Some k → k.since ≡ since → cursor ≤ n

abbrev pub IsFirstTo : Oldest → OpenLookups → ℕ → Type 0
IsFirstTo oldest.Nobody cs i = (n : ℕ) (k : Lookup) → n < i → lookup_of cs n ≡ Some k → ⊥
IsFirstTo (oldest.Started cursor since) cs i = Started cursor since cs i

pub first_none : (cs : OpenLookups) → IsFirstTo oldest.Nobody cs 0
first_none cs n k l e = absurd (omega arith)

split : (n i : ℕ) → n < i + 1 → (n < i) ⊎ (n ≡ i)
split n i l = elim (cases_lt n i) [ inl h ↦ inl h | inr h ↦ inr (omega arith) ]

same_at : (cs : OpenLookups) (n i : ℕ) (j k : Lookup) → n ≡ i → lookup_of cs n ≡ Some j → lookup_of cs i ≡ Some k → j ≡ k
same_at cs n i j k q e o = let p : lookup_of cs n ≡ lookup_of cs i = ap (lookup_of cs) q in cc

-- the next number's isn't open
pub first_skip : (r : Oldest) (cs : OpenLookups) (i : ℕ) → IsFirstTo r cs i → lookup_of cs i ≡ None → IsFirstTo r cs (i + 1)
first_skip oldest.Nobody cs i h o = λ n k l e. elim (split n i l) [
  | inl b ↦ h n k b e
  | inr q ↦ let p : lookup_of cs n ≡ lookup_of cs i = ap (lookup_of cs) q in absurd (cc)
]
first_skip (oldest.Started cursor since) cs i h o = record {
  below = omega (arith, h.below);
  is = h.is;
  all = λ n k l e. elim (split n i l) [
    | inl b ↦ h.all n k b e
    | inr q ↦ let p : lookup_of cs n ≡ lookup_of cs i = ap (lookup_of cs) q in absurd (cc)
  ];
  least = λ n k l e t. elim (split n i l) [
    | inl b ↦ h.least n k b e t
    | inr q ↦ let p : lookup_of cs n ≡ lookup_of cs i = ap (lookup_of cs) q in absurd (cc)
  ];
}

-- it is the next number's, where that started before all others
newest : (cs : OpenLookups) (i : ℕ) (k : Lookup) → lookup_of cs i ≡ Some k → ((n : ℕ) (j : Lookup) → n < i → lookup_of cs n ≡ Some j → k.since < j.since) → Started i k.since cs (i + 1)
newest cs i k o before = record {
  below = omega arith;
  is = (k, o, refl);
  all = λ n j l e. elim (split n i l) [
    | inl b ↦ omega (arith, before n j b e)
    | inr q ↦ let p : j.since ≡ k.since = ap (λ (x : Lookup). x.since) (same_at cs n i j k q e o) in omega arith
  ];
  least = λ n j l e t. elim (split n i l) [
    | inl b ↦ absurd (omega (arith, before n j b e, t))
    | inr q ↦ omega arith
  ];
}

pub first_more : (r s : Oldest) (cs : OpenLookups) (i : ℕ) (k : Lookup) → IsFirstTo r cs i → lookup_of cs i ≡ Some k → IsEarlier r i k.since s → IsFirstTo s cs (i + 1)
first_more oldest.Nobody s cs i k h o e = subst (λ (x : Oldest). IsFirstTo x cs (i + 1)) (sym e) (newest cs i k o (λ n j b q. absurd (h n j b q)))
first_more (oldest.Started cursor since) s cs i k h o e = elim (cases_lt k.since since) [
  | inl t ↦ subst (λ (x : Oldest). IsFirstTo x cs (i + 1)) (sym (e.1 t)) (newest cs i k o (λ n j b q. omega (arith, h.all n j b q)))
  | inr t ↦ subst (λ (x : Oldest). IsFirstTo x cs (i + 1)) (sym (e.0 t)) (record {
    below = omega (arith, h.below);
    is = h.is;
    all = λ n j l q. elim (split n i l) [
      | inl b ↦ h.all n j b q
      | inr z ↦ let p : j.since ≡ k.since = ap (λ (x : Lookup). x.since) (same_at cs n i j k z q o) in omega arith
    ];
    least = λ n j l q w. elim (split n i l) [
      | inl b ↦ h.least n j b q w
      | inr z ↦ omega (arith, h.below)
    ];
  })
]

-- of all numbers
pub first_of_all : (r : Oldest) (cs : OpenLookups) (i : ℕ) → length cs ≤ i → IsFirstTo r cs i → IsFirst r cs
first_of_all oldest.Nobody cs i w h = λ n k e. h n k (omega (arith, some_below cs n k e)) e
first_of_all (oldest.Started cursor since) cs i w h = (h.is, (λ n k e. h.all n k (omega (arith, some_below cs n k e)) e), (λ n k e t. h.least n k (omega (arith, some_below cs n k e)) e t))
