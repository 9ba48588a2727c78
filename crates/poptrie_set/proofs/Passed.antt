-- What is retired at an end is no more than the version before it needed.
use Rattle.std.proofs.Common.{◌≡◌, ◌≢◌, ℕ, zero, suc, ◌+◌, ◌<◌, ◌≤◌, List, [], ◌∷◌, ◌++◌, Bool, true, false, cond, length, get_or, refl, sym, ap, ◌∙◌, arith, inl, inr}
use Rattle.std.specs.Prelude.{nat_eq, nat_le}
use Rattle.std.proofs.lemmas.Bool.{cases_lt, cases_eq, ne_eqb, eq-eqb}
use Rattle.std.proofs.lemmas.List.{length-append}
use Rattle.table_model.specs.Entries.{Entries}
use Rattle.buddy_arena.specs.Arrays.{Array, places_of}
use Rattle.poptrie_build.specs.Tries.{node_need, leaf_need}
use Rattle.buddy_arena.specs.Blocks.{Retired, at_end, late}
use Rattle.poptrie_set.specs.Lives.{Seen, Beside}
use Rattle.poptrie_set.specs.Past.{PastIn, retired_at}
use Rattle.poptrie_set.proofs.Steps.{at_its_end}

retired_append : (t : ℕ) (xs ys : List Retired) → retired_at t (xs ++ ys) ≡ retired_at t xs + retired_at t ys
retired_append t [] ys = omega arith
retired_append t (x ∷ xs) ys = by (nat_eq x.end t) (retired_append t xs ys)
  where
    by : (b : Bool) → retired_at t (xs ++ ys) ≡ retired_at t xs + retired_at t ys → cond b (x.block.1 + retired_at t (xs ++ ys)) (retired_at t (xs ++ ys)) ≡ cond b (x.block.1 + retired_at t xs) (retired_at t xs) + retired_at t ys
    by true e = omega arith
    by false e = e

other_end : (t u : ℕ) (xs : List Array) → u ≢ t → retired_at t (at_end u xs) ≡ 0
other_end t u [] n = refl
other_end t u (x ∷ xs) n = ap (λ b. cond b (x.1 + retired_at t (at_end u xs)) (retired_at t (at_end u xs))) (ne_eqb u t n) ∙ other_end t u xs n

own_end : (t : ℕ) (xs : List Array) → retired_at t (at_end t xs) ≡ places_of xs
own_end t [] = refl
own_end t (x ∷ xs) = ap (λ b. cond b (x.1 + retired_at t (at_end t xs)) (retired_at t (at_end t xs))) (eq-eqb t t refl) ∙ (let e = own_end t xs in omega arith)

get_before : (xs : List ℕ) (n t : ℕ) → t < length xs → get_or (xs ++ n ∷ []) t 0 ≡ get_or xs t 0
get_before [] n t l = absurd (omega arith)
get_before (x ∷ xs) n zero l = refl
get_before (x ∷ xs) n (suc t) l = get_before xs n t (omega arith)

get_last : (xs : List ℕ) (n : ℕ) → get_or (xs ++ n ∷ []) (length xs) 0 ≡ n
get_last [] n = refl
get_last (x ∷ xs) n = get_last xs n

get_past : (xs : List ℕ) (t : ℕ) → length xs ≤ t → get_or xs t 0 ≡ 0
get_past [] t l = refl
get_past (x ∷ xs) zero l = absurd (omega arith)
get_past (x ∷ xs) (suc t) l = get_past xs t (omega arith)

pub one_end : (time n : ℕ) (needs : List ℕ) (retired : List Retired) (replaced : List Array) → length needs ≡ time → ((t : ℕ) → retired_at (suc t) retired ≤ get_or needs t 0) → places_of replaced ≤ n → (t : ℕ) → retired_at (suc t) (retired ++ at_end (suc time) replaced) ≤ get_or (needs ++ n ∷ []) t 0
one_end time n needs retired replaced l h few t =
    let s = retired_append (suc t) retired (at_end (suc time) replaced) in
    let b = h t in
    elim (cases_eq t time) [
      | inl e ↦
          let z = get_past needs t (omega arith) in
          let own : retired_at (suc t) (at_end (suc time) replaced) ≡ places_of replaced = ap (λ u. retired_at (suc u) (at_end (suc time) replaced)) e ∙ own_end (suc time) replaced in
          let last : get_or (needs ++ n ∷ []) t 0 ≡ n = ap (λ u. get_or (needs ++ n ∷ []) u 0) (e ∙ sym l) ∙ get_last needs n in
          omega arith
      | inr e ↦
          let o = other_end (suc t) (suc time) replaced (λ p. e (omega (arith, p))) in
          elim (cases_lt t time) [
            | inl a ↦ let g = get_before needs n t (omega arith) in omega arith
            | inr a ↦ let z = get_past needs t (omega arith) in omega arith
          ]
    ]

module _ (l : Seen) (L M : Entries) (old new : List ℕ) (b : Beside l L M old new) (node_needs leaf_needs : List ℕ) (p : PastIn l node_needs leaf_needs) where
  pub end_past : PastIn (at_its_end l) (node_needs ++ node_need l.family l.direct_bits L ∷ []) (leaf_needs ++ leaf_need l.family l.direct_bits L ∷ [])
  end_past = record {
    node_ends = length-append node_needs (node_need l.family l.direct_bits L ∷ []) ∙ omega (arith, p.node_ends);
    leaf_ends = length-append leaf_needs (leaf_need l.family l.direct_bits L ∷ []) ∙ omega (arith, p.leaf_ends);
    nodes = one_end l.time (node_need l.family l.direct_bits L) node_needs l.nodes.retired l.nodes.replaced p.node_ends p.nodes b.nodes_few;
    leaves = one_end l.time (leaf_need l.family l.direct_bits L) leaf_needs l.leaves.retired l.leaves.replaced p.leaf_ends p.leaves b.leaves_few;
  }

-- giving back makes it no more
pub late_past : (since t : ℕ) (xs : List Retired) → retired_at t (late since xs) ≤ retired_at t xs
late_past since t [] = omega arith
late_past since t (x ∷ xs) = by (nat_le x.end since) (late_past since t xs)
  where
    both : (b : Bool) → retired_at t (late since xs) ≤ retired_at t xs → cond b (x.block.1 + retired_at t (late since xs)) (retired_at t (late since xs)) ≤ cond b (x.block.1 + retired_at t xs) (retired_at t xs)
    both true h = omega arith
    both false h = h

    more : (b : Bool) → retired_at t (late since xs) ≤ retired_at t xs → retired_at t (late since xs) ≤ cond b (x.block.1 + retired_at t xs) (retired_at t xs)
    more true h = omega arith
    more false h = h

    by : (a : Bool) → retired_at t (late since xs) ≤ retired_at t xs → retired_at t (cond a (late since xs) (x ∷ late since xs)) ≤ cond (nat_eq x.end t) (x.block.1 + retired_at t xs) (retired_at t xs)
    by true h = more (nat_eq x.end t) h
    by false h = both (nat_eq x.end t) h
