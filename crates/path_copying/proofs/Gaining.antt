-- What an arena gains, one step after another.
use Rattle.std.proofs.Common.{◌≡◌, ℕ, ◌+◌, ◌-◌, ◌*◌, ◌^◌, ◌<◌, ◌≤◌, List, [], ◌∷◌, ◌++◌, Bool, true, false, length, get_or, refl, sym, ap, ◌∙◌, arith, subst, inl, inr}
use Rattle.std.specs.Prelude.{not, ◌&&◌, ◌⊎◌}
use Rattle.std.proofs.lemmas.List.{append-nil, append_assoc}
use Rattle.buddy_arena.specs.Space.{Space, IsSized, IsOut}
use Rattle.buddy_arena.specs.Space as arena
use Rattle.buddy_arena.specs.Powers.{up}
use Rattle.buddy_arena.specs.Places.{Keeps, TakesPlaces, count_free, is_out, since}
use Rattle.buddy_arena.specs.Arrays.{Array, Has, AreApart}
use Rattle.buddy_arena.specs.Blocks.{Held, with_taken}
use Rattle.buddy_arena.proofs.Parting.{apart_append, since_now, since_not}
use Rattle.buddy_arena.proofs.Placing.{taken, still}
use Rattle.buddy_arena.proofs.Powers.{up_above}
use Rattle.buddy_arena.proofs.Sets.{places_append}
use Rattle.poptrie_build.proofs.Going.{since_from, not_before}
use Rattle.path_copying.specs.Changes.{Gains}
use Rattle.path_copying.specs.Aside.{OnlyAside}
use Rattle.path_copying.specs.Written.{WritesCells}

keeps_then : {A : Type 0} (e : A) (x y z : List A) (N M P : ℕ → Bool) → Keeps e x N y M → Keeps e y M z P → Keeps e x N z P
keeps_then e x y z N M P a b = record { still = λ i q. b.still i (a.still i q); same = λ i q. b.same i (a.still i q) ∙ a.same i q; long = b.long ∙ a.long }

-- places that came out before, or after
part_apart : (N M P : ℕ → Bool) (xs ys : List Array) → ((i : ℕ) → N i ≡ true → M i ≡ true) → ((i : ℕ) → M i ≡ true → P i ≡ true) → AreApart (since N M) xs → AreApart (since M P) ys → AreApart (since N P) (xs ++ ys)
part_apart N M P xs ys h s a b =
    apart_append (since N M) (since M P) (since N P) xs ys
    (λ i q. gone (M i) (P i) (since_now (N i) (M i) q))
    (λ i q. since_from (N i) (P i) (s i (since_now (N i) (M i) q)) (since_not (N i) (M i) q))
    (λ i q. since_from (N i) (P i) (since_now (M i) (P i) q) (not_before (N i) (M i) (h i) (since_not (M i) (P i) q))) a b
  where
    gone : (x y : Bool) → x ≡ true → (y && not x) ≡ false
    gone true true q = refl
    gone true false q = refl
    gone false y q = cc

pub gains_then : {T : Type 0} (e : T) (s t u : Space T) (a b c : Held) → Gains e s a t b → Gains e t b u c → Gains e s a u c
gains_then e s t u a b c p q = record {
  keeps = keeps_then e s.cells t.cells u.cells (is_out s.free) (is_out t.free) (is_out u.free) p.keeps q.keeps;
  order = q.order ∙ p.order;
  fill = q.fill ∙ p.fill;
  sized = q.sized;
  retired = q.retired ∙ p.retired;
  time = q.time ∙ p.time;
  more = p.more ++ q.more;
  taken = q.taken ∙ (ap (λ (x : List Array). x ++ q.more) p.taken ∙ append_assoc a.taken p.more q.more);
  apart = part_apart (is_out s.free) (is_out t.free) (is_out u.free) p.more q.more p.keeps.still q.keeps.still p.apart q.apart;
  left = omega (arith, p.left, q.left, places_append p.more q.more);
}

-- nothing was taken
pub gains_none : {T : Type 0} (e : T) (s : Space T) (a b : Held) → IsSized s → OnlyAside a b → Gains e s a s b
unfolding AreApart
gains_none e s a b z o = record {
  keeps = record { still = λ i q. q; same = λ i q. refl; long = refl };
  order = refl;
  fill = refl;
  sized = z;
  retired = o.retired;
  time = o.time;
  more = [];
  taken = o.taken ∙ sym (append-nil a.taken);
  apart = tt;
  left = omega arith;
}

pub only_none : (a : Held) → OnlyAside a a
only_none a = record { taken = refl; retired = refl; time = refl }

pub only_then : (a b c : Held) → OnlyAside a b → OnlyAside b c → OnlyAside a c
only_then a b c p q = record { taken = q.taken ∙ p.taken; retired = q.retired ∙ p.retired; time = q.time ∙ p.time }

-- one block was taken
pub gains_block : {T : Type 0} (e : T) (s t : Space T) (a b : Held) (base n : ℕ) → TakesPlaces base n (is_out s.free) (is_out t.free) (length t.cells) → (q : ℕ) × (base ≡ q * n) → ((i : ℕ) → is_out s.free i ≡ true → is_out t.free i ≡ true) → count_free t + n ≡ count_free s → t.cells ≡ s.cells → t.order ≡ s.order → t.fill ≡ s.fill → IsSized t → b ≡ with_taken a (base, n) → Gains e s a t b
unfolding AreApart
gains_block e s t a b base n k q still l c o f z w = record {
  keeps = record { still = still; same = λ i h. ap (λ x. get_or x i e) c; long = ap length c };
  order = o;
  fill = f;
  sized = z;
  retired = ap (λ (h : Held). h.retired) w;
  time = ap (λ (h : Held). h.time) w;
  more = (base, n) ∷ [];
  taken = ap (λ (h : Held). h.taken) w;
  apart = (((λ i h. since_from (is_out s.free i) (is_out t.free i) (at (is_out t.free) true i h (λ j. k.are j)) (at (is_out s.free) false i h (λ j. k.were j))), q), tt, tt);
  left = omega (arith, l);
}
  where
    at : (N : ℕ → Bool) (x : Bool) (i : ℕ) → Has (base, n) i → ((j : ℕ) → j < n → N (base + j) ≡ x) → N i ≡ x
    at N x i h g = let same : base + (i - base) ≡ i = omega (arith, h.0) in ap N (sym same) ∙ g (i - base) (omega (arith, h.0, h.1))

-- cells were written that had come out
pub gains_written : {T : Type 0} (e : T) (s t u : Space T) (a b : Held) (base c len : ℕ) (mid : ℕ → Bool) → Gains e s a t b → TakesPlaces base (up c) (is_out s.free) mid len → WritesCells e base c t u → Gains e s a u b
gains_written e s t u a b base c len mid p k w = record {
  keeps = record {
    still = λ i q. ap (λ x. is_out x i) w.free ∙ p.keeps.still i q;
    same = λ i q. w.others i (by i q (cases i)) ∙ p.keeps.same i q;
    long = w.long ∙ p.keeps.long;
  };
  order = w.order ∙ p.order;
  fill = w.fill ∙ p.fill;
  sized = w.sized;
  retired = p.retired;
  time = p.time;
  more = p.more;
  taken = p.taken;
  apart = subst (λ (x : List Bool). AreApart (since (is_out s.free) (is_out x)) p.more) (sym w.free) p.apart;
  left = omega (arith, p.left, ap arena.free_count w.free);
}
  where
    cases : (i : ℕ) → (base ≤ i) × (i < base + c) ⊎ ((i < base) ⊎ (base + c ≤ i))
    cases i = grind arith

    by : (i : ℕ) → is_out s.free i ≡ true → (base ≤ i) × (i < base + c) ⊎ ((i < base) ⊎ (base + c ≤ i)) → (i < base) ⊎ (base + c ≤ i)
    by i q (inr h) = h
    by i q (inl h) =
        let l = up_above c in
        let same : base + (i - base) ≡ i = omega (arith, h.0) in
        let f : is_out s.free i ≡ false = ap (is_out s.free) (sym same) ∙ k.were (i - base) (omega (arith, h.0, h.1, l)) in
        absurd (let z : true ≡ false = sym q ∙ f in cc)

pub gains_same : {T : Type 0} (e : T) (s t : Space T) (a b : Held) → t ≡ s → b ≡ a → IsSized s → Gains e s a t b
gains_same e s t a b p q z = subst (λ (x : Space _). Gains e s a x b) (sym p) (subst (λ (x : Held). Gains e s a s x) (sym q) (gains_none e s a a z (only_none a)))

-- as the arena tells it
pub taken_gains : {T : Type 0} (e : T) (s t : Space T) (a b : Held) (place k n : ℕ) → arena.TakesBlock s.order s.free t.free place k → IsOut t.order t.free place k → 2 ^ k ≡ n → count_free t + 2 ^ k ≡ count_free s → t.cells ≡ s.cells → t.order ≡ s.order → t.fill ≡ s.fill → IsSized t → b ≡ with_taken a (place, 2 ^ k) → Gains e s a t b
taken_gains e s t a b place k n w o p l c od f z q =
    gains_block e s t a b place (2 ^ k) (taken s t place k (2 ^ k) w o z refl) o.aligned (still s t place k (2 ^ k) w) l c od f z q
