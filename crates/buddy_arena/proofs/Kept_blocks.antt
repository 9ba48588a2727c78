-- Which blocks are free beside one that is taken, and where.
use Rattle.std.proofs.Common.{◌≡◌, ◌≢◌, ℕ, zero, suc, ◌+◌, ◌-◌, ◌^◌, ◌<◌, ◌≤◌, List, [], ◌∷◌, ◌++◌, map, take, drop, length, Bool, true, false, cond, nat_eq, ◌||◌, ◌&&◌, refl, sym, ap, ◌∙◌, subst, arith, replicate, inl, inr, eq-eqb, length-append}
use Rattle.std.proofs.lemmas.Bool.{eqb-true, cases_eq}
use Rattle.std.proofs.lemmas.List.{length-replicate, replicate-append-replicate, take-append-drop, length-take, length-drop}
use Rattle.std.proofs.lemmas.Nat.{pow_pos}
use Rattle.std.proofs.Math.Pow.{pow_mono}
use Rattle.std.specs.List.{AllByRecursion}
use Rattle.buddy_arena.specs.Space.{Free, all_true, shift, blocks, has_order, has_block, first_block, marked, tick, num, LieInOrder, Apart}
use Rattle.buddy_arena.proofs.Bits.{double}
use Rattle.buddy_arena.proofs.Spans.{all_replicate, blocks_whole, blocks_halves, has_append, has_shift, first_left, first_right, first_shift, marked_len, marked_left, marked_right, marked_not_all}
use Rattle.buddy_arena.proofs.Buddies as free
use Rattle.buddy_arena.proofs.Counts.{order_whole_is}
use Rattle.buddy_arena.proofs.Firsts.{carved, all_from, either, or_right}

has_left : (o p : ℕ) (us vs : List Free) → has_block o p us ≡ true → has_block o p (us ++ vs) ≡ true
has_left o p [] vs h = cc
has_left o p (u ∷ us) vs h = (elim (nat_eq u.0 o && nat_eq u.1 p) as (λ t. (t || has_block o p us) ≡ true → (t || has_block o p (us ++ vs)) ≡ true) [ true ↦ λ e. refl | false ↦ λ e. has_left o p us vs e ]) h

has_right : (o p : ℕ) (us vs : List Free) → has_block o p vs ≡ true → has_block o p (us ++ vs) ≡ true
has_right o p [] vs h = h
has_right o p (u ∷ us) vs h = free.or_right (nat_eq u.0 o && nat_eq u.1 p) (has_block o p (us ++ vs)) (has_right o p us vs h)

has_shifted : (o p n : ℕ) (us : List Free) → has_block o p us ≡ true → has_block o (n + p) (map (shift n) us) ≡ true
has_shifted o p n [] h = cc
has_shifted o p n (u ∷ us) h =
    let P : Bool → Type 0 = λ t. (nat_eq u.0 o && nat_eq u.1 p) ≡ t → (t || has_block o p us) ≡ true → has_block o (n + p) (map (shift n) (u ∷ us)) ≡ true in
    (elim (nat_eq u.0 o && nat_eq u.1 p) as P [
      | true ↦ λ e g.
          let b = free.and_both (nat_eq u.0 o) (nat_eq u.1 p) e in
          let at : u.1 ≡ p = eqb-true u.1 p b.1 in
          ap (λ t. (t && nat_eq (n + u.1) (n + p)) || has_block o (n + p) (map (shift n) us)) b.0 ∙ ap (λ t. t || has_block o (n + p) (map (shift n) us)) (eq-eqb (n + u.1) (n + p) (omega arith))
      | false ↦ λ e g. free.or_right (nat_eq u.0 o && nat_eq (n + u.1) (n + p)) (has_block o (n + p) (map (shift n) us)) (has_shifted o p n us g)
    ]) refl h

one_has : (j : ℕ) → has_block j 0 ((j, 0) ∷ []) ≡ true
one_has j = ap (λ t. (t && true) || false) (eq-eqb j j refl)

-- the upper halves of a region whose lower part is taken
whole_left : (j k i : ℕ) (f : List Bool) → k ≤ j → f ≡ replicate (2 ^ j) true → k ≤ i → i < j → has_block i (2 ^ i) (blocks j (marked 0 (2 ^ k) false f)) ≡ true
whole_left zero k i f h w u v = absurd (omega arith)
whole_left (suc j) k i f h w u v =
    let a = replicate (2 ^ j) true in
    let n = 2 ^ k in
    let l : k ≤ j = omega arith in
    let len : length a ≡ 2 ^ j = length-replicate (2 ^ j) true in
    let small : 2 ^ k ≤ 2 ^ j = pow_mono {i = k} {j = j} l in
    let two : f ≡ a ++ a = w ∙ ap (λ i. replicate i true) (double j) ∙ sym (replicate-append-replicate (2 ^ j) (2 ^ j) true) in
    let new : marked 0 n false f ≡ marked 0 n false a ++ a = ap (marked 0 n false) two ∙ marked_left 0 n false a a (omega (arith, len, small)) in
    let some : length f ≡ 2 ^ suc j = ap length w ∙ length-replicate (2 ^ suc j) true in
    let part : all_true (marked 0 n false a ++ a) ≡ false = ap all_true (sym new) ∙ marked_not_all 0 n f (pow_pos k) (omega (arith, some, pow_pos (suc j))) in
    let is : blocks (suc j) (marked 0 n false f) ≡ blocks j (marked 0 n false a) ++ map (shift (2 ^ j)) (blocks j a) = ap (blocks (suc j)) new ∙ blocks_halves j (marked 0 n false a) a (marked_len 0 n false a ∙ len) part in
    ap (has_block i (2 ^ i)) is ∙
    (elim (cases_eq i j) [
      | inl e ↦
          let one : has_block j 0 (blocks j a) ≡ true = ap (has_block j 0) (blocks_whole j a (all_replicate (2 ^ j))) ∙ one_has j in
          let at : 2 ^ j + 0 ≡ 2 ^ j = omega arith in
          let up : has_block j (2 ^ j) (map (shift (2 ^ j)) (blocks j a)) ≡ true = ap (λ q. has_block j q (map (shift (2 ^ j)) (blocks j a))) (sym at) ∙ has_shifted j 0 (2 ^ j) (blocks j a) one in
          has_right i (2 ^ i) (blocks j (marked 0 n false a)) (map (shift (2 ^ j)) (blocks j a)) (ap (λ x. has_block x (2 ^ x) (map (shift (2 ^ j)) (blocks j a))) e ∙ up)
      | inr o ↦ has_left i (2 ^ i) (blocks j (marked 0 n false a)) (map (shift (2 ^ j)) (blocks j a)) (whole_left j k i a l refl u (omega arith))
    ])

-- the upper halves of the block of order m at p, of which the lower part of order k is taken, and all blocks of other orders
pub record IsLeft (j m k p : ℕ) (f : List Bool) : Type 0 where
  pub halves : (i : ℕ) → k ≤ i → i < m → has_block i (p + 2 ^ i) (blocks j (marked p (2 ^ k) false f)) ≡ true
  pub others : (i q : ℕ) → i ≢ m → has_block i q (blocks j f) ≡ true → has_block i q (blocks j (marked p (2 ^ k) false f)) ≡ true

left_whole : (j m k : ℕ) (f : List Bool) → length f ≡ 2 ^ j → k ≤ m → all_true f ≡ true → has_order m (blocks j f) ≡ true → IsLeft j m k (first_block m (blocks j f)) f
left_whole j m k f len kl w h =
    let is : blocks j f ≡ (j, 0) ∷ [] = blocks_whole j f w in
    let jm : j ≡ m = order_whole_is j m (sym (ap (has_order m) is) ∙ h) in
    let z : 0 ≡ first_block m (blocks j f) = sym (ap (first_block m) is ∙ either (nat_eq j m) 0) in
    let all : f ≡ replicate (2 ^ j) true = all_from f w ∙ ap (λ n. replicate n true) len in
    subst (λ (p : ℕ). IsLeft j m k p f) z (record {
      halves = λ i u v. let at : 0 + 2 ^ i ≡ 2 ^ i = omega arith in ap (λ q. has_block i q (blocks j (marked 0 (2 ^ k) false f))) at ∙ whole_left j k i f (omega arith) all u (omega arith);
      others = λ i q n b. let o = free.has_one j i q (sym (ap (has_block i q) is) ∙ b) in absurd (n (sym o.0 ∙ jm));
    })

module _ (j m k : ℕ) (f g : List Bool) (lf : length f ≡ 2 ^ j) (lg : length g ≡ 2 ^ j) (n : all_true (f ++ g) ≡ false) where
  halves : blocks (suc j) (f ++ g) ≡ blocks j f ++ map (shift (2 ^ j)) (blocks j g)
  halves = blocks_halves j f g lf n

  left_low : has_order m (blocks j f) ≡ true → first_block m (blocks j f) + 2 ^ k ≤ 2 ^ j → IsLeft j m k (first_block m (blocks j f)) f → IsLeft (suc j) m k (first_block m (blocks (suc j) (f ++ g))) (f ++ g)
  left_low h within c =
      let p = first_block m (blocks j f) in
      let e : p ≡ first_block m (blocks (suc j) (f ++ g)) = sym (ap (first_block m) halves ∙ first_left m (blocks j f) (map (shift (2 ^ j)) (blocks j g)) h) in
      let new : marked p (2 ^ k) false (f ++ g) ≡ marked p (2 ^ k) false f ++ g = marked_left p (2 ^ k) false f g (omega (arith, lf, within)) in
      let part : all_true (marked p (2 ^ k) false f ++ g) ≡ false = ap all_true (sym new) ∙ marked_not_all p (2 ^ k) (f ++ g) (pow_pos k) (omega (arith, length_two, lf, within, pow_pos k)) in
      let is : blocks (suc j) (marked p (2 ^ k) false (f ++ g)) ≡ blocks j (marked p (2 ^ k) false f) ++ map (shift (2 ^ j)) (blocks j g) = ap (blocks (suc j)) new ∙ blocks_halves j (marked p (2 ^ k) false f) g (marked_len p (2 ^ k) false f ∙ lf) part in
      subst (λ (q : ℕ). IsLeft (suc j) m k q (f ++ g)) e (record {
        halves = λ i u v. ap (has_block i (p + 2 ^ i)) is ∙ has_left i (p + 2 ^ i) (blocks j (marked p (2 ^ k) false f)) (map (shift (2 ^ j)) (blocks j g)) (c.halves i u v);
        others = λ i q o b. ap (has_block i q) is ∙ (elim (free.has_append i q (blocks j f) (map (shift (2 ^ j)) (blocks j g)) (sym (ap (has_block i q) halves) ∙ b)) [
          | inl a ↦ has_left i q (blocks j (marked p (2 ^ k) false f)) (map (shift (2 ^ j)) (blocks j g)) (c.others i q o a)
          | inr a ↦ has_right i q (blocks j (marked p (2 ^ k) false f)) (map (shift (2 ^ j)) (blocks j g)) a
        ]);
      })
    where
      length_two : length (f ++ g) ≡ length f + length g
      length_two = length-append f g

  left_high : has_order m (blocks j f) ≡ false → has_order m (blocks j g) ≡ true → first_block m (blocks j g) + 2 ^ k ≤ 2 ^ j → IsLeft j m k (first_block m (blocks j g)) g → IsLeft (suc j) m k (first_block m (blocks (suc j) (f ++ g))) (f ++ g)
  left_high h hg within c =
      let p = first_block m (blocks j g) in
      let e : 2 ^ j + p ≡ first_block m (blocks (suc j) (f ++ g)) = sym (ap (first_block m) halves ∙ first_right m (blocks j f) (map (shift (2 ^ j)) (blocks j g)) h ∙ first_shift m (2 ^ j) (blocks j g) hg) in
      let new : marked (2 ^ j + p) (2 ^ k) false (f ++ g) ≡ f ++ marked p (2 ^ k) false g = marked_right (2 ^ j + p) p (2 ^ k) false f g (omega (arith, lf)) in
      let part : all_true (f ++ marked p (2 ^ k) false g) ≡ false = ap all_true (sym new) ∙ marked_not_all (2 ^ j + p) (2 ^ k) (f ++ g) (pow_pos k) (omega (arith, length-append f g, lf, lg, within, pow_pos k)) in
      let is : blocks (suc j) (marked (2 ^ j + p) (2 ^ k) false (f ++ g)) ≡ blocks j f ++ map (shift (2 ^ j)) (blocks j (marked p (2 ^ k) false g)) = ap (blocks (suc j)) new ∙ blocks_halves j f (marked p (2 ^ k) false g) lf part in
      let B = blocks j (marked p (2 ^ k) false g) in
      subst (λ (q : ℕ). IsLeft (suc j) m k q (f ++ g)) e (record {
        halves = λ i u v.
            let at : 2 ^ j + p + 2 ^ i ≡ 2 ^ j + (p + 2 ^ i) = omega arith in
            ap (has_block i (2 ^ j + p + 2 ^ i)) is ∙ has_right i (2 ^ j + p + 2 ^ i) (blocks j f) (map (shift (2 ^ j)) B) (ap (λ q. has_block i q (map (shift (2 ^ j)) B)) at ∙ has_shifted i (p + 2 ^ i) (2 ^ j) B (c.halves i u v));
        others = λ i q o b. ap (has_block i q) is ∙ (elim (free.has_append i q (blocks j f) (map (shift (2 ^ j)) (blocks j g)) (sym (ap (has_block i q) halves) ∙ b)) [
          | inl a ↦ has_left i q (blocks j f) (map (shift (2 ^ j)) B) a
          | inr a ↦
              let s = free.has_shift i q (2 ^ j) (blocks j g) a in
              let at : q ≡ 2 ^ j + (q - 2 ^ j) = omega (arith, s.0) in
              has_right i q (blocks j f) (map (shift (2 ^ j)) B) (ap (λ x. has_block i x (map (shift (2 ^ j)) B)) at ∙ has_shifted i (q - 2 ^ j) (2 ^ j) B (c.others i (q - 2 ^ j) o s.1))
        ]);
      })

no_blocks : (m : ℕ) (f : List Bool) → all_true f ≡ false → has_order m (blocks 0 f) ≡ true → ⊥
unfolding blocks
no_blocks m f w h = let e : has_order m (blocks 0 f) ≡ false = ap (λ t. has_order m (cond t ((0, 0) ∷ []) [])) w in cc

pub left : (j m k : ℕ) (f : List Bool) → length f ≡ 2 ^ j → k ≤ m → has_order m (blocks j f) ≡ true → IsLeft j m k (first_block m (blocks j f)) f
left zero m k f len kl h =
    let P : Bool → Type 0 = λ t. all_true f ≡ t → IsLeft zero m k (first_block m (blocks zero f)) f in
    (elim (all_true f) as P [ true ↦ λ w. left_whole zero m k f len kl w h | false ↦ λ w. absurd (no_blocks m f w h) ]) refl
left (suc j) m k f len kl h =
    let a = take (2 ^ j) f in
    let b = drop (2 ^ j) f in
    let is : a ++ b ≡ f = take-append-drop (2 ^ j) f in
    let la : length a ≡ 2 ^ j = omega (arith, length-take (2 ^ j) f, len, double j) in
    let lb : length b ≡ 2 ^ j = omega (arith, length-drop (2 ^ j) f, len, double j) in
    let P : Bool → Type 0 = λ t. all_true f ≡ t → IsLeft (suc j) m k (first_block m (blocks (suc j) f)) f in
    (elim (all_true f) as P [
      | true ↦ λ w. left_whole (suc j) m k f len kl w h
      | false ↦ λ w.
          let n : all_true (a ++ b) ≡ false = ap all_true is ∙ w in
          let cut : has_order m (blocks (suc j) f) ≡ (has_order m (blocks j a) || has_order m (map (shift (2 ^ j)) (blocks j b))) = ap (λ u. has_order m (blocks (suc j) u)) (sym is) ∙ ap (has_order m) (blocks_halves j a b la n) ∙ has_append m (blocks j a) (map (shift (2 ^ j)) (blocks j b)) in
          let Q : Bool → Type 0 = λ t. has_order m (blocks j a) ≡ t → IsLeft (suc j) m k (first_block m (blocks (suc j) (a ++ b))) (a ++ b) in
          subst (λ (u : List Bool). IsLeft (suc j) m k (first_block m (blocks (suc j) u)) u) is
          ((elim (has_order m (blocks j a)) as Q [
            | true ↦ λ e. left_low j m k a b la lb n e (carved j m k a la kl e).within (left j m k a la kl e)
            | false ↦ λ e.
                let g : has_order m (blocks j b) ≡ true = sym (has_shift m (2 ^ j) (blocks j b)) ∙ or_right (has_order m (blocks j a)) (has_order m (map (shift (2 ^ j)) (blocks j b))) e (sym cut ∙ h) in
                left_high j m k a b la lb n e g (carved j m k b lb kl g).within (left j m k b lb kl g)
          ]) refl)
    ]) refl

-- ---- one block of an order
pub none_of : (i : ℕ) (bs : List Free) → num i bs ≡ 0 → has_order i bs ≡ false
none_of i [] h = refl
none_of i (b ∷ bs) h = (elim (nat_eq b.0 i) as (λ t. tick t + num i bs ≡ 0 → (t || has_order i bs) ≡ false) [ true ↦ λ e. absurd (omega arith) | false ↦ λ e. none_of i bs (omega arith) ]) h

pub order_of : (i q : ℕ) (bs : List Free) → has_block i q bs ≡ true → has_order i bs ≡ true
order_of i q [] h = cc
order_of i q (b ∷ bs) h = (elim (nat_eq b.0 i) as (λ t. ((t && nat_eq b.1 q) || has_block i q bs) ≡ true → (t || has_order i bs) ≡ true) [ true ↦ λ e. refl | false ↦ λ e. order_of i q bs e ]) h

some_of : (i : ℕ) (bs : List Free) → has_order i bs ≡ true → 0 < num i bs
some_of i [] h = cc
some_of i (b ∷ bs) h = (elim (nat_eq b.0 i) as (λ t. (t || has_order i bs) ≡ true → 0 < tick t + num i bs) [ true ↦ λ e. omega arith | false ↦ λ e. omega (arith, some_of i bs e) ]) h

pub first_of : (i q : ℕ) (bs : List Free) → has_block i q bs ≡ true → num i bs ≤ 1 → first_block i bs ≡ q
first_of i q [] h o = cc
first_of i q (b ∷ bs) h o =
    let P : Bool → Type 0 = λ t. ((t && nat_eq b.1 q) || has_block i q bs) ≡ true → tick t + num i bs ≤ 1 → cond t b.1 (first_block i bs) ≡ q in
    let Q : Bool → Type 0 = λ t. nat_eq b.1 q ≡ t → (t || has_block i q bs) ≡ true → 1 + num i bs ≤ 1 → b.1 ≡ q in
    (elim (nat_eq b.0 i) as P [
      | true ↦ λ e l. (elim (nat_eq b.1 q) as Q [ true ↦ λ z g m. eqb-true b.1 q z | false ↦ λ z g m. absurd (omega (arith, some_of i bs (order_of i q bs g))) ]) refl e (omega arith)
      | false ↦ λ e l. first_of i q bs e (omega arith)
    ]) h o

-- ---- blocks lie apart
lie_end : (s e : ℕ) (bs : List Free) → LieInOrder s e bs → s ≤ e
lie_end s e [] a = a
lie_end s e (b ∷ bs) a = omega (arith, a.0, lie_end (b.1 + 2 ^ b.0) e bs a.1)

is_block : (o p : ℕ) (b : Free) → (nat_eq b.0 o && nat_eq b.1 p) ≡ true → (b.0 ≡ o) × (b.1 ≡ p) × (b.1 + 2 ^ b.0 ≡ p + 2 ^ o)
is_block o p b h =
    let e = free.and_both (nat_eq b.0 o) (nat_eq b.1 p) h in
    let x : b.0 ≡ o = eqb-true b.0 o e.0 in
    let y : b.1 ≡ p = eqb-true b.1 p e.1 in
    (x, y, ap (λ t. t + 2 ^ b.0) y ∙ ap (λ t. p + 2 ^ t) x)

lie_from : (s e : ℕ) (bs : List Free) (o p : ℕ) → LieInOrder s e bs → has_block o p bs ≡ true → (s ≤ p) × (p + 2 ^ o ≤ e)
lie_from s e [] o p a h = cc
lie_from s e (b ∷ bs) o p a h =
    let P : Bool → Type 0 = λ t. (nat_eq b.0 o && nat_eq b.1 p) ≡ t → (t || has_block o p bs) ≡ true → (s ≤ p) × (p + 2 ^ o ≤ e) in
    (elim (nat_eq b.0 o && nat_eq b.1 p) as P [
      | true ↦ λ t g. let i = is_block o p b t in (omega (arith, a.0, i.1), omega (arith, i.2, lie_end (b.1 + 2 ^ b.0) e bs a.1))
      | false ↦ λ t g. let i = lie_from (b.1 + 2 ^ b.0) e bs o p a.1 g in (omega (arith, a.0, i.0), i.1)
    ]) refl h

pub lie_apart : (s e : ℕ) (bs : List Free) (o p i q : ℕ) → LieInOrder s e bs → has_block o p bs ≡ true → has_block i q bs ≡ true → o ≢ i → Apart p o q i
lie_apart s e [] o p i q a h g n = cc
lie_apart s e (b ∷ bs) o p i q a h g n =
    let P : Bool → Type 0 = λ t. (nat_eq b.0 o && nat_eq b.1 p) ≡ t → (t || has_block o p bs) ≡ true → Apart p o q i in
    let Q : Bool → Type 0 = λ t. (nat_eq b.0 i && nat_eq b.1 q) ≡ t → (t || has_block i q bs) ≡ true → has_block o p bs ≡ true → Apart p o q i in
    let R : Bool → Type 0 = λ t. (nat_eq b.0 i && nat_eq b.1 q) ≡ t → (t || has_block i q bs) ≡ true → (b.0 ≡ o) × (b.1 ≡ p) × (b.1 + 2 ^ b.0 ≡ p + 2 ^ o) → Apart p o q i in
    (elim (nat_eq b.0 o && nat_eq b.1 p) as P [
      | true ↦ λ t u. (elim (nat_eq b.0 i && nat_eq b.1 q) as R [
        | true ↦ λ v w x. absurd (n (sym x.0 ∙ (is_block i q b v).0))
        | false ↦ λ v w x. let y = lie_from (b.1 + 2 ^ b.0) e bs i q a.1 w in inl (omega (arith, x.2, y.0))
      ]) refl g (is_block o p b t)
      | false ↦ λ t u. (elim (nat_eq b.0 i && nat_eq b.1 q) as Q [
        | true ↦ λ v w x. let y = lie_from (b.1 + 2 ^ b.0) e bs o p a.1 x in inr (omega (arith, (is_block i q b v).2, y.0))
        | false ↦ λ v w x. lie_apart (b.1 + 2 ^ b.0) e bs o p i q a.1 x w n
      ]) refl g u
    ]) refl h

pub each_has : (P : Free → Type 0) (o p : ℕ) (bs : List Free) → AllByRecursion P bs → has_block o p bs ≡ true → P (o, p)
each_has P o p [] a h = cc
each_has P o p (b ∷ bs) a h =
    let Q : Bool → Type 0 = λ t. (nat_eq b.0 o && nat_eq b.1 p) ≡ t → (t || has_block o p bs) ≡ true → P (o, p) in
    (elim (nat_eq b.0 o && nat_eq b.1 p) as Q [
      | true ↦ λ t g. let i = is_block o p b t in subst (λ (x : ℕ). P (x, p)) i.0 (subst (λ (y : ℕ). P (b.0, y)) i.1 a.0)
      | false ↦ λ t g. each_has P o p bs a.1 g
    ]) refl h
