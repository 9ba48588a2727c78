-- The way to a prefix: what is beside it has the answers that it had.
use Rattle.std.proofs.Common.{◌≡◌, ℕ, zero, suc, ◌+◌, ◌-◌, ◌*◌, ◌/◌, ◌%◌, ◌^◌, ◌<◌, ◌≤◌, List, [], ◌∷◌, ◌++◌, Bool, true, false, Option, Some, None, length, nat_eq, take, drop, min, refl, sym, ap, ◌∙◌, arith, subst}
use Rattle.std.proofs.lemmas.Bool.{eq-eqb}
use Rattle.std.proofs.lemmas.List.{length-append, take-take, take-append-le, take_all}
use Rattle.std.proofs.lemmas.Nat.{shr-shr, shr_below}
use Rattle.std.proofs.Math.Seq.{drop-append_seam}
use Rattle.table_model.specs.Bits.{bits_of, begins}
use Rattle.table_model.specs.Width.{width}
use Rattle.buddy_arena.specs.Space.{Space}
use Rattle.buddy_arena.specs.Places.{is_out}
use Rattle.fib_addr.specs.Views.{prefix_as}
use Rattle.table_model.proofs.BitLaws.{length-bits_of, bits_take, same_from_bits}
use Rattle.fib_addr.specs.Answers.{part}
use Rattle.poptrie_build.specs.Bits.{rank_of}
use Rattle.poptrie_build.specs.Build.{StandsIn}
use Rattle.poptrie_build.specs.Stands.{BySlot, IsLeaf, node_at}
use Rattle.poptrie_build.specs.Strides.{mixed, slot, slots, slot_bits}
use Rattle.poptrie_build.specs.declared.node.Node.{Node}
use Rattle.fib_addr.specs.declared.prefix.Prefix.{Prefix}
use Rattle.poptrie_build.proofs.Address.{behind, bits_cat}
use Rattle.path_copying.specs.Alike.{SameAnswers}
use Rattle.path_copying.specs.Kids.{IsKid, StandsAs}
use Rattle.path_copying.specs.Ways.{bits_left, AgreeBeside, IsOldNode, IsOldChild, IsOldKid, IsOldSlot}
use Rattle.path_copying.specs.declared.way.Way.{Way}
use Rattle.path_copying.proofs.Same.{same_hops, whole_alike}

-- ---- a prefix and the bits that begin with it
not_begun : (s p a : List Bool) → begins (drop (length s) p) a ≡ false → begins p (s ++ a) ≡ false
not_begun [] p a e = e
not_begun (b ∷ s) [] a e = e
not_begun (true ∷ s) (true ∷ p) a e = not_begun s p a e
not_begun (false ∷ s) (false ∷ p) a e = not_begun s p a e
not_begun (true ∷ s) (false ∷ p) a e = refl
not_begun (false ∷ s) (true ∷ p) a e = refl

begun_front : (n : ℕ) (p a : List Bool) → begins p a ≡ true → begins (take n p) (take n a) ≡ true
begun_front zero p a e = refl
begun_front (suc n) [] a e = refl
begun_front (suc n) (true ∷ p) [] e = cc
begun_front (suc n) (false ∷ p) [] e = cc
begun_front (suc n) (true ∷ p) (true ∷ a) e = begun_front n p a e
begun_front (suc n) (false ∷ p) (false ∷ a) e = begun_front n p a e
begun_front (suc n) (true ∷ p) (false ∷ a) e = cc
begun_front (suc n) (false ∷ p) (true ∷ a) e = cc

begun_same : (p a : List Bool) → length p ≡ length a → begins p a ≡ true → p ≡ a
begun_same [] [] l e = refl
begun_same [] (b ∷ a) l e = absurd (omega (arith, l))
begun_same (b ∷ p) [] l e = absurd (omega (arith, l))
begun_same (true ∷ p) (true ∷ a) l e = ap (λ x. true ∷ x) (begun_same p a (omega (arith, l)) e)
begun_same (false ∷ p) (false ∷ a) l e = ap (λ x. false ∷ x) (begun_same p a (omega (arith, l)) e)
begun_same (true ∷ p) (false ∷ a) l e = cc
begun_same (false ∷ p) (true ∷ a) l e = cc

-- ---- the answers of a part
pub beside_part : (s p : List Bool) (d : ℕ) (f g : List Bool → ℕ) → AgreeBeside p (length s + d) f g → AgreeBeside (drop (length s) p) d (part s f) (part s g)
beside_part s p d f g h a l e = h (s ++ a) (length-append s a ∙ omega (arith, l)) (not_begun s p a e)

six_bits_long : (d v : ℕ) → 6 ≤ d → slot_bits d v ≡ bits_of 6 v
six_bits_long d v l = take_all d (bits_of 6 v) (let n = length-bits_of 6 v in omega (arith, l, n))

pub beside_slot : (p : List Bool) (d v : ℕ) (f g : List Bool → ℕ) → 6 ≤ d → AgreeBeside p d f g → AgreeBeside (drop 6 p) (d - 6) (slot d f v) (slot d g v)
beside_slot p d v f g l h =
    let six : length (slot_bits d v) ≡ 6 = ap length (six_bits_long d v l) ∙ length-bits_of 6 v in
    let sum : length (slot_bits d v) + (d - 6) ≡ d = omega (arith, six, l) in
    subst (λ (n : ℕ). AgreeBeside (drop n p) (d - 6) (slot d f v) (slot d g v)) six
    (beside_part (slot_bits d v) p (d - 6) f g (subst (λ (n : ℕ). AgreeBeside p n f g) (sym sum) h))

-- ---- the bits that are left
pub drop_drop : (n m : ℕ) (l : List Bool) → drop m (drop n l) ≡ drop (n + m) l
drop_drop zero m l = let e : zero + m ≡ m = omega arith in ap (λ k. drop k l) (sym e)
drop_drop (suc n) zero [] = let e : suc n + zero ≡ suc n = omega arith in ap (λ k. drop k []) (sym e)
drop_drop (suc n) (suc m) [] = let e : suc n + suc m ≡ suc (n + suc m) = omega arith in ap (λ k. drop k []) (sym e)
drop_drop (suc n) m (x ∷ l) = let e : suc n + m ≡ suc (n + m) = omega arith in drop_drop n m l ∙ ap (λ k. drop k (x ∷ l)) (sym e)

pub left_below : (w b t : ℕ) (p : List Bool) → b ≤ w → t ≤ b → drop (w - (b - t)) p ≡ drop t (drop (w - b) p)
left_below w b t p l m = sym (drop_drop (w - b) t p ∙ (let e : w - b + t ≡ w - (b - t) = omega (arith, l, m) in ap (λ n. drop n p) e))

-- ---- the slots that hold addresses of the prefix
take_nil : {A : Type 0} (a : ℕ) → take {A = A} a [] ≡ []
take_nil zero = refl
take_nil (suc a) = refl

drop_take : (a b : ℕ) (l : List Bool) → drop a (take b l) ≡ take (b - a) (drop a l)
drop_take zero b l = let e : b - zero ≡ b = omega arith in ap (λ n. take n l) (sym e)
drop_take (suc a) zero l = let e : zero - suc a ≡ zero = omega arith in sym (ap (λ n. take n (drop (suc a) l)) e)
drop_take (suc a) (suc b) [] = sym (take_nil (suc b - suc a))
drop_take (suc a) (suc b) (x ∷ l) = let e : suc b - suc a ≡ b - a = omega arith in drop_take a b l ∙ ap (λ n. take n (drop a l)) (sym e)

last_bits : (w b n : ℕ) → b ≤ w → drop (w - b) (bits_of w n) ≡ bits_of b n
last_bits w b n l =
    let j = w - b in
    let e : w ≡ j + b = omega (arith, l) in
    ap (λ m. drop j (bits_of m n)) e
    ∙ (ap (drop j) (bits_cat j b n)
    ∙ (ap (λ m. drop m (bits_of j (n / 2 ^ b) ++ bits_of b n)) (sym (length-bits_of j (n / 2 ^ b))) ∙ drop-append_seam (bits_of j (n / 2 ^ b)) (bits_of b n)))

-- the first t of the b lowest bits of a number, from the number moved up
next_bits : (b t n : ℕ) → b ≤ 128 → t ≤ b → take t (bits_of b n) ≡ bits_of t (n * 2 ^ (128 - b) % 2 ^ 128 / 2 ^ (128 - t))
next_bits b t n l m =
    let s = 128 - b in
    let e : s + t - s ≡ t = omega arith in
    sym (ap (take t) (last_bits 128 b n l))
    ∙ (ap (λ x. take x (drop s (bits_of 128 n))) (sym e)
    ∙ (sym (drop_take s (s + t) (bits_of 128 n))
    ∙ (behind s t n (omega (arith, l, m)) ∙ bits_take 128 t (n * 2 ^ s % 2 ^ 128) (omega (arith, l, m)))))

pub met : (w n len b t v : ℕ) (a : List Bool) → b ≤ w → w ≤ 128 → 6 ≤ b → v < 64 → n * 2 ^ (128 - b) % 2 ^ 128 < 2 ^ 128 → t ≡ min (len - (w - b)) 6 → begins (drop (w - b) (take len (bits_of w n))) (bits_of 6 v ++ a) ≡ true → n * 2 ^ (128 - b) % 2 ^ 128 / 2 ^ 122 / 2 ^ (6 - t) ≡ v / 2 ^ (6 - t)
met w n len b t v a fits most six low small is begun =
    let x = n * 2 ^ (128 - b) % 2 ^ 128 in
    let left = len - (w - b) in
    let rest : drop (w - b) (take len (bits_of w n)) ≡ take left (bits_of b n) = drop_take (w - b) len (bits_of w n) ∙ ap (take left) (last_bits w b n fits) in
    let front = begun_front t (drop (w - b) (take len (bits_of w n))) (bits_of 6 v ++ a) begun in
    let p : take t (drop (w - b) (take len (bits_of w n))) ≡ bits_of t (x / 2 ^ (128 - t)) = ap (take t) rest ∙ (take-take t left (bits_of b n) (omega (arith, is)) ∙ next_bits b t n (omega (arith, fits, most)) (omega (arith, is, six))) in
    let q : take t (bits_of 6 v ++ a) ≡ bits_of t (v / 2 ^ (6 - t)) = take-append-le t (bits_of 6 v) a (let k = length-bits_of 6 v in omega (arith, k, is)) ∙ bits_take 6 t v (omega (arith, is)) in
    let long : length (take t (drop (w - b) (take len (bits_of w n)))) ≡ length (take t (bits_of 6 v ++ a)) = ap length p ∙ (length-bits_of t (x / 2 ^ (128 - t)) ∙ sym (ap length q ∙ length-bits_of t (v / 2 ^ (6 - t)))) in
    let same = sym p ∙ (begun_same _ _ long front ∙ q) in
    let sum : 122 + (6 - t) ≡ 128 - t = omega (arith, is) in
    let parts : t + (128 - t) ≡ 128 = omega (arith, is) in
    let six_parts : t + (6 - t) ≡ 6 = omega (arith, is) in
    shr-shr x 122 (6 - t)
    ∙ (ap (λ k. x / 2 ^ k) sum
    ∙ same_from_bits t (x / 2 ^ (128 - t)) (v / 2 ^ (6 - t)) (shr_below x t (128 - t) (subst (λ (k : ℕ). x < 2 ^ k) (sym parts) small)) (shr_below v t (6 - t) (subst (λ (k : ℕ). v < 2 ^ k) (sym six_parts) low)) same)

pub not_met : (w n len b t v : ℕ) → b ≤ w → w ≤ 128 → 6 ≤ b → v < 64 → t ≡ min (len - (w - b)) 6 → nat_eq (n * 2 ^ (128 - b) % 2 ^ 128 / 2 ^ 122 / 2 ^ (6 - t)) (v / 2 ^ (6 - t)) ≡ false → (a : List Bool) → begins (drop (w - b) (take len (bits_of w n))) (bits_of 6 v ++ a) ≡ false
not_met w n len b t v fits most six low is ne a = by (begins (drop (w - b) (take len (bits_of w n))) (bits_of 6 v ++ a)) refl
  where
    by : (x : Bool) → begins (drop (w - b) (take len (bits_of w n))) (bits_of 6 v ++ a) ≡ x → begins (drop (w - b) (take len (bits_of w n))) (bits_of 6 v ++ a) ≡ false
    by true e =
        let same = met w n len b t v a fits most six low (omega arith) is e in
        let yes = eq-eqb (n * 2 ^ (128 - b) % 2 ^ 128 / 2 ^ 122 / 2 ^ (6 - t)) (v / 2 ^ (6 - t)) same in
        cc
    by false e = e

-- the answers of a slot that holds none of them
pub slot_beside : (p : List Bool) (d v : ℕ) (f g : List Bool → ℕ) → 6 ≤ d → ((a : List Bool) → begins p (bits_of 6 v ++ a) ≡ false) → AgreeBeside p d f g → SameAnswers (d - 6) (slot d f v) (slot d g v)
slot_beside p d v f g l none h a n =
    let e = six_bits_long d v l in
    let six : length (slot_bits d v) ≡ 6 = ap length e ∙ length-bits_of 6 v in
    h (slot_bits d v ++ a) (length-append (slot_bits d v) a ∙ omega (arith, six, l, n)) (ap (λ (x : List Bool). begins p (x ++ a)) e ∙ none a)

-- ---- a node stands for one list of answers
pub one_node : (k j : ℕ) (nodes : List Node) (N M : ℕ → Bool) (leaves : List ℕ) (L K : ℕ → Bool) (n : Node) (d : ℕ) (f g : List Bool → ℕ) → StandsIn k nodes N leaves L n d f → StandsIn j nodes M leaves K n d g → SameAnswers d f g
unfolding StandsIn
one_node zero j nodes N M leaves L K n d f g s t = absurd s
one_node (suc k) zero nodes N M leaves L K n d f g s t = absurd t
one_node (suc k) (suc j) nodes N M leaves L K n d f g s t =
    whole_alike d f g 64 (omega arith) (record { each = λ u l. by u (λ x y. one_node k j nodes N M leaves L K (node_at nodes (n.base1 + rank_of n.vector (u + 1) - 1)) (d - 6) (slot d f u) (slot d g u) x y) (slots d f u) (slots d g u) refl refl (sym (s.1.nodes u l) ∙ t.1.nodes u l) (s.2 u l) (t.2 u l) })
  where
    by : (u : ℕ) → (StandsIn k nodes N leaves L (node_at nodes (n.base1 + rank_of n.vector (u + 1) - 1)) (d - 6) (slot d f u) → StandsIn j nodes M leaves K (node_at nodes (n.base1 + rank_of n.vector (u + 1) - 1)) (d - 6) (slot d g u) → SameAnswers (d - 6) (slot d f u) (slot d g u)) → (x y : Option ℕ) → slots d f u ≡ x → slots d g u ≡ y → mixed (slots d f u) ≡ mixed (slots d g u) →
        BySlot x ((N (n.base1 + rank_of n.vector (u + 1) - 1) ≡ true) × (n.base1 + rank_of n.vector (u + 1) - 1 < length nodes) × StandsIn k nodes N leaves L (node_at nodes (n.base1 + rank_of n.vector (u + 1) - 1)) (d - 6) (slot d f u)) (λ h. (L (n.base0 + rank_of n.leafvec (u + 1) - 1) ≡ true) × IsLeaf leaves (n.base0 + rank_of n.leafvec (u + 1) - 1) h) →
        BySlot y ((M (n.base1 + rank_of n.vector (u + 1) - 1) ≡ true) × (n.base1 + rank_of n.vector (u + 1) - 1 < length nodes) × StandsIn j nodes M leaves K (node_at nodes (n.base1 + rank_of n.vector (u + 1) - 1)) (d - 6) (slot d g u)) (λ h. (K (n.base0 + rank_of n.leafvec (u + 1) - 1) ≡ true) × IsLeaf leaves (n.base0 + rank_of n.leafvec (u + 1) - 1) h) → SameAnswers (d - 6) (slot d f u) (slot d g u)
    by u again None None e q m a b = again a.2 b.2
    by u again (Some h) (Some i) e q m a b = let is : i ≡ h = sym b.1.1 ∙ a.1.1 in same_hops d u h f g e (q ∙ ap Some is)
    by u again None (Some i) e q m a b = let x : mixed (slots d f u) ≡ 1 = ap mixed e in let y : mixed (slots d g u) ≡ 0 = ap mixed q in absurd (omega (arith, m, x, y))
    by u again (Some h) None e q m a b = let x : mixed (slots d f u) ≡ 0 = ap mixed e in let y : mixed (slots d g u) ≡ 1 = ap mixed q in absurd (omega (arith, m, x, y))

-- ---- what stood, from slot to slot
pub left_way : (w w2 : Way) (t : ℕ) → w2.prefix ≡ w.prefix → w2.bits ≡ w.bits - t → t ≤ w.bits → bits_left w2 ≡ drop t (bits_left w)
left_way w w2 t p b l =
    ap (λ (x : Prefix). drop (width x.family - w2.bits) (prefix_as x).bits) p
    ∙ (ap (λ n. drop (width w.prefix.family - n) (prefix_as w.prefix).bits) b
    ∙ left_below (width w.prefix.family) w.bits t (prefix_as w.prefix).bits w.fits l)

pub old_below : (w w2 : Way) (nodes : Space Node) (leaves : Space ℕ) (n was : Option Node) (v d b : ℕ) (f g : List Bool → ℕ) → n ≡ was → w2.prefix ≡ w.prefix → w2.bits ≡ w.bits - 6 → w.bits ≡ d → 6 ≤ d → b ≡ d - 6 → g ≡ slot d f v → IsOldSlot nodes leaves was v (bits_left w) d f → IsOldKid nodes leaves n (bits_left w2) b g
old_below w w2 nodes leaves n was v d b f g is ep ew way six eb eg (k, h, s, beside) =
    let left = left_way w w2 6 ep ew (omega (arith, way, six)) in (
      k,
      slot d h v,
      subst (λ (x : Option Node). StandsAs k nodes.cells (is_out nodes.free) leaves.cells (is_out leaves.free) x b (slot d h v)) (sym is) (subst (λ (e : ℕ). StandsAs k nodes.cells (is_out nodes.free) leaves.cells (is_out leaves.free) was e (slot d h v)) (sym eb) s),
      subst (λ (p : List Bool). AgreeBeside p b g (slot d h v)) (sym left)
          (subst (λ (e : ℕ). AgreeBeside (drop 6 (bits_left w)) e g (slot d h v)) (sym eb)
          (subst (λ (x : List Bool → ℕ). AgreeBeside (drop 6 (bits_left w)) (d - 6) x (slot d h v)) (sym eg) (beside_slot (bits_left w) d v f h six beside))),
    )

pub node_below : (w w2 : Way) (nodes : List Node) (leaves : List ℕ) (n : Node) (v d b : ℕ) (f g : List Bool → ℕ) → w2.prefix ≡ w.prefix → w2.bits ≡ w.bits - 6 → w.bits ≡ d → 6 ≤ d → b ≡ d - 6 → g ≡ slot d f v → IsOldChild nodes leaves n v (bits_left w) d f → IsOldNode nodes leaves n (bits_left w2) b g
node_below w w2 nodes leaves n v d b f g ep ew way six eb eg (k, N, L, h, s, beside) =
    let left = left_way w w2 6 ep ew (omega (arith, way, six)) in (
      k,
      N,
      L,
      slot d h v,
      subst (λ (e : ℕ). StandsIn k nodes N leaves L n e (slot d h v)) (sym eb) s,
      subst (λ (p : List Bool). AgreeBeside p b g (slot d h v)) (sym left)
          (subst (λ (e : ℕ). AgreeBeside (drop 6 (bits_left w)) e g (slot d h v)) (sym eb)
          (subst (λ (x : List Bool → ℕ). AgreeBeside (drop 6 (bits_left w)) (d - 6) x (slot d h v)) (sym eg) (beside_slot (bits_left w) d v f h six beside))),
    )

pub slot_child : (nodes : Space Node) (leaves : Space ℕ) (was : Option Node) (n : Node) (v : ℕ) (p : List Bool) (d : ℕ) (f : List Bool → ℕ) → was ≡ Some n → IsOldSlot nodes leaves was v p d f → IsOldChild nodes.cells leaves.cells n v p d f
slot_child nodes leaves was n v p d f is (k, g, s, beside) = (k, is_out nodes.free, is_out leaves.free, g, subst (λ (x : Option Node). StandsAs k nodes.cells (is_out nodes.free) leaves.cells (is_out leaves.free) x (d - 6) (slot d g v)) is s, beside)

pub slot_kid : (nodes : Space Node) (leaves : Space ℕ) (was : Option Node) (n : Node) (v : ℕ) (p : List Bool) (d b : ℕ) (f : List Bool → ℕ) → was ≡ Some n → b ≡ d → IsOldSlot nodes leaves was v p d f → IsKid nodes leaves (Some n) (b - 6)
slot_kid nodes leaves was n v p d b f is e (k, g, s, beside) = subst (λ (m : ℕ). IsKid nodes leaves (Some n) (m - 6)) (sym e) (k, slot d g v, subst (λ (x : Option Node). StandsAs k nodes.cells (is_out nodes.free) leaves.cells (is_out leaves.free) x (d - 6) (slot d g v)) is s)
