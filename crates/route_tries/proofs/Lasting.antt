-- Nodes on the way to a path that last, whatever changes within it.
use Rattle.std.proofs.Common.{◌≡◌, ℕ, zero, suc, ◌+◌, ◌-◌, ◌^◌, ◌<◌, ◌≤◌, ◌⊎◌, inl, inr, List, [], ◌∷◌, ◌++◌, Bool, true, false, cond, Option, Some, None, length, take, drop, refl, sym, ap, ◌∙◌, arith}
use Rattle.std.specs.Prelude.{not, if◌then◌else◌}
use Rattle.std.proofs.lemmas.Bool.{eq-eqb}
use Rattle.std.proofs.lemmas.List.{length-take, length-drop}
use Rattle.table_model.specs.Bits.{bits_of}
use Rattle.table_model.proofs.BitLaws.{length-bits_of}
use Rattle.fib_addr.specs.Answers.{part, one_answer}
use Rattle.fib_addr.proofs.OneAnswer.{one_answer_part}
use Rattle.table_model.specs.Sets.{side}
use Rattle.buddy_arena.specs.Powers.{up}
use Rattle.poptrie_build.specs.Strides.{slots, slot, slot_bits, mixed, total}
use Rattle.poptrie_build.specs.Need.{need_in_u64, children, runs, if_mixed, need_nodes, need_leaves}
use Rattle.poptrie_build.proofs.Slotting.{double, low_bits, high_bits}
use Rattle.route_tries.specs.Parts.{AreMoved, meet, half_and, answer_beside, are_two, lasts, way_nodes, way_leaves, deep_nodes, deep_leaves}
use Rattle.route_tries.proofs.Meeting.{apart, begins_front, met_is}
use Rattle.route_tries.proofs.Ways.{same_function, AlikeElse, six, total_moved, own_nodes, own_leaves, nodes_by_slots, leaves_by_slots, no_strides_nodes, no_strides_leaves, no_way_nodes, no_way_leaves, whole_nodes, whole_leaves, nodes_moved_below, leaves_moved_below}

-- ---- what is beside a path
-- a change within the path changes nothing beside it
pub alike_beside : (d : ℕ) (f g : List Bool → ℕ) (p : List Bool) → AlikeElse p f g → answer_beside d f p ≡ answer_beside d g p
unfolding answer_beside
alike_beside zero f g p h = refl
alike_beside (suc d) f g [] h = refl
alike_beside (suc d) f g (true ∷ p) h =
    ap (λ (x : List Bool → ℕ). Some (half_and (one_answer d x) (answer_beside d (side true f) p))) (same_function (side false f) (side false g) (λ a. h (false ∷ a) refl))
    ∙ ap (λ (x : Option (Option ℕ)). Some (half_and (one_answer d (side false g)) x)) (alike_beside d (side true f) (side true g) p (λ a e. h (true ∷ a) e))
alike_beside (suc d) f g (false ∷ p) h =
    ap (λ (x : List Bool → ℕ). Some (half_and (one_answer d x) (answer_beside d (side false f) p))) (same_function (side true f) (side true g) (λ a. h (true ∷ a) refl))
    ∙ ap (λ (x : Option (Option ℕ)). Some (half_and (one_answer d (side true g)) x)) (alike_beside d (side false f) (side false g) p (λ a e. h (false ∷ a) e))

-- nothing is beside the empty path
pub none_beside : (d : ℕ) (f : List Bool → ℕ) → answer_beside d f [] ≡ None
unfolding answer_beside
none_beside zero f = refl
none_beside (suc d) f = refl

joined : (o : Option ℕ) (x : Option (Option ℕ)) (h : ℕ) → o ≡ Some h → (x ≡ None) ⊎ (x ≡ Some (Some h)) → Some (half_and o x) ≡ Some (Some h)
joined o x h e (inl z) = ap (λ (y : Option ℕ). Some (half_and y x)) e ∙ ap (λ (y : Option (Option ℕ)). Some (half_and (Some h) y)) z
joined o x h e (inr z) =
    ap (λ (y : Option ℕ). Some (half_and y x)) e ∙ (ap (λ (y : Option (Option ℕ)). Some (half_and (Some h) y)) z ∙ ap (λ (b : Bool). Some (cond b (Some h) None)) (eq-eqb h h refl))

-- in a uniform region all that is beside a path has its hop
one_beside : (d h : ℕ) (f : List Bool → ℕ) (p : List Bool) → one_answer d f ≡ Some h → (answer_beside d f p ≡ None) ⊎ (answer_beside d f p ≡ Some (Some h))
unfolding answer_beside
one_beside zero h f p e = inl refl
one_beside (suc d) h f [] e = inl refl
one_beside (suc d) h f (b ∷ p) e =
    inr (joined (one_answer d (side (not b) f)) (answer_beside d (side b f) p) h (one_answer_part (suc d) d f h (not b ∷ []) (omega arith) e) (one_beside d h (side b f) p (one_answer_part (suc d) d f h (b ∷ []) (omega arith) e)))

pub lasts_mixed : (d : ℕ) (f : List Bool → ℕ) (p : List Bool) → lasts d f p ≡ true → one_answer d f ≡ None
lasts_mixed d f p l = by (one_answer d f) refl
  where
    not_two : (x : Option (Option ℕ)) (h : ℕ) → are_two x ≡ true → (x ≡ None) ⊎ (x ≡ Some (Some h)) → one_answer d f ≡ None
    not_two x h t (inl z) = absurd (let w : true ≡ false = sym t ∙ ap are_two z in cc)
    not_two x h t (inr z) = absurd (let w : true ≡ false = sym t ∙ ap are_two z in cc)

    by : (o : Option ℕ) → one_answer d f ≡ o → one_answer d f ≡ None
    by None e = e
    by (Some h) e = not_two (answer_beside d f p) h l (one_beside d h f p e)

-- what lasts has bits, and something is left of the path
pub lasts_more : (d : ℕ) (f : List Bool → ℕ) (p : List Bool) → lasts d f p ≡ true → (0 < d) × (0 < length p)
unfolding answer_beside
lasts_more zero f p l = absurd (let w : false ≡ true = l in cc)
lasts_more (suc d) f [] l = absurd (let w : false ≡ true = l in cc)
lasts_more (suc d) f (b ∷ p) l = (omega arith, omega arith)

-- a region of which a part has two answers has two
pub mixed_part : (d n : ℕ) (f : List Bool → ℕ) (p : List Bool) → length p + n ≡ d → one_answer n (part p f) ≡ None → one_answer d f ≡ None
mixed_part d n f p l e = by (one_answer d f) refl
  where
    by : (o : Option ℕ) → one_answer d f ≡ o → one_answer d f ≡ None
    by None z = z
    by (Some h) z = absurd (let w : Some h ≡ None = sym (one_answer_part d n f h p l z) ∙ e in cc)

-- ---- sums with one part
total_within : (g h : ℕ → ℕ) (n : ℕ) → ((u : ℕ) → u < n → g u ≡ h u) → total g n ≡ total h n
unfolding total
total_within g h zero e = refl
total_within g h (suc n) e = omega (arith, total_within g h n (λ u l. e u (omega arith)), e n (omega arith))

total_zero : (n : ℕ) → total (λ u. 0) n ≡ 0
unfolding total
total_zero zero = refl
total_zero (suc n) = omega (arith, total_zero n)

total_and : (g : ℕ → ℕ) (m n : ℕ) → total g (m + n) ≡ total g m + total (λ u. g (m + u)) n
unfolding total
total_and g m zero = let z : m + zero ≡ m = omega arith in ap (total g) z ∙ omega arith
total_and g m (suc n) = let s : m + suc n ≡ suc (m + n) = omega arith in ap (total g) s ∙ omega (arith, total_and g m n)

-- of the numbers of j bits one meets a path that is as long or longer
pub total_one : (j : ℕ) (p : List Bool) (x : ℕ) → j ≤ length p → total (λ v. if meet (bits_of j v) p then x else 0) (2 ^ j) ≡ x
unfolding total bits_of
total_one zero p x l = omega arith
total_one (suc j) [] x l = absurd (omega arith)
total_one (suc j) (true ∷ p) x l =
    let g = λ (v : ℕ). if meet (bits_of (suc j) v) (true ∷ p) then x else 0 in
    let low = total_within g (λ u. 0) (2 ^ j) (λ u m. ap (λ (y : List Bool). if meet y (true ∷ p) then x else 0) (low_bits j u m)) ∙ total_zero (2 ^ j) in
    let high = total_within (λ u. g (2 ^ j + u)) (λ v. if meet (bits_of j v) p then x else 0) (2 ^ j) (λ u m. ap (λ (y : List Bool). if meet y (true ∷ p) then x else 0) (high_bits j u m)) ∙ total_one j p x (omega arith) in
    ap (total g) (double j) ∙ omega (arith, total_and g (2 ^ j) (2 ^ j), low, high)
total_one (suc j) (false ∷ p) x l =
    let g = λ (v : ℕ). if meet (bits_of (suc j) v) (false ∷ p) then x else 0 in
    let low = total_within g (λ v. if meet (bits_of j v) p then x else 0) (2 ^ j) (λ u m. ap (λ (y : List Bool). if meet y (false ∷ p) then x else 0) (low_bits j u m)) ∙ total_one j p x (omega arith) in
    let high = total_within (λ u. g (2 ^ j + u)) (λ u. 0) (2 ^ j) (λ u m. ap (λ (y : List Bool). if meet y (false ∷ p) then x else 0) (high_bits j u m)) ∙ total_zero (2 ^ j) in
    ap (total g) (double j) ∙ omega (arith, total_and g (2 ^ j) (2 ^ j), low, high)

-- ---- the slot on the way
slot_on : (d v : ℕ) (f : List Bool → ℕ) (p : List Bool) → 6 ≤ d → 6 ≤ length p → meet (bits_of 6 v) p ≡ true → slot d f v ≡ part (take 6 p) f
slot_on d v f p l n e =
    let long : length (bits_of 6 v) ≤ length p = omega (arith, length-bits_of 6 v) in
    ap (λ (q : List Bool). part q f) (six d v l ∙ (met_is (bits_of 6 v) p long e ∙ ap (λ m. take m p) (length-bits_of 6 v)))

slot_off : (d v : ℕ) (f g : List Bool → ℕ) (p : List Bool) → 6 ≤ d → AlikeElse p f g → meet (bits_of 6 v) p ≡ false → slot d f v ≡ slot d g v
slot_off d v f g p l h e =
    let met : meet (slot_bits d v) p ≡ false = ap (λ q. meet q p) (six d v l) ∙ e in
    same_function (slot d f v) (slot d g v) (λ a. h (slot_bits d v ++ a) (apart (slot_bits d v) p a met))

front_alike : (f g : List Bool → ℕ) (p : List Bool) → AlikeElse p f g → AlikeElse (drop 6 p) (part (take 6 p) f) (part (take 6 p) g)
front_alike f g p h a e = h (take 6 p ++ a) (begins_front 6 p a ∙ e)

lasts_alike : (d : ℕ) (f g : List Bool → ℕ) (p : List Bool) → AlikeElse p f g → lasts (d - 6) (part (take 6 p) f) (drop 6 p) ≡ lasts (d - 6) (part (take 6 p) g) (drop 6 p)
lasts_alike d f g p h = ap are_two (alike_beside (d - 6) (part (take 6 p) f) (part (take 6 p) g) (drop 6 p) (front_alike f g p h))

-- A region whose part on the way lasts, before a change within the path and after it: the slots are the same.
module _ (d : ℕ) (f g : List Bool → ℕ) (p : List Bool) (h : AlikeElse p f g) (last : lasts (d - 6) (part (take 6 p) f) (drop 6 p) ≡ true) where
  pub more : (6 < d) × (6 < length p)
  more = let m = lasts_more (d - 6) (part (take 6 p) f) (drop 6 p) last in (omega (arith, m.0), omega (arith, m.1, length-drop 6 p))

  pub lasts_on : lasts (d - 6) (part (take 6 p) g) (drop 6 p) ≡ true
  lasts_on = sym (lasts_alike d f g p h) ∙ last

  next_two : one_answer (d - 6) (part (take 6 p) f) ≡ None
  next_two = lasts_mixed (d - 6) (part (take 6 p) f) (drop 6 p) last

  next_two_on : one_answer (d - 6) (part (take 6 p) g) ≡ None
  next_two_on = lasts_mixed (d - 6) (part (take 6 p) g) (drop 6 p) lasts_on

  front_bits : length (take 6 p) + (d - 6) ≡ d
  front_bits = omega (arith, length-take 6 p, more.0, more.1)

  pub two : one_answer d f ≡ None
  two = mixed_part d (d - 6) f (take 6 p) front_bits next_two

  pub two_on : one_answer d g ≡ None
  two_on = mixed_part d (d - 6) g (take 6 p) front_bits next_two_on

  slot_alike : (v : ℕ) (b : Bool) → meet (bits_of 6 v) p ≡ b → slots d f v ≡ slots d g v
  slot_alike v true e =
      let on = slot_on d v f p (omega (arith, more.0)) (omega (arith, more.1)) e in
      let on_too = slot_on d v g p (omega (arith, more.0)) (omega (arith, more.1)) e in
      ap (one_answer (d - 6)) on ∙ (next_two ∙ (sym next_two_on ∙ sym (ap (one_answer (d - 6)) on_too)))
  slot_alike v false e = ap (one_answer (d - 6)) (slot_off d v f g p (omega (arith, more.0)) h e)

  pub slots_alike : slots d f ≡ slots d g
  slots_alike = λ i v. slot_alike v (meet (bits_of 6 v) p) refl i

-- A need N over strides, of which W on the way to a path is moved by a change within it, and D is W from the deepest node on that lasts.
module _ (N : ℕ → ℕ → (List Bool → ℕ) → ℕ) (W D : ℕ → ℕ → (List Bool → ℕ) → List Bool → ℕ) (own : ℕ → (List Bool → ℕ) → ℕ) (by_slots : (k d : ℕ) (f : List Bool → ℕ) → N (suc k) d f ≡ own d f + total (λ v. N k (d - 6) (slot d f v)) 64) (own_alike : (d : ℕ) (f g : List Bool → ℕ) → one_answer d f ≡ None → one_answer d g ≡ None → slots d f ≡ slots d g → own d f ≡ own d g) (no_strides : (d : ℕ) (f : List Bool → ℕ) → N 0 d f ≡ 0) (no_deep_strides : (d : ℕ) (f : List Bool → ℕ) (p : List Bool) → D 0 d f p ≡ 0) (way_moved : (k d : ℕ) (f g : List Bool → ℕ) (p : List Bool) → AlikeElse p f g → AreMoved (N k d f) (N k d g) (W k d f p) (W k d g p))
    (deeper : (k d : ℕ) (f : List Bool → ℕ) (p : List Bool) → D (suc k) d f p ≡ (if lasts (d - 6) (part (take 6 p) f) (drop 6 p) then D k (d - 6) (part (take 6 p) f) (drop 6 p) else W (suc k) d f p)) where
  -- the slot on the way moves its sum as its own need moves
  sum_moved : (k d : ℕ) (f g : List Bool → ℕ) (p : List Bool) (x y : ℕ) → 6 ≤ d → 6 ≤ length p → AlikeElse p f g → AreMoved (N k (d - 6) (part (take 6 p) f)) (N k (d - 6) (part (take 6 p) g)) x y → (v : ℕ) (b : Bool) → meet (bits_of 6 v) p ≡ b →
      AreMoved (N k (d - 6) (slot d f v)) (N k (d - 6) (slot d g v)) (if b then x else 0) (if b then y else 0)
  sum_moved k d f g p x y l n h m v true e =
      let on = ap (N k (d - 6)) (slot_on d v f p l n e) in
      let on_too = ap (N k (d - 6)) (slot_on d v g p l n e) in
      record { few = omega (arith, on, m.few); same = omega (arith, on, on_too, m.same) }
  sum_moved k d f g p x y l n h m v false e = record { few = omega arith; same = omega (arith, ap (N k (d - 6)) (slot_off d v f g p l h e)) }

  step : (k d : ℕ) (f g : List Bool → ℕ) (p : List Bool) → AlikeElse p f g → ((x y : List Bool → ℕ) (q : List Bool) → AlikeElse q x y → AreMoved (N k (d - 6) x) (N k (d - 6) y) (D k (d - 6) x q) (D k (d - 6) y q)) → (b : Bool) → lasts (d - 6) (part (take 6 p) f) (drop 6 p) ≡ b → AreMoved (N (suc k) d f) (N (suc k) d g) (D (suc k) d f p) (D (suc k) d g p)
  step k d f g p h ih true e =
      let low = part (take 6 p) f in
      let low_on = part (take 6 p) g in
      let q = drop 6 p in
      let m = more d f g p h e in
      let l : 6 ≤ d = omega (arith, m.0) in
      let n : 6 ≤ length p = omega (arith, m.1) in
      let x = D k (d - 6) low q in
      let y = D k (d - 6) low_on q in
      let t = total_moved (λ v. N k (d - 6) (slot d f v)) (λ v. N k (d - 6) (slot d g v)) (λ v. if meet (bits_of 6 v) p then x else 0) (λ v. if meet (bits_of 6 v) p then y else 0) 64 (λ v. sum_moved k d f g p x y l n h (ih low low_on q (front_alike f g p h)) v (meet (bits_of 6 v) p) refl) in
      let before = deeper k d f p ∙ ap (λ (b : Bool). if b then x else W (suc k) d f p) e in
      let after = deeper k d g p ∙ ap (λ (b : Bool). if b then y else W (suc k) d g p) (lasts_on d f g p h e) in
      let same = own_alike d f g (two d f g p h e) (two_on d f g p h e) (slots_alike d f g p h e) in
      let one = total_one 6 p x n in
      let one_on = total_one 6 p y n in
      record { few = omega (arith, t.few, by_slots k d f, before, one); same = omega (arith, t.same, by_slots k d f, by_slots k d g, before, after, same, one, one_on) }
  step k d f g p h ih false e =
      let before = deeper k d f p ∙ ap (λ (b : Bool). if b then D k (d - 6) (part (take 6 p) f) (drop 6 p) else W (suc k) d f p) e in
      let after = deeper k d g p ∙ ap (λ (b : Bool). if b then D k (d - 6) (part (take 6 p) g) (drop 6 p) else W (suc k) d g p) (sym (lasts_alike d f g p h) ∙ e) in
      let t = way_moved (suc k) d f g p h in
      record { few = omega (arith, t.few, before); same = omega (arith, t.same, before, after) }

  pub deep_moved : (k d : ℕ) (f g : List Bool → ℕ) (p : List Bool) → AlikeElse p f g → AreMoved (N k d f) (N k d g) (D k d f p) (D k d g p)
  deep_moved zero d f g p h = record { few = omega (arith, no_deep_strides d f p); same = omega (arith, no_strides d f, no_strides d g, no_deep_strides d f p, no_deep_strides d g p) }
  deep_moved (suc k) d f g p h = step k d f g p h (deep_moved k (d - 6)) (lasts (d - 6) (part (take 6 p) f) (drop 6 p)) refl

-- ---- nodes
own_nodes_alike : (d : ℕ) (f g : List Bool → ℕ) → one_answer d f ≡ None → one_answer d g ≡ None → slots d f ≡ slots d g → own_nodes d f ≡ own_nodes d g
own_nodes_alike d f g a b s =
    ap (λ x. if_mixed x (up (children (slots d f)))) a ∙ (ap (λ (t : ℕ → Option ℕ). up (children t)) s ∙ sym (ap (λ x. if_mixed x (up (children (slots d g)))) b))

no_deep_strides_nodes : (d : ℕ) (f : List Bool → ℕ) (p : List Bool) → deep_nodes 0 d f p ≡ 0
unfolding deep_nodes
no_deep_strides_nodes d f p = refl

deeper_nodes : (k d : ℕ) (f : List Bool → ℕ) (p : List Bool) → deep_nodes (suc k) d f p ≡ (if lasts (d - 6) (part (take 6 p) f) (drop 6 p) then deep_nodes k (d - 6) (part (take 6 p) f) (drop 6 p) else way_nodes (suc k) d f p)
unfolding deep_nodes
deeper_nodes k d f p = refl

pub deep_nodes_moved : (k d : ℕ) (f g : List Bool → ℕ) (p : List Bool) → AlikeElse p f g → AreMoved (need_nodes k d f) (need_nodes k d g) (deep_nodes k d f p) (deep_nodes k d g p)
deep_nodes_moved = deep_moved need_nodes way_nodes deep_nodes own_nodes nodes_by_slots own_nodes_alike no_strides_nodes no_deep_strides_nodes nodes_moved_below deeper_nodes

-- where the part on the way doesn't last
pub way_nodes_end : (k d : ℕ) (f : List Bool → ℕ) (p : List Bool) → lasts (d - 6) (part (take 6 p) f) (drop 6 p) ≡ false → deep_nodes (suc k) d f p ≡ way_nodes (suc k) d f p
way_nodes_end k d f p e = deeper_nodes k d f p ∙ ap (λ (b : Bool). if b then deep_nodes k (d - 6) (part (take 6 p) f) (drop 6 p) else way_nodes (suc k) d f p) e

pub deep_nodes_on : (k d : ℕ) (f : List Bool → ℕ) (p : List Bool) → lasts (d - 6) (part (take 6 p) f) (drop 6 p) ≡ true → deep_nodes (suc k) d f p ≡ deep_nodes k (d - 6) (part (take 6 p) f) (drop 6 p)
deep_nodes_on k d f p e = deeper_nodes k d f p ∙ ap (λ (b : Bool). if b then deep_nodes k (d - 6) (part (take 6 p) f) (drop 6 p) else way_nodes (suc k) d f p) e

-- with nothing left of the path it is the whole need
pub whole_deep_nodes : (k d : ℕ) (f : List Bool → ℕ) → deep_nodes k d f [] ≡ need_nodes k d f
whole_deep_nodes zero d f = no_deep_strides_nodes d f [] ∙ sym (no_strides_nodes d f)
whole_deep_nodes (suc k) d f = way_nodes_end k d f [] (ap are_two (none_beside (d - 6) f)) ∙ whole_nodes (suc k) d f

-- nothing is needed below a uniform region
no_deep_nodes : (k d h : ℕ) (f : List Bool → ℕ) (p : List Bool) → one_answer d f ≡ Some h → deep_nodes k d f p ≡ 0
no_deep_nodes zero d h f p e = no_deep_strides_nodes d f p
no_deep_nodes (suc k) d h f p e = by (lasts (d - 6) (part (take 6 p) f) (drop 6 p)) refl
  where
    by : (b : Bool) → lasts (d - 6) (part (take 6 p) f) (drop 6 p) ≡ b → deep_nodes (suc k) d f p ≡ 0
    by false l = way_nodes_end k d f p l ∙ no_way_nodes (suc k) d h f p e
    by true l = absurd (let w : Some h ≡ None = sym e ∙ two d f f p (λ a z. refl) l in cc)

-- ---- leaves
own_leaves_alike : (d : ℕ) (f g : List Bool → ℕ) → one_answer d f ≡ None → one_answer d g ≡ None → slots d f ≡ slots d g → own_leaves d f ≡ own_leaves d g
own_leaves_alike d f g a b s =
    ap (λ x. if_mixed x (up (runs (slots d f)))) a ∙ (ap (λ (t : ℕ → Option ℕ). up (runs t)) s ∙ sym (ap (λ x. if_mixed x (up (runs (slots d g)))) b))

no_deep_strides_leaves : (d : ℕ) (f : List Bool → ℕ) (p : List Bool) → deep_leaves 0 d f p ≡ 0
unfolding deep_leaves
no_deep_strides_leaves d f p = refl

deeper_leaves : (k d : ℕ) (f : List Bool → ℕ) (p : List Bool) → deep_leaves (suc k) d f p ≡ (if lasts (d - 6) (part (take 6 p) f) (drop 6 p) then deep_leaves k (d - 6) (part (take 6 p) f) (drop 6 p) else way_leaves (suc k) d f p)
unfolding deep_leaves
deeper_leaves k d f p = refl

pub deep_leaves_moved : (k d : ℕ) (f g : List Bool → ℕ) (p : List Bool) → AlikeElse p f g → AreMoved (need_leaves k d f) (need_leaves k d g) (deep_leaves k d f p) (deep_leaves k d g p)
deep_leaves_moved = deep_moved need_leaves way_leaves deep_leaves own_leaves leaves_by_slots own_leaves_alike no_strides_leaves no_deep_strides_leaves leaves_moved_below deeper_leaves

-- where the part on the way doesn't last
pub way_leaves_end : (k d : ℕ) (f : List Bool → ℕ) (p : List Bool) → lasts (d - 6) (part (take 6 p) f) (drop 6 p) ≡ false → deep_leaves (suc k) d f p ≡ way_leaves (suc k) d f p
way_leaves_end k d f p e = deeper_leaves k d f p ∙ ap (λ (b : Bool). if b then deep_leaves k (d - 6) (part (take 6 p) f) (drop 6 p) else way_leaves (suc k) d f p) e

pub deep_leaves_on : (k d : ℕ) (f : List Bool → ℕ) (p : List Bool) → lasts (d - 6) (part (take 6 p) f) (drop 6 p) ≡ true → deep_leaves (suc k) d f p ≡ deep_leaves k (d - 6) (part (take 6 p) f) (drop 6 p)
deep_leaves_on k d f p e = deeper_leaves k d f p ∙ ap (λ (b : Bool). if b then deep_leaves k (d - 6) (part (take 6 p) f) (drop 6 p) else way_leaves (suc k) d f p) e

-- with nothing left of the path it is the whole need
pub whole_deep_leaves : (k d : ℕ) (f : List Bool → ℕ) → deep_leaves k d f [] ≡ need_leaves k d f
whole_deep_leaves zero d f = no_deep_strides_leaves d f [] ∙ sym (no_strides_leaves d f)
whole_deep_leaves (suc k) d f = way_leaves_end k d f [] (ap are_two (none_beside (d - 6) f)) ∙ whole_leaves (suc k) d f

-- nothing is needed below a uniform region
no_deep_leaves : (k d h : ℕ) (f : List Bool → ℕ) (p : List Bool) → one_answer d f ≡ Some h → deep_leaves k d f p ≡ 0
no_deep_leaves zero d h f p e = no_deep_strides_leaves d f p
no_deep_leaves (suc k) d h f p e = by (lasts (d - 6) (part (take 6 p) f) (drop 6 p)) refl
  where
    by : (b : Bool) → lasts (d - 6) (part (take 6 p) f) (drop 6 p) ≡ b → deep_leaves (suc k) d f p ≡ 0
    by false l = way_leaves_end k d f p l ∙ no_way_leaves (suc k) d h f p e
    by true l = absurd (let w : Some h ≡ None = sym e ∙ two d f f p (λ a z. refl) l in cc)

-- ---- a slot of the direct bits that has no node
pub none_nodes : (k d h : ℕ) (f : List Bool → ℕ) (p : List Bool) → one_answer d f ≡ Some h → 0 ≡ need_in_u64 (mixed (one_answer d f) + deep_nodes k d f p)
none_nodes k d h f p e = omega (arith, ap mixed e, no_deep_nodes k d h f p e)

pub none_leaves : (k d h : ℕ) (f : List Bool → ℕ) (p : List Bool) → one_answer d f ≡ Some h → 0 ≡ need_in_u64 (deep_leaves k d f p)
none_leaves k d h f p e = omega (arith, no_deep_leaves k d h f p e)
