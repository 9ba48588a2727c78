-- What a walk along a path asks beside it, and what is counted from the deepest node on that lasts.
use Rattle.std.proofs.Common.{◌≡◌, ◌≢◌, ℕ, zero, suc, ◌+◌, ◌-◌, ◌*◌, ◌≤◌, List, ◌∷◌, Bool, true, false, cond, Option, Some, None, take, drop, refl, sym, ap, ◌∙◌, arith}
use Rattle.std.specs.Prelude.{not, nat_eq}
use Rattle.std.specs.Int.{bit_at}
use Rattle.std.proofs.lemmas.Bool.{eq-eqb, eqb-true, eqb-false, ne_eqb}
use Rattle.table_model.specs.Bits.{bits_of}
use Rattle.fib_addr.specs.Answers.{part, one_answer}
use Rattle.fib_addr.proofs.OneAnswer.{mixed_bits}
use Rattle.table_model.specs.Sets.{side}
use Rattle.poptrie_build.specs.Need.{need_in_u64}
use Rattle.route_tries.specs.Parts.{half_and, answer_beside, are_two, other_than, lasts, way_nodes, way_leaves, deep_nodes, deep_leaves}
use Rattle.route_tries.proofs.Meeting.{bits_drop}
use Rattle.route_tries.proofs.Halves.{no_bit}
use Rattle.route_tries.proofs.Lasting.{none_beside, way_nodes_end, way_leaves_end, deep_nodes_on, deep_leaves_on}

-- ---- a half beside the way, and what is beside it further on
other_of_two : (h : ℕ) (y : Option (Option ℕ)) → other_than h (Some (half_and None y)) ≡ true
other_of_two h None = refl
other_of_two h (Some None) = refl
other_of_two h (Some (Some z)) = refl

two_of_two : (y : Option (Option ℕ)) → are_two (Some (half_and None y)) ≡ true
two_of_two None = refl
two_of_two (Some None) = refl
two_of_two (Some (Some z)) = refl

other_differs : (h x : ℕ) (y : Option (Option ℕ)) → x ≢ h → other_than h (Some (half_and (Some x) y)) ≡ true
other_differs h x None n = ap not (ne_eqb x h n)
other_differs h x (Some None) n = refl
other_differs h x (Some (Some z)) n = by (nat_eq x z)
  where
    by : (b : Bool) → other_than h (Some (cond b (Some x) None)) ≡ true
    by true = ap not (ne_eqb x h n)
    by false = refl

other_same : (h : ℕ) (y : Option (Option ℕ)) → other_than h (Some (half_and (Some h) y)) ≡ other_than h y
other_same h None = ap not (eq-eqb h h refl)
other_same h (Some None) = refl
other_same h (Some (Some z)) = by (nat_eq h z) refl
  where
    by : (b : Bool) → nat_eq h z ≡ b → other_than h (Some (cond b (Some h) None)) ≡ not (nat_eq z h)
    by true t = ap (λ w. not (nat_eq w h)) (eqb-true h z t)
    by false t = sym (ap not (ne_eqb z h (λ e. eqb-false h z t (sym e))))

two_first : (h : ℕ) (y : Option (Option ℕ)) → are_two (Some (half_and (Some h) y)) ≡ other_than h y
two_first h None = refl
two_first h (Some None) = refl
two_first h (Some (Some z)) = by (nat_eq h z) refl
  where
    by : (b : Bool) → nat_eq h z ≡ b → are_two (Some (cond b (Some h) None)) ≡ not (nat_eq z h)
    by true t = sym (ap not (eq-eqb z h (sym (eqb-true h z t))))
    by false t = sym (ap not (ne_eqb z h (λ e. eqb-false h z t (sym e))))

-- ---- a step along the path
pub nothing_beside : (d left q : ℕ) (f : List Bool → ℕ) → left ≡ 0 → answer_beside d f (bits_of left q) ≡ None
nothing_beside d left q f z = ap (answer_beside d f) (no_bit left q z) ∙ none_beside d f

next_is : (left q : ℕ) (b : Bool) → left ≢ 0 → b ≡ nat_eq (bit_at q (left - 1)) 1 → bits_of left q ≡ b ∷ bits_of (left - 1) q
unfolding bits_of
next_is left q b z e =
    let s : left ≡ suc (left - 1) = omega arith in
    ap (λ n. bits_of n q) s ∙ ap (λ (c : Bool). c ∷ bits_of (left - 1) q) (sym e)

half_beside : (d : ℕ) (f : List Bool → ℕ) (b : Bool) (p : List Bool) → d ≢ 0 → answer_beside d f (b ∷ p) ≡ Some (half_and (one_answer (d - 1) (side (not b) f)) (answer_beside (d - 1) (side b f) p))
unfolding answer_beside
half_beside d f b p z = let s : d ≡ suc (d - 1) = omega arith in ap (λ n. answer_beside n f (b ∷ p)) s

-- the other half has e more bits and the answers g
module _ (d left q e : ℕ) (f g : List Bool → ℕ) (b : Bool) (some : left ≢ 0) (bit : b ≡ nat_eq (bit_at q (left - 1)) 1) (bits : e + 1 ≡ d) (answers : g ≡ side (not b) f) where
  beside_is : (o : Option ℕ) → one_answer e g ≡ o → answer_beside d f (bits_of left q) ≡ Some (half_and o (answer_beside (d - 1) (side b f) (bits_of (left - 1) q)))
  beside_is o one =
      let s : d - 1 ≡ e = omega (arith, bits) in
      let z : d ≢ 0 = λ w. omega (arith, bits, w) in
      ap (answer_beside d f) (next_is left q b some bit)
      ∙ (half_beside d f b (bits_of (left - 1) q) z
      ∙ ap (λ (x : Option ℕ). Some (half_and x (answer_beside (d - 1) (side b f) (bits_of (left - 1) q)))) (ap (λ n. one_answer n (side (not b) f)) s ∙ (ap (one_answer e) (sym answers) ∙ one)))

  -- the half that the path goes on in has n more bits and the answers k
  rest_beside : (n : ℕ) (k : List Bool → ℕ) → n + 1 ≡ d → k ≡ side b f → answer_beside n k (bits_of (left - 1) q) ≡ answer_beside (d - 1) (side b f) (bits_of (left - 1) q)
  rest_beside n k w a =
      let s : n ≡ d - 1 = omega (arith, w) in
      ap (λ m. answer_beside m k (bits_of (left - 1) q)) s ∙ ap (λ (x : List Bool → ℕ). answer_beside (d - 1) x (bits_of (left - 1) q)) a

  -- another hop than h
  pub other_none : (h : ℕ) → one_answer e g ≡ None → true ≡ other_than h (answer_beside d f (bits_of left q))
  other_none h one = sym (ap (other_than h) (beside_is None one) ∙ other_of_two h (answer_beside (d - 1) (side b f) (bits_of (left - 1) q)))

  pub other_here : (h x : ℕ) → one_answer e g ≡ Some x → x ≢ h → true ≡ other_than h (answer_beside d f (bits_of left q))
  other_here h x one n = sym (ap (other_than h) (beside_is (Some x) one) ∙ other_differs h x (answer_beside (d - 1) (side b f) (bits_of (left - 1) q)) n)

  pub other_on : (h x n : ℕ) (k : List Bool → ℕ) (r : Bool) → one_answer e g ≡ Some x → x ≡ h → n + 1 ≡ d → k ≡ side b f → r ≡ other_than h (answer_beside n k (bits_of (left - 1) q)) → r ≡ other_than h (answer_beside d f (bits_of left q))
  other_on h x n k r one same w a is =
      is
      ∙ (ap (other_than h) (rest_beside n k w a)
      ∙ sym (ap (other_than h) (beside_is (Some h) (one ∙ ap Some same)) ∙ other_same h (answer_beside (d - 1) (side b f) (bits_of (left - 1) q))))

  -- two hops
  pub two_none : one_answer e g ≡ None → true ≡ lasts d f (bits_of left q)
  two_none one = sym (ap are_two (beside_is None one) ∙ two_of_two (answer_beside (d - 1) (side b f) (bits_of (left - 1) q)))

  pub two_on : (x n : ℕ) (k : List Bool → ℕ) (r : Bool) → one_answer e g ≡ Some x → n + 1 ≡ d → k ≡ side b f → r ≡ other_than x (answer_beside n k (bits_of (left - 1) q)) → r ≡ lasts d f (bits_of left q)
  two_on x n k r one w a is =
      is
      ∙ (ap (other_than x) (rest_beside n k w a)
      ∙ sym (ap are_two (beside_is (Some x) one) ∙ two_first x (answer_beside (d - 1) (side b f) (bits_of (left - 1) q))))

-- ---- some steps at once
pub along_step : (depth left q : ℕ) (f g out : List Bool → ℕ) (b : Bool) → left ≢ 0 → depth ≢ 0 → b ≡ nat_eq (bit_at q (left - 1)) 1 → g ≡ side b f → out ≡ part (take (depth - 1) (bits_of (left - 1) q)) g → out ≡ part (take depth (bits_of left q)) f
along_step depth left q f g out b z w bit half o =
    let s : depth ≡ suc (depth - 1) = omega arith in
    o
    ∙ (ap (part (take (depth - 1) (bits_of (left - 1) q))) half
    ∙ sym (ap (λ n. part (take n (bits_of left q)) f) s ∙ ap (λ (p : List Bool). part (take (suc (depth - 1)) p) f) (next_is left q b z bit)))

-- ---- the need that is counted
pub short_path : (d left q : ℕ) (f : List Bool → ℕ) → left ≤ 6 → lasts (d - 6) (part (take 6 (bits_of left q)) f) (drop 6 (bits_of left q)) ≡ false
short_path d left q f l =
    let z : left - 6 ≡ 0 = omega (arith, l) in
    ap are_two (ap (answer_beside (d - 6) (part (take 6 (bits_of left q)) f)) (bits_drop 6 left q) ∙ nothing_beside (d - 6) (left - 6) q (part (take 6 (bits_of left q)) f) z)

-- the part six bits on has e more bits and the answers g, and the path goes on in it with r
module _ (d e : ℕ) (f g : List Bool → ℕ) (p r : List Bool) (none : one_answer d f ≡ None) (bits : e + 6 ≡ d) (answers : g ≡ part (take 6 p) f) (rest : r ≡ drop 6 p) where
  part_lasts : (b : Bool) → lasts e g r ≡ b → lasts (d - 6) (part (take 6 p) f) (drop 6 p) ≡ b
  part_lasts b l =
      let s : d - 6 ≡ e = omega (arith, bits) in
      ap (λ n. lasts n (part (take 6 p) f) (drop 6 p)) s ∙ (ap (λ (x : List Bool → ℕ). lasts e x (drop 6 p)) (sym answers) ∙ (ap (lasts e g) (sym rest) ∙ l))

  pub lasts_not : lasts e g r ≡ false → lasts (d - 6) (part (take 6 p) f) (drop 6 p) ≡ false
  lasts_not = part_lasts false

  same_need : (D : ℕ → (List Bool → ℕ) → List Bool → ℕ) → D e g r ≡ D (d - 6) (part (take 6 p) f) (drop 6 p)
  same_need D =
      let s : e ≡ d - 6 = omega (arith, bits) in
      ap (λ n. D n g r) s ∙ (ap (λ (x : List Bool → ℕ). D (d - 6) x r) answers ∙ ap (D (d - 6) (part (take 6 p) f)) rest)

  pub nodes_on : (n : ℕ) → lasts e g r ≡ true → ((k : ℕ) → e ≤ 6 * k → n ≡ need_in_u64 (deep_nodes k e g r)) → (k : ℕ) → d ≤ 6 * k → n ≡ need_in_u64 (deep_nodes k d f p)
  nodes_on n l h zero m = absurd (omega (arith, mixed_bits d f none, m))
  nodes_on n l h (suc k) m = h k (omega (arith, m, bits)) ∙ ap need_in_u64 (same_need (deep_nodes k) ∙ sym (deep_nodes_on k d f p (part_lasts true l)))

  pub leaves_on : (n : ℕ) → lasts e g r ≡ true → ((k : ℕ) → e ≤ 6 * k → n ≡ need_in_u64 (deep_leaves k e g r)) → (k : ℕ) → d ≤ 6 * k → n ≡ need_in_u64 (deep_leaves k d f p)
  leaves_on n l h zero m = absurd (omega (arith, mixed_bits d f none, m))
  leaves_on n l h (suc k) m = h k (omega (arith, m, bits)) ∙ ap need_in_u64 (same_need (deep_leaves k) ∙ sym (deep_leaves_on k d f p (part_lasts true l)))

module _ (d n : ℕ) (f : List Bool → ℕ) (p : List Bool) (none : one_answer d f ≡ None) (ends : lasts (d - 6) (part (take 6 p) f) (drop 6 p) ≡ false) where
  pub nodes_here : ((k : ℕ) → d ≤ 6 * k → n ≡ need_in_u64 (way_nodes k d f p)) → (k : ℕ) → d ≤ 6 * k → n ≡ need_in_u64 (deep_nodes k d f p)
  nodes_here h zero m = absurd (omega (arith, mixed_bits d f none, m))
  nodes_here h (suc k) m = h (suc k) m ∙ ap need_in_u64 (sym (way_nodes_end k d f p ends))

  pub leaves_here : ((k : ℕ) → d ≤ 6 * k → n ≡ need_in_u64 (way_leaves k d f p)) → (k : ℕ) → d ≤ 6 * k → n ≡ need_in_u64 (deep_leaves k d f p)
  leaves_here h zero m = absurd (omega (arith, mixed_bits d f none, m))
  leaves_here h (suc k) m = h (suc k) m ∙ ap need_in_u64 (sym (way_leaves_end k d f p ends))
