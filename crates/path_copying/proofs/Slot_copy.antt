-- The words of slots made anew one after another, and those that are to be stored.
use Rattle.std.proofs.Common.{◌≡◌, ◌≢◌, ℕ, suc, ◌+◌, ◌-◌, ◌^◌, ◌<◌, ◌≤◌, List, [], ◌∷◌, ◌++◌, Bool, true, false, cond, nat_eq, refl, sym, ap, ◌∙◌, arith, subst, inl, inr, Result, Ok, Err}
use Rattle.std.specs.Prelude.{nat_le, nat_lt, ◌&&◌, ◌⊎◌, OnOk, IfErr, slice_index}
use Rattle.std.specs.List.{AllByRecursion}
use Rattle.std.proofs.lemmas.Bool.{cases_lt, eq-eqb, ne_eqb, eqb-true, eqb-false}
use Rattle.std.proofs.lemmas.Bool.Decides.{nat_tests}
use Rattle.table_model.specs.Bits.{bits_of}
use Rattle.buddy_arena.specs.Space.{Space}
use Rattle.buddy_arena.specs.Places.{Keeps, is_out}
use Rattle.buddy_arena.specs.Blocks.{Held}
use Rattle.fib_addr.specs.Answers.{part}
use Rattle.table_model.specs.Sets.{side}
use Rattle.poptrie_build.specs.Stands.{blank}
use Rattle.poptrie_build.specs.declared.node.Node.{Node}
use Rattle.poptrie_build.proofs.Slotting.{double, low_bits, high_bits}
use Rattle.path_copying.specs.declared.slots.Store.{Store}
use Rattle.path_copying.specs.Words.{WordPart, ReplacesWord}
use Rattle.path_copying.specs.Stores.{stored, SlotsAscend, AreStores, slots_under, ReplacesWords}
use Rattle.path_copying.proofs.Word_row.{words_next, words_same}

pub on_ok : {E A B : Type 0} (r : Result (Unit {0}) E) → OnOk r A → (A → B) → OnOk r B
on_ok (Ok x) a f = f a
on_ok (Err e) a f = tt

pub if_err : {T E : Type 0} (r : Result T E) (P Q : E → Type 0) → IfErr r P → ((e : E) → P e → Q e) → IfErr r Q
if_err (Ok x) P Q a f = tt
if_err (Err e) P Q a f = f e a

-- ---- the words with those to be stored
first_is : (s : Store) (rest : List Store) (words : List ℕ) (u : ℕ) → u ≡ s.slot → stored (s ∷ rest) words u ≡ s.word
first_is s rest words u e = ap (λ b. let r : ℕ = cond b s.word (stored rest words u) in r) (eq-eqb u s.slot e)

other_is : (s : Store) (rest : List Store) (words : List ℕ) (u : ℕ) → u ≢ s.slot → stored (s ∷ rest) words u ≡ stored rest words u
other_is s rest words u n = ap (λ b. let r : ℕ = cond b s.word (stored rest words u) in r) (ne_eqb u s.slot n)

pub stored_beyond : (stores : List Store) (words : List ℕ) (first u : ℕ) → AllByRecursion (λ (s : Store). s.slot < first) stores → first ≤ u → stored stores words u ≡ slice_index words u
stored_beyond [] words first u a l = refl
stored_beyond (s ∷ rest) words first u a l = other_is s rest words u (λ e. absurd (let h = a.0 in omega (arith, h, l, e))) ∙ stored_beyond rest words first u a.1 l

pub stored_here : (stores : List Store) (words : List ℕ) (first w : ℕ) → AllByRecursion (λ (s : Store). s.slot < first) stores → stored (stores ++ record { slot = first; word = w } ∷ []) words first ≡ w
stored_here [] words first w a = first_is (record { slot = first; word = w }) [] words first refl
stored_here (s ∷ rest) words first w a = other_is s (rest ++ record { slot = first; word = w } ∷ []) words first (λ e. absurd (let h = a.0 in omega (arith, h, e))) ∙ stored_here rest words first w a.1

pub stored_other : (stores : List Store) (words : List ℕ) (first w u : ℕ) → u ≢ first → stored (stores ++ record { slot = first; word = w } ∷ []) words u ≡ stored stores words u
stored_other [] words first w u n = other_is (record { slot = first; word = w }) [] words u n
stored_other (s ∷ rest) words first w u n = by (stored_other rest words first w u n) (nat_eq u s.slot) refl
  where
    by : stored (rest ++ record { slot = first; word = w } ∷ []) words u ≡ stored rest words u → (b : Bool) → nat_eq u s.slot ≡ b → stored ((s ∷ rest) ++ record { slot = first; word = w } ∷ []) words u ≡ stored (s ∷ rest) words u
    by again true e = first_is s (rest ++ record { slot = first; word = w } ∷ []) words u (eqb-true u s.slot e) ∙ sym (first_is s rest words u (eqb-true u s.slot e))
    by again false e = other_is s (rest ++ record { slot = first; word = w } ∷ []) words u (eqb-false u s.slot e) ∙ (again ∙ sym (other_is s rest words u (eqb-false u s.slot e)))

all_snoc : (P : Store → Type 0) (xs : List Store) (s : Store) → AllByRecursion P xs → P s → AllByRecursion P (xs ++ s ∷ [])
all_snoc P [] s a p = (p, tt)
all_snoc P (x ∷ xs) s a p = (a.0, all_snoc P xs s a.1 p)

all_more : (P Q : Store → Type 0) (xs : List Store) → ((s : Store) → P s → Q s) → AllByRecursion P xs → AllByRecursion Q xs
all_more P Q [] f a = tt
all_more P Q (x ∷ xs) f a = (f x a.0, all_more P Q xs f a.1)

ascends_snoc : (xs : List Store) (s : Store) → SlotsAscend xs → AllByRecursion (λ (x : Store). x.slot < s.slot) xs → SlotsAscend (xs ++ s ∷ [])
ascends_snoc [] s a b = (tt, tt)
ascends_snoc (x ∷ xs) s a b = (all_snoc (λ (t : Store). x.slot < t.slot) xs s a.0 b.0, ascends_snoc xs s a.1 b.1)

pub stores_more : (words : List ℕ) (stores : List Store) (a b : ℕ) → a ≤ b → AreStores words stores a → AreStores words stores b
stores_more words stores a b l s = record { below = all_more (λ (t : Store). t.slot < a) (λ (t : Store). t.slot < b) stores (λ t h. omega (arith, h, l)) s.below; in_order = s.in_order; changed = s.changed }

pub stores_one : (words : List ℕ) (stores more : List Store) (first w end : ℕ) → more ≡ stores ++ record { slot = first; word = w } ∷ [] → w ≢ slice_index words first → first < end → AreStores words stores first → AreStores words more end
stores_one words stores more first w end e n l s =
    subst (λ (x : List Store). AreStores words x end) (sym e) (record {
      below = all_snoc (λ (t : Store). t.slot < end) stores (record { slot = first; word = w }) (all_more (λ (t : Store). t.slot < first) (λ (t : Store). t.slot < end) stores (λ t h. omega (arith, h, l)) s.below) l;
      in_order = ascends_snoc stores (record { slot = first; word = w }) s.in_order s.below;
      changed = all_snoc (λ (t : Store). slice_index words t.slot ≢ t.word) stores (record { slot = first; word = w }) s.changed (λ q. n (sym q));
    })

-- ---- the answers of a region's slots
le_yes : (a b : ℕ) → a ≤ b → nat_le a b ≡ true
le_yes a b l = grind (arith, nat_tests)

le_no : (a b : ℕ) → b < a → nat_le a b ≡ false
le_no a b l = grind (arith, nat_tests)

lt_yes : (a b : ℕ) → a < b → nat_lt a b ≡ true
lt_yes a b l = grind (arith, nat_tests)

lt_no : (a b : ℕ) → b ≤ a → nat_lt a b ≡ false
lt_no a b l = grind (arith, nat_tests)

pub under_in : (first j : ℕ) (f : List Bool → ℕ) (h : ℕ → List Bool → ℕ) (u : ℕ) → first ≤ u → u < first + 2 ^ j → slots_under first j f h u ≡ part (bits_of j (u - first)) f
under_in first j f h u a b =
    ap (λ (x : Bool). let r : List Bool → ℕ = cond (x && nat_lt u (first + 2 ^ j)) (part (bits_of j (u - first)) f) (h u) in r) (le_yes first u a)
    ∙ ap (λ (x : Bool). let r : List Bool → ℕ = cond (true && x) (part (bits_of j (u - first)) f) (h u) in r) (lt_yes u (first + 2 ^ j) b)

pub under_low : (first j : ℕ) (f : List Bool → ℕ) (h : ℕ → List Bool → ℕ) (u : ℕ) → u < first → slots_under first j f h u ≡ h u
under_low first j f h u a = ap (λ (x : Bool). let r : List Bool → ℕ = cond (x && nat_lt u (first + 2 ^ j)) (part (bits_of j (u - first)) f) (h u) in r) (le_no first u a)

pub under_high : (first j : ℕ) (f : List Bool → ℕ) (h : ℕ → List Bool → ℕ) (u : ℕ) → first + 2 ^ j ≤ u → slots_under first j f h u ≡ h u
under_high first j f h u a =
    ap (λ (x : Bool). let r : List Bool → ℕ = cond (x && nat_lt u (first + 2 ^ j)) (part (bits_of j (u - first)) f) (h u) in r) (le_yes first u (let p : 0 ≤ 2 ^ j = omega arith in omega (arith, a)))
    ∙ ap (λ (x : Bool). let r : List Bool → ℕ = cond (true && x) (part (bits_of j (u - first)) f) (h u) in r) (lt_no u (first + 2 ^ j) a)

one_is : (first : ℕ) (f : List Bool → ℕ) → part (bits_of 0 (first - first)) f ≡ f
unfolding bits_of
one_is first f = refl

-- ---- one slot
module _ (nodes nodes2 : Space Node) (nb nb2 : Held) (leaves leaves2 : Space ℕ) (lb lb2 : Held) (words : List ℕ) (stores stores2 : List Store) (first new d : ℕ) (f : List Bool → ℕ) where
  slot_copied : stored stores words first ≡ slice_index words first → stored stores2 words first ≡ new → ((u : ℕ) → u ≢ first → stored stores2 words u ≡ stored stores words u) → Keeps blank nodes.cells (is_out nodes.free) nodes2.cells (is_out nodes2.free) → Keeps 0 leaves.cells (is_out leaves.free) leaves2.cells (is_out leaves2.free) →
      ReplacesWord nodes nb leaves lb (slice_index words first) nodes2 nb2 leaves2 lb2 new d f → ReplacesWords nodes nb leaves lb (stored stores words) nodes2 nb2 leaves2 lb2 (stored stores2 words) first 0 d f
  slot_copied before here other a b re k n h x y m m2 le few row =
      let low : first < n = omega (arith, le) in
      words_next k n d first low nodes nodes2 leaves leaves2 (stored stores words) (stored stores2 words) h (slots_under first 0 f h) nb.replaced lb.replaced nb2.replaced lb2.replaced x y m m2
      (λ u l ne. other u ne)
      (λ u l ne. elim (cases_lt u first) [
        | inl c ↦ under_low first 0 f h u c
        | inr c ↦ under_high first 0 f h u (omega (arith, c, ne))
      ])
      a b
      (λ xs ys p q w.
      subst (λ (z : ℕ). WordPart k nodes2 leaves2 z d (slots_under first 0 f h first) (nb2.replaced ++ xs) (lb2.replaced ++ ys) p q) (sym here)
      (subst (λ (z : List Bool → ℕ). WordPart k nodes2 leaves2 new d z (nb2.replaced ++ xs) (lb2.replaced ++ ys) p q) (sym (under_in first 0 f h first (omega arith) (omega arith) ∙ one_is first f))
      (re k (h first) xs ys p q few (subst (λ (z : ℕ). WordPart k nodes leaves z d (h first) (nb.replaced ++ xs) (lb.replaced ++ ys) p q) before w))))
      row

  pub slot_stored : (j e : ℕ) → j ≡ 0 → e ≡ d → AreStores words stores first → stores2 ≡ stores ++ record { slot = first; word = new } ∷ [] → Keeps blank nodes.cells (is_out nodes.free) nodes2.cells (is_out nodes2.free) → Keeps 0 leaves.cells (is_out leaves.free) leaves2.cells (is_out leaves2.free) →
      ReplacesWord nodes nb leaves lb (slice_index words first) nodes2 nb2 leaves2 lb2 new d f → ReplacesWords nodes nb leaves lb (stored stores words) nodes2 nb2 leaves2 lb2 (stored stores2 words) first j e f
  slot_stored j e zj ed s is a b re =
      subst (λ (i : ℕ). ReplacesWords nodes nb leaves lb (stored stores words) nodes2 nb2 leaves2 lb2 (stored stores2 words) first i e f) (sym zj)
      (subst (λ (i : ℕ). ReplacesWords nodes nb leaves lb (stored stores words) nodes2 nb2 leaves2 lb2 (stored stores2 words) first 0 i f) (sym ed)
      (slot_copied (stored_beyond stores words first first s.below (omega arith)) (ap (λ (x : List Store). stored x words first) is ∙ stored_here stores words first new s.below) (λ u ne. ap (λ (x : List Store). stored x words u) is ∙ stored_other stores words first new u ne) a b re))

  pub slot_same : (j e : ℕ) → j ≡ 0 → e ≡ d → AreStores words stores first → stores2 ≡ stores → new ≡ slice_index words first → Keeps blank nodes.cells (is_out nodes.free) nodes2.cells (is_out nodes2.free) → Keeps 0 leaves.cells (is_out leaves.free) leaves2.cells (is_out leaves2.free) →
      ReplacesWord nodes nb leaves lb (slice_index words first) nodes2 nb2 leaves2 lb2 new d f → ReplacesWords nodes nb leaves lb (stored stores words) nodes2 nb2 leaves2 lb2 (stored stores2 words) first j e f
  slot_same j e zj ed s is w a b re =
      subst (λ (i : ℕ). ReplacesWords nodes nb leaves lb (stored stores words) nodes2 nb2 leaves2 lb2 (stored stores2 words) first i e f) (sym zj)
      (subst (λ (i : ℕ). ReplacesWords nodes nb leaves lb (stored stores words) nodes2 nb2 leaves2 lb2 (stored stores2 words) first 0 i f) (sym ed)
      (slot_copied (stored_beyond stores words first first s.below (omega arith)) (ap (λ (x : List Store). stored x words first) is ∙ (stored_beyond stores words first first s.below (omega arith) ∙ sym w)) (λ u ne. ap (λ (x : List Store). stored x words u) is) a b re))

-- ---- both halves
under_halves : (first j : ℕ) (f : List Bool → ℕ) (h : ℕ → List Bool → ℕ) (u : ℕ) → slots_under first (suc j) f h u ≡ slots_under (first + 2 ^ j) j (side true f) (slots_under first j (side false f) h) u
under_halves first j f h u = by (cases_lt u first) (cases_lt u (first + 2 ^ j)) (cases_lt u (first + 2 ^ j + 2 ^ j))
  where
    twice : 2 ^ suc j ≡ 2 ^ j + 2 ^ j
    twice = double j

    by : (u < first) ⊎ (first ≤ u) → (u < first + 2 ^ j) ⊎ (first + 2 ^ j ≤ u) → (u < first + 2 ^ j + 2 ^ j) ⊎ (first + 2 ^ j + 2 ^ j ≤ u) → slots_under first (suc j) f h u ≡ slots_under (first + 2 ^ j) j (side true f) (slots_under first j (side false f) h) u
    by (inl a) y z = under_low first (suc j) f h u a ∙ sym (under_low (first + 2 ^ j) j (side true f) (slots_under first j (side false f) h) u (omega (arith, a)) ∙ under_low first j (side false f) h u a)
    by (inr a) (inl b) z =
        under_in first (suc j) f h u a (omega (arith, b, twice))
        ∙ (ap (λ (p : List Bool). part p f) (low_bits j (u - first) (omega (arith, a, b)))
        ∙ sym (under_low (first + 2 ^ j) j (side true f) (slots_under first j (side false f) h) u b ∙ under_in first j (side false f) h u a b))
    by (inr a) (inr b) (inl c) =
        let is : u - first ≡ 2 ^ j + (u - (first + 2 ^ j)) = omega (arith, a, b) in
        under_in first (suc j) f h u a (omega (arith, c, twice))
        ∙ (ap (λ (p : List Bool). part p f) (ap (bits_of (suc j)) is ∙ high_bits j (u - (first + 2 ^ j)) (omega (arith, b, c)))
        ∙ sym (under_in (first + 2 ^ j) j (side true f) (slots_under first j (side false f) h) u b c))
    by (inr a) (inr b) (inr c) = under_high first (suc j) f h u (omega (arith, c, twice)) ∙ sym (under_high (first + 2 ^ j) j (side true f) (slots_under first j (side false f) h) u c ∙ under_high first j (side false f) h u b)

pub halves_copied : (n0 n1 n2 : Space Node) (nb0 nb1 nb2 : Held) (l0 l1 l2 : Space ℕ) (lb0 lb1 lb2 : Held) (w0 w1 w2 : ℕ → ℕ) (first next i j d d1 d2 : ℕ) (f f1 f2 : List Bool → ℕ) → i ≡ suc j → next ≡ first + 2 ^ j → d1 ≡ d → d2 ≡ d → f1 ≡ side false f → f2 ≡ side true f → ReplacesWords n0 nb0 l0 lb0 w0 n1 nb1 l1 lb1 w1 first j d1 f1 → ReplacesWords n1 nb1 l1 lb1 w1 n2 nb2 l2 lb2 w2 next j d2 f2 → ReplacesWords n0 nb0 l0 lb0 w0 n2 nb2 l2 lb2 w2 first i d f
halves_copied n0 n1 n2 nb0 nb1 nb2 l0 l1 l2 lb0 lb1 lb2 w0 w1 w2 first next i j d d1 d2 f f1 f2 ei en e1 e2 q1 q2 a b =
    let low = subst (λ (z : ℕ). ReplacesWords n0 nb0 l0 lb0 w0 n1 nb1 l1 lb1 w1 first j z (side false f)) e1 (subst (λ (z : List Bool → ℕ). ReplacesWords n0 nb0 l0 lb0 w0 n1 nb1 l1 lb1 w1 first j d1 z) q1 a) in
    let high = subst (λ (z : ℕ). ReplacesWords n1 nb1 l1 lb1 w1 n2 nb2 l2 lb2 w2 z j d (side true f)) en (subst (λ (z : ℕ). ReplacesWords n1 nb1 l1 lb1 w1 n2 nb2 l2 lb2 w2 next j z (side true f)) e2 (subst (λ (z : List Bool → ℕ). ReplacesWords n1 nb1 l1 lb1 w1 n2 nb2 l2 lb2 w2 next j d2 z) q2 b)) in
    subst (λ (z : ℕ). ReplacesWords n0 nb0 l0 lb0 w0 n2 nb2 l2 lb2 w2 first z d f) (sym ei)
    (λ k n h x y m m2 le few row.
    let twice : 2 ^ suc j ≡ 2 ^ j + 2 ^ j = double j in
    words_same k n d n2 l2 w2 w2 (slots_under (first + 2 ^ j) j (side true f) (slots_under first j (side false f) h)) (slots_under first (suc j) f h) (nb2.replaced ++ x) (lb2.replaced ++ y) m m2 (λ u l. refl) (λ u l. under_halves first j f h u)
    (high k n (slots_under first j (side false f) h) x y m m2 (omega (arith, le, twice)) few (low k n h x y m m2 (omega (arith, le, twice)) few row)))
