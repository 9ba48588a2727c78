-- More slots of a node, gone through once.
use Rattle.std.proofs.Common.{◌≡◌, ◌≢◌, ℕ, zero, suc, ◌+◌, ◌-◌, ◌*◌, ◌%◌, ◌^◌, ◌<◌, ◌≤◌, List, Bool, true, false, cond, Option, Some, None, get_or, length, refl, sym, ap, ◌∙◌, arith, subst, inl, inr, set}
use Rattle.std.specs.Prelude.{bit_or}
use Rattle.std.specs.Int.Count.{ones}
use Rattle.std.proofs.lemmas.Bool.{cases_eq, eq-eqb}
use Rattle.std.proofs.lemmas.List.{get_or-set_same, get_or-set_other}
use Rattle.table_model.specs.Sets.{side}
use Rattle.fib_addr.specs.Answers.{one_answer}
use Rattle.poptrie_build.specs.Bits.{rank_of}
use Rattle.poptrie_build.specs.Strides.{slot, slots, mixed, starts, or_earlier, leaf_before, run_start, total}
use Rattle.poptrie_build.specs.Need.{children, runs}
use Rattle.poptrie_build.specs.Stands.{IsCanonical}
use Rattle.poptrie_build.specs.Surveyed.{IsSurveyed, IsLastOf}
use Rattle.poptrie_build.specs.Tally.{AreParts}
use Rattle.poptrie_build.specs.declared.surveying.Survey.{Survey}
use Rattle.poptrie_build.proofs.Counting.{total_more, total_upto}
use Rattle.poptrie_build.proofs.Tallying.{parts_start, parts_low, parts_high}
use Rattle.poptrie_build.proofs.So_far.{so_far_start, so_far_node, so_far_start_of_run, so_far_same, last_more, rank_total, ones_total}

none_before : (g : ℕ → Option ℕ) (h : ℕ) → leaf_before g 0 ≡ Some h → ⊥
unfolding leaf_before
none_before g h q = cc

total_zero : (g : ℕ → ℕ) → total g 0 ≡ 0
unfolding total
total_zero g = refl

pub surveyed_start : (g : ℕ → Option ℕ) (hops : List ℕ) (s : Survey) → s ≡ record { vectors = record { vector = 0; leafvec = 0; last = None }; leaves = 0 } → IsSurveyed s hops g 0
surveyed_start g hops s e = subst (λ (t : Survey). IsSurveyed t hops g 0) (sym e) (record {
  vectors = so_far_start g (record { vector = 0; leafvec = 0; last = None }) refl;
  leaves = sym (total_zero (run_start g));
  each = λ u h l. absurd (omega arith);
  last = λ h q. absurd (none_before g h q);
})

some_none : (h : ℕ) → Some h ≡ None → ⊥
some_none h e = cc

-- ---- a node
pub surveyed_node : (g : ℕ → Option ℕ) (hops : List ℕ) (v x y m : ℕ) (o : Option ℕ) → v < 64 → g v ≡ None → IsSurveyed (record { vectors = record { vector = x; leafvec = y; last = o }; leaves = m }) hops g v → IsSurveyed (record { vectors = record { vector = bit_or x (1 * 2 ^ v % 2 ^ 64); leafvec = y; last = o }; leaves = m }) hops g (v + 1)
surveyed_node g hops v x y m o l none s =
    let t : total (run_start g) (v + 1) ≡ total (run_start g) v = total_more (run_start g) v ∙ (ap (λ k. total (run_start g) v + starts k (leaf_before g v)) none ∙ omega arith) in
    let b : leaf_before g (v + 1) ≡ leaf_before g v = last_more g v ∙ ap (λ k. or_earlier k (leaf_before g v)) none in
    record {
      vectors = so_far_node g v x y o l (sym none) s.vectors;
      leaves = s.leaves ∙ sym t;
      each = λ u h n e.
          elim (cases_eq u v) [
            | inl same ↦ absurd (some_none h (sym e ∙ (ap g same ∙ none)))
            | inr other ↦ s.each u h (omega arith) e
          ];
      last = λ h q. subst (λ (n : ℕ). IsLastOf hops n h) (sym t) (s.last h (sym b ∙ q));
    }

same_some : (h k : ℕ) → Some h ≡ Some k → h ≡ k
same_some h k e = cc

-- ---- a leaf that goes on with a run
surveyed_same : (g : ℕ → Option ℕ) (hops : List ℕ) (v h : ℕ) (s : Survey) → v < 64 → g v ≡ Some h → s.vectors.last ≡ Some h → IsSurveyed s hops g v → IsSurveyed s hops g (v + 1)
surveyed_same g hops v h s l some last i =
    let before : leaf_before g v ≡ Some h = sym i.vectors.last ∙ last in
    let z : run_start g v ≡ 0 = ap (λ k. starts k (leaf_before g v)) some ∙ (ap (starts (Some h)) before ∙ ap (λ b. cond b 0 1) (eq-eqb h h refl)) in
    let t : total (run_start g) (v + 1) ≡ total (run_start g) v = omega (arith, total_more (run_start g) v, z) in
    let here : IsLastOf hops (total (run_start g) (v + 1)) h = subst (λ (n : ℕ). IsLastOf hops n h) (sym t) (i.last h before) in
    let b : leaf_before g (v + 1) ≡ Some h = last_more g v ∙ ap (λ k. or_earlier k (leaf_before g v)) some in
    record {
      vectors = so_far_same g v s.vectors h l (sym some) last i.vectors;
      leaves = i.leaves ∙ sym t;
      each = λ u k n e.
          elim (cases_eq u v) [
            | inl same ↦ subst (λ (w : ℕ). IsLastOf hops (total (run_start g) (w + 1)) k) (sym same) (subst (λ (x : ℕ). IsLastOf hops (total (run_start g) (v + 1)) x) (same_some h k (sym some ∙ (ap g (sym same) ∙ e))) here)
            | inr other ↦ i.each u k (omega arith) e
          ];
      last = λ k q. subst (λ (x : ℕ). IsLastOf hops (total (run_start g) (v + 1)) x) (same_some h k (sym b ∙ q)) here;
    }

pub surveyed_more : (g : ℕ → Option ℕ) (hops : List ℕ) (v h : ℕ) (s : Survey) (n : ℕ) → v + n ≤ 64 → ((u : ℕ) → u < n → g (v + u) ≡ Some h) → s.vectors.last ≡ Some h → IsSurveyed s hops g v → IsSurveyed s hops g (v + n)
surveyed_more g hops v h s zero l a last i = let z : v ≡ v + zero = omega arith in subst (λ (w : ℕ). IsSurveyed s hops g w) z i
surveyed_more g hops v h s (suc n) l a last i =
    let e : v + n + 1 ≡ v + suc n = omega arith in
    let before = surveyed_more g hops v h s n (omega arith) (λ u m. a u (omega arith)) last i in
    subst (λ (w : ℕ). IsSurveyed s hops g w) e (surveyed_same g hops (v + n) h s (omega arith) (a n (omega arith)) last before)

-- ---- a leaf that begins a run
surveyed_run : (g : ℕ → Option ℕ) (hops : List ℕ) (v x y m h : ℕ) (o : Option ℕ) → v < 64 → m < length hops → g v ≡ Some h → starts (Some h) o ≡ 1 → IsSurveyed (record { vectors = record { vector = x; leafvec = y; last = o }; leaves = m }) hops g v →
    IsSurveyed (record { vectors = record { vector = x; leafvec = bit_or y (1 * 2 ^ v % 2 ^ 64); last = Some h }; leaves = m + 1 }) (set hops m h) g (v + 1)
surveyed_run g hops v x y m h o l room some one i =
    let z : run_start g v ≡ 1 = ap (λ k. starts k (leaf_before g v)) some ∙ (ap (starts (Some h)) (sym i.vectors.last) ∙ one) in
    let t : total (run_start g) (v + 1) ≡ m + 1 = omega (arith, total_more (run_start g) v, z, i.leaves) in
    let at : get_or (set hops m h) (m + 1 - 1) 0 ≡ h = (let w : m + 1 - 1 ≡ m = omega arith in ap (λ n. get_or (set hops m h) n 0) w) ∙ get_or-set_same hops m h 0 room in
    let here : IsLastOf (set hops m h) (total (run_start g) (v + 1)) h = subst (λ (n : ℕ). IsLastOf (set hops m h) n h) (sym t) (omega arith, at) in
    let b : leaf_before g (v + 1) ≡ Some h = last_more g v ∙ ap (λ k. or_earlier k (leaf_before g v)) some in
    record {
      vectors = so_far_start_of_run g v x y h o l (sym some) one i.vectors;
      leaves = sym t;
      each = λ u k n e.
          elim (cases_eq u v) [
            | inl same ↦ subst (λ (w : ℕ). IsLastOf (set hops m h) (total (run_start g) (w + 1)) k) (sym same) (subst (λ (q : ℕ). IsLastOf (set hops m h) (total (run_start g) (v + 1)) q) (same_some h k (sym some ∙ (ap g (sym same) ∙ e))) here)
            | inr other ↦ (
                let was = i.each u k (omega arith) e in
                let upto = total_upto (run_start g) (u + 1) v (omega arith) in
                let ne : m ≢ total (run_start g) (u + 1) - 1 = omega (arith, was.0, upto, i.leaves) in
                (was.0, get_or-set_other hops m (total (run_start g) (u + 1) - 1) h 0 (λ q. ne (sym q)) ∙ was.1))
          ];
      last = λ k q. subst (λ (x : ℕ). IsLastOf (set hops m h) (total (run_start g) (v + 1)) x) (same_some h k (sym b ∙ q)) here;
    }

pub surveyed_anew : (g : ℕ → Option ℕ) (hops : List ℕ) (v x y m h n : ℕ) (o : Option ℕ) → v < 64 → m < length hops → 0 < n → v + n ≤ 64 → ((u : ℕ) → u < n → g (v + u) ≡ Some h) → starts (Some h) o ≡ 1 → IsSurveyed (record { vectors = record { vector = x; leafvec = y; last = o }; leaves = m }) hops g v →
    IsSurveyed (record { vectors = record { vector = x; leafvec = bit_or y (1 * 2 ^ v % 2 ^ 64); last = Some h }; leaves = m + 1 }) (set hops m h) g (v + n)
surveyed_anew g hops v x y m h zero o l room z fits a one i = absurd (omega arith)
surveyed_anew g hops v x y m h (suc n) o l room z fits a one i =
    let v0 : v + 0 ≡ v = omega arith in
    let e : v + 1 + n ≡ v + suc n = omega arith in
    let first = surveyed_run g hops v x y m h o l room (ap g (sym v0) ∙ a 0 (omega arith)) one i in
    subst (λ (w : ℕ). IsSurveyed (record { vectors = record { vector = x; leafvec = bit_or y (1 * 2 ^ v % 2 ^ 64); last = Some h }; leaves = m + 1 }) (set hops m h) g w) e
    (surveyed_more g (set hops m h) (v + 1) h (record { vectors = record { vector = x; leafvec = bit_or y (1 * 2 ^ v % 2 ^ 64); last = Some h }; leaves = m + 1 }) n (omega arith)
    (λ u k. (let s : v + 1 + u ≡ v + suc u = omega arith in ap g s) ∙ a (suc u) (omega arith)) refl first)

pub surveyed_anew_at : (g : ℕ → Option ℕ) (hops : List ℕ) (v x y m j h n : ℕ) (o : Option ℕ) → j ≡ m → v < 64 → m < length hops → 0 < n → v + n ≤ 64 → ((u : ℕ) → u < n → g (v + u) ≡ Some h) → starts (Some h) o ≡ 1 → IsSurveyed (record { vectors = record { vector = x; leafvec = y; last = o }; leaves = m }) hops g v →
    IsSurveyed (record { vectors = record { vector = x; leafvec = bit_or y (1 * 2 ^ v % 2 ^ 64); last = Some h }; leaves = m + 1 }) (set hops j h) g (v + n)
surveyed_anew_at g hops v x y m j h n o e l room z fits a one i =
    subst (λ (k : ℕ). IsSurveyed (record { vectors = record { vector = x; leafvec = bit_or y (1 * 2 ^ v % 2 ^ 64); last = Some h }; leaves = m + 1 }) (set hops k h) g (v + n)) (sym e) (surveyed_anew g hops v x y m h n o l room z fits a one i)

-- ---- at the end
pub surveyed_canonical : (g : ℕ → Option ℕ) (hops : List ℕ) (s : Survey) → IsSurveyed s hops g 64 → IsCanonical s.vectors.vector s.vectors.leafvec g
surveyed_canonical g hops s i = record { nodes = i.vectors.nodes; leaves = i.vectors.leaves }

pub surveyed_hops : (g : ℕ → Option ℕ) (hops : List ℕ) (s : Survey) → IsSurveyed s hops g 64 → (v h : ℕ) → v < 64 → g v ≡ Some h → get_or hops (rank_of s.vectors.leafvec (v + 1) - 1) 0 ≡ h
surveyed_hops g hops s i v h l e =
    let r : rank_of s.vectors.leafvec (v + 1) ≡ total (run_start g) (v + 1) = rank_total s.vectors.leafvec (v + 1) (run_start g) (λ u m. i.vectors.leaves u (omega (arith, m, l))) in
    ap (λ n. get_or hops (n - 1) 0) r ∙ (i.each v h l e).1

-- ---- the halves of a part
abbrev pub Adds : (j d v : ℕ) (f : List Bool → ℕ) (s : Survey) (hops : List ℕ) (t : Survey) (more : List ℕ) → Type 0
Adds j d v f s hops t more = (e : ℕ) (r : ℕ → List Bool → ℕ) → AreParts j d f e r v → IsSurveyed s hops (λ u. one_answer e (r u)) v → IsSurveyed t more (λ u. one_answer e (r u)) (v + 2 ^ j)

pub surveyed_halves : (j d b c v w : ℕ) (f g h : List Bool → ℕ) (s t u : Survey) (x y z : List ℕ) → j ≢ 0 → 2 ^ j ≡ 2 ^ (j - 1) + 2 ^ (j - 1) → w ≡ v + 2 ^ (j - 1) → b + 1 ≡ d → g ≡ side false f → c + 1 ≡ d → h ≡ side true f → Adds (j - 1) b v g s x t y → Adds (j - 1) c w h t y u z → Adds j d v f s x u z
surveyed_halves j d b c v w f g h s t u x y z j0 two next eb eg ec eh low high e r a i =
    let first = low e r (parts_low j d e v f r j0 b g eb a eg) i in
    let then : AreParts (j - 1) c h e r w = subst (λ (n : ℕ). AreParts (j - 1) c h e r n) (sym next) (parts_high j d e v f r j0 c h ec a eh) in
    let second = high e r then (subst (λ (n : ℕ). IsSurveyed t y (λ u. one_answer e (r u)) n) (sym next) first) in
    let end : w + 2 ^ (j - 1) ≡ v + 2 ^ j = omega (arith, next, two) in
    subst (λ (n : ℕ). IsSurveyed u z (λ u. one_answer e (r u)) n) end second

pub surveyed_whole : (d : ℕ) (f : List Bool → ℕ) (s t : Survey) (x y : List ℕ) → s ≡ record { vectors = record { vector = 0; leafvec = 0; last = None }; leaves = 0 } → Adds 6 d 0 f s x t y → IsSurveyed t y (slots d f) 64
surveyed_whole d f s t x y is all = all (d - 6) (slot d f) (parts_start d f) (surveyed_start (slots d f) x s is)

pub surveyed_nodes : (g : ℕ → Option ℕ) (hops : List ℕ) (s : Survey) → IsSurveyed s hops g 64 → ones s.vectors.vector ≡ children g
surveyed_nodes g hops s i = ones_total s.vectors.vector 64 (λ u. mixed (g u)) (omega arith) (omega arith) i.vectors.no_nodes i.vectors.nodes

pub surveyed_leaves : (g : ℕ → Option ℕ) (hops : List ℕ) (s : Survey) → IsSurveyed s hops g 64 → ones s.vectors.leafvec ≡ runs g
surveyed_leaves g hops s i = ones_total s.vectors.leafvec 64 (run_start g) (omega arith) (omega arith) i.vectors.no_leaves i.vectors.leaves
