-- A lookup without a pause, read by read.
use Rattle.std.proofs.Common.{◌≡◌, ℕ, zero, suc, ◌+◌, ◌-◌, ◌*◌, ◌<◌, ◌≤◌, List, Bool, Option, Some, None, take, drop, refl, sym, ap, ◌∙◌, arith, subst}
use Rattle.table_model.specs.Width.{width}
use Rattle.fib_addr.specs.declared.addr.Addr.{Addr}
use Rattle.fib_addr.specs.Views.{addr_as}
use Rattle.table_model.specs.Entries.{Entries, match_in}
use Rattle.fib_addr.specs.Answers.{one_answer, part}
use Rattle.poptrie_build.specs.Strides.{strides, visits, mixed}
use Rattle.poptrie_build.specs.Tries.{rest, visits_of}
use Rattle.poptrie_build.specs.declared.node.Node.{Node}
use Rattle.poptrie_build.proofs.Filled.{at_most_128}
use Rattle.poptrie_set.specs.Rooms.{safe}
use Rattle.poptrie_set.specs.Lives.{Seen}
use Rattle.poptrie_set.specs.Reading.{ReadsOn, CanRead, LeadsIn, bits_after}
use Rattle.poptrie_set.specs.First.{StartsIn}
use Rattle.poptrie_set.specs.declared.reading.At.{At}
use Rattle.poptrie_set.specs.declared.reading.At.TheVariants as at
use Rattle.poptrie_set.proofs.First_read.{sum}

one_at_most : (x : Option ℕ) → mixed x ≤ 1
one_at_most None = omega arith
one_at_most (Some h) = omega arith

visits_few : (k d : ℕ) (f : List Bool → ℕ) (a : List Bool) → visits k d f a ≤ k
unfolding visits
visits_few zero d f a = omega arith
visits_few (suc k) d f a = omega (arith, one_at_most (one_answer d f), visits_few k (d - 6) (part (take 6 a) f) (drop 6 a))

-- the nodes left on the way, and their sum with those that were visited
pub record Way (l : Seen) (E : Entries) (a : Addr) (node stride seen : ℕ) : Type 0 where
  pub left : ℕ
  pub count : seen + left ≡ visits_of l.direct_bits E (addr_as a)
  pub at_stride : stride ≡ seen
  pub N : ℕ → Bool
  pub L : ℕ → Bool
  pub reads : ReadsOn left l.nodes.space.cells N l.leaves.space.cells L node (bits_after l.direct_bits stride a) (match_in E (addr_as a))

abbrev pub OnWay : At → Seen → Entries → Addr → ℕ → Type 0
OnWay (at.Node i t) l E a seen = Way l E a i t seen
OnWay (at.Answer h) l E a seen = (h.0 ≡ match_in E (addr_as a)) × (seen ≡ visits_of l.direct_bits E (addr_as a))

pub way_starts : (r : At) (l : Seen) (E : Entries) (a : Addr) → StartsIn r l E a → OnWay r l E a 0
way_starts (at.Node i t) l E a s = record { left = visits_of l.direct_bits E (addr_as a); count = omega arith; at_stride = s.0; N = safe l.nodes l.made 0; L = safe l.leaves l.made 0; reads = subst (λ (n : ℕ). ReadsOn (visits_of l.direct_bits E (addr_as a)) l.nodes.space.cells (safe l.nodes l.made 0) l.leaves.space.cells (safe l.leaves l.made 0) i (bits_after l.direct_bits n a) (match_in E (addr_as a))) (sym s.0) (s.1 0) }
way_starts (at.Answer h) l E a s = (s.0, sym s.1)

pub way_leads : (r : At) (l : Seen) (E : Entries) (a : Addr) (i t seen more : ℕ) (w : Way l E a i t seen) → more ≡ suc seen → LeadsIn r w.left l.nodes.space.cells w.N l.leaves.space.cells w.L l.direct_bits t a (match_in E (addr_as a)) → OnWay r l E a more
way_leads (at.Node j u) l E a i t seen more w e s = record { left = s.1.0; count = omega (arith, w.count, s.1.1, e); at_stride = s.0 ∙ (ap suc w.at_stride ∙ sym e); N = w.N; L = w.L; reads = s.1.2 }
way_leads (at.Answer h) l E a i t seen more w e s = (s.1, omega (arith, e, w.count, s.0))

-- ---- a node that is still to be visited
some_left : (left : ℕ) (nodes : List Node) (N : ℕ → Bool) (leaves : List ℕ) (L : ℕ → Bool) (i : ℕ) (bits : List Bool) (h : ℕ) → ReadsOn left nodes N leaves L i bits h → 0 < left
unfolding ReadsOn
some_left zero nodes N leaves L i bits h r = absurd r
some_left (suc left) nodes N leaves L i bits h r = omega arith

pub way_few : (l : Seen) (E : Entries) (a : Addr) (i t seen : ℕ) → a.family ≡ l.family → l.direct_bits ≤ 18 → Way l E a i t seen → (l.direct_bits + 6 * t < 128) × (seen < 22)
way_few l E a i t seen fam few w =
    let d = rest a.family l.direct_bits in
    let some = some_left w.left l.nodes.space.cells w.N l.leaves.space.cells w.L i (bits_after l.direct_bits t a) (match_in E (addr_as a)) w.reads in
    let most : visits_of l.direct_bits E (addr_as a) ≤ strides d = visits_few (strides d) d _ _ in
    let s : l.direct_bits + d ≡ width a.family = sum a.family l.direct_bits E a refl (omega arith) in
    (omega (arith, w.count, w.at_stride, at_most_128 a.family), omega (arith, w.count, at_most_128 a.family))

pub way_can : (l : Seen) (E : Entries) (a : Addr) (i t seen : ℕ) → Way l E a i t seen → CanRead l.nodes.space.cells l.leaves.space.cells i (bits_after l.direct_bits t a)
way_can l E a i t seen w = (w.left, match_in E (addr_as a), w.N, w.L, w.reads)
