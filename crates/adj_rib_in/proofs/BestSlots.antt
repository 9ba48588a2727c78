-- The best slot of a row, whose candidate is made once.
use Rattle.std.proofs.Common.{◌≡◌, ℕ, ◌+◌, ◌<◌, ◌≤◌, List, Bool, true, false, Option, Some, None, length, refl, sym, ap, subst, ◌∙◌, arith}
use Rattle.std.specs.Prelude.{◌==◌, IfSome, MatchBool, if◌then◌else◌, nat_lt, option_map, slice_get}
use Rattle.std.specs.Cmp.{IsTotalOrder}
use Rattle.std.specs.Ordering.{nat_cmp, on, then_cmp, ordering_reverse, is_lt, is_gt}
use Rattle.std.specs.declared.cmp.Ordering.{Ordering}
use Rattle.std.specs.declared.cmp.Ordering.TheVariants.{Less, Equal, Greater}
use Rattle.std.proofs.lemmas.Cmp.{nat_cmp_total, on_total, then_total, upto}
use Rattle.std.proofs.lemmas.Option.{slice_get_past}
use Rattle.fib_addr.specs.declared.addr.Addr.{Addr}
use Rattle.fib_addr.specs.declared.prefix.Prefix as code
use Rattle.fib_prefix.specs.Order.{code_via_cmp}
use Rattle.fib_prefix.specs.declared.event.Peer.{Peer}
use Rattle.fib_prefix.specs.declared.event.Via.{Via}
use Rattle.adj_rib_in.specs.declared.keys.PathAttrs.{PathAttrs}
use Rattle.adj_rib_in.specs.declared.keys.Candidate.{Candidate}
use Rattle.adj_rib_in.specs.declared.slot.PathSlot.{PathSlot}
use Rattle.adj_rib_in.specs.declared.flat.Flat.{Flat}
use Rattle.adj_rib_in.specs.Paths.{Paths}
use Rattle.adj_rib_in.specs.Flat.{IsFlat, IsRowPlace, IsSlotRun, ShareNoKey, via_or, via_on, attrs_on, flat_paths, paths_over}
use Rattle.adj_rib_in.specs.Bests.{IsBestHeld, IsOffered, is_excluded, candidate_on, comes_before, better_one, better_on, best_step}
use Rattle.adj_rib_in.proofs.Orders.{via_total}
use Rattle.adj_rib_in.proofs.Holds.{is_better}
use Rattle.adj_rib_in.proofs.RowLists.{got_within}
use Rattle.adj_rib_in.proofs.Betters.{number_same, Walks, walks_start, walks_step, walks_end}

-- ---- whether something is offered at a slot

by_lt : (a b : ℕ) (P Q : Type 0) → (a < b → P) → (b ≤ a → Q) → MatchBool (nat_lt a b) P Q
by_lt a b P Q f g = by_test (nat_lt a b) refl
  where
    by_test : (t : Bool) → nat_lt a b ≡ t → MatchBool t P Q
    by_test true e = f (grind (arith, e))
    by_test false e = g (grind (arith, e))

no_attrs : (v : Option Via) → better_on None v None None ≡ None
no_attrs None = refl
no_attrs (Some q) = refl

pub live_hop : (b : Flat) (s : PathSlot) (n m : ℕ) → n ≡ length b.peers.keys → m ≡ length b.hops.keys → s.peer < n → MatchBool (nat_lt s.hop m) (IsOffered b s) (candidate_on b (Some s) ≡ None)
live_hop b s n m e f l = by_lt s.hop m (IsOffered b s) (candidate_on b (Some s) ≡ None) there none
  where
    there : s.hop < m → IsOffered b s
    there k =
        let q = got_within b.peers.keys s.peer (omega (arith, e, l)) in
        let h = got_within b.hops.keys s.hop (omega (arith, f, k)) in (
          record { via = record { peer = q.0; id = s.id }; attrs = record { path = s.path; hop = h.0 } },
          ap (λ x. better_on None (via_or x s.id) (attrs_on b.hops.keys s) None) q.1
              ∙ ap (λ x. better_on None (Some (record { peer = q.0; id = s.id })) (option_map (λ h. let o : PathAttrs = record { path = s.path; hop = h } in o) x) None) h.1,
        )

    none : m ≤ s.hop → candidate_on b (Some s) ≡ None
    none k = ap (λ x. better_on None (via_on b.peers.keys s) (option_map (λ h. let o : PathAttrs = record { path = s.path; hop = h } in o) x) None) (slice_get_past b.hops.keys s.hop (omega (arith, f, k))) ∙ no_attrs (via_on b.peers.keys s)

pub live_none : (b : Flat) (s : PathSlot) (n : ℕ) → n ≡ length b.peers.keys → n ≤ s.peer → MatchBool (nat_lt s.peer n) (IsOffered b s) (candidate_on b (Some s) ≡ None)
live_none b s n e l = by_lt s.peer n (IsOffered b s) (candidate_on b (Some s) ≡ None) (λ k. absurd (omega (arith, l, k))) (λ k. ap (λ x. better_on None (via_or x s.id) (attrs_on b.hops.keys s) None) (slice_get_past b.peers.keys s.peer (omega (arith, e, l))))

-- ---- the order of candidates

abbrev candidate_cmp : Candidate → Candidate → Ordering
candidate_cmp = then_cmp (on (λ (c : Candidate). c.attrs.path) nat_cmp) (on (λ (c : Candidate). c.via) code_via_cmp)

candidate_total : IsTotalOrder candidate_cmp
candidate_total = then_total (on_total (λ (c : Candidate). c.attrs.path) nat_cmp_total) (on_total (λ (c : Candidate). c.via) via_total)

before_is : (c d : Candidate) → comes_before c d ≡ is_lt (candidate_cmp c d)
before_is c d = is_better c.attrs.path d.attrs.path (code_via_cmp c.via d.via)

is_less : (o : Ordering) → is_lt o ≡ true → o ≡ Less
is_less Less e = refl
is_less Equal e = absurd cc
is_less Greater e = absurd cc

back : (o : Ordering) → is_lt (ordering_reverse o) ≡ is_gt o
back Less = refl
back Equal = refl
back Greater = refl

before_back : (c d : Candidate) → comes_before c d ≡ is_gt (candidate_cmp d c)
before_back c d = before_is c d ∙ (ap is_lt (candidate_total.antisymm c d) ∙ back (candidate_cmp d c))

before_on : (c d e : Candidate) → comes_before c d ≡ true → comes_before d e ≡ true → comes_before c e ≡ true
before_on c d e s t = before_is c e ∙ ap is_lt (candidate_total.trans c d e (is_less _ (sym (before_is c d) ∙ s)) (is_less _ (sym (before_is d e) ∙ t)))

not_before : (c d e : Candidate) → comes_before c d ≡ false → comes_before d e ≡ false → comes_before c e ≡ false
not_before c d e s t = before_back c e ∙ upto candidate_total e d c (sym (before_back d e) ∙ t) (sym (before_back c d) ∙ s)

-- ---- the better of three

abbrev pub joined : Option Candidate → Option Candidate → Option Candidate
joined None d = d
joined (Some c) d = Some (better_one c d)

better_joined : (c : Candidate) (d e : Option Candidate) → better_one (better_one c d) e ≡ better_one c (joined d e)
better_joined c None e = refl
better_joined c (Some d) None = refl
better_joined c (Some d) (Some e) = by_tests (comes_before c d) (comes_before d e) refl refl
  where
    by_tests : (s t : Bool) → comes_before c d ≡ s → comes_before d e ≡ t → better_one (if s then c else d) (Some e) ≡ better_one c (Some (if t then d else e))
    by_tests true true s t = ap (λ x. if x then c else e) (before_on c d e s t) ∙ sym (ap (λ x. if x then c else d) s)
    by_tests true false s t = refl
    by_tests false true s t = ap (λ x. if x then d else e) t ∙ sym (ap (λ x. if x then c else d) s)
    by_tests false false s t = ap (λ x. if x then d else e) t ∙ sym (ap (λ x. if x then c else e) (not_before c d e s t))

on_joined : (but v : Option Via) (o : Option PathAttrs) (c d : Option Candidate) → joined (better_on but v o c) d ≡ better_on but v o (joined c d)
on_joined but None o c d = refl
on_joined but (Some q) None c d = refl
on_joined but (Some q) (Some o) c d = by_out (is_excluded but q)
  where
    by_out : (t : Bool) → joined (if t then c else Some (better_one (record { via = q; attrs = o }) c)) d ≡ (if t then joined c d else Some (better_one (record { via = q; attrs = o }) (joined c d)))
    by_out true = refl
    by_out false = ap Some (better_joined (record { via = q; attrs = o }) c d)

step_joined : (peers : List Peer) (hops : List Addr) (r : ℕ) (but : Option Via) (o : Option PathSlot) (c d : Option Candidate) → joined (best_step peers hops r but o c) d ≡ best_step peers hops r but o (joined c d)
step_joined peers hops r but None c d = refl
step_joined peers hops r but (Some s) c d = by_row (s.row == r)
  where
    by_row : (t : Bool) → joined (if t then better_on but (via_on peers s) (attrs_on hops s) c else c) d ≡ (if t then better_on but (via_on peers s) (attrs_on hops s) (joined c d) else joined c d)
    by_row true = on_joined but (via_on peers s) (attrs_on hops s) c d
    by_row false = refl

-- past a slot of the row
pub step_there : (peers : List Peer) (hops : List Addr) (r : ℕ) (but : Option Via) (o : Option PathSlot) (s : PathSlot) (c : Option Candidate) → Some s ≡ o → s.row ≡ r → better_on but (via_on peers s) (attrs_on hops s) c ≡ best_step peers hops r but o c
step_there peers hops r but o s c e h = sym (ap (λ (t : Bool). if t then better_on but (via_on peers s) (attrs_on hops s) c else c) (number_same s.row r h)) ∙ ap (λ x. best_step peers hops r but x c) e

-- ---- what the loop keeps

pub record Keeps (b : Flat) (p : code.Prefix) (r : ℕ) (but : Option Via) (other : Option Candidate) (i : ℕ) (best : Option PathSlot) : Type 0 where
  pub live : IfSome best (IsOffered b)
  pub walks : Walks b p r but other i (joined (candidate_on b best) other)

pub keeps_start : (b : Flat) (p : code.Prefix) (r from to : ℕ) (but : Option Via) (other : Option Candidate) → IsFlat b → IsRowPlace b.rows.items p r → IsSlotRun b.rows.items r (length b.rows.slots) from to → Keeps b p r but other from None
keeps_start b p r from to but other f row run = record { live = tt; walks = walks_start b p r from to but other f row run }

pub keeps_step : (b : Flat) (p : code.Prefix) (r i : ℕ) (but : Option Via) (other : Option Candidate) (best new : Option PathSlot) → IsFlat b → IsRowPlace b.rows.items p r → IfSome new (IsOffered b) → candidate_on b new ≡ best_step b.peers.keys b.hops.keys r but (slice_get b.rows.slots i) (candidate_on b best) → Keeps b p r but other i best → Keeps b p r but other (i + 1) new
keeps_step b p r i but other best new f row live e k = record {
  live = live;
  walks = walks_step b p r i but other (joined (candidate_on b best) other) (joined (candidate_on b new) other) f row (ap (λ x. joined x other) e ∙ step_joined b.peers.keys b.hops.keys r but (slice_get b.rows.slots i) (candidate_on b best) other) k.walks;
}

pub keeps_end : (b : Flat) (p : code.Prefix) (r from to i : ℕ) (but : Option Via) (other : Option Candidate) (s : PathSlot) (c : Option Candidate) → IsFlat b → IsRowPlace b.rows.items p r → IsSlotRun b.rows.items r (length b.rows.slots) from to → to ≤ i → Keeps b p r but other i (Some s) → c ≡ better_on None (via_on b.peers.keys s) (attrs_on b.hops.keys s) other
    → (over : Paths) → ShareNoKey (flat_paths b) over → IsBestHeld over but p other → IsBestHeld (paths_over b over) but p c
keeps_end b p r from to i but other s c f row run l k e over apart best =
    subst (IsBestHeld (paths_over b over) but p) (on_joined None (via_on b.peers.keys s) (attrs_on b.hops.keys s) None other ∙ sym e)
    (walks_end b p r from to i but other (joined (candidate_on b (Some s)) other) f row run l k.walks over apart best)

pub keeps_none : (b : Flat) (p : code.Prefix) (r from to i : ℕ) (but : Option Via) (other : Option Candidate) → IsFlat b → IsRowPlace b.rows.items p r → IsSlotRun b.rows.items r (length b.rows.slots) from to → to ≤ i → Keeps b p r but other i None → (over : Paths) → ShareNoKey (flat_paths b) over → IsBestHeld over but p other → IsBestHeld (paths_over b over) but p other
keeps_none b p r from to i but other f row run l k = walks_end b p r from to i but other other f row run l k.walks
