-- The hops of two halves, and a region's new entry.
use Rattle.std.proofs.Common.{◌≡◌, ℕ, ◌+◌, ◌≤◌, List, Bool, true, false, not, cond, Option, Some, None, nat_eq, refl, sym, ap, ◌∙◌, arith}
use Rattle.std.proofs.lemmas.Bool.{eqb-true}
use Rattle.table_model.specs.Table.{inherit}
use Rattle.table_model.specs.Sets.{is_in}
use Rattle.table_model.proofs.Sets.{miss, filled, filled_joint, in_smallest, without_entry, with_entry, of_the_set, miss_most}
use Rattle.moves_model.specs.Sets.{Allowed, any, these, is_allowed, allowed_by_both, gap, least_allowed, set_over, k_over, new_entry}
use Rattle.moves_model.proofs.Counts.{one_if, tally, tally_itself}

-- 1 where the hop isn't among them
abbrev pub lacks : ℕ → Allowed → ℕ
lacks h S = cond (is_allowed h S) 0 1

most : (b : Bool) → cond b 0 1 ≤ 1
most true = omega arith
most false = omega arith

pub lacks_most : (h : ℕ) (S : Allowed) → lacks h S ≤ 1
lacks_most h S = most (is_allowed h S)

-- without an entry at the root both halves inherit h
pub both_without : (S T : Allowed) (h : ℕ) → gap S T + lacks h (allowed_by_both S T) ≤ lacks h S + lacks h T
both_without any T h = omega arith
both_without (these S) any h = omega arith
both_without (these S) (these T) h = without_entry S T h

-- with an entry of hop g both inherit g
pub both_with : (S T : Allowed) (g h : ℕ) → gap S T + lacks h (allowed_by_both S T) ≤ 1 + lacks g S + lacks g T
both_with any T g h = omega (arith, lacks_most h T)
both_with (these S) any g h = omega (arith, miss_most h S)
both_with (these S) (these T) g h = with_entry S T g h

lacks_none : (h : ℕ) (S : List ℕ) → is_in h S ≡ true → miss h S ≡ 0
lacks_none h S e = ap (λ (b : Bool). cond b 0 1) e

-- a hop of both lacks as often as they have a gap
pub both_of : (S T : Allowed) (h : ℕ) → is_allowed h (allowed_by_both S T) ≡ true → lacks h S + lacks h T ≡ gap S T
both_of any any h e = refl
both_of any (these T) h e = omega (arith, lacks_none h T e)
both_of (these S) any h e = omega (arith, lacks_none h S e)
both_of (these S) (these T) h e = of_the_set S T h e

-- there is a hop
abbrev pub has_hop : Allowed → Bool
has_hop any = true
has_hop (these S) = filled S

pub both_hop : (S T : Allowed) → has_hop S ≡ true → has_hop T ≡ true → has_hop (allowed_by_both S T) ≡ true
both_hop any T e f = f
both_hop (these S) any e f = e
both_hop (these S) (these T) e f = filled_joint S T e

pub over_hop : (o : Option ℕ) (S : Allowed) → has_hop S ≡ true → has_hop (set_over o S) ≡ true
over_hop None S e = e
over_hop (Some t) S e = refl

pub holds_least : (S : Allowed) → has_hop S ≡ true → is_allowed (least_allowed S) S ≡ true
holds_least any e = refl
holds_least (these S) e = in_smallest S e

-- the region's own old entry counted
pub over_cost : (o : Option ℕ) (S : Allowed) (m h : ℕ) → k_over o S m + lacks h (set_over o S) ≡ m + lacks (inherit o h) S
over_cost None S m h = refl
over_cost (Some t) S m h = by_test (is_allowed t S)
  where
    by_test : (b : Bool) → cond b m (m + 1) + 0 ≡ m + cond b 0 1
    by_test true = refl
    by_test false = omega arith

-- what is inherited from the new entry, or without one from above, is one of these
add_cond : (S : Allowed) (h : ℕ) (b : Bool) → is_allowed h S ≡ b → has_hop S ≡ true → is_allowed (inherit (cond b None (Some (least_allowed S))) h) S ≡ true
add_cond S h true e f = e
add_cond S h false e f = holds_least S f

keep_cond : (S : Allowed) (t h : ℕ) (b : Bool) → is_allowed t S ≡ b → has_hop S ≡ true → is_allowed (inherit (cond b (Some t) (cond (is_allowed h S) None (Some (least_allowed S)))) h) S ≡ true
keep_cond S t h true e f = e
keep_cond S t h false e f = add_cond S h (is_allowed h S) refl f

pub holds_new : (S : Allowed) (o : Option ℕ) (h : ℕ) → has_hop S ≡ true → is_allowed (inherit (new_entry S o h) h) S ≡ true
holds_new S None h f = add_cond S h (is_allowed h S) refl f
holds_new S (Some t) h f = keep_cond S t h (is_allowed t S) refl f

-- the new entry is another than the old one just where that lacks
add_tally : (b : Bool) (g : ℕ) → tally None (cond b None (Some g)) ≡ cond b 0 1
add_tally true g = refl
add_tally false g = refl

apart_hops : (S : Allowed) (t g : ℕ) → is_allowed t S ≡ false → is_allowed g S ≡ true → tally (Some t) (Some g) ≡ 1
apart_hops S t g e f = by_test (nat_eq t g) refl
  where
    by_test : (b : Bool) → nat_eq t g ≡ b → one_if (not (nat_eq t g)) ≡ 1
    by_test true n = let x : true ≡ false = sym f ∙ (ap (λ y. is_allowed y S) (sym (eqb-true t g n)) ∙ e) in absurd cc
    by_test false n = ap (λ b. one_if (not b)) n

put_tally : (S : Allowed) (t h : ℕ) (b : Bool) → is_allowed t S ≡ false → has_hop S ≡ true → tally (Some t) (cond b None (Some (least_allowed S))) ≡ 1
put_tally S t h true e f = refl
put_tally S t h false e f = apart_hops S t (least_allowed S) e (holds_least S f)

keep_tally : (S : Allowed) (t h : ℕ) (b : Bool) → is_allowed t S ≡ b → has_hop S ≡ true → tally (Some t) (cond b (Some t) (cond (is_allowed h S) None (Some (least_allowed S)))) ≡ cond b 0 1
keep_tally S t h true e f = tally_itself t
keep_tally S t h false e f = put_tally S t h (is_allowed h S) e f

pub new_tally : (S : Allowed) (o : Option ℕ) (h : ℕ) → has_hop S ≡ true → tally o (new_entry S o h) ≡ lacks (inherit o h) S
new_tally S None h f = add_tally (is_allowed h S) (least_allowed S)
new_tally S (Some t) h f = keep_tally S t h (is_allowed t S) refl f
