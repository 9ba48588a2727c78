-- What is known of candidates, and of some behind them.
use Rattle.std.proofs.Common.{◌≡◌, ◌<◌, ◌≤◌, Bool, true, false, cond, not, List, [], ◌∷◌, ◌++◌, map, Option, Some, None, refl, sym, ap, ◌∙◌}
use Rattle.std.specs.Prelude.{◌||◌, ◌==◌, nat_lt, option_map}
use Rattle.std.specs.Option.{option_or}
use Rattle.std.proofs.lemmas.Bool.{lt-ltb, le-ltb}
use Rattle.route_model.specs.Choice.{Place, PathAttrs}
use Rattle.mrt_write.specs.Checkpoint.{has_ids}
use Rattle.mrt_write.specs.Saved.{long_one, most_path}
use Rattle.fib_prefix.specs.Views.{cand_as}
use Rattle.fib_prefix.specs.declared.event.Cand.{Cand}

pub ids_behind : (cs : List Cand) (c : Cand) → has_ids (map cand_as (cs ++ c ∷ [])) ≡ (has_ids (map cand_as cs) || has_ids (cand_as c ∷ []))
ids_behind [] c = refl
ids_behind (x ∷ cs) c = ap (λ b. not (x.via.id == 0) || b) (ids_behind cs c) ∙ regrouped (not (x.via.id == 0)) (has_ids (map cand_as cs)) (has_ids (cand_as c ∷ []))
  where
    regrouped : (a b c : Bool) → (a || (b || c)) ≡ ((a || b) || c)
    regrouped true b c = refl
    regrouped false b c = refl

pub long_behind : (cs : List Cand) (c : Cand) → long_one (map cand_as (cs ++ c ∷ [])) ≡ option_or (long_one (map cand_as cs)) (long_one (cand_as c ∷ []))
long_behind [] c = refl
long_behind (x ∷ cs) c = by_test (nat_lt most_path x.path) (long_behind cs c)
  where
    by_test : (b : Bool) → long_one (map cand_as (cs ++ c ∷ [])) ≡ option_or (long_one (map cand_as cs)) (long_one (cand_as c ∷ []))
        → cond b (Some (cand_as x)) (long_one (map cand_as (cs ++ c ∷ []))) ≡ option_or (cond b (Some (cand_as x)) (long_one (map cand_as cs))) (long_one (cand_as c ∷ []))
    by_test true ih = refl
    by_test false ih = ih

-- ---- one candidate

pub ids_one : (before : Bool) (c : Cand) (b : Bool) → b ≡ not (c.via.id == 0) → (before || b) ≡ (before || has_ids (cand_as c ∷ []))
ids_one before c b e = ap (λ x. before || x) (e ∙ sym (or_false (not (c.via.id == 0))))
  where
    or_false : (b : Bool) → (b || false) ≡ b
    or_false true = refl
    or_false false = refl

abbrev one_long : (c : Cand) (b : Bool) → Option (Place × PathAttrs)
one_long c b = cond b (Some (cand_as c)) None

-- it isn't too long
pub short_kept : (old : Option Cand) (c : Cand) → c.path ≤ 15000 → option_map cand_as old ≡ option_or (option_map cand_as old) (long_one (cand_as c ∷ []))
short_kept old c h = none old ∙ ap (λ b. option_or (option_map cand_as old) (one_long c b)) (sym (le-ltb most_path c.path h))
  where
    none : (o : Option Cand) → option_map cand_as o ≡ option_or (option_map cand_as o) None
    none (Some x) = refl
    none None = refl

-- it is too long, and the first one
pub long_kept : (old : Option Cand) (c : Cand) → 15000 < c.path → old ≡ None → Some (cand_as c) ≡ option_or (option_map cand_as old) (long_one (cand_as c ∷ []))
long_kept old c h e = ap (one_long c) (sym (lt-ltb most_path c.path h)) ∙ ap (λ o. option_or (option_map cand_as o) (long_one (cand_as c ∷ []))) (sym e)

-- or another one was before
pub earlier_kept : (old : Option Cand) (x c : Cand) → old ≡ Some x → option_map cand_as old ≡ option_or (option_map cand_as old) (long_one (cand_as c ∷ []))
earlier_kept old x c e = by_option old e
  where
    by_option : (o : Option Cand) → o ≡ Some x → option_map cand_as o ≡ option_or (option_map cand_as o) (long_one (cand_as c ∷ []))
    by_option (Some y) e = refl
    by_option None e = absurd cc
