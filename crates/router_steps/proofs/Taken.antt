-- The engine in a world: what the next event is there, and one event more.
use Rattle.std.proofs.Common.{◌≡◌, ℕ, zero, suc, ◌+◌, ◌-◌, ◌<◌, ◌≤◌, List, [], ◌∷◌, ◌++◌, Bool, true, false, Option, Some, None, length, take, drop, refl, sym, ap, ◌∙◌, subst, arith, inl, inr, append-nil, append_assoc, length-append, zero-add}
use Rattle.std.specs.Prelude.{◌⊎◌, option_map, is_some, nat_lt, if◌then◌else◌}
use Rattle.std.specs.List.{AllByRecursion}
use Rattle.std.proofs.Math.Seq.{take-append_seam}
use Rattle.std.proofs.lemmas.Bool.{le-ltb, lt-ltb, ltb-false, ltb-true}
use Rattle.std.proofs.lemmas.List.{take-append-drop, length-take-le}
use Rattle.table_model.specs.Address.{Address}
use Rattle.table_model.specs.Entries.{Entries, match_in}
use Rattle.route_model.specs.Events.{Elem}
use Rattle.route_model.specs.Choice.{Candidates, IsElem, after_elem, after_elems}
use Rattle.kept_model.specs.Feed.{entries_of, full_at, hops_after}
use Rattle.kept_model.specs.Kept.{changed_at}
use Rattle.kept_model.proofs.FeedSteps.{elems_more}
use Rattle.kept_model.proofs.Numbers.{entries_stay, full_behind, hops_more, routes_numbered}
use Rattle.fib_addr.specs.Hops.{hop_at, most_hops}
use Rattle.route_tries.specs.Sizes.{Sizes}
use Rattle.fib_engine.specs.Held.{EngineState, engine_routes}
use Rattle.fib_engine.specs.Numbers.{brought_by}
use Rattle.fib_engine.specs.Stands.{EngineStands, TakesElem, routes_after}
use Rattle.step_script.specs.Machine.{World}
use Rattle.router_steps.specs.Engine.{IsEngineAt}
use Rattle.router_steps.specs.Hops.{told_hop}
use Rattle.router_steps.specs.World.{front_of, taken_of, changed_next, held_after, steps_world}
use Rattle.router_steps.proofs.Numbered.{answer_at_most, hop_stays, le_or, more_hops, told_by, told_none}

-- ---- lists
take_past : (xs ys : List Elem) (k : ℕ) → take (length xs + k) (xs ++ ys) ≡ xs ++ take k ys
take_past [] ys k = ap (λ (j : ℕ). take j ys) (zero-add k)
take_past (x ∷ xs) ys k = ap (λ (j : ℕ). take j (x ∷ (xs ++ ys))) (up (length xs)) ∙ ap (λ (l : List Elem). x ∷ l) (take_past xs ys k)
  where
    up : (n : ℕ) → suc n + k ≡ suc (n + k)
    up n = omega arith

drop_past : (xs ys : List Elem) → drop (length xs) (xs ++ ys) ≡ ys
drop_past [] ys = refl
drop_past (x ∷ xs) ys = drop_past xs ys

-- ---- the world at a front of what is taken
module _ (z : Sizes) (load updates front tail : List Elem) (split : taken_of load updates ≡ front ++ tail) where
  abbrev w : World
  w = steps_world z load updates

  held_front : held_after load updates (length front) ≡ after_elems [] (load ++ front)
  held_front =
      ap (λ (es : List Elem). after_elems (after_elems [] load) (take (length front) es)) split
      ∙ (ap (after_elems (after_elems [] load)) (take-append_seam front tail) ∙ sym (elems_more [] load front))

  pub hops_front : w.hops ≡ hops_after (hops_after [] (load ++ front)) tail
  hops_front =
      ap (λ (es : List Elem). hops_after [] (load ++ es)) split
      ∙ (ap (hops_after []) (sym (append_assoc load front tail)) ∙ hops_more [] (load ++ front) tail)

  pub routes_front : w.routes (length front) ≡ entries_of (hops_after [] (load ++ front)) (after_elems [] (load ++ front))
  routes_front =
      ap (λ (hs : List Address). entries_of hs (held_after load updates (length front))) hops_front
      ∙ (ap (entries_of (hops_after (hops_after [] (load ++ front)) tail)) held_front
      ∙ entries_stay (hops_after [] (load ++ front)) (after_elems [] (load ++ front)) tail (routes_numbered (load ++ front)))

-- ---- what is taken
full_pos : (hops : List Address) (elems : List Elem) (n : ℕ) → full_at hops elems ≡ Some n → 1 ≤ n
unfolding full_at
full_pos hops [] n e = absurd cc
full_pos hops (x ∷ elems) n e = by_test (nat_lt most_hops (length (hops_after hops (x ∷ [])))) (full_at (hops_after hops (x ∷ [])) elems) e
  where
    by_test : (b : Bool) (o : Option ℕ) → (if b then Some 1 else option_map suc o) ≡ Some n → 1 ≤ n
    by_test true o f = let k : 1 ≡ n = cc in omega (arith, k)
    by_test false None f = absurd cc
    by_test false (Some m) f = let k : suc m ≡ n = cc in omega (arith, k)

full_skip : (hops : List Address) (e : Elem) (more : List Elem) → length (hops_after hops (e ∷ [])) ≤ most_hops → full_at hops (e ∷ more) ≡ option_map suc (full_at (hops_after hops (e ∷ [])) more)
unfolding full_at
full_skip hops e more few = ap (λ (b : Bool). if b then Some 1 else option_map suc (full_at (hops_after hops (e ∷ [])) more)) (le-ltb most_hops (length (hops_after hops (e ∷ []))) few)

full_first : (hops : List Address) (e : Elem) (more : List Elem) → most_hops < length (hops_after hops (e ∷ [])) → full_at hops (e ∷ more) ≡ Some 1
unfolding full_at
full_first hops e more over = ap (λ (b : Bool). if b then Some 1 else option_map suc (full_at (hops_after hops (e ∷ [])) more)) (lt-ltb most_hops (length (hops_after hops (e ∷ []))) over)

full_nothing : (hops : List Address) → full_at hops [] ≡ None
unfolding full_at
full_nothing hops = refl

full_one : (hops : List Address) (e : Elem) → length (hops_after hops (e ∷ [])) ≤ most_hops → full_at hops (e ∷ []) ≡ None
full_one hops e few = full_skip hops e [] few ∙ ap (option_map suc) (full_nothing (hops_after hops (e ∷ [])))

-- one that is taken, and those after it
with_next : (done more : List Elem) (e : Elem) (o : Option ℕ) → ((m : ℕ) → o ≡ Some m → 1 ≤ m) → (rest : List Elem) × (front_of (option_map (λ m. length done + m) (option_map suc o)) (done ++ e ∷ more) ≡ done ++ e ∷ rest)
with_next done more e None pos = (more, refl)
with_next done more e (Some zero) pos = let z : 1 ≤ 0 = pos zero refl in absurd (omega (arith, z))
with_next done more e (Some (suc m)) pos = (
  take m more,
  ap (λ (k : ℕ). take k (done ++ e ∷ more)) (less (length done)) ∙ take_past done (e ∷ more) (suc m),
)
  where
    less : (n : ℕ) → n + suc (suc m) - 1 ≡ n + suc m
    less n = omega arith

module _ (w : World) (n : ℕ) (held : EngineState) (rest : List Elem) (at : IsEngineAt w n held rest) where
  abbrev H : List Address
  H = hops_after [] at.load

  abbrev updates : List Elem
  updates = at.done ++ rest

  abbrev there : World
  there = steps_world held.sizes at.load updates

  hops_there : held.hops ≡ hops_after H at.done
  hops_there = at.stands.hops ∙ hops_more [] at.load at.done

  held_there : held.candidates ≡ after_elems [] (at.load ++ at.done)
  held_there = at.stands.candidates ∙ sym (elems_more [] at.load at.done)

  full_rest : full_at H updates ≡ option_map (λ m. length at.done + m) (full_at held.hops rest)
  full_rest = full_behind H at.done rest at.room ∙ ap (λ (hs : List Address). option_map (λ m. length at.done + m) (full_at hs rest)) (sym hops_there)

  routes_here : engine_routes held ≡ entries_of (hops_after [] (at.load ++ at.done)) (after_elems [] (at.load ++ at.done))
  routes_here = ap (λ (hs : List Address). entries_of hs held.candidates) at.stands.hops ∙ ap (entries_of (hops_after [] (at.load ++ at.done))) held_there

  -- with what is taken after so many
  module _ (tail : List Elem) (split : taken_of at.load updates ≡ at.done ++ tail) where
    abbrev Few : ℕ → Type 0
    Few m = (a : Address) → match_in (w.routes m) a ≤ length held.hops

    now_at : w.routes n ≡ engine_routes held
    now_at =
        ap (λ (v : World). v.routes n) at.world
        ∙ (ap (λ (m : ℕ). there.routes m) (sym at.many) ∙ (routes_front held.sizes at.load updates at.done tail split ∙ sym routes_here))

    hops_at : w.hops ≡ hops_after held.hops tail
    hops_at = ap (λ (v : World). v.hops) at.world ∙ (hops_front held.sizes at.load updates at.done tail split ∙ ap (λ (hs : List Address). hops_after hs tail) (sym at.stands.hops))

    few_at : (m : ℕ) → m ≤ n → Few m
    few_at m le a =
        let front = take m at.done in
        let back = drop m at.done in
        let whole : front ++ back ≡ at.done = take-append-drop m at.done in
        let long : length front ≡ m = length-take-le m at.done (omega (arith, le, at.many)) in
        let part : taken_of at.load updates ≡ front ++ (back ++ tail) = split ∙ (ap (λ (es : List Elem). es ++ tail) (sym whole) ∙ append_assoc front back tail) in
        let routes : w.routes m ≡ entries_of (hops_after [] (at.load ++ front)) (after_elems [] (at.load ++ front)) =
        ap (λ (v : World). v.routes m) at.world ∙ (ap (λ (k : ℕ). there.routes k) (sym long) ∙ routes_front held.sizes at.load updates front (back ++ tail) part)
        in
        let here : held.hops ≡ hops_after (hops_after [] (at.load ++ front)) back =
        at.stands.hops ∙ (ap (λ (es : List Elem). hops_after [] (at.load ++ es)) (sym whole) ∙ (ap (hops_after []) (sym (append_assoc at.load front back)) ∙ hops_more [] (at.load ++ front) back))
        in
        let few = answer_at_most (at.load ++ front) a in
        let more = more_hops (hops_after [] (at.load ++ front)) back in
        let same : match_in (w.routes m) a ≡ match_in (entries_of (hops_after [] (at.load ++ front)) (after_elems [] (at.load ++ front))) a = ap (λ (E : Entries). match_in E a) routes in
        let size : length held.hops ≡ length (hops_after (hops_after [] (at.load ++ front)) back) = ap (λ (hs : List Address). length hs) here in
        omega (arith, few, more, same, size)

    told_at_now : (m : ℕ) → m ≤ n → (a : Address) → hop_at w.hops (match_in (w.routes m) a) ≡ told_hop held.hops None (match_in (w.routes m) a)
    told_at_now m le a =
        let h = match_in (w.routes m) a in
        ap (λ (hs : List Address). hop_at hs h) hops_at ∙ (hop_stays held.hops tail h (few_at m le a) ∙ told_none held.hops h)

  -- ---- what is left
  abbrev Split : Type 0
  Split = (tail : List Elem) × (taken_of at.load updates ≡ at.done ++ tail)

  module _ (e : Elem) (more : List Elem) (next : rest ≡ e ∷ more) where
    -- it brings no hop too many
    module _ (few : length (hops_after held.hops (e ∷ [])) ≤ most_hops) where
      full_next : full_at H updates ≡ option_map (λ m. length at.done + m) (option_map suc (full_at (hops_after held.hops (e ∷ [])) more))
      full_next = full_rest ∙ ap (option_map (λ m. length at.done + m)) (ap (full_at held.hops) next ∙ full_skip held.hops e more few)

      found : (tail : List Elem) × (front_of (option_map (λ m. length at.done + m) (option_map suc (full_at (hops_after held.hops (e ∷ [])) more))) (at.done ++ e ∷ more) ≡ at.done ++ e ∷ tail)
      found = with_next at.done more e (full_at (hops_after held.hops (e ∷ [])) more) (full_pos (hops_after held.hops (e ∷ [])) more)

      abbrev tail : List Elem
      tail = found.0

      split : taken_of at.load updates ≡ at.done ++ e ∷ tail
      split = ap (λ (o : Option ℕ). front_of o updates) full_next ∙ (ap (λ (es : List Elem). front_of (option_map (λ m. length at.done + m) (option_map suc (full_at (hops_after held.hops (e ∷ [])) more))) (at.done ++ es)) next ∙ found.1)

      split_after : taken_of at.load updates ≡ (at.done ++ e ∷ []) ++ tail
      split_after = split ∙ sym (append_assoc at.done (e ∷ []) tail)

      long : length (at.done ++ e ∷ []) ≡ suc n
      long = length-append at.done (e ∷ []) ∙ omega (arith, at.many)

      pub next_left : n < w.events
      next_left =
          let q : w.events ≡ length (at.done ++ e ∷ tail) = ap (λ (v : World). v.events) at.world ∙ ap (λ (es : List Elem). length es) split in
          let l = length-append at.done (e ∷ tail) in
          omega (arith, q, l, at.many)

      pub next_changed : w.changed n ≡ changed_at held.candidates e
      next_changed =
          ap (λ (v : World). v.changed n) at.world
          ∙ (ap (λ (m : ℕ). there.changed m) (sym at.many)
          ∙ (ap (λ (es : List Elem). changed_next (after_elems (after_elems [] at.load) (take (length at.done) es)) (drop (length at.done) es)) split
          ∙ (ap (λ (es : List Elem). changed_next (after_elems (after_elems [] at.load) es) (drop (length at.done) (at.done ++ e ∷ tail))) (take-append_seam at.done (e ∷ tail))
          ∙ (ap (changed_next (after_elems (after_elems [] at.load) at.done)) (drop_past at.done (e ∷ tail)) ∙ ap (λ (C : Candidates). changed_at C e) (sym at.stands.candidates)))))

      pub next_now : w.routes n ≡ engine_routes held
      next_now = now_at (e ∷ tail) split

      hops_later : hops_after held.hops (e ∷ []) ≡ hops_after [] (at.load ++ (at.done ++ e ∷ []))
      hops_later = ap (λ (hs : List Address). hops_after hs (e ∷ [])) at.stands.hops ∙ (sym (hops_more [] (at.load ++ at.done) (e ∷ [])) ∙ ap (hops_after []) (append_assoc at.load at.done (e ∷ [])))

      held_later : after_elem held.candidates e ≡ after_elems [] (at.load ++ (at.done ++ e ∷ []))
      held_later = ap (λ (C : Candidates). after_elem C e) held_there ∙ (sym (elems_more [] (at.load ++ at.done) (e ∷ [])) ∙ ap (after_elems []) (append_assoc at.load at.done (e ∷ [])))

      routes_later : routes_after e held ≡ entries_of (hops_after [] (at.load ++ (at.done ++ e ∷ []))) (after_elems [] (at.load ++ (at.done ++ e ∷ [])))
      routes_later = ap (λ (hs : List Address). entries_of hs (after_elem held.candidates e)) hops_later ∙ ap (entries_of (hops_after [] (at.load ++ (at.done ++ e ∷ [])))) held_later

      pub next_later : w.routes (suc n) ≡ routes_after e held
      next_later =
          ap (λ (v : World). v.routes (suc n)) at.world
          ∙ (ap (λ (m : ℕ). there.routes m) (sym long) ∙ (routes_front held.sizes at.load updates (at.done ++ e ∷ []) tail split_after ∙ sym routes_later))

      -- what is told of an answer of these routes and of earlier ones
      few_next : (m : ℕ) → m ≤ suc n → (a : Address) → match_in (w.routes m) a ≤ length (hops_after held.hops (e ∷ []))
      few_next m le a = by_test (le_or n m)
        where
          by_test : (m ≤ n) ⊎ (n < m) → match_in (w.routes m) a ≤ length (hops_after held.hops (e ∷ []))
          by_test (inl q) = omega (arith, few_at (e ∷ tail) split m q a, more_hops held.hops (e ∷ []))
          by_test (inr q) =
              let last : m ≡ suc n = omega (arith, q, le) in
              let same : match_in (w.routes m) a ≡ match_in (entries_of (hops_after [] (at.load ++ (at.done ++ e ∷ []))) (after_elems [] (at.load ++ (at.done ++ e ∷ [])))) a = ap (λ (k : ℕ). match_in (w.routes k) a) last ∙ ap (λ (E : Entries). match_in E a) (next_later ∙ routes_later) in
              let size : length (hops_after held.hops (e ∷ [])) ≡ length (hops_after [] (at.load ++ (at.done ++ e ∷ []))) = ap (λ (hs : List Address). length hs) hops_later in
              omega (arith, answer_at_most (at.load ++ (at.done ++ e ∷ [])) a, same, size)

      pub next_told : (m : ℕ) → m ≤ suc n → (a : Address) → hop_at w.hops (match_in (w.routes m) a) ≡ told_hop held.hops (brought_by held.hops e) (match_in (w.routes m) a)
      next_told m le a =
          let h = match_in (w.routes m) a in
          ap (λ (hs : List Address). hop_at hs h) (hops_at (e ∷ tail) split ∙ hops_more held.hops (e ∷ []) tail)
          ∙ (hop_stays (hops_after held.hops (e ∷ [])) tail h (few_next m le a) ∙ told_by held.hops e h)

      -- it is taken
      pub next_taken : (new : EngineState) → TakesElem e held new → EngineStands at.load (at.done ++ e ∷ []) new → IsEngineAt w (suc n) new more
      next_taken new t stands = record {
        load = at.load;
        done = at.done ++ e ∷ [];
        proper = subst (AllByRecursion IsElem) whole at.proper;
        stands = stands;
        room = full_behind H at.done (e ∷ []) at.room ∙ ap (option_map (λ m. length at.done + m)) (ap (λ (hs : List Address). full_at hs (e ∷ [])) (sym hops_there) ∙ full_one held.hops e few);
        many = long;
        world = at.world ∙ (ap (λ (z : Sizes). steps_world z at.load updates) (sym t.sizes) ∙ ap (steps_world new.sizes at.load) whole);
      }
        where
          whole : updates ≡ (at.done ++ e ∷ []) ++ more
          whole = ap (λ (es : List Elem). at.done ++ es) next ∙ sym (append_assoc at.done (e ∷ []) more)

    -- it brings one hop too many
    module _ (over : most_hops < length (hops_after held.hops (e ∷ []))) where
      full_over : full_at H updates ≡ Some (length at.done + 1)
      full_over = full_rest ∙ ap (option_map (λ m. length at.done + m)) (ap (full_at held.hops) next ∙ full_first held.hops e more over)

      split_over : taken_of at.load updates ≡ at.done
      split_over =
          let last : length at.done + 1 - 1 ≡ length at.done = omega arith in
          ap (λ (o : Option ℕ). front_of o updates) full_over ∙ (ap (λ (k : ℕ). take k updates) last ∙ take-append_seam at.done rest)

      pub over_last : w.events ≤ n
      over_last = let q : w.events ≡ length at.done = ap (λ (v : World). v.events) at.world ∙ ap (λ (es : List Elem). length es) split_over in omega (arith, q, at.many)

      pub over_full : w.is_full ≡ true
      over_full = ap (λ (v : World). v.is_full) at.world ∙ ap is_some full_over

      over_split : Split
      over_split = ([], split_over ∙ sym (append-nil at.done))

    next_split : (b : Bool) → nat_lt most_hops (length (hops_after held.hops (e ∷ []))) ≡ b → Split
    next_split true t = over_split (ltb-true most_hops (length (hops_after held.hops (e ∷ []))) t)
    next_split false t = (let few = ltb-false most_hops (length (hops_after held.hops (e ∷ []))) t in (e ∷ tail few, split few))

  -- none is left
  module _ (none : rest ≡ []) where
    full_none : full_at H updates ≡ None
    full_none = full_rest ∙ ap (option_map (λ m. length at.done + m)) (ap (full_at held.hops) none ∙ full_nothing held.hops)

    split_none : taken_of at.load updates ≡ at.done
    split_none = ap (λ (o : Option ℕ). front_of o updates) full_none ∙ (ap (λ (es : List Elem). at.done ++ es) none ∙ append-nil at.done)

    pub none_last : w.events ≤ n
    none_last = let q : w.events ≡ length at.done = ap (λ (v : World). v.events) at.world ∙ ap (λ (es : List Elem). length es) split_none in omega (arith, q, at.many)

    pub none_full : w.is_full ≡ false
    none_full = ap (λ (v : World). v.is_full) at.world ∙ ap is_some full_none

  some_split : (es : List Elem) → rest ≡ es → Split
  some_split [] is = ([], split_none is ∙ sym (append-nil at.done))
  some_split (e ∷ more) is = next_split e more is (nat_lt most_hops (length (hops_after held.hops (e ∷ [])))) refl

  -- where no event is begun
  pub told_now : (m : ℕ) → m ≤ n → (a : Address) → hop_at w.hops (match_in (w.routes m) a) ≡ told_hop held.hops None (match_in (w.routes m) a)
  told_now m le a = let s = some_split rest refl in told_at_now s.0 s.1 m le a
