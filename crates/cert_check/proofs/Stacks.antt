-- Rows read one by one.
use Rattle.std.proofs.Common.{◌≡◌, ◌≢◌, ℕ, ◌+◌, ◌<◌, ◌≤◌, List, [], ◌∷◌, ◌++◌, Bool, true, false, Option, Some, None, length, fold, nat_eq, refl, sym, ap, ◌∙◌, arith, subst, length-append}
use Rattle.std.specs.Prelude.{◌&&◌, ◌↔◌, IsSome, option_map, option_to_list}
use Rattle.std.proofs.lemmas.Bool.{cond-true, cond-false, eq-eqb, ne_eqb, and_from, and_parts}
use Rattle.table_model.specs.Width.{width}
use Rattle.table_model.specs.Address.{Prefix, IsPrefix, same_prefix, same_family}
use Rattle.table_model.specs.declared.family.Family.{Family}
use Rattle.table_model.specs.declared.family.Family.TheVariants.{V4, V6}
use Rattle.table_model.proofs.SamePrefix.{same_prefix_is, same_family_is, same_family_itself}
use denote.Enum.Bare.{sameb}
use Rattle.table_model.specs.contracts.family.Family.{the_type}
use Rattle.table_model.specs.Halves.{half_at}
use Rattle.table_model.specs.Entries.{Entries, of_family}
use Rattle.table_model.specs.Sets.{common, one_if_empty, apart}
use Rattle.table_model.specs.Least.{bound}
use Rattle.cert_model.specs.Rows.{CertRow, leaf_row, join_row, bound_row, whole_prefix}
use Rattle.cert_model.specs.Right.{IsRight, leaf, join, bound_by, join_item, joint_k}
use Rattle.cert_model.specs.Right.{Item as ModelItem}
use Rattle.cert_model.specs.Verdict.{No, Shape, JoinWrong, are_halves, wrong_row}
use Rattle.cert_model.proofs.Rules.{right_bound}
use Rattle.cert_model.proofs.Reading.{all_get_is}
use Rattle.cert_check.specs.Views.{no_as}
use Rattle.cert_check.specs.declared.refusal.No as code
use Rattle.cert_check.specs.declared.rows.Item.{Item}
use Rattle.cert_check.specs.Stack.{item_as, stack_as, due_as, leaf_weight, AllRight, BoundsTold, RowRead, LeafRead, JoinDone, JoinRead, WholeTaken, Popped, next_due, bound_due}

pub push_as : (xs : List Item) (x : Item) → stack_as (xs ++ x ∷ []) ≡ item_as x ∷ stack_as xs
push_as xs x = go xs []
  where
    go : (ys : List Item) (st : List ModelItem) → fold (λ st i. item_as i ∷ st) st (ys ++ x ∷ []) ≡ item_as x ∷ fold (λ st i. item_as i ∷ st) st ys
    go [] st = refl
    go (y ∷ ys) st = go ys (item_as y ∷ st)

right_prefix : {R : Entries} {p : Prefix} {S : List ℕ} {k : ℕ} → IsRight R p S k → IsPrefix p
right_prefix (leaf s g) = s
right_prefix (join s l r) = omega (arith, s)

-- ---- leaves

pub leaf_read : (R : Entries) (p : Prefix) (h n : ℕ) (f : Family) (st st' : List ModelItem) (no : Option No) → IsPrefix p → LeafRead R p h n st st' no → RowRead R (leaf_row p h) n (Some f) st (Some f) st' no
unfolding wrong_row
leaf_read R p h n V4 st st' None s r = (
  (λ rows. cond-true _ _ _ r.0 ∙ ap (λ xs. wrong_row R rows (V4 ∷ V6 ∷ []) xs (n + 1)) (sym r.1)),
  omega (arith, ap leaf_weight r.1),
  (λ a. subst (AllRight R) (sym r.1) (leaf s (all_get_is R p h s r.0), a)),
)
leaf_read R p h n V6 st st' None s r = (
  (λ rows. cond-true _ _ _ r.0 ∙ ap (λ xs. wrong_row R rows (V6 ∷ []) xs (n + 1)) (sym r.1)),
  omega (arith, ap leaf_weight r.1),
  (λ a. subst (AllRight R) (sym r.1) (leaf s (all_get_is R p h s r.0), a)),
)
leaf_read R p h n V4 st st' (Some x) s r = λ rows. cond-false _ _ _ r.0 ∙ ap Some (sym r.1)
leaf_read R p h n V6 st st' (Some x) s r = λ rows. cond-false _ _ _ r.0 ∙ ap Some (sym r.1)

-- ---- joins

apart_most : (S T : List ℕ) → apart S T ≤ 1
apart_most S T = by_common (common S T)
  where
    by_common : (c : List ℕ) → one_if_empty c ≤ 1
    by_common [] = omega arith
    by_common (x ∷ c) = omega arith

halves_are : (p : Prefix) (low high : ModelItem) → are_halves p low high ≡ true → (low.prefix ≡ half_at false p) × (high.prefix ≡ half_at true p)
halves_are p low high e =
    let b = and_parts (same_prefix low.prefix (half_at false p)) (same_prefix high.prefix (half_at true p)) e in
    (same_prefix_is low.prefix (half_at false p) b.0, same_prefix_is high.prefix (half_at true p) b.1)

join_right : (R : Entries) (p : Prefix) (low high : ModelItem) (st : List ModelItem) → are_halves p low high ≡ true → AllRight R (high ∷ low ∷ st) → AllRight R (join_item p low high ∷ st)
join_right R p low high st e a =
    let x = halves_are p low high e in
    let l : IsRight R (half_at false p) low.hops low.k = subst (λ (q : Prefix). IsRight R q low.hops low.k) x.0 a.1.0 in
    let h : IsRight R (half_at true p) high.hops high.k = subst (λ (q : Prefix). IsRight R q high.hops high.k) x.1 a.0 in
    let s : IsPrefix (half_at false p) = right_prefix l in
    (join (omega (arith, s, length-append p.bits (false ∷ []))) l h, a.1.1)

abbrev JoinsAt : Entries → Prefix → ℕ → ℕ → Family → List Family → ModelItem → ModelItem → List ModelItem → Type 0
JoinsAt R p k n f due low high more = (rows : List CertRow) → wrong_row R (join_row p k ∷ rows) (f ∷ due) (high ∷ low ∷ more) n ≡ wrong_row R rows (f ∷ due) (join_item p low high ∷ more) (n + 1)

joins_at : (R : Entries) (p : Prefix) (k n : ℕ) (f : Family) (due : List Family) (low high : ModelItem) (more : List ModelItem) → are_halves p low high ≡ true → nat_eq k (joint_k low high) ≡ true → JoinsAt R p k n f due low high more
unfolding wrong_row
joins_at R p k n f due low high more e g rows = cond-true _ _ _ e ∙ cond-true _ _ _ g

join_some : (R : Entries) (p : Prefix) (k n : ℕ) (f : Family) (st st' : List ModelItem) (low high : ModelItem) (more : List ModelItem) → st ≡ high ∷ low ∷ more → are_halves p low high ≡ true → nat_eq k (joint_k low high) ≡ true
    → st' ≡ join_item p low high ∷ more → RowRead R (join_row p k) n (Some f) st (Some f) st' None
join_some R p k n V4 st st' low high more e h g e' = (
  (λ rows. ap (λ xs. wrong_row R (join_row p k ∷ rows) (V4 ∷ V6 ∷ []) xs n) e ∙ (joins_at R p k n V4 (V6 ∷ []) low high more h g rows ∙ ap (λ xs. wrong_row R rows (V4 ∷ V6 ∷ []) xs (n + 1)) (sym e'))),
  omega (arith, ap leaf_weight e, ap leaf_weight e', apart_most low.hops high.hops),
  (λ a. subst (AllRight R) (sym e') (join_right R p low high more h (subst (AllRight R) e a))),
)
join_some R p k n V6 st st' low high more e h g e' = (
  (λ rows. ap (λ xs. wrong_row R (join_row p k ∷ rows) (V6 ∷ []) xs n) e ∙ (joins_at R p k n V6 [] low high more h g rows ∙ ap (λ xs. wrong_row R rows (V6 ∷ []) xs (n + 1)) (sym e'))),
  omega (arith, ap leaf_weight e, ap leaf_weight e', apart_most low.hops high.hops),
  (λ a. subst (AllRight R) (sym e') (join_right R p low high more h (subst (AllRight R) e a))),
)

pub join_read : (R : Entries) (p : Prefix) (k n : ℕ) (f : Family) (st st' : List ModelItem) (no : Option No) → JoinRead p k n st st' no → RowRead R (join_row p k) n (Some f) st (Some f) st' no
join_read R p k n f st st' None (low, high, more, e, h, g, e') = join_some R p k n f st st' low high more e h g e'
join_read R p k n V4 st st' (Some x) r = λ rows. r R V4 (V6 ∷ []) rows
join_read R p k n V6 st st' (Some x) r = λ rows. r R V6 [] rows

-- what is wrong with a join
pub join_empty : (p : Prefix) (k n : ℕ) (st st' : List ModelItem) → st ≡ [] → JoinRead p k n st st' (Some (Shape n))
unfolding wrong_row
join_empty p k n st st' e R f due rows = ap (λ xs. wrong_row R (join_row p k ∷ rows) (f ∷ due) xs n) e

pub join_single : (p : Prefix) (k n : ℕ) (st st' : List ModelItem) (i : ModelItem) → st ≡ i ∷ [] → JoinRead p k n st st' (Some (Shape n))
unfolding wrong_row
join_single p k n st st' i e R f due rows = ap (λ xs. wrong_row R (join_row p k ∷ rows) (f ∷ due) xs n) e

pub join_apart : (p : Prefix) (k n : ℕ) (st st' : List ModelItem) (low high : ModelItem) (more : List ModelItem) → st ≡ high ∷ low ∷ more → are_halves p low high ≡ false → JoinRead p k n st st' (Some (Shape n))
unfolding wrong_row
join_apart p k n st st' low high more e h R f due rows = ap (λ xs. wrong_row R (join_row p k ∷ rows) (f ∷ due) xs n) e ∙ cond-false _ _ _ h

pub join_done : (p : Prefix) (k n : ℕ) (st st' : List ModelItem) (low high : ModelItem) (more : List ModelItem) (no : Option No) → st ≡ high ∷ low ∷ more → are_halves p low high ≡ true → JoinDone p k n low high more st' no → JoinRead p k n st st' no
unfolding wrong_row
join_done p k n st st' low high more None e h d = (low, high, more, e, h, d.0, d.1)
join_done p k n st st' low high more (Some x) e h d = λ R f due rows. ap (λ xs. wrong_row R (join_row p k ∷ rows) (f ∷ due) xs n) e ∙ (cond-true _ _ _ h ∙ (cond-false _ _ _ d.0 ∙ ap Some (sym d.1)))

-- ---- bounds

wrong_family : (R : Entries) (g f : Family) (due : List Family) (m n : ℕ) (st : List ModelItem) (rows : List CertRow) → same_family g f ≡ false → wrong_row R (bound_row g m ∷ rows) (f ∷ due) st n ≡ Some (Shape n)
unfolding wrong_row
wrong_family R g f due m n [] rows e = refl
wrong_family R g f due m n (i ∷ []) rows e = cond-false _ _ _ (ap (λ b. b && same_prefix i.prefix (whole_prefix f)) e)
wrong_family R g f due m n (i ∷ j ∷ st) rows e = refl

pub other_bound : (R : Entries) (g f : Family) (m n : ℕ) (st st' : List ModelItem) (due' : Option Family) → same_family g f ≡ false → RowRead R (bound_row g m) n (Some f) st due' st' (Some (Shape n))
other_bound R g V4 m n st st' due' e = λ rows. wrong_family R g V4 (V6 ∷ []) m n st rows e
other_bound R g V6 m n st st' due' e = λ rows. wrong_family R g V6 [] m n st rows e

pub whole_empty : (f : Family) (st st' : List ModelItem) → st ≡ [] → WholeTaken f st st' None
unfolding wrong_row
whole_empty f st st' e R m n due rows = ap (λ xs. wrong_row R (bound_row f m ∷ rows) (f ∷ due) xs n) e

pub whole_more : (f : Family) (st st' : List ModelItem) (i j : ModelItem) (more : List ModelItem) → st ≡ i ∷ j ∷ more → WholeTaken f st st' None
unfolding wrong_row
whole_more f st st' i j more e R m n due rows = ap (λ xs. wrong_row R (bound_row f m ∷ rows) (f ∷ due) xs n) e

and_not : (a b : Bool) → b ≡ false → (a && b) ≡ false
and_not true b e = e
and_not false b e = refl

pub whole_other : (f : Family) (st st' : List ModelItem) (i : ModelItem) → st ≡ i ∷ [] → same_prefix i.prefix (whole_prefix f) ≡ false → WholeTaken f st st' None
unfolding wrong_row
whole_other f st st' i e h R m n due rows = ap (λ xs. wrong_row R (bound_row f m ∷ rows) (f ∷ due) xs n) e ∙ cond-false _ _ _ (and_not (same_family f f) _ h)

bound_step : (R : Entries) (f : Family) (due : List Family) (m n : ℕ) (st : List ModelItem) (i : ModelItem) (rows : List CertRow) → st ≡ i ∷ [] → same_prefix i.prefix (whole_prefix f) ≡ true → nat_eq m (bound_by i.hops i.k) ≡ true
    → wrong_row R (bound_row f m ∷ rows) (f ∷ due) st n ≡ wrong_row R rows due [] (n + 1)
unfolding wrong_row
bound_step R f due m n st i rows e h g = ap (λ xs. wrong_row R (bound_row f m ∷ rows) (f ∷ due) xs n) e ∙ (cond-true _ _ _ (and_from (same_family f f) _ (same_family_itself f) h) ∙ cond-true _ _ _ g)

bound_off : (R : Entries) (f : Family) (due : List Family) (m n : ℕ) (st : List ModelItem) (i : ModelItem) (rows : List CertRow) → st ≡ i ∷ [] → same_prefix i.prefix (whole_prefix f) ≡ true → nat_eq m (bound_by i.hops i.k) ≡ false
    → wrong_row R (bound_row f m ∷ rows) (f ∷ due) st n ≡ Some (JoinWrong n m (bound_by i.hops i.k))
unfolding wrong_row
bound_off R f due m n st i rows e h g = ap (λ xs. wrong_row R (bound_row f m ∷ rows) (f ∷ due) xs n) e ∙ (cond-true _ _ _ (and_from (same_family f f) _ (same_family_itself f) h) ∙ cond-false _ _ _ g)

pub bound_read : (R : Entries) (f : Family) (m n : ℕ) (st st' : List ModelItem) (i : ModelItem) → WholeTaken f st st' (Some i) → nat_eq m (bound_by i.hops i.k) ≡ true → RowRead R (bound_row f m) n (Some f) st (next_due f) st' None
bound_read R V4 m n st st' i w g = (
  (λ rows. bound_step R V4 (V6 ∷ []) m n st i rows w.0 w.1 g ∙ ap (λ xs. wrong_row R rows (V6 ∷ []) xs (n + 1)) (sym w.2)),
  omega (arith, ap leaf_weight w.2),
  (λ a. subst (AllRight R) (sym w.2) tt),
)
bound_read R V6 m n st st' i w g = (
  (λ rows. bound_step R V6 [] m n st i rows w.0 w.1 g ∙ ap (λ xs. wrong_row R rows [] xs (n + 1)) (sym w.2)),
  omega (arith, ap leaf_weight w.2),
  (λ a. subst (AllRight R) (sym w.2) tt),
)

pub bound_wrong : (R : Entries) (f : Family) (m n : ℕ) (st st' : List ModelItem) (i : ModelItem) (due' : Option Family) (st'' : List ModelItem) → WholeTaken f st st' (Some i) → nat_eq m (bound_by i.hops i.k) ≡ false
    → RowRead R (bound_row f m) n (Some f) st due' st'' (Some (JoinWrong n m (bound_by i.hops i.k)))
bound_wrong R V4 m n st st' i due' st'' w g = λ rows. bound_off R V4 (V6 ∷ []) m n st i rows w.0 w.1 g
bound_wrong R V6 m n st st' i due' st'' w g = λ rows. bound_off R V6 [] m n st i rows w.0 w.1 g

pub bound_none : (R : Entries) (f : Family) (m n : ℕ) (st st' : List ModelItem) (due' : Option Family) (st'' : List ModelItem) → WholeTaken f st st' None → RowRead R (bound_row f m) n (Some f) st due' st'' (Some (Shape n))
bound_none R V4 m n st st' due' st'' w = λ rows. w R m n (V6 ∷ []) rows
bound_none R V6 m n st st' due' st'' w = λ rows. w R m n [] rows

pub bound_told : (R : Entries) (f : Family) (st st' : List ModelItem) (i : ModelItem) → WholeTaken f st st' (Some i) → AllRight R st → bound (width f) (of_family f R) ≡ bound_by i.hops i.k
bound_told R f st st' i w a =
    let r : IsRight R i.prefix i.hops i.k = (subst (AllRight R) w.0 a).0 in
    right_bound R f i.hops i.k (subst (λ (q : Prefix). IsRight R q i.hops i.k) (same_prefix_is i.prefix (whole_prefix f) w.1) r)

-- prefixes with as many bits as an address have no halves
too_long : (p q : Prefix) (b : Bool) → IsPrefix q → length p.bits ≡ width p.family → same_prefix q (half_at b p) ≡ false
too_long p q b s e = by_test (same_prefix q (half_at b p)) refl
  where
    by_test : (t : Bool) → same_prefix q (half_at b p) ≡ t → t ≡ false
    by_test false t = refl
    by_test true t =
        let is : q ≡ half_at b p = same_prefix_is q (half_at b p) t in
        let x : IsPrefix (half_at b p) = subst IsPrefix is s in
        absurd (let l : length (p.bits ++ b ∷ []) ≤ width p.family = x in omega (arith, l, length-append p.bits (b ∷ []), e))

pub no_halves : (p low high : Prefix) → IsPrefix low → length p.bits ≡ width p.family → false ≡ (same_prefix low (half_at false p) && same_prefix high (half_at true p))
no_halves p low high s e = ap (λ b. b && same_prefix high (half_at true p)) (sym (too_long p low false s e))

popped_none : (old new : List Item) → length old ≡ 0 → old ≡ new ++ [] → (stack_as old ≡ []) × (stack_as new ≡ [])
popped_none [] [] l e = (refl, refl)
popped_none [] (x ∷ new) l e = cc
popped_none (x ∷ old) new l e = absurd (omega arith)

popped_some : (old new : List Item) (x : Item) → old ≡ new ++ x ∷ [] → stack_as old ≡ item_as x ∷ stack_as new
popped_some old new x e = ap stack_as e ∙ push_as new x

pub popped : (old new : List Item) (o : Option Item) (n : ℕ) → n ≡ length old → IsSome o ↔ (0 < n) → old ≡ new ++ option_to_list o → Popped (stack_as old) (stack_as new) (option_map item_as o)
popped [] new None n l v e = popped_none [] new refl e
popped (x ∷ old) new None n l v e = let some : IsSome {T = Item} None = v.1 (omega arith) in cc
popped old new (Some x) n l v e = popped_some old new x e

-- ---- bounds, as they are read

pub at_none : (R : Entries) (f : Family) (m n : ℕ) (d : Option Family) (st st' : List ModelItem) (rows : List CertRow) → d ≡ Some f → WholeTaken f st st' None → wrong_row R (bound_row f m ∷ rows) (due_as d) st n ≡ Some (Shape n)
at_none R f m n d st st' rows e w = ap (λ x. wrong_row R (bound_row f m ∷ rows) (due_as x) st n) e ∙ bound_none R f m n st st' None st w rows

pub at_wrong : (R : Entries) (f : Family) (m n due : ℕ) (d : Option Family) (st st' : List ModelItem) (i : ModelItem) (rows : List CertRow) → d ≡ Some f → WholeTaken f st st' (Some i) → due ≡ bound_by i.hops i.k → m ≢ due
    → wrong_row R (bound_row f m ∷ rows) (due_as d) st n ≡ Some (JoinWrong n m due)
at_wrong R f m n due d st st' i rows e w g other =
    let no' : nat_eq m (bound_by i.hops i.k) ≡ false = ne_eqb m (bound_by i.hops i.k) (λ s. other (s ∙ sym g)) in
    ap (λ x. wrong_row R (bound_row f m ∷ rows) (due_as x) st n) e ∙ (bound_wrong R f m n st st' i None st w no' rows ∙ ap (λ (y : ℕ). Some (JoinWrong n m y)) (sym g))

pub at_read : (R : Entries) (f : Family) (m n due : ℕ) (d d' : Option Family) (st st' st'' : List ModelItem) (i : ModelItem) → d ≡ Some f → WholeTaken f st st' (Some i) → due ≡ bound_by i.hops i.k → m ≡ due → d' ≡ next_due f → st'' ≡ st'
    → RowRead R (bound_row f m) n d st d' st'' None
at_read R f m n due d d' st st' st'' i e w g same e' s =
    let yes' : nat_eq m (bound_by i.hops i.k) ≡ true = eq-eqb m (bound_by i.hops i.k) (same ∙ g) in
    subst (λ (x : Option Family). RowRead R (bound_row f m) n x st d' st'' None) (sym e)
    (subst (λ (x : Option Family). RowRead R (bound_row f m) n (Some f) st x st'' None) (sym e')
    (subst (λ (x : List ModelItem). RowRead R (bound_row f m) n (Some f) st (next_due f) x None) (sym s) (bound_read R f m n st st' i w yes')))

pub at_told : (R : Entries) (f : Family) (due : ℕ) (d d' : Option Family) (st st' : List ModelItem) (i : ModelItem) (v4 v6 u4 u6 : ℕ) → d ≡ Some f → WholeTaken f st st' (Some i) → due ≡ bound_by i.hops i.k → d' ≡ next_due f
    → (bound_due f R ≡ due → BoundsTold R (Some f) v4 v6 → BoundsTold R (next_due f) u4 u6) → AllRight R st → BoundsTold R d v4 v6 → BoundsTold R d' u4 u6
at_told R f due d d' st st' i v4 v6 u4 u6 e w g e' go a t =
    subst (λ (x : Option Family). BoundsTold R x u4 u6) (sym e') (go (bound_told R f st st' i w a ∙ sym g) (subst (λ (x : Option Family). BoundsTold R x v4 v6) e t))

pub in_due : (R : Entries) (row row' : CertRow) (n : ℕ) (f : Family) (d : Option Family) (st st' : List ModelItem) (x : Option No) → row ≡ row' → d ≡ Some f → RowRead R row' n (Some f) st (Some f) st' x → RowRead R row n d st d st' x
in_due R row row' n f d st st' x e g r =
    subst (λ (y : CertRow). RowRead R y n d st d st' x) (sym e) (subst (λ (y : Option Family). RowRead R row' n y st y st' x) (sym g) r)

pub same_test : (f g : Family) → sameb the_type f g ≡ same_family f g
same_test V4 V4 = refl
same_test V4 V6 = refl
same_test V6 V4 = refl
same_test V6 V6 = refl

pub row_none : (R : Entries) (row : CertRow) (n : ℕ) (d : Option Family) (st : List ModelItem) (rows : List CertRow) → d ≡ None → wrong_row R (row ∷ rows) (due_as d) st n ≡ Some (Shape n)
unfolding wrong_row
row_none R row n d st rows e = ap (λ x. wrong_row R (row ∷ rows) (due_as x) st n) e

pub row_other : (R : Entries) (row : CertRow) (g f : Family) (m n : ℕ) (d : Option Family) (st : List ModelItem) (rows : List CertRow) → row ≡ bound_row g m → d ≡ Some f → same_family g f ≡ false → wrong_row R (row ∷ rows) (due_as d) st n ≡ Some (Shape n)
row_other R row g f m n d st rows e h o =
    ap (λ x. wrong_row R (x ∷ rows) (due_as d) st n) e ∙ (ap (λ x. wrong_row R (bound_row g m ∷ rows) (due_as x) st n) h ∙ other_bound R g f m n st st None o rows)

pub row_bound : (R : Entries) (row : CertRow) (g f : Family) (m n : ℕ) (d d' : Option Family) (st st' : List ModelItem) (x : Option No) → row ≡ bound_row g m → same_family g f ≡ true → RowRead R (bound_row f m) n d st d' st' x → RowRead R row n d st d' st' x
row_bound R row g f m n d d' st st' x e o r =
    subst (λ (y : CertRow). RowRead R y n d st d' st' x) (sym (e ∙ ap (λ h. bound_row h m) (same_family_is g f o))) r

pub join_weight : (p : Prefix) (k n : ℕ) (st st' : List ModelItem) (x : Option code.No) → x ≡ None → JoinRead p k n st st' (option_map no_as x) → leaf_weight st' ≤ leaf_weight st + 1
join_weight p k n st st' None e (low, high, more, f, h, g, f') = omega (arith, ap leaf_weight f, ap leaf_weight f', apart_most low.hops high.hops)
join_weight p k n st st' (Some x) e r = absurd (none_not x e)
  where
    none_not : (y : code.No) → Some y ≡ None → ⊥
    none_not y z = cc

pub went_on : (R : Entries) (row : CertRow) (n : ℕ) (d d' : Option Family) (st st' : List ModelItem) (x : Option code.No) → x ≡ None → RowRead R row n d st d' st' (option_map no_as x) → RowRead R row n d st d' st' None
went_on R row n d d' st st' x e r = subst (λ (y : Option code.No). RowRead R row n d st d' st' (option_map no_as y)) e r

pub stopped : (R : Entries) (row : CertRow) (n : ℕ) (d d' : Option Family) (st st' : List ModelItem) (x : Option code.No) (y : code.No) → x ≡ Some y → RowRead R row n d st d' st' (option_map no_as x) → (rows : List CertRow) → wrong_row R (row ∷ rows) (due_as d) st n ≡ Some (no_as y)
stopped R row n d d' st st' x y e r rows = (subst (λ (z : Option code.No). RowRead R row n d st d' st' (option_map no_as z)) e r) rows

pub rows_over : (R : Entries) (d : Option Family) (st : List ModelItem) (n : ℕ) → d ≡ None → wrong_row R [] (due_as d) st n ≡ None
unfolding wrong_row
rows_over R d st n e = ap (λ x. wrong_row R [] (due_as x) st n) e

pub rows_short : (R : Entries) (d : Option Family) (f : Family) (st : List ModelItem) (n : ℕ) → d ≡ Some f → wrong_row R [] (due_as d) st n ≡ Some (Shape n)
unfolding wrong_row
rows_short R d V4 st n e = ap (λ x. wrong_row R [] (due_as x) st n) e
rows_short R d V6 st n e = ap (λ x. wrong_row R [] (due_as x) st n) e
