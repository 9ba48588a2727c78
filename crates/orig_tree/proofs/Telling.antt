-- A node's table as it is told.
use Rattle.std.proofs.Common.{◌≡◌, ℕ, ◌+◌, ◌-◌, ◌≤◌, List, [], ◌∷◌, ◌++◌, Bool, true, false, refl, sym, ap, ◌∙◌, subst, arith, length, map, Option, Some, None, append_assoc, append-nil, length-append}
use Rattle.std.specs.List.{AllByRecursion}
use Rattle.std.specs.Option.{option_to_list}
use Rattle.table_model.specs.Address.{Prefix, IsPrefix}
use Rattle.std.specs.Map.{keys_of}
use Rattle.table_model.specs.declared.family.Family.TheVariants.{V4, V6}
use Rattle.table_model.specs.Width.{width}
use Rattle.table_model.specs.Halves.{half_at}
use Rattle.table_model.specs.declared.family.Family.{Family}
use Rattle.table_model.specs.Table.{Table, here}
use Rattle.table_model.specs.Entries.{of_table}
use Rattle.table_model.proofs.Cut.{entry}
use Rattle.table_model.specs.Regions.{lift, join}
use Rattle.fib_addr.specs.Views.{prefix_as}
use Rattle.fib_addr.specs.declared.prefix.Prefix as code
use Rattle.fib_addr.proofs.Parts.{length_prefix}
use Rattle.orig_tree.specs.Walk.{Walks, no_walks, walks_of, rows_of, labelled}
use Rattle.orig_tree.specs.declared.node.Label.{Label}
use Rattle.orig_tree.specs.Views.{FitsWidth}
use Rattle.orig_tree.proofs.Steps.{rows_level, rows_nothing}

pub lift_append : (p : List Bool) (L M : Table) → lift p (L ++ M) ≡ lift p L ++ lift p M
lift_append p [] M = refl
lift_append p (e ∷ L) M = ap (λ x. entry (p ++ e.prefix) e.hop ∷ x) (lift_append p L M)

pub lift_lift : (p q : List Bool) (L : Table) → lift p (lift q L) ≡ lift (p ++ q) L
lift_lift p q [] = refl
lift_lift p q (e ∷ L) = ap (λ x. entry x e.hop ∷ lift p (lift q L)) (sym (append_assoc p q e.prefix)) ∙ ap (λ x. entry ((p ++ q) ++ e.prefix) e.hop ∷ x) (lift_lift p q L)

pub lift_join : (p : List Bool) (o : Option ℕ) (L M : Table) → lift p (join o L M) ≡ lift p (here o) ++ (lift (p ++ (false ∷ [])) L ++ lift (p ++ (true ∷ [])) M)
lift_join p o L M =
    lift_append p (here o) (lift (false ∷ []) L ++ lift (true ∷ []) M)
    ∙ ap (λ x. lift p (here o) ++ x) (lift_append p (lift (false ∷ []) L) (lift (true ∷ []) M) ∙ (ap (λ x. x ++ lift p (lift (true ∷ []) M)) (lift_lift p (false ∷ []) L) ∙ ap (λ x. lift (p ++ (false ∷ [])) L ++ x) (lift_lift p (true ∷ []) M)))

pub seen_append : (f : Family) (L M : Table) → of_table f (L ++ M) ≡ of_table f L ++ of_table f M
seen_append f [] M = refl
seen_append f (e ∷ L) M = ap (λ x. ((let p : Prefix = record { family = f; bits = e.prefix } in p), e.hop) ∷ x) (seen_append f L M)

-- the entry of a prefix, if it has one
pub told_own : (p : Prefix) (o : Option ℕ) → map (λ h. (p, h)) (option_to_list o) ≡ of_table p.family (lift p.bits (here o))
told_own p None = refl
told_own p (Some g) = ap (λ z. ((let x : Prefix = record { family = p.family; bits = z } in x), g) ∷ []) (sym (append-nil p.bits))

pub told_nothing : (label : Label) (p : Prefix) (w : Walks) → w ≡ no_walks → [] ≡ of_table p.family (lift p.bits (rows_of label w))
told_nothing label p w e = sym (ap (λ z. of_table p.family (lift p.bits (rows_of label z))) e ∙ ap (λ z. of_table p.family (lift p.bits z)) (rows_nothing label))

-- one more bit
pub half_longer : (p q : code.Prefix) (b : Bool) → prefix_as q ≡ half_at b (prefix_as p) → q.len ≡ p.len + 1
half_longer p q b e =
    omega (
      arith,
      length_prefix (width p.family) p.len p.bits p.fits,
      length_prefix (width q.family) q.len q.bits q.fits,
      ap (λ (x : Prefix). length x.bits) e,
      length-append (prefix_as p).bits (b ∷ []),
    )

-- the halves of a table that fits are a bit shorter
fits_front : (n : ℕ) (L M : Table) → FitsWidth n (L ++ M) → FitsWidth n L
fits_front n [] M f = tt
fits_front n (e ∷ L) M f = (f.0, fits_front n L M f.1)

fits_back : (n : ℕ) (L M : Table) → FitsWidth n (L ++ M) → FitsWidth n M
fits_back n [] M f = f
fits_back n (e ∷ L) M f = fits_back n L M f.1

fits_down : (n : ℕ) (b : Bool) (L : Table) → FitsWidth n (lift (b ∷ []) L) → FitsWidth (n - 1) L
fits_down n b [] f = tt
fits_down n b (e ∷ L) f = (omega (arith, f.0), fits_down n b L f.1)

fits_lower : (n : ℕ) (o : Option ℕ) (L M : Table) → FitsWidth n (join o L M) → FitsWidth (n - 1) L
fits_lower n o L M f = fits_down n false L (fits_front n (lift (false ∷ []) L) (lift (true ∷ []) M) (fits_back n (here o) (lift (false ∷ []) L ++ lift (true ∷ []) M) f))

fits_upper : (n : ℕ) (o : Option ℕ) (L M : Table) → FitsWidth n (join o L M) → FitsWidth (n - 1) M
fits_upper n o L M f = fits_down n true M (fits_back n (lift (false ∷ []) L) (lift (true ∷ []) M) (fits_back n (here o) (lift (false ∷ []) L ++ lift (true ∷ []) M) f))

fits_node : (n : ℕ) (label : Label) (route entry : Option ℕ) (low high node : Walks) → walks_of route entry low high ≡ node → FitsWidth n (rows_of label node) → FitsWidth n (join (labelled label route entry) (rows_of label low) (rows_of label high))
fits_node n label route entry low high node w f = subst (λ (L : Table). FitsWidth n L) (ap (rows_of label) (sym w) ∙ rows_level label route entry low high) f

pub fits_low : (n : ℕ) (label : Label) (route entry : Option ℕ) (low high node : Walks) → walks_of route entry low high ≡ node → FitsWidth n (rows_of label node) → FitsWidth (n - 1) (rows_of label low)
fits_low n label route entry low high node w f = fits_lower n (labelled label route entry) (rows_of label low) (rows_of label high) (fits_node n label route entry low high node w f)

pub fits_high : (n : ℕ) (label : Label) (route entry : Option ℕ) (low high node : Walks) → walks_of route entry low high ≡ node → FitsWidth n (rows_of label node) → FitsWidth (n - 1) (rows_of label high)
fits_high n label route entry low high node w f = fits_upper n (labelled label route entry) (rows_of label low) (rows_of label high) (fits_node n label route entry low high node w f)

-- at the full width a node has its own entry alone
none_below : (n : ℕ) (b : Bool) (L : Table) → n ≡ 0 → FitsWidth n (lift (b ∷ []) L) → L ≡ []
none_below n b [] z f = refl
none_below n b (e ∷ L) z f = absurd (omega (arith, f.0))

own_alone : (n : ℕ) (o : Option ℕ) (L M : Table) → n ≡ 0 → FitsWidth n (join o L M) → join o L M ≡ here o
own_alone n o L M z f =
    let r = fits_back n (here o) (lift (false ∷ []) L ++ lift (true ∷ []) M) f in
    let a : L ≡ [] = none_below n false L z (fits_front n (lift (false ∷ []) L) (lift (true ∷ []) M) r) in
    let b : M ≡ [] = none_below n true M z (fits_back n (lift (false ∷ []) L) (lift (true ∷ []) M) r) in
    ap (λ x. join o x M) a ∙ (ap (λ x. join o [] x) b ∙ append-nil (here o))

pub told_end : (p : code.Prefix) (label : Label) (route entry o : Option ℕ) (low high node : Walks) → walks_of route entry low high ≡ node → p.len ≡ width p.family → FitsWidth (width p.family - p.len) (rows_of label node)
    → o ≡ labelled label route entry → map (λ h. (prefix_as p, h)) (option_to_list o) ≡ of_table p.family (lift (prefix_as p).bits (rows_of label node))
told_end p label route entry o low high node w n f s =
    let z : width p.family - p.len ≡ 0 = omega arith in
    told_own (prefix_as p) o
    ∙ ap (λ x. of_table p.family (lift (prefix_as p).bits x)) (ap here s
    ∙ (sym (own_alone (width p.family - p.len) (labelled label route entry) (rows_of label low) (rows_of label high) z (fits_node (width p.family - p.len) label route entry low high node w f))
    ∙ (sym (rows_level label route entry low high) ∙ ap (rows_of label) w)))

-- what is told of a node: its own entry, then those of its halves
pub told_level : (p : Prefix) (label : Label) (route entry o : Option ℕ) (low high node : Walks) → walks_of route entry low high ≡ node → o ≡ labelled label route entry
    → map (λ h. (p, h)) (option_to_list o) ++ (of_table p.family (lift (half_at false p).bits (rows_of label low)) ++ of_table p.family (lift (half_at true p).bits (rows_of label high))) ≡ of_table p.family (lift p.bits (rows_of label node))
told_level p label route entry o low high node w s =
    let k = p.bits in
    let f = p.family in
    let L = rows_of label low in
    let H = rows_of label high in
    let O = of_table f (lift k (here (labelled label route entry))) in
    let X = of_table f (lift (k ++ (false ∷ [])) L) in
    let Y = of_table f (lift (k ++ (true ∷ [])) H) in
    let own : map (λ h. (p, h)) (option_to_list o) ≡ O = told_own p o ∙ ap (λ x. of_table f (lift k (here x))) s in
    let whole : of_table f (lift k (rows_of label node)) ≡ O ++ (X ++ Y) =
    ap (λ x. of_table f (lift k x)) (ap (rows_of label) (sym w) ∙ rows_level label route entry low high)
    ∙ (ap (of_table f) (lift_join k (labelled label route entry) L H) ∙ (seen_append f (lift k (here (labelled label route entry))) (lift (k ++ (false ∷ [])) L ++ lift (k ++ (true ∷ [])) H)
    ∙ ap (λ x. O ++ x) (seen_append f (lift (k ++ (false ∷ [])) L) (lift (k ++ (true ∷ [])) H))))
    in ap (λ x. x ++ (X ++ Y)) own ∙ sym whole

width_most : (f : Family) → width f ≤ 128
width_most V4 = omega arith
width_most V6 = omega arith

pub half_most : (q : code.Prefix) → q.len ≤ 128
half_most q = omega (arith, q.fits, width_most q.family)

-- ---- the whole space

pub lift_none : (L : Table) → lift [] L ≡ L
lift_none [] = refl
lift_none (e ∷ L) = ap (λ x. e ∷ x) (lift_none L)

pub fits_in_place : (f : Family) (L : Table) → AllByRecursion IsPrefix (keys_of (of_table f L)) → FitsWidth (width f) L
fits_in_place f [] a = tt
fits_in_place f (e ∷ L) a = (a.0, fits_in_place f L a.1)

pub whole_len : (f : Family) (p : code.Prefix) → prefix_as p ≡ record { family = f; bits = [] } → p.len ≡ 0
whole_len f p e = omega (arith, length_prefix (width p.family) p.len p.bits p.fits, ap (λ (x : Prefix). length x.bits) e)

pub whole_fits : (f : Family) (p : code.Prefix) (L : Table) → prefix_as p ≡ record { family = f; bits = [] } → FitsWidth (width f) L → FitsWidth (width p.family - p.len) L
whole_fits f p L e a =
    let n : width f ≡ width p.family - p.len = omega (arith, whole_len f p e, ap (λ (x : Prefix). width x.family) e) in
    subst (λ (k : ℕ). FitsWidth k L) n a

pub told_whole : (f : Family) (p : code.Prefix) (L : Table) → prefix_as p ≡ record { family = f; bits = [] } → of_table p.family (lift (prefix_as p).bits L) ≡ of_table f L
told_whole f p L e = ap (λ (x : Prefix). of_table x.family (lift x.bits L)) e ∙ ap (of_table f) (lift_none L)
