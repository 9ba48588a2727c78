-- Edits of a joined table, from those of its halves.
use Rattle.std.proofs.Common.{◌≡◌, ℕ, List, [], ◌∷◌, ◌++◌, Bool, true, false, cond, refl, ap, ◌∙◌, Option, Some, None}
use Rattle.std.specs.Ordering.{match_ordering}
use Rattle.std.specs.declared.cmp.Ordering.{Ordering}
use Rattle.std.specs.declared.cmp.Ordering.TheVariants.{Less, Equal, Greater}
use Rattle.table_model.specs.Bits.{same_bits}
use Rattle.table_model.specs.Table.{Table, here}
use Rattle.table_model.proofs.Cut.{entry}
use Rattle.table_model.specs.Regions.{lift, join}
use Rattle.table_model.specs.Order.{path_cmp}
use Rattle.orig_tree.specs.Edits.{put, without, edit}

cmp_down : (b : Bool) (p q : List Bool) → path_cmp (b ∷ p) (b ∷ q) ≡ path_cmp p q
cmp_down true p q = refl
cmp_down false p q = refl

same_down : (b : Bool) (p q : List Bool) → same_bits (b ∷ p) (b ∷ q) ≡ same_bits p q
unfolding same_bits
same_down true p q = refl
same_down false p q = refl

-- setting within one half
put_lift : (b : Bool) (p : List Bool) (h : ℕ) (L : Table) → put (b ∷ p) h (lift (b ∷ []) L) ≡ lift (b ∷ []) (put p h L)
put_lift b p h [] = refl
put_lift b p h (e ∷ L) =
    ap (λ o. match_ordering o (entry (b ∷ p) h ∷ lift (b ∷ []) (e ∷ L)) (entry (b ∷ e.prefix) h ∷ lift (b ∷ []) L) (entry (b ∷ e.prefix) e.hop ∷ put (b ∷ p) h (lift (b ∷ []) L))) (cmp_down b p e.prefix)
    ∙ by_order (path_cmp p e.prefix) (put_lift b p h L)
  where
    by_order : (o : Ordering) → put (b ∷ p) h (lift (b ∷ []) L) ≡ lift (b ∷ []) (put p h L) →
        match_ordering o (entry (b ∷ p) h ∷ lift (b ∷ []) (e ∷ L)) (entry (b ∷ e.prefix) h ∷ lift (b ∷ []) L) (entry (b ∷ e.prefix) e.hop ∷ put (b ∷ p) h (lift (b ∷ []) L))
        ≡ lift (b ∷ []) (match_ordering o (entry p h ∷ e ∷ L) (entry e.prefix h ∷ L) (e ∷ put p h L))
    by_order Less more = refl
    by_order Equal more = refl
    by_order Greater more = ap (λ r. entry (b ∷ e.prefix) e.hop ∷ r) more

put_before : (p : List Bool) (h : ℕ) (M : Table) → put (false ∷ p) h (lift (true ∷ []) M) ≡ entry (false ∷ p) h ∷ lift (true ∷ []) M
put_before p h [] = refl
put_before p h (e ∷ M) = refl

put_low : (p : List Bool) (h : ℕ) (L M : Table) → put (false ∷ p) h (lift (false ∷ []) L ++ lift (true ∷ []) M) ≡ lift (false ∷ []) (put p h L) ++ lift (true ∷ []) M
put_low p h [] M = put_before p h M
put_low p h (e ∷ L) M = by_order (path_cmp p e.prefix) (put_low p h L M)
  where
    by_order : (o : Ordering) → put (false ∷ p) h (lift (false ∷ []) L ++ lift (true ∷ []) M) ≡ lift (false ∷ []) (put p h L) ++ lift (true ∷ []) M →
        match_ordering o (entry (false ∷ p) h ∷ (lift (false ∷ []) (e ∷ L) ++ lift (true ∷ []) M)) (entry (false ∷ e.prefix) h ∷ (lift (false ∷ []) L ++ lift (true ∷ []) M)) (entry (false ∷ e.prefix) e.hop ∷ put (false ∷ p) h (lift (false ∷ []) L ++ lift (true ∷ []) M))
        ≡ lift (false ∷ []) (match_ordering o (entry p h ∷ e ∷ L) (entry e.prefix h ∷ L) (e ∷ put p h L)) ++ lift (true ∷ []) M
    by_order Less more = refl
    by_order Equal more = refl
    by_order Greater more = ap (λ r. entry (false ∷ e.prefix) e.hop ∷ r) more

put_high : (p : List Bool) (h : ℕ) (L M : Table) → put (true ∷ p) h (lift (false ∷ []) L ++ lift (true ∷ []) M) ≡ lift (false ∷ []) L ++ lift (true ∷ []) (put p h M)
put_high p h [] M = put_lift true p h M
put_high p h (e ∷ L) M = ap (λ r. entry (false ∷ e.prefix) e.hop ∷ r) (put_high p h L M)

put_past : (b : Bool) (p : List Bool) (h : ℕ) (o : Option ℕ) (L : Table) → put (b ∷ p) h (here o ++ L) ≡ here o ++ put (b ∷ p) h L
put_past b p h None L = refl
put_past b p h (Some g) L = refl

put_first : (h : ℕ) (L M : Table) → put [] h (lift (false ∷ []) L ++ lift (true ∷ []) M) ≡ entry [] h ∷ (lift (false ∷ []) L ++ lift (true ∷ []) M)
put_first h [] [] = refl
put_first h [] (e ∷ M) = refl
put_first h (e ∷ L) M = refl

put_own : (h : ℕ) (o : Option ℕ) (L M : Table) → put [] h (join o L M) ≡ join (Some h) L M
put_own h None L M = put_first h L M
put_own h (Some g) L M = refl

-- taking away
without_lift : (b : Bool) (p : List Bool) (L : Table) → without (b ∷ p) (lift (b ∷ []) L) ≡ lift (b ∷ []) (without p L)
without_lift b p [] = refl
without_lift b p (e ∷ L) =
    ap (λ t. cond t (lift (b ∷ []) L) (entry (b ∷ e.prefix) e.hop ∷ without (b ∷ p) (lift (b ∷ []) L))) (same_down b p e.prefix)
    ∙ by_test (same_bits p e.prefix) (without_lift b p L)
  where
    by_test : (t : Bool) → without (b ∷ p) (lift (b ∷ []) L) ≡ lift (b ∷ []) (without p L) →
        cond t (lift (b ∷ []) L) (entry (b ∷ e.prefix) e.hop ∷ without (b ∷ p) (lift (b ∷ []) L)) ≡ lift (b ∷ []) (cond t L (e ∷ without p L))
    by_test true more = refl
    by_test false more = ap (λ r. entry (b ∷ e.prefix) e.hop ∷ r) more

without_other : (p : List Bool) (M : Table) → without (false ∷ p) (lift (true ∷ []) M) ≡ lift (true ∷ []) M
unfolding same_bits
without_other p [] = refl
without_other p (e ∷ M) = ap (λ r. entry (true ∷ e.prefix) e.hop ∷ r) (without_other p M)

without_low : (p : List Bool) (L M : Table) → without (false ∷ p) (lift (false ∷ []) L ++ lift (true ∷ []) M) ≡ lift (false ∷ []) (without p L) ++ lift (true ∷ []) M
without_low p [] M = without_other p M
without_low p (e ∷ L) M =
    ap (λ t. cond t (lift (false ∷ []) L ++ lift (true ∷ []) M) (entry (false ∷ e.prefix) e.hop ∷ without (false ∷ p) (lift (false ∷ []) L ++ lift (true ∷ []) M))) (same_down false p e.prefix)
    ∙ by_test (same_bits p e.prefix) (without_low p L M)
  where
    by_test : (t : Bool) → without (false ∷ p) (lift (false ∷ []) L ++ lift (true ∷ []) M) ≡ lift (false ∷ []) (without p L) ++ lift (true ∷ []) M →
        cond t (lift (false ∷ []) L ++ lift (true ∷ []) M) (entry (false ∷ e.prefix) e.hop ∷ without (false ∷ p) (lift (false ∷ []) L ++ lift (true ∷ []) M)) ≡ lift (false ∷ []) (cond t L (e ∷ without p L)) ++ lift (true ∷ []) M
    by_test true more = refl
    by_test false more = ap (λ r. entry (false ∷ e.prefix) e.hop ∷ r) more

without_high : (p : List Bool) (L M : Table) → without (true ∷ p) (lift (false ∷ []) L ++ lift (true ∷ []) M) ≡ lift (false ∷ []) L ++ lift (true ∷ []) (without p M)
unfolding same_bits
without_high p [] M = without_lift true p M
without_high p (e ∷ L) M = ap (λ r. entry (false ∷ e.prefix) e.hop ∷ r) (without_high p L M)

without_past : (b : Bool) (p : List Bool) (o : Option ℕ) (L : Table) → without (b ∷ p) (here o ++ L) ≡ here o ++ without (b ∷ p) L
unfolding same_bits
without_past b p None L = refl
without_past b p (Some g) L = refl

without_first : (L M : Table) → without [] (lift (false ∷ []) L ++ lift (true ∷ []) M) ≡ lift (false ∷ []) L ++ lift (true ∷ []) M
unfolding same_bits
without_first [] [] = refl
without_first [] (e ∷ M) = ap (λ r. entry (true ∷ e.prefix) e.hop ∷ r) (without_first [] M)
without_first (e ∷ L) M = ap (λ r. entry (false ∷ e.prefix) e.hop ∷ r) (without_first L M)

without_own : (o : Option ℕ) (L M : Table) → without [] (join o L M) ≡ join None L M
unfolding same_bits
without_own None L M = without_first L M
without_own (Some g) L M = refl

-- edits
pub edit_low : (p : List Bool) (h o : Option ℕ) (L M : Table) → edit (false ∷ p) h (join o L M) ≡ join o (edit p h L) M
edit_low p None o L M = without_past false p o _ ∙ ap (λ r. here o ++ r) (without_low p L M)
edit_low p (Some h) o L M = put_past false p h o _ ∙ ap (λ r. here o ++ r) (put_low p h L M)

pub edit_high : (p : List Bool) (h o : Option ℕ) (L M : Table) → edit (true ∷ p) h (join o L M) ≡ join o L (edit p h M)
edit_high p None o L M = without_past true p o _ ∙ ap (λ r. here o ++ r) (without_high p L M)
edit_high p (Some h) o L M = put_past true p h o _ ∙ ap (λ r. here o ++ r) (put_high p h L M)

pub edit_own : (h o : Option ℕ) (L M : Table) → edit [] h (join o L M) ≡ join h L M
edit_own None o L M = without_own o L M
edit_own (Some h) o L M = put_own h o L M
