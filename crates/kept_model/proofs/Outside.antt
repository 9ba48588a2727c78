-- A route changes no answer outside its prefix.
use Rattle.std.proofs.Common.{◌≡◌, ℕ, zero, suc, [], ◌∷◌, Bool, true, false, cond, refl, sym, ap, ◌∙◌}
use Rattle.std.specs.Prelude.{◌&&◌}
use Rattle.std.specs.List.{AllByRecursion}
use Rattle.std.specs.Map.{keys_of, remove_entry}
use Rattle.std.specs.BTreeMap.{insert_entry}
use Rattle.std.specs.Ordering.{match_ordering}
use Rattle.std.specs.declared.cmp.Ordering.{Ordering}
use Rattle.std.specs.declared.cmp.Ordering.TheVariants.{Less, Equal, Greater}
use Rattle.table_model.specs.Bits.{begins}
use Rattle.table_model.specs.Address.{Address, Prefix, IsPrefix, contains, same_family, same_prefix}
use Rattle.table_model.specs.Order.{prefix_cmp}
use Rattle.table_model.specs.declared.family.Family.{Family}
use Rattle.table_model.specs.declared.family.Family.TheVariants.{V4, V6}
use Rattle.table_model.proofs.Ordered.{equal_are_same}
use Rattle.table_model.proofs.SamePrefix.{same_prefix_is}
use Rattle.table_model.specs.Table.{Table, longest, hop_or, containing}
use Rattle.table_model.specs.Entries.{Entries, match_in, of_family}
use Rattle.table_model.proofs.Cut.{entry}
use Rattle.kept_model.specs.Patched.{with_route}

-- the entries that an address begins with
abbrev seen : Address → Entries → Table
seen a L = containing a.bits (of_family a.family L)

same_turned : (f g : Family) → same_family f g ≡ same_family g f
same_turned V4 V4 = refl
same_turned V4 V6 = refl
same_turned V6 V4 = refl
same_turned V6 V6 = refl

seen_more : (a : Address) (e : Prefix × ℕ) (L M : Entries) → seen a L ≡ seen a M → seen a (e ∷ L) ≡ seen a (e ∷ M)
seen_more a e L M h = by (same_family a.family e.0.family)
  where
    by : (b : Bool) → containing a.bits (cond b (entry e.0.bits e.1 ∷ of_family a.family L) (of_family a.family L)) ≡ containing a.bits (cond b (entry e.0.bits e.1 ∷ of_family a.family M) (of_family a.family M))
    by true = ap (λ (T : Table). cond (begins e.0.bits a.bits) (entry e.0.bits e.1 ∷ T) T) h
    by false = h

unseen : (a : Address) (p : Prefix) (h : ℕ) (L : Entries) → contains p a ≡ false → seen a ((p, h) ∷ L) ≡ seen a L
unseen a p h L out = by (same_family p.family a.family) refl
  where
    T : Table
    T = of_family a.family L

    by : (b : Bool) → same_family p.family a.family ≡ b → containing a.bits (cond (same_family a.family p.family) (entry p.bits h ∷ of_family a.family L) (of_family a.family L)) ≡ containing a.bits (of_family a.family L)
    by true t =
        let x : begins p.bits a.bits ≡ false = ap (λ c. c && begins p.bits a.bits) (sym t) ∙ out in
        ap (λ c. containing a.bits (cond c (entry p.bits h ∷ of_family a.family L) (of_family a.family L))) (same_turned a.family p.family ∙ t)
        ∙ ap (λ c. cond c (entry p.bits h ∷ containing a.bits (of_family a.family L)) (containing a.bits (of_family a.family L))) x
    by false t = ap (λ c. containing a.bits (cond c (entry p.bits h ∷ of_family a.family L) (of_family a.family L))) (same_turned a.family p.family ∙ t)

unseen_at : (a : Address) (p : Prefix) (e : Prefix × ℕ) (L : Entries) → p ≡ e.0 → contains p a ≡ false → seen a (e ∷ L) ≡ seen a L
unseen_at a p e L is out = ap (λ (q : Prefix). seen a ((q, e.1) ∷ L)) (sym is) ∙ unseen a p e.1 L out

removed : (a : Address) (p : Prefix) (R : Entries) → contains p a ≡ false → seen a (remove_entry (same_prefix p) R) ≡ seen a R
removed a p [] out = refl
removed a p (e ∷ R) out = by (same_prefix p e.0) refl (removed a p R out)
  where
    by : (b : Bool) → same_prefix p e.0 ≡ b → seen a (remove_entry (same_prefix p) R) ≡ seen a R → seen a (cond b R (e ∷ remove_entry (same_prefix p) R)) ≡ seen a (e ∷ R)
    by true t ih = sym (unseen_at a p e R (same_prefix_is p e.0 t) out)
    by false t ih = seen_more a e (remove_entry (same_prefix p) R) R ih

inserted : (a : Address) (p : Prefix) (h : ℕ) (R : Entries) → IsPrefix p → AllByRecursion IsPrefix (keys_of R) → contains p a ≡ false → seen a (insert_entry prefix_cmp R p h) ≡ seen a R
inserted a p h [] x all out = unseen a p h [] out
inserted a p h (e ∷ R) x all out = by (prefix_cmp p e.0) refl (inserted a p h R x all.1 out)
  where
    by : (o : Ordering) → prefix_cmp p e.0 ≡ o → seen a (insert_entry prefix_cmp R p h) ≡ seen a R → seen a (match_ordering o ((p, h) ∷ e ∷ R) ((e.0, h) ∷ R) (e ∷ insert_entry prefix_cmp R p h)) ≡ seen a (e ∷ R)
    by Less t ih = unseen a p h (e ∷ R) out
    by Equal t ih =
        let is = equal_are_same p e.0 x all.0 t in
        unseen_at a p (e.0, h) R is out ∙ sym (unseen_at a p e R is out)
    by Greater t ih = seen_more a e (insert_entry prefix_cmp R p h) R ih

pub routes_outside : (p : Prefix) (h : ℕ) (R : Entries) (a : Address) → IsPrefix p → AllByRecursion IsPrefix (keys_of R) → contains p a ≡ false → match_in (with_route p h R) a ≡ match_in R a
routes_outside p zero R a x all out = ap (λ (T : Table). hop_or 0 (longest T)) (removed a p R out)
routes_outside p (suc h) R a x all out = ap (λ (T : Table). hop_or 0 (longest T)) (inserted a p (suc h) R x all out)
