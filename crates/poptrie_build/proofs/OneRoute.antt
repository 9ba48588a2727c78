-- Longest match in a table of one entry.
use Rattle.std.proofs.Common.{◌≡◌, ◌≢◌, ℕ, zero, suc, ◌≤◌, List, [], ◌∷◌, Bool, true, false, cond, length, refl, sym, ap, ◌∙◌, arith, replicate, inl, inr}
use Rattle.std.specs.Prelude.{◌&&◌, ◌⊎◌}
use Rattle.std.proofs.lemmas.List.{length-replicate}
use Rattle.table_model.specs.Bits.{begins}
use Rattle.table_model.specs.Width.{width}
use Rattle.table_model.specs.Address.{Address, Prefix, IsPrefix, contains, same_family}
use Rattle.table_model.specs.Halves.{is_within}
use Rattle.table_model.specs.declared.family.Family.{Family}
use Rattle.table_model.specs.declared.family.Family.TheVariants.{V4, V6}
use Rattle.table_model.specs.Table.{Entry, hop_or, longest}
use Rattle.table_model.specs.Entries.{match_in}
use Rattle.table_model.specs.Uniform.{AllGet, TwoDiffer}

abbrev one_hop : List Bool → ℕ → Bool → ℕ
one_hop p h b = hop_or 0 (longest (cond b ((let e : Entry = record { prefix = p; hop = h } in e) ∷ []) []))

by_test : (p : List Bool) (h : ℕ) (b : Bool) → one_hop p h b ≡ cond b h 0
by_test p h true = refl
by_test p h false = refl

single_by : (f g : Family) (p a : List Bool) (h : ℕ) → match_in ((record { family = f; bits = p }, h) ∷ []) (record { family = g; bits = a }) ≡ cond (same_family f g && begins p a) h 0
single_by V4 V4 p a h = by_test p h (begins p a)
single_by V6 V6 p a h = by_test p h (begins p a)
single_by V4 V6 p a h = refl
single_by V6 V4 p a h = refl

single : (q : Prefix) (h : ℕ) (a : Address) → match_in ((q, h) ∷ []) a ≡ cond (contains q a) h 0
single q h a = single_by q.family a.family q.bits a.bits h

begins_on : (q p a : List Bool) → begins q p ≡ true → begins p a ≡ true → begins q a ≡ true
begins_on [] p a e f = refl
begins_on (true ∷ q) (true ∷ p) (true ∷ a) e f = begins_on q p a e f
begins_on (false ∷ q) (false ∷ p) (false ∷ a) e f = begins_on q p a e f
begins_on (true ∷ q) (true ∷ p) (false ∷ a) e f = cc
begins_on (false ∷ q) (false ∷ p) (true ∷ a) e f = cc
begins_on (true ∷ q) (true ∷ p) [] e f = cc
begins_on (false ∷ q) (false ∷ p) [] e f = cc
begins_on (true ∷ q) (false ∷ p) a e f = cc
begins_on (false ∷ q) (true ∷ p) a e f = cc
begins_on (true ∷ q) [] a e f = cc
begins_on (false ∷ q) [] a e f = cc

one_within : (p q a : List Bool) → begins p a ≡ true → begins q a ≡ true → (begins q p ≡ true) ⊎ (begins p q ≡ true)
one_within [] q a e f = inr refl
one_within (b ∷ p) [] a e f = inl refl
one_within (true ∷ p) (true ∷ q) (true ∷ a) e f = one_within p q a e f
one_within (false ∷ p) (false ∷ q) (false ∷ a) e f = one_within p q a e f
one_within (true ∷ p) (b ∷ q) (false ∷ a) e f = cc
one_within (false ∷ p) (b ∷ q) (true ∷ a) e f = cc
one_within (true ∷ p) (false ∷ q) (true ∷ a) e f = cc
one_within (false ∷ p) (true ∷ q) (false ∷ a) e f = cc
one_within (true ∷ p) (b ∷ q) [] e f = cc
one_within (false ∷ p) (b ∷ q) [] e f = cc

both : (f g : Family) (x : Bool) → (same_family f g && x) ≡ true → (f ≡ g) × (x ≡ true)
both V4 V4 x e = (refl, e)
both V6 V6 x e = (refl, e)
both V4 V6 x e = cc
both V6 V4 x e = cc

same : (f : Family) (x : Bool) → (same_family f f && x) ≡ x
same V4 x = refl
same V6 x = refl

same_as : (f g : Family) (x : Bool) → f ≡ g → (same_family f g && x) ≡ x
same_as f g x e = ap (λ k. same_family f k && x) (sym e) ∙ same f x

-- every address of a prefix within the entry's gets its hop
pub all_of_entry : (p q : Prefix) (h : ℕ) → is_within p q ≡ true → AllGet ((q, h) ∷ []) p h
all_of_entry p q h w = λ a i c.
    let m = both q.family p.family (begins q.bits p.bits) w in
    let n = both p.family a.family (begins p.bits a.bits) c in
    single q h a ∙ ap (λ b. cond b h 0) (same_as q.family a.family (begins q.bits a.bits) (m.0 ∙ n.0) ∙ begins_on q.bits p.bits a.bits m.1 n.1)

-- no address of a prefix apart from the entry's gets it
pub none_of_entry : (p q : Prefix) (h : ℕ) → is_within p q ≡ false → is_within q p ≡ false → AllGet ((q, h) ∷ []) p 0
none_of_entry p q h w v = λ a i c. single q h a ∙ by a c (contains q a) refl
  where
    by : (a : Address) → contains p a ≡ true → (b : Bool) → contains q a ≡ b → cond b h 0 ≡ 0
    by a c false e = refl
    by a c true e =
        let m = both q.family a.family (begins q.bits a.bits) e in
        let n = both p.family a.family (begins p.bits a.bits) c in
        let f : p.family ≡ q.family = n.0 ∙ sym m.0 in
        absurd (elim (one_within p.bits q.bits a.bits n.1 m.1) [
          | inl x ↦ (let z = sym (same_as q.family p.family (begins q.bits p.bits) (sym f)) ∙ w in cc)
          | inr x ↦ (let z = sym (same_as p.family q.family (begins p.bits q.bits) f) ∙ v in cc)
        ])

-- hop 0 is none
pub hop_of_none : (p q : Prefix) (h : ℕ) → h ≡ 0 → AllGet ((q, h) ∷ []) p 0
hop_of_none p q h e = λ a i c. single q h a ∙ by (contains q a)
  where
    by : (b : Bool) → cond b h 0 ≡ 0
    by true = e
    by false = refl

filled : (q : List Bool) (w : ℕ) → length q ≤ w → (a : List Bool) × (length a ≡ w) × (begins q a ≡ true)
filled [] w l = (replicate w false, length-replicate w false, refl)
filled (b ∷ q) zero l = absurd (omega (arith, l))
filled (true ∷ q) (suc w) l = let r = filled q w (omega (arith, l)) in (true ∷ r.0, ap suc r.1, r.2)
filled (false ∷ q) (suc w) l = let r = filled q w (omega (arith, l)) in (false ∷ r.0, ap suc r.1, r.2)

beside : (p q : List Bool) (w : ℕ) → begins p q ≡ true → begins q p ≡ false → length q ≤ w → (a : List Bool) × (length a ≡ w) × (begins p a ≡ true) × (begins q a ≡ false)
beside [] [] w e f l = cc
beside [] (b ∷ q) zero e f l = absurd (omega (arith, l))
beside [] (true ∷ q) (suc w) e f l = (false ∷ replicate w false, ap suc (length-replicate w false), refl, refl)
beside [] (false ∷ q) (suc w) e f l = (true ∷ replicate w true, ap suc (length-replicate w true), refl, refl)
beside (true ∷ p) (true ∷ q) (suc w) e f l = let r = beside p q w e f (omega (arith, l)) in (true ∷ r.0, ap suc r.1, r.2, r.3)
beside (false ∷ p) (false ∷ q) (suc w) e f l = let r = beside p q w e f (omega (arith, l)) in (false ∷ r.0, ap suc r.1, r.2, r.3)
beside (b ∷ p) (c ∷ q) zero e f l = absurd (omega (arith, l))
beside (true ∷ p) (false ∷ q) (suc w) e f l = cc
beside (false ∷ p) (true ∷ q) (suc w) e f l = cc
beside (true ∷ p) [] w e f l = cc
beside (false ∷ p) [] w e f l = cc

-- two addresses of a prefix differ that has more than the entry's
pub two_of_entry : (p q : Prefix) (h : ℕ) → IsPrefix q → is_within q p ≡ true → is_within p q ≡ false → h ≢ 0 → TwoDiffer ((q, h) ∷ []) p
two_of_entry p q h i v w n =
    let m = both p.family q.family (begins p.bits q.bits) v in
    let f : begins q.bits p.bits ≡ false = sym (same_as q.family p.family (begins q.bits p.bits) (sym m.0)) ∙ w in
    let x = filled q.bits (width q.family) i in
    let y = beside p.bits q.bits (width q.family) m.1 f i in
    record {
      one = record { family = q.family; bits = x.0 };
      other = record { family = q.family; bits = y.0 };
      is_one = x.1;
      is_other = y.1;
      one_within = same_as p.family q.family (begins p.bits x.0) m.0 ∙ begins_on p.bits q.bits x.0 m.1 x.2;
      other_within = same_as p.family q.family (begins p.bits y.0) m.0 ∙ y.2;
      differ = λ e.
          n (sym (single q h (record { family = q.family; bits = x.0 }) ∙ ap (λ b. cond b h 0) (same q.family (begins q.bits x.0) ∙ x.2))
          ∙ (e ∙ (single q h (record { family = q.family; bits = y.0 }) ∙ ap (λ b. cond b h 0) (same q.family (begins q.bits y.0) ∙ y.3))));
    }
