-- Entries are dealt out to the halves of a region.
use Rattle.std.proofs.Common.{◌≡◌, ◌≢◌, ℕ, zero, suc, ◌+◌, ◌-◌, ◌<◌, List, [], ◌∷◌, ◌++◌, Bool, true, false, cond, Option, Some, None, length, map, take, get_or, nat_eq, refl, sym, ap, ◌∙◌, arith, append-nil}
use Rattle.std.specs.Int.{bit_at}
use Rattle.std.proofs.lemmas.Bool.{cond-true, cond-false}
use Rattle.std.specs.Option.{option_or}
use Rattle.table_model.specs.Bits.{bits_of}
use Rattle.table_model.specs.Width.{width}
use Rattle.table_model.specs.Address.{same_family}
use Rattle.table_model.specs.declared.family.Family.{Family}
use Rattle.table_model.proofs.SamePrefix.{same_family_is}
use Rattle.table_model.specs.Table.{Table, root, root_of, half, half_of}
use Rattle.table_model.specs.Table.{Entry as ModelEntry}
use Rattle.table_model.specs.Entries.{Entries, of_family}
use Rattle.table_model.proofs.Join.{half_append}
use Rattle.fib_addr.specs.Views.{entry_as}
use Rattle.fib_addr.specs.declared.entry.Entry as code
use Rattle.cert_check.specs.declared.runs.Part.{Part}
use Rattle.cert_check.specs.Runs.{part_as, parts_table}

-- ---- the bits of a part

pub taken : (d l n : ℕ) (b : Bool) → l ≢ 0 → b ≡ nat_eq (bit_at n d) 1 → take l (bits_of (d + 1) n) ≡ b ∷ take (l - 1) (bits_of d n)
unfolding bits_of
taken d zero n b h e = absurd (h refl)
taken d (suc l) n b h e =
    let f : suc l - 1 ≡ l = omega arith in
    let g : d + 1 ≡ suc d = omega arith in
    ap (λ j. take (suc l) (bits_of j n)) g ∙ (ap (λ x. x ∷ take l (bits_of d n)) (sym e) ∙ ap (λ j. b ∷ take j (bits_of d n)) (sym f))

-- ---- one part

module _ {X Y : Type 0} (f : X → Y) where
  pub map_push : (xs : List X) (x : X) → map f (xs ++ x ∷ []) ≡ map f xs ++ f x ∷ []
  map_push [] x = refl
  map_push (y ∷ xs) x = ap (λ ys. f y ∷ ys) (map_push xs x)

  pub take_next : (xs : List X) (i : ℕ) (x z : X) → i < length xs → x ≡ get_or xs i z → map f (take (i + 1) xs) ≡ map f (take i xs) ++ f x ∷ []
  take_next [] i x z h e = absurd (omega arith)
  take_next (y ∷ xs) zero x z h e = ap (λ a. f a ∷ []) (sym e)
  take_next (y ∷ xs) (suc i) x z h e = let g : suc i + 1 ≡ suc (i + 1) = omega arith in ap (λ j. map f (take j (y ∷ xs))) g ∙ ap (λ ys. f y ∷ ys) (take_next xs i x z (omega arith) e)

no_more : (d : ℕ) (parts : List Part) → parts_table d parts ≡ parts_table d parts ++ []
no_more d parts = sym (append-nil (parts_table d parts))

own_kept : (own : Option ℕ) → own ≡ option_or own None
own_kept None = refl
own_kept (Some h) = refl

pub own_stays : (own : Option ℕ) (b : Bool) (p q : List Bool) (hop : ℕ) → p ≡ b ∷ q → own ≡ option_or own (root_of p hop None)
own_stays own b p q hop e = own_kept own ∙ ap (λ x. option_or own (root_of x hop None)) (sym e)

pub half_stays_low : (d : ℕ) (parts : List Part) (p q : List Bool) (hop : ℕ) → p ≡ true ∷ q → parts_table d parts ≡ parts_table d parts ++ half_of false p hop []
half_stays_low d parts p q hop e = no_more d parts ∙ ap (λ x. parts_table d parts ++ half_of false x hop []) (sym e)

pub half_stays_high : (d : ℕ) (parts : List Part) (p q : List Bool) (hop : ℕ) → p ≡ false ∷ q → parts_table d parts ≡ parts_table d parts ++ half_of true p hop []
half_stays_high d parts p q hop e = no_more d parts ∙ ap (λ x. parts_table d parts ++ half_of true x hop []) (sym e)

pub half_grows_high : (d : ℕ) (old new : List Part) (p : List Bool) (bits len hop : ℕ) → new ≡ old ++ record { bits = bits; len = len; hop = hop } ∷ [] → p ≡ true ∷ take len (bits_of d bits)
    → parts_table d new ≡ parts_table d old ++ half_of true p hop []
half_grows_high d old new p bits len hop e f =
    ap (parts_table d) e ∙ (map_push (part_as d) old (record { bits = bits; len = len; hop = hop }) ∙ ap (λ x. parts_table d old ++ half_of true x hop []) (sym f))

pub half_grows_low : (d : ℕ) (old new : List Part) (p : List Bool) (bits len hop : ℕ) → new ≡ old ++ record { bits = bits; len = len; hop = hop } ∷ [] → p ≡ false ∷ take len (bits_of d bits)
    → parts_table d new ≡ parts_table d old ++ half_of false p hop []
half_grows_low d old new p bits len hop e f =
    ap (parts_table d) e ∙ (map_push (part_as d) old (record { bits = bits; len = len; hop = hop }) ∙ ap (λ x. parts_table d old ++ half_of false x hop []) (sym f))

-- ---- parts one after another

root_push : (L : Table) (e : ModelEntry) → root (L ++ e ∷ []) ≡ option_or (root L) (root (e ∷ []))
root_push [] e = refl
root_push (x ∷ L) e = by_prefix x.prefix (root_push L e)
  where
    by_prefix : (p : List Bool) → root (L ++ e ∷ []) ≡ option_or (root L) (root (e ∷ [])) → root_of p x.hop (root (L ++ e ∷ [])) ≡ option_or (root_of p x.hop (root L)) (root (e ∷ []))
    by_prefix [] ih = refl
    by_prefix (b ∷ p) ih = ih

pub own_next : (d i : ℕ) (parts : List Part) (part z : Part) (own new : Option ℕ) → i < length parts → part ≡ get_or parts i z → own ≡ root (parts_table d (take i parts))
    → new ≡ option_or own (root (part_as d part ∷ [])) → new ≡ root (parts_table d (take (i + 1) parts))
own_next d i parts part z own new lt is e f =
    f ∙ (ap (λ x. option_or x (root (part_as d part ∷ []))) e ∙ (sym (root_push (parts_table d (take i parts)) (part_as d part)) ∙ ap root (sym (take_next (part_as d) parts i part z lt is))))

pub half_next : (b : Bool) (d i : ℕ) (parts : List Part) (part z : Part) (old new : Table) → i < length parts → part ≡ get_or parts i z → old ≡ half b (parts_table d (take i parts))
    → new ≡ old ++ half b (part_as d part ∷ []) → new ≡ half b (parts_table d (take (i + 1) parts))
half_next b d i parts part z old new lt is e f =
    f ∙ (ap (λ x. x ++ half b (part_as d part ∷ [])) e ∙ (sym (half_append b (parts_table d (take i parts)) (part_as d part ∷ [])) ∙ ap (half b) (sym (take_next (part_as d) parts i part z lt is))))

-- ---- the entries of a family

family_push : (f : Family) (L : Entries) (M : Entries) → of_family f (L ++ M) ≡ of_family f L ++ of_family f M
family_push f [] M = refl
family_push f (e ∷ L) M = by_test (same_family f e.0.family) (family_push f L M)
  where
    by_test : (b : Bool) → of_family f (L ++ M) ≡ of_family f L ++ of_family f M
        → cond b (record { prefix = e.0.bits; hop = e.1 } ∷ of_family f (L ++ M)) (of_family f (L ++ M)) ≡ cond b (record { prefix = e.0.bits; hop = e.1 } ∷ of_family f L) (of_family f L) ++ of_family f M
    by_test true ih = ap (λ xs. record { prefix = e.0.bits; hop = e.1 } ∷ xs) ih
    by_test false ih = ih

pub family_next : (f : Family) (entries : List code.Entry) (i : ℕ) (e : code.Entry) → i < length entries → e ≡ get_or entries i e
    → of_family f (map entry_as (take (i + 1) entries)) ≡ of_family f (map entry_as (take i entries)) ++ of_family f (entry_as e ∷ [])
family_next f entries i e lt is = ap (of_family f) (take_next entry_as entries i e e lt is) ∙ family_push f (map entry_as (take i entries)) (entry_as e ∷ [])

pub other_family : (f : Family) (entries : List code.Entry) (i : ℕ) (e : code.Entry) (old new : List Part) → i < length entries → e ≡ get_or entries i e → same_family f e.prefix.family ≡ false
    → parts_table (width f) old ≡ of_family f (map entry_as (take i entries)) → new ≡ old → parts_table (width f) new ≡ of_family f (map entry_as (take (i + 1) entries))
other_family f entries i e old new lt is apart so_far same =
    ap (parts_table (width f)) same ∙ (so_far ∙ (sym (append-nil (of_family f (map entry_as (take i entries))))
    ∙ (ap (λ x. of_family f (map entry_as (take i entries)) ++ x) (sym (cond-false (same_family f e.prefix.family) _ _ apart)) ∙ sym (family_next f entries i e lt is))))

pub this_family : (f : Family) (entries : List code.Entry) (i : ℕ) (e : code.Entry) (old new : List Part) → i < length entries → e ≡ get_or entries i e → same_family f e.prefix.family ≡ true
    → parts_table (width f) old ≡ of_family f (map entry_as (take i entries)) → new ≡ old ++ record { bits = e.prefix.bits; len = e.prefix.len; hop = e.hop.0 } ∷ []
    → parts_table (width f) new ≡ of_family f (map entry_as (take (i + 1) entries))
this_family f entries i e old new lt is one_family so_far grown =
    let part : Part = record { bits = e.prefix.bits; len = e.prefix.len; hop = e.hop.0 } in
    let one : of_family f (entry_as e ∷ []) ≡ part_as (width f) part ∷ [] =
    cond-true (same_family f e.prefix.family) _ _ one_family
    ∙ ap (λ g. let x : ModelEntry = record { prefix = take e.prefix.len (bits_of (width g) e.prefix.bits); hop = e.hop.0 } in x ∷ []) (sym (same_family_is f e.prefix.family one_family))
    in
    ap (parts_table (width f)) grown ∙ (map_push (part_as (width f)) old part
    ∙ (ap (λ x. x ++ part_as (width f) part ∷ []) so_far ∙ (ap (λ x. of_family f (map entry_as (take i entries)) ++ x) (sym one) ∙ sym (family_next f entries i e lt is))))
