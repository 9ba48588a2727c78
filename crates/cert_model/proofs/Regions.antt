-- Addresses of a region, and tests of prefixes.
use Rattle.std.proofs.Common.{◌≡◌, ℕ, List, [], ◌∷◌, ◌++◌, Bool, true, false, length, refl, sym, ap, ◌∙◌, subst}
use Rattle.std.proofs.lemmas.Bool.{and_parts, and_from}
use Rattle.table_model.specs.Bits.{begins}
use Rattle.table_model.specs.Width.{width}
use Rattle.table_model.specs.Address.{Address, Prefix, IsAddress, same_family}
use Rattle.table_model.proofs.SamePrefix.{same_family_is, same_family_itself}
use Rattle.table_model.specs.Table.{lpm}
use Rattle.table_model.specs.Entries.{Entries, of_family, match_in}
use Rattle.table_model.specs.Uniform.{AllGet}

begins_front : (p q : List Bool) → begins p (p ++ q) ≡ true
begins_front [] q = refl
begins_front (true ∷ p) q = begins_front p q
begins_front (false ∷ p) q = begins_front p q

begins_parts : (p a : List Bool) → begins p a ≡ true → (q : List Bool) × (a ≡ p ++ q)
begins_parts [] a e = (a, refl)
begins_parts (true ∷ p) [] e = cc
begins_parts (false ∷ p) [] e = cc
begins_parts (true ∷ p) (true ∷ a) e = let r = begins_parts p a e in (r.0, ap (λ x. true ∷ x) r.1)
begins_parts (false ∷ p) (false ∷ a) e = let r = begins_parts p a e in (r.0, ap (λ x. false ∷ x) r.1)
begins_parts (true ∷ p) (false ∷ a) e = cc
begins_parts (false ∷ p) (true ∷ a) e = cc

-- the hop of every address of the region, by its bits after the prefix
pub get_bits : (R : Entries) (p : Prefix) (h : ℕ) → AllGet R p h → (a : List Bool) → length (p.bits ++ a) ≡ width p.family → lpm (of_family p.family R) (p.bits ++ a) 0 ≡ h
get_bits R p h g a l =
    let x : Address = record { family = p.family; bits = p.bits ++ a } in
    g x l (and_from (same_family p.family p.family) (begins p.bits (p.bits ++ a)) (same_family_itself p.family) (begins_front p.bits a))

pub get_all : (R : Entries) (p : Prefix) (h : ℕ) → ((a : List Bool) → length (p.bits ++ a) ≡ width p.family → lpm (of_family p.family R) (p.bits ++ a) 0 ≡ h) → AllGet R p h
get_all R p h g x l c =
    let t = and_parts (same_family p.family x.family) (begins p.bits x.bits) c in
    let f : p.family ≡ x.family = same_family_is p.family x.family t.0 in
    let b = begins_parts p.bits x.bits t.1 in
    let same : x ≡ record { family = p.family; bits = p.bits ++ b.0 } =
    ap (λ y. let r : Address = record { family = y; bits = x.bits } in r) (sym f) ∙ ap (λ y. let r : Address = record { family = p.family; bits = y } in r) b.1 in
    let m : IsAddress (record { family = p.family; bits = p.bits ++ b.0 }) = subst IsAddress same l in
    ap (match_in R) same ∙ g b.0 m
