-- Printed rows of a certificate are one, whatever numbers their hops had.
use Rattle.std.proofs.Common.{◌≡◌, ℕ, zero, suc, ◌<◌, ◌≤◌, List, [], ◌∷◌, ◌++◌, Bool, true, false, Option, Some, None, length, nat_eq, map, refl, sym, ap, subst, ◌∙◌, arith, append-nil}
use Rattle.std.specs.Prelude.{◌||◌, flat_map, slice_get}
use Rattle.std.specs.List.{AllByRecursion, IsDistinct}
use Rattle.std.proofs.lemmas.Bool.{eqb-true}
use Rattle.std.proofs.lemmas.Grind.{flat_map-append}
use Rattle.table_model.specs.Address.{Address, Prefix, same_address}
use Rattle.table_model.proofs.SamePrefix.{same_address_itself}
use Rattle.table_model.specs.Entries.{Entries}
use Rattle.table_model.specs.Sets.{is_in}
use Rattle.fib_addr.specs.Hops.{hop_at}
use Rattle.cert_model.specs.Rows.{CertRow, leaf_row, join_row, bound_row}
use Rattle.cert_model.specs.Right.{IsCertificate}
use Rattle.cert_model.specs.Renamed.{renamed, renamed_row, renamed_rows, hops_of_entries, KeepsApart}
use Rattle.cert_model.proofs.Renamed.{renaming_law}
use Rattle.printed_text.specs.Rows.{PrintedRow, route_row, least_row, cert_leaf_row, cert_join_row, cert_bound_row}
use Rattle.printed_text.specs.Texts.{numbered_hop, hops_in}
use Rattle.printed_text.specs.Used.{hop_number, route_entry, least_entry, cert_part, used_of}
use Rattle.printed_text.specs.Numbered.{route_row_by, of_route, of_least, of_cert, IsOther, rows_with, HaveHops, Proves}
use Rattle.printed_text.proofs.Hops.{numbers_back, parts}

-- ---- what each kind of row says

flat_nothing : {X A : Type 0} (f : X → List A) (P : X → Type 0) → ((x : X) → P x → f x ≡ []) → (xs : List X) → AllByRecursion P xs → flat_map f xs ≡ []
flat_nothing f P e [] a = refl
flat_nothing f P e (x ∷ xs) a = ap (λ ys. ys ++ flat_map f xs) (e x a.0) ∙ flat_nothing f P e xs a.1

other_route : (hops : List Address) (row : PrintedRow) → IsOther row → route_entry hops row ≡ []
other_route hops (route_row p a) o = absurd o
other_route hops row o = refl

other_least : (hops : List Address) (row : PrintedRow) → IsOther row → least_entry hops row ≡ []
other_least hops (least_row p hop) o = absurd o
other_least hops row o = refl

other_cert : (hops : List Address) (row : PrintedRow) → IsOther row → cert_part hops row ≡ []
other_cert hops (cert_leaf_row p hop) o = absurd o
other_cert hops (cert_join_row p k) o = absurd o
other_cert hops (cert_bound_row f n) o = absurd o
other_cert hops row o = refl

pub other_hop : (row : PrintedRow) → IsOther row → numbered_hop row ≡ []
other_hop (route_row p a) o = absurd o
other_hop (least_row p hop) o = absurd o
other_hop (cert_leaf_row p hop) o = absurd o
other_hop row o = refl

-- the rows one by one
nothing_mapped : {X A : Type 0} (f : PrintedRow → List A) (g : X → PrintedRow) → ((x : X) → f (g x) ≡ []) → (xs : List X) → flat_map f (map g xs) ≡ []
nothing_mapped f g e [] = refl
nothing_mapped f g e (x ∷ xs) = ap (λ ys. ys ++ flat_map f (map g xs)) (e x) ∙ nothing_mapped f g e xs

one_mapped : {X A : Type 0} (f : PrintedRow → List A) (g : X → PrintedRow) (h : X → A) → ((x : X) → f (g x) ≡ h x ∷ []) → (xs : List X) → flat_map f (map g xs) ≡ map h xs
one_mapped f g h e [] = refl
one_mapped f g h e (x ∷ xs) = ap (λ ys. ys ++ flat_map f (map g xs)) (e x) ∙ ap (λ ys. h x ∷ ys) (one_mapped f g h e xs)

-- what rows of routes say
nothing_routed : {A : Type 0} (f : PrintedRow → List A) (hops : List Address) → ((p : Prefix) (a : Address) → f (route_row p a) ≡ []) → (R : Entries) → flat_map f (flat_map (of_route hops) R) ≡ []
nothing_routed f hops e [] = refl
nothing_routed f hops e (x ∷ R) =
    flat_map-append f (of_route hops x) (flat_map (of_route hops) R) ∙ (ap (λ ys. ys ++ flat_map f (flat_map (of_route hops) R)) (one x.0 (hop_at hops x.1)) ∙ nothing_routed f hops e R)
  where
    one : (p : Prefix) (o : Option Address) → flat_map f (route_row_by p o) ≡ []
    one p None = refl
    one p (Some a) = append-nil (f (route_row p a)) ∙ e p a

-- all that such a text says
pub said : {A : Type 0} (f : PrintedRow → List A) (hops : List Address) (R T : Entries) (C : List CertRow) (between after : List PrintedRow)
    → ((row : PrintedRow) → IsOther row → f row ≡ []) → AllByRecursion IsOther between → AllByRecursion IsOther after
    → flat_map f (rows_with hops R T C between after) ≡ flat_map f (flat_map (of_route hops) R) ++ (flat_map f (map (of_least hops) T) ++ flat_map f (map (of_cert hops) C))
said f hops R T C between after e b a =
    let routes : List PrintedRow = flat_map (of_route hops) R in
    let least : List PrintedRow = map (of_least hops) T in
    let cert : List PrintedRow = map (of_cert hops) C in
    let end : flat_map f (cert ++ after) ≡ flat_map f cert =
    flat_map-append f cert after ∙ (ap (λ ys. flat_map f cert ++ ys) (flat_nothing f IsOther e after a) ∙ append-nil (flat_map f cert)) in
    let late : flat_map f (least ++ (cert ++ after)) ≡ flat_map f least ++ flat_map f cert = flat_map-append f least (cert ++ after) ∙ ap (λ ys. flat_map f least ++ ys) end in
    let mid : flat_map f (between ++ (least ++ (cert ++ after))) ≡ flat_map f least ++ flat_map f cert =
    flat_map-append f between (least ++ (cert ++ after)) ∙ (ap (λ ys. ys ++ flat_map f (least ++ (cert ++ after))) (flat_nothing f IsOther e between b) ∙ late) in
    flat_map-append f routes (between ++ (least ++ (cert ++ after))) ∙ ap (λ ys. flat_map f routes ++ ys) mid

-- ---- the new numbers

-- the number that a hop of the one list has in the other
abbrev number_among : List Address → List Address → ℕ → ℕ
number_among hops new n = hop_number new (hop_at hops n)

-- a number up to the length has a hop
hop_there : (hops : List Address) (n : ℕ) → 1 ≤ n → n ≤ length hops → (a : Address) × (hop_at hops n ≡ Some a)
hop_there hops zero l m = absurd (omega arith)
hop_there [] (suc n) l m = absurd (omega arith)
hop_there (a ∷ hops) (suc zero) l m = (a, refl)
hop_there (a ∷ hops) (suc (suc n)) l m = hop_there hops (suc n) (omega arith) (omega arith)

routes_said : (hops new : List Address) (R : Entries) → HaveHops hops R → flat_map (route_entry new) (flat_map (of_route hops) R) ≡ renamed (number_among hops new) R
routes_said hops new [] h = refl
routes_said hops new (e ∷ R) h =
    let t = hop_there hops e.1 h.0.0 h.0.1 in
    flat_map-append (route_entry new) (of_route hops e) (flat_map (of_route hops) R)
    ∙ (ap (λ ys. ys ++ flat_map (route_entry new) (flat_map (of_route hops) R)) (one (hop_at hops e.1) t.0 t.1) ∙ ap (λ ys. (e.0, number_among hops new e.1) ∷ ys) (routes_said hops new R h.1))
  where
    one : (o : Option Address) (a : Address) → o ≡ Some a → flat_map (route_entry new) (route_row_by e.0 o) ≡ (e.0, hop_number new o) ∷ []
    one None a x = absurd cc
    one (Some b) a x = refl

cert_said : (hops new : List Address) (row : CertRow) → cert_part new (of_cert hops row) ≡ renamed_row (number_among hops new) row ∷ []
cert_said hops new (leaf_row p h) = refl
cert_said hops new (join_row p k) = refl
cert_said hops new (bound_row f n) = refl

no_route : (hops new : List Address) (row : CertRow) → route_entry new (of_cert hops row) ≡ []
no_route hops new (leaf_row p h) = refl
no_route hops new (join_row p k) = refl
no_route hops new (bound_row f n) = refl

no_least : (hops new : List Address) (row : CertRow) → least_entry new (of_cert hops row) ≡ []
no_least hops new (leaf_row p h) = refl
no_least hops new (join_row p k) = refl
no_least hops new (bound_row f n) = refl

-- what is used of such a text is the same with new numbers
used_routes : (hops new : List Address) (R T : Entries) (C : List CertRow) (between after : List PrintedRow) → HaveHops hops R → AllByRecursion IsOther between → AllByRecursion IsOther after
    → flat_map (route_entry new) (rows_with hops R T C between after) ≡ renamed (number_among hops new) R
used_routes hops new R T C between after h b a =
    let f = route_entry new in
    said f hops R T C between after (other_route new) b a
    ∙ (ap (λ ys. flat_map f (flat_map (of_route hops) R) ++ (ys ++ flat_map f (map (of_cert hops) C))) (nothing_mapped f (of_least hops) (λ e. refl) T)
    ∙ (ap (λ ys. flat_map f (flat_map (of_route hops) R) ++ ys) (nothing_mapped f (of_cert hops) (no_route hops new) C)
    ∙ (append-nil (flat_map f (flat_map (of_route hops) R)) ∙ routes_said hops new R h)))

used_least : (hops new : List Address) (R T : Entries) (C : List CertRow) (between after : List PrintedRow) → AllByRecursion IsOther between → AllByRecursion IsOther after
    → flat_map (least_entry new) (rows_with hops R T C between after) ≡ renamed (number_among hops new) T
used_least hops new R T C between after b a =
    let f = least_entry new in
    let to = number_among hops new in
    said f hops R T C between after (other_least new) b a
    ∙ (ap (λ ys. ys ++ (flat_map f (map (of_least hops) T) ++ flat_map f (map (of_cert hops) C))) (nothing_routed f hops (λ p x. refl) R)
    ∙ (ap (λ ys. flat_map f (map (of_least hops) T) ++ ys) (nothing_mapped f (of_cert hops) (no_least hops new) C)
    ∙ (append-nil (flat_map f (map (of_least hops) T)) ∙ one_mapped f (of_least hops) (λ e. (e.0, to e.1)) (λ e. refl) T)))

used_cert : (hops new : List Address) (R T : Entries) (C : List CertRow) (between after : List PrintedRow) → AllByRecursion IsOther between → AllByRecursion IsOther after
    → flat_map (cert_part new) (rows_with hops R T C between after) ≡ renamed_rows (number_among hops new) C
used_cert hops new R T C between after b a =
    let f = cert_part new in
    said f hops R T C between after (other_cert new) b a
    ∙ (ap (λ ys. ys ++ (flat_map f (map (of_least hops) T) ++ flat_map f (map (of_cert hops) C))) (nothing_routed f hops (λ p x. refl) R)
    ∙ (ap (λ ys. ys ++ flat_map f (map (of_cert hops) C)) (nothing_mapped f (of_least hops) (λ e. refl) T)
    ∙ one_mapped f (of_cert hops) (renamed_row (number_among hops new)) (cert_said hops new) C))

-- ---- they keep the hops of the routes apart

-- the new number is that of the hop
abbrev IsKept : List Address → List Address → ℕ → Type 0
IsKept hops new n = (hop_at new (number_among hops new n) ≡ hop_at hops n) × (n ≤ length hops)

abbrev IsBack : List Address → Address → Type 0
IsBack new a = hop_at new (hop_number new (Some a)) ≡ Some a

routes_kept : (hops new : List Address) (R : Entries) → HaveHops hops R → AllByRecursion (IsBack new) (flat_map numbered_hop (flat_map (of_route hops) R)) → AllByRecursion (IsKept hops new) (map (λ e. e.1) R)
routes_kept hops new [] h b = tt
routes_kept hops new (e ∷ R) h b =
    let c : AllByRecursion (IsBack new) (flat_map numbered_hop (of_route hops e) ++ flat_map numbered_hop (flat_map (of_route hops) R)) =
    subst (λ (xs : List Address). AllByRecursion (IsBack new) xs) (flat_map-append numbered_hop (of_route hops e) (flat_map (of_route hops) R)) b in
    let s = parts (IsBack new) (flat_map numbered_hop (of_route hops e)) (flat_map numbered_hop (flat_map (of_route hops) R)) c in
    ((one (hop_at hops e.1) s.0, h.0.1), routes_kept hops new R h.1 s.1)
  where
    one : (o : Option Address) → AllByRecursion (IsBack new) (flat_map numbered_hop (route_row_by e.0 o)) → hop_at new (hop_number new o) ≡ o
    one None x = refl
    one (Some a) x = x.0

among_is : (P : ℕ → Type 0) (hops : List ℕ) (h : ℕ) → is_in h hops ≡ true → AllByRecursion P hops → P h
among_is P [] h e a = absurd cc
among_is P (g ∷ hops) h e a = by_test (nat_eq g h) refl e (λ f. among_is P hops h f a.1)
  where
    by_test : (b : Bool) → nat_eq g h ≡ b → (b || is_in h hops) ≡ true → (is_in h hops ≡ true → P h) → P h
    by_test true t x later = subst P (eqb-true g h t) a.0
    by_test false t x later = later x

all_at : {A : Type 0} (P : A → Type 0) (xs : List A) (n : ℕ) (x : A) → AllByRecursion P xs → Some x ≡ slice_get xs n → P x
all_at P [] n x a e = absurd cc
all_at P (y ∷ xs) zero x a e = subst P (let s : y ≡ x = cc in s) a.0
all_at P (y ∷ xs) (suc n) x a e = all_at P xs n x a.1 e

-- a hop has one number
one_place : (hops : List Address) → IsDistinct same_address hops → (m n : ℕ) → m < length hops → n < length hops → slice_get hops m ≡ slice_get hops n → m ≡ n
unfolding IsDistinct
one_place [] d m n l k e = absurd (omega arith)
one_place (a ∷ hops) d zero zero l k e = refl
one_place (a ∷ hops) d zero (suc n) l k e = let f : same_address a a ≡ false = all_at (λ b. same_address a b ≡ false) hops n a d.0 e in let no : true ≡ false = sym (same_address_itself a) ∙ f in absurd cc
one_place (a ∷ hops) d (suc m) zero l k e = let f : same_address a a ≡ false = all_at (λ b. same_address a b ≡ false) hops m a d.0 (sym e) in let no : true ≡ false = sym (same_address_itself a) ∙ f in absurd cc
one_place (a ∷ hops) d (suc m) (suc n) l k e = ap suc (one_place hops d.1 m n (omega arith) (omega arith) e)

one_number : (hops : List Address) → IsDistinct same_address hops → (m n : ℕ) → m ≤ length hops → n ≤ length hops → hop_at hops m ≡ hop_at hops n → m ≡ n
one_number hops d zero zero l k e = refl
one_number hops d zero (suc n) l k e = let t = hop_there hops (suc n) (omega arith) k in let no : None ≡ Some t.0 = e ∙ t.1 in absurd cc
one_number hops d (suc m) zero l k e = let t = hop_there hops (suc m) (omega arith) l in let no : None ≡ Some t.0 = sym e ∙ t.1 in absurd cc
one_number hops d (suc m) (suc n) l k e = ap suc (one_place hops d m n (omega arith) (omega arith) e)

kept_apart : (hops new : List Address) (R : Entries) → IsDistinct same_address hops → AllByRecursion (IsKept hops new) (map (λ e. e.1) R) → KeepsApart (number_among hops new) (hops_of_entries R)
kept_apart hops new R d k g h x y e =
    let all : AllByRecursion (IsKept hops new) (hops_of_entries R) = ((refl, omega arith), k) in
    let i = among_is (IsKept hops new) (hops_of_entries R) g x all in
    let j = among_is (IsKept hops new) (hops_of_entries R) h y all in
    one_number hops d g h i.1 j.1 (sym i.0 ∙ (ap (hop_at new) e ∙ j.0))

same_certificate : (A B S T : Entries) (C D : List CertRow) → A ≡ B → S ≡ T → C ≡ D → IsCertificate B T D → IsCertificate A S C
same_certificate A B S T C D e f g c =
    subst (λ (rows : List CertRow). IsCertificate A S rows) (sym g) (subst (λ (x : Entries). IsCertificate A x D) (sym f) (subst (λ (x : Entries). IsCertificate x T D) (sym e) c))

pub printed_proves : (hops : List Address) (R T : Entries) (C : List CertRow) (between after : List PrintedRow) → IsDistinct same_address hops → HaveHops hops R
    → AllByRecursion IsOther between → AllByRecursion IsOther after → IsCertificate R T C → Proves (used_of (rows_with hops R T C between after))
printed_proves hops R T C between after d h b a c =
    let rows : List PrintedRow = rows_with hops R T C between after in
    let new : List Address = hops_in rows in
    let back : AllByRecursion (IsBack new) (flat_map numbered_hop (flat_map (of_route hops) R) ++ (flat_map numbered_hop (map (of_least hops) T) ++ flat_map numbered_hop (map (of_cert hops) C))) =
    subst (λ (xs : List Address). AllByRecursion (IsBack new) xs) (said numbered_hop hops R T C between after other_hop b a) (numbers_back rows) in
    let k = routes_kept hops new R h (parts (IsBack new) (flat_map numbered_hop (flat_map (of_route hops) R)) _ back).0 in
    same_certificate _ _ _ _ _ _ (used_routes hops new R T C between after h b a) (used_least hops new R T C between after b a) (used_cert hops new R T C between after b a)
    (renaming_law (number_among hops new) R T C refl (kept_apart hops new R d k) c)
