-- What is printed is read as it is: its addresses and prefixes are such, and its numbers are below 2^64.
use Rattle.std.proofs.Common.{◌≡◌, ℕ, ◌+◌, ◌<◌, ◌≤◌, List, [], ◌∷◌, ◌++◌, Option, Some, None, Result, Ok, Err, OnOk, length, take, map, get_or, sym, ap, subst, ◌∙◌, append-nil, arith}
use Rattle.std.specs.Prelude.{option_map}
use Rattle.std.specs.List.{AllByRecursion, flat_map}
use Rattle.std.proofs.lemmas.Grind.{flat_map-append}
use Rattle.std.proofs.lemmas.List.{take_more, map-append}
use Rattle.table_model.specs.Address.{Address, IsAddress, IsPrefix, Prefix as Model}
use Rattle.table_model.specs.Width.{width}
use Rattle.table_model.proofs.BitLaws.{length-bits_of}
use Rattle.fib_addr.specs.declared.addr.Addr.{Addr}
use Rattle.fib_addr.specs.declared.prefix.Prefix.{Prefix}
use Rattle.fib_addr.specs.Views.{addr_as, prefix_as}
use Rattle.fib_addr.proofs.Parts.{length_prefix}
use Rattle.printed_text.specs.Rows.{PrintedRow, IsHop, IsRow, route_row}
use Rattle.printed_text.specs.Numbered.{route_row_by}

pub address_proper : (a : Addr) → IsAddress (addr_as a)
address_proper a = length-bits_of (width a.family) a.bits

pub prefix_proper : (p : Prefix) → IsPrefix (prefix_as p)
prefix_proper p = let e : length (prefix_as p).bits ≡ p.len = length_prefix (width p.family) p.len p.bits p.fits in let f : p.len ≤ width p.family = p.fits in omega (arith, e, f)

pub hop_proper : (hop : Option Addr) → IsHop (option_map addr_as hop)
hop_proper None = tt
hop_proper (Some a) = address_proper a

-- ---- lists of rows

pub both_proper : (a b : List PrintedRow) → AllByRecursion IsRow a → AllByRecursion IsRow b → AllByRecursion IsRow (a ++ b)
both_proper [] b p q = q
both_proper (x ∷ a) b p q = (p.0, both_proper a b p.1 q)

-- the row of a route, where it has a hop
pub route_proper : (p : Model) (hop : Option Addr) (o : Option Address) (a : Addr) → hop ≡ Some a → option_map addr_as hop ≡ o → IsRow (route_row p (addr_as a)) → AllByRecursion IsRow (route_row_by p o)
route_proper p hop o a is same row = let s : Some (addr_as a) ≡ o = sym (ap (option_map addr_as) is) ∙ same in subst (λ o. AllByRecursion IsRow (route_row_by p o)) s (row, tt)

-- the rows of one more item
pub more_proper : {X Y : Type 0} (rows : Y → List PrintedRow) (seen : X → Y) (xs : List X) (i : ℕ) (x : X) → i < length xs → x ≡ get_or xs i x
    → AllByRecursion IsRow (flat_map rows (map seen (take i xs))) → AllByRecursion IsRow (rows (seen x)) → AllByRecursion IsRow (flat_map rows (map seen (take (i + 1) xs)))
more_proper rows seen xs i x inside at first next =
    let so_far : List PrintedRow = flat_map rows (map seen (take i xs)) in
    let now : AllByRecursion IsRow (rows (seen (get_or xs i x))) = subst (λ y. AllByRecursion IsRow (rows (seen y))) at next in
    let grown : flat_map rows (map seen (take (i + 1) xs)) ≡ so_far ++ rows (seen (get_or xs i x)) =
    ap (λ ys. flat_map rows (map seen ys)) (take_more xs i x inside)
    ∙ (ap (flat_map rows) (map-append seen (take i xs) (get_or xs i x ∷ []))
    ∙ (flat_map-append rows (map seen (take i xs)) (seen (get_or xs i x) ∷ []) ∙ ap (λ rs. so_far ++ rs) (append-nil (rows (seen (get_or xs i x))))))
    in
    subst (AllByRecursion IsRow) (sym grown) (both_proper so_far (rows (seen (get_or xs i x))) first now)

-- the row of one more item
pub one_proper : {X Y : Type 0} (row : Y → PrintedRow) (seen : X → Y) (xs : List X) (i : ℕ) (x : X) (r : PrintedRow) → i < length xs → x ≡ get_or xs i x → r ≡ row (seen x)
    → AllByRecursion IsRow (map row (map seen (take i xs))) → IsRow r → AllByRecursion IsRow (map row (map seen (take (i + 1) xs)))
one_proper row seen xs i x r inside at is first next =
    let so_far : List PrintedRow = map row (map seen (take i xs)) in
    let now : IsRow (row (seen (get_or xs i x))) = subst (λ y. IsRow (row (seen y))) at (subst IsRow is next) in
    let grown : map row (map seen (take (i + 1) xs)) ≡ so_far ++ row (seen (get_or xs i x)) ∷ [] =
    ap (λ ys. map row (map seen ys)) (take_more xs i x inside)
    ∙ (ap (map row) (map-append seen (take i xs) (get_or xs i x ∷ [])) ∙ map-append row (map seen (take i xs)) (seen (get_or xs i x) ∷ []))
    in
    subst (AllByRecursion IsRow) (sym grown) (both_proper so_far (row (seen (get_or xs i x)) ∷ []) first (now, tt))

-- what holds anyway holds where a call returned something
pub on_ok : {X E : Type 0} (r : Result X E) (P : Type 0) → P → OnOk r P
on_ok (Ok x) P p = p
on_ok (Err e) P p = tt
