-- Rows of proper entries are proper.
use Rattle.std.proofs.Common.{ℕ, zero, suc, List, [], ◌∷◌, ◌++◌, Option, Some, None, map}
use Rattle.std.specs.Prelude.{flat_map}
use Rattle.std.specs.List.{AllByRecursion}
use Rattle.std.specs.Map.{keys_of}
use Rattle.table_model.specs.Address.{Address, IsAddress, IsPrefix}
use Rattle.table_model.specs.Entries.{Entries}
use Rattle.fib_addr.specs.Hops.{hop_at}
use Rattle.cert_model.specs.Rows.{CertRow, leaf_row, join_row, bound_row}
use Rattle.printed_text.specs.Rows.{PrintedRow, IsHop, IsRow}
use Rattle.printed_text.specs.Numbered.{route_row_by, of_route, of_least, of_cert, IsCertRow, rows_with}

both_proper : (xs ys : List PrintedRow) → AllByRecursion IsRow xs → AllByRecursion IsRow ys → AllByRecursion IsRow (xs ++ ys)
both_proper [] ys a b = b
both_proper (x ∷ xs) ys a b = (a.0, both_proper xs ys a.1 b)

hop_proper : (hops : List Address) (n : ℕ) → AllByRecursion IsAddress hops → IsHop (hop_at hops n)
hop_proper hops zero a = tt
hop_proper [] (suc n) a = tt
hop_proper (x ∷ hops) (suc zero) a = a.0
hop_proper (x ∷ hops) (suc (suc n)) a = hop_proper hops (suc n) a.1

routes_proper : (hops : List Address) (R : Entries) → AllByRecursion IsAddress hops → AllByRecursion IsPrefix (keys_of R) → AllByRecursion IsRow (flat_map (of_route hops) R)
routes_proper hops [] a p = tt
routes_proper hops (e ∷ R) a p = both_proper (of_route hops e) (flat_map (of_route hops) R) (one (hop_at hops e.1) (hop_proper hops e.1 a)) (routes_proper hops R a p.1)
  where
    one : (o : Option Address) → IsHop o → AllByRecursion IsRow (route_row_by e.0 o)
    one None h = tt
    one (Some x) h = ((p.0, h), tt)

least_proper : (hops : List Address) (T : Entries) → AllByRecursion IsAddress hops → AllByRecursion IsPrefix (keys_of T) → AllByRecursion IsRow (map (of_least hops) T)
least_proper hops [] a p = tt
least_proper hops (e ∷ T) a p = ((p.0, hop_proper hops e.1 a), least_proper hops T a p.1)

cert_proper : (hops : List Address) (C : List CertRow) → AllByRecursion IsAddress hops → AllByRecursion IsCertRow C → AllByRecursion IsRow (map (of_cert hops) C)
cert_proper hops [] a c = tt
cert_proper hops (leaf_row p h ∷ C) a c = ((c.0, hop_proper hops h a), cert_proper hops C a c.1)
cert_proper hops (join_row p k ∷ C) a c = (c.0, cert_proper hops C a c.1)
cert_proper hops (bound_row f n ∷ C) a c = (c.0, cert_proper hops C a c.1)

pub printed_proper : (hops : List Address) (R T : Entries) (C : List CertRow) (between after : List PrintedRow) → AllByRecursion IsAddress hops → AllByRecursion IsPrefix (keys_of R) → AllByRecursion IsPrefix (keys_of T)
    → AllByRecursion IsCertRow C → AllByRecursion IsRow between → AllByRecursion IsRow after → AllByRecursion IsRow (rows_with hops R T C between after)
printed_proper hops R T C between after a r t c b l =
    both_proper (flat_map (of_route hops) R) _ (routes_proper hops R a r)
    (both_proper between _ b (both_proper (map (of_least hops) T) _ (least_proper hops T a t) (both_proper (map (of_cert hops) C) after (cert_proper hops C a c) l)))
