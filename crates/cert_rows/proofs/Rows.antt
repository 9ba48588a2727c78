-- Rows that are put behind rows.
use Rattle.std.proofs.Common.{◌≡◌, ◌≤◌, suc, length, arith, List, [], ◌∷◌, ◌++◌, Option, Some, None, map, ap, refl, sym, subst, ◌∙◌, append-nil}
use Rattle.std.specs.List.{AllByRecursion}
use Rattle.fib_addr.specs.Views.{prefix_as}
use Rattle.fib_addr.specs.declared.prefix.Prefix as code
use Rattle.cert_model.specs.Verdict.{RowFits}
use Rattle.cert_model.specs.Views.{row_as}
use Rattle.cert_model.specs.PackedViews.{packed_as}
use Rattle.cert_model.specs.declared.row.Row.{Row}
use Rattle.cert_model.specs.declared.packed.PackedRow.{PackedRow}
use Rattle.table_model.specs.Address.{Prefix}
use Rattle.cert_model.specs.Rows.{CertRow}
use Rattle.cert_rows.specs.Follow.{row_prefix}
use Rattle.cert_rows.specs.Near.{near_row}
use Rattle.cert_rows.specs.Held.{RowsEndAt, SaidBehind, first_prefix, row_and, rows_held, taken_row}
use Rattle.cert_rows.specs.declared.near.Near.{Near}
use Rattle.cert_rows.specs.declared.near.NearKind.TheVariants as kind
use Rattle.cert_rows.proofs.Above.{row_fits}

-- one row more was put behind these: the last has its prefix now, and it stands at the end
abbrev PutBehind : List Near → Prefix → List CertRow → Near → List CertRow → CertRow → Type 0
PutBehind near p whole s more row =
    RowsEndAt (row_prefix row) (near ++ s ∷ []) p (whole ++ more) × (rows_held (near ++ s ∷ []) p (whole ++ more) ≡ rows_held near p whole ++ row ∷ [])

put_first : (p last : Prefix) (whole : List CertRow) (s : Near) (more : List CertRow) (row : CertRow) → taken_row (near_row s last) more ≡ Some (row, []) → whole ≡ [] → p ≡ last → PutBehind [] p whole s more row
put_first p last whole s more row one none at =
    let is : taken_row (near_row s p) (whole ++ more) ≡ Some (row, []) = ap (λ xs. taken_row (near_row s p) (xs ++ more)) none ∙ (ap (λ x. taken_row (near_row s x) more) at ∙ one) in (
      subst (SaidBehind (RowsEndAt (row_prefix row) [])) (sym is) (refl, refl),
      ap (row_and (rows_held [])) is,
    )

pub put_behind : (last : Prefix) (s : Near) (more : List CertRow) (row : CertRow) → taken_row (near_row s last) more ≡ Some (row, []) → (near : List Near) (p : Prefix) (whole : List CertRow) → RowsEndAt last near p whole → PutBehind near p whole s more row
put_behind last s more row one [] p whole ends = put_first p last whole s more row one ends.0 ends.1
put_behind last s more row one (n ∷ near) p whole ends = by_row (near_row n p) whole ends (put_behind last s more row one near)
  where
    by_row : (o : Option CertRow) (whole : List CertRow) → SaidBehind (RowsEndAt last near) (taken_row o whole) → ((q : Prefix) (rest : List CertRow) → RowsEndAt last near q rest → PutBehind near q rest s more row)
        → SaidBehind (RowsEndAt (row_prefix row) (near ++ s ∷ [])) (taken_row o (whole ++ more)) × (row_and (rows_held (near ++ s ∷ [])) (taken_row o (whole ++ more)) ≡ row_and (rows_held near) (taken_row o whole) ++ row ∷ [])
    by_row (Some r) rest e ih = let put = ih (row_prefix r) rest e in (put.0, ap (λ rows. r ∷ rows) put.1)
    by_row None [] e ih = absurd e
    by_row None (w ∷ rest) e ih = let put = ih (row_prefix w) rest e in (put.0, ap (λ rows. w ∷ rows) put.1)

-- there are no more rows than these say
pub rows_few : (near : List Near) (p : Prefix) (whole : List CertRow) → length (rows_held near p whole) ≤ length near
rows_few [] p whole = omega arith
rows_few (n ∷ near) p whole = by_row (taken_row (near_row n p) whole) (rows_few near)
  where
    by_row : (o : Option (CertRow × List CertRow)) → ((q : Prefix) (rest : List CertRow) → length (rows_held near q rest) ≤ length near) → length (row_and (rows_held near) o) ≤ suc (length near)
    by_row None ih = omega arith
    by_row (Some next) ih = omega (arith, ih (row_prefix next.0) next.1)

-- ---- rows that are held

all_more : (xs ys : List CertRow) → AllByRecursion RowFits xs → AllByRecursion RowFits ys → AllByRecursion RowFits (xs ++ ys)
all_more [] ys a b = b
all_more (x ∷ xs) ys a b = (a.0, all_more xs ys a.1 b)

packed_more : (xs ys : List PackedRow) → map packed_as (xs ++ ys) ≡ map packed_as xs ++ map packed_as ys
packed_more [] ys = refl
packed_more (x ∷ xs) ys = ap (λ rows. packed_as x ∷ rows) (packed_more xs ys)

-- what is true of rows that are held, of which the last has this prefix
abbrev pub AreHeld : List Near → List PackedRow → code.Prefix → Type 0
AreHeld near whole last = RowsEndAt (prefix_as last) near first_prefix (map packed_as whole) × AllByRecursion RowFits (rows_held near first_prefix (map packed_as whole))

-- the row was put behind them
abbrev pub Pushed : List Near → List PackedRow → List Near → List PackedRow → code.Prefix → Row → Type 0
Pushed near whole near' whole' last row =
    AreHeld near' whole' last × (rows_held near' first_prefix (map packed_as whole') ≡ rows_held near first_prefix (map packed_as whole) ++ row_as row ∷ [])

pushed : (near : List Near) (whole : List PackedRow) (last last' : code.Prefix) (row : Row) (s : Near) (more : List PackedRow) (near' : List Near) (whole' : List PackedRow) → AreHeld near whole last
    → taken_row (near_row s (prefix_as last)) (map packed_as more) ≡ Some (row_as row, []) → prefix_as last' ≡ row_prefix (row_as row) → near' ≡ near ++ s ∷ [] → whole' ≡ whole ++ more → Pushed near whole near' whole' last' row
pushed near whole last last' row s more near' whole' held one at put rest =
    let behind = put_behind (prefix_as last) s (map packed_as more) (row_as row) one near first_prefix (map packed_as whole) held.0 in
    let all : map packed_as whole' ≡ map packed_as whole ++ map packed_as more = ap (map packed_as) rest ∙ packed_more whole more in
    let ends : RowsEndAt (row_prefix (row_as row)) near' first_prefix (map packed_as whole') =
    subst (λ (ns : List Near). RowsEndAt (row_prefix (row_as row)) ns first_prefix (map packed_as whole')) (sym put) (subst (RowsEndAt (row_prefix (row_as row)) (near ++ s ∷ []) first_prefix) (sym all) behind.0)
    in
    let rows : rows_held near' first_prefix (map packed_as whole') ≡ rows_held near first_prefix (map packed_as whole) ++ row_as row ∷ [] =
    ap (λ (ns : List Near). rows_held ns first_prefix (map packed_as whole')) put ∙ (ap (rows_held (near ++ s ∷ []) first_prefix) all ∙ behind.1)
    in (
      (
        subst (λ p. RowsEndAt p near' first_prefix (map packed_as whole')) (sym at) ends,
        subst (AllByRecursion RowFits) (sym rows) (all_more (rows_held near first_prefix (map packed_as whole)) (row_as row ∷ []) held.1 (row_fits row, tt)),
      ),
      rows,
    )

-- a row that follows from the row before
pub pushed_near : (near : List Near) (whole : List PackedRow) (last last' : code.Prefix) (row : Row) (s : Near) (near' : List Near) (whole' : List PackedRow) → AreHeld near whole last → near_row s (prefix_as last) ≡ Some (row_as row)
    → prefix_as last' ≡ row_prefix (row_as row) → near' ≡ near ++ s ∷ [] → whole' ≡ whole → Pushed near whole near' whole' last' row
pushed_near near whole last last' row s near' whole' held one at put rest =
    pushed near whole last last' row s [] near' whole' held (ap (λ o. taken_row o []) one) at put (rest ∙ sym (append-nil whole))

-- what stands in the list of a row that is kept whole
abbrev pub kept_whole : Near
kept_whole = record { number = 0; len = 0; kind = kind.Whole }

-- a row that is kept whole
pub pushed_whole : (near reserved : List Near) (whole : List PackedRow) (last last' : code.Prefix) (row : Row) (packed : PackedRow) (near' : List Near) (whole' : List PackedRow) → AreHeld near whole last → packed_as packed ≡ row_as row
    → prefix_as last' ≡ row_prefix (row_as row) → reserved ≡ near → near' ≡ reserved ++ kept_whole ∷ [] → whole' ≡ whole ++ packed ∷ [] → Pushed near whole near' whole' last' row
pushed_whole near reserved whole last last' row packed near' whole' held same at room put rest =
    pushed near whole last last' row kept_whole (packed ∷ []) near' whole' held (ap (λ (r : CertRow). Some (r, [])) same) at (put ∙ ap (λ ns. ns ++ kept_whole ∷ []) room) rest
