-- The numbers of hops stay as rows are read.
use Rattle.std.proofs.Common.{◌≡◌, ℕ, zero, suc, Bool, true, false, cond, List, [], ◌∷◌, ◌++◌, Option, Some, None, refl, sym, ap, ◌∙◌, append-nil}
use Rattle.std.specs.Prelude.{unwrap_or, flat_map, fold, option_to_list, slice_get}
use Rattle.std.specs.List.{AllByRecursion, list_any}
use Rattle.std.proofs.lemmas.Grind.{flat_map-append}
use Rattle.std.proofs.lemmas.List.Sums.{fold-append}
use Rattle.table_model.specs.Address.{Address, Prefix, same_address}
use Rattle.fib_addr.specs.Hops.{hop_at, with_hop}
use Rattle.fib_addr.proofs.HopLists.{HasNumber, brought_number, folded_stays, number_holds}
use Rattle.cert_model.specs.Rows.{leaf_row}
use Rattle.printed_text.specs.Rows.{PrintedRow, route_row, least_row, cert_leaf_row}
use Rattle.printed_text.specs.Texts.{numbered_hop, hops_in}
use Rattle.printed_text.specs.declared.kind.Kind.{Kind}
use Rattle.printed_text.specs.Used.{entry_said, hop_number, hop_said, kind_entry, kind_hop, route_entry, least_entry, cert_part, said_by}
use Rattle.printed_text.specs.Kinds.{kind_hops}

still_held : (hops more : List Address) (a : Address) → HasNumber hops a → HasNumber (fold with_hop hops more) a
still_held hops more a h = (h.0, folded_stays hops more a h.0 h.1)

-- all hops that are brought have numbers
all_held : (hops used : List Address) → AllByRecursion (HasNumber (fold with_hop hops used)) used
all_held hops [] = tt
all_held hops (a ∷ used) = (still_held (with_hop hops a) used a (brought_number hops a), all_held (with_hop hops a) used)

-- the number of a hop that has one stays
same_number : (hops more : List Address) (a : Address) → HasNumber hops a → hop_number (fold with_hop hops more) (Some a) ≡ hop_number hops (Some a)
same_number hops more a h = ap (λ o. unwrap_or o 0) (folded_stays hops more a h.0 h.1 ∙ sym h.1)

same_hop : (hops more : List Address) (hop : Option Address) → AllByRecursion (HasNumber hops) (option_to_list hop) → hop_number (fold with_hop hops more) hop ≡ hop_number hops hop
same_hop hops more None h = refl
same_hop hops more (Some a) h = same_number hops more a h.0

-- ---- what rows say, as more hops get numbers

route_stays : (hops more : List Address) (row : PrintedRow) → AllByRecursion (HasNumber hops) (numbered_hop row) → route_entry (fold with_hop hops more) row ≡ route_entry hops row
route_stays hops more (route_row p a) h = ap (λ n. (p, n) ∷ []) (same_number hops more a h.0)
route_stays hops more row h = refl

least_stays : (hops more : List Address) (row : PrintedRow) → AllByRecursion (HasNumber hops) (numbered_hop row) → least_entry (fold with_hop hops more) row ≡ least_entry hops row
least_stays hops more (least_row p hop) h = ap (λ n. (p, n) ∷ []) (same_hop hops more hop h)
least_stays hops more row h = refl

cert_stays : (hops more : List Address) (row : PrintedRow) → AllByRecursion (HasNumber hops) (numbered_hop row) → cert_part (fold with_hop hops more) row ≡ cert_part hops row
cert_stays hops more (cert_leaf_row p hop) h = ap (λ n. leaf_row p n ∷ []) (same_hop hops more hop h)
cert_stays hops more row h = refl

kind_stays_said : (kind : Kind) (hops more : List Address) (row : PrintedRow) → AllByRecursion (HasNumber hops) (kind_hop kind row) → kind_entry kind (fold with_hop hops more) row ≡ kind_entry kind hops row
kind_stays_said kind hops more row h = by_said (said_by kind row) h
  where
    by_said : (said : Option (Prefix × Option Address)) → AllByRecursion (HasNumber hops) (hop_said said) → entry_said (fold with_hop hops more) said ≡ entry_said hops said
    by_said None h = refl
    by_said (Some said) h = ap (λ n. (said.0, n) ∷ []) (same_hop hops more said.1 h)

pub parts : {A : Type 0} (P : A → Type 0) (xs ys : List A) → AllByRecursion P (xs ++ ys) → AllByRecursion P xs × AllByRecursion P ys
parts P [] ys h = (tt, h)
parts P (x ∷ xs) ys h = let r = parts P xs ys h.1 in ((h.0, r.0), r.1)

all_stay : {A : Type 0} (brings : PrintedRow → List Address) (said : List Address → PrintedRow → List A)
    → ((hops more : List Address) (row : PrintedRow) → AllByRecursion (HasNumber hops) (brings row) → said (fold with_hop hops more) row ≡ said hops row)
    → (hops more : List Address) (rows : List PrintedRow) → AllByRecursion (HasNumber hops) (flat_map brings rows)
    → flat_map (said (fold with_hop hops more)) rows ≡ flat_map (said hops) rows
all_stay brings said one hops more [] h = refl
all_stay brings said one hops more (row ∷ rows) h =
    let p = parts (HasNumber hops) (brings row) (flat_map brings rows) h in
    ap (λ xs. xs ++ flat_map (said (fold with_hop hops more)) rows) (one hops more row p.0) ∙ ap (λ xs. said hops row ++ xs) (all_stay brings said one hops more rows p.1)

-- ---- one more row

-- its hop is the last
pub brought_more : (brings : PrintedRow → List Address) (hops : List Address) (rows : List PrintedRow) (row : PrintedRow)
    → fold with_hop hops (flat_map brings (rows ++ row ∷ [])) ≡ fold with_hop (fold with_hop hops (flat_map brings rows)) (brings row)
brought_more brings hops rows row =
    ap (fold with_hop hops) (flat_map-append brings rows (row ∷ []))
    ∙ (fold-append with_hop hops (flat_map brings rows) (flat_map brings (row ∷ [])) ∙ ap (fold with_hop (fold with_hop hops (flat_map brings rows))) (append-nil (brings row)))

pub hops_more : (rows : List PrintedRow) (row : PrintedRow) → hops_in (rows ++ row ∷ []) ≡ fold with_hop (hops_in rows) (numbered_hop row)
hops_more rows row = brought_more numbered_hop [] rows row

said_more : {A : Type 0} (brings : PrintedRow → List Address) (said : List Address → PrintedRow → List A)
    → ((hops more : List Address) (row : PrintedRow) → AllByRecursion (HasNumber hops) (brings row) → said (fold with_hop hops more) row ≡ said hops row)
    → (hops : List Address) (rows : List PrintedRow) (row : PrintedRow)
    → flat_map (said (fold with_hop hops (flat_map brings (rows ++ row ∷ [])))) (rows ++ row ∷ [])
    ≡ flat_map (said (fold with_hop hops (flat_map brings rows))) rows ++ said (fold with_hop (fold with_hop hops (flat_map brings rows)) (brings row)) row
said_more brings said one hops rows row =
    let G = fold with_hop hops (flat_map brings rows) in
    let H = fold with_hop G (brings row) in
    ap (λ hops. flat_map (said hops) (rows ++ row ∷ [])) (brought_more brings hops rows row)
    ∙ (flat_map-append (said H) rows (row ∷ [])
    ∙ (ap (λ xs. xs ++ flat_map (said H) (row ∷ [])) (all_stay brings said one G (brings row) rows (all_held hops (flat_map brings rows)))
    ∙ ap (λ xs. flat_map (said G) rows ++ xs) (append-nil (said H row))))

pub routes_more : (rows : List PrintedRow) (row : PrintedRow) → flat_map (route_entry (hops_in (rows ++ row ∷ []))) (rows ++ row ∷ []) ≡ flat_map (route_entry (hops_in rows)) rows ++ route_entry (fold with_hop (hops_in rows) (numbered_hop row)) row
routes_more rows row = said_more numbered_hop route_entry route_stays [] rows row

pub least_more : (rows : List PrintedRow) (row : PrintedRow) → flat_map (least_entry (hops_in (rows ++ row ∷ []))) (rows ++ row ∷ []) ≡ flat_map (least_entry (hops_in rows)) rows ++ least_entry (fold with_hop (hops_in rows) (numbered_hop row)) row
least_more rows row = said_more numbered_hop least_entry least_stays [] rows row

pub cert_more : (rows : List PrintedRow) (row : PrintedRow) → flat_map (cert_part (hops_in (rows ++ row ∷ []))) (rows ++ row ∷ []) ≡ flat_map (cert_part (hops_in rows)) rows ++ cert_part (fold with_hop (hops_in rows) (numbered_hop row)) row
cert_more rows row = said_more numbered_hop cert_part cert_stays [] rows row

-- the same of the rows of one kind

pub kind_hops_more : (kind : Kind) (before : List Address) (rows : List PrintedRow) (row : PrintedRow) → kind_hops kind before (rows ++ row ∷ []) ≡ fold with_hop (kind_hops kind before rows) (kind_hop kind row)
kind_hops_more kind before rows row = brought_more (kind_hop kind) before rows row

pub kind_entries_more : (kind : Kind) (before : List Address) (rows : List PrintedRow) (row : PrintedRow)
    → flat_map (kind_entry kind (kind_hops kind before (rows ++ row ∷ []))) (rows ++ row ∷ []) ≡ flat_map (kind_entry kind (kind_hops kind before rows)) rows ++ kind_entry kind (fold with_hop (kind_hops kind before rows) (kind_hop kind row)) row
kind_entries_more kind before rows row = said_more (kind_hop kind) (kind_entry kind) (kind_stays_said kind) before rows row

-- ---- a number is that of its hop

number_back : (hops : List Address) (a : Address) → HasNumber hops a → hop_at hops (hop_number hops (Some a)) ≡ Some a
number_back hops a h = ap (λ o. hop_at hops (unwrap_or o 0)) h.1 ∙ number_holds hops a h.0 h.1

each : {P Q : Address → Type 0} → ((a : Address) → P a → Q a) → (xs : List Address) → AllByRecursion P xs → AllByRecursion Q xs
each f [] h = tt
each f (x ∷ xs) h = (f x h.0, each f xs h.1)

pub numbers_back : (rows : List PrintedRow) → AllByRecursion (λ a. hop_at (hops_in rows) (hop_number (hops_in rows) (Some a)) ≡ Some a) (flat_map numbered_hop rows)
numbers_back rows = each (number_back (hops_in rows)) (flat_map numbered_hop rows) (all_held [] (flat_map numbered_hop rows))

pub kind_numbers : (kind : Kind) (before : List Address) (rows : List PrintedRow) → AllByRecursion (λ a. hop_at (kind_hops kind before rows) (hop_number (kind_hops kind before rows) (Some a)) ≡ Some a) (flat_map (kind_hop kind) rows)
kind_numbers kind before rows = each (number_back (kind_hops kind before rows)) (flat_map (kind_hop kind) rows) (all_held before (flat_map (kind_hop kind) rows))

-- ---- the hop of a number stays

place_stays : (hops : List Address) (b a : Address) (n : ℕ) → slice_get hops n ≡ Some a → slice_get (hops ++ b ∷ []) n ≡ Some a
place_stays [] b a n e = absurd cc
place_stays (c ∷ hops) b a zero e = e
place_stays (c ∷ hops) b a (suc n) e = place_stays hops b a n e

hop_stays : (hops : List Address) (b a : Address) (n : ℕ) → hop_at hops n ≡ Some a → hop_at (with_hop hops b) n ≡ Some a
hop_stays hops b a zero e = absurd cc
hop_stays hops b a (suc n) e = by_test (list_any (same_address b) hops)
  where
    by_test : (t : Bool) → hop_at (cond t hops (hops ++ b ∷ [])) (suc n) ≡ Some a
    by_test true = e
    by_test false = place_stays hops b a n e

hops_stay : (hops more : List Address) (a : Address) (n : ℕ) → hop_at hops n ≡ Some a → hop_at (fold with_hop hops more) n ≡ Some a
hops_stay hops [] a n e = e
hops_stay hops (b ∷ more) a n e = hops_stay (with_hop hops b) more a n (hop_stays hops b a n e)

pub kind_stays : (kind : Kind) (before : List Address) (rows : List PrintedRow) (n : ℕ) (a : Address) → hop_at before n ≡ Some a → hop_at (kind_hops kind before rows) n ≡ Some a
kind_stays kind before rows n a e = hops_stay before (flat_map (kind_hop kind) rows) a n e
