-- The numbers of hops stay as rows are read.
use Rattle.std.proofs.Common.{◌≡◌, List, [], ◌∷◌, ◌++◌, Option, Some, None, refl, ap, sym, ◌∙◌, append-nil}
use Rattle.std.specs.Prelude.{unwrap_or, flat_map, fold, option_to_list}
use Rattle.std.specs.List.{AllByRecursion}
use Rattle.std.proofs.lemmas.Grind.{flat_map-append}
use Rattle.table_model.specs.Address.{Address}
use Rattle.table_model.specs.Changes.{Change, Add, Replace}
use Rattle.fib_addr.specs.Hops.{with_hop}
use Rattle.fib_addr.proofs.HopLists.{HasNumber, brought_number, folded_stays}
use Rattle.cert_model.specs.Rows.{CertRow, leaf_row}
use Rattle.printed_text.specs.Rows.{PrintedRow, add_row, replace_row, cert_leaf_row}
use Rattle.printed_text.specs.Used.{hop_number, cert_part}
use Rattle.printed_text.proofs.Hops.{brought_more, parts}
use Rattle.router_moves.specs.Said.{SaidMoves, change_part, moves_hop, moves_hops, said_moves}
use Rattle.router_moves.specs.Steps.{hops_after_move, said_after}

-- all hops that are brought have numbers
all_held : (hops used : List Address) → AllByRecursion (HasNumber (fold with_hop hops used)) used
all_held hops [] = tt
all_held hops (a ∷ used) = let b = brought_number hops a in ((b.0, folded_stays (with_hop hops a) used a b.0 b.1), all_held (with_hop hops a) used)

-- and keep them
same_hop : (hops more : List Address) (hop : Option Address) → AllByRecursion (HasNumber hops) (option_to_list hop) → hop_number (fold with_hop hops more) hop ≡ hop_number hops hop
same_hop hops more None h = refl
same_hop hops more (Some a) h = ap (λ o. unwrap_or o 0) (folded_stays hops more a h.0.0 h.0.1 ∙ sym h.0.1)

-- What rows say stays as more hops get numbers, if it does of each row whose hops have numbers.
module _ {A : Type 0} (said : List Address → PrintedRow → List A) (one : (hops more : List Address) (row : PrintedRow) → AllByRecursion (HasNumber hops) (moves_hop row) → said (fold with_hop hops more) row ≡ said hops row) where
  all_stay : (hops more : List Address) (rows : List PrintedRow) → AllByRecursion (HasNumber hops) (flat_map moves_hop rows) → flat_map (said (fold with_hop hops more)) rows ≡ flat_map (said hops) rows
  all_stay hops more [] h = refl
  all_stay hops more (row ∷ rows) h =
      let p = parts (HasNumber hops) (moves_hop row) (flat_map moves_hop rows) h in
      ap (λ xs. xs ++ flat_map (said (fold with_hop hops more)) rows) (one hops more row p.0) ∙ ap (λ xs. said hops row ++ xs) (all_stay hops more rows p.1)

  said_more : (before : List Address) (rows : List PrintedRow) (row : PrintedRow)
      → flat_map (said (moves_hops before (rows ++ row ∷ []))) (rows ++ row ∷ []) ≡ flat_map (said (moves_hops before rows)) rows ++ said (hops_after_move (moves_hops before rows) row) row
  said_more before rows row =
      let G = moves_hops before rows in
      let H = hops_after_move G row in
      ap (λ hops. flat_map (said hops) (rows ++ row ∷ [])) (brought_more moves_hop before rows row)
      ∙ (flat_map-append (said H) rows (row ∷ [])
      ∙ (ap (λ xs. xs ++ flat_map (said H) (row ∷ [])) (all_stay G (moves_hop row) rows (all_held before (flat_map moves_hop rows))) ∙ ap (λ xs. flat_map (said G) rows ++ xs) (append-nil (said H row))))

change_stays : (hops more : List Address) (row : PrintedRow) → AllByRecursion (HasNumber hops) (moves_hop row) → change_part (fold with_hop hops more) row ≡ change_part hops row
change_stays hops more (add_row n p hop) h = ap (λ k. Add p k ∷ []) (same_hop hops more hop h)
change_stays hops more (replace_row n p hop) h = ap (λ k. Replace p k ∷ []) (same_hop hops more hop h)
change_stays hops more row h = refl

cert_stays : (hops more : List Address) (row : PrintedRow) → AllByRecursion (HasNumber hops) (moves_hop row) → cert_part (fold with_hop hops more) row ≡ cert_part hops row
cert_stays hops more (cert_leaf_row p hop) h = ap (λ k. leaf_row p k ∷ []) (same_hop hops more hop h)
cert_stays hops more row h = refl

-- one more row
pub moves_more : (before : List Address) (rows : List PrintedRow) (row : PrintedRow) → said_moves before (rows ++ row ∷ []) ≡ said_after (said_moves before rows) row
moves_more before rows row =
    let s = said_moves before (rows ++ row ∷ []) in
    let t = said_after (said_moves before rows) row in
    ap (λ (cs : List Change). let m : SaidMoves = record { changes = cs; rows = s.rows; hops = s.hops } in m) (said_more change_part change_stays before rows row)
    ∙ (ap (λ (c : List CertRow). let m : SaidMoves = record { changes = t.changes; rows = c; hops = s.hops } in m) (said_more cert_part cert_stays before rows row)
    ∙ ap (λ (hs : List Address). let m : SaidMoves = record { changes = t.changes; rows = t.rows; hops = hs } in m) (brought_more moves_hop before rows row))
