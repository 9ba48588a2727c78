-- What is found of a family, and of both.
use Rattle.std.proofs.Common.{◌≡◌, ℕ, take, drop, [], ◌∷◌, ◌++◌, List, Bool, true, map, length, sym, ap, subst, ◌∙◌}
use Rattle.std.proofs.Math.Seq.{take-append_seam}
use Rattle.std.specs.List.{AllByRecursion}
use Rattle.std.specs.Map.{keys_of}
use Rattle.table_model.specs.Address.{IsPrefix}
use Rattle.table_model.specs.declared.family.Family.{Family}
use Rattle.table_model.specs.declared.family.Family.TheVariants.{V4, V6}
use Rattle.table_model.specs.Entries.{Entries, in_order}
use Rattle.table_model.specs.Changes.{Change}
use Rattle.kept_model.specs.Between.{place_of}
use Rattle.kept_model.specs.Steady.{AnswerSteadily}
use Rattle.cert_model.specs.Rows.{CertRow}
use Rattle.fib_addr.specs.Views.{entry_as}
use Rattle.fib_addr.specs.declared.entry.Entry.{Entry}
use Rattle.fib_delta.specs.Views.{change_as}
use Rattle.fib_delta.specs.declared.change.Change as code_change
use Rattle.fib_delta.specs.declared.change.Change.TheVariants as code
use Rattle.fib_delta.proofs.Held.{is_prefix}
use Rattle.fib_moves.specs.declared.answer.Near.{Near}
use Rattle.cert_model.specs.Views.{row_as}
use Rattle.moves_model.specs.Shortest.{AreProvedShortest, AreShortest}
use Rattle.moves_model.specs.Both.{AreShortestInBoth, both_changes, family_changes, family_table, proving_rows, told_in}
use Rattle.moves_model.proofs.Told.{own_proved, own_shortest, shortest_both, steadily_both, told_both}
use Rattle.router_moves.specs.Due.{RouterTables, ShortestMoves, moves_for}
use Rattle.router_moves.specs.Views.{AreShortestFor, IsShortest, shortest_as}
use Rattle.router_moves.specs.declared.answer.RouterMoves.{RouterMoves}

pub prefixes_fit : (E : List Entry) → AllByRecursion IsPrefix (keys_of (map entry_as E))
prefixes_fit [] = tt
prefixes_fit (e ∷ E) = (is_prefix e.prefix, prefixes_fit E)

pub places_fit : (cs : List code_change.Change) → AllByRecursion (λ c. IsPrefix (place_of c)) (map change_as cs)
places_fit [] = tt
places_fit (code.Add p h ∷ cs) = (is_prefix p, places_fit cs)
places_fit (code.Replace p h ∷ cs) = (is_prefix p, places_fit cs)
places_fit (code.Remove p ∷ cs) = (is_prefix p, places_fit cs)

-- a list whose items were all written anew
pub all_changed : {A : Type 0} (n : ℕ) (now before : List A) → length now ≡ n → take n (now ++ drop (length now) before) ≡ now
all_changed n now before e = ap (λ k. take k (now ++ drop (length now) before)) (sym e) ∙ take-append_seam now (drop (length now) before)

-- the changes of a family are those that are due, in either order
pub is_shortest : (f : Family) (steady : Bool) (R T : List Entry) (n : Near) → map change_as n.changes.items ≡ told_in steady (family_changes f (map entry_as R) (map entry_as T))
    → map row_as n.rows.items ≡ proving_rows f (map entry_as R) (map entry_as T) → length n.changes.items ≡ n.bound → IsShortest f (map entry_as R) (map entry_as T) n
is_shortest f steady routes table n changes rows count =
    let R = map entry_as routes in
    let T = map entry_as table in
    record {
      shortest = subst (AreShortest f (family_table f R) (family_table f T)) (sym changes) (own_shortest f R T (prefixes_fit table) steady (prefixes_fit routes));
      proved =
          subst (λ (cs : List Change). AreProvedShortest f (family_table f R) (family_table f T) cs (map row_as n.rows.items)) (sym changes)
          (subst (AreProvedShortest f (family_table f R) (family_table f T) (told_in steady (family_changes f R T))) (sym rows) (own_proved f R T (prefixes_fit table) steady (prefixes_fit routes)));
      count = count;
    }

module _ (steady : Bool) (table routes : List Entry) (m : RouterMoves) (low : map change_as m.v4.changes.items ≡ told_in steady (family_changes V4 (map entry_as routes) (map entry_as table))) (high : map change_as m.v6.changes.items ≡ told_in steady (family_changes V6 (map entry_as routes) (map entry_as table))) where
  abbrev R : Entries
  R = map entry_as routes

  abbrev T : Entries
  T = map entry_as table

  all : (shortest_as m).changes ≡ told_in steady (both_changes R T)
  all =
      ap (λ cs. cs ++ map change_as m.v6.changes.items) low
      ∙ (ap (λ cs. told_in steady (family_changes V4 R T) ++ cs) high ∙ sym (told_both R T (prefixes_fit routes) (prefixes_fit table) steady))

  abbrev pub asked_of : RouterTables
  asked_of = record { table = T; routes = R; hops = m.hops.list }

  pub are_moves : map row_as m.v4.rows.items ≡ proving_rows V4 R T → map row_as m.v6.rows.items ≡ proving_rows V6 R T → shortest_as m ≡ moves_for steady asked_of
  are_moves low-rows high-rows =
      ap (λ (cs : List Change). let s : ShortestMoves = record { changes = cs; rows = (shortest_as m).rows; hops = m.hops.list } in s) all
      ∙ (ap (λ (rows : List CertRow). let s : ShortestMoves = record { changes = told_in steady (both_changes R T); rows = rows ++ map row_as m.v6.rows.items; hops = m.hops.list } in s) low-rows
      ∙ ap (λ (rows : List CertRow). let s : ShortestMoves = record { changes = told_in steady (both_changes R T); rows = proving_rows V4 R T ++ rows; hops = m.hops.list } in s) high-rows)

  pub are_shortest_for : IsShortest V4 R T m.v4 → IsShortest V6 R T m.v6 → AreShortestFor steady asked_of m
  are_shortest_for v4 v6 = record {
    both = subst (AreShortestInBoth (in_order R) (in_order T)) (sym all) (shortest_both R T (prefixes_fit routes) (prefixes_fit table) steady);
    steadily = λ is.
        let told : (shortest_as m).changes ≡ told_in true (both_changes R T) = all ∙ ap (λ (b : Bool). told_in b (both_changes R T)) is in
        subst (λ (cs : List Change). AnswerSteadily cs (in_order T) (in_order T) (in_order R)) (sym told) (steadily_both R T (prefixes_fit routes) (prefixes_fit table));
    v4 = v4;
    v6 = v6;
  }
