-- What a clause sees of this crate's values.
use Rattle.std.specs.Prelude.{◌≡◌, ◌++◌, map, Bool, true, Result, Ok, length}
use Rattle.table_model.specs.declared.family.Family.{Family}
use Rattle.table_model.specs.declared.family.Family.TheVariants.{V4, V6}
use Rattle.table_model.specs.Entries.{Entries, in_order}
use Rattle.fib_delta.specs.Views.{change_as}
use Rattle.kept_model.specs.Steady.{AnswerSteadily}
use Rattle.cert_model.specs.Views.{row_as}
use Rattle.moves_model.specs.Shortest.{AreProvedShortest, AreShortest}
use Rattle.fib_moves.specs.declared.answer.Near.{Near}
use Rattle.fib_same.specs.Due.{TextStop}
use Rattle.fib_same.specs.Gives.{MatchesIfTold}
use Rattle.moves_model.specs.Both.{AreShortestInBoth, family_table}
use Rattle.router_moves.specs.Due.{RouterTables, ShortestMoves, moves_for}
use Rattle.router_moves.specs.declared.answer.RouterMoves.{RouterMoves}

abbrev pub shortest_as : RouterMoves → ShortestMoves
shortest_as m = record {
  changes = map change_as m.v4.changes.items ++ map change_as m.v6.changes.items;
  rows = map row_as m.v4.rows.items ++ map row_as m.v6.rows.items;
  hops = m.hops.list;
}

-- Of a family with the routes R and the table T: the changes make of the table one that answers as the routes, and no fewer do; the rows
-- prove it; and there are as many as is reported.
pub record IsShortest (f : Family) (R T : Entries) (n : Near) : Type 0 where
  pub shortest : AreShortest f (family_table f R) (family_table f T) (map change_as n.changes.items)
  pub proved : AreProvedShortest f (family_table f R) (family_table f T) (map change_as n.changes.items) (map row_as n.rows.items)
  pub count : length n.changes.items ≡ n.bound

-- For some table and routes: the changes as they are written are shortest over both families, and each family's rows prove that its own
-- are. In steady order no packet goes astray: while a router that has the table makes them one by one, each address is answered as by the
-- table or as by the routes, and once it is answered as by the routes it stays so.
pub record AreShortestFor (steady : Bool) (t : RouterTables) (m : RouterMoves) : Type 0 where
  pub both : AreShortestInBoth (in_order t.routes) (in_order t.table) (shortest_as m).changes
  pub steadily : steady ≡ true → AnswerSteadily (shortest_as m).changes (in_order t.table) (in_order t.table) (in_order t.routes)
  pub v4 : IsShortest V4 t.routes t.table m.v4
  pub v6 : IsShortest V6 t.routes t.table m.v6

-- Whatever the texts hold: what is given is what is due of some table and routes, which are those of the texts if these are known, and is shortest for them.
abbrev pub EndsShortest : Bool → Result RouterTables TextStop → RouterMoves → Type 0
EndsShortest steady due m = (t : RouterTables) × MatchesIfTold due (Ok t) × (shortest_as m ≡ moves_for steady t) × AreShortestFor steady t m
