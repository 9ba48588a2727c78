-- What a clause sees of this crate's values, and what was found of texts.
use Rattle.std.specs.Prelude.{◌≡◌, ℕ, ◌+◌, ◌<◌, ◌^◌, List, Option, Some, option_map, Result, Ok, ◌⊎◌, IfSome}
use Rattle.std.specs.List.{slice_get}
use Rattle.table_model.specs.Entries.{Entries, match_in}
use Rattle.table_model.specs.Address.{Address}
use Rattle.fib_addr.specs.Hops.{Hops, hop_at}
use Rattle.fib_addr.specs.Views.{addr_as}
use Rattle.printed_text.specs.declared.kind.Kind.{Kind}
use Rattle.fib_same.specs.Texts.{Difference as ModelDifference, least_difference}
use Rattle.cert_check.specs.Runs.{TellsBoth}
use Rattle.cert_check.specs.declared.alike.Differ.{Differ}
use Rattle.cert_check.specs.declared.table_runs.TableRuns.{TableRuns}
use Rattle.fib_same.specs.Due.{TellsDifference, Compared, TextStop, Tables, TextDifference, texts_at}
use Rattle.fib_same.specs.Gives.{MatchesIfTold}
use Rattle.fib_same.specs.declared.compare.Difference.{Difference}
use Rattle.fib_same.specs.declared.compare.Found.{Found}

abbrev pub difference_as : Difference → TextDifference
difference_as d = record { text = d.text; addr = addr_as d.addr; first = option_map addr_as d.first; other = option_map addr_as d.other }

-- Whatever the texts hold: the answer is what comparing some tables comes to, which are those of the texts if these are known.
abbrev pub EndsCompared : Result Compared TextStop → Option Difference → Type 0
EndsCompared due answer = (t : Compared) × MatchesIfTold due (Ok t) × TellsDifference t (option_map difference_as answer)

-- ---- on the way

-- where a text differs, by its number among the others, from 0
abbrev pub text_difference_as : Found → ModelDifference
text_difference_as f = record { text = f.place; addr = addr_as f.differ.addr }

-- this is the one or the other
abbrev pub IsOneOf : Option Found → Option Found → Option Found → Type 0
IsOneOf result best next = (result ≡ best) ⊎ (result ≡ next)

-- the answers that were found are those of the first table and of the table of this number
abbrev pub AnswersOf : Entries → List Entries → Found → Type 0
AnswersOf first others f = (match_in first (addr_as f.differ.addr) ≡ f.differ.first.0) × (option_map (λ t. match_in t (addr_as f.differ.addr)) (slice_get others f.place) ≡ Some f.differ.second.0)

-- the least difference of these tables was found
abbrev pub Finds : Entries → List Entries → Option Found → Type 0
Finds first others best = (option_map text_difference_as best ≡ least_difference first others) × IfSome best (AnswersOf first others)

-- it is that of some tables, which are those of the texts if these are known
abbrev pub ComesFrom : (List ℕ → Option (List ℕ)) → Kind → Hops → Hops → List (List ℕ) → TableRuns → Option Found → Type 0
ComesFrom content kind before after names runs best =
    (t : Tables) × MatchesIfTold (texts_at content kind before.list 2 names) (Ok t) × (t.hops ≡ after.list) × ((first : Entries) → TellsBoth first runs → Finds first t.tables best)

-- where a text of this number differs
abbrev pub found_at : ℕ → Option Differ → Option Found
found_at place d = option_map (λ differ. record { place = place; differ = differ }) d

-- the number of the text fits
abbrev pub IsSmall : Option Found → Type 0
IsSmall best = IfSome best (λ f. f.place + 2 < 2 ^ 64)

-- what was found, with the addresses of its hops
abbrev pub found_of : List Address → Found → TextDifference
found_of hops f = record { text = f.place + 2; addr = addr_as f.differ.addr; first = hop_at hops f.differ.first.0; other = hop_at hops f.differ.second.0 }
