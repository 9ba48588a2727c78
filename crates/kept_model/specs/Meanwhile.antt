-- What a router answers while it makes the changes of a run one by one.
use Rattle.std.specs.Prelude.{◌≡◌, ℕ, zero, suc, ◌⊎◌, List, [], ◌∷◌, ◌++◌, Some, take}
use Rattle.table_model.specs.Address.{Address, IsAddress}
use Rattle.table_model.specs.Entries.{Entries, match_in}
use Rattle.table_model.specs.Changes.{Change, sum_of}
use Rattle.route_model.specs.Events.{Elem}
use Rattle.route_model.specs.Choice.{Candidates, after_elems}
use Rattle.kept_model.specs.Feed.{entries_of, changes_in}

-- the routes after the event of this number; event 0 is the load, which left these candidates
abbrev pub event_routes : List Address → Candidates → List Elem → ℕ → Entries
event_routes hops held elems n = entries_of hops (after_elems held (take n elems))

-- the routes before it; before the load there are none
abbrev pub earlier_routes : List Address → Candidates → List Elem → ℕ → Entries
earlier_routes hops held elems zero = []
earlier_routes hops held elems (suc n) = event_routes hops held elems n

-- Of a router that began with an empty table and made the first changes one by one, the last of them one of event n:
pub record AnswerMeanwhile (changes : List (ℕ × Change)) (before after : ℕ → Entries) : Type 0 where
  -- it sends each address where the routes before that event send it, or where those after it do
  pub either : (done left : List (ℕ × Change)) (n : ℕ) (c : Change) (M : Entries) (a : Address) → changes ≡ done ++ (n, c) ∷ left → sum_of (changes_in (done ++ (n, c) ∷ [])) ≡ Some M → IsAddress a
      → (match_in M a ≡ match_in (before n) a) ⊎ (match_in M a ≡ match_in (after n) a)
  -- and if it sends one as the latter do, it does so until the event's last change
  pub stays : (done more left : List (ℕ × Change)) (n : ℕ) (c d : Change) (M N : Entries) (a : Address) → changes ≡ done ++ (n, c) ∷ (more ++ (n, d) ∷ left) → sum_of (changes_in (done ++ (n, c) ∷ [])) ≡ Some M
      → sum_of (changes_in (done ++ (n, c) ∷ (more ++ (n, d) ∷ []))) ≡ Some N → IsAddress a → match_in M a ≡ match_in (after n) a → match_in N a ≡ match_in (after n) a
