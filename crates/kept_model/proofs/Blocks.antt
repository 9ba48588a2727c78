-- Lists of changes with their events' numbers, event by event.
use Rattle.std.proofs.Common.{◌≡◌, ℕ, ◌<◌, List, [], ◌∷◌, ◌++◌, Option, Some, None, refl, sym, ap, subst, ◌∙◌, arith, append_assoc}
use Rattle.std.specs.Prelude.{◌⊎◌}
use Rattle.std.specs.List.{AllByRecursion}
use Rattle.std.specs.Option.{option_and_then}
use Rattle.std.proofs.lemmas.List.{map-append}
use Rattle.table_model.specs.Address.{Address, IsAddress}
use Rattle.table_model.specs.Entries.{Entries, match_in}
use Rattle.table_model.specs.Changes.{Change, after_change, after_changes}
use Rattle.kept_model.specs.Steady.{AnswerSteadily}
use Rattle.kept_model.specs.Feed.{at_event, changes_in}

abbrev pub Numbered : Type 0
Numbered = List (ℕ × Change)

-- what is done on the way through xs and ys, up to x
pub data Where (xs ys done : Numbered) (x : ℕ × Change) (left : Numbered) : Type 0 where
  within : (rest : Numbered) → xs ≡ done ++ (x ∷ rest) → left ≡ rest ++ ys → Where xs ys done x left
  past : (more : Numbered) → done ≡ xs ++ more → ys ≡ more ++ (x ∷ left) → Where xs ys done x left

pub place : (xs ys done : Numbered) (x : ℕ × Change) (left : Numbered) → xs ++ ys ≡ done ++ (x ∷ left) → Where xs ys done x left
place [] ys done x left e = past done refl e
place (z ∷ xs) ys [] x left e = let i : z ≡ x = cc in let j : xs ++ ys ≡ left = cc in within xs (ap (λ y. y ∷ xs) i) (sym j)
place (z ∷ xs) ys (d ∷ done) x left e = let i : z ≡ d = cc in let j : xs ++ ys ≡ done ++ (x ∷ left) = cc in by_case i (place xs ys done x left j)
  where
    by_case : z ≡ d → Where xs ys done x left → Where (z ∷ xs) ys (d ∷ done) x left
    by_case i (within rest a b) = within rest (ap (λ y. y ∷ xs) i ∙ ap (λ ws. d ∷ ws) a) b
    by_case i (past more a b) = past more (ap (λ y. y ∷ done) (sym i) ∙ ap (λ ws. z ∷ ws) a) b

pub in_at_event : (n : ℕ) (cs : List Change) → changes_in (at_event n cs) ≡ cs
in_at_event n [] = refl
in_at_event n (c ∷ cs) = ap (λ ds. c ∷ ds) (in_at_event n cs)

pub in_both : (xs ys : Numbered) → changes_in (xs ++ ys) ≡ changes_in xs ++ changes_in ys
in_both xs ys = map-append _ xs ys

number_of : (n m : ℕ) (c : Change) (cs : List Change) (done rest : Numbered) → at_event n cs ≡ done ++ ((m, c) ∷ rest) → m ≡ n
number_of n m c [] [] rest e = cc
number_of n m c [] (d ∷ done) rest e = cc
number_of n m c (x ∷ cs) [] rest e = let i : (m, c) ≡ (n, x) = cc in ap (λ (y : ℕ × Change). y.0) i
number_of n m c (x ∷ cs) (d ∷ done) rest e = let i : at_event n cs ≡ done ++ ((m, c) ∷ rest) = cc in number_of n m c cs done rest i

pub after_more : (cs ds : List Change) (L M : Entries) → after_changes cs L ≡ Some M → after_changes (cs ++ ds) L ≡ after_changes ds M
after_more [] ds L M e = let i : L ≡ M = cc in ap (after_changes ds) i
after_more (c ∷ cs) ds L M e = by_first (after_change c L) e (λ N. after_more cs ds N M)
  where
    by_first : (o : Option Entries) → option_and_then (after_changes cs) o ≡ Some M → ((N : Entries) → after_changes cs N ≡ Some M → after_changes (cs ++ ds) N ≡ after_changes ds M) → option_and_then (after_changes (cs ++ ds)) o ≡ after_changes ds M
    by_first None e ih = cc
    by_first (Some N) e ih = ih N e

-- what AnswerMeanwhile says, from the table T on
pub record AnswerFrom (changes : Numbered) (T : Entries) (before after : ℕ → Entries) : Type 0 where
  pub either : (done left : Numbered) (n : ℕ) (c : Change) (M : Entries) (a : Address) → changes ≡ done ++ ((n, c) ∷ left) → after_changes (changes_in (done ++ ((n, c) ∷ []))) T ≡ Some M → IsAddress a
      → (match_in M a ≡ match_in (before n) a) ⊎ (match_in M a ≡ match_in (after n) a)
  pub stays : (done more left : Numbered) (n : ℕ) (c d : Change) (M N : Entries) (a : Address) → changes ≡ done ++ ((n, c) ∷ (more ++ ((n, d) ∷ left))) → after_changes (changes_in (done ++ ((n, c) ∷ []))) T ≡ Some M
      → after_changes (changes_in (done ++ ((n, c) ∷ (more ++ ((n, d) ∷ []))))) T ≡ Some N → IsAddress a → match_in M a ≡ match_in (after n) a → match_in N a ≡ match_in (after n) a

pub no_blocks : (T : Entries) (before after : ℕ → Entries) → AnswerFrom [] T before after
no_blocks T before after = record { either = λ done left n c M a e. absurd (nothing done (n, c) left e); stays = λ done more left n c d M N a e. absurd (nothing done (n, c) (more ++ ((n, d) ∷ left)) e) }
  where
    nothing : (done : Numbered) (x : ℕ × Change) (left : Numbered) → [] ≡ done ++ (x ∷ left) → ⊥
    nothing [] x left e = cc
    nothing (d ∷ done) x left e = cc

-- a block of changes of event n before those of later events
module _ (before after : ℕ → Entries) (n : ℕ) (cs : List Change) (rest : Numbered) (T U : Entries) (sum : after_changes cs T ≡ Some U) (here : AnswerSteadily cs T (before n) (after n)) (more_from : AnswerFrom rest U before after) (later : AllByRecursion (λ x. n < x.0) rest) where
  fronts : (done left : Numbered) (x : ℕ × Change) → at_event n cs ≡ done ++ (x ∷ left) → cs ≡ changes_in (done ++ (x ∷ [])) ++ changes_in left
  fronts done left x e =
      sym (in_at_event n cs) ∙ (ap changes_in e ∙ (in_both done (x ∷ left) ∙ (sym (append_assoc (changes_in done) (x.1 ∷ []) (changes_in left)) ∙ ap (λ ds. ds ++ changes_in left) (sym (in_both done (x ∷ []))))))

  skipped : (more xs : Numbered) → after_changes (changes_in ((at_event n cs ++ more) ++ xs)) T ≡ after_changes (changes_in (more ++ xs)) U
  skipped more xs =
      ap (λ ds. after_changes (changes_in ds) T) (append_assoc (at_event n cs) more xs)
      ∙ (ap (λ ds. after_changes ds T) (in_both (at_event n cs) (more ++ xs) ∙ ap (λ ds. ds ++ changes_in (more ++ xs)) (in_at_event n cs)) ∙ after_more cs (changes_in (more ++ xs)) T U sum)

  first_either : (done left : Numbered) (m : ℕ) (c : Change) (M : Entries) (a : Address) → at_event n cs ++ rest ≡ done ++ ((m, c) ∷ left) → after_changes (changes_in (done ++ ((m, c) ∷ []))) T ≡ Some M → IsAddress a
      → (match_in M a ≡ match_in (before m) a) ⊎ (match_in M a ≡ match_in (after m) a)
  first_either done left m c M a e f x = by_place (place (at_event n cs) rest done (m, c) left e)
    where
      by_place : Where (at_event n cs) rest done (m, c) left → (match_in M a ≡ match_in (before m) a) ⊎ (match_in M a ≡ match_in (after m) a)
      by_place (within r i j) =
          let same : m ≡ n = number_of n m c cs done r i in
          subst (λ (k : ℕ). (match_in M a ≡ match_in (before k) a) ⊎ (match_in M a ≡ match_in (after k) a)) (sym same) (here.either (changes_in (done ++ ((m, c) ∷ []))) (changes_in r) M a (fronts done r (m, c) i) f x)
      by_place (past more i j) =
          more_from.either more left m c M a j (sym (ap (λ ds. after_changes (changes_in (ds ++ ((m, c) ∷ []))) T) i ∙ skipped more ((m, c) ∷ [])) ∙ f) x

  not_later : (ys : Numbered) (c : Change) (done left : Numbered) → AllByRecursion (λ x. n < x.0) ys → ys ≡ done ++ ((n, c) ∷ left) → ⊥
  not_later [] c [] left h e = cc
  not_later [] c (d ∷ done) left h e = cc
  not_later (y ∷ ys) c [] left h e = let i : y.0 ≡ n = cc in absurd (omega (arith, i, h.0))
  not_later (y ∷ ys) c (d ∷ done) left h e = let i : ys ≡ done ++ ((n, c) ∷ left) = cc in not_later ys c done left h.1 i

  first_stays : (done more left : Numbered) (m : ℕ) (c d : Change) (M N : Entries) (a : Address) → at_event n cs ++ rest ≡ done ++ ((m, c) ∷ (more ++ ((m, d) ∷ left))) → after_changes (changes_in (done ++ ((m, c) ∷ []))) T ≡ Some M
      → after_changes (changes_in (done ++ ((m, c) ∷ (more ++ ((m, d) ∷ []))))) T ≡ Some N → IsAddress a → match_in M a ≡ match_in (after m) a → match_in N a ≡ match_in (after m) a
  first_stays done more left m c d M N a e f g x s = by_place (place (at_event n cs) rest done (m, c) (more ++ ((m, d) ∷ left)) e)
    where
      inner : (r : Numbered) → m ≡ n → at_event n cs ≡ done ++ ((m, c) ∷ r) → Where r rest more (m, d) left → match_in N a ≡ match_in (after m) a
      inner r same i (within q k l) =
          let ds = changes_in (more ++ ((m, d) ∷ [])) in
          let whole : cs ≡ changes_in (done ++ ((m, c) ∷ [])) ++ (ds ++ changes_in q) =
          fronts done r (m, c) i ∙ ap (λ z. changes_in (done ++ ((m, c) ∷ [])) ++ z) (ap changes_in k ∙ (in_both more ((m, d) ∷ q) ∙ (sym (append_assoc (changes_in more) (d ∷ []) (changes_in q)) ∙ ap (λ z. z ++ changes_in q) (sym (in_both more ((m, d) ∷ [])))))) in
          let both : changes_in (done ++ ((m, c) ∷ (more ++ ((m, d) ∷ [])))) ≡ changes_in (done ++ ((m, c) ∷ [])) ++ ds =
          ap changes_in (sym (append_assoc done ((m, c) ∷ []) (more ++ ((m, d) ∷ [])))) ∙ in_both (done ++ ((m, c) ∷ [])) (more ++ ((m, d) ∷ [])) in
          subst (λ (k : ℕ). match_in N a ≡ match_in (after k) a) (sym same)
          (here.stays (changes_in (done ++ ((m, c) ∷ []))) ds (changes_in q) M N a whole f (sym (ap (λ z. after_changes z T) both) ∙ g) x (subst (λ (k : ℕ). match_in M a ≡ match_in (after k) a) same s))
      inner r same i (past q k l) =
          absurd (not_later rest d q left later (l ∙ ap (λ (k : ℕ). q ++ ((k, d) ∷ left)) same))

      by_place : Where (at_event n cs) rest done (m, c) (more ++ ((m, d) ∷ left)) → match_in N a ≡ match_in (after m) a
      by_place (within r i j) = inner r (number_of n m c cs done r i) i (place r rest more (m, d) left (sym j))
      by_place (past q i j) =
          more_from.stays q more left m c d M N a j (sym (ap (λ ds. after_changes (changes_in (ds ++ ((m, c) ∷ []))) T) i ∙ skipped q ((m, c) ∷ [])) ∙ f)
          (sym (ap (λ ds. after_changes (changes_in (ds ++ ((m, c) ∷ (more ++ ((m, d) ∷ []))))) T) i ∙ skipped q ((m, c) ∷ (more ++ ((m, d) ∷ [])))) ∙ g) x s

  pub block : AnswerFrom (at_event n cs ++ rest) T before after
  block = record { either = first_either; stays = first_stays }
