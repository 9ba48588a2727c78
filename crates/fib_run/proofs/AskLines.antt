-- The lines of octets that come in parts.
use Rattle.std.proofs.Common.{◌≡◌, ℕ, ◌+◌, ◌<◌, List, [], ◌∷◌, ◌++◌, Bool, true, false, cond, length, take, drop, get_or, refl, sym, ap, ◌∙◌, arith, append_assoc, append-nil, add-one, get_or-drop, length-drop}
use Rattle.std.specs.Prelude.{◌==◌, ◌||◌, filter}
use Rattle.std.proofs.lemmas.Bool.{eqb-true}
use Rattle.std.proofs.lemmas.List.Elements.{All-from_get_or, filter-append}
use Rattle.std.proofs.lemmas.List.Folds.{list_any_none, list_any-append}
use Rattle.std.proofs.Math.Seq.{take-suc}
use Rattle.bstr.specs.Find.{NoneAfter, Nowhere, Passes, is_byte}
use Rattle.printed_text.specs.Texts.{in_front, lines_of}
use Rattle.fib_due.specs.Asks.{ended_lines, has_feed}
use Rattle.fib_run.specs.Asking.{AreEnded}

-- ---- octets up to a line feed

-- these octets and a line feed are lines, each with its line feed, whatever follows
record Feeds (front : List ℕ) : Type 0 where
  first : List ℕ
  others : List (List ℕ)
  apart : (rest : List ℕ) → lines_of (front ++ 10 ∷ rest) ≡ first ∷ (others ++ lines_of rest)
  fed : has_feed first ≡ true
  all_fed : filter has_feed others ≡ others

kept : (first : List ℕ) (others : List (List ℕ)) → has_feed first ≡ true → filter has_feed others ≡ others → filter has_feed (first ∷ others) ≡ first ∷ others
kept first others fed all_fed = ap (λ t. cond t (first ∷ filter has_feed others) (filter has_feed others)) fed ∙ ap (λ ls. first ∷ ls) all_fed

feeds : (front : List ℕ) → Feeds front
unfolding lines_of
feeds [] = record { first = 10 ∷ []; others = []; apart = λ rest. refl; fed = refl; all_fed = refl }
feeds (b ∷ front) = by_test (b == 10) refl (feeds front)
  where
    by_test : (t : Bool) → (b == 10) ≡ t → Feeds front → Feeds (b ∷ front)
    by_test true e f = record {
      first = b ∷ [];
      others = f.first ∷ f.others;
      apart = λ rest. ap (λ t. cond t ((b ∷ []) ∷ lines_of (front ++ 10 ∷ rest)) (in_front b (lines_of (front ++ 10 ∷ rest)))) e ∙ ap (λ ls. (b ∷ []) ∷ ls) (f.apart rest);
      fed = ap (λ t. t || false) e;
      all_fed = kept f.first f.others f.fed f.all_fed;
    }
    by_test false e f = record {
      first = b ∷ f.first;
      others = f.others;
      apart = λ rest. ap (λ t. cond t ((b ∷ []) ∷ lines_of (front ++ 10 ∷ rest)) (in_front b (lines_of (front ++ 10 ∷ rest)))) e ∙ ap (in_front b) (f.apart rest);
      fed = ap (λ t. t || has_feed f.first) e ∙ f.fed;
      all_fed = f.all_fed;
    }

pub ended_feed : (front : List ℕ) → AreEnded (front ++ 10 ∷ [])
unfolding lines_of
ended_feed front =
    let f = feeds front in
    let alone : lines_of (front ++ 10 ∷ []) ≡ f.first ∷ f.others = f.apart [] ∙ ap (λ ls. f.first ∷ ls) (append-nil f.others) in
    record {
      apart = λ more. ap lines_of (append_assoc front (10 ∷ []) more) ∙ (f.apart more ∙ ap (λ ls. ls ++ lines_of more) (sym alone));
      ended = ap (filter has_feed) alone ∙ (kept f.first f.others f.fed f.all_fed ∙ sym alone);
    }

pub ended_none : AreEnded []
unfolding lines_of
ended_none = record { apart = λ more. refl; ended = refl }

pub ended_both : (a b : List ℕ) → AreEnded a → AreEnded b → AreEnded (a ++ b)
ended_both a b x y = record {
  apart = λ more. ap lines_of (append_assoc a b more) ∙ (x.apart (b ++ more) ∙ (ap (λ ls. lines_of a ++ ls) (y.apart more) ∙ (sym (append_assoc (lines_of a) (lines_of b) (lines_of more)) ∙ ap (λ ls. ls ++ lines_of more) (sym (x.apart b)))));
  ended = ap (filter has_feed) (x.apart b) ∙ (filter-append has_feed (lines_of a) (lines_of b) ∙ (ap (λ ls. ls ++ filter has_feed (lines_of b)) x.ended ∙ (ap (λ ls. lines_of a ++ ls) y.ended ∙ sym (x.apart b))));
}

-- ---- octets without a line feed

left_false : (x y : Bool) → (x || y) ≡ false → x ≡ false
left_false false y e = refl
left_false true y e = absurd cc

right_false : (x y : Bool) → (x || y) ≡ false → y ≡ false
right_false false y e = e
right_false true y e = absurd cc

one_line : (b : ℕ) (held : List ℕ) → has_feed (b ∷ held) ≡ false → lines_of (b ∷ held) ≡ (b ∷ held) ∷ []
unfolding lines_of
one_line b [] e = ap (λ t. cond t ((b ∷ []) ∷ []) ((b ∷ []) ∷ [])) (left_false (b == 10) false e)
one_line b (c ∷ held) e =
    let rest : lines_of (c ∷ held) ≡ (c ∷ held) ∷ [] = one_line c held (right_false (b == 10) (has_feed (c ∷ held)) e) in
    ap (λ t. cond t ((b ∷ []) ∷ lines_of (c ∷ held)) (in_front b (lines_of (c ∷ held)))) (left_false (b == 10) (has_feed (c ∷ held)) e) ∙ ap (in_front b) rest

none_ended : (held : List ℕ) → has_feed held ≡ false → ended_lines held ≡ []
unfolding lines_of
none_ended [] e = refl
none_ended (b ∷ held) e = ap (filter has_feed) (one_line b held e) ∙ ap (λ t. cond t ((b ∷ held) ∷ []) []) e

-- the lines that have ended, where octets without a line feed follow them
pub ended_front : (front held : List ℕ) → AreEnded front → has_feed held ≡ false → ended_lines (front ++ held) ≡ lines_of front
ended_front front held x e =
    ap (filter has_feed) (x.apart held)
    ∙ (filter-append has_feed (lines_of front) (lines_of held)
    ∙ (ap (λ ls. ls ++ ended_lines held) x.ended ∙ (ap (λ ls. lines_of front ++ ls) (none_ended held e) ∙ append-nil (lines_of front))))

-- and where more follow them
pub ended_more : (front more : List ℕ) → AreEnded front → ended_lines (front ++ more) ≡ lines_of front ++ ended_lines more
ended_more front more x =
    ap (filter has_feed) (x.apart more)
    ∙ (filter-append has_feed (lines_of front) (lines_of more) ∙ ap (λ ls. ls ++ ended_lines more) x.ended)

-- ---- a piece without a line feed, and one with a last one

is_false : (t : Bool) → (t ≡ true → ⊥) → t ≡ false
is_false false n = refl
is_false true n = absurd (n refl)

lacks : (xs : List ℕ) → ((k : ℕ) → k < length xs → (get_or xs k 0 == 10) ≡ true → ⊥) → has_feed xs ≡ false
lacks xs none = list_any_none (λ b. b == 10) xs (All-from_get_or (λ b. (b == 10) ≡ false) xs 0 (λ k h. is_false (get_or xs k 0 == 10) (none k h)))

pub no_feed : (piece : List ℕ) → Nowhere (Passes (is_byte 10) piece) 0 (length piece) → has_feed piece ≡ false
no_feed piece nowhere = lacks piece (λ k h t. nowhere k (omega arith) h t)

pub no_feed_after : (piece : List ℕ) (last : ℕ) → NoneAfter (Passes (is_byte 10) piece) 0 (length piece) last → has_feed (drop (last + 1) piece) ≡ false
no_feed_after piece last n =
    lacks (drop (last + 1) piece) (λ k h t. n.after (last + 1 + k) (omega arith) (omega (arith, h, length-drop (last + 1) piece)) (sym (ap (λ b. b == 10) (get_or-drop (last + 1) piece k 0)) ∙ t))

pub held_more : (held piece : List ℕ) → has_feed held ≡ false → has_feed piece ≡ false → has_feed (held ++ piece) ≡ false
held_more held piece h p = list_any-append (λ b. b == 10) held piece ∙ (ap (λ t. t || has_feed piece) h ∙ p)

-- the front of a piece, with its last line feed, ends lines
pub ends_lines : (held piece : List ℕ) (last : ℕ) → last < length piece → (get_or piece last 0 == 10) ≡ true → AreEnded (held ++ take (last + 1) piece)
ends_lines held piece last h e =
    let cut : take (last + 1) piece ≡ take last piece ++ 10 ∷ [] = ap (λ k. take k piece) (add-one last) ∙ (take-suc piece last 0 h ∙ ap (λ b. take last piece ++ b ∷ []) (eqb-true (get_or piece last 0) 10 e)) in
    rw (cut, sym (append_assoc held (take last piece) (10 ∷ []))) (ended_feed (held ++ take last piece))
