-- Cutting a table at its first bit, and joining it again.
use Rattle.std.proofs.Common.{◌≡◌, ℕ, suc, ◌+◌, ◌≤◌, List, [], ◌∷◌, Bool, true, false, not, cond, Option, Some, None, length, refl, ◌≢◌, ap, ◌∙◌, arith, inl, inr}
use Rattle.std.specs.List.{AllByRecursion, filter}
use Rattle.std.proofs.lemmas.Bool.{cond-true, cond-false, lt-ltb, le-ltb, cases_lt}
use Rattle.table_model.specs.Bits.{begins}
use Rattle.table_model.specs.Table.{Entry, Table, longer, longest, hop_or, containing, lpm, Distinct, root, inherit, half, here}

abbrev pub entry : List Bool → ℕ → Entry
entry p g = record { prefix = p; hop = g }

abbrev pub root_entry : Option ℕ → Option Entry
root_entry None = None
root_entry (Some g) = Some (entry [] g)

-- the longest entry, from the longest in the half
abbrev pub pushed : Bool → Option Entry → Option ℕ → Option Entry
pushed b None o = root_entry o
pushed b (Some e) o = Some (entry (b ∷ e.prefix) e.hop)

root_shorter : (b : Bool) (g : ℕ) (x : Option Entry) (o : Option ℕ) → Some (longer (entry [] g) (pushed b x o)) ≡ pushed b x (Some g)
root_shorter b g None None = refl
root_shorter b g None (Some k) = refl
root_shorter b g (Some f) o = ap Some (cond-true _ _ _ (lt-ltb 0 (suc (length f.prefix)) (omega arith)))

same_longer : (b : Bool) (p : List Bool) (g : ℕ) (x : Option Entry) (o : Option ℕ) → Some (longer (entry (b ∷ p) g) (pushed b x o)) ≡ pushed b (Some (longer (entry p g) x)) o
same_longer b p g None None = refl
same_longer b p g None (Some k) = ap Some (cond-false _ _ _ (le-ltb (suc (length p)) 0 (omega arith)))
same_longer b p g (Some f) o =
    elim (cases_lt (length p) (length f.prefix)) [
      | inl lt ↦ rw (cond-true _ f (entry p g) (lt-ltb (length p) (length f.prefix) lt)) (ap Some (cond-true _ _ _ (lt-ltb (suc (length p)) (suc (length f.prefix)) (omega arith))))
      | inr le ↦ rw (cond-false _ f (entry p g) (le-ltb (length p) (length f.prefix) le)) (ap Some (cond-false _ _ _ (le-ltb (suc (length p)) (suc (length f.prefix)) (omega arith))))
    ]

kept_alike : (b x : Bool) (p : List Bool) (g : ℕ) (M N : Table) (o : Option ℕ) → longest M ≡ pushed b (longest N) o → longest (cond x (entry (b ∷ p) g ∷ M) M) ≡ pushed b (longest (cond x (entry p g ∷ N) N)) o
kept_alike b true p g M N o ih = ap (λ y. Some (longer (entry (b ∷ p) g) y)) ih ∙ same_longer b p g (longest N) o
kept_alike b false p g M N o ih = ih

-- a test of prefixes that goes on in the half of first bit b
pub record GoesOn (b : Bool) (t u : List Bool → Bool) : Type 0 where
  pub at_nil : t [] ≡ true
  pub at_same : (p : List Bool) → t (b ∷ p) ≡ u p
  pub at_other : (p : List Bool) → t (not b ∷ p) ≡ false

abbrev pub passing : (List Bool → Bool) → Table → Table
passing t L = filter (λ e. t e.prefix) L

drops : (t : List Bool → Bool) (p : List Bool) (g : ℕ) (L : Table) → t p ≡ false → passing t (entry p g ∷ L) ≡ passing t L
drops t p g L e = cond-false _ _ _ e

half_step : (b : Bool) (t u : List Bool → Bool) (go : GoesOn b t u) (p : List Bool) (g : ℕ) (L : Table) → longest (passing t L) ≡ pushed b (longest (passing u (half b L))) (root L) → longest (passing t (entry p g ∷ L)) ≡ pushed b (longest (passing u (half b (entry p g ∷ L)))) (root (entry p g ∷ L))
half_step true t u go [] g L ih = ap longest (cond-true _ _ _ go.at_nil) ∙ (ap (λ y. Some (longer (entry [] g) y)) ih ∙ root_shorter true g (longest (passing u (half true L))) (root L))
half_step false t u go [] g L ih = ap longest (cond-true _ _ _ go.at_nil) ∙ (ap (λ y. Some (longer (entry [] g) y)) ih ∙ root_shorter false g (longest (passing u (half false L))) (root L))
half_step true t u go (true ∷ p) g L ih = ap (λ x. longest (cond x (entry (true ∷ p) g ∷ passing t L) (passing t L))) (go.at_same p) ∙ kept_alike true (u p) p g (passing t L) (passing u (half true L)) (root L) ih
half_step false t u go (false ∷ p) g L ih = ap (λ x. longest (cond x (entry (false ∷ p) g ∷ passing t L) (passing t L))) (go.at_same p) ∙ kept_alike false (u p) p g (passing t L) (passing u (half false L)) (root L) ih
half_step true t u go (false ∷ p) g L ih = ap longest (drops t (false ∷ p) g L (go.at_other p)) ∙ ih
half_step false t u go (true ∷ p) g L ih = ap longest (drops t (true ∷ p) g L (go.at_other p)) ∙ ih

pub longest_half : (b : Bool) (t u : List Bool → Bool) (go : GoesOn b t u) (L : Table) → longest (passing t L) ≡ pushed b (longest (passing u (half b L))) (root L)
longest_half true t u go [] = refl
longest_half false t u go [] = refl
longest_half b t u go (e ∷ L) = half_step b t u go e.prefix e.hop L (longest_half b t u go L)

begins_on : (b : Bool) (a : List Bool) → GoesOn b (λ p. begins p (b ∷ a)) (λ p. begins p a)
begins_on true a = record { at_nil = refl; at_same = λ p. refl; at_other = λ p. refl }
begins_on false a = record { at_nil = refl; at_same = λ p. refl; at_other = λ p. refl }

pub hop_pushed : (b : Bool) (x : Option Entry) (o : Option ℕ) (h : ℕ) → hop_or h (pushed b x o) ≡ hop_or (inherit o h) x
hop_pushed b None None h = refl
hop_pushed b None (Some g) h = refl
hop_pushed b (Some e) o h = refl

-- longest match goes on in the half of the first bit
pub lpm_cut : (L : Table) (b : Bool) (a : List Bool) (h : ℕ) → lpm L (b ∷ a) h ≡ lpm (half b L) a (inherit (root L) h)
lpm_cut L b a h = ap (hop_or h) (longest_half b _ _ (begins_on b a) L) ∙ hop_pushed b (longest (containing a (half b L))) (root L) h

root_first : (g : ℕ) (o : Option ℕ) → Some (longer (entry [] g) (root_entry o)) ≡ Some (entry [] g)
root_first g None = refl
root_first g (Some k) = refl

nil_step : (p : List Bool) (g : ℕ) (L : Table) → longest (containing [] L) ≡ root_entry (root L) → longest (containing [] (entry p g ∷ L)) ≡ root_entry (root (entry p g ∷ L))
nil_step [] g L ih = ap (λ y. Some (longer (entry [] g) y)) ih ∙ root_first g (root L)
nil_step (true ∷ p) g L ih = ih
nil_step (false ∷ p) g L ih = ih

longest_nil : (L : Table) → longest (containing [] L) ≡ root_entry (root L)
longest_nil [] = refl
longest_nil (e ∷ L) = nil_step e.prefix e.hop L (longest_nil L)

hop_root : (o : Option ℕ) (h : ℕ) → hop_or h (root_entry o) ≡ inherit o h
hop_root None h = refl
hop_root (Some g) h = refl

-- at the empty address only the entry at the root counts
pub lpm_nil : (L : Table) (h : ℕ) → lpm L [] h ≡ inherit (root L) h
lpm_nil L h = ap (hop_or h) (longest_nil L) ∙ hop_root (root L) h

parts_step : (p : List Bool) (g : ℕ) (L : Table) → length (here (root L)) + length (half false L) + length (half true L) ≤ length L → length (here (root (entry p g ∷ L))) + length (half false (entry p g ∷ L)) + length (half true (entry p g ∷ L)) ≤ suc (length L)
parts_step [] g L ih = omega arith
parts_step (true ∷ p) g L ih = omega arith
parts_step (false ∷ p) g L ih = omega arith

-- the root's entry and the halves are no more than the table
pub length_parts : (L : Table) → length (here (root L)) + length (half false L) + length (half true L) ≤ length L
length_parts [] = omega arith
length_parts (e ∷ L) = parts_step e.prefix e.hop L (length_parts L)

no_root : (L : Table) → AllByRecursion (λ f. [] ≢ f.prefix) L → root L ≡ None
no_root [] h = refl
no_root (e ∷ L) h = no_root_step e.prefix e.hop L h.0 (no_root L h.1)
  where
    no_root_step : (p : List Bool) (g : ℕ) (L : Table) → [] ≢ p → root L ≡ None → root (entry p g ∷ L) ≡ None
    no_root_step [] g L ne ih = absurd (ne refl)
    no_root_step (b ∷ p) g L ne ih = ih

exact_step : (p : List Bool) (g : ℕ) (L : Table) → AllByRecursion (λ f. p ≢ f.prefix) L → length L ≡ length (here (root L)) + length (half false L) + length (half true L) → suc (length L) ≡ length (here (root (entry p g ∷ L))) + length (half false (entry p g ∷ L)) + length (half true (entry p g ∷ L))
exact_step [] g L h ih = let e : length (here (root L)) ≡ 0 = ap (λ o. length (here o)) (no_root L h) in omega arith
exact_step (true ∷ p) g L h ih = omega arith
exact_step (false ∷ p) g L h ih = omega arith

-- a table is its entry at the root and its halves
pub length_cut : (L : Table) → Distinct L → length L ≡ length (here (root L)) + length (half false L) + length (half true L)
length_cut [] d = refl
length_cut (e ∷ L) d = exact_step e.prefix e.hop L d.0 (length_cut L d.1)
