-- Parts of tables, put together.
use Rattle.std.proofs.Common.{◌≡◌, ℕ, zero, List, [], ◌∷◌, Bool, true, false, Option, Some, None, refl, sym, ap, ◌∙◌, inl, inr}
use Rattle.table_model.specs.Table.{Table, IsTable, half, root, here, cut}
use Rattle.table_model.specs.Regions.{join, entry_at, SameEntries}
use Rattle.table_model.specs.Sets.{set_of, own, agg}
use Rattle.table_model.proofs.Join.{root_join, low_join, high_join}
use Rattle.table_model.proofs.Same.{cut_nil}
use Rattle.table_model.proofs.Patch.{no_half}
use Rattle.kept_model.specs.Parts.{BothOrNeither, ArePart, HasNoHalves}

none_at : (q : List Bool) → entry_at q [] ≡ None
none_at q = ap root (cut_nil q)

-- tables with the same entries need no part
pub part_none : (L A : Table) → SameEntries A L → ArePart L A [] []
part_none L A s q = inr (none_at q, none_at q, sym (s q))

root_here : (o : Option ℕ) → root (here o) ≡ o
root_here None = refl
root_here (Some h) = refl

half_here : (b : Bool) (o : Option ℕ) → half b (here o) ≡ []
half_here true None = refl
half_here false None = refl
half_here true (Some h) = refl
half_here false (Some h) = refl

alike : (a b c d a' b' c' d' : Option ℕ) → a ≡ a' → b ≡ b' → c ≡ c' → d ≡ d' → BothOrNeither a b c d → BothOrNeither a' b' c' d'
alike a b c d a' b' c' d' e f g h (inl x) = inl (sym g ∙ (x.0 ∙ e), sym h ∙ (x.1 ∙ f))
alike a b c d a' b' c' d' e f g h (inr x) = inr (sym g ∙ x.0, sym h ∙ x.1, sym e ∙ (x.2 ∙ f))

-- where there is nothing below the root
pub part_here : (L A : Table) (o n : Option ℕ) → ((b : Bool) → (half b L ≡ []) × (half b A ≡ [])) → BothOrNeither (root L) (root A) o n → ArePart L A (here o) (here n)
part_here L A o n e x [] = alike (root L) (root A) o n (root L) (root A) (root (here o)) (root (here n)) refl refl (sym (root_here o)) (sym (root_here n)) x
part_here L A o n e x (b ∷ q) =
    inr (ap (λ t. root (cut q t)) (half_here b o) ∙ none_at q, ap (λ t. root (cut q t)) (half_here b n) ∙ none_at q, ap (λ t. root (cut q t)) ((e b).0) ∙ ap (λ t. root (cut q t)) (sym ((e b).1)))

-- from the parts of the halves
pub part_join : (L A : Table) (o n : Option ℕ) (O N P Q : Table) → BothOrNeither (root L) (root A) o n → ArePart (half false L) (half false A) O N → ArePart (half true L) (half true A) P Q → ArePart L A (join o O P) (join n N Q)
part_join L A o n O N P Q x low high [] = alike (root L) (root A) o n (root L) (root A) (root (join o O P)) (root (join n N Q)) refl refl (sym (root_join o O P)) (sym (root_join n N Q)) x
part_join L A o n O N P Q x low high (false ∷ q) =
    alike (entry_at q (half false L)) (entry_at q (half false A)) (entry_at q O) (entry_at q N) (entry_at q (half false L)) (entry_at q (half false A)) (entry_at q (half false (join o O P))) (entry_at q (half false (join n N Q))) refl refl
    (ap (entry_at q) (sym (low_join o O P))) (ap (entry_at q) (sym (low_join n N Q))) (low q)
part_join L A o n O N P Q x low high (true ∷ q) =
    alike (entry_at q (half true L)) (entry_at q (half true A)) (entry_at q P) (entry_at q Q) (entry_at q (half true L)) (entry_at q (half true A)) (entry_at q (half true (join o O P))) (entry_at q (half true (join n N Q))) refl refl
    (ap (entry_at q) (sym (high_join o O P))) (ap (entry_at q) (sym (high_join n N Q))) (high q)

-- ---- ends

agg_no_bit : (f : List Bool → ℕ) (L : Table) (h : ℕ) (b : Bool) → half b (agg zero f L h) ≡ []
unfolding agg
agg_no_bit f L h true = high_join (own (set_of zero f) (root L) h) [] []
agg_no_bit f L h false = low_join (own (set_of zero f) (root L) h) [] []

pub end_no_bit : (f : List Bool → ℕ) (L : Table) → IsTable zero L → HasNoHalves zero f L
end_no_bit f L t b h = (no_half b L t.1, agg_no_bit f L h b)

pub end_bare : (d : ℕ) (f : List Bool → ℕ) (L : Table) → L ≡ [] → ((h : ℕ) → (o : Option ℕ) × (here o ≡ agg d f L h)) → HasNoHalves d f L
end_bare d f L e u b h = let x = u h in (ap (half b) e ∙ nothing b, ap (half b) (sym x.1) ∙ half_here b x.0)
  where
    nothing : (b : Bool) → half b [] ≡ []
    nothing b = refl
