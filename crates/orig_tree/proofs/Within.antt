-- What a tree has at a prefix, and within it.
use Rattle.std.proofs.Common.{◌≡◌, ◌≢◌, ℕ, suc, ◌+◌, ◌-◌, ◌<◌, ◌≤◌, List, [], ◌∷◌, ◌++◌, Bool, true, false, cond, Option, Some, None, length, refl, sym, ap, ◌∙◌, subst, arith}
use Rattle.std.specs.Prelude.{nat_eq, filter, ◌&&◌}
use Rattle.std.specs.Int.{bit_at}
use Rattle.std.specs.List.{AllByRecursion}
use Rattle.std.specs.Map.{lookup, keys_of}
use Rattle.table_model.specs.Bits.{bits_of, begins, same_bits}
use Rattle.table_model.specs.Width.{width}
use Rattle.table_model.specs.Address.{Prefix, same_family, same_prefix}
use Rattle.table_model.specs.declared.family.Family.{Family}
use Rattle.table_model.proofs.SamePrefix.{same_family_itself}
use Rattle.table_model.specs.Table.{Entry, Table, root, half, cut}
use Rattle.table_model.specs.Entries.{Entries, of_table}
use Rattle.table_model.proofs.Cut.{entry}
use Rattle.table_model.specs.Regions.{entry_at, lift}
use Rattle.table_model.proofs.Same.{cut_nil}
use Rattle.table_model.specs.Halves.{is_within}
use Rattle.fib_addr.specs.Views.{prefix_as}
use Rattle.fib_addr.specs.declared.prefix.Prefix as code
use Rattle.fib_addr.proofs.Parts.{length_prefix}
use Rattle.orig_tree.specs.Views.{FitsWidth}
use Rattle.orig_tree.specs.Arena.{cell_at, half_place, from_half, walks_at}
use Rattle.orig_tree.specs.declared.node.Node.{Node}
use Rattle.orig_tree.proofs.Branching.{half_rows}
use Rattle.orig_tree.proofs.Paths.{no_bits, first_bit}
use Rattle.orig_tree.proofs.Telling.{lift_none}
use Rattle.orig_tree.proofs.Asked.{short}

-- ---- a path's own entry

pub at_end : (L : Table) (left q : ℕ) (o : Option ℕ) → left ≡ 0 → o ≡ root L → o ≡ entry_at (bits_of left q) L
at_end L left q o e r = r ∙ sym (ap (λ p. entry_at p L) (no_bits left q e))

pub at_half : (L M : Table) (left q : ℕ) (b : Bool) (o : Option ℕ) → left ≢ 0 → b ≡ nat_eq (bit_at q (left - 1)) 1 → M ≡ half b L → o ≡ entry_at (bits_of (left - 1) q) M → o ≡ entry_at (bits_of left q) L
at_half L M left q b o n e m r = r ∙ (ap (entry_at (bits_of (left - 1) q)) m ∙ sym (ap (λ p. entry_at p L) (first_bit left q b n e)))

-- ---- what is within a path

pub cut_end : (L : Table) (left q : ℕ) → left ≡ 0 → cut (bits_of left q) L ≡ L
cut_end L left q e = ap (λ p. cut p L) (no_bits left q e)

pub cut_half : (L M : Table) (left q : ℕ) (b : Bool) → left ≢ 0 → b ≡ nat_eq (bit_at q (left - 1)) 1 → M ≡ half b L → cut (bits_of (left - 1) q) M ≡ cut (bits_of left q) L
cut_half L M left q b n e m = ap (cut (bits_of (left - 1) q)) m ∙ sym (ap (λ p. cut p L) (first_bit left q b n e))

-- ---- one level of the array

module _ (cells : List Node) (n : Node) (i left q : ℕ) (b : Bool) (o : Option ℕ) (at : n ≡ cell_at cells i) (half_is : o ≡ half_place n b) (z : left ≢ 0) (k : b ≡ nat_eq (bit_at q (left - 1)) 1) where
  pub route_step : (hop : Option ℕ) (d : ℕ) → ((e : ℕ) → left - 1 < e → hop ≡ entry_at (bits_of (left - 1) q) (from_half (walks_at e cells) o).routes) → left < d → hop ≡ entry_at (bits_of left q) (walks_at d cells i).routes
  route_step hop d below l =
      at_half (walks_at d cells i).routes (from_half (walks_at (d - 1) cells) o).routes left q b hop z k (half_rows b d cells i n o (λ e. omega arith) at half_is).0 (below (d - 1) (omega arith))

  pub cut_step : (d : ℕ) → left < d → cut (bits_of (left - 1) q) (from_half (walks_at (d - 1) cells) o).entries ≡ cut (bits_of left q) (walks_at d cells i).entries
  cut_step d l = cut_half (walks_at d cells i).entries (from_half (walks_at (d - 1) cells) o).entries left q b z k (half_rows b d cells i n o (λ e. omega arith) at half_is).1

pub no_route : (cells : List Node) (o : Option ℕ) (p : List Bool) (e : ℕ) → o ≡ None → None ≡ entry_at p (from_half (walks_at e cells) o).routes
no_route cells o p e h = sym (ap (λ u. entry_at p (from_half (walks_at e cells) u).routes) h ∙ ap root (cut_nil p))

pub no_part : (cells : List Node) (o : Option ℕ) (p : List Bool) (e : ℕ) → o ≡ None → cut p (from_half (walks_at e cells) o).entries ≡ []
no_part cells o p e h = ap (λ u. cut p (from_half (walks_at e cells) u).entries) h ∙ cut_nil p

-- ---- a family's entry at a prefix

own_step : (p q : List Bool) (h : ℕ) (L : Table) → entry_at p (entry q h ∷ L) ≡ cond (same_bits p q) (Some h) (entry_at p L)
unfolding same_bits
own_step [] [] h L = refl
own_step [] (b ∷ q) h L = refl
own_step (true ∷ p) [] h L = refl
own_step (false ∷ p) [] h L = refl
own_step (true ∷ p) (true ∷ q) h L = own_step p q h (half true L)
own_step (false ∷ p) (false ∷ q) h L = own_step p q h (half false L)
own_step (true ∷ p) (false ∷ q) h L = refl
own_step (false ∷ p) (true ∷ q) h L = refl

pub own_is : (f : Family) (p : List Bool) (L : Table) → entry_at p L ≡ lookup (same_prefix (record { family = f; bits = p })) (of_table f L)
own_is f p [] = ap root (cut_nil p)
own_is f p (e ∷ L) =
    own_step p e.prefix e.hop L ∙ (ap (λ b. cond b (Some e.hop) (entry_at p L)) (sym (ap (λ b. b && same_bits p e.prefix) (same_family_itself f)))
    ∙ ap (cond (same_family f f && same_bits p e.prefix) (Some e.hop)) (own_is f p L))

-- ---- a family's entries within a prefix

kept : (x : Bool) (b : Bool) (q : List Bool) (h : ℕ) (M : Table) → lift (b ∷ []) (cond x (entry q h ∷ M) M) ≡ cond x (entry (b ∷ q) h ∷ lift (b ∷ []) M) (lift (b ∷ []) M)
kept true b q h M = refl
kept false b q h M = refl

in_half : (b : Bool) (p : List Bool) (L : Table) → lift (b ∷ []) (filter (λ e. begins p e.prefix) (half b L)) ≡ filter (λ e. begins (b ∷ p) e.prefix) L
in_half b p [] = refl
in_half b p (e ∷ L) = step b e.prefix e.hop (in_half b p L)
  where
    step : (b : Bool) (q : List Bool) (h : ℕ) → lift (b ∷ []) (filter (λ e. begins p e.prefix) (half b L)) ≡ filter (λ e. begins (b ∷ p) e.prefix) L
        → lift (b ∷ []) (filter (λ e. begins p e.prefix) (half b (entry q h ∷ L))) ≡ filter (λ e. begins (b ∷ p) e.prefix) (entry q h ∷ L)
    step true [] h ih = ih
    step false [] h ih = ih
    step true (true ∷ q) h ih = kept (begins p q) true q h (filter (λ e. begins p e.prefix) (half true L)) ∙ ap (λ M. cond (begins p q) (entry (true ∷ q) h ∷ M) M) ih
    step false (false ∷ q) h ih = kept (begins p q) false q h (filter (λ e. begins p e.prefix) (half false L)) ∙ ap (λ M. cond (begins p q) (entry (false ∷ q) h ∷ M) M) ih
    step true (false ∷ q) h ih = ih
    step false (true ∷ q) h ih = ih

all_pass : (L : Table) → filter (λ (e : Entry). true) L ≡ L
all_pass [] = refl
all_pass (e ∷ L) = ap (λ M. e ∷ M) (all_pass L)

lift_both : (b : Bool) (p : List Bool) (L : Table) → lift (b ∷ p) L ≡ lift (b ∷ []) (lift p L)
lift_both b p [] = refl
lift_both b p (e ∷ L) = ap (λ M. entry (b ∷ (p ++ e.prefix)) e.hop ∷ M) (lift_both b p L)

part_is : (p : List Bool) (L : Table) → lift p (cut p L) ≡ filter (λ e. begins p e.prefix) L
part_is [] L = lift_none L ∙ sym (all_pass L)
part_is (b ∷ p) L = lift_both b p (cut p (half b L)) ∙ (ap (lift (b ∷ [])) (part_is p (half b L)) ∙ in_half b p L)

filtered : (f : Family) (p : List Bool) (L : Table) → of_table f (filter (λ e. begins p e.prefix) L) ≡ filter (λ e. is_within e.0 (record { family = f; bits = p })) (of_table f L)
filtered f p [] = refl
filtered f p (e ∷ L) = by_test (begins p e.prefix) (filtered f p L) ∙ ap (λ b. cond b (((let q : Prefix = record { family = f; bits = e.prefix } in q), e.hop) ∷ within) within) (sym (ap (λ b. b && begins p e.prefix) (same_family_itself f)))
  where
    within : Entries
    within = filter (λ d. is_within d.0 (record { family = f; bits = p })) (of_table f L)

    by_test : (b : Bool) → of_table f (filter (λ d. begins p d.prefix) L) ≡ within → of_table f (cond b (e ∷ filter (λ d. begins p d.prefix) L) (filter (λ d. begins p d.prefix) L)) ≡ cond b (((let q : Prefix = record { family = f; bits = e.prefix } in q), e.hop) ∷ within) within
    by_test true ih = ap (λ M. ((let q : Prefix = record { family = f; bits = e.prefix } in q), e.hop) ∷ M) ih
    by_test false ih = ih

pub within_is : (f : Family) (p : List Bool) (L : Table) → of_table f (lift p (cut p L)) ≡ filter (λ e. is_within e.0 (record { family = f; bits = p })) (of_table f L)
within_is f p L = ap (of_table f) (part_is p L) ∙ filtered f p L

-- ---- entries cut are shorter

fits_half_step : (b : Bool) (n : ℕ) (q : List Bool) (h : ℕ) (L : Table) → length q ≤ suc n → FitsWidth n (half b L) → FitsWidth n (half b (entry q h ∷ L))
fits_half_step true n [] h L s ih = ih
fits_half_step false n [] h L s ih = ih
fits_half_step true n (true ∷ q) h L s ih = (omega arith, ih)
fits_half_step false n (false ∷ q) h L s ih = (omega arith, ih)
fits_half_step true n (false ∷ q) h L s ih = ih
fits_half_step false n (true ∷ q) h L s ih = ih

fits_half : (b : Bool) (n : ℕ) (L : Table) → FitsWidth (suc n) L → FitsWidth n (half b L)
fits_half b n [] a = tt
fits_half b n (e ∷ L) a = fits_half_step b n e.prefix e.hop L a.0 (fits_half b n L a.1)

fits_cut : (p : List Bool) (m n : ℕ) (L : Table) → m ≡ length p + n → FitsWidth m L → FitsWidth n (cut p L)
fits_cut [] m n L e a = let s : m ≡ n = omega arith in subst (λ (k : ℕ). FitsWidth k L) s a
fits_cut (b ∷ p) m n L e a =
    let s : m ≡ suc (length p + n) = omega arith in
    fits_cut p (length p + n) n (half b L) refl (fits_half b (length p + n) L (subst (λ (k : ℕ). FitsWidth k L) s a))

pub fits_prefix : (p : code.Prefix) (f : Family) (q : List Bool) (L : Table) → p.family ≡ f → q ≡ (prefix_as p).bits → FitsWidth (width f) L → FitsWidth (width p.family - p.len) (cut q L)
fits_prefix p f q L e s a =
    let n : length q ≡ p.len = ap length s ∙ length_prefix (width p.family) p.len p.bits p.fits in
    let m : width f ≡ length q + (width p.family - p.len) = omega (arith, n, p.fits, ap width e) in
    fits_cut q (width f) (width p.family - p.len) L m a

-- ---- of a tree's tables

pub own_of : (p : code.Prefix) (f : Family) (q : List Bool) (L : Table) (E : Entries) (o : Option ℕ) → p.family ≡ f → q ≡ (prefix_as p).bits → of_table f L ≡ E → o ≡ entry_at q L → o ≡ lookup (same_prefix (prefix_as p)) E
own_of p f q L E o e s v a =
    a ∙ (ap (λ x. entry_at x L) s ∙ (own_is f (prefix_as p).bits L ∙ (ap (λ (g : Family). lookup (same_prefix (record { family = g; bits = (prefix_as p).bits })) (of_table f L)) (sym e) ∙ ap (lookup (same_prefix (prefix_as p))) v)))

pub told_within : (p : code.Prefix) (f : Family) (q : List Bool) (L : Table) (E C D : Entries) → p.family ≡ f → q ≡ (prefix_as p).bits → of_table f L ≡ E → C ≡ [] → D ≡ C ++ of_table p.family (lift (prefix_as p).bits (cut q L))
    → D ≡ filter (λ e. is_within e.0 (prefix_as p)) E
told_within p f q L E C D e s v n d =
    let b = (prefix_as p).bits in
    d ∙ (ap (λ (x : Entries). x ++ of_table p.family (lift b (cut q L))) n ∙ (ap (λ x. of_table p.family (lift b (cut x L))) s
    ∙ (within_is p.family b L ∙ (ap (λ (g : Family). filter (λ e. is_within e.0 (prefix_as p)) (of_table g L)) e ∙ ap (filter (λ e. is_within e.0 (prefix_as p))) v))))

-- ---- of one family

pub of_one_family : (f : Family) (L : Table) → AllByRecursion (λ (p : Prefix). p.family ≡ f) (keys_of (of_table f L))
of_one_family f [] = tt
of_one_family f (e ∷ L) = (refl, of_one_family f L)

-- a tree has levels enough for a prefix of its family
pub enough : (p : code.Prefix) (f : Family) → p.family ≡ f → p.len < suc (width f)
enough p f e = omega (arith, short p f e)

pub levels_left : (p : code.Prefix) (f : Family) → p.family ≡ f → p.len + (width p.family - p.len) < suc (width f)
levels_left p f e = omega (arith, p.fits, ap width e)
