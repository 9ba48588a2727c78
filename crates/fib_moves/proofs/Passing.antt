-- The pass down.
use Rattle.std.proofs.Common.{◌≡◌, ℕ, zero, suc, List, [], ◌∷◌, ◌++◌, Bool, true, false, cond, Option, Some, None, length, map, refl, sym, ap, subst, ◌∙◌, arith, append_assoc}
use Rattle.std.specs.Prelude.{Box, is_some, IfSome}
use Rattle.std.specs.Option.{option_to_list}
use Rattle.std.specs.declared.alloc.Global.{Global}
use Rattle.table_model.specs.Address.{Prefix}
use Rattle.table_model.specs.Halves.{half_at}
use Rattle.table_model.specs.Table.{Table, IsTable, root, half, here, inherit}
use Rattle.table_model.specs.Entries.{Entries, of_table}
use Rattle.table_model.specs.Regions.{lift, join}
use Rattle.table_model.specs.Sets.{side}
use Rattle.table_model.proofs.Join.{root_join, low_join, high_join, table_join}
use Rattle.table_model.proofs.Patch.{table_half, no_half}
use Rattle.table_model.proofs.Sets.{in_first, in_single}
use Rattle.kept_model.specs.Parts.{BothOrNeither, ArePart}
use Rattle.kept_model.proofs.Parting.{part_here, part_join}
use Rattle.fib_addr.specs.Views.{prefix_as, entry_as}
use Rattle.fib_addr.specs.declared.prefix.Prefix as code
use Rattle.orig_tree.specs.Spots.{Spot, spot_answers}
use Rattle.orig_tree.proofs.Telling as telling
use Rattle.ortc.proofs.Alike.{half_answers}
use Rattle.moves_model.specs.Sets.{Allowed, these, is_allowed, least_allowed, new_entry, inner_set, near_of}
use Rattle.moves_model.proofs.Allowed.{holds_new}
use Rattle.moves_model.proofs.Near.{set_hop}
use Rattle.moves_model.proofs.Keeps.{root_near}
use Rattle.moves_model.specs.Demands.{is_bare}
use Rattle.moves_model.proofs.Regions.{bare_half, inner_leaf, inner_alike}
use Rattle.fib_moves.specs.declared.needs.RegionNeeds.{RegionNeeds}
use Rattle.fib_moves.specs.declared.down.Differing.{Differing}
use Rattle.fib_moves.specs.Needs.{Knows, AreFound, half_needs}
use Rattle.fib_moves.specs.declared.allowed.AllowedHops.{AllowedHops}
use Rattle.fib_moves.specs.Passes.{EndsThere, ListsDiffering}
use Rattle.fib_moves.proofs.Parts.{found_bare, knows_back}

-- ---- the pass, by answers alike and by halves

pub near_alike : (d : ℕ) (f g : List Bool → ℕ) (T : Table) (h : ℕ) → ((a : List Bool) → length a ≡ d → f a ≡ g a) → near_of d f T h ≡ near_of d g T h
unfolding near_of
near_alike zero f g T h e = ap (λ S. join (new_entry S (root T) h) [] []) (inner_alike zero f g T e).0
near_alike (suc d) f g T h e =
    let o = new_entry (inner_set (suc d) g T) (root T) h in
    ap (λ S. join (new_entry S (root T) h) (near_of d (side false f) (half false T) (inherit (new_entry S (root T) h) h)) (near_of d (side true f) (half true T) (inherit (new_entry S (root T) h) h))) (inner_alike (suc d) f g T e).0
    ∙ (ap (λ A. join o A (near_of d (side true f) (half true T) (inherit o h))) (near_alike d (side false f) (side false g) (half false T) (inherit o h) (λ a l. e (false ∷ a) (ap suc l)))
    ∙ ap (λ B. join o (near_of d (side false g) (half false T) (inherit o h)) B) (near_alike d (side true f) (side true g) (half true T) (inherit o h) (λ a l. e (true ∷ a) (ap suc l))))

near_down : (b : Bool) (d : ℕ) (f : List Bool → ℕ) (T : Table) (h : ℕ) → near_of d (side b f) (half b T) (inherit (root (near_of (suc d) f T h)) h) ≡ half b (near_of (suc d) f T h)
unfolding near_of
near_down true d f T h =
    let o = new_entry (inner_set (suc d) f T) (root T) h in
    ap (λ x. near_of d (side true f) (half true T) (inherit x h)) (root_join o _ _) ∙ sym (high_join o _ _)
near_down false d f T h =
    let o = new_entry (inner_set (suc d) f T) (root T) h in
    ap (λ x. near_of d (side false f) (half false T) (inherit x h)) (root_join o _ _) ∙ sym (low_join o _ _)

-- ---- what is known of halves

pub knows_side : (d : ℕ) (f : List Bool → ℕ) (T : Table) (b : Bool) (s bare : Option (Box RegionNeeds Global)) → Knows (suc d) f T s → bare ≡ None → Knows d (side b f) (half b T) (half_needs b s bare)
knows_side d f T b None bare x e = subst (Knows d (side b f) (half b T)) (sym e) (ap is_bare (bare_half b T x))
knows_side d f T true (Some s) bare x e = x.4
knows_side d f T false (Some s) bare x e = x.3

pub knows_down : (s t : Spot) (b : Bool) (x y z : Option (Box RegionNeeds Global)) → suc t.bits ≡ s.bits → t.routes ≡ half b s.routes → t.entries ≡ half b s.entries → t.hop ≡ inherit (root s.routes) s.hop
    → Knows s.bits (spot_answers s) s.entries x → y ≡ None → z ≡ half_needs b x y → Knows t.bits (spot_answers t) t.entries z
knows_down s t b x y z n r l h k e i =
    knows_back s t b n r l h z
    (subst (Knows t.bits (side b (spot_answers s)) (half b s.entries)) (sym i) (knows_side t.bits (spot_answers s) s.entries b x y (subst (λ (d : ℕ). Knows d (spot_answers s) s.entries x) (sym n) k) e))

pub table_down : (s t : Spot) (b : Bool) → suc t.bits ≡ s.bits → t.entries ≡ half b s.entries → IsTable s.bits s.entries → IsTable t.bits t.entries
table_down s t b n l x = subst (λ (L : Table). IsTable t.bits L) (sym l) (table_half b t.bits s.entries (subst (λ (d : ℕ). IsTable d s.entries) (sym n) x))

-- ---- ends

end_zero : (f : List Bool → ℕ) (T : Table) → IsTable zero T → EndsThere zero f T
unfolding near_of
end_zero f T t true h = (no_half true T t.1, high_join (new_entry (inner_set zero f T) (root T) h) [] [])
end_zero f T t false h = (no_half false T t.1, low_join (new_entry (inner_set zero f T) (root T) h) [] [])

pub end_last : (n : ℕ) (f : List Bool → ℕ) (T : Table) → IsTable n T → n ≡ 0 → EndsThere n f T
end_last n f T t e = subst (λ (d : ℕ). EndsThere d f T) (sym e) (end_zero f T (subst (λ (d : ℕ). IsTable d T) e t))

-- where all get one hop, and it is inherited, nothing comes
none_entry : (S : Allowed) (x : ℕ) → S ≡ these (x ∷ []) → new_entry S None x ≡ None
none_entry S x e = ap (λ y. new_entry y None x) e ∙ ap (λ (b : Bool). cond b None (Some (least_allowed (these (x ∷ []))))) (in_first x x [] refl)

near_none : (d : ℕ) (f : List Bool → ℕ) (x : ℕ) → ((a : List Bool) → length a ≡ d → f a ≡ x) → near_of d f [] x ≡ []
unfolding near_of
near_none zero f x u = ap (λ o. join o [] []) (none_entry (inner_set zero f []) x (inner_leaf zero f [] x refl u).0)
near_none (suc d) f x u =
    ap (λ o. join o (near_of d (side false f) [] (inherit o x)) (near_of d (side true f) [] (inherit o x))) (none_entry (inner_set (suc d) f []) x (inner_leaf (suc d) f [] x refl u).0)
    ∙ (ap (λ L. join None L (near_of d (side true f) [] x)) (near_none d (side false f) x (λ a l. u (false ∷ a) (ap suc l))) ∙ ap (λ L. join None [] L) (near_none d (side true f) x (λ a l. u (true ∷ a) (ap suc l))))

gets_it : (d : ℕ) (f : List Bool → ℕ) (T : Table) (x h : ℕ) → is_bare T ≡ true → ((a : List Bool) → length a ≡ d → f a ≡ x) → inherit (new_entry (inner_set d f T) (root T) h) h ≡ x
gets_it d f T x h b u =
    sym (in_single x (inherit (new_entry (inner_set d f T) (root T) h) h)
    (ap (is_allowed (inherit (new_entry (inner_set d f T) (root T) h) h)) (sym (inner_leaf d f T x b u).0) ∙ holds_new (inner_set d f T) (root T) h (set_hop d f T)))

near_half : (b : Bool) (d : ℕ) (f : List Bool → ℕ) (T : Table) (h : ℕ) → half b (near_of (suc d) f T h) ≡ near_of d (side b f) (half b T) (inherit (new_entry (inner_set (suc d) f T) (root T) h) h)
unfolding near_of
near_half true d f T h = high_join (new_entry (inner_set (suc d) f T) (root T) h) _ _
near_half false d f T h = low_join (new_entry (inner_set (suc d) f T) (root T) h) _ _

end_more : (d : ℕ) (f : List Bool → ℕ) (T : Table) (x : ℕ) → is_bare T ≡ true → ((a : List Bool) → length a ≡ suc d → f a ≡ x) → EndsThere (suc d) f T
end_more d f T x n u b h = (
  bare_half b T n,
  near_half b d f T h ∙ (ap (λ L. near_of d (side b f) L (inherit (new_entry (inner_set (suc d) f T) (root T) h) h)) (bare_half b T n)
      ∙ (ap (near_of d (side b f) []) (gets_it (suc d) f T x h n u) ∙ near_none d (side b f) x (λ a l. u (b ∷ a) (ap suc l)))),
)

pub end_leaf : (d : ℕ) (f : List Bool → ℕ) (T : Table) (x : ℕ) → IsTable d T → is_bare T ≡ true → ((a : List Bool) → length a ≡ d → f a ≡ x) → EndsThere d f T
end_leaf zero f T x t n u = end_zero f T t
end_leaf (suc d) f T x t n u = end_more d f T x n u

pub end_some : (d : ℕ) (f : List Bool → ℕ) (T : Table) (s : Option AllowedHops) (o : Option ℕ) (b : Bool) → IsTable d T → AreFound d f T s → s ≡ None → IfSome o (λ h. (a : List Bool) → length a ≡ d → f a ≡ h) → is_some o ≡ b → b ≡ true → EndsThere d f T
end_some d f T s None b t k e u i j = let z : false ≡ true = i ∙ j in cc
end_some d f T s (Some x) b t k e u i j = end_leaf d f T x t (found_bare d f T s k e) u

-- ---- what is told

pub here_table : (d : ℕ) (o : Option ℕ) → IsTable d (here o)
here_table d None = (tt, tt)
here_table d (Some h) = ((tt, tt), (omega arith, tt))

own_both : (s : Spot) (g : ℕ) (had gets o n : Option ℕ) → had ≡ root s.entries → gets ≡ new_entry (inner_set s.bits (spot_answers s) s.entries) (root s.entries) g → BothOrNeither had gets o n
    → BothOrNeither (root s.entries) (root (near_of s.bits (spot_answers s) s.entries g)) o n
own_both s g had gets o n e f x =
    subst (λ (a : Option ℕ). BothOrNeither a (root (near_of s.bits (spot_answers s) s.entries g)) o n) e (subst (λ (b : Option ℕ). BothOrNeither had b o n) (f ∙ sym (root_near s.bits (spot_answers s) s.entries g)) x)

-- the new entry, from the old one as it was told
pub own_due : (s : Spot) (g : ℕ) (had gets : Option ℕ) → had ≡ root s.entries → gets ≡ new_entry (inner_set s.bits (spot_answers s) s.entries) had g → gets ≡ new_entry (inner_set s.bits (spot_answers s) s.entries) (root s.entries) g
own_due s g had gets e f = f ∙ ap (λ o. new_entry (inner_set s.bits (spot_answers s) s.entries) o g) e

-- a region with nothing below its prefix
pub pass_end : (s : Spot) (q : Prefix) (g : ℕ) (had gets o n : Option ℕ) (before after : Differing) → EndsThere s.bits (spot_answers s) s.entries → had ≡ root s.entries → gets ≡ new_entry (inner_set s.bits (spot_answers s) s.entries) (root s.entries) g → BothOrNeither had gets o n
    → map entry_as after.had.items ≡ map entry_as before.had.items ++ map (λ k. (q, k)) (option_to_list o) → map entry_as after.gets.items ≡ map entry_as before.gets.items ++ map (λ k. (q, k)) (option_to_list n) → ListsDiffering q s g before after
pass_end s q g had gets o n before after end e f x y z = record {
  had = here o;
  gets = here n;
  old = y ∙ ap (λ L. map entry_as before.had.items ++ L) (telling.told_own q o);
  new = z ∙ ap (λ L. map entry_as before.gets.items ++ L) (telling.told_own q n);
  had_table = here_table s.bits o;
  gets_table = here_table s.bits n;
  part = part_here s.entries (near_of s.bits (spot_answers s) s.entries g) o n (λ b. end b g) (own_both s g had gets o n e f x);
}

-- and one of two halves
three_lists : (p : Prefix) (q r : code.Prefix) (o : Option ℕ) (A B : Table) (X Y Z W : Entries) → prefix_as q ≡ half_at false p → prefix_as r ≡ half_at true p → Y ≡ X ++ map (λ k. (p, k)) (option_to_list o)
    → Z ≡ Y ++ of_table q.family (lift (prefix_as q).bits A) → W ≡ Z ++ of_table r.family (lift (prefix_as r).bits B) → W ≡ X ++ of_table p.family (lift p.bits (join o A B))
three_lists p q r o A B X Y Z W e f y z w =
    let m = p.family in
    let P = p.bits in
    let O = of_table m (lift P (here o)) in
    let C = of_table m (lift (P ++ (false ∷ [])) A) in
    let D = of_table m (lift (P ++ (true ∷ [])) B) in
    let z' : Z ≡ Y ++ C = z ∙ ap (λ (x : Prefix). Y ++ of_table x.family (lift x.bits A)) e in
    let w' : W ≡ Z ++ D = w ∙ ap (λ (x : Prefix). Z ++ of_table x.family (lift x.bits B)) f in
    let whole : of_table m (lift P (join o A B)) ≡ O ++ (C ++ D) =
    ap (of_table m) (telling.lift_join P o A B) ∙ (telling.seen_append m (lift P (here o)) (lift (P ++ (false ∷ [])) A ++ lift (P ++ (true ∷ [])) B)
    ∙ ap (λ x. O ++ x) (telling.seen_append m (lift (P ++ (false ∷ [])) A) (lift (P ++ (true ∷ [])) B)))
    in
    w' ∙ (ap (λ x. x ++ D) (z' ∙ ap (λ x. x ++ C) (y ∙ ap (λ x. X ++ x) (telling.told_own p o))) ∙ (append_assoc (X ++ O) C D ∙ (append_assoc X O (C ++ D) ∙ ap (λ x. X ++ x) (sym whole))))

half_part : (s t : Spot) (b : Bool) (g k : ℕ) (gets : Option ℕ) (O N : Table) → suc t.bits ≡ s.bits → t.routes ≡ half b s.routes → t.entries ≡ half b s.entries → t.hop ≡ inherit (root s.routes) s.hop
    → gets ≡ new_entry (inner_set s.bits (spot_answers s) s.entries) (root s.entries) g → k ≡ inherit gets g
    → ArePart t.entries (near_of t.bits (spot_answers t) t.entries k) O N → ArePart (half b s.entries) (half b (near_of s.bits (spot_answers s) s.entries g)) O N
half_part s t b g k gets O N n r l h f i x =
    let f' = spot_answers s in
    let L = s.entries in
    let told : near_of t.bits (spot_answers t) t.entries k ≡ half b (near_of s.bits f' L g) =
    near_alike t.bits (spot_answers t) (side b f') t.entries k (λ a u. half_answers s t b r h a)
    ∙ (ap (λ M. near_of t.bits (side b f') M k) l
    ∙ (ap (near_of t.bits (side b f') (half b L)) (i ∙ ap (λ (o : Option ℕ). inherit o g) (f ∙ sym (root_near s.bits f' L g)))
    ∙ subst (λ (d : ℕ). near_of t.bits (side b f') (half b L) (inherit (root (near_of d f' L g)) g) ≡ half b (near_of d f' L g)) n (near_down b t.bits f' L g)))
    in
    subst (λ (M : Table). ArePart M (half b (near_of s.bits f' L g)) O N) l (subst (λ (A : Table). ArePart t.entries A O N) told x)

module _ (p : Prefix) (q r : code.Prefix) (s low high : Spot) (g k : ℕ) (had gets o n : Option ℕ) (a b c d : Differing)
    (e : had ≡ root s.entries) (f : gets ≡ new_entry (inner_set s.bits (spot_answers s) s.entries) (root s.entries) g) (i : k ≡ inherit gets g) (x : BothOrNeither had gets o n)
    (y : map entry_as b.had.items ≡ map entry_as a.had.items ++ map (λ k. (p, k)) (option_to_list o)) (z : map entry_as b.gets.items ≡ map entry_as a.gets.items ++ map (λ k. (p, k)) (option_to_list n))
    (ln : suc low.bits ≡ s.bits) (lr : low.routes ≡ half false s.routes) (le : low.entries ≡ half false s.entries) (lh : low.hop ≡ inherit (root s.routes) s.hop)
    (hn : suc high.bits ≡ s.bits) (hr : high.routes ≡ half true s.routes) (he : high.entries ≡ half true s.entries) (hh : high.hop ≡ inherit (root s.routes) s.hop)
    (eq : prefix_as q ≡ half_at false p) (er : prefix_as r ≡ half_at true p) (v : ListsDiffering (prefix_as q) low k b c) (w : ListsDiffering (prefix_as r) high k c d) where
  pub pass_join : ListsDiffering p s g a d
  pass_join = record {
    had = join o v.had w.had;
    gets = join n v.gets w.gets;
    old = three_lists p q r o v.had w.had (map entry_as a.had.items) (map entry_as b.had.items) (map entry_as c.had.items) (map entry_as d.had.items) eq er y v.old w.old;
    new = three_lists p q r n v.gets w.gets (map entry_as a.gets.items) (map entry_as b.gets.items) (map entry_as c.gets.items) (map entry_as d.gets.items) eq er z v.new w.new;
    had_table = subst (λ (m : ℕ). IsTable m (join o v.had w.had)) ln (table_join o low.bits v.had w.had v.had_table (subst (λ (m : ℕ). IsTable m w.had) same w.had_table));
    gets_table = subst (λ (m : ℕ). IsTable m (join n v.gets w.gets)) ln (table_join n low.bits v.gets w.gets v.gets_table (subst (λ (m : ℕ). IsTable m w.gets) same w.gets_table));
    part = part_join s.entries (near_of s.bits (spot_answers s) s.entries g) o n v.had v.gets w.had w.gets (own_both s g had gets o n e f x) (half_part s low false g k gets v.had v.gets ln lr le lh f i v.part) (half_part s high true g k gets w.had w.gets hn hr he hh f i w.part);
  }
    where
      same : high.bits ≡ low.bits
      same = omega (arith, ln, hn)
